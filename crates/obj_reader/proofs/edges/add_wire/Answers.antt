use Rattle.std.proofs.Common.{◌≡◌, ◌∙◌, ap, map, sym}
use Rattle.std.specs.List.{All}
use Rattle.mesh_model.specs.Making.{edges_along}
use Rattle.obj_reader.specs.Holding.{chain_sides}
use Rattle.obj_format.specs.Indices.{IsRead}
use Rattle.obj_reader.specs.Statements.{counts, limited, with_wire}
use Rattle.obj_reader.specs.Values.{wire_of}
use Rattle.obj_reader.proofs.ToldLemmas.{leaves_same, wire_told, chain_read}
use Rattle.obj_reader.proofs.edges.add_wire.Goals as goal

pub add_edges-requires : goal.add_edges-requires
add_edges-requires c =
    let s = c.args.parts.now in
    let ks = c.in_ok-corners.corners in
    let same : c.deref.result.now ≡ chain_sides ks =
    c.deref.ensures.value ∙ c.in_ok-sides.ensures ∙ ap chain_sides c.as_slice.ensures in
    let read : All (IsRead (counts s)) ks = rw c.counts.ensures at c.in_ok-corners.ensures.read in
    record {
      sides = rw same (chain_read 268435457 s ks c.requires read c.in_ok-corners.ensures.chain);
      sound = c.requires.sound;
    }

pub returns-clause-told : goal.returns-clause-told
returns-clause-told c =
    let s = c.args.parts.now in
    let ws = map (λ w. w.now) c.args.words.now in
    let ks = c.in_ok-corners.corners in
    let ss = c.deref.result.now in
    let same : c.deref.result.now ≡ chain_sides ks =
    c.deref.ensures.value ∙ c.in_ok-sides.ensures ∙ ap chain_sides c.as_slice.ensures in
    leaves_same c.add_edges.result c.add_edges.new.parts (with_wire ws s) (limited (edges_along s.draft ss).0 s)
    (wire_told ws s ks ss (ap (λ n. wire_of n ws) (sym c.counts.ensures) ∙ c.in_ok-corners.ensures.same) same)
    c.add_edges.ensures.told
