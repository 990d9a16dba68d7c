use Rattle.std.proofs.Common.{◌≡◌, ◌∙◌, ap, ap₂, map, sym, List}
use Rattle.std.specs.List.{All}
use Rattle.mesh_model.specs.Making.{with_face_told}
use Rattle.obj_format.specs.declared.indices.Corner.{Corner}
use Rattle.obj_format.specs.declared.texture.Uv.{Uv}
use Rattle.obj_format.specs.Indices.{IsRead}
use Rattle.obj_reader.specs.Statements.{counts, told, limited, with_ring}
use Rattle.obj_reader.specs.Values.{ring_of}
use Rattle.obj_reader.proofs.ToldLemmas.{leaves_same, ring_told, polygon_told}
use Rattle.obj_reader.proofs.faces.add_ring.Goals as goal

pub add_polygon-requires : goal.add_polygon-requires
add_polygon-requires c =
    let s = c.args.parts.now in
    let ks = c.in_ok-corners.corners in
    let same : c.deref.result.now ≡ map (told s.textures) ks =
    c.deref.ensures.value ∙ c.in_ok-told.ensures
    ∙ ap₂ (λ (tx : List Uv) (js : List Corner). map (told tx) js) c.as_slice.ensures c.as_slice-2.ensures in
    let read : All (IsRead (counts s)) ks = rw c.counts.ensures at c.in_ok-corners.ensures.read in
    record {
      polygon = rw same (polygon_told 268435457 s ks c.requires read c.in_ok-corners.ensures.ring);
      parts = c.requires;
    }

pub returns-clause-told : goal.returns-clause-told
returns-clause-told c =
    let s = c.args.parts.now in
    let ws = map (λ w. w.now) c.args.words.now in
    let ks = c.in_ok-corners.corners in
    let ds = c.deref.result.now in
    let same : c.deref.result.now ≡ map (told s.textures) ks =
    c.deref.ensures.value ∙ c.in_ok-told.ensures
    ∙ ap₂ (λ (tx : List Uv) (js : List Corner). map (told tx) js) c.as_slice.ensures c.as_slice-2.ensures in
    leaves_same c.add_polygon.result c.add_polygon.new.parts (with_ring ws s)
    (limited (with_face_told s.draft ds s.material s.smooth) s)
    (ring_told ws s ks ds (ap (λ n. ring_of n ws) (sym c.counts.ensures) ∙ c.in_ok-corners.ensures.same) same)
    c.add_polygon.ensures.told
