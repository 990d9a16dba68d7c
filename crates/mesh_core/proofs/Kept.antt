-- The rule of a mesh is kept.
use Rattle.std.proofs.Common.{◌≡◌, Option, Some, None, sym, ap, ◌∙◌, subst}
use Rattle.std.proofs.lemmas.Option.{same_Some}
use Rattle.cust_data.specs.Layers.{total}
use Rattle.mesh_trail.specs.Pasts.{ByKind, widths_of}
use Rattle.std.specs.Prelude.{IfSome}
use Rattle.mesh_store.specs.Stored.{Stored}
use Rattle.mesh_model.specs.Complex.{Complex, KindLayers}
use Rattle.mesh_model.specs.declared.records.Counters.{Counters}
use Rattle.mesh_records.specs.Places.{KeepsPlaces, CanBecome}
use Rattle.mesh_records.specs.ReadOff.{NameLists, layers_in}
use Rattle.mesh_records.specs.Room.{Amounts}
use Rattle.mesh_records.specs.Whole.{IsWhole}
use Rattle.mesh_records.proofs.Places.{becomes_still}
use Rattle.mesh_core.specs.Seen.{Seen, IsMesh}

back_kept : (used : Amounts) (old new : Stored) (lists : NameLists) (base : Option Complex) → KeepsPlaces used old new
    → layers_in new ≡ layers_in old → IfSome base (CanBecome old lists) → IfSome base (CanBecome new lists)
back_kept used old new lists None k layers h = h
back_kept used old new lists (Some c) k layers h = becomes_still used old new lists c k layers h

-- where places and layers stay
pub mesh_kept : {old new : Stored} {n m : Counters} {lists : NameLists} {base : Option Complex} (used : Amounts)
    → IsMesh old n lists base → IsWhole new m → KeepsPlaces used old new → layers_in new ≡ layers_in old
    → IsMesh new m lists base
mesh_kept {old} {new} {n} {m} {lists} {base} used h w keeps layers = record {
  whole = w;
  back = back_kept used old new lists base keeps layers h.back;
}

-- places are kept, as they are seen
pub places_seen : {old new : Stored} (used : Amounts) (was : Seen) → old ≡ was.stored → KeepsPlaces used old new
    → KeepsPlaces used was.stored new
places_seen {old} {new} used was e k = let P = λ (st : Stored). KeepsPlaces used st new in subst P e k

-- what is kept can be put back
pub kept_becomes : {st : Stored} {lists : NameLists} (base : Option Complex) (b : Complex)
    → IfSome base (CanBecome st lists) → base ≡ Some b → CanBecome st lists b
kept_becomes None b h e = absurd (let q : None ≡ Some b = e in cc)
kept_becomes {st} {lists} (Some c) b h e =
    let P = λ (x : Complex). CanBecome st lists x in
    subst P (same_Some c b e) h

-- its rows of values are as wide
pub widths_same : (st : Stored) (lists : NameLists) (b c : Complex) → CanBecome st lists b → layers_in st ≡ c.layers
    → widths_of b ≡ widths_of c
widths_same st lists b c h layers =
    let W = λ (ls : KindLayers). let w : ByKind = record {
      verts = total ls.verts;
      edges = total ls.edges;
      corners = total ls.corners;
      faces = total ls.faces;
    } in w in
    ap W (sym h.takes.layers ∙ layers)
