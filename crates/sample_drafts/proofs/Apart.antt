-- Corners at distinct vertices, one by one.
use Rattle.std.proofs.Common.{◌≡◌, ◌==◌, ◌||◌, Bool, true, false, List, [], ◌∷◌, map, refl, ap, ◌∙◌}
use Rattle.std.specs.List.{list_any}
use Rattle.mesh_model.specs.Elements.{is_among}
use Rattle.mesh_model.specs.Valid.{are_distinct}
use Rattle.mesh_model.specs.declared.draft.DraftCorner.{DraftCorner}
use Rattle.mesh_model.specs.declared.names.VertName.{VertName}
use Rattle.mesh_model.proofs.Distinct.{distinct-cons}

-- the vertices of corners
abbrev pub verts_of : List DraftCorner → List VertName
verts_of ks = map (λ (k : DraftCorner). k.vert) ks

-- a vertex is among those of corners
among-verts : (ks : List DraftCorner) (v : VertName)
    → is_among (verts_of ks) v ≡ list_any (λ (k : DraftCorner). k.vert.0 == v.0) ks
among-verts [] v = refl
among-verts (k ∷ ks) v = ap (λ (b : Bool). (k.vert.0 == v.0) || b) (among-verts ks v)

-- a corner before distinct ones whose vertex none of them has
pub apart_first : (ks behind : List DraftCorner) (first : DraftCorner) → ks ≡ first ∷ behind
    → list_any (λ (k : DraftCorner). k.vert.0 == first.vert.0) behind ≡ false
    → are_distinct (verts_of behind) ≡ true → are_distinct (verts_of ks) ≡ true
apart_first ks behind first split out rest =
    rw split (distinct-cons first.vert (verts_of behind) (among-verts behind first.vert ∙ out) rest)
