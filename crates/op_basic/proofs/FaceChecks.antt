-- The conditions of making a face, by what the searches find.
use Rattle.std.proofs.Common.{◌≡◌, ℕ, suc, ◌+◌, ◌<◌, Bool, true, eqb, List, ◌∷◌, length, map, get_or, sym, ap}
use Rattle.std.proofs.Common.{◌∙◌, subst, arith, Option, Some, None, All}
use Rattle.std.specs.Option.{option_map}
use Rattle.std.specs.Ordering.{nat_cmp}
use Rattle.std.specs.List.{list_any}
use Rattle.std.specs.List.Sorted.{IsSorted, IsPermutation}
use Rattle.std.proofs.lemmas.List.Elements.{All-map}
use Rattle.std.proofs.lemmas.List.Kept.{AllPairs-from_increasing}
use Rattle.std.proofs.lemmas.List.Sorted.{All-permutation, list_any-IsPermutation}
use Rattle.mesh_model.specs.Table.{IsThere}
use Rattle.mesh_model.specs.Complex.{Complex}
use Rattle.mesh_model.specs.Lookups.{least_face}
use Rattle.mesh_model.specs.Naming.{is_rising, vert_numbers}
use Rattle.mesh_model.specs.Refusals.{first_of, refused_at}
use Rattle.mesh_model.specs.Valid.{are_distinct}
use Rattle.mesh_model.specs.declared.names.VertName.{VertName}
use Rattle.mesh_model.specs.declared.names.FaceName.{FaceName}
use Rattle.mesh_model.specs.declared.names.Elem.TheVariants.{Vert, Face}
use Rattle.mesh_model.specs.declared.records.FaceRec.{FaceRec}
use Rattle.mesh_model.specs.declared.refusal.Refusal.{Refusal}
use Rattle.mesh_model.specs.declared.refusal.Why.TheVariants.{Repeated, Exists}
use Rattle.mesh_model.specs.declared.refusal.Place.TheVariants.{Elem as AtElem}
use Rattle.mesh_model.proofs.Polygons.{distinct-from}
use Rattle.mesh_model.proofs.Tables.{there-below}
use Rattle.mesh_passes.proofs.Conditions.{fails, holds}
use Rattle.mesh_passes.proofs.NameLists.{increasing_rises}
use Rattle.op_basic.specs.Making.{has_just, least_repeated}
use Rattle.op_basic.specs.Searching.{first_double}
use Rattle.op_basic.proofs.Doubles.{repeated_sorted, rises}
use Rattle.op_basic.proofs.MadeFaces.{apart}
use Rattle.op_basic.proofs.Searched.{just_alike}

abbrev vert : ℕ → VertName
vert n = record { 0 = n }

abbrev AreLiveVerts : Complex → List VertName → Type 0
AreLiveVerts c vs = All (λ (v : VertName). IsThere c.verts v.0) vs

module _ (c : Complex) (vs : List VertName) (ns : List ℕ) (same : IsPermutation (vert_numbers vs) ns)
    (sorted : IsSorted nat_cmp ns) (live : AreLiveVerts c vs) where
  below : All (λ (n : ℕ). n < length c.verts) ns
  below = All-permutation (λ (n : ℕ). n < length c.verts) (vert_numbers vs) ns same
      (All-map (λ (n : ℕ). n < length c.verts) (λ (v : VertName). v.0) vs
      (λ i d less. there-below c.verts (get_or vs i d).0 (live i d less)))

  found : least_repeated c vs ≡ option_map vert (first_double ns)
  found = repeated_sorted c vs ns same sorted (λ k d less. below k d less)

  pub twice_fails : (n : ℕ) (rest : List (Option Refusal)) → first_double ns ≡ Some n
      → Some (record { why = Repeated; place = AtElem (Vert (vert n)) })
      ≡ first_of (refused_at Repeated (option_map Vert (least_repeated c vs)) ∷ rest)
  twice_fails n rest is = fails (refused_at Repeated (option_map Vert (least_repeated c vs)))
      (record { why = Repeated; place = AtElem (Vert (vert n)) }) rest
      (ap (λ (o : Option VertName). refused_at Repeated (option_map Vert o)) (found ∙ ap (option_map vert) is))

  pub twice_holds : (rest : List (Option Refusal)) → first_double ns ≡ None
      → first_of rest ≡ first_of (refused_at Repeated (option_map Vert (least_repeated c vs)) ∷ rest)
  twice_holds rest is = holds (refused_at Repeated (option_map Vert (least_repeated c vs))) rest
      (ap (λ (o : Option VertName). refused_at Repeated (option_map Vert o)) (found ∙ ap (option_map vert) is))

  pub distinct_sorted : first_double ns ≡ None → are_distinct vs ≡ true
  distinct_sorted is = distinct-from vs (apart c vs (found ∙ ap (option_map vert) is)
      (λ i d less. there-below c.verts (get_or vs i d).0 (live i d less)))

  pub rising_sorted : first_double ns ≡ None → is_rising ns ≡ true
  rising_sorted is = increasing_rises ns (AllPairs-from_increasing ns (λ k less.
      let next : suc k ≡ k + 1 = omega arith in
      subst (λ (j : ℕ). get_or ns k 0 < get_or ns j 0) next (rises ns sorted is k 0 (omega arith))))

  pub alike_sorted : (n : ℕ) → list_any (λ (m : ℕ). eqb m n) ns ≡ list_any (λ (m : ℕ). eqb m n) (vert_numbers vs)
  alike_sorted n = sym (list_any-IsPermutation (λ (m : ℕ). eqb m n) (vert_numbers vs) ns same)

-- the faces with just some vertices, by their numbers
pub least_alike : (c : Complex) (vs : List VertName) (ns : List ℕ)
    → ((n : ℕ) → list_any (λ (m : ℕ). eqb m n) ns ≡ list_any (λ (m : ℕ). eqb m n) (vert_numbers vs))
    → least_face (has_just (map vert ns)) c ≡ least_face (has_just vs) c
least_alike c vs ns alike =
    let one : (f : FaceRec) → has_just (map vert ns) f ≡ has_just vs f = λ f. just_alike vs ns (Some f) alike in
    ap (λ (test : FaceRec → Bool). least_face test c) (λ z f. one f z)

pub again_fails : (o : Option FaceName) (f : FaceName) (rest : List (Option Refusal)) → o ≡ Some f
    → Some (record { why = Exists; place = AtElem (Face f) }) ≡ first_of (refused_at Exists (option_map Face o) ∷ rest)
again_fails o f rest is = fails (refused_at Exists (option_map Face o))
    (record { why = Exists; place = AtElem (Face f) }) rest
    (ap (λ (p : Option FaceName). refused_at Exists (option_map Face p)) is)

pub again_holds : (o : Option FaceName) (rest : List (Option Refusal)) → o ≡ None
    → first_of rest ≡ first_of (refused_at Exists (option_map Face o) ∷ rest)
again_holds o rest is = holds (refused_at Exists (option_map Face o)) rest
    (ap (λ (p : Option FaceName). refused_at Exists (option_map Face p)) is)
