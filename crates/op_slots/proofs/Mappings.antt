-- Mappings, whose sources are distinct.
use Rattle.std.proofs.Common.{◌≡◌, true, false, List, [], ◌∷◌, ◌++◌, refl, sym, ap, ◌∙◌, true≢false}
use Rattle.std.proofs.lemmas.Bool.{or_cases}
use Rattle.std.proofs.Common.{inl, inr, eqb}
use Rattle.mesh_model.specs.Elements.{is_among}
use Rattle.mesh_model.specs.Valid.{are_distinct}
use Rattle.op_slots.specs.Mapping.{sources}
use Rattle.op_slots.specs.declared.mapping.Pair.{Pair}
use Rattle.mesh_model.proofs.Distinct.{is_among-same, distinct-join}

sources-append : (ps : List Pair) (p : Pair) → sources (ps ++ p ∷ []) ≡ sources ps ++ p.source ∷ []
sources-append [] p = refl
sources-append (q ∷ ps) p = ap (λ vs. q.source ∷ vs) (sources-append ps p)

-- one pair more, whose source is new
pub distinct_more : (ps : List Pair) (p : Pair) → are_distinct (sources ps) ≡ true
    → is_among (sources ps) p.source ≡ false → are_distinct (sources (ps ++ p ∷ [])) ≡ true
distinct_more ps p distinct apart =
    ap are_distinct (sources-append ps p)
    ∙ distinct-join (sources ps) (p.source ∷ []) distinct refl
    (λ u in_sources here. elim (or_cases (eqb p.source.0 u.0) false here) [
      | inl same ↦ true≢false (sym in_sources ∙ sym (is_among-same (sources ps) p.source u same) ∙ apart)
      | inr never ↦ true≢false (sym never)
    ])
