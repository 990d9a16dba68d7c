use Rattle.std.proofs.Common.{◌≡◌, ℕ, ℤ, List, Some, pos, length, get_or, refl, sym, ap, ◌∙◌, arith, rules, FitsSigned, w64}
use Rattle.std.specs.Prelude.{slice_get}
use borrow.Author.Count.{below_more}
use Rattle.std.proofs.lemmas.Option.{slice_get-get_or, same_Some}
use Rattle.std.proofs.lemmas.Int.{to_z-of_z}
use Rattle.mesh_trail.proofs.Copies.{same_below}
use Rattle.mesh_trail.proofs.rows.same_row.Goals as goal

pub loop-k-preserved : goal.loop-k-preserved
loop-k-preserved g c =
    let kept : List ℤ = c.args.kept.now in
    let vals : List ℤ = g.R.Row.vals c.args.row.now in
    let was : FitsSigned w64 (get_or kept c.loop-k.k (pos 0)) = search rules in
    let now : FitsSigned w64 c.value.result = search rules in
    let tells = simp to_z-of_z at c.same_number.ensures in
    below_more (λ (j : ℕ). slice_get kept j ≡ slice_get vals j) c.loop-k.k c.loop-k.invariant
    (slice_get-get_or kept c.loop-k.k (pos 0) c.loop-k-test.true
    ∙ ap (λ (x : ℤ). Some x) (tells.0 c.if-not-same_number.false) ∙ sym c.value.ensures)

pub returns-then-not-same_number : goal.returns-then-not-same_number
returns-then-not-same_number g c =
    let kept : List ℤ = c.args.kept.now in
    let vals : List ℤ = g.R.Row.vals c.args.row.now in
    let was : FitsSigned w64 (get_or kept c.loop-k.k (pos 0)) = search rules in
    let now : FitsSigned w64 c.value.result = search rules in
    let tells = simp to_z-of_z at c.same_number.ensures in (
      λ e. absurd (cc),
      λ is. sym c.if-not-same_number.true ∙ tells.1 (same_Some (get_or kept c.loop-k.k (pos 0)) c.value.result
          (sym (slice_get-get_or kept c.loop-k.k (pos 0) c.loop-k-test.true)
          ∙ ap (λ (xs : List ℤ). slice_get xs c.loop-k.k) is ∙ c.value.ensures)),
    )

pub returns : goal.returns
returns g c =
    let kept : List ℤ = c.args.kept.now in
    let vals : List ℤ = g.R.Row.vals c.args.row.now in (
      λ e. same_below kept vals (length kept) refl (sym c.requires)
          (λ i less. c.loop-k.invariant i (omega (arith, less))),
      λ is. refl,
    )
