use Rattle.std.proofs.Common.{◌≡◌, ◌∙◌, ◌++◌, ℕ, pos, List, FitsSigned, w64, ap, get_or, rules}
use Rattle.std.specs.Fmt.{signed_decimal}
use Rattle.std.proofs.lemmas.Int.{to_z-of_z}
use Rattle.bmesh_run.proofs.Listing.{first_listed, next_listed}
use Rattle.bmesh_run.proofs.write.layers.push_numbers.Goals as goal
use Rattle.bmesh_run.proofs.write.layers.push_numbers.Goals.{then-k-gt0+in_ok-push, else-k-gt0}

pub loop-k-preserved : goal.loop-k-preserved
loop-k-preserved c =
    let xs = c.args.numbers.now in
    let k = c.loop-k.k in
    let fits : FitsSigned w64 (get_or xs k (pos 0)) = search rules in
    let text = simp to_z-of_z at c.in_ok-text.ensures.ok in
    let made : c.extend_from_slice.new.self.items ≡ c.if-k-gt0.out.items ++ signed_decimal (get_or xs k (pos 0)) =
    c.in_ok-extend_from_slice.ensures.items
    ∙ ap (λ (t : List ℕ). c.if-k-gt0.out.items ++ t) (c.as_bytes.ensures.value ∙ text) in
    elim c.if-k-gt0.branch [
      | then-k-gt0+in_ok-push w ↦ next_listed xs k c.args.out.now.items c.loop-k.out.items w.push.new.self.items
          c.extend_from_slice.new.self.items c.loop-k-test.true w.if-k-gt0.true c.loop-k.invariant w.in_ok-push.ensures.items
          (made ∙ ap (λ v. v.items ++ signed_decimal (get_or xs k (pos 0))) w.out-is)
      | else-k-gt0 w ↦ first_listed xs k c.args.out.now.items c.loop-k.out.items c.extend_from_slice.new.self.items
          c.loop-k-test.true w.if-k-gt0.false c.loop-k.invariant
          (made ∙ ap (λ v. v.items ++ signed_decimal (get_or xs k (pos 0))) w.out-is)
    ]
