use Rattle.std.proofs.Common.{◌≡◌, ◌∙◌, ◌<◌, ◌≤◌, ◌≢◌, ◌+ℤ◌, ℕ, pos, length, get_or, sym, ap, arith, map, min}
use Rattle.std.specs.List.{zip}
use Rattle.std.proofs.lemmas.List.{take_all, get_or-set_other}
use Rattle.std.proofs.lemmas.Slice.Zip.{length-zip}
use Rattle.layer_sums.proofs.Bounds.{added_is, added_more}
use Rattle.layer_sums.proofs.adding.add_row.Goals as goal

pub loop-k-preserved : goal.loop-k-preserved
loop-k-preserved c =
    let old = c.args.sums.now in
    let row = c.args.row.now in
    let k = c.loop-k.k in
    let less : k < length row = c.loop-k-test.true in
    let here = c.loop-k.invariant.rest k (omega arith) in
    let far = c.requires.room k (pos 0) (omega (arith, c.requires.wide)) in
    let near = c.requires.small k (pos 0) less in
    record {
      added = added_more old row c.loop-k.sums k _ c.requires.wide c.loop-k.auto.sums less c.loop-k.invariant.added
          (added_is (get_or c.loop-k.sums k (pos 0)) (get_or row k (pos 0)) (rw here far) near
          ∙ ap (λ x. x +ℤ get_or row k (pos 0)) here);
      rest = λ j past. let other : j ≢ k = omega arith in
          get_or-set_other c.loop-k.sums k j _ (pos 0) other ∙ c.loop-k.invariant.rest j (omega arith);
    }

pub returns : goal.returns
returns c =
    let old = c.args.sums.now in
    let row = c.args.row.now in
    let k = c.loop-k.k in
    let both = length-zip old row in
    sym (take_all k c.loop-k.sums (omega (arith, c.loop-k-test.false, c.requires.wide, c.loop-k.auto.sums)))
    ∙ c.loop-k.invariant.added
    ∙ ap (map (λ p. p.0 +ℤ p.1)) (take_all k (zip old row) (omega (arith, c.loop-k-test.false, c.requires.wide)))
