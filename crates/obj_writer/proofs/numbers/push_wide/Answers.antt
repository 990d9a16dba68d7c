use Rattle.std.proofs.Common.{◌≡◌, ◌++◌, ◌∙◌, ◌-◌, ℕ, List, length, take, codes, ap, arith}
use Rattle.obj_writer.proofs.WritingLemmas.{then}
use Rattle.obj_writer.proofs.NumberLemmas.{wide_told}
use Rattle.obj_writer.proofs.numbers.push_wide.Goals as goal

pub returns : goal.returns
returns c =
    let digits = c.format-digits.result.now in
    let zeros : List ℕ = take c.saturating_sub-zeros.result (codes "000000") in
    let few : c.saturating_sub-zeros.result ≡ c.args.width - length digits = omega arith in
    then c.args.out.now.items c.extend_from_slice.new.self.items c.extend_from_slice-2.new.self.items zeros digits
    c.in_ok-extend_from_slice.ensures.items
    (c.in_ok-extend_from_slice-2.ensures.items
    ∙ ap (λ t. c.extend_from_slice.new.self.items ++ t) c.as_bytes.ensures.value)
    ∙ ap (λ t. c.args.out.now.items ++ t) (wide_told c.args.width c.args.n digits zeros c.requires
    c.format-digits.ensures.text
    (ap (λ (k : ℕ). take k (codes "000000")) few))
