use Rattle.std.proofs.Common.{◌<◌, ◌-◌, ◌∙◌, ◌≡◌, length, get_or, take, min, ap, sym, arith}
use Rattle.std.proofs.lemmas.Grind.{pow_more}
use Rattle.text_words.specs.Text.{value}
use Rattle.text_words.proofs.NumberLemmas.{value_more, digit_within, capped_more}
use Rattle.text_words.proofs.numbers.capped_value.Goals as goal

pub loop-d-preserved : goal.loop-d-preserved
loop-d-preserved c =
    let ds = c.args.ds.now in
    let i = c.loop-d.d-index in
    let here : i < length ds = c.loop-d-test.true in
    let least : c.min-n.result ≡ min c.args.most c.saturating_add.result = c.min-n.ensures in
    let sum = c.saturating_add.ensures in
    let product = c.saturating_mul.ensures in
    record {
      told = capped_more c.args.most c.loop-d.n (value (take i ds)) (get_or ds i 0 - 48) c.min-n.result
          c.saturating_add.result c.saturating_mul.result c.ranges.most.fits c.loop-d.invariant.told product sum least
          ∙ ap (min c.args.most) (sym (value_more ds i here));
      small = omega (
        arith,
        pow_more 10 i,
        digit_within ds i c.requires here,
        c.loop-d.invariant.small,
        least,
        sum,
        product,
      );
    }
