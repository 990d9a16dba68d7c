use Rattle.std.proofs.Common.{ℕ, ◌*◌, ◌/◌, ◌%◌, ◌<◌, ◌^◌, length, ap, arith, rules, bit_and}
use Rattle.std.specs.Int.Bits.{and_lt}
use Rattle.raw_pool.proofs.Bits.{scan_start, scan_found, read_is}
use Rattle.raw_pool.proofs.tags.Tags.first_from.Goals as goal

pub loop-word-init : goal.loop-word-init
loop-word-init c =
    let ws = c.args.self.now.words.items in let v = c.index.result.now in let mask =
    18446744073709551615 * 2 ^ (c.args.low % 64) % 18446744073709551616 in
    let all = c.args.self.now.words.ok.0 in let l = c.len.ensures in let i = c.if-index-len.false in
    let within : c.args.low / 64 < length ws = omega arith in
    let fits : v < 2 ^ 64 = search rules in
    record {
      scan = scan_start ws c.args.low (bit_and v mask) within (and_lt 64 v mask fits (omega arith))
          (ap (λ (u : ℕ). bit_and u mask) (read_is ws (c.args.low / 64) v within c.index.ensures));
      near = omega arith;
    }

pub returns : goal.returns
returns c = scan_found c.args.self.now.words.items c.args.low c.loop-word.index c.loop-word.word
    c.loop-word.invariant.scan c.loop-word-test.false
