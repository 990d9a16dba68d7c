use Rattle.std.proofs.Common.{◌<◌, ◌∙◌, [], length, map, ap, sym}
use Rattle.std.proofs.lemmas.List.{length-map, get_or-map, take-map}
use Rattle.obj_format.specs.Lines.{is_hash_first}
use Rattle.obj_reader.proofs.WordLemmas.{words_more, words_stop, words_all}
use Rattle.obj_reader.proofs.values.uncommented.Goals as goal

pub returns-then-is_hash_first : goal.returns-then-is_hash_first
returns-then-is_hash_first c =
    let ws = map (λ w. w.now) c.args.words.now in
    let here : c.loop-k.k < length c.args.words.now = c.loop-k-test.true in
    let at = get_or-map (λ w. w.now) c.args.words.now c.loop-k.k (record { ref_ptr = (0, 0); now = [] }) [] here in
    sym (take-map (λ w. w.now) c.loop-k.k c.args.words.now)
    ∙ words_stop ws c.loop-k.k _ (rw length-map here) (ap is_hash_first at ∙ sym c.is_hash_first.ensures
    ∙ c.if-is_hash_first.true) c.loop-k.invariant

pub loop-k-preserved : goal.loop-k-preserved
loop-k-preserved c =
    let ws = map (λ w. w.now) c.args.words.now in
    let here : c.loop-k.k < length c.args.words.now = c.loop-k-test.true in
    let at = get_or-map (λ w. w.now) c.args.words.now c.loop-k.k (record { ref_ptr = (0, 0); now = [] }) [] here in
    words_more ws c.loop-k.k _ (rw length-map here) (ap is_hash_first at ∙ sym c.is_hash_first.ensures
    ∙ c.if-is_hash_first.false) c.loop-k.invariant

pub returns : goal.returns
returns c = words_all (map (λ w. w.now) c.args.words.now) c.loop-k.k _ (rw length-map c.loop-k-test.false)
    c.loop-k.invariant
