use Rattle.std.proofs.Common.{◌<◌, ◌∙◌, [], length, map, sym, rules}
use Rattle.script_text.specs.Rowed.{argument, arguments_of}
use Rattle.text_words.specs.Outcome.{StopsAs}
use Rattle.script_text.specs.Arguments.{nothing}
use Rattle.text_words.proofs.OutcomeLemmas.{steps_more, steps_stop, steps_all, steps-map, stops_same}
use Rattle.script_text.proofs.rowed.arguments_of.Goals as goal

pub loop-word-preserved : goal.loop-word-preserved
loop-word-preserved c =
    let here : c.loop-word.word-index < length c.args.words.now = c.loop-word-test.true in
    steps_more (λ w. argument c.args.row w.now) _ _ c.args.words.now c.loop-word.word-index
    (record { ref_ptr = (0, 0); now = [] }) _ here c.in_ok-argument.ensures c.loop-word.invariant

pub returns-in_err-argument : goal.returns-in_err-argument
returns-in_err-argument c =
    let here : c.loop-word.word-index < length c.args.words.now = c.loop-word-test.true in
    let stops : StopsAs c.in_err-argument.field-0.0 (arguments_of c.args.row (map (λ w. w.now) c.args.words.now)) =
    stops_same _ _ _ (steps-map (argument c.args.row) (λ w. w.now) nothing c.args.words.now)
    (steps_stop _ (λ w. argument c.args.row w.now) _ c.args.words.now c.loop-word.word-index
    (record { ref_ptr = (0, 0); now = [] }) _ here c.in_err-argument.ensures c.loop-word.invariant) in
    search rules

pub returns : goal.returns
returns c =
    steps-map (argument c.args.row) (λ w. w.now) nothing c.args.words.now ∙ sym c.loop-word.invariant
    ∙ steps_all (λ w. argument c.args.row w.now) c.loop-word.arguments c.args.words.now c.loop-word.word-index
    c.loop-word-test.false
