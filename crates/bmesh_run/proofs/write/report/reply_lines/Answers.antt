use Rattle.std.proofs.Common.{◌≡◌, ◌∙◌, ◌<◌, ◌++◌, List, [], ◌∷◌, ℕ, ap, sym, arith, length, take}
use Rattle.std.proofs.lemmas.List.{append-nil}
use Rattle.std.proofs.lemmas.Grind.{flat_map-append}
use Rattle.std.specs.List.{flat_map, zip}
use Rattle.std.specs.String.{string_bytes}
use Rattle.op_slots.specs.declared.command.Command.{Command}
use Rattle.mesh_session.specs.declared.reply.Reply.{Reply}
use Rattle.bmesh_run.specs.Report.{reply_line}
use Rattle.bmesh_run.proofs.Lines.{take-zip, all-zip}
use Rattle.bmesh_run.proofs.write.report.reply_lines.Goals as goal

pub loop-i-preserved : goal.loop-i-preserved
loop-i-preserved c =
    let f : Command × Reply → List ℕ = λ p. reply_line p.0.line p.1 in
    let less : c.loop-i.i < length c.args.replies.now = omega arith in
    let more = take-zip c.args.commands.now c.args.replies.now c.loop-i.i c.index-commands-i.result
    c.index-replies-i.result c.loop-i-test.true less c.index-commands-i.is c.index-replies-i.is in
    let x = c.index-commands-i.result in
    let y = c.index-replies-i.result in
    let so_far : List (Command × Reply) = take c.loop-i.i (zip c.args.commands.now c.args.replies.now) in
    let pushed : string_bytes c.push_str.new.self ≡ string_bytes c.loop-i.text ++ f (x, y) =
    c.in_ok-push_str.ensures.bytes ∙ ap (λ (t : List ℕ). string_bytes c.loop-i.text ++ t) (c.as_str.ensures.value
    ∙ c.in_ok-line.ensures) in
    pushed ∙ ap (λ (t : List ℕ). t ++ f (x, y)) c.loop-i.invariant
    ∙ sym (ap (flat_map f) more ∙ flat_map-append f so_far ((x, y) ∷ [])
    ∙ ap (λ (t : List ℕ). flat_map f so_far ++ t) (append-nil (f (x, y))))

pub returns : goal.returns
returns c = c.loop-i.invariant
    ∙ ap (flat_map (λ (p : Command × Reply). reply_line p.0.line p.1))
    (all-zip c.args.commands.now c.args.replies.now c.loop-i.i c.loop-i-test.false)
