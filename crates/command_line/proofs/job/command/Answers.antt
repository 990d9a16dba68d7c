use Rattle.std.proofs.Common.{ap, ap₂, true, codes, ◌≡◌, ◌∙◌}
use Rattle.std.proofs.lemmas.Result.{IfOk-weaker}
use Rattle.clap.specs.Words.{App, app_of, with_rule}
use Rattle.clap.specs.Simple.{app_of_fields}
use Rattle.command_line.specs.Job.{bare, name}
use Rattle.command_line.proofs.job.command.Goals as goal

pub returns : goal.returns
returns c =
    let bare_is : app_of c.no_binary_name-bare.result ≡ bare = ap app_of_fields c.no_binary_name-bare.ensures
    ∙ ap (λ (a : App). record a { top = record a.top { no_binary_name = true } }) c.new.ensures.app in
    let one = with_rule bare (name (codes "MODEL")) in
    let two = with_rule one (name (codes "SCRIPT")) in
    let three = with_rule two (name (codes "OUT")) in
    let models_are : app_of c.in_ok-models.models ≡ one =
    c.in_ok-models.ensures.shape c.name.ensures.local ∙ ap₂ with_rule bare_is c.name.ensures.rule in
    let scripts_are : app_of c.in_ok-scripts.scripts ≡ two =
    c.in_ok-scripts.ensures.shape c.name-2.ensures.local ∙ ap₂ with_rule models_are c.name-2.ensures.rule in
    let outs_are : app_of c.in_ok-outs.outs ≡ three =
    c.in_ok-outs.ensures.shape c.name-3.ensures.local ∙ ap₂ with_rule scripts_are c.name-3.ensures.rule in
    IfOk-weaker c.arg-4.result _ _
    (λ r added. added.shape c.scale.ensures.local ∙ ap₂ with_rule outs_are c.scale.ensures.rule) c.arg-4.ensures
