use Rattle.std.proofs.Common.{◌≡◌, ◌++◌, ◌∙◌, ℕ, List, OnOk, sym, subst}
use Rattle.obj_writer.proofs.WritingLemmas.{vert_told, vert_gone, no_piece}
use Rattle.obj_writer.proofs.vert_lines.push_entry.Goals as goal

pub returns-then-not-has : goal.returns-then-not-has
returns-then-not-has g c = no_piece c.args.out.now.items _
    (vert_gone c.args.scale _ (sym c.has.ensures ∙ c.if-not-has.true))

pub returns : goal.returns
returns g c =
    subst (λ (t : List ℕ). OnOk c.push_vert.result (c.push_vert.new.out.items ≡ c.args.out.now.items ++ t))
    (vert_told c.args.scale _ _ c.point.ensures) c.push_vert.ensures
