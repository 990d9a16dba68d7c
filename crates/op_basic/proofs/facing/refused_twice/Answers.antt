use Rattle.std.proofs.Common.{◌≡◌, ℕ, List, true, eqb, sym, ap, subst, ◌∙◌}
use Rattle.std.specs.List.{list_any}
use Rattle.mesh_model.specs.Naming.{is_rising}
use Rattle.mesh_core.specs.Seen.{now}
use Rattle.op_basic.specs.Searching.{first_double}
use Rattle.op_basic.proofs.FaceChecks.{twice_fails, twice_holds, distinct_sorted, rising_sorted, alike_sorted}
use Rattle.op_basic.proofs.facing.refused_twice.Goals as goal

pub refused_again-requires-clause-distinct : goal.refused_again-requires-clause-distinct
refused_again-requires-clause-distinct c =
    distinct_sorted (now c.args.mesh.now) c.args.verts.now c.in_ok-numbers.numbers.items c.in_ok-numbers.ensures.same
    c.in_ok-numbers.ensures.sorted c.requires.live
    (ap first_double (sym c.deref.ensures.value) ∙ sym c.first_double.ensures ∙ c.in-None.is)

pub refused_again-requires-clause-rising : goal.refused_again-requires-clause-rising
refused_again-requires-clause-rising c =
    subst (λ (ns : List ℕ). is_rising ns ≡ true) (sym c.deref-in-None.ensures.value)
    (rising_sorted (now c.args.mesh.now) c.args.verts.now c.in_ok-numbers.numbers.items c.in_ok-numbers.ensures.same
    c.in_ok-numbers.ensures.sorted c.requires.live
    (ap first_double (sym c.deref.ensures.value) ∙ sym c.first_double.ensures ∙ c.in-None.is))

pub refused_again-requires-clause-alike : goal.refused_again-requires-clause-alike
refused_again-requires-clause-alike c = λ n.
    ap (list_any (λ (m : ℕ). eqb m n)) c.deref-in-None.ensures.value
    ∙ alike_sorted (now c.args.mesh.now) c.args.verts.now c.in_ok-numbers.numbers.items c.in_ok-numbers.ensures.same
    c.in_ok-numbers.ensures.sorted c.requires.live n

pub returns-in-Some : goal.returns-in-Some
returns-in-Some c =
    twice_fails (now c.args.mesh.now) c.args.verts.now c.in_ok-numbers.numbers.items c.in_ok-numbers.ensures.same
    c.in_ok-numbers.ensures.sorted c.requires.live c.in-Some.n _
    (ap first_double (sym c.deref.ensures.value) ∙ sym c.first_double.ensures ∙ c.in-Some.is)

pub returns : goal.returns
returns c = c.in_ok-refusal-in-None.ensures
    ∙ twice_holds (now c.args.mesh.now) c.args.verts.now c.in_ok-numbers.numbers.items c.in_ok-numbers.ensures.same
    c.in_ok-numbers.ensures.sorted c.requires.live _
    (ap first_double (sym c.deref.ensures.value) ∙ sym c.first_double.ensures ∙ c.in-None.is)
