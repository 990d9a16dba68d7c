use Rattle.std.proofs.Common.{◌==◌, Bool, false, Option, sym, ap, ◌∙◌}
use Rattle.std.specs.Bool.{then_some}
use Rattle.std.specs.Option.{option_map_or, option_or}
use Rattle.std.proofs.lemmas.Bool.{false≢true}
use Rattle.raw_pool.specs.declared.pool.Slot.{Slot}
use Rattle.mesh_cycles.proofs.Leaders.{itself, is_found, compared, takes_own, began, next_walked, passed_more, passed_all}
use Rattle.mesh_cycles.proofs.leader.own_or_first.Goals as goal

pub returns-then-eq : goal.returns-then-eq
returns-then-eq g c = λ ls a.
    let l = c.in-Some.l in
    let walk = began g.I.Iterator.next_gives ls c.into_iter-l-iterator.result c.args.loops
    c.into_iter-l-iterator.ensures.into_iter_gives a in
    let is = is_found c.args.own l (sym (compared c.args.own l) ∙ sym c.eq.ensures ∙ c.if-eq.true) in
    is ∙ sym (takes_own c.args.st.now c.args.own ls c.args.f l
    (next_walked walk c.loop-l.yielded c.loop-l.l-iterator c.next.new.self l c.loop-l.yielded_by
    c.in-Some.ensures.steps) is)

pub loop_face-requires : goal.loop_face-requires
loop_face-requires g c =
    let live = c.requires.live in
    let walk = began g.I.Iterator.next_gives live.0 c.into_iter-l-iterator.result c.args.loops
    c.into_iter-l-iterator.ensures.into_iter_gives live.1 in
    live.2 c.in-Some.l (next_walked walk c.loop-l.yielded c.loop-l.l-iterator c.next.new.self c.in-Some.l
    c.loop-l.yielded_by c.in-Some.ensures.steps)

pub loop-l-preserved : goal.loop-l-preserved
loop-l-preserved g c =
    let own = c.args.own in
    let l = c.in-Some.l in
    let first = c.loop-l.first in
    record {
      ready = c.in-Some.ensures.goes.keeps;
      ends = (c.in-Some.ensures.goes.on c.loop-l.invariant.ends).1;
      passed =
          passed_more c.args.st.now own c.loop-l.yielded c.args.f first c.or-first.result l c.loop_face.result
          c.loop-l.invariant.passed
          (λ h. false≢true (sym c.if-eq.false ∙ c.eq.ensures ∙ compared own l
          ∙ ap (λ (o : Option Slot). option_map_or (λ (k : Slot). k.0 == l.0) o false) h ∙ itself l))
          c.loop_face.ensures (c.or-first.ensures
          ∙ ap (option_or first) (c.then_some-named.ensures
          ∙ ap (λ (b : Bool). then_some b l) c.eq-in-loop-l.ensures));
    }

pub returns : goal.returns
returns g c = λ ls a.
    let walk = began g.I.Iterator.next_gives ls c.into_iter-l-iterator.result c.args.loops
    c.into_iter-l-iterator.ensures.into_iter_gives a in
    passed_all walk c.loop-l.yielded c.loop-l.l-iterator c.next.new.self c.loop-l.yielded_by c.in-None.ensures.steps
    c.args.st.now c.args.own c.args.f c.loop-l.first c.loop-l.invariant.passed
