use Rattle.std.proofs.Common.{rules, sym, ap, ◌∙◌}
use Rattle.std.specs.List.{list_any}
use Rattle.mesh_cycles.specs.Found.{loops_in}
use Rattle.mesh_cycles.specs.Left.{loops_in_left}
use Rattle.mesh_cycles.proofs.Mapped.{next_taken}
use Rattle.mesh_model.specs.declared.names.VertName.{VertName}
use Rattle.mesh_model.specs.declared.names.EdgeName.{EdgeName}
use Rattle.mesh_model.specs.Table.{passes}
use Rattle.mesh_model.specs.Incidence.{has_end}
use Rattle.mesh_records.specs.ReadOff.{edge_at}
use Rattle.mesh_records.proofs.Elements.{loop_is_at}
use Rattle.mesh_records.proofs.Walks.{next_live}
use Rattle.mesh_core.proofs.Losing.{any_here, any_ahead, along_edge_at}
use Rattle.mesh_core.proofs.conditions.has_edge_at.Goals as goal

pub loop-l-init : goal.loop-l-init
loop-l-init c =
    let all = ap loops_in_left c.into_iter-l-iterator.ensures.into_iter_gives
    ∙ c.corners_of_face-l-items.ensures.items in
    record {
      ready = search rules;
      seen = all;
      ahead = sym (ap (list_any (along_edge_at c.args.st.now c.args.v)) all);
    }

pub corner_at-requires-clause-live : goal.corner_at-requires-clause-live
corner_at-requires-clause-live c = loop_is_at c.args.st.now c.in-Some.l.0 (next_live c.args.st.now c.requires.cycles
    c.args.f.0 c.loop-l.yielded (loops_in_left c.loop-l.l-iterator) (loops_in_left c.next.new.self) c.in-Some.l
    c.loop-l.invariant.seen c.in-Some.ensures.steps)

pub loop-l-preserved : goal.loop-l-preserved
loop-l-preserved c =
    let st = c.args.st.now in
    let inv = c.loop-l.invariant in
    let off = ap (λ (p : VertName × EdgeName). passes (has_end c.args.v) (edge_at st p.1.0)) (sym c.corner_at.ensures)
    ∙ sym c.ends_at.ensures ∙ c.if-ends_at.false in
    record {
      ready = c.in-Some.ensures.goes.keeps;
      seen = next_taken (loops_in st c.args.f.0) c.loop-l.yielded (loops_in_left c.loop-l.l-iterator)
          (loops_in_left c.next.new.self) c.in-Some.l inv.seen c.in-Some.ensures.steps;
      ahead = inv.ahead ∙ any_ahead (along_edge_at st c.args.v) (loops_in_left c.loop-l.l-iterator)
          (loops_in_left c.next.new.self) c.in-Some.l c.in-Some.ensures.steps off;
    }

pub returns-then-ends_at : goal.returns-then-ends_at
returns-then-ends_at c =
    let st = c.args.st.now in
    let on = ap (λ (p : VertName × EdgeName). passes (has_end c.args.v) (edge_at st p.1.0)) (sym c.corner_at.ensures)
    ∙ sym c.ends_at.ensures ∙ c.if-ends_at.true in
    sym (c.loop-l.invariant.ahead ∙ any_here (along_edge_at st c.args.v) (loops_in_left c.loop-l.l-iterator)
    (loops_in_left c.next.new.self) c.in-Some.l c.in-Some.ensures.steps on)

pub returns : goal.returns
returns c =
    sym (c.loop-l.invariant.ahead ∙ ap (list_any (along_edge_at c.args.st.now c.args.v)) c.in-None.ensures.steps.0)
