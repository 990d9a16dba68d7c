use Rattle.std.proofs.Common.{◌≡◌, ◌∙◌, ◌&&◌, ℕ, Bool, Option, None, true, false, is_some, ap, sym, arith, length, ◌<◌}
use Rattle.std.proofs.Common.{◌≤◌}
use Rattle.std.specs.List.{count_by}
use Rattle.mesh_model.specs.Incidence.{is_loose}
use Rattle.mesh_model.specs.declared.records.EdgeRec.{EdgeRec}
use Rattle.bmesh_run.proofs.Lines.{count-enumerate, all-enumerate}
use Rattle.bmesh_run.proofs.write.report.loose_count.Goals as goal
use Rattle.bmesh_run.proofs.write.report.loose_count.Goals.{then-is_wire, else-is_wire}

pub loop-n-preserved : goal.loop-n-preserved
loop-n-preserved g c =
    let shape = g.S.Shape.complex c.args.shape.now in
    let p : ℕ × Option EdgeRec → Bool = λ e. is_some e.1 && is_loose shape (record { 0 = e.0 }) in
    let end : c.counters-n-end.result.edges ≡ length shape.edges =
    ap (λ k. k.edges) c.counters-n-end.ensures.counters in
    let less : c.loop-n.n < length shape.edges = rw (← end) c.loop-n-test.true in
    elim c.if-is_wire.branch [
      | then-is_wire w ↦ record {
        told = w.count-is ∙ count-enumerate p shape.edges c.loop-n.n c.loop-n.count None true less
            (sym c.is_wire.ensures ∙ w.if-is_wire.true) c.loop-n.invariant.told;
        few = omega arith;
      }
      | else-is_wire w ↦ record {
        told = w.count-is ∙ count-enumerate p shape.edges c.loop-n.n c.loop-n.count None false less
            (sym c.is_wire.ensures ∙ w.if-is_wire.false) c.loop-n.invariant.told;
        few = omega arith;
      }
    ]

pub returns : goal.returns
returns g c =
    let shape = g.S.Shape.complex c.args.shape.now in
    let end : c.counters-n-end.result.edges ≡ length shape.edges =
    ap (λ k. k.edges) c.counters-n-end.ensures.counters in
    let all : length shape.edges ≤ c.loop-n.n = rw (← end) c.loop-n-test.false in
    c.loop-n.invariant.told
    ∙ ap (count_by (λ (e : ℕ × Option EdgeRec). is_some e.1 && is_loose shape (record { 0 = e.0 })))
    (all-enumerate shape.edges c.loop-n.n all)
