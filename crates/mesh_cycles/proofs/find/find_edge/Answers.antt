use Rattle.std.proofs.Common.{List, sym, ◌∙◌, subst}
use Rattle.std.proofs.lemmas.Bool.{false≢true}
use Rattle.raw_pool.specs.declared.pool.Slot.{Slot}
use Rattle.mesh_cycles.specs.Found.{edges_around}
use Rattle.mesh_cycles.specs.Left.{edges_around_left}
use Rattle.mesh_cycles.proofs.Mapped.{next_member, next_taken, all_taken}
use Rattle.mesh_cycles.proofs.Around.{edge_live}
use Rattle.mesh_cycles.proofs.Joining.{IsLeast, least_passed, least_kept, least_changes, least_around}
use Rattle.mesh_cycles.proofs.find.find_edge.Goals as goal
use Rattle.mesh_cycles.proofs.find.find_edge.Goals.{else-is_between-via-then-is_between+else-is_lesser, else-is_between-via-else-is_between}

pub is_between-requires : goal.is_between-requires
is_between-requires c =
    let st = c.args.st.now in
    edge_live st c.requires.cycles c.args.a.0 c.in-Some.e
    (next_member (edges_around st c.args.a.0) c.loop-e.yielded (edges_around_left c.loop-e.e-iterator)
    (edges_around_left c.next.new.self) c.in-Some.e
    c.loop-e.invariant.seen c.in-Some.ensures.steps)

pub loop-e-preserved-then-is_lesser : goal.loop-e-preserved-then-is_lesser
loop-e-preserved-then-is_lesser c =
    let st = c.args.st.now in
    record {
      ready = c.in-Some.ensures.goes.keeps;
      seen = next_taken (edges_around st c.args.a.0) c.loop-e.yielded (edges_around_left c.loop-e.e-iterator)
          (edges_around_left c.next.new.self) c.in-Some.e c.loop-e.invariant.seen c.in-Some.ensures.steps;
      least = least_changes st c.args.a.0 c.args.b.0 c.loop-e.yielded c.loop-e.least c.in-Some.e
          (sym c.is_between.ensures ∙ c.if-is_between.true) (c.is_lesser.ensures.0 c.if-is_lesser.true)
          c.loop-e.invariant.least;
    }

pub loop-e-preserved : goal.loop-e-preserved
loop-e-preserved c =
    let st = c.args.st.now in
    record {
      ready = c.in-Some.ensures.goes.keeps;
      seen = next_taken (edges_around st c.args.a.0) c.loop-e.yielded (edges_around_left c.loop-e.e-iterator)
          (edges_around_left c.next.new.self) c.in-Some.e c.loop-e.invariant.seen c.in-Some.ensures.steps;
      least = elim c.else-is_between.branch [
        | else-is_between-via-then-is_between+else-is_lesser w ↦ least_kept st c.args.a.0 c.args.b.0 c.loop-e.yielded
            c.loop-e.least c.in-Some.e (λ h. false≢true (sym w.if-is_lesser.false ∙ w.is_lesser.ensures.1 h))
            c.loop-e.invariant.least
        | else-is_between-via-else-is_between w ↦ least_passed st c.args.a.0 c.args.b.0 c.loop-e.yielded c.loop-e.least
            c.in-Some.e (sym c.is_between.ensures ∙ w.if-is_between.false) c.loop-e.invariant.least
      ];
    }

pub returns : goal.returns
returns c =
    let st = c.args.st.now in
    let all = all_taken (edges_around st c.args.a.0) c.loop-e.yielded (edges_around_left c.loop-e.e-iterator)
    c.loop-e.invariant.seen c.in-None.ensures.steps.0 in
    let P = λ (seen : List Slot). IsLeast st c.args.a.0 c.args.b.0 seen c.loop-e.least in
    least_around st c.args.a.0 c.args.b.0 c.loop-e.least c.requires.whole (subst P all c.loop-e.invariant.least)
