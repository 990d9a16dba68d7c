use Rattle.std.proofs.Common.{arith, ◌<◌, length, ℕ}
use Rattle.std.proofs.lemmas.List.{length-take}
use Rattle.worlds.specs.declared.start.Purpose.TheVariants.{Reading}
use Rattle.bmesh_run.proofs.Reading.{is_whole_at_end, is_whole_past, is_left_at_end, is_left_past, fault_leaves_started}
use Rattle.bmesh_run.proofs.Reading.{ok_leaves_started}
use Rattle.bmesh_run.proofs.Writing.{gains_start}
use Rattle.bmesh_run.proofs.read.whole_file.read_all.Goals as goal
use Rattle.bmesh_run.proofs.read.whole_file.read_all.Goals.{else-loop-piece-test}
use Rattle.bmesh_run.proofs.read.whole_file.read_all.Goals.{then-loop-piece-test+in_ok-n+then-n-eq0}

pub returns-in_err-n-clause-started : goal.returns-in_err-n-clause-started
returns-in_err-n-clause-started g c =
    let told = g.W.World.told in
    gains_start c.from_residual-in_err-n.result (told c.args.world.now) (told c.read.new.self) c.args.name.now Reading
    (fault_leaves_started (told c.args.world.now) (told c.loop-piece.world) (told c.read.new.self)
    c.args.name.now c.read.new.into _ c.loop-piece.invariant.only c.in_err-n.ensures.next)

pub returns-in_err-extend_from_slice-clause-started :
    goal.returns-in_err-extend_from_slice-clause-started
returns-in_err-extend_from_slice-clause-started g c =
    let told = g.W.World.told in
    gains_start c.from_residual-in_err-extend_from_slice.result (told c.args.world.now) (told c.read.new.self)
    c.args.name.now Reading
    (ok_leaves_started (told c.args.world.now) (told c.loop-piece.world) (told c.read.new.self)
    c.args.name.now c.read.new.into c.in_ok-n.n c.loop-piece.invariant.only c.in_ok-n.ensures.next)

pub returns-clause-whole : goal.returns-clause-whole
returns-clause-whole g c =
    let told = g.W.World.told in
    let old = told c.args.world.now in
    elim c.loop-piece-test.branch [
      | else-loop-piece-test w ↦ is_whole_past old (told c.loop-piece.world)
          c.args.name.now c.loop-piece.out.items c.args.limit c.loop-piece.invariant.few (omega arith)
          c.loop-piece.invariant.left
      | then-loop-piece-test+in_ok-n+then-n-eq0 w ↦
          let room : 0 < length w.read.new.into =
          omega (arith, w.read.auto.into, length-take {A = ℕ}, c.loop-piece.invariant.room) in
          is_whole_at_end old (told c.loop-piece.world) (told w.read.new.self)
          c.args.name.now c.loop-piece.out.items w.read.new.into c.args.limit w.in_ok-n.n
          c.loop-piece.invariant.few room w.if-n-eq0.true c.loop-piece.invariant.left w.in_ok-n.ensures.next
    ]

pub returns-clause-left : goal.returns-clause-left
returns-clause-left g c =
    let told = g.W.World.told in
    let old = told c.args.world.now in
    elim c.loop-piece-test.branch [
      | else-loop-piece-test w ↦ rw w.world-is
          (is_left_past old (told c.loop-piece.world)
          c.args.name.now c.loop-piece.out.items c.args.limit c.loop-piece.invariant.few (omega arith)
          c.loop-piece.invariant.left)
      | then-loop-piece-test+in_ok-n+then-n-eq0 w ↦
          let room : 0 < length w.read.new.into =
          omega (arith, w.read.auto.into, length-take {A = ℕ}, c.loop-piece.invariant.room) in
          rw w.world-is
          (is_left_at_end old (told c.loop-piece.world) (told w.read.new.self)
          c.args.name.now c.loop-piece.out.items w.read.new.into c.args.limit w.in_ok-n.n
          c.loop-piece.invariant.few room w.if-n-eq0.true c.loop-piece.invariant.left w.in_ok-n.ensures.next)
    ]
