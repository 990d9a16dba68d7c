use Rattle.std.proofs.Common.{arith, ℕ}
use Rattle.std.proofs.lemmas.List.{length-take, length-drop}
use Rattle.bmesh_run.proofs.Writing.{printed_more}
use Rattle.bmesh_run.proofs.write.whole_file.print_all.Goals as goal

pub loop-done-preserved : goal.loop-done-preserved
loop-done-preserved g c =
    let told = g.W.World.told in
    record {
      within = let few = c.in_ok-done.ensures.some.0 in omega (arith, few, length-take {A = ℕ}, length-drop {A = ℕ});
      printed = printed_more (told c.args.world.now) (told c.loop-done.world) (told c.print.new.self)
          c.args.bytes.now c.loop-done.done c.in_ok-done.field-0 c.loop-done.invariant.within
          c.loop-done.invariant.printed c.in_ok-done.ensures.some.2;
    }
