use Rattle.std.proofs.Common.{refl, subst, Some}
use Rattle.std.specs.Prelude.{slice_set}
use Rattle.std.specs.Fn.{FnOnceReturnsAtMut}
use Rattle.mesh_store.specs.Naming.{NamedCells, Updates}
use Rattle.mesh_store.proofs.Directory.{updated}
use Rattle.mesh_store.proofs.named_pool.NamedPool.update.Goals as goal

-- the number stays
pub invariant_of-self : goal.invariant_of-self
invariant_of-self g c =
    let gave : FnOnceReturnsAtMut g.F.FnOnce c.args.change c.get_mut-cell.result.now tt c.change.new.arg2 =
    record { shown = _; shows = refl; left = _; met = c.change.ensures; leaves = refl } in
    updated g.T.Numbered.number c.self.inside.pool c.self.inside.names.items c.self.inside.marks.words.items c.args.s.0
    c.get_mut-cell.result.now c.change.new.arg2 c.get_mut-cell.ensures.value
    (c.requires.number c.get_mut-cell.result.now c.change.new.arg2 gave) c.self.invariant

pub returns : goal.returns
returns g c =
    let gave : FnOnceReturnsAtMut g.F.FnOnce c.args.change c.get_mut-cell.result.now tt c.change.new.arg2 =
    record { shown = _; shows = refl; left = _; met = c.change.ensures; leaves = refl } in
    let new : NamedCells g.row.T.Denot = record {
      cells =
          slice_set c.self.inside.pool c.args.s.0 (Some c.change.new.arg2);
      names = c.self.inside.names.items;
    } in
    let R = λ (x y : g.row.T.Denot). FnOnceReturnsAtMut g.F.FnOnce c.args.change x tt y in
    subst (λ (p : NamedCells g.row.T.Denot). Updates R p new c.args.s.0) c.self.view_is
    (record {
      was = c.get_mut-cell.result.now;
      now = c.change.new.arg2;
      there = c.get_mut-cell.ensures.value;
      gives = gave;
      same = refl;
    })
