use Rattle.std.proofs.Common.{is_some, Option, ap, ◌∙◌, sym, arith, ℕ, subst}
use Rattle.std.proofs.lemmas.Option.{same_Some}
use Rattle.raw_pool.specs.Slots.{IsLive}
use Rattle.mesh_records.proofs.Elements.{face_live, face_is_at}
use Rattle.mesh_records.proofs.Loses.{loop_of, first_in, none_in, loses_none, loses_more, cycles_left, linked_left, face_left, nearly_left, one_less}
use Rattle.mesh_records.proofs.taking.take_loops.Goals as goal

pub loop-l-init : goal.loop-l-init
loop-l-init c = record {
  nearly = λ n w. w;
  loses = loses_none c.args.st.now c.args.f.0;
  cycles = c.requires.cycles;
  linked = c.requires.linked;
  face = c.requires.face;
}

pub take_loop-requires : goal.take_loop-requires
take_loop-requires c =
    let i = c.loop-l.invariant in
    let m = first_in c.loop-l.st c.args.f c.in-Some.l i.cycles.cycles c.in-Some.ensures.first in
    let o = loop_of c.loop-l.st c.args.f c.in-Some.l i.cycles.cycles i.linked m in
    record {
      cycles = i.cycles;
      edge = ap (λ (x : Option ℕ). is_some x) o.of_edge;
      edge_live = λ e p. (let P = λ (k : ℕ). IsLive c.loop-l.st.edges.cells k in subst P
          (same_Some o.edge e (sym o.of_edge ∙ p)) o.live);
      face = i.face;
      member = m;
    }

pub loop-l-preserved : goal.loop-l-preserved
loop-l-preserved c =
    let i = c.loop-l.invariant in
    let t = c.take_loop.ensures in
    let m = first_in c.loop-l.st c.args.f c.in-Some.l i.cycles.cycles c.in-Some.ensures.first in
    let o = loop_of c.loop-l.st c.args.f c.in-Some.l i.cycles.cycles i.linked m in
    record {
      nearly = λ n w. nearly_left c.loop-l.st c.take_loop.new.st c.args.f c.in-Some.l o.low t o.edge o.of_edge n
          (i.nearly n w);
      loses = loses_more c.args.st.now c.loop-l.st c.take_loop.new.st c.args.f c.in-Some.l i.loses i.cycles.cycles m
          o.low t;
      cycles = cycles_left c.loop-l.st c.take_loop.new.st c.args.f c.in-Some.l o.low t o.edge o.of_edge i.cycles;
      linked = linked_left c.loop-l.st c.take_loop.new.st c.args.f c.in-Some.l o.low t i.linked;
      face = face_live c.take_loop.new.st c.args.f.0 (face_left c.loop-l.st c.take_loop.new.st c.args.f c.in-Some.l
          o.low t (face_is_at c.loop-l.st c.args.f.0 i.face));
    }

pub loop-l-smaller : goal.loop-l-smaller
loop-l-smaller c =
    let i = c.loop-l.invariant in
    let m = first_in c.loop-l.st c.args.f c.in-Some.l i.cycles.cycles c.in-Some.ensures.first in
    let o = loop_of c.loop-l.st c.args.f c.in-Some.l i.cycles.cycles i.linked m in
    omega (
      arith,
      one_less c.loop-l.st c.take_loop.new.st c.args.f c.in-Some.l o.low c.take_loop.ensures i.cycles.cycles
          m,
    )

pub returns-clause-empty : goal.returns-clause-empty
returns-clause-empty c = none_in c.loop-l.st c.args.f c.in_default.ensures.first
