use Rattle.std.proofs.Common.{◌==◌, false, Option, sym, ap, ◌∙◌}
use Rattle.std.specs.Option.{option_map_or}
use Rattle.std.proofs.lemmas.Iterator.Consumers.{YieldsList-from_first}
use Rattle.raw_pool.specs.declared.pool.Slot.{Slot}
use Rattle.mesh_cycles.specs.Found.{loops_along, goes_along}
use Rattle.mesh_cycles.specs.Left.{loops_along_left}
use Rattle.mesh_cycles.proofs.Around.{along_live}
use Rattle.mesh_cycles.proofs.Faces.{leads_alone}
use Rattle.mesh_cycles.proofs.Leaders.{is_found, compared, leads_by, leads_own}
use Rattle.mesh_cycles.proofs.along_edge.leads_along.Goals as goal

pub loop_face-f-requires : goal.loop_face-f-requires
loop_face-f-requires c = along_live c.args.st.now c.requires.cycles c.args.e.0 c.args.l c.requires.member

pub own_or_first-requires-clause-live : goal.own_or_first-requires-clause-live
own_or_first-requires-clause-live c = (
  loops_along c.args.st.now c.args.e.0,
  (YieldsList-from_first (λ l. l) loops_along_left (loops_along c.args.st.now c.args.e.0)
      c.loops_of_edge.ensures.items).runs,
  along_live c.args.st.now c.requires.cycles c.args.e.0,
)

pub returns-then-eq : goal.returns-then-eq
returns-then-eq c =
    let st = c.args.st.now in
    let own = c.first_along-own in
    c.if-eq.true
    ∙ sym (leads_own st (goes_along st c.args.e.0) (loops_along st c.args.e.0) c.args.l c.loop_face-f.result own.result
    c.loop_face-f.ensures (c.has_face.ensures.0 c.if-not-has_face.false) own.ensures c.requires.member
    (is_found own.result c.args.l (sym (compared own.result c.args.l) ∙ sym c.eq.ensures ∙ c.if-eq.true)))

pub returns-else-eq : goal.returns-else-eq
returns-else-eq c =
    let st = c.args.st.now in
    let own = c.first_along-own in
    let picked = c.own_or_first in
    let runs = YieldsList-from_first (λ l. l) loops_along_left (loops_along st c.args.e.0) c.loops_of_edge.ensures.items
    in
    c.eq-else-eq.ensures
    ∙ compared picked.result c.args.l
    ∙ ap (λ (o : Option Slot). option_map_or (λ (k : Slot). k.0 == c.args.l.0) o false)
    (picked.ensures (loops_along st c.args.e.0) runs.runs)
    ∙ sym (leads_by st (goes_along st c.args.e.0) (loops_along st c.args.e.0) c.args.l c.loop_face-f.result own.result
    c.loop_face-f.ensures (c.has_face.ensures.0 c.if-not-has_face.false) own.ensures)

pub is_alone-requires-clause-live : goal.is_alone-requires-clause-live
is_alone-requires-clause-live c = (
  loops_along c.args.st.now c.args.e.0,
  (YieldsList-from_first (λ l. l) loops_along_left (loops_along c.args.st.now c.args.e.0)
      c.loops_of_edge-loops.ensures.items).runs,
  along_live c.args.st.now c.requires.cycles c.args.e.0,
)

pub returns-then-is_alone : goal.returns-then-is_alone
returns-then-is_alone c =
    let st = c.args.st.now in
    let runs = YieldsList-from_first (λ l. l) loops_along_left (loops_along st c.args.e.0)
    c.loops_of_edge-loops.ensures.items in
    sym (leads_alone st c.requires.cycles (goes_along st c.args.e.0) (loops_along st c.args.e.0) c.loop_face-f.result
    c.args.l c.requires.member c.loop_face-f.ensures
    (c.has_face.ensures.0 c.if-not-has_face.false) (c.is_alone.ensures (loops_along st c.args.e.0) runs.runs
    c.if-is_alone.true))
