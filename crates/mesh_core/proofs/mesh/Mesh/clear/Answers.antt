use Rattle.std.proofs.Common.{[], sym, ap, ◌∙◌, subst}
use Rattle.mesh_store.specs.Parts.{cleared}
use Rattle.mesh_store.specs.Stored.{Stored}
use Rattle.mesh_model.specs.Complex.{Complex}
use Rattle.mesh_model.specs.declared.records.Counters.{Counters}
use Rattle.mesh_records.specs.Places.{KeepsPlaces}
use Rattle.mesh_records.specs.ReadOff.{NameLists, layers_in, read_off}
use Rattle.mesh_records.specs.Room.{none_of_all}
use Rattle.mesh_records.specs.Whole.{IsWhole}
use Rattle.mesh_records.proofs.Cleared.{cleared_whole, keeps_cleared}
use Rattle.mesh_core.specs.Seen.{Seen, now}
use Rattle.mesh_core.proofs.Kept.{mesh_kept}
use Rattle.mesh_core.proofs.mesh.Mesh.clear.Goals as goal

pub invariant_of-self : goal.invariant_of-self
invariant_of-self c =
    let st = c.self.inside.store in
    let none : Counters = record { verts = 0; edges = 0; faces = 0; corners = 0 } in
    let W = λ (t : Stored). IsWhole t none in
    let K = λ (t : Stored). KeepsPlaces none_of_all st t in
    mesh_kept none_of_all c.self.invariant
    (subst W (sym c.clear.ensures) (cleared_whole st c.self.inside.next c.self.invariant.whole))
    (subst K (sym c.clear.ensures) (keeps_cleared st)) (ap layers_in c.clear.ensures)

pub returns-clause-now : goal.returns-clause-now
returns-clause-now c =
    let none : Counters = record { verts = 0; edges = 0; faces = 0; corners = 0 } in
    let lists : NameLists = record { materials = c.self.inside.materials; libraries = c.self.inside.libraries } in
    ap (λ (t : Stored). read_off t none lists) c.clear.ensures
    ∙ ap (λ (x : Complex). let y : Complex = record x { verts = []; edges = []; faces = [] } in y)
    (ap now c.self.view_is)

pub returns-clause-stored : goal.returns-clause-stored
returns-clause-stored c = c.clear.ensures ∙ ap (λ (m : Seen). cleared m.stored) c.self.view_is
