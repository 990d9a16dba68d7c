use Rattle.std.proofs.Common.{rules, ℕ, List, ◌++◌, map, sym, ap, subst, refl, Bool, ◌∷◌, []}
use Rattle.mesh_cycles.proofs.Mapped.{next_taken}
use Rattle.mesh_model.specs.Table.{at, passes}
use Rattle.mesh_model.specs.declared.names.VertName.{VertName}
use Rattle.mesh_model.specs.declared.names.FaceName.{FaceName}
use Rattle.mesh_records.specs.Order.{faces_of_vert}
use Rattle.mesh_records.specs.StandsFor.{ListsOnce}
use Rattle.mesh_core.specs.Left.{faces_at_vert_left}
use Rattle.mesh_core.specs.Seen.{now}
use Rattle.op_basic.specs.Making.{has_just}
use Rattle.op_basic.proofs.Searched.{IsLeast, least_none, least_push, just_numbered}
use Rattle.op_basic.proofs.FacesAround.{next_there, least_given}
use Rattle.op_basic.proofs.searching.face_on.Goals as goal

abbrev vert : ℕ → VertName
vert n = record { 0 = n }

pub loop-f-init : goal.loop-f-init
loop-f-init c =
    let same = ap faces_at_vert_left c.into_iter-f-iterator.ensures.into_iter_gives in
    record {
      ready = search rules;
      given = subst (λ (fs : List FaceName). ListsOnce fs (faces_of_vert (now c.args.mesh.now) c.args.v)) (sym same)
          c.faces_of_vert-f-items.ensures.items;
      least = least_none (λ (f : FaceName). passes (has_just (map vert c.args.numbers.now))
          (at (now c.args.mesh.now).faces f.0));
    }

pub least_with-requires-clause-there : goal.least_with-requires-clause-there
least_with-requires-clause-there c =
    next_there (now c.args.mesh.now) c.args.v c.loop-f.yielded (faces_at_vert_left c.loop-f.f-iterator)
    (faces_at_vert_left c.next.new.self) c.in-Some.f c.loop-f.invariant.given c.in-Some.ensures.steps

pub loop-f-preserved : goal.loop-f-preserved
loop-f-preserved c =
    let test : FaceName → Bool =
    λ f. passes (has_just (map vert c.args.numbers.now)) (at (now c.args.mesh.now).faces f.0) in
    record {
      ready = c.in-Some.ensures.goes.keeps;
      given = subst (λ (fs : List FaceName). ListsOnce fs (faces_of_vert (now c.args.mesh.now) c.args.v))
          (sym (next_taken _ c.loop-f.yielded (faces_at_vert_left c.loop-f.f-iterator)
          (faces_at_vert_left c.next.new.self) c.in-Some.f refl c.in-Some.ensures.steps)) c.loop-f.invariant.given;
      least = subst (IsLeast test (c.loop-f.yielded ++ c.in-Some.f ∷ [])) (sym c.in_ok-least.ensures)
          (least_push test c.loop-f.yielded c.in-Some.f c.loop-f.least c.loop-f.invariant.least);
    }

pub returns : goal.returns
returns c = least_given (now c.args.mesh.now) c.args.v (has_just (map vert c.args.numbers.now)) c.loop-f.yielded
    (faces_at_vert_left c.loop-f.f-iterator) c.loop-f.least c.requires.valid
    (λ f just. just_numbered c.args.numbers.now c.args.v f c.requires.among just)
    c.loop-f.invariant.given c.in-None.ensures.steps.0 c.loop-f.invariant.least
