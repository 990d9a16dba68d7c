use Rattle.std.proofs.Common.{◌≡◌, ◌-◌, ◌||◌, length, take}
use Rattle.std.specs.List.{list_any, flat_map}
use Rattle.mesh_model.specs.Table.{at}
use Rattle.mesh_model.specs.Complex.{corners_of}
use Rattle.mesh_model.specs.Incidence.{is_along}
use Rattle.mesh_model.specs.NameSet.{is_in}
use Rattle.mesh_model.specs.declared.names.EdgeName.{EdgeName}
use Rattle.mesh_model.proofs.copying.push_corners.Given as goal

abbrev pub invariant-loop-side : goal.invariant-loop-side
invariant-loop-side g l =
    let corners = corners_of (at (g.S.Shape.complex l.shape).faces l.fn.f.0) in
    record {
      faces : l.faces ≡ record l.fn.faces {
        «open» = take l.side-index corners;
        corner_room =
            l.fn.faces.corner_room - l.side-index;
      };
      from : l.from ≡ length (flat_map (λ k. k.vals) (take l.side-index corners));
      edges : l.edges ≡ record l.fn.edges { used = l.edges.used };
      used : (e : EdgeName)
          → is_in l.edges.used e.0 ≡ (is_in l.fn.edges.used e.0 || list_any (is_along e) (take l.side-index corners));
    }
