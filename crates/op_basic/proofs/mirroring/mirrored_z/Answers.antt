use Rattle.std.proofs.Common.{◌≡◌, ◌-ℤ◌, ◌*ℤ◌, pos, Some, rules, ◌∙◌}
use Rattle.std.proofs.lemmas.Int.{to_z-of_z}
use mir.Val.{SFits, to_z, of_z}
use mir.Syntax.{w64}
use Rattle.mesh_model.specs.Valid.{is_in_range}
use Rattle.op_basic.specs.Coordinates.{point_of}
use Rattle.op_basic.proofs.OnGrid.{z_on_grid, z_alone}
use Rattle.op_basic.proofs.mirroring.mirrored_z.Goals as goal

pub mirrored-requires-clause-coordinate : goal.mirrored-requires-clause-coordinate
mirrored-requires-clause-coordinate c = let on = z_on_grid c.args.p c.requires.grid in search (rules, on, to_z-of_z)

pub returns : goal.returns
returns c =
    let x : SFits w64 c.args.p.x = search rules in
    let y : SFits w64 c.args.p.y = search rules in
    let z : SFits w64 c.args.p.z = search rules in
    let plane : SFits w64 c.args.about = search rules in
    let image = simp to_z-of_z at c.mirrored.ensures in
    let joined : c.point_of.result ≡ point_of (Some (to_z w64 (of_z w64 c.args.p.x)))
    (Some (to_z w64 (of_z w64 c.args.p.y))) c.mirrored.result =
    c.point_of.ensures in
    let told = simp to_z-of_z at joined in
    told ∙ rw image
    (z_alone (is_in_range (pos 2 *ℤ c.args.about -ℤ c.args.p.z)) (pos 2 *ℤ c.args.about -ℤ c.args.p.z) c.args.p
    c.requires.grid)
