use Rattle.std.proofs.Common.{rules, ◌∙◌}
use Rattle.std.proofs.lemmas.Bool.{and_parts}
use Rattle.std.proofs.lemmas.Int.{to_z-of_z}
use mir.Val.{SFits}
use mir.Syntax.{w64}
use Rattle.mesh_model.specs.Valid.{is_in_range, is_on_grid}
use Rattle.op_basic.specs.Motions.{is_ratio, scaled}
use Rattle.op_basic.proofs.OnGrid.{joined, x_on_grid, y_on_grid, z_on_grid}
use Rattle.op_basic.proofs.scaling.ScalingMotion.moved.Goals as goal

pub scaled-x-requires-clause-coordinate : goal.scaled-x-requires-clause-coordinate
scaled-x-requires-clause-coordinate c =
    let fits : SFits w64 c.args.p.x = search rules in
    let on = x_on_grid c.args.p c.requires in
    simp to_z-of_z on

pub scaled-x-requires-clause-point : goal.scaled-x-requires-clause-point
scaled-x-requires-clause-point c =
    let m = c.args.self.now in
    let fits : SFits w64 c.args.self.now.about.x = search rules in
    let on = x_on_grid m.about (and_parts (is_on_grid m.about) (is_ratio m.num m.den) m.may).0 in
    simp to_z-of_z on

pub scaled-x-requires-clause-ratio : goal.scaled-x-requires-clause-ratio
scaled-x-requires-clause-ratio c =
    let m = c.args.self.now in
    let num : SFits w64 c.args.self.now.num = search rules in
    let den : SFits w64 c.args.self.now.den = search rules in
    let ratio = (and_parts (is_on_grid m.about) (is_ratio m.num m.den) m.may).1 in
    simp to_z-of_z ratio

pub scaled-y-requires-clause-coordinate : goal.scaled-y-requires-clause-coordinate
scaled-y-requires-clause-coordinate c =
    let fits : SFits w64 c.args.p.y = search rules in
    let on = y_on_grid c.args.p c.requires in
    simp to_z-of_z on

pub scaled-y-requires-clause-point : goal.scaled-y-requires-clause-point
scaled-y-requires-clause-point c =
    let m = c.args.self.now in
    let fits : SFits w64 c.args.self.now.about.y = search rules in
    let on = y_on_grid m.about (and_parts (is_on_grid m.about) (is_ratio m.num m.den) m.may).0 in
    simp to_z-of_z on

pub scaled-y-requires-clause-ratio : goal.scaled-y-requires-clause-ratio
scaled-y-requires-clause-ratio c =
    let m = c.args.self.now in
    let num : SFits w64 c.args.self.now.num = search rules in
    let den : SFits w64 c.args.self.now.den = search rules in
    let ratio = (and_parts (is_on_grid m.about) (is_ratio m.num m.den) m.may).1 in
    simp to_z-of_z ratio

pub scaled-z-requires-clause-coordinate : goal.scaled-z-requires-clause-coordinate
scaled-z-requires-clause-coordinate c =
    let fits : SFits w64 c.args.p.z = search rules in
    let on = z_on_grid c.args.p c.requires in
    simp to_z-of_z on

pub scaled-z-requires-clause-point : goal.scaled-z-requires-clause-point
scaled-z-requires-clause-point c =
    let m = c.args.self.now in
    let fits : SFits w64 c.args.self.now.about.z = search rules in
    let on = z_on_grid m.about (and_parts (is_on_grid m.about) (is_ratio m.num m.den) m.may).0 in
    simp to_z-of_z on

pub scaled-z-requires-clause-ratio : goal.scaled-z-requires-clause-ratio
scaled-z-requires-clause-ratio c =
    let m = c.args.self.now in
    let num : SFits w64 c.args.self.now.num = search rules in
    let den : SFits w64 c.args.self.now.den = search rules in
    let ratio = (and_parts (is_on_grid m.about) (is_ratio m.num m.den) m.may).1 in
    simp to_z-of_z ratio

pub returns : goal.returns
returns c =
    let p = c.args.p in
    let m = c.args.self.now in
    let px : SFits w64 c.args.p.x = search rules in
    let py : SFits w64 c.args.p.y = search rules in
    let pz : SFits w64 c.args.p.z = search rules in
    let ax : SFits w64 c.args.self.now.about.x = search rules in
    let ay : SFits w64 c.args.self.now.about.y = search rules in
    let az : SFits w64 c.args.self.now.about.z = search rules in
    let num : SFits w64 c.args.self.now.num = search rules in
    let den : SFits w64 c.args.self.now.den = search rules in
    let hx = simp to_z-of_z at c.scaled-x.ensures in
    let hy = simp to_z-of_z at c.scaled-y.ensures in
    let hz = simp to_z-of_z at c.scaled-z.ensures in
    c.point_of.ensures ∙ (rw (hx, hy, hz)
    (joined (is_in_range (scaled m.num m.den m.about.x p.x)) (is_in_range (scaled m.num m.den m.about.y p.y))
    (is_in_range (scaled m.num m.den m.about.z p.z)) (scaled m.num m.den m.about.x p.x)
    (scaled m.num m.den m.about.y p.y) (scaled m.num m.den m.about.z p.z)))
