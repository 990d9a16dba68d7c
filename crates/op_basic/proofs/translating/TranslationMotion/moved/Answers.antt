use Rattle.std.proofs.Common.{◌+ℤ◌, rules, ◌∙◌}
use Rattle.std.proofs.lemmas.Int.{to_z-of_z}
use mir.Val.{SFits}
use mir.Syntax.{w64}
use Rattle.mesh_model.specs.Valid.{is_in_range}
use Rattle.op_basic.proofs.OnGrid.{joined, z_on_grid}
use Rattle.op_basic.proofs.translating.TranslationMotion.moved.Goals as goal

pub shifted-z-requires : goal.shifted-z-requires
shifted-z-requires c = let z = z_on_grid c.args.p c.requires in search (rules, z, to_z-of_z)

pub returns : goal.returns
returns c =
    let px : SFits w64 c.args.p.x = search rules in
    let py : SFits w64 c.args.p.y = search rules in
    let pz : SFits w64 c.args.p.z = search rules in
    let bx : SFits w64 c.args.self.now.by.x = search rules in
    let by : SFits w64 c.args.self.now.by.y = search rules in
    let bz : SFits w64 c.args.self.now.by.z = search rules in
    let hx = simp to_z-of_z at c.shifted-x.ensures in
    let hy = simp to_z-of_z at c.shifted-y.ensures in
    let hz = simp to_z-of_z at c.shifted-z.ensures in
    c.point_of.ensures ∙ (rw (hx, hy, hz)
    (joined (is_in_range (c.args.p.x +ℤ c.args.self.now.by.x)) (is_in_range (c.args.p.y +ℤ c.args.self.now.by.y))
    (is_in_range (c.args.p.z +ℤ c.args.self.now.by.z)) (c.args.p.x +ℤ c.args.self.now.by.x)
    (c.args.p.y +ℤ c.args.self.now.by.y) (c.args.p.z +ℤ c.args.self.now.by.z)))
