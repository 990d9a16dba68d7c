use Rattle.std.proofs.Common.{◌≡◌, ◌∙◌, ℕ, List, [], IfOk, Some, None, sym, subst, ap, arith, unsigned_abs}
use mir.Syntax.{w64}
use Rattle.obj_writer.specs.Whole.{material_line}
use Rattle.std.proofs.lemmas.Int.{ints, to_z-of_z}
use Rattle.std.specs.Option.{option_map}
use Rattle.obj_writer.proofs.NameLemmas.{material_below, material_told}
use Rattle.obj_writer.proofs.names.material_line.Goals as goal

pub returns-then-n-lt0 : goal.returns-then-n-lt0
returns-then-n-lt0 g c =
    let names = (g.S.Shape.complex c.args.shape.now).materials in
    let none : [] ≡ material_line names c.args.n = material_below names c.args.n (grind (arith, ints, to_z-of_z)) in
    cc

pub returns-in-Some : goal.returns-in-Some
returns-in-Some g c =
    let names = (g.S.Shape.complex c.args.shape.now).materials in
    let same = material_told names c.args.n _ (Some c.in-Some.name.now) (grind (arith, ints, to_z-of_z))
    (omega (arith, ap unsigned_abs (to_z-of_z w64 c.args.n c.ranges.n)))
    (sym c.material.ensures ∙ ap (option_map (λ n. n.now)) c.in-Some.is) in
    subst (λ (t : List ℕ). IfOk c.name_line.result (λ v. v.items ≡ t)) same c.name_line.ensures

pub returns-in-None : goal.returns-in-None
returns-in-None g c =
    let names = (g.S.Shape.complex c.args.shape.now).materials in
    let same = material_told names c.args.n _ None (grind (arith, ints, to_z-of_z))
    (omega (arith, ap unsigned_abs (to_z-of_z w64 c.args.n c.ranges.n)))
    (sym c.material.ensures ∙ ap (option_map (λ n. n.now)) c.in-None.is) in
    subst (λ (t : List ℕ). IfOk c.name_line-in-None.result (λ v. v.items ≡ t)) same c.name_line-in-None.ensures
