use Rattle.std.proofs.Common.{◌≡◌, ◌++◌, ℕ, List, OnOk, arith, refl, sym, subst}
use Rattle.mesh_model.specs.declared.names.VertName.{VertName}
use Rattle.obj_writer.proofs.WritingLemmas.{ends_told_below, loose_told}
use Rattle.obj_writer.proofs.loose_lines.push_entry.Goals as goal

pub bounds-indices-a : goal.bounds-indices-a
bounds-indices-a g c =
    let below = ends_told_below _ c.args.e.0 c.ends.result (record { 0 = 0 }) c.requires.linked c.ends.ensures in
    let long = c.requires.indices.long in
    omega arith

pub bounds-indices-b : goal.bounds-indices-b
bounds-indices-b g c =
    let below = ends_told_below _ c.args.e.0 c.ends.result (record { 0 = 0 }) c.requires.linked c.ends.ensures in
    let long = c.requires.indices.long in
    omega arith

pub returns : goal.returns
returns g c =
    let zero : VertName = record { 0 = 0 } in
    let same =
    loose_told _ c.args.indices.now c.args.e.0 c.ends.result zero _ c.requires.linked c.requires.indices
    c.ends.ensures (sym c.if-not-is_loose.ensures) refl
    in
    subst (λ (t : List ℕ). OnOk c.push_line.result (c.push_line.new.out.items ≡ c.args.out.now.items ++ t)) same
    c.push_line.ensures
