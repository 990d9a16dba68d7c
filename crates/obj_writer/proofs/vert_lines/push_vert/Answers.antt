use Rattle.std.proofs.Common.{codes, rules}
use Rattle.obj_writer.specs.Written.{grid_number}
use Rattle.obj_writer.proofs.WritingLemmas.{seven}
use Rattle.obj_writer.proofs.vert_lines.push_vert.Goals as goal

pub returns : goal.returns
returns c =
    let p = c.args.p in
    let s = c.args.scale in
    seven c.args.out.now.items c.extend_from_slice.new.self.items c.push_grid_number.new.out.items
    c.push.new.self.items c.push_grid_number-2.new.out.items c.push-2.new.self.items c.push_grid_number-3.new.out.items
    c.push-3.new.self.items (codes "v ") (grid_number s p.x) (codes " ") (grid_number s p.y) (codes " ")
    (grid_number s p.z) (codes "\n") c.in_ok-extend_from_slice.ensures.items (search rules)
    c.in_ok-push.ensures.items (search rules) c.in_ok-push-2.ensures.items
    (search rules) c.in_ok-push-3.ensures.items
