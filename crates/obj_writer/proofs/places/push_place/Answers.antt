use Rattle.std.proofs.Common.{codes, rules}
use Rattle.obj_writer.specs.Written.{grid_number}
use Rattle.obj_writer.proofs.WritingLemmas.{five}
use Rattle.obj_writer.proofs.places.push_place.Goals as goal

pub returns : goal.returns
returns c =
    let p = c.args.uv in
    five c.args.out.now.items c.extend_from_slice.new.self.items c.push_grid_number.new.out.items
    c.push.new.self.items c.push_grid_number-2.new.out.items c.push-2.new.self.items (codes "vt ") (grid_number 6 p.u)
    (codes " ") (grid_number 6 p.v) (codes "\n") c.in_ok-extend_from_slice.ensures.items
    (search rules) c.in_ok-push.ensures.items (search rules)
    c.in_ok-push-2.ensures.items
