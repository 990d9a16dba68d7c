use Rattle.mesh_core.specs.Seen.{now}
use Rattle.mesh_tests.proofs.LeadingBack.{led_back}
use Rattle.mesh_tests.proofs.leading.lead_back.Goals as goal

pub revert-requires : goal.revert-requires
revert-requires c = record {
  valid = led_back (now c.args.mesh.now) (now c.grow.new.mesh) c.args.past.now.changes c.in_ok-grow.ensures.now
      c.requires.changes c.leads_back.ensures c.requires.valid;
}
