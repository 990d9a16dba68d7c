use Rattle.std.proofs.Common.{◌∙◌, sym}
use Rattle.mesh_cycles.proofs.Stays.{first_member}
use Rattle.kernel_tests.proofs.cycles.firsts.some_dart.Goals as goal

pub returns-clause-first : goal.returns-clause-first
returns-clause-first g c = sym c.first_dart.ensures ∙ c.given.ensures

pub returns-clause-member : goal.returns-clause-member
returns-clause-member g c = first_member c.given.result (c.requires.cycles.disks c.args.vert.0)
    (sym c.first_dart.ensures ∙ c.given.ensures)
