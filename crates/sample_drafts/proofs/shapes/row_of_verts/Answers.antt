use Rattle.sample_drafts.proofs.shapes.row_of_verts.Goals as goal

pub loop-i-init : goal.loop-i-init
loop-i-init c = record { valid = c.new-draft.ensures.valid; simple = c.new-draft.ensures.simple }

pub loop-i-preserved : goal.loop-i-preserved
loop-i-preserved c = record {
  valid = c.vert.ensures.valid c.loop-i.invariant.valid;
  simple = c.vert.ensures.simple c.loop-i.invariant.simple;
}
