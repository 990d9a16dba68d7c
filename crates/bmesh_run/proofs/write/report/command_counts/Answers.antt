use Rattle.bmesh_run.proofs.write.report.command_counts.Goals as goal

pub returns : goal.returns
returns c = rw (← c.loose_count-loose.ensures, ← c.undo_len-undo.ensures, ← c.redo_len-redo.ensures)
    c.in_ok-text.ensures.ok
