use Rattle.std.proofs.Common.{refl, sym, ◌∙◌}
use Rattle.mesh_model.specs.EdgeIndexes.{key_of}
use Rattle.mesh_model.proofs.Indexing.{Knows-noted, Knows-passed, edge-told, nothing-stands}
use Rattle.mesh_model.proofs.edge_index.EdgeIndex.note.Goals as goal

pub returns-then-has-clause-knows : goal.returns-then-has-clause-knows
returns-then-has-clause-knows c =
    let told = edge-told _ c.ends-ends.result c.ends-ends.ensures in
    Knows-noted c.args.self.now _ c.args.edges.now.table told.0 c.requires.knows c.requires.next told.1 refl
    (λ v w. rw (told.2, told.3) (rw c.of.ensures at (c.put_if_new.ensures.names (key_of v w))))

pub returns-else-has-clause-knows : goal.returns-else-has-clause-knows
returns-else-has-clause-knows c =
    Knows-passed c.args.self.now _ c.args.edges.now.table c.requires.knows c.requires.next
    (nothing-stands _ (sym c.has.ensures ∙ c.if-has.false)) refl (λ v w. refl)
