use Rattle.std.proofs.Common.{◌≡◌, ◌∙◌, List, Option, ap, refl}
use Rattle.mesh_model.specs.Complex.{Complex}
use Rattle.mesh_model.specs.Draft.{complex_of, edge_in}
use Rattle.mesh_model.specs.declared.names.EdgeName.{EdgeName}
use Rattle.mesh_model.specs.declared.records.EdgeRec.{EdgeRec}
use Rattle.mesh_model.proofs.Drafts.{IsDraft-edge_between, IsValid-edge_between, IsSimple-edge_between, edge_between-in}
use Rattle.mesh_model.proofs.draft.Draft.edge_between.Goals as goal

pub invariant_of-self-2 : goal.invariant_of-self-2
invariant_of-self-2 c =
    let old = c.self.inside in
    let before : Complex = complex_of old.verts old.edges old.faces old.materials old.libraries in
    let told = rw (c.reserve.ensures.table, c.reserve.ensures.layers) at c.edge_in-name.ensures.told in
    let table : c.edge_in-name.new.edges.table ≡ (edge_in old.edges.layers old.edges.table c.args.a c.args.b).0 =
    ap (λ (p : List (Option EdgeRec) × EdgeName). p.0) told in
    let layers : c.edge_in-name.new.edges.layers ≡ old.edges.layers = c.edge_in-name.ensures.layers
    ∙ c.reserve.ensures.layers in
    let made = ap (λ (p : Complex × EdgeName). p.0) (edge_between-in before c.args.a c.args.b) in
    let knows = c.edge_in-name.ensures.knows in
    let kept = IsDraft-edge_between before old.edges.used c.edge_in-name.new.edges.used old.faces.open old.index
    c.edge_in-name.new.index c.args.a c.args.b
    (rw (← c.self.view_is) at c.requires.a) (rw (← c.self.view_is) at c.requires.b) c.requires.differ
    (λ e. c.edge_in-name.ensures.used e ∙ rw c.reserve.ensures.used refl) (rw (made, ← table) knows) c.self.invariant in
    rw (table, layers) (rw made at kept)

pub returns-clause-valid : goal.returns-clause-valid
returns-clause-valid c =
    let old = c.self.inside in
    let before : Complex = complex_of old.verts old.edges old.faces old.materials old.libraries in
    let told = rw (c.reserve.ensures.table, c.reserve.ensures.layers) at c.edge_in-name.ensures.told in
    let table : c.edge_in-name.new.edges.table ≡ (edge_in old.edges.layers old.edges.table c.args.a c.args.b).0 =
    ap (λ (p : List (Option EdgeRec) × EdgeName). p.0) told in
    let layers : c.edge_in-name.new.edges.layers ≡ old.edges.layers = c.edge_in-name.ensures.layers
    ∙ c.reserve.ensures.layers in
    let made = ap (λ (p : Complex × EdgeName). p.0) (edge_between-in before c.args.a c.args.b) in
    rw (
      ← c.self.view_is,
      table,
      layers,
    ) (λ h. rw made at
    (IsValid-edge_between before c.args.a c.args.b (rw (← c.self.view_is) at c.requires.room)
    (rw (← c.self.view_is) at c.requires.a) (rw (← c.self.view_is) at c.requires.b) c.requires.differ h))

pub returns-clause-simple : goal.returns-clause-simple
returns-clause-simple c =
    let old = c.self.inside in
    let before : Complex = complex_of old.verts old.edges old.faces old.materials old.libraries in
    let told = rw (c.reserve.ensures.table, c.reserve.ensures.layers) at c.edge_in-name.ensures.told in
    let table : c.edge_in-name.new.edges.table ≡ (edge_in old.edges.layers old.edges.table c.args.a c.args.b).0 =
    ap (λ (p : List (Option EdgeRec) × EdgeName). p.0) told in
    let made = ap (λ (p : Complex × EdgeName). p.0) (edge_between-in before c.args.a c.args.b) in
    rw (← c.self.view_is, table) (λ h. rw made at (IsSimple-edge_between before c.args.a c.args.b h))
