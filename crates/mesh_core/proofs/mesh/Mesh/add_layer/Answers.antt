use Rattle.std.proofs.Common.{◌≡◌, None, sym, ap, ◌∙◌, subst}
use Rattle.std.specs.Prelude.{Ok, Err, OnOk, OnErr}
use Rattle.std.specs.declared.result.Result.{Result}
use Rattle.cust_data.specs.Faults.{refusal_of}
use Rattle.cust_data.specs.Layers.{Layer, LayerTable, with_layer}
use Rattle.mesh_store.specs.Parts.{change_table}
use Rattle.mesh_store.specs.Stored.{Stored}
use Rattle.mesh_store.specs.declared.layers.Part.{Part}
use Rattle.mesh_model.specs.Complex.{Complex, layers_of}
use Rattle.mesh_model.specs.Declaring.{with_declared}
use Rattle.mesh_records.specs.ReadOff.{NameLists}
use Rattle.mesh_records.specs.Rewrites.{Rewrites}
use Rattle.mesh_records.specs.Whole.{IsWhole}
use Rattle.mesh_records.proofs.Layered.{declares_layer}
use Rattle.mesh_core.specs.Seen.{now}
use Rattle.mesh_core.proofs.mesh.Mesh.add_layer.Goals as goal
use Rattle.mesh_core.proofs.mesh.Mesh.add_layer.Goals.{in-Ok, in-Err}

-- what holds of both outcomes
either : {T E : Type 0} (P : Stored → Type 0) (r : Result T E) (new made old : Stored) → OnOk r (new ≡ made)
    → OnErr r (new ≡ old) → P made → P old → P new
either P (Ok x) new made old ok err whole before = subst P (sym ok) whole
either P (Err x) new made old ok err whole before = subst P (sym err) before

-- what holds anyway, and nothing after a fault
ok_any : {T E P : Type 0} (r : Result T E) → P → OnOk r P
ok_any (Ok x) p = p
ok_any (Err e) p = tt

after_fault : {T E : Type 0} (P : Type 0) (r : Result T E) (e : E) → r ≡ Err e → OnOk r P
after_fault {T} {E} P r e is = let Q : Result T E → Type 0 = λ x. OnOk x P in subst Q (sym is) tt

pub invariant_of-self : goal.invariant_of-self
invariant_of-self c =
    let kind = c.args.kind in
    let layer : Layer = record { name = c.args.name.now; width = c.args.width; rule = c.args.rule } in
    let F = λ (x : Complex). refusal_of (layers_of x.layers kind) c.args.name.now c.args.width ≡ None in
    let free = subst F (sym (ap now c.self.view_is)) c.requires in
    let added = declares_layer c.self.inside.store c.self.inside.next c.self.invariant.whole layer kind free in
    let part = ap (λ (p : Part). change_table p (λ (t : LayerTable). with_layer t layer) c.self.inside.store)
    c.part_of.ensures in
    let W = λ (st : Stored). IsWhole st c.self.inside.next in
    let whole = either W c.add_layer.result c.add_layer.new.self
    (change_table c.part_of.result (λ (t : LayerTable). with_layer t layer) c.self.inside.store) c.self.inside.store
    c.add_layer.ensures.ok c.add_layer.ensures.err (subst W (sym part) added.whole) c.self.invariant.whole in
    record { whole = whole; back = tt }

pub returns : goal.returns
returns c =
    let kind = c.args.kind in
    let layer : Layer = record { name = c.args.name.now; width = c.args.width; rule = c.args.rule } in
    let F = λ (x : Complex). refusal_of (layers_of x.layers kind) c.args.name.now c.args.width ≡ None in
    let free = subst F (sym (ap now c.self.view_is)) c.requires in
    let added = declares_layer c.self.inside.store c.self.inside.next c.self.invariant.whole layer kind free in
    let part = ap (λ (p : Part). change_table p (λ (t : LayerTable). with_layer t layer) c.self.inside.store)
    c.part_of.ensures in
    let lists : NameLists = record { materials = c.self.inside.materials; libraries = c.self.inside.libraries } in
    let R = λ (st : Stored). Rewrites c.self.inside.store st c.self.inside.next (λ (x : Complex). with_declared x (record {
      kind = kind;
      name = c.args.name.now;
      width = c.args.width;
      rule = c.args.rule;
    })) in
    elim c.match-add_layer.branch [
      | in-Ok w ↦ ok_any c.match-add_layer.result ((subst R (sym (w.in-Ok.ensures.ok ∙ part)) added).read lists
          ∙ ap (λ (x : Complex). with_declared x (record {
            kind = kind;
            name = c.args.name.now;
            width = c.args.width;
            rule = c.args.rule;
          })) (ap now c.self.view_is))
      | in-Err w ↦ after_fault _ c.match-add_layer.result _ w.result-is
    ]
