-- Walks through the tree of entries.
use Rattle.std.proofs.Common.{◌≡◌, ◌≢◌, ℕ, zero, suc, ◌/◌, ◌<◌, List, length, sym, ap, ◌∙◌, subst, Option, Some, None, get_or}
use Rattle.std.specs.Prelude.{slice_get}
use Rattle.std.proofs.lemmas.Option.{slice_get-get_or}
use Rattle.mesh_trail.specs.declared.note_map.Entry.{Entry}
use Rattle.mesh_trail.specs.Tree.{link_at, Leads, IsReached, IsTree, IsFree, IsOnPath}

-- the walk begins at the root
pub path_start : {R : Type 0} (es : List (Entry R)) (name : ℕ) → 0 < length es → IsTree es → IsOnPath es name 0 name
path_start {R = R} es name some tree = record {
  within = some;
  near = λ j e at_j same. subst (λ (n : ℕ). IsReached es n 0 j) same (tree.reached j e at_j);
  path = λ later keeps j reached. reached;
}

-- an entry of another name is passed by
pub next_on : {R : Type 0} (es : List (Entry R)) (bits i j : ℕ) → i ≢ j → IsReached es bits i j
    → (link_at es i bits ≢ 0) × IsReached es (bits / 2) (link_at es i bits) j
next_on es bits i j off (zero, e) = absurd (off e)
next_on es bits i j off (suc d, on) = (on.0, (d, on.1))

pub same_entry : {R : Type 0} (es : List (Entry R)) (at : ℕ) (e f : Entry R) → slice_get es at ≡ Some e
    → slice_get es at ≡ Some f → f.name ≡ e.name
same_entry {R = R} es at e f p q = let named : Option (Entry R)
    → ℕ = λ o. elim o [ None ↦ 0 | Some x ↦ x.name ] in ap named (sym q ∙ p)

-- an entry that an index reads
pub entry_read : {R : Type 0} (es : List (Entry R)) (at : ℕ) (e : Entry R) → at < length es → e ≡ get_or es at e
    → slice_get es at ≡ Some e
entry_read es at e less is = slice_get-get_or es at e less ∙ ap (λ x. Some x) (sym is)

-- the step to the next entry
pub path_step : {R : Type 0} (es : List (Entry R)) (name at bits : ℕ) (e : Entry R) → IsTree es
    → slice_get es at ≡ Some e → e.name ≢ name → link_at es at bits ≢ 0 → IsOnPath es name at bits
    → IsOnPath es name (link_at es at bits) (bits / 2)
path_step {R = R} es name at bits e tree at_e other linked on = record {
  within = (tree.up at bits linked).1;
  near = λ j f at_j same. (next_on es bits at j (λ is.
      other (sym (same_entry es at e f at_e (ap (slice_get es) is ∙ at_j)) ∙ same)) (on.near j f at_j same)).1;
  path = λ later keeps j (d, reached). on.path later keeps j (
    suc d,
    (
      λ e. linked (sym (keeps at bits linked) ∙ e),
      subst (λ (k : ℕ). Leads d later (bits / 2) k j) (sym (keeps at bits linked)) reached,
    ),
  );
}

-- the walk ends at a free link
pub path_end : {R : Type 0} (es : List (Entry R)) (name at bits : ℕ) (e : Entry R) → slice_get es at ≡ Some e
    → e.name ≢ name → link_at es at bits ≡ 0 → IsOnPath es name at bits → IsFree es name at bits
path_end {R = R} es name at bits e at_e other free on = record {
  within = on.within;
  free = free;
  absent = λ j f at_j same. missed j f at_j same (on.near j f at_j same);
  path = on.path;
}
  where
    missed : (j : ℕ) (f : Entry R) → slice_get es j ≡ Some f → f.name ≡ name → IsReached es bits at j → ⊥
    missed j f at_j same (zero, is) = other (sym (same_entry es at e f at_e (ap (slice_get es) is ∙ at_j)) ∙ same)
    missed j f at_j same (suc d, on) = on.0 free
