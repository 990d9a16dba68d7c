-- What is found in sorted spans is what the terms stand for, and rises.
use Rattle.std.proofs.Common.{◌≡◌, ℕ, ◌+◌, ◌<◌, ◌^◌, Bool, true, ◌&&◌, List, [], ◌∷◌, get_or, map, refl}
use Rattle.std.proofs.Common.{sym, ap, ◌∙◌, arith}
use Rattle.std.specs.List.{filter, list_any, range_with_len}
use Rattle.std.specs.List.Sorted.{IsPermutation}
use Rattle.std.proofs.lemmas.Bool.{and_from}
use Rattle.std.proofs.lemmas.List.FromFn.{length-range_with_len, get_or-range_with_len}
use Rattle.std.proofs.lemmas.List.Sorted.{list_any-IsPermutation}
use Rattle.mesh_model.specs.Complex.{Complex}
use Rattle.mesh_model.specs.Naming.{is_rising, are_rising, vert_numbers, edge_numbers, face_numbers}
use Rattle.mesh_model.specs.declared.names.Kind.{Kind}
use Rattle.mesh_model.specs.declared.names.Kind.TheVariants.{Verts, Edges, Faces}
use Rattle.mesh_model.proofs.NameSets.{filter-same, rising-filter}
use Rattle.op_slots.specs.declared.bindings.Binding.{Binding}
use Rattle.op_slots.specs.declared.resolving.want.Want.{Want}
use Rattle.op_slots.specs.declared.resolving.spans.Span.{Span}
use Rattle.op_slots.specs.declared.term.Term.{Term}
use Rattle.op_slots.specs.Values.{is_live, next_of, stands_for, chosen, union}
use Rattle.op_slots.specs.Spans.{is_in, is_found, found_below, Hold}
use Rattle.op_slots.proofs.Sweeps.{same_map}

-- what is found in the spans of some terms, in any order, is what the terms stand for
pub found_is_chosen : (c : Complex) (kind : Kind) (bs : List Binding) (want : Want) (terms : List Term)
    (spans sorted : List Span) → Hold spans (λ n. list_any (stands_for bs want kind n) terms)
    → IsPermutation spans sorted → next_of c kind < 2 ^ 32
    → found_below c kind sorted (next_of c kind) ≡ chosen c bs want terms kind
found_is_chosen c kind bs want terms spans sorted held same small =
    filter-same (is_found c kind sorted) (λ n. is_live c kind n && list_any (stands_for bs want kind n) terms)
    (range_with_len 0 (next_of c kind)) (λ k d less.
    let within : k < next_of c kind = omega (arith, length-range_with_len 0 (next_of c kind)) in
    let number : ℕ = get_or (range_with_len 0 (next_of c kind)) k d in
    let counted : 0 + k ≡ k = omega arith in
    let is : number ≡ k = get_or-range_with_len 0 (next_of c kind) k d within ∙ counted in
    ap (λ b. is_live c kind number && b) (sym (list_any-IsPermutation (is_in number) spans sorted same)
    ∙ held number (omega arith)))

-- numbers that a filter keeps rise
rising_kept : (p : ℕ → Bool) (count : ℕ) → is_rising (filter p (range_with_len 0 count)) ≡ true
rising_kept p count =
    ap is_rising (sym (same_map (filter p (range_with_len 0 count)))
    ∙ ap (λ (ns : List ℕ). map (λ n. n) (filter p ns)) (sym (same_map (range_with_len 0 count))))
    ∙ rising-filter (λ (n : ℕ). n) (λ (n : ℕ). n) (λ n. refl) (λ n. refl) p count

numbers_back : {N : Type 0} (number : N → ℕ) (name : ℕ → N) → ((n : ℕ) → number (name n) ≡ n) → (ns : List ℕ)
    → map number (map name ns) ≡ ns
numbers_back number name back [] = refl
numbers_back number name back (n ∷ ns) = rw (back n, numbers_back number name back ns) refl

-- the elements for which terms stand rise
pub rising_union : (c : Complex) (bs : List Binding) (want : Want) (terms : List Term)
    → are_rising (union c bs want terms) ≡ true
rising_union c bs want terms =
    let x = union c bs want terms in
    and_from (is_rising (vert_numbers x.verts)) (is_rising (edge_numbers x.edges) && is_rising (face_numbers x.faces))
    (ap is_rising (numbers_back (λ v. v.0) (λ n. record { 0 = n }) (λ n. refl) (chosen c bs want terms Verts))
    ∙ rising_kept _ (next_of c Verts))
    (and_from (is_rising (edge_numbers x.edges)) (is_rising (face_numbers x.faces))
    (ap is_rising (numbers_back (λ e. e.0) (λ n. record { 0 = n }) (λ n. refl) (chosen c bs want terms Edges))
    ∙ rising_kept _ (next_of c Edges))
    (ap is_rising (numbers_back (λ f. f.0) (λ n. record { 0 = n }) (λ n. refl) (chosen c bs want terms Faces))
    ∙ rising_kept _ (next_of c Faces)))
