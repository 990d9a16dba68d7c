-- Lemmas on lines with names.
use Rattle.std.proofs.Common.{◌≡◌, ◌∙◌, ◌≤◌, ◌+◌, ◌<ℤ◌, ◌≤ℤ◌, unsigned_abs, ℕ, suc, ℤ, pos, negsuc}
use Rattle.std.proofs.Common.{List, [], length}
use Rattle.std.proofs.Common.{take, codes, slice_get, slice_index_or, refl, sym, ap, Option, Some, None, arith, inl}
use Rattle.std.proofs.Common.{inr}
use Rattle.std.specs.List.{flat_map}
use Rattle.std.proofs.lemmas.Int.{ints}
use Rattle.std.proofs.lemmas.List.{take_all, get_or_past}
use Rattle.std.proofs.lemmas.Option.{slice_get_cases, get_or_from_slice_get}
use Rattle.obj_writer.specs.Whole.{name_line, material_line}

-- a list ends where nothing stands
pub past_end : {X : Type 0} (xs : List X) (k : ℕ) → slice_get xs k ≡ None → length xs ≤ k
past_end {X = X} xs k none = elim (slice_get_cases xs k).1 [
  | inl here ↦ absurd (cc)
  | inr past ↦ past.0
]

-- no line for a number below 0
pub material_below : (names : List (List ℕ)) (n : ℤ) → n <ℤ pos 0 → [] ≡ material_line names n
material_below names (pos m) below = absurd (omega (arith, ints))
material_below names (negsuc m) below = refl

-- no name for 0
pub material_none : (names : List (List ℕ)) (n : ℤ) → unsigned_abs n ≡ 0 → codes "usemtl\n" ≡ material_line names n
material_none names (pos m) none = ap (λ (k : ℕ). material_line names (pos k)) (sym none)
material_none names (negsuc m) none = absurd (omega (arith, none))

-- the name at a place, or none past the last
abbrev name_at : Option (List ℕ) → List ℕ
name_at None = []
name_at (Some name) = name

index_or : (names : List (List ℕ)) (k : ℕ) (o : Option (List ℕ)) → slice_get names k ≡ o
    → slice_index_or names k [] ≡ name_at o
index_or names k (Some name) get = get_or_from_slice_get names k name [] get
index_or names k None none = get_or_past names k [] (past_end names k none)

-- the line of a number above 0, whose name a reader gives
pub material_told : (names : List (List ℕ)) (n : ℤ) (k : ℕ) (o : Option (List ℕ)) → pos 0 ≤ℤ n → unsigned_abs n ≡ k + 1
    → slice_get names k ≡ o → name_line (codes "usemtl") (name_at o) ≡ material_line names n
material_told names (pos m) k o above is get =
    let same : m ≡ suc k = omega (arith, is) in
    ap (name_line (codes "usemtl")) (sym (index_or names k o get))
    ∙ ap (λ (j : ℕ). material_line names (pos j)) (sym same)
material_told names (negsuc m) k o above is get = absurd (omega (arith, ints))

-- all names
pub names_all : (f : List ℕ → List ℕ) (names : List (List ℕ)) (k : ℕ) (out : List ℕ) → slice_get names k ≡ None
    → out ≡ flat_map f (take k names) → out ≡ flat_map f names
names_all f names k out none so_far = so_far ∙ ap (flat_map f) (take_all k names (past_end names k none))
