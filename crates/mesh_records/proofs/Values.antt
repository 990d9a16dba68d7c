-- Rows of values: written, and made as room is.
use Rattle.std.proofs.Common.{◌≡◌, ◌≤◌, ◌<◌, ◌-◌, ℕ, ℤ, List, [], Option, Some, None, length, replicate, refl, sym, ap, ◌∙◌, subst, inl, inr, arith}
use Rattle.std.specs.Option.{option_map}
use Rattle.std.proofs.lemmas.Bool.{cases_lt}
use Rattle.std.proofs.lemmas.List.{length-replicate, length-set, get_or_append_left, get_or-set_same, get_or-set_other, get_or_past}
use Rattle.std.proofs.lemmas.List.Elements.{All-set, All-replicate, All-get_or}
use Rattle.std.proofs.lemmas.List.Elements.{All-append}
use Rattle.cust_data.specs.Layers.{LayerTable, IsTable, total, zeros, row_of, with_row, with_places}
use Rattle.raw_pool.specs.declared.pool.Slot.{Slot}
use Rattle.mesh_store.specs.Slots.{at}
use Rattle.mesh_store.specs.Room.{WidensRows}
use Rattle.mesh_records.specs.Puts.{row_like}

-- a row that is as long as the layers are wide is written
pub table_written : (t : LayerTable) (place : ℕ) (row : List ℤ) → length row ≡ total t.layers → IsTable t
    → IsTable (with_row t place row)
table_written t place row wide h = record {
  layers = h.layers;
  fitted = All-set (λ (r : List ℤ). length r ≡ total t.layers) t.rows place row wide h.fitted;
}

-- rows of zeros come behind
pub table_longer : (t : LayerTable) (places : ℕ) → IsTable t → IsTable (with_places t places)
table_longer t places h =
    let P = λ (r : List ℤ). length r ≡ total t.layers in
    record {
      layers = h.layers;
      fitted = All-append P t.rows (replicate (places - length t.rows) (zeros (total t.layers))) h.fitted
          (All-replicate P (places - length t.rows) (zeros (total t.layers)) (length-replicate (total t.layers) _));
    }

pub table_widened : {old new : LayerTable} {most : ℕ} → WidensRows old new most → IsTable old → IsTable new
table_widened {old} w h = subst IsTable (sym w.same) (table_longer old w.until h)

pub layers_widened : {old new : LayerTable} {most : ℕ} → WidensRows old new most → new.layers ≡ old.layers
layers_widened w = ap (λ (t : LayerTable). t.layers) w.same

-- a row that is there stays
pub row_widened : {old new : LayerTable} {most : ℕ} → WidensRows old new most → (s : ℕ) → s < length old.rows
    → row_of new s ≡ row_of old s
row_widened {old} w s low =
    ap (λ (t : LayerTable). row_of t s) w.same
    ∙ get_or_append_left old.rows (replicate (w.until - length old.rows) (zeros (total old.layers))) [] s low

-- what is told of a cell and its row stays, where each place has a row
pub told_widened : {X Z : Type 0} (tell : X → List ℤ → Z) (old new : List (Option X)) (t u : LayerTable) (most : ℕ)
    → WidensRows t u most → ((s : ℕ) → at new s ≡ at old s) → length old ≤ length t.rows
    → (s : ℕ) → option_map (λ (c : X). tell c (row_of u s)) (at new s)
    ≡ option_map (λ (c : X). tell c (row_of t s)) (at old s)
told_widened {X} {Z} tell old new t u most w cells rows s = elim (cases_lt s (length old)) [
  | inl lt ↦
      ap (option_map (λ (c : X). tell c (row_of u s))) (cells s)
      ∙ ap (λ (r : List ℤ). option_map (λ (c : X). tell c r) (at old s)) (row_widened w s (omega arith))
  | inr ge ↦
      let none : at old s ≡ None = get_or_past old s None ge in
      let q : None ≡ option_map (λ (c : X). tell c (row_of t s)) (at old s) =
      sym (ap (option_map (λ (c : X). tell c (row_of t s))) none) in
      ap (option_map (λ (c : X). tell c (row_of u s))) (cells s ∙ none) ∙ q
]

-- the row of a place is as long as the layers are wide
pub row_long : (t : LayerTable) (s : ℕ) → IsTable t → s < length t.rows → length (row_of t s) ≡ total t.layers
row_long t s h low = All-get_or (λ (r : List ℤ). length r ≡ total t.layers) t.rows s [] low h.fitted

-- so is that of an example
pub like_long : (t : LayerTable) (like : Option Slot) → IsTable t → ((s : Slot) → like ≡ Some s → s.0 < length t.rows)
    → length (row_like t like) ≡ total t.layers
like_long t None h low = length-replicate (total t.layers) _
like_long t (Some s) h low = row_long t s.0 h (low s refl)

-- a row is read where it was written, and the others are as before
pub row_written : (t : LayerTable) (s : ℕ) (row : List ℤ) → s < length t.rows → row_of (with_row t s row) s ≡ row
row_written t s row low = get_or-set_same t.rows s row [] low

pub row_unwritten : (t : LayerTable) (s k : ℕ) (row : List ℤ) → (k ≡ s → ⊥) → row_of (with_row t s row) k ≡ row_of t k
row_unwritten t s k row ne = get_or-set_other t.rows s k row [] ne

-- there are as many rows as before
pub rows_written : (t : LayerTable) (s : ℕ) (row : List ℤ) → length (with_row t s row).rows ≡ length t.rows
rows_written t s row = length-set t.rows s row
