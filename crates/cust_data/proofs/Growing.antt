-- What more places, and one layer more, leave.
use Rattle.std.proofs.Common.{◌≡◌, ℕ, ◌-◌, ◌≤◌, ◌<◌, ℤ, List, [], ◌++◌, length, map, get_or, replicate, arith, refl, sym, ap, ◌∙◌, inl, inr}
use Rattle.std.proofs.lemmas.Bool.{cases_lt}
use Rattle.std.proofs.lemmas.List.{ext_get_or, length-append, length-replicate, get_or_append_left, get_or-append_right, get_or-replicate, append-nil}
use Rattle.std.proofs.lemmas.List.Elements.{All-map}
use Rattle.cust_data.specs.Layers.{Layer, LayerTable, IsTable, total, zeros, with_places}
use Rattle.cust_data.specs.Filled.{Filled, grown}
use Rattle.cust_data.specs.Inside.{layers_of, row_at, rows_of, table_of, IsFilled, ColumnsHold, grown_front}
use Rattle.cust_data.proofs.Columns.{layers-map, layers-changed, row_at-map, row_at-changed, all_changed, cell_at-grown, filled_grown, filled_more, row_at_spare, row_of-table, length-rows_of, same_table, is_table}

-- some columns were grown: the table is as before
pub front_holds : (places i n : ℕ) (cs : List Filled) → ColumnsHold cs n → ColumnsHold (grown_front places i cs) n
front_holds places i n cs h = record {
  filled = all_changed (IsFilled n) (grown places) (λ c f. filled_grown n places c f) i cs h.filled;
  layers = rw (layers-changed (grown places) (λ c. refl) i cs) h.layers;
}

pub front_table : (places i n : ℕ) (cs : List Filled) → table_of (grown_front places i cs) n ≡ table_of cs n
front_table places i n cs =
    same_table cs (grown_front places i cs) n (layers-changed (grown places) (λ c. refl) i cs)
    (λ k. row_at-changed (grown places) k (λ c. cell_at-grown places c k) i cs)

-- all columns were grown: the table has more places
pub grown_holds : (m n : ℕ) (cs : List Filled) → ColumnsHold cs n → n ≤ m → ColumnsHold (map (grown m) cs) m
grown_holds m n cs h more = record {
  filled = All-map (IsFilled m) (grown m) cs (λ k d low. filled_more n m (get_or cs k d) (h.filled k d low) more);
  layers = rw (layers-map (grown m) (λ c. refl) cs) h.layers;
}

-- the rows of more places are those of fewer, and zeros
rows_more : (m n : ℕ) (cs ds : List Filled) → ColumnsHold cs n → n ≤ m → ((k : ℕ) → row_at ds k ≡ row_at cs k)
    → rows_of ds m ≡ rows_of cs n ++ replicate (m - n) (zeros (total (layers_of cs)))
rows_more m n cs ds h more same =
    let count : length (replicate (m - n) (zeros (total (layers_of cs)))) ≡ m - n =
    length-replicate (m - n) (zeros (total (layers_of cs))) in
    ext_get_or [] (rows_of ds m) (rows_of cs n ++ replicate (m - n) (zeros (total (layers_of cs))))
    (omega (
      arith,
      length-rows_of ds m,
      length-append (rows_of cs n) (replicate (m - n) (zeros (total (layers_of cs)))),
      length-rows_of cs n,
      count,
    ))
    (λ k low.
    let k_low : k < m = omega (arith, length-rows_of ds m) in
    row_of-table ds m k k_low ∙ (same k ∙ elim (cases_lt k n) [
      | inl there ↦ sym (get_or_append_left (rows_of cs n) (replicate (m - n) (zeros (total (layers_of cs)))) [] k
          (omega (arith, length-rows_of cs n)) ∙ row_of-table cs n k there)
      | inr past ↦ row_at_spare n k cs h.filled past
          ∙ sym (get_or-append_right (rows_of cs n) (replicate (m - n) (zeros (total (layers_of cs)))) n k []
          (length-rows_of cs n) past
          ∙ get_or-replicate (m - n) (k - n) (zeros (total (layers_of cs))) [] (omega arith))
    ]))

pub grown_table : (m n : ℕ) (cs : List Filled) → ColumnsHold cs n → n ≤ m
    → table_of (map (grown m) cs) m ≡ with_places (table_of cs n) m
grown_table m n cs h more =
    ap (λ (ls : List Layer). record { layers = ls; rows = rows_of (map (grown m) cs) m })
    (layers-map (grown m) (λ c. refl) cs)
    ∙ (ap (λ (rs : List (List ℤ)). record { layers = layers_of cs; rows = rs })
    (rows_more m n cs (map (grown m) cs) h more (λ k. row_at-map (grown m) k (λ c. cell_at-grown m c k) cs))
    ∙ ap (λ (k : ℕ). record {
      layers = layers_of cs;
      rows = rows_of cs n ++ replicate (m - k) (zeros (total (layers_of cs)));
    }) (sym (length-rows_of cs n)))

-- where there are enough places, no more come
pub enough_places : (t : LayerTable) (places : ℕ) → places ≤ length t.rows → t ≡ with_places t places
enough_places t places le =
    let none : places - length t.rows ≡ 0 = omega arith in
    ap (λ (rs : List (List ℤ)). record { layers = t.layers; rows = rs }) (sym (append-nil t.rows))
    ∙ ap (λ (k : ℕ). record { layers = t.layers; rows = t.rows ++ replicate k (zeros (total t.layers)) }) (sym none)

-- what a call that leaves columns xs says of the table
pub record TableSaid (xs : List Filled) (n : ℕ) (t : LayerTable) : Type 0 where
  pub holds : ColumnsHold xs n
  pub said : table_of xs n ≡ t
  pub table : IsTable (table_of xs n)

pub table_said : (xs ds : List Filled) (n : ℕ) (t : LayerTable) → xs ≡ ds → ColumnsHold ds n → table_of ds n ≡ t
    → TableSaid xs n t
table_said xs ds n t e h said = rw e record { holds = h; said = said; table = is_table ds n h }

-- some columns were grown
pub front_said : (xs ds cs : List Filled) (places i n : ℕ) (t : LayerTable) → xs ≡ ds → ds ≡ grown_front places i cs
    → ColumnsHold cs n → table_of cs n ≡ t → TableSaid xs n t
front_said xs ds cs places i n t e grew h was =
    table_said xs (grown_front places i cs) n t (e ∙ grew) (front_holds places i n cs h)
    (front_table places i n cs ∙ was)

-- all were
pub grown_said : (xs ds cs : List Filled) (m n : ℕ) (t : LayerTable) → xs ≡ ds → ds ≡ map (grown m) cs
    → ColumnsHold cs n → n ≤ m → table_of cs n ≡ t → TableSaid xs m (with_places t m)
grown_said xs ds cs m n t e grew h more was =
    table_said xs (map (grown m) cs) m (with_places t m) (e ∙ grew) (grown_holds m n cs h more)
    (grown_table m n cs h more ∙ ap (λ (x : LayerTable). with_places x m) was)
