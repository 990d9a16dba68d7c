-- The slots by rising name are those of the names in a table.
use Rattle.std.proofs.Common.{◌≡◌, ℕ, suc, ◌+◌, is_some, List, [], ◌∷◌, Option, Some, None, map, refl, sym, ap, ◌∙◌, subst, inl, inr, arith}
use Rattle.std.specs.List.{filter, enumerate_from}
use Rattle.std.proofs.lemmas.Bool.{false≢true}
use Rattle.raw_pool.specs.declared.pool.Slot.{Slot}
use Rattle.raw_pool.specs.Slots.{IsLive}
use Rattle.link_ring.specs.Members.{HasMember}
use Rattle.mesh_store.specs.Slots.{at}
use Rattle.mesh_store.specs.Naming.{AreNamed}
use Rattle.mesh_cycles.specs.Found.{AllLive, by_name}
use Rattle.mesh_model.specs.Table.{at as record_at}
use Rattle.mesh_records.proofs.Elements.{name_live}

-- the slots that names lead to are live
live_by : {X : Type 0} (cells : List (Option X)) (names : List (Option Slot))
    → ((k : ℕ) (s : Slot) → at names k ≡ Some s → IsLive cells s.0) → AllLive cells (by_name names)
live_by cells [] h s m = absurd m
live_by cells (None ∷ names) h s m = live_by cells names (λ k t e. h (suc k) t e) s m
live_by cells (Some x ∷ names) h s m = elim m [
  | inl e ↦ h 0 s (ap (λ (t : Slot). Some t) e)
  | inr r ↦ live_by cells names (λ k t e. h (suc k) t e) s r
]

pub all_live : {X : Type 0} {number : X → ℕ} {cells : List (Option X)} {names : List (Option Slot)}
    → AreNamed number cells names → (ls : List Slot) → ls ≡ by_name names → AllLive cells ls
all_live {cells = cells} {names = names} n ls same s m = let P =
    λ (xs : List Slot). HasMember xs s in live_by cells names (λ k t e. name_live n k t e) s (subst P same m)

module _ {X N : Type 0} (f : Slot → N) (name : ℕ → N) where
  -- the names from m on
  listed : ℕ → List (Option X) → List N
  listed m table = map name (map (λ e. e.0) (filter (λ e. is_some e.1) (enumerate_from m table)))

  names_from : (m : ℕ) (names : List (Option Slot)) (table : List (Option X))
      → ((k : ℕ) → is_some (at names k) ≡ is_some (record_at table k))
      → ((k : ℕ) (s : Slot) → at names k ≡ Some s → f s ≡ name (m + k))
      → map f (by_name names) ≡ listed m table
  unfolding listed
  names_from m [] [] same told = refl
  names_from m [] (None ∷ table) same told =
      names_from (m + 1) [] table (λ k. same (suc k)) (λ k s e. absurd (let no : None ≡ Some s = e in cc))
  names_from m [] (Some x ∷ table) same told = absurd (false≢true (same 0))
  names_from m (None ∷ names) [] same told =
      names_from (m + 1) names [] (λ k. same (suc k)) (λ k s e. told (suc k) s e
      ∙ ap name (let q : m + suc k ≡ m + 1 + k = omega arith in q))
  names_from m (Some s ∷ names) [] same told = absurd (false≢true (sym (same 0)))
  names_from m (None ∷ names) (None ∷ table) same told =
      names_from (m + 1) names table (λ k. same (suc k)) (λ k s e. told (suc k) s e
      ∙ ap name (let q : m + suc k ≡ m + 1 + k = omega arith in q))
  names_from m (None ∷ names) (Some x ∷ table) same told = absurd (false≢true (same 0))
  names_from m (Some s ∷ names) (None ∷ table) same told = absurd (false≢true (sym (same 0)))
  names_from m (Some s ∷ names) (Some x ∷ table) same told =
      let one : f s ≡ name m = told 0 s refl ∙ ap name (let q : m + 0 ≡ m = omega arith in q) in
      let more = names_from (m + 1) names table (λ k. same (suc k))
      (λ k t e. told (suc k) t e ∙ ap name (let q : m + suc k ≡ m + 1 + k = omega arith in q)) in
      λ i. one i ∷ more i

  pub names_all : (names : List (Option Slot)) (table : List (Option X))
      → ((k : ℕ) → is_some (at names k) ≡ is_some (record_at table k))
      → ((k : ℕ) (s : Slot) → at names k ≡ Some s → f s ≡ name k)
      → map f (by_name names) ≡ map name (map (λ e. e.0) (filter (λ e. is_some e.1) (enumerate_from 0 table)))
  unfolding listed
  names_all names table same told = names_from 0 names table same
      (λ k s e. told k s e ∙ ap name (let q : k ≡ 0 + k = omega arith in q))
