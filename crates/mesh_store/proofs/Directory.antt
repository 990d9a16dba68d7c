-- A cell is added to a pool with names, or taken out of it.
use Rattle.std.proofs.Common.{◌≡◌, ℕ, ◌<◌, List, Option, Some, None, length, sym, ap, ◌∙◌, subst, inl, inr, arith}
use Rattle.std.specs.Prelude.{slice_set}
use Rattle.std.specs.Option.{option_map}
use Rattle.std.proofs.lemmas.List.{length-set}
use Rattle.std.proofs.lemmas.Bool.{cases_eq}
use Rattle.raw_pool.specs.declared.pool.Slot.{Slot}
use Rattle.raw_pool.specs.Tags.{tag_at, ChangesTag}
use Rattle.mesh_store.specs.Slots.{at}
use Rattle.mesh_store.specs.Naming.{AreNamed}
use Rattle.mesh_store.specs.Inside.{NamesHold, mark_of}
use Rattle.mesh_store.proofs.Places.{below, written, unwritten}

module _ {X : Type 0} (number : X → ℕ) (cells : List (Option X)) (names : List (Option Slot))
    (h : AreNamed number cells names) where
  -- the number of a live cell is within the directory
  pub number_below : (s : ℕ) (x : X) → at cells s ≡ Some x → number x < length names
  number_below s x e = below names (number x) (record { 0 = s }) (h.named s x e)

  -- ---- a cell is added at a vacant slot

  module _ (s : Slot) (x : X) (vacant : at cells s.0 ≡ None) (low : s.0 < length cells)
      (unnamed : at names (number x) ≡ None) (reach : number x < length names) where
    added_named : (t : ℕ) (y : X) → at (slice_set cells s.0 (Some x)) t ≡ Some y
        → at (slice_set names (number x) (Some s)) (number y) ≡ Some (record { 0 = t })
    added_named t y e = elim (cases_eq t s.0) [
      | inl p ↦
          let e' : at (slice_set cells s.0 (Some x)) s.0 ≡ Some y =
          (let P = λ (k : ℕ). at (slice_set cells s.0 (Some x)) k ≡ Some y in subst P p e) in
          let w = written cells s.0 (Some x) low in
          let same : x ≡ y = cc in
          let P = λ (z : X). at (slice_set names (number x) (Some s)) (number z) ≡ Some (record { 0 = t }) in
          subst P same (written names (number x) (Some s) reach ∙ (λ i. Some (record { 0 = sym p i })))
      | inr n ↦
          let e' : at cells t ≡ Some y = sym (unwritten cells s.0 t (Some x) n) ∙ e in
          let was = h.named t y e' in
          unwritten names (number x) (number y) (Some s) (λ q. let u : at names (number y) ≡ None =
          (let P = λ (k : ℕ). at names k ≡ None in subst P (sym q) unnamed) in cc) ∙ was
    ]

    added_live : (n : ℕ) (t : Slot) → at (slice_set names (number x) (Some s)) n ≡ Some t
        → option_map number (at (slice_set cells s.0 (Some x)) t.0) ≡ Some n
    added_live n t e = elim (cases_eq n (number x)) [
      | inl p ↦
          let e' : at (slice_set names (number x) (Some s)) (number x) ≡ Some t =
          (let P = λ (k : ℕ). at (slice_set names (number x) (Some s)) k ≡ Some t in subst P p e) in
          let w = written names (number x) (Some s) reach in
          let same : s ≡ t = cc in
          let P = λ (u : Slot). option_map number (at (slice_set cells s.0 (Some x)) u.0) ≡ Some n in
          subst P same (ap (option_map number) (written cells s.0 (Some x) low) ∙ ap Some (sym p))
      | inr d ↦
          let was = h.live n t (sym (unwritten names (number x) n (Some s) d) ∙ e) in
          ap (option_map number) (unwritten cells s.0 t.0 (Some x)
          (λ q. let u : at cells t.0 ≡ None = (let P = λ (k : ℕ). at cells k ≡ None in subst P (sym q) vacant) in
          let v = sym (ap (option_map number) u) ∙ was in (cc)))
          ∙ was
    ]

    pub added_directory : AreNamed number (slice_set cells s.0 (Some x)) (slice_set names (number x) (Some s))
    added_directory = record { named = added_named; live = added_live }

  -- ---- a cell is taken out

  module _ (s : ℕ) (x : X) (was : at cells s ≡ Some x) where
    low : s < length cells
    low = below cells s x was

    reach : number x < length names
    reach = number_below s x was

    removed_named : (t : ℕ) (y : X) → at (slice_set cells s None) t ≡ Some y
        → at (slice_set names (number x) None) (number y) ≡ Some (record { 0 = t })
    removed_named t y e = elim (cases_eq t s) [
      | inl p ↦
          let e' : at (slice_set cells s None) s ≡ Some y =
          (let P = λ (k : ℕ). at (slice_set cells s None) k ≡ Some y in subst P p e) in
          let w = written cells s None low in
          cc
      | inr n ↦
          let e' : at cells t ≡ Some y = sym (unwritten cells s t None n) ∙ e in
          let here = h.named t y e' in
          unwritten names (number x) (number y) None
          (λ q. let there : at names (number y) ≡ Some (record { 0 = s }) =
          (let P = λ (k : ℕ). at names k ≡ Some (record { 0 = s }) in subst P (sym q) (h.named s x was)) in
          let same : Some (record { 0 = t }) ≡ Some (record { 0 = s }) = sym here ∙ there in
          n (ap (λ (o : Option Slot). elim o [ None ↦ t | Some u ↦ u.0 ]) same))
          ∙ here
    ]

    removed_live : (n : ℕ) (t : Slot) → at (slice_set names (number x) None) n ≡ Some t
        → option_map number (at (slice_set cells s None) t.0) ≡ Some n
    removed_live n t e = elim (cases_eq n (number x)) [
      | inl p ↦
          let e' : at (slice_set names (number x) None) (number x) ≡ Some t =
          (let P = λ (k : ℕ). at (slice_set names (number x) None) k ≡ Some t in subst P p e) in
          let w = written names (number x) None reach in
          cc
      | inr d ↦
          let here = h.live n t (sym (unwritten names (number x) n None d) ∙ e) in
          ap (option_map number) (unwritten cells s t.0 None
          (λ q. let there : option_map number (at cells t.0) ≡ Some (number x) =
          (let P = λ (k : ℕ). option_map number (at cells k)
          ≡ Some (number x) in subst P (sym q) (ap (option_map number) was)) in
          let same = sym here ∙ there in
          d (ap (λ (o : Option ℕ). elim o [ None ↦ n | Some u ↦ u ]) same)))
          ∙ here
    ]

    pub removed_directory : AreNamed number (slice_set cells s None) (slice_set names (number x) None)
    removed_directory = record { named = removed_named; live = removed_live }

-- ---- the bits of names

-- the bit of a name changes with what the name leads to
pub marked_set : (names : List (Option Slot)) (marks more : List ℕ) (k : ℕ) (o : Option Slot) → k < length names
    → ((j : ℕ) → tag_at marks j ≡ mark_of (at names j)) → ChangesTag marks more k (mark_of o) → (j : ℕ)
    → tag_at more j ≡ mark_of (at (slice_set names k o) j)
marked_set names marks more k o low h c j = elim (cases_eq j k) [
  | inl e ↦
      let P = λ (i : ℕ). tag_at more i ≡ mark_of (at (slice_set names k o) i) in
      subst P (sym e) (c.here ∙ ap mark_of (sym (written names k o low)))
  | inr n ↦ c.others j n ∙ h j ∙ ap mark_of (sym (unwritten names k j o n))
]

-- ---- both

module _ {X : Type 0} (number : X → ℕ) (cells : List (Option X)) (names : List (Option Slot)) (marks more : List ℕ)
    (h : NamesHold number cells names marks) (long : length more ≡ length marks) where
  -- a cell is added
  pub added : (s : Slot) (x : X) (n : ℕ) → number x ≡ n → at cells s.0 ≡ None → s.0 < length cells → at names n ≡ None
      → n < length names
      → ChangesTag marks more n 1 → NamesHold number (slice_set cells s.0 (Some x)) (slice_set names n (Some s)) more
  added s x n is vacant low unnamed reach changed =
      let P = λ (k : ℕ). NamesHold number (slice_set cells s.0 (Some x)) (slice_set names k (Some s)) more in
      let N = λ (k : ℕ). at names k ≡ None in
      let R = λ (k : ℕ). k < length names in
      let C = λ (k : ℕ). ChangesTag marks more k 1 in
      let back = sym is in
      subst P is (record {
        few_cells = simp length-set (h.few_cells);
        few_names = simp length-set (h.few_names);
        named = added_directory number cells names h.named s x vacant low (subst N back unnamed) (subst R back reach);
        room = (let l = length-set names (number x) (Some s) in let r = h.room in omega arith);
        marked = marked_set names marks more (number x) (Some s) (subst R back reach) h.marked (subst C back changed);
      })

  -- a cell is taken out
  pub removed : (s : ℕ) (x : X) (n : ℕ) → number x ≡ n → at cells s ≡ Some x → ChangesTag marks more n 0
      → NamesHold number (slice_set cells s None) (slice_set names n None) more
  removed s x n is was changed =
      let P = λ (k : ℕ). NamesHold number (slice_set cells s None) (slice_set names k None) more in
      let C = λ (k : ℕ). ChangesTag marks more k 0 in
      let none : Option Slot = None in
      subst P is (record {
        few_cells = simp length-set (h.few_cells);
        few_names = simp length-set (h.few_names);
        named = removed_directory number cells names h.named s x was;
        room = (let l = length-set names (number x) none in let r = h.room in omega arith);
        marked = marked_set names marks more (number x) None (number_below number cells names h.named s x was) h.marked
            (subst C (sym is) changed);
      })

-- a cell changes and keeps its number
pub updated : {X : Type 0} (number : X → ℕ) (cells : List (Option X)) (names : List (Option Slot)) (marks : List ℕ)
    (s : ℕ) (x y : X)
    → at cells s ≡ Some x → number y ≡ number x → NamesHold number cells names marks
    → NamesHold number (slice_set cells s (Some y)) names marks
updated {X} number cells names marks s x y was same h = record {
  few_cells = simp length-set (h.few_cells);
  few_names = h.few_names;
  named = record {
    named = λ t z e. elim (cases_eq t s) [
      | inl p ↦
          let e' : at (slice_set cells s (Some y)) s ≡ Some z =
          (let P = λ (k : ℕ). at (slice_set cells s (Some y)) k ≡ Some z in subst P p e) in
          let w = written cells s (Some y) (below cells s x was) in
          let is : y ≡ z = cc in
          let P = λ (k : ℕ). at names k ≡ Some (record { 0 = t }) in
          let Q = λ (k : ℕ). at names (number x) ≡ Some (record { 0 = k }) in
          subst P (sym same ∙ ap number is) (subst Q (sym p) (h.named.named s x was))
      | inr n ↦ h.named.named t z (sym (unwritten cells s t (Some y) n) ∙ e)
    ];
    live = λ n t e. elim (cases_eq t.0 s) [
      | inl p ↦
          let P = λ (k : ℕ). option_map number (at (slice_set cells s (Some y)) k) ≡ Some n in
          let Q = λ (k : ℕ). option_map number (at cells k) ≡ Some n in
          subst P (sym p) (ap (option_map number) (written cells s (Some y) (below cells s x was)) ∙ ap Some same
          ∙ sym (ap (option_map number) was) ∙ subst Q p (h.named.live n t e))
      | inr d ↦ ap (option_map number) (unwritten cells s t.0 (Some y) d) ∙ h.named.live n t e
    ];
  };
  room = h.room;
  marked = h.marked;
}
