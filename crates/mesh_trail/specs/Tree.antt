-- Entries in the order of noting, as a search tree by the bits of names, the lowest first. Entry 0 is its root, and a
-- link 0 leads nowhere.
use Rattle.std.specs.Prelude.{◌≡◌, ◌≢◌, ℕ, zero, suc, ◌<◌, ◌≤◌, Bool, true, false, is_some, nat_lt, min, ◌/◌, ◌%◌, ◌==◌, if◌then◌else◌, List, [], ◌∷◌, ◌++◌, map, length, take, slice_get}
use Rattle.std.specs.List.Sorted.{IsNonDecreasingBy}
use Rattle.std.specs.declared.option.Option.{Option}
use Rattle.std.specs.declared.option.Option.TheVariants.{None, Some}
use Rattle.std.specs.FinMap.{get, from_entries}
use Rattle.mesh_model.specs.ChangeSetNotes.{Notes}
use Rattle.mesh_trail.specs.declared.note_map.Entry.{Entry}
use Rattle.mesh_trail.specs.declared.note_map.Spot.{Spot}
use Rattle.mesh_trail.specs.declared.note_map.Spot.TheVariants.{Here, Free}

-- an entry as a name and what it had
abbrev pub pair_of : {R : Type 0} → Entry R → ℕ × Option R
pair_of e = (e.name, e.was)

abbrev pub pairs : {R : Type 0} → List (Entry R) → List (ℕ × Option R)
pairs es = map pair_of es

-- a pair behind the others, where its name has none
abbrev pub with_pair : {R : Type 0} → Bool → List (ℕ × Option R) → ℕ → Option R → List (ℕ × Option R)
with_pair true ps name was = ps
with_pair false ps name was = ps ++ (name, was) ∷ []

-- the link that some bits follow
abbrev pub link : {R : Type 0} → Option (Entry R) → ℕ → ℕ
link None bits = 0
link (Some e) bits = if bits % 2 == 0 then e.even else e.odd

abbrev pub link_at : {R : Type 0} → List (Entry R) → ℕ → ℕ → ℕ
link_at es i bits = link (slice_get es i) bits

-- some steps lead from one entry to another
abbrev pub Leads : {R : Type 0} → ℕ → List (Entry R) → ℕ → ℕ → ℕ → Type 0
Leads zero es bits i j = i ≡ j
Leads (suc d) es bits i j = (link_at es i bits ≢ 0) × Leads d es (bits / 2) (link_at es i bits) j

abbrev pub IsReached : {R : Type 0} → List (Entry R) → ℕ → ℕ → ℕ → Type 0
IsReached es bits i j = (d : ℕ) × Leads d es bits i j

-- each link leads to a later entry; each entry is reached by its name; no two have one name
pub record IsTree {R : Type 0} (es : List (Entry R)) : Type 0 where
  pub up : (i bits : ℕ) → link_at es i bits ≢ 0 → (i < link_at es i bits) × (link_at es i bits < length es)
  pub reached : (j : ℕ) (e : Entry R) → slice_get es j ≡ Some e → IsReached es e.name 0 j
  pub apart : (j k : ℕ) (d e : Entry R) → slice_get es j ≡ Some d → slice_get es k ≡ Some e → d.name ≡ e.name → j ≡ k

-- no entry has a name
abbrev pub IsAbsent : {R : Type 0} → List (Entry R) → ℕ → Type 0
IsAbsent {R} es name = (j : ℕ) (e : Entry R) → slice_get es j ≡ Some e → e.name ≢ name

-- links are kept, and more may be set
abbrev pub KeepsLinks : {R : Type 0} → List (Entry R) → List (Entry R) → Type 0
KeepsLinks es later = (i bits : ℕ) → link_at es i bits ≢ 0 → link_at later i bits ≡ link_at es i bits

-- the free link at the end of a name's path
pub record IsFree {R : Type 0} (es : List (Entry R)) (name at bits : ℕ) : Type 0 where
  pub within : at < length es
  pub free : link_at es at bits ≡ 0
  pub absent : IsAbsent es name
  pub path : (later : List (Entry R)) → KeepsLinks es later → (j : ℕ) → IsReached later bits at j
      → IsReached later name 0 j

-- the entry of a name, or the free link where it would hang
abbrev pub IsSpot : {R : Type 0} → List (Entry R) → ℕ → Spot → Type 0
IsSpot {R} es name (Here i) = (e : Entry R) × (slice_get es i ≡ Some e) × (e.name ≡ name)
IsSpot es name (Free at bits) = IsFree es name at bits

-- a walk by a name's bits stands at an entry
pub record IsOnPath {R : Type 0} (es : List (Entry R)) (name at bits : ℕ) : Type 0 where
  pub within : at < length es
  pub near : (j : ℕ) (e : Entry R) → slice_get es j ≡ Some e → e.name ≡ name → IsReached es bits at j
  pub path : (later : List (Entry R)) → KeepsLinks es later → (j : ℕ) → IsReached later bits at j
      → IsReached later name 0 j

-- an entry with another link
abbrev pub with_link : {R : Type 0} → Entry R → ℕ → ℕ → Entry R
with_link e bits to = if bits % 2 == 0 then record e { even = to } else record e { odd = to }

-- the names of the entries
abbrev pub names_of : {R : Type 0} → List (Entry R) → Notes R
names_of es = from_entries (pairs es)

-- the entries are a tree, their positions fit the links, and the names of the first few rise
pub record AreNoted {R : Type 0} (es : List (Entry R)) (count rising : ℕ) : Type 0 where
  pub tree : IsTree es
  pub few : count ≤ 4294967295
  pub within : rising ≤ count
  pub ordered : IsNonDecreasingBy (λ x. x.0) (take rising (pairs es))

-- the names rise, and none is above this one
pub record IsBehind {R : Type 0} (ps : List (ℕ × Option R)) (name : ℕ) : Type 0 where
  pub ordered : IsNonDecreasingBy (λ x. x.0) ps
  pub last : (i : ℕ) (x : ℕ × Option R) → slice_get ps i ≡ Some x → x.0 ≤ name

-- in a front the names of the first few are below a number, and the others aren't
pub record IsFirstFrom {R : Type 0} (es : List (Entry R)) (front least at : ℕ) : Type 0 where
  pub within : at ≤ front
  pub below : (i : ℕ) (e : Entry R) → i < at → slice_get es i ≡ Some e → e.name < least
  pub from : (i : ℕ) (e : Entry R) → at ≤ i → i < front → slice_get es i ≡ Some e → least ≤ e.name

-- the least noted name from a number on
pub record IsLeastFrom {R : Type 0} (names : Notes R) (least name : ℕ) : Type 0 where
  pub from : least ≤ name
  pub there : is_some (get names name) ≡ true
  pub first : (q : ℕ) → least ≤ q → q < name → get names q ≡ None

abbrev pub IsLeast : {R : Type 0} → Notes R → ℕ → Option ℕ → Type 0
IsLeast names least None = (q : ℕ) → least ≤ q → get names q ≡ None
IsLeast names least (Some name) = IsLeastFrom names least name

abbrev pub least_of : Option ℕ → ℕ → ℕ
least_of None name = name
least_of (Some best) name = min best name

-- the lesser of two names, leaving out one below a number
abbrev pub nearer_name : Option ℕ → ℕ → ℕ → Option ℕ
nearer_name best least name = if nat_lt name least then best else Some (least_of best name)
