-- Terms: the elements that an argument names.
use Rattle.std.specs.Prelude.{ℕ, ◌==◌, nat_le, if◌then◌else◌, codes, List, [], ◌∷◌, length, Option, Some, None}
use Rattle.std.specs.Prelude.{option_and_then, option_map}
use Rattle.text_words.specs.Each.{each}
use Rattle.text_words.specs.Text.{is_text, natural, parts_of, cut}
use Rattle.mesh_model.specs.declared.names.VertName.{VertName}
use Rattle.mesh_model.specs.declared.names.Elem.{Elem}
use Rattle.mesh_model.specs.declared.names.Elem.TheVariants.{Vert, Edge, Face}
use Rattle.mesh_model.specs.declared.names.Kind.{Kind}
use Rattle.mesh_model.specs.declared.names.Kind.TheVariants.{Verts, Edges, Faces}
use Rattle.op_slots.specs.declared.term.Term.{Term}
use Rattle.op_slots.specs.declared.term.Term.TheVariants.{One, Range, All, Slot}
use Rattle.script_text.specs.Names.{is_name}
use Rattle.script_text.specs.Table.{found}

infixl 10 ◌>>=◌
abbrev ◌>>=◌ : {A B : Type 0} → Option A → (A → Option B) → Option B
o >>= f = option_and_then f o

-- v, e or f
abbrev pub kind_of_letter : ℕ → Option Kind
kind_of_letter b =
    if b == 118 then Some Verts else if b == 101 then Some Edges else if b == 102 then Some Faces else None

abbrev pub elem : Kind → ℕ → Elem
elem Verts n = Vert (record { 0 = n })
elem Edges n = Edge (record { 0 = n })
elem _ n = Face (record { 0 = n })

-- the range from a number to a letter and a number
abbrev pub range : ℕ → Kind → List ℕ → List ℕ → Option Term
range letter kind first [] = None
range letter kind first (again ∷ ds) = if again == letter then (do
  n ← natural 9 first
  m ← natural 9 ds
  if nat_le n m then Some (Range kind n m) else None) else None

-- what stands behind a letter without a dash, or with one
abbrev one_or_range : ℕ → Kind → List ℕ → Option (List ℕ × List ℕ) → Option Term
one_or_range letter kind rest None = option_map (λ n. One (elem kind n)) (natural 9 rest)
one_or_range letter kind rest (Some (first, last)) = range letter kind first last

-- a letter with a number, or a range
abbrev pub numbered : ℕ → List ℕ → Option Term
numbered letter rest = do
  kind ← kind_of_letter letter
  one_or_range letter kind rest (cut 45 rest)

abbrev pub suffix : List ℕ → Option Kind
suffix word = found ((codes "verts", Verts) ∷ (codes "edges", Edges) ∷ (codes "faces", Faces) ∷ []) word

abbrev pub named : List ℕ → Option Kind → Option Term
named name kind = if is_name name then Some (Slot name kind) else None

-- a slot's name without a suffix, or with one
abbrev slot_at : List ℕ → Option (List ℕ × List ℕ) → Option Term
slot_at word None = named word None
slot_at word (Some (name, ending)) = do
  kind ← suffix ending
  named name (Some kind)

abbrev pub slot : List ℕ → Option Term
slot word = slot_at word (cut 46 word)

-- a dollar sign and a slot, or a letter and numbers
abbrev slot_or_numbered : List ℕ → Option Term
slot_or_numbered [] = None
slot_or_numbered (b ∷ rest) = if b == 36 then slot rest else numbered b rest

abbrev pub term : List ℕ → Option Term
term word =
    if is_text (codes "all") word then Some (All None)
    else if is_text (codes "all.v") word then Some (All (Some Verts))
    else if is_text (codes "all.e") word then Some (All (Some Edges))
    else if is_text (codes "all.f") word then Some (All (Some Faces))
    else slot_or_numbered word

-- the value of each of at most so many words
abbrev pub at_most : {Y : Type 0} → ℕ → (List ℕ → Option Y) → List (List ℕ) → Option (List Y)
at_most most f ws = if nat_le (length ws) most then each f ws else None

-- at most 4,096 terms between commas
abbrev pub geom_of : List (List ℕ) → Option (List Term)
geom_of ws = at_most 4096 term ws

abbrev pub geom : List ℕ → Option (List Term)
geom word = geom_of (parts_of 44 word)

-- a vertex: the letter v and 1 to 9 digits
abbrev pub vert : List ℕ → Option VertName
vert [] = None
vert (b ∷ ds) = if b == 118 then option_map (λ n. record { 0 = n }) (natural 9 ds) else None

abbrev pub verts_of : List (List ℕ) → Option (List VertName)
verts_of ws = at_most 4096 vert ws

abbrev pub verts : List ℕ → Option (List VertName)
verts word = verts_of (parts_of 44 word)
