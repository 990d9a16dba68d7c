-- The names that a text gives can be written.
use Rattle.std.proofs.Common.{◌≡◌, ◌<◌, ◌+◌, ◌-◌, ◌∙◌, ◌||◌, ◌==◌, ℕ, zero, suc, ℤ, pos, true, false, not, nat_le, nat_lt, Bool}
use Rattle.std.proofs.Common.{cond, List, [], ◌∷◌, ◌++◌, length, map, take, drop, refl, sym, ap, arith, Option, Some, None}
use Rattle.std.proofs.Common.{Result, Ok, Err}
use Rattle.std.specs.List.{All, list_all, list_any, position, position_or_len, onto_first, zip}
use Rattle.std.proofs.lemmas.Bool.{and_parts, and_from, or_parts, or_from, not-true, false≢true, false_from_ne_true}
use Rattle.std.proofs.lemmas.List.Folds.{list_all-append, list_any-append}
use Rattle.std.proofs.lemmas.List.Elements.{All-nil, All-push}
use Rattle.text_words.specs.Text.{lines, words}
use Rattle.text_words.specs.Trims.{is_of, kept, trimmed, skipped}
use Rattle.text_words.specs.declared.trims.ByteClass.TheVariants.{CarriageReturn, Blank, NoBlank, BlankOrBackslash}
use Rattle.text_words.specs.Outcome.{◌>>=◌, ok_or, steps}
use Rattle.cust_data.specs.Layers.{same_name}
use Rattle.mesh_model.specs.Complex.{Complex}
use Rattle.mesh_model.specs.Draft.{with_found_name, with_name}
use Rattle.mesh_model.specs.Incidence.{sides}
use Rattle.mesh_model.specs.Making.{with_vert, vert_at_point, edges_along, with_face_told, corners_told}
use Rattle.mesh_model.specs.declared.draft.DraftCorner.{DraftCorner}
use Rattle.mesh_model.specs.declared.names.VertName.{VertName}
use Rattle.obj_format.specs.declared.obj_fault.ObjWhy.{ObjWhy}
use Rattle.obj_format.specs.declared.obj_fault.ObjWhy.TheVariants.{NotText, TooLarge}
use Rattle.obj_format.specs.declared.obj_fault.ObjRefusal.{ObjRefusal}
use Rattle.obj_format.specs.declared.lines.Line.{Line}
use Rattle.obj_format.specs.declared.table.Word.{Word}
use Rattle.obj_format.specs.declared.table.Word.TheVariants.{Vertex, Texture, Normal, Ring, Wire, Points, Smooth}
use Rattle.obj_format.specs.declared.table.Word.TheVariants.{Material, Library, Skipped, FreeForm}
use Rattle.obj_format.specs.Lines.{is_open, shut, onto, bare, joined_from, joined}
use Rattle.obj_format.specs.Names.{name_in}
use Rattle.obj_format.specs.Table.{word_of}
use Rattle.obj_reader.specs.declared.parts.Parts.{Parts}
use Rattle.obj_reader.specs.declared.parts.TheConstants.{MAX_TEXTURES}
use Rattle.obj_reader.specs.Obj.{nothing, numbered, line_read, model_of}
use Rattle.obj_reader.specs.Statements.{counts, fits, limited, told, is_zero_byte, said, statement, line_adds}
use Rattle.obj_reader.specs.Values.{uncommented, point_of, texture_of, is_normal, smooth_of, vert_of, ring_of, wire_of, dots_of}
use Rattle.obj_reader.proofs.AlongLemmas.{only_edges}
use Rattle.obj_text.specs.Returned.{is_name_byte, IsName, are_distinct, NamesGiven}
use Rattle.obj_text.proofs.NameRounds.{name_symm}
use Rattle.obj_reader.proofs.IndexedLemmas.{some_place}

-- ---- BYTES

-- no line feed
abbrev is_inner : ℕ → Bool
is_inner b = not (b == 10)

abbrev AllInner : List (List ℕ) → Type 0
AllInner [] = Unit {0}
AllInner (l ∷ ls) = (list_all is_inner l ≡ true) × AllInner ls

inner_onto : (b : ℕ) (parts : List (List ℕ)) → is_inner b ≡ true → AllInner parts → AllInner (onto_first b parts)
inner_onto b [] inner h = (and_from (is_inner b) true inner refl, tt)
inner_onto b (p ∷ ps) inner h = (and_from (is_inner b) (list_all is_inner p) inner h.0, h.1)

inner_step : (x : Bool) (b : ℕ) (parts : List (List ℕ)) → (b == 10) ≡ x → AllInner parts
    → AllInner (cond x ([] ∷ parts) (onto_first b parts))
inner_step true b parts is h = (refl, h)
inner_step false b parts is h = inner_onto b parts (ap not is) h

-- no line has a line feed
inner_lines : (t : List ℕ) → AllInner (lines t)
inner_lines [] = (refl, tt)
inner_lines (b ∷ bs) = inner_step (b == 10) b (lines bs) refl (inner_lines bs)

kept_step : (q : ℕ → Bool) (x : Bool) (b : ℕ) → q b ≡ true → list_all q (cond x [] (b ∷ [])) ≡ true
kept_step q true b one = refl
kept_step q false b one = and_from (q b) true one refl

kept_all : (q p : ℕ → Bool) (b : ℕ) (t : List ℕ) → q b ≡ true → list_all q t ≡ true → list_all q (kept p b t) ≡ true
kept_all q p b [] one all = kept_step q (p b) b one
kept_all q p b (c ∷ cs) one all = and_from (q b) (list_all q (c ∷ cs)) one all

trimmed_all : (q p : ℕ → Bool) (t : List ℕ) → list_all q t ≡ true → list_all q (trimmed p t) ≡ true
trimmed_all q p [] h = refl
trimmed_all q p (b ∷ bs) h =
    let both = and_parts (q b) (list_all q bs) h in
    kept_all q p b (trimmed p bs) both.0 (trimmed_all q p bs both.1)

either_all : (q : ℕ → Bool) (x : Bool) (s t : List ℕ) → list_all q s ≡ true → list_all q t ≡ true
    → list_all q (cond x s t) ≡ true
either_all q true s t one two = one
either_all q false s t one two = two

skipped_all : (q p : ℕ → Bool) (t : List ℕ) → list_all q t ≡ true → list_all q (skipped p t) ≡ true
skipped_all q p [] h = refl
skipped_all q p (b ∷ bs) h =
    either_all q (p b) (skipped p bs) (b ∷ bs) (skipped_all q p bs (and_parts (q b) (list_all q bs) h).1) h

take_inner : (q : ℕ → Bool) (n : ℕ) (t : List ℕ) → list_all q t ≡ true → list_all q (take n t) ≡ true
take_inner q zero t h = refl
take_inner q (suc n) [] h = refl
take_inner q (suc n) (b ∷ bs) h =
    let both = and_parts (q b) (list_all q bs) h in
    and_from (q b) (list_all q (take n bs)) both.0 (take_inner q n bs both.1)

-- ---- LINES

abbrev IsInner : Line → Type 0
IsInner l = list_all is_inner l.text ≡ true

abbrev AreInner : List Line → Type 0
AreInner [] = Unit {0}
AreInner (l ∷ ls) = IsInner l × AreInner ls

abbrev BegunInner : Option Line → Type 0
BegunInner None = Unit {0}
BegunInner (Some l) = IsInner l

onto_inner : (n : ℕ) (begun : Option Line) (t : List ℕ) → BegunInner begun → list_all is_inner t ≡ true
    → IsInner (onto n begun t)
onto_inner n None t h inner = inner
onto_inner n (Some l) t h inner =
    list_all-append is_inner l.text (32 ∷ t) ∙ and_from (list_all is_inner l.text) (list_all is_inner t) h inner

ended_inner : (x : Bool) (l : Line) (more : Option Line → List Line) → IsInner l
    → ((next : Option Line) → BegunInner next → AreInner (more next))
    → AreInner (cond x (more (Some (shut l))) (l ∷ more None))
ended_inner true l more h rest = rest (Some (shut l)) (take_inner is_inner (length l.text - 1) l.text h)
ended_inner false l more h rest = (h, rest None tt)

joined_inner : (k : ℕ) (begun : Option Line) (ls : List (List ℕ)) → BegunInner begun → AllInner ls
    → AreInner (joined_from k begun ls)
joined_inner k None [] h inner = tt
joined_inner k (Some l) [] h inner = (h, tt)
joined_inner k None (l ∷ ls) h inner =
    let line : Line = onto (k + 1) None (bare l) in
    ended_inner (is_open line) line (λ next. joined_from (k + 1) next ls)
    (onto_inner (k + 1) None (bare l) h (trimmed_all is_inner (is_of CarriageReturn) l inner.0))
    (λ next good. joined_inner (k + 1) next ls good inner.1)
joined_inner k (Some b) (l ∷ ls) h inner =
    let line : Line = onto (k + 1) (Some b) (bare l) in
    ended_inner (is_open line) line (λ next. joined_from (k + 1) next ls)
    (onto_inner (k + 1) (Some b) (bare l) h (trimmed_all is_inner (is_of CarriageReturn) l inner.0))
    (λ next good. joined_inner (k + 1) next ls good inner.1)

-- ---- NAMES

name_bytes : (t : List ℕ) → list_all is_inner t ≡ true → list_any is_zero_byte t ≡ false → list_all is_name_byte t ≡ true
name_bytes [] inner clean = refl
name_bytes (b ∷ bs) inner clean =
    let one = and_parts (is_inner b) (list_all is_inner bs) inner in
    let two = or_parts (b == 0) (list_any is_zero_byte bs) clean in
    and_from (is_name_byte b) (list_all is_name_byte bs) (and_from (not (b == 10)) (not (b == 0)) one.0 (ap not two.0))
    (name_bytes bs one.1 two.1)

-- the first byte of what is skipped stays
abbrev Begins : (ℕ → Bool) → List ℕ → Type 0
Begins p [] = Unit {0}
Begins p (b ∷ bs) = p b ≡ false

begins_step : (p : ℕ → Bool) (x : Bool) (b : ℕ) (bs t : List ℕ) → p b ≡ x → Begins p t → Begins p (cond x t (b ∷ bs))
begins_step p true b bs t is h = h
begins_step p false b bs t is h = is

begins_skipped : (p : ℕ → Bool) (t : List ℕ) → Begins p (skipped p t)
begins_skipped p [] = tt
begins_skipped p (b ∷ bs) = begins_step p (p b) b bs (skipped p bs) refl (begins_skipped p bs)

begins_one : (p : ℕ → Bool) (x : Bool) (b : ℕ) → p b ≡ false → Begins p (cond x [] (b ∷ []))
begins_one p true b h = tt
begins_one p false b h = h

begins_kept : (p q : ℕ → Bool) (b : ℕ) (t : List ℕ) → p b ≡ false → Begins p (kept q b t)
begins_kept p q b [] h = begins_one p (q b) b h
begins_kept p q b (c ∷ cs) h = h

begins_trimmed : (p q : ℕ → Bool) (t : List ℕ) → Begins p t → Begins p (trimmed q t)
begins_trimmed p q [] h = tt
begins_trimmed p q (b ∷ bs) h = begins_kept p q b (trimmed q bs) h

skipped_same : (p : ℕ → Bool) (t : List ℕ) → Begins p t → skipped p t ≡ t
skipped_same p [] h = refl
skipped_same p (b ∷ bs) h = ap (λ (x : Bool). cond x (skipped p bs) (b ∷ bs)) h

trimmed_one : (q : ℕ → Bool) (x : Bool) (b : ℕ) → q b ≡ x → trimmed q (cond x [] (b ∷ [])) ≡ cond x [] (b ∷ [])
trimmed_one q true b is = refl
trimmed_one q false b is = ap (λ (x : Bool). cond x [] (b ∷ [])) is

trimmed_kept : (q : ℕ → Bool) (b : ℕ) (t : List ℕ) → trimmed q t ≡ t → trimmed q (kept q b t) ≡ kept q b t
trimmed_kept q b [] h = trimmed_one q (q b) b refl
trimmed_kept q b (c ∷ cs) h = ap (kept q b) h

trimmed_same : (q : ℕ → Bool) (t : List ℕ) → trimmed q (trimmed q t) ≡ trimmed q t
trimmed_same q [] = refl
trimmed_same q (b ∷ bs) = trimmed_kept q b (trimmed q bs) (trimmed_same q bs)

some_length : (n : ℕ) → (n == 0) ≡ false → 0 < n
some_length zero h = absurd (false≢true (sym h))
some_length (suc n) h = omega arith

-- the name of a line
name_given : (t : List ℕ) → list_all is_inner t ≡ true → list_any is_zero_byte t ≡ false
    → (length (name_in t) == 0) ≡ false → IsName (name_in t)
name_given t inner clean some =
    let rest : List ℕ = skipped (is_of NoBlank) (skipped (is_of Blank) t) in
    let all = name_bytes t inner clean in
    let rest_all = skipped_all is_name_byte (is_of NoBlank) (skipped (is_of Blank) t)
    (skipped_all is_name_byte (is_of Blank) t all) in
    record {
      some = some_length (length (name_in t)) some;
      bytes = trimmed_all is_name_byte (is_of BlankOrBackslash) (skipped (is_of Blank) rest)
          (skipped_all is_name_byte (is_of Blank) rest rest_all);
      begins = skipped_same (is_of Blank) (name_in t)
          (begins_trimmed (is_of Blank) (is_of BlankOrBackslash) (skipped (is_of Blank) rest)
          (begins_skipped (is_of Blank) rest));
      ends = trimmed_same (is_of BlankOrBackslash) (skipped (is_of Blank) rest);
    }

-- ---- LISTS OF NAMES

none_any : (names : List (List ℕ)) (name : List ℕ) → position (same_name name) names ≡ None
    → list_any (same_name name) names ≡ false
none_any names name none =
    false_from_ne_true (list_any (same_name name) names) (λ some.
    none_some (position_or_len (same_name name) names) (sym (some_place (same_name name) names some) ∙ none))
  where
    none_some : (k : ℕ) → Some k ≡ None → ⊥
    none_some k h = cc

push_apart : (names : List (List ℕ)) (name : List ℕ) → are_distinct names ≡ true
    → list_any (same_name name) names ≡ false → are_distinct (names ++ name ∷ []) ≡ true
push_apart [] name apart new = refl
push_apart (n ∷ ns) name apart new =
    let both = and_parts (not (list_any (same_name n) ns)) (are_distinct ns) apart in
    let fresh = or_parts (same_name name n) (list_any (same_name name) ns) new in
    let none : list_any (same_name n) (ns ++ name ∷ []) ≡ false =
    list_any-append (same_name n) ns (name ∷ [])
    ∙ or_from (list_any (same_name n) ns) (same_name n name || false) (not-true (list_any (same_name n) ns) both.0)
    (or_from (same_name n name) false (name_symm n name ∙ fresh.0) refl) in
    and_from (not (list_any (same_name n) (ns ++ name ∷ []))) (are_distinct (ns ++ name ∷ [])) (ap not none)
    (push_apart ns name both.1 fresh.1)

named_all : (names : List (List ℕ)) (name : List ℕ) (found : Option ℕ) → All IsName names → IsName name
    → All IsName (with_found_name names name found).0
named_all names name None all one = All-push IsName names name all one
named_all names name (Some k) all one = all

named_apart : (names : List (List ℕ)) (name : List ℕ) (found : Option ℕ) → position (same_name name) names ≡ found
    → are_distinct names ≡ true → are_distinct (with_found_name names name found).0 ≡ true
named_apart names name None is apart = push_apart names name apart (none_any names name is)
named_apart names name (Some k) is apart = apart

-- ---- WHAT LINES SAY

-- the names are names that a line can give
record AreGiven (c : Complex) : Type 0 where
  pub materials : All IsName c.materials
  pub libraries : All IsName c.libraries
  pub apart : are_distinct c.libraries ≡ true

abbrev Leads : {W : Type 0} → Result Parts W → Type 0
Leads (Ok s) = AreGiven s.draft
Leads (Err w) = Unit {0}

after : {A V : Type 0} (r : Result A V) (f : A → Result Parts V) → ((a : A) → Leads (f a)) → Leads (r >>= f)
after (Err w) f each = tt
after (Ok a) f each = each a

either : {W : Type 0} (b : Bool) (r s : Result Parts W) → Leads r → Leads s → Leads (cond b r s)
either true r s x y = x
either false r s x y = y

kept_given : (c d : Complex) → d.materials ≡ c.materials → d.libraries ≡ c.libraries → AreGiven c → AreGiven d
kept_given c d one two h = record {
  materials = rw one h.materials;
  libraries = rw two h.libraries;
  apart = rw two h.apart;
}

limited_given : (c : Complex) (s : Parts) → c.materials ≡ s.draft.materials → c.libraries ≡ s.draft.libraries
    → AreGiven s.draft → Leads (limited c s)
limited_given c s one two h = either (fits c) (Ok (record s { draft = c })) _ (kept_given s.draft c one two h) tt

along_given : (c : Complex) (ss : List (VertName × VertName)) → AreGiven c → AreGiven (edges_along c ss).0
along_given c ss h =
    kept_given c (edges_along c ss).0 (ap (λ (x : Complex). x.materials) (only_edges c ss))
    (ap (λ (x : Complex). x.libraries) (only_edges c ss)) h

wire_given : (ss : List (VertName × VertName)) (s : Parts) → AreGiven s.draft
    → Leads (limited (edges_along s.draft ss).0 s)
wire_given ss s h =
    limited_given (edges_along s.draft ss).0 s (ap (λ (x : Complex). x.materials) (only_edges s.draft ss))
    (ap (λ (x : Complex). x.libraries) (only_edges s.draft ss)) h

face_given : (s : Parts) (ds : List DraftCorner) → AreGiven s.draft
    → Leads (limited (with_face_told s.draft ds s.material s.smooth) s)
face_given s ds h =
    let ss : List (VertName × VertName) = sides (map (λ (k : VertName × List ℤ). k.0) (corners_told s.draft ds)) in
    limited_given (with_face_told s.draft ds s.material s.smooth) s
    (ap (λ (x : Complex). x.materials) (only_edges s.draft ss)) (ap (λ (x : Complex). x.libraries) (only_edges s.draft ss)) h

material_given : (x : Bool) (name : List ℕ) (s : Parts) → (length name == 0) ≡ x → (x ≡ false → IsName name)
    → AreGiven s.draft
    → AreGiven (cond x (record s { material = pos 0 })
    (let named = with_name s.draft.materials name in record s
    { draft = record s.draft { materials = named.0 }; material = pos (named.1 + 1) })).draft
material_given true name s is named h = h
material_given false name s is named h = record {
  materials = named_all s.draft.materials name (position (same_name name) s.draft.materials) h.materials (named refl);
  libraries = h.libraries;
  apart = h.apart;
}

library_given : (x : Bool) (name : List ℕ) (s : Parts) → (length name == 0) ≡ x → (x ≡ false → IsName name)
    → AreGiven s.draft
    → AreGiven (cond x s (record s { draft = record s.draft { libraries = (with_name s.draft.libraries name).0 } })).draft
library_given true name s is named h = h
library_given false name s is named h =
    let found = position (same_name name) s.draft.libraries in
    record {
      materials = h.materials;
      libraries = named_all s.draft.libraries name found h.libraries (named refl);
      apart = named_apart s.draft.libraries name found refl h.apart;
    }

said_given : (scale : ℕ) (w : Word) (ws : List (List ℕ)) (text : List ℕ) (s : Parts) → list_all is_inner text ≡ true
    → list_any is_zero_byte text ≡ false → AreGiven s.draft → Leads (said scale w ws text s)
said_given scale Vertex ws text s inner clean h =
    after (point_of scale (uncommented ws)) _
    (λ p. limited_given (with_vert s.draft (vert_at_point s.draft p)) s refl refl h)
said_given scale Texture ws text s inner clean h =
    after (texture_of (uncommented ws)) _ (λ uv. either (nat_le MAX_TEXTURES (length s.textures)) _ _ tt h)
said_given scale Normal ws text s inner clean h = either (not (is_normal (uncommented ws))) _ _ tt h
said_given scale Ring ws text s inner clean h =
    after (ring_of (counts s) (uncommented ws)) _ (λ ks. face_given s (map (told s.textures) ks) h)
said_given scale Wire ws text s inner clean h =
    after (wire_of (counts s) (uncommented ws)) _
    (λ ks. wire_given (let vs = map vert_of ks in zip vs (drop 1 vs)) s h)
said_given scale Points ws text s inner clean h = after (dots_of (counts s) (uncommented ws)) _ (λ ks. h)
said_given scale Smooth ws text s inner clean h = after (ok_or (smooth_of (uncommented ws)) _) _ (λ n. h)
said_given scale Material ws text s inner clean h =
    material_given (length (name_in text) == 0) (name_in text) s refl (λ some. name_given text inner clean some) h
said_given scale Library ws text s inner clean h =
    library_given (length (name_in text) == 0) (name_in text) s refl (λ some. name_given text inner clean some) h
said_given scale Skipped ws text s inner clean h = h
said_given scale FreeForm ws text s inner clean h = tt

statement_given : (scale : ℕ) (ws : List (List ℕ)) (text : List ℕ) (s : Parts) → list_all is_inner text ≡ true
    → list_any is_zero_byte text ≡ false → AreGiven s.draft → Leads (statement scale ws text s)
statement_given scale [] text s inner clean h = h
statement_given scale (w ∷ ws) text s inner clean h =
    after (ok_or (word_of w) _) _ (λ word. said_given scale word ws text s inner clean h)

adds_given : (scale : ℕ) (comment clean : Bool) (text : List ℕ) (s : Parts) → list_any is_zero_byte text ≡ clean
    → list_all is_inner text ≡ true → AreGiven s.draft
    → Leads (cond clean (Err NotText) (cond comment (Ok s) (statement scale (words text) text s)))
adds_given scale comment true text s is inner h = tt
adds_given scale true false text s is inner h = h
adds_given scale false false text s is inner h = statement_given scale (words text) text s inner is h

numbered_given : (n : ℕ) (r : Result Parts ObjWhy) → Leads r → Leads (numbered n r)
numbered_given n (Ok s) h = h
numbered_given n (Err w) h = tt

steps_given : (scale : ℕ) (ls : List Line) (s : Parts) → AreInner ls → AreGiven s.draft
    → Leads (steps (line_read scale) s ls)
steps_given scale [] s inner h = h
steps_given scale (l ∷ ls) s inner h =
    follow (line_read scale l s)
    (numbered_given l.number (line_adds scale l.comment l.text s)
    (adds_given scale l.comment (list_any is_zero_byte l.text) l.text s refl inner.0 h))
    (λ u given. steps_given scale ls u inner.1 given)
  where
    follow : (r : Result Parts ObjRefusal) → Leads r → ((u : Parts) → AreGiven u.draft → Leads (steps (line_read scale) u ls))
        → Leads (r >>= (λ u. steps (line_read scale) u ls))
    follow (Err w) one more = tt
    follow (Ok u) one more = more u one

model_given : (r : Result Parts ObjRefusal) (c : Complex) → Leads r → model_of r ≡ Ok c → AreGiven c
model_given (Err w) c h read = absurd (cc)
model_given (Ok s) c h read = let it : s.draft ≡ c = cc in rw it at h

read_given : (x : Bool) (scale : ℕ) (t : List ℕ) (c : Complex)
    → cond x (Err (record { line = 0; why = TooLarge })) (model_of (steps (line_read scale) nothing (joined t))) ≡ Ok c
    → AreGiven c
read_given true scale t c read = absurd (cc)
read_given false scale t c read =
    model_given (steps (line_read scale) nothing (joined t)) c
    (steps_given scale (joined t) nothing (joined_inner 0 None (lines t) tt (inner_lines t))
    (record { materials = All-nil IsName; libraries = All-nil IsName; apart = refl })) read

pub names_given : NamesGiven
names_given scale t c read =
    let it = read_given (nat_lt 268435456 (length t)) scale t c read in (it.materials, (it.libraries, it.apart))
