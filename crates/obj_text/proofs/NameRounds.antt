-- Lines with names are read again.
use Rattle.std.proofs.Common.{◌≡◌, ◌<◌, ◌+◌, ◌∙◌, ◌==◌, ◌&&◌, ◌||◌, ℕ, suc, true, false, not, nat_eq, nat_lt, Bool}
use Rattle.std.proofs.Common.{cond, List, [], ◌∷◌, ◌++◌, length, refl, sym, subst, ap, arith, Option, Some, None, Ok}
use Rattle.std.specs.Prelude.{codes}
use Rattle.std.specs.List.{All, list_any, flat_map, position, position_or_len}
use Rattle.std.proofs.lemmas.Bool.{ne_eqb, eq-eqb, eqb-true, le-ltb, false≢true, not-true, and_parts, or_from, or_parts}
use Rattle.std.proofs.lemmas.List.{append-nil, append_assoc}
use Rattle.std.proofs.lemmas.List.Folds.{list_any-append}
use Rattle.text_words.specs.Text.{words}
use Rattle.text_words.specs.Trims.{is_of, trimmed}
use Rattle.text_words.specs.declared.trims.ByteClass.TheVariants.{BlankOrBackslash}
use Rattle.cust_data.specs.Layers.{same_name}
use Rattle.mesh_model.specs.Draft.{with_found_name, with_name}
use Rattle.obj_format.specs.Names.{name_in}
use Rattle.obj_reader.specs.declared.parts.Parts.{Parts}
use Rattle.obj_reader.specs.Statements.{statement, with_library}
use Rattle.obj_writer.specs.Whole.{name_line}
use Rattle.obj_text.specs.Returned.{IsName, are_distinct}
use Rattle.obj_text.proofs.PlainLemmas.{IsLine, ends_cons, ends_append, ends_trimmed, words_first}
use Rattle.obj_text.proofs.RunLemmas.{Runs, runs_none, runs_then, runs_line}

-- ---- ONE LINE

pub some_name : (name : List ℕ) → 0 < length name → (length name == 0) ≡ false
some_name name some = ne_eqb (length name) 0 (λ e. absurd (omega (arith, e)))

library_line : (name : List ℕ) → IsName name → IsLine (codes "mtllib" ++ 32 ∷ name)
library_line name h = record {
  begins = refl;
  bytes = h.bytes;
  ends = ends_append (codes "mtllib") (32 ∷ name) (ends_cons 32 name (ends_trimmed name h.some h.ends));
}

pub material_line_is : (name : List ℕ) → IsName name → IsLine (codes "usemtl" ++ 32 ∷ name)
material_line_is name h = record {
  begins = refl;
  bytes = h.bytes;
  ends = ends_append (codes "usemtl") (32 ∷ name) (ends_cons 32 name (ends_trimmed name h.some h.ends));
}

library_in : (name : List ℕ) → IsName name → name_in (codes "mtllib" ++ 32 ∷ name) ≡ name
library_in name h = ap (trimmed (is_of BlankOrBackslash)) h.begins ∙ h.ends

pub material_in : (name : List ℕ) → IsName name → name_in (codes "usemtl" ++ 32 ∷ name) ≡ name
material_in name h = ap (trimmed (is_of BlankOrBackslash)) h.begins ∙ h.ends

-- ---- LIBRARIES

-- what was read with these libraries
abbrev pub with_libraries : Parts → List (List ℕ) → Parts
with_libraries s names = record s { draft = record s.draft { libraries = names } }

named_new : (names : List (List ℕ)) (name : List ℕ) → position (same_name name) names ≡ None
    → (with_name names name).0 ≡ names ++ name ∷ []
named_new names name new = ap (λ (o : Option ℕ). (with_found_name names name o).0) new

library_said : (name : List ℕ) (s : Parts) → IsName name → position (same_name name) s.draft.libraries ≡ None
    → with_library (name_in (codes "mtllib" ++ 32 ∷ name)) s ≡ with_libraries s (s.draft.libraries ++ name ∷ [])
library_said name s h new =
    ap (λ (n : List ℕ). with_library n s) (library_in name h)
    ∙ ap (λ (b : Bool). cond b s (with_libraries s (with_name s.draft.libraries name).0)) (some_name name h.some)
    ∙ ap (with_libraries s) (named_new s.draft.libraries name new)

runs_library : (scale : ℕ) (name : List ℕ) (s : Parts) → IsName name
    → position (same_name name) s.draft.libraries ≡ None
    → Runs scale (name_line (codes "mtllib") name) s (with_libraries s (s.draft.libraries ++ name ∷ []))
runs_library scale name s h new =
    let line : List ℕ = codes "mtllib" ++ 32 ∷ name in
    let read : words line ≡ codes "mtllib" ∷ words name =
    words_first (codes "mtllib") name (record { bytes = refl; some = omega arith }) in
    runs_line scale line s (with_libraries s (s.draft.libraries ++ name ∷ [])) (library_line name h)
    (ap (λ (ws : List (List ℕ)). statement scale ws line s) read ∙ ap Ok (library_said name s h new))

-- names that aren't among others
abbrev AreNew : List (List ℕ) → List (List ℕ) → Type 0
AreNew done [] = Unit {0}
AreNew done (n ∷ ns) = (list_any (same_name n) done ≡ false) × AreNew done ns

byte_turned : (a b : ℕ) (s t : Bool) → nat_eq a b ≡ s → nat_eq b a ≡ t → s ≡ t
byte_turned a b true true one two = refl
byte_turned a b false false one two = refl
byte_turned a b true false one two =
    absurd (false≢true (sym two ∙ eq-eqb b a (sym (eqb-true a b one))))
byte_turned a b false true one two =
    absurd (false≢true (sym one ∙ eq-eqb a b (sym (eqb-true b a two))))

pub name_symm : (a b : List ℕ) → same_name a b ≡ same_name b a
name_symm [] [] = refl
name_symm [] (y ∷ ys) = refl
name_symm (x ∷ xs) [] = refl
name_symm (x ∷ xs) (y ∷ ys) =
    ap (λ (b : Bool). b && same_name xs ys) (byte_turned x y (nat_eq x y) (nat_eq y x) refl refl) ∙ ap (λ (b : Bool). nat_eq y x && b) (name_symm xs ys)

new_more : (done : List (List ℕ)) (name : List ℕ) (ns : List (List ℕ)) → list_any (same_name name) ns ≡ false
    → AreNew done ns → AreNew (done ++ name ∷ []) ns
new_more done name [] apart new = tt
new_more done name (n ∷ ns) apart new =
    let both = or_parts (same_name name n) (list_any (same_name name) ns) apart in (
      list_any-append (same_name n) done (name ∷ [])
          ∙ or_from (list_any (same_name n) done) (same_name n name || false) new.0
          (or_from (same_name n name) false (name_symm n name ∙ both.0) refl),
      new_more done name ns both.1 new.1,
    )

all_new : (ns : List (List ℕ)) → AreNew [] ns
all_new [] = tt
all_new (n ∷ ns) = (refl, all_new ns)

abbrev pub AreNames : List (List ℕ) → Type 0
AreNames [] = Unit {0}
AreNames (n ∷ ns) = IsName n × AreNames ns

pub names_all : (ns : List (List ℕ)) → All IsName ns → AreNames ns
names_all [] h = tt
names_all (n ∷ ns) h = (h 0 [] (omega arith), names_all ns (λ k d less. h (suc k) d (omega arith)))

none_len : {X : Type 0} (p : X → Bool) (xs : List X) → list_any p xs ≡ false → position_or_len p xs ≡ length xs
none_len p [] h = refl
none_len p (x ∷ xs) h =
    let both = or_parts (p x) (list_any p xs) h in
    ap (λ (b : Bool). cond (not b) (1 + position_or_len p xs) 0) both.0 ∙ omega (arith, none_len p xs both.1)

-- no name is found
pub none_found : (ns : List (List ℕ)) (name : List ℕ) → list_any (same_name name) ns ≡ false
    → position (same_name name) ns ≡ None
none_found ns name none =
    ap (λ (k : ℕ). cond (nat_lt k (length ns)) (Some k) None) (none_len (same_name name) ns none)
    ∙ ap (λ (b : Bool). cond b (Some (length ns)) None) (le-ltb (length ns) (length ns) (omega arith))

libraries_from : (scale : ℕ) (done ns : List (List ℕ)) (s : Parts) → AreNames ns → are_distinct ns ≡ true → AreNew done ns
    → Runs scale (flat_map (name_line (codes "mtllib")) ns) (with_libraries s done) (with_libraries s (done ++ ns))
libraries_from scale done [] s names apart new =
    rw (append-nil done) (runs_none scale (with_libraries s done))
libraries_from scale done (n ∷ ns) s names apart new =
    let both = and_parts (not (list_any (same_name n) ns)) (are_distinct ns) apart in
    let later = not-true (list_any (same_name n) ns) both.0 in
    let rest = libraries_from scale (done ++ n ∷ []) ns s names.1 both.1 (new_more done n ns later new.1) in
    let whole : (done ++ n ∷ []) ++ ns ≡ done ++ n ∷ ns = append_assoc done (n ∷ []) ns in
    runs_then scale (name_line (codes "mtllib") n) (flat_map (name_line (codes "mtllib")) ns) (with_libraries s done)
    (with_libraries s (done ++ n ∷ [])) (with_libraries s (done ++ n ∷ ns))
    (runs_library scale n (with_libraries s done) names.0 (none_found done n new.0))
    (rw whole at rest)

-- the lines of the libraries
pub runs_libraries : (scale : ℕ) (ns : List (List ℕ)) (s : Parts) → s.draft.libraries ≡ [] → All IsName ns
    → are_distinct ns ≡ true
    → Runs scale (flat_map (name_line (codes "mtllib")) ns) s (with_libraries s ns)
runs_libraries scale ns s none names apart =
    let start : with_libraries s [] ≡ s = ap (with_libraries s) (sym none) in
    subst (λ (x : Parts). Runs scale (flat_map (name_line (codes "mtllib")) ns) x (with_libraries s ns)) start
    (libraries_from scale [] ns s (names_all ns names) apart (all_new ns))
