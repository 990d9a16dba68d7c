-- Lemmas on files: what was put is there, and a file put twice is put once.
use Rattle.std.proofs.Common.{◌≡◌, ℕ, suc, ◌+◌, add-one, Bool, true, false, cond, List, [], ◌∷◌, ◌++◌, refl, sym, ap, ◌∙◌, Option, Some, None, length, get_or, nat_lt, slice_set}
use Rattle.std.proofs.lemmas.Iterator.Adapters.{position_from-zero}
use Rattle.std.proofs.lemmas.Cmp.{nat_list_eq_equiv}
use Rattle.std.specs.Cmp.Lexicographic.{same_text}
use Rattle.std.proofs.lemmas.List.Folds.{find_at}
use Rattle.std.proofs.lemmas.List.Quantifiers.{position-Some}
use Rattle.std.proofs.lemmas.Option.{slice_get_read}
use Rattle.std.specs.List.{find, position, position_from, position_or_len, slice_get}
use Rattle.std.specs.Option.{option_map, option_and_then}
use Rattle.worlds.specs.Files.{Files, is_named, entry_of, put_at, put, put_after, append_to}
use Rattle.byte_sink.specs.Wrote.{with_after}
use Rattle.worlds.specs.Told.{put_begun}
use Rattle.worlds.specs.Stored.{append_begun}
use Rattle.worlds.specs.declared.entry.Entry.{Entry}

from_next_by : (b : Bool) (i j : ℕ) (o q : Option ℕ) → j ≡ suc i → q ≡ option_map suc o
    → cond b (Some j) q ≡ option_map suc (cond b (Some i) o)
from_next_by true i j o q next h = ap Some next
from_next_by false i j o q next h = h

from_next : {X : Type 0} (p : X → Bool) (i j : ℕ) (xs : List X) → j ≡ suc i
    → position_from p j xs ≡ option_map suc (position_from p i xs)
from_next p i j [] next = refl
from_next p i j (x ∷ xs) next =
    let later : j + 1 ≡ suc (i + 1) = add-one j ∙ ap suc (next ∙ sym (add-one i)) in
    from_next_by (p x) i j (position_from p (i + 1) xs) (position_from p (j + 1) xs) next
    (from_next p (i + 1) (j + 1) xs later)

position_more : {X : Type 0} (p : X → Bool) (x : X) (xs : List X)
    → position p (x ∷ xs) ≡ cond (p x) (Some 0) (option_map suc (position p xs))
position_more p x xs =
    position_from-zero p (x ∷ xs) ∙ ap (cond (p x) (Some 0))
    (from_next p 0 1 xs refl ∙ ap (option_map suc) (sym (position_from-zero p xs)))

abbrev bytes_in : Entry → List ℕ
bytes_in file = file.bytes

put_later : (f file : Entry) (fs : Files) (o : Option ℕ)
    → put_at (f ∷ fs) file (option_map suc o) ≡ f ∷ put_at fs file o
put_later f file fs None = refl
put_later f file fs (Some i) = refl

put_by : (b : Bool) (f file : Entry) (fs : Files) (o : Option ℕ)
    → put_at (f ∷ fs) file (cond b (Some 0) (option_map suc o)) ≡ cond b (file ∷ fs) (f ∷ put_at fs file o)
put_by true f file fs o = refl
put_by false f file fs o = put_later f file fs o

-- the first file has the name, or one later, or none
put_more : (name bytes : List ℕ) (f : Entry) (fs : Files)
    → put name bytes (f ∷ fs) ≡ cond (is_named name f) (record { name = name; bytes = bytes } ∷ fs)
    (f ∷ put name bytes fs)
put_more name bytes f fs =
    let file : Entry = record { name = name; bytes = bytes } in
    ap (put_at (f ∷ fs) file) (position_more (is_named name) f fs)
    ∙ put_by (is_named name f) f file fs (position (is_named name) fs)

name_is : (name : List ℕ) → is_named name (record { name = name; bytes = [] }) ≡ true
name_is name = nat_list_eq_equiv.refl name

-- what was put is there
entry_of_put_by : (name bytes : List ℕ) (f : Entry) (fs : Files) (b : Bool) → is_named name f ≡ b
    → entry_of name (put name bytes fs) ≡ Some bytes
    → entry_of name (cond b (record { name = name; bytes = bytes } ∷ fs) (f ∷ put name bytes fs)) ≡ Some bytes
entry_of_put_by name bytes f fs true h later =
    ap (λ (b : Bool). option_map bytes_in (cond b (Some (record { name = name; bytes = bytes }))
    (find (is_named name) fs))) (name_is name)
entry_of_put_by name bytes f fs false h later =
    ap (λ (b : Bool). option_map bytes_in (cond b (Some f) (find (is_named name) (put name bytes fs)))) h ∙ later

pub entry_of_put : (name bytes : List ℕ) (fs : Files) → entry_of name (put name bytes fs) ≡ Some bytes
entry_of_put name bytes [] = ap (λ (b : Bool). option_map bytes_in
    (cond b (Some (record { name = name; bytes = bytes })) None)) (name_is name)
entry_of_put name bytes (f ∷ fs) = ap (entry_of name) (put_more name bytes f fs)
    ∙ entry_of_put_by name bytes f fs (is_named name f) refl (entry_of_put name bytes fs)

-- a file put twice is put once
put_put_by : (name a b : List ℕ) (f : Entry) (fs : Files) (t : Bool) → is_named name f ≡ t
    → put name b (put name a fs) ≡ put name b fs
    → put name b (cond t (record { name = name; bytes = a } ∷ fs) (f ∷ put name a fs))
    ≡ cond t (record { name = name; bytes = b } ∷ fs) (f ∷ put name b fs)
put_put_by name a b f fs true h later =
    put_more name b (record { name = name; bytes = a }) fs
    ∙ ap (λ (t : Bool). cond t (record { name = name; bytes = b } ∷ fs)
    (record { name = name; bytes = a } ∷ put name b fs)) (name_is name)
put_put_by name a b f fs false h later =
    put_more name b f (put name a fs) ∙ ap (λ (t : Bool). cond t (record { name = name; bytes = b } ∷ put name a fs)
    (f ∷ put name b (put name a fs))) h ∙ ap (λ (gs : Files). f ∷ gs) later

pub put_put : (name a b : List ℕ) (fs : Files) → put name b (put name a fs) ≡ put name b fs
put_put name a b [] = put_more name b (record { name = name; bytes = a }) []
    ∙ ap (λ (t : Bool). cond t (record { name = name; bytes = b } ∷ [])
    (record { name = name; bytes = a } ∷ put name b [])) (name_is name)
put_put name a b (f ∷ fs) = ap (put name b) (put_more name a f fs)
    ∙ put_put_by name a b f fs (is_named name f) refl (put_put name a b fs) ∙ sym (put_more name b f fs)

-- a put of what is there changes nothing
put_same_by : (name bytes : List ℕ) (f : Entry) (fs : Files) (t : Bool) → is_named name f ≡ t
    → option_map bytes_in (cond t (Some f) (find (is_named name) fs)) ≡ Some bytes
    → (entry_of name fs ≡ Some bytes → put name bytes fs ≡ fs)
    → cond t (record { name = name; bytes = bytes } ∷ fs) (f ∷ put name bytes fs) ≡ f ∷ fs
put_same_by name bytes f fs true h there later =
    let same : name ≡ f.name = same_text name f.name (sym h) in
    let full : f.bytes ≡ bytes = cc in
    ap (λ (n : List ℕ). record { name = n; bytes = bytes } ∷ fs) same
    ∙ ap (λ (b : List ℕ). record { name = f.name; bytes = b } ∷ fs) (sym full)
put_same_by name bytes f fs false h there later = ap (λ (gs : Files). f ∷ gs) (later there)

pub put_same : (name bytes : List ℕ) (fs : Files) → entry_of name fs ≡ Some bytes → put name bytes fs ≡ fs
put_same name bytes [] there = cc
put_same name bytes (f ∷ fs) there =
    put_more name bytes f fs ∙ put_same_by name bytes f fs (is_named name f) refl there (put_same name bytes fs)

place_is : (b : Bool) (k i : ℕ) → cond b (Some k) None ≡ Some i → k ≡ i
place_is true k i h = cc
place_is false k i h = cc

-- what stands at the first place is what is found
found_at : {X : Type 0} (p : X → Bool) (xs : List X) (i : ℕ) (x : X) → position p xs ≡ Some i → x ≡ get_or xs i x
    → find p xs ≡ Some x
found_at p xs i x place here =
    let first : position_or_len p xs ≡ i = place_is (nat_lt (position_or_len p xs) (length xs)) (position_or_len p xs) i
    place in
    find_at p xs ∙ ap (slice_get xs) first ∙ slice_get_read xs (length xs) i x refl (position-Some p xs i x place).0
    here

-- bytes written after those of a file that is there
pub append_at : (name bytes : List ℕ) (files : Files) (i : ℕ) (file : Entry) (now : List ℕ)
    → position (is_named name) files ≡ Some i → file ≡ get_or files i file → now ≡ file.bytes ++ bytes
    → slice_set files i (record { name = file.name; bytes = now }) ≡ append_to name bytes files
append_at name bytes files i file now place here more =
    let passes : is_named name file ≡ true =
    ap (is_named name) here ∙ (position-Some (is_named name) files i file place).1 in
    let same : name ≡ file.name = same_text name file.name (sym passes) in
    let had : entry_of name files ≡ Some file.bytes =
    ap (option_map bytes_in) (found_at (is_named name) files i file place here) in
    ap (λ (b : List ℕ). slice_set files i (record { name = file.name; bytes = b })) more
    ∙ ap (λ (n : List ℕ). slice_set files i (record { name = n; bytes = file.bytes ++ bytes })) (sym same)
    ∙ ap (put_at files (record { name = name; bytes = file.bytes ++ bytes })) (sym place)
    ∙ ap (λ (o : Option (List ℕ)). put_after name bytes o files) (sym had)

none_by : {X : Type 0} (b : Bool) (x : X) (o : Option ℕ) (found : Option X) → cond b (Some 0) (option_map suc o) ≡ None
    → (o ≡ None → found ≡ None) → cond b (Some x) found ≡ None
none_by true x o found h later = cc
none_by false x None found h later = later refl
none_by false x (Some i) found h later = cc

none_found : {X : Type 0} (p : X → Bool) (xs : List X) → position p xs ≡ None → find p xs ≡ None
none_found p [] h = refl
none_found p (x ∷ xs) h = none_by (p x) x (position p xs) (find p xs) (sym (position_more p x xs) ∙ h) (none_found p xs)

-- where the name isn't there, nothing is written
pub append_nowhere : (name bytes : List ℕ) (files : Files) → position (is_named name) files ≡ None
    → files ≡ append_to name bytes files
append_nowhere name bytes files h = ap (λ (o : Option Entry). put_after name bytes (option_map bytes_in o) files)
    (sym (none_found (is_named name) files h))

-- what the begun file has, once more was written to it
entry_of_after : (name bytes : List ℕ) (files : Files) (o : Option (List ℕ)) → entry_of name files ≡ o
    → entry_of name (put_after name bytes o files) ≡ with_after o bytes
entry_of_after name bytes files None here = here
entry_of_after name bytes files (Some had) here = entry_of_put name (had ++ bytes) files

pub wrote_append : (begun : Option (List ℕ)) (bytes : List ℕ) (made : Files)
    → option_and_then (λ name. option_and_then (entry_of name) (Some (append_begun begun bytes made))) begun
    ≡ with_after (option_and_then (λ name. option_and_then (entry_of name) (Some made)) begun) bytes
wrote_append None bytes made = refl
wrote_append (Some name) bytes made = entry_of_after name bytes made (entry_of name made) refl

-- the other files, once more was written to the begun one
rest_after : (name bytes : List ℕ) (files : Files) (o : Option (List ℕ))
    → put name [] (put_after name bytes o files) ≡ put name [] files
rest_after name bytes files None = refl
rest_after name bytes files (Some had) = put_put name (had ++ bytes) [] files

pub rest_append : (begun : Option (List ℕ)) (bytes : List ℕ) (made : Files)
    → put_begun begun [] (Some (append_begun begun bytes made)) ≡ put_begun begun [] (Some made)
rest_append None bytes made = refl
rest_append (Some name) bytes made = ap Some (rest_after name bytes made (entry_of name made))
