-- Lines that set a material or a smoothing group are read again.
use Rattle.std.proofs.Common.{◌≡◌, ◌<◌, ◌≤◌, ◌+◌, ◌∙◌, ℕ, zero, suc, ℤ, pos, negsuc, int_le, true, false, Bool, cond}
use Rattle.std.proofs.Common.{List, [], ◌∷◌, ◌++◌, length, get_or, refl, sym, ap, arith, Option, Some, None, Ok, slice_get}
use Rattle.std.specs.Prelude.{codes, slice_index_or}
use Rattle.std.specs.Fmt.{decimal}
use Rattle.std.specs.List.{All, position}
use Rattle.std.specs.Ordering.{int_eq}
use Rattle.std.proofs.lemmas.Bool.{and_parts, le-ltb}
use Rattle.std.proofs.lemmas.Int.{ints}
use Rattle.std.proofs.lemmas.Bool.Decides.{Decides-int_eq}
use Rattle.std.proofs.lemmas.List.Quantifiers.{position-Some}
use lib.Pointwise.{bytes_decides}
use Rattle.text_words.specs.Text.{words}
use Rattle.text_words.specs.Outcome.{◌>>=◌, ok_or}
use Rattle.cust_data.specs.Layers.{same_name}
use Rattle.mesh_model.specs.Complex.{Complex}
use Rattle.mesh_model.specs.Draft.{with_found_name, with_name}
use Rattle.mesh_model.specs.Valid.{is_material}
use Rattle.mesh_model.proofs.MixedValues.{int_le-true}
use Rattle.mesh_model.specs.declared.records.FaceRec.{FaceRec}
use Rattle.obj_format.specs.declared.obj_fault.ObjWhy.TheVariants.{BadNumber}
use Rattle.obj_format.specs.declared.texture.Uv.{Uv}
use Rattle.obj_format.specs.Names.{name_in}
use Rattle.obj_reader.specs.declared.parts.Parts.{Parts}
use Rattle.obj_reader.specs.Statements.{statement, with_material, with_smooth}
use Rattle.obj_writer.specs.Written.{magnitude, grid_number}
use Rattle.obj_writer.specs.Whole.{name_line, material_line, material_set, smooth_set}
use Rattle.obj_text.specs.Returned.{IsName, material_name}
use Rattle.obj_text.proofs.PlainLemmas.{ArePlain, spaced, words_first}
use Rattle.obj_text.proofs.RunLemmas.{Runs, runs_line, runs_words}
use Rattle.obj_text.proofs.NameRounds.{material_line_is, material_in, some_name}
use Rattle.obj_text.proofs.WordRounds.{decimal_plain, smooth_written}
use Rattle.obj_text.proofs.PointRounds.{uncommented_plain}
use Rattle.obj_text.proofs.StandLemmas.{Now, parts, Stands, Goes, AreRead, IsNamed, goes_none}
use Rattle.obj_text.proofs.StandLemmas.{read_more}

-- ---- A MATERIAL

-- what stands with a material set
abbrev pub set_to : Now → List (List ℕ) → ℤ → Now
set_to w names m = record w { materials = names; material = m }

abbrev pub set_found : Now → List ℕ → Option ℕ → Now
set_found w name found = let named = with_found_name w.materials name found in set_to w named.0 (pos (suc named.1))

material_said : (c : Complex) (uvs : List Uv) (w : Now) (name : List ℕ) → IsName name
    → with_material (name_in (codes "usemtl" ++ 32 ∷ name)) (parts c uvs w)
    ≡ parts c uvs (set_found w name (position (same_name name) w.materials))
material_said c uvs w name h =
    let s = parts c uvs w in
    let named = with_name w.materials name in
    let none : Parts = record s { material = pos 0 } in
    let next : Parts = record s { draft = record s.draft { materials = named.0 }; material = pos (named.1 + 1) } in
    ap (λ (n : List ℕ). with_material n s) (material_in name h)
    ∙ ap (λ (b : Bool). cond b none next) (some_name name h.some)
    ∙ ap (λ (k : ℕ). parts c uvs (set_to w named.0 (pos k))) (omega arith)

runs_material : (scale : ℕ) (c : Complex) (uvs : List Uv) (w : Now) (name : List ℕ) → IsName name
    → Runs scale (name_line (codes "usemtl") name) (parts c uvs w)
    (parts c uvs (set_found w name (position (same_name name) w.materials)))
runs_material scale c uvs w name h =
    let line : List ℕ = codes "usemtl" ++ 32 ∷ name in
    let read : words line ≡ codes "usemtl" ∷ words name =
    words_first (codes "usemtl") name (record { bytes = refl; some = omega arith }) in
    runs_line scale line (parts c uvs w) (parts c uvs (set_found w name (position (same_name name) w.materials)))
    (material_line_is name h)
    (ap (λ (ws : List (List ℕ)). statement scale ws line (parts c uvs w)) read ∙ ap Ok (material_said c uvs w name h))

get_at : (xs : List (List ℕ)) (k : ℕ) (d : List ℕ) → k < length xs → slice_get xs k ≡ Some (get_or xs k d)
get_at [] k d here = absurd (omega arith)
get_at (x ∷ xs) zero d here = refl
get_at (x ∷ xs) (suc k) d here = get_at xs k d (omega arith)

get_last : (xs : List (List ℕ)) (x : List ℕ) → slice_get (xs ++ x ∷ []) (length xs) ≡ Some x
get_last [] x = refl
get_last (y ∷ xs) x = get_last xs x

-- the number is that of the name
found_named : (w : Now) (name : List ℕ) (found : Option ℕ) → position (same_name name) w.materials ≡ found
    → IsNamed (set_found w name found).materials (set_found w name found).material (Some name)
found_named w name None is = (length w.materials, refl, get_last w.materials name)
found_named w name (Some k) is =
    let it = position-Some (same_name name) w.materials k [] is in
    let same : name ≡ get_or w.materials k [] = (bytes_decides name (get_or w.materials k [])).0 it.1 in
    (k, refl, get_at w.materials k [] it.0 ∙ ap Some (sym same))

found_faces : (c : Complex) (w : Now) (fs : List FaceRec) (name : List ℕ) (found : Option ℕ)
    → AreRead c w.materials w.faces fs → AreRead c (set_found w name found).materials w.faces fs
found_faces c w fs name None h = read_more c w.materials (name ∷ []) w.faces fs h
found_faces c w fs name (Some k) h = h

goes_named : (scale : ℕ) (c : Complex) (uvs : List Uv) (w : Now) (fs : List FaceRec) (a now b : ℤ) (name : List ℕ)
    → IsName name → material_name c.materials now ≡ Some name → Stands c fs (a, b) w
    → Goes scale c uvs (name_line (codes "usemtl") name) w fs (now, b) []
goes_named scale c uvs w fs a now b name is shown h =
    let found : Option ℕ = position (same_name name) w.materials in
    record {
      next = set_found w name found;
      runs = runs_material scale c uvs w name is;
      stands =
          record {
            traces = h.traces;
            faces = found_faces c w fs name found h.faces;
            material = rw shown (found_named w name found refl);
            smooth = h.smooth;
          };
      keeps = λ x y covered. covered;
      covers = tt;
    }

goes_cleared : (scale : ℕ) (c : Complex) (uvs : List Uv) (w : Now) (fs : List FaceRec) (a b : ℤ) → Stands c fs (a, b) w
    → Goes scale c uvs (codes "usemtl\n") w fs (pos 0, b) []
goes_cleared scale c uvs w fs a b h = record {
  next = set_to w w.materials (pos 0);
  runs = runs_words scale (codes "usemtl") [] (parts c uvs w) (parts c uvs (set_to w w.materials (pos 0)))
      (record { bytes = refl; some = omega arith }) tt refl;
  stands = record { traces = h.traces; faces = h.faces; material = refl; smooth = h.smooth };
  keeps = λ x y covered. covered;
  covers = tt;
}

-- the name of a material of a complex
name_at : (names : List (List ℕ)) (n : ℕ) → n < length names → All IsName names
    → (IsName (slice_index_or names n [])) × (slice_get names n ≡ Some (slice_index_or names n []))
name_at names n here are = (are n [] here, get_at names n [] here)

material_goes : (scale : ℕ) (c : Complex) (uvs : List Uv) (w : Now) (fs : List FaceRec) (a now b : ℤ) → All IsName c.materials
    → is_material c now ≡ true → Stands c fs (a, b) w
    → Goes scale c uvs (material_line c.materials now) w fs (now, b) []
material_goes scale c uvs w fs a (pos zero) b are is h = goes_cleared scale c uvs w fs a b h
material_goes scale c uvs w fs a (pos (suc n)) b are is h =
    let most = int_le-true (pos (suc n)) (pos (length c.materials))
    (and_parts (int_le (pos 0) (pos (suc n))) (int_le (pos (suc n)) (pos (length c.materials))) is).1 in
    let here : n < length c.materials = omega (arith, ints, most) in
    let it = name_at c.materials n here are in
    goes_named scale c uvs w fs a (pos (suc n)) b (slice_index_or c.materials n []) it.0 it.1 h
material_goes scale c uvs w fs a (negsuc n) b are is h =
    let least = int_le-true (pos 0) (negsuc n)
    (and_parts (int_le (pos 0) (negsuc n)) (int_le (negsuc n) (pos (length c.materials))) is).0 in
    absurd (omega (arith, ints, least))

int_same : (a b : ℤ) → int_eq a b ≡ true → a ≡ b
int_same a b h = (Decides-int_eq a b).0 h

-- nothing is written where it is that of the face before
stands_same : (c : Complex) (fs : List FaceRec) (w : Now) (a b d e : ℤ) → a ≡ d → b ≡ e → Stands c fs (a, b) w
    → Stands c fs (d, e) w
stands_same c fs w a b d e one two h = subst₂ (λ (x y : ℤ). Stands c fs (x, y) w) one two h
  where
    subst₂ : (P : ℤ → ℤ → Type 0) → {a b d e : ℤ} → a ≡ d → b ≡ e → P a b → P d e
    subst₂ P one two h = rw (sym one, sym two) h

set_either : (scale : ℕ) (c : Complex) (uvs : List Uv) (w : Now) (fs : List FaceRec) (a now b : ℤ) (same : Bool)
    → int_eq a now ≡ same → All IsName c.materials → is_material c now ≡ true → Stands c fs (a, b) w
    → Goes scale c uvs (cond same [] (material_line c.materials now)) w fs (now, b) []
set_either scale c uvs w fs a now b true eq are is h =
    goes_none scale c uvs w fs (now, b) (stands_same c fs w a b now b (int_same a now eq) refl h)
set_either scale c uvs w fs a now b false eq are is h = material_goes scale c uvs w fs a now b are is h

pub goes_material : (scale : ℕ) (c : Complex) (uvs : List Uv) (w : Now) (fs : List FaceRec) (before : ℤ × ℤ) (now : ℤ)
    → All IsName c.materials → is_material c now ≡ true → Stands c fs before w
    → Goes scale c uvs (material_set c.materials before.0 now) w fs (now, before.1) []
goes_material scale c uvs w fs before now are is h =
    set_either scale c uvs w fs before.0 now before.1 (int_eq before.0 now) refl are is h

-- ---- A SMOOTHING GROUP

smooth_line : (scale : ℕ) (c : Complex) (uvs : List Uv) (w : Now) (n : ℕ) → n ≤ 1000000000
    → Runs scale (codes "s " ++ (grid_number 0 (pos n) ++ codes "\n")) (parts c uvs w)
    (parts c uvs (record w { smooth = pos n }))
smooth_line scale c uvs w n small =
    let s = parts c uvs w in
    let plain : ArePlain (decimal n ∷ []) = (decimal_plain n (omega arith), tt) in
    let written : grid_number 0 (pos n) ≡ decimal n =
    ap (λ (b : Bool). cond b (45 ∷ magnitude 0 n) (magnitude 0 n)) (le-ltb n 0 (omega arith)) in
    let said : statement scale (codes "s" ∷ decimal n ∷ []) (codes "s" ++ spaced (decimal n ∷ [])) s
    ≡ Ok (parts c uvs (record w { smooth = pos n })) =
    ap (λ (ws : List (List ℕ)). with_smooth ws s) (uncommented_plain (decimal n ∷ []) plain)
    ∙ ap (λ (o : Option ℕ). ok_or o BadNumber >>= (λ k. Ok (parts c uvs (record w { smooth = pos k })))) (smooth_written n small) in
    rw written
    (runs_words scale (codes "s") (decimal n ∷ []) s (parts c uvs (record w { smooth = pos n }))
    (record { bytes = refl; some = omega arith }) plain said)

smooth_goes : (scale : ℕ) (c : Complex) (uvs : List Uv) (w : Now) (fs : List FaceRec) (a b : ℤ) (n : ℕ) → n ≤ 1000000000
    → Stands c fs (a, b) w
    → Goes scale c uvs (codes "s " ++ (grid_number 0 (pos n) ++ codes "\n")) w fs (a, pos n) []
smooth_goes scale c uvs w fs a b n small h = record {
  next = record w { smooth = pos n };
  runs = smooth_line scale c uvs w n small;
  stands = record { traces = h.traces; faces = h.faces; material = h.material; smooth = refl };
  keeps = λ x y covered. covered;
  covers = tt;
}

smooth_either : (scale : ℕ) (c : Complex) (uvs : List Uv) (w : Now) (fs : List FaceRec) (a b : ℤ) (n : ℕ) (same : Bool)
    → int_eq b (pos n) ≡ same → n ≤ 1000000000 → Stands c fs (a, b) w
    → Goes scale c uvs (cond same [] (codes "s " ++ (grid_number 0 (pos n) ++ codes "\n"))) w fs (a, pos n) []
smooth_either scale c uvs w fs a b n true eq small h =
    goes_none scale c uvs w fs (a, pos n) (stands_same c fs w a b a (pos n) refl (int_same b (pos n) eq) h)
smooth_either scale c uvs w fs a b n false eq small h = smooth_goes scale c uvs w fs a b n small h

-- a smoothing group that may be a face's
abbrev pub IsGroup : ℤ → Type 0
IsGroup g = (n : ℕ) × (g ≡ pos n) × (n ≤ 1000000000)

pub goes_smooth : (scale : ℕ) (c : Complex) (uvs : List Uv) (w : Now) (fs : List FaceRec) (before : ℤ × ℤ) (g : ℤ)
    → IsGroup g → Stands c fs before w
    → Goes scale c uvs (smooth_set before.1 g) w fs (before.0, g) []
goes_smooth scale c uvs w fs before g is h =
    rw is.1 (smooth_either scale c uvs w fs before.0 before.1 is.0 (int_eq before.1 (pos is.0)) refl is.2 h)
