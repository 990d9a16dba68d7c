-- Ranks of vertices: places among those that are there.
use Rattle.std.proofs.Common.{◌≡◌, ◌≢◌, ◌<◌, ◌≤◌, ◌+◌, ◌∙◌, ℕ, zero, suc, cond, List, [], ◌∷◌, length}
use Rattle.std.proofs.Common.{map, take, refl, sym, ap, arith, Option, Some, None, is_some, inl, inr, ◌⊎◌}
use Rattle.std.specs.List.{flat_map}
use Rattle.std.proofs.lemmas.List.Sums.{sum_by-cons}
use Rattle.std.proofs.lemmas.Bool.{false≢true}
use Rattle.mesh_model.specs.Table.{IsThere, live}
use Rattle.mesh_model.specs.Complex.{Complex}
use Rattle.mesh_model.specs.declared.records.Point.{Point}
use Rattle.mesh_model.specs.declared.records.VertRec.{VertRec}
use Rattle.obj_text.specs.Returned.{point_in, rank}
use Rattle.obj_text.proofs.PointRounds.{vert_read, verts_read}

pub live_cons : {X : Type 0} (o : Option X) (table : List (Option X)) → live (o ∷ table) ≡ cond (is_some o) 1 0 + live table
live_cons {X} o table = sum_by-cons (λ (x : Option X). cond (is_some x) 1 0) o table

live_none : {X : Type 0} (table : List (Option X)) → live (None ∷ table) ≡ live table
live_none {X} table =
    let one : live {X = X} (None ∷ table) ≡ 0 + live table = live_cons None table in
    omega (arith, one)

live_some : {X : Type 0} (x : X) (table : List (Option X)) → live (Some x ∷ table) ≡ 1 + live table
live_some x table = live_cons (Some x) table

-- a vertex that is there has a rank below that of each later name
pub rank_less : {X : Type 0} (table : List (Option X)) (v w : ℕ) → IsThere table v → v < w
    → live (take v table) < live (take w table)
rank_less [] v w there less = absurd (false≢true there)
rank_less (o ∷ t) v zero there less = absurd (omega arith)
rank_less (None ∷ t) zero (suc w) there less = absurd (false≢true there)
rank_less (Some x ∷ t) zero (suc w) there less = omega (arith, live_some x (take w t))
rank_less (o ∷ t) (suc v) (suc w) there less =
    omega (arith, live_cons o (take v t), live_cons o (take w t), rank_less t v w there (omega arith))

-- and below the number of vertices
pub rank_below : {X : Type 0} (table : List (Option X)) (v : ℕ) → IsThere table v → live (take v table) < live table
rank_below [] v there = absurd (false≢true there)
rank_below (None ∷ t) zero there = absurd (false≢true there)
rank_below (Some x ∷ t) zero there = omega (arith, live_some x t)
rank_below (o ∷ t) (suc v) there = omega (arith, live_cons o (take v t), live_cons o t, rank_below t v there)

-- no rank is above the number of vertices
pub rank_most : {X : Type 0} (table : List (Option X)) (v : ℕ) → live (take v table) ≤ live table
rank_most table zero = omega arith
rank_most [] (suc v) = omega arith
rank_most (o ∷ t) (suc v) = omega (arith, live_cons o (take v t), live_cons o t, rank_most t v)

lt_or_gt : (a b : ℕ) → a ≢ b → (a < b) ⊎ (b < a)
lt_or_gt zero zero differ = absurd (differ refl)
lt_or_gt zero (suc b) differ = inl (omega arith)
lt_or_gt (suc a) zero differ = inr (omega arith)
lt_or_gt (suc a) (suc b) differ =
    elim (lt_or_gt a b (λ e. differ (ap (λ (n : ℕ). suc n) e))) [
      | inl less ↦ inl (omega (arith, less))
      | inr more ↦ inr (omega (arith, more))
    ]

-- different vertices have different ranks
pub rank_differ : (c : Complex) (v w : ℕ) → IsThere c.verts v → IsThere c.verts w → v ≢ w → rank c v ≢ rank c w
rank_differ c v w here there differ same =
    elim (lt_or_gt v w differ) [
      | inl less ↦ absurd (omega (arith, rank_less c.verts v w here less, same))
      | inr more ↦ absurd (omega (arith, rank_less c.verts w v there more, same))
    ]

-- ---- VERTICES THAT WERE READ

pub length_points : (table : List (Option VertRec)) → length (flat_map point_in table) ≡ live table
length_points [] = refl
length_points (None ∷ t) = length_points t ∙ sym (live_none t)
length_points (Some r ∷ t) = omega (arith, length_points t, live_some r t)

-- as many as the points
pub length_read : (table : List (Option VertRec)) → length (verts_read table) ≡ live table
length_read table = longer (flat_map point_in table) ∙ length_points table
  where
    longer : (ps : List Point) → length (map vert_read ps) ≡ length ps
    longer [] = refl
    longer (p ∷ ps) = ap suc (longer ps)

all_read : (ps : List Point) → live (map vert_read ps) ≡ length ps
all_read [] = refl
all_read (p ∷ ps) = omega (arith, live_cons (vert_read p) (map vert_read ps), all_read ps)

-- all of them are there
pub live_read : (table : List (Option VertRec)) → live (verts_read table) ≡ length (verts_read table)
live_read table = all_read (flat_map point_in table) ∙ length_points table ∙ sym (length_read table)

points_read : (ps : List Point) → flat_map point_in (map vert_read ps) ≡ ps
points_read [] = refl
points_read (p ∷ ps) = ap (λ (t : List Point). p ∷ t) (points_read ps)

-- and have the points
pub same_points : (table : List (Option VertRec)) → flat_map point_in (verts_read table) ≡ flat_map point_in table
same_points table = points_read (flat_map point_in table)

-- the rank of a vertex that was read is its name
rank_read : (ps : List Point) (v : ℕ) → v ≤ length ps → live (take v (map vert_read ps)) ≡ v
rank_read ps zero less = refl
rank_read [] (suc v) less = absurd (omega arith)
rank_read (p ∷ ps) (suc v) less =
    omega (arith, live_cons (vert_read p) (take v (map vert_read ps)), rank_read ps v (omega arith))

pub rank_same : (table : List (Option VertRec)) (v : ℕ) → v ≤ live table → live (take v (verts_read table)) ≡ v
rank_same table v less = rank_read (flat_map point_in table) v (omega (arith, length_points table))

-- and it is there
there_in : (ps : List Point) (v : ℕ) → v < length ps → IsThere (map vert_read ps) v
there_in [] v less = absurd (omega arith)
there_in (p ∷ ps) zero less = refl
there_in (p ∷ ps) (suc v) less = there_in ps v (omega arith)

pub there_read : (table : List (Option VertRec)) (v : ℕ) → v < live table → IsThere (verts_read table) v
there_read table v less = there_in (flat_map point_in table) v (omega (arith, length_points table))
