-- How many keys a store's links have at most.
use Rattle.std.specs.Prelude.{◌≡◌, ◌≤◌, ◌<◌, ◌+◌, ◌*◌, ℕ, zero, suc, true, nat_lt, is_some, IsTrue, List, [], ◌∷◌, length}
use Rattle.std.specs.declared.option.Option.{Option}
use Rattle.std.proofs.Common.{arith}
use Rattle.std.proofs.lemmas.Bool.{and_parts, ltb-true}
use Rattle.link_ring.specs.Members.{AllDistinct}
use Rattle.link_ring.specs.Ring.{AllKeys}
use Rattle.link_ring.specs.Limits.{key_of, keys_limited}
use Rattle.mesh_store.specs.Slots.{at}
use Rattle.mesh_store.specs.Stored.{Stored, dart_links, radial_links, round_links}
use Rattle.mesh_store.specs.declared.cells.Dart.{Dart}
use Rattle.mesh_store.specs.declared.cells.Radial.{Radial}
use Rattle.mesh_store.specs.declared.cells.Round.{Round}

-- a live slot is within the list
pub live_below : {X : Type 0} (xs : List (Option X)) (s : ℕ) → is_some (at xs s) ≡ true → s < length xs
live_below [] s e = cc
live_below (x ∷ xs) zero e = omega arith
live_below (x ∷ xs) (suc s) e = omega (arith, live_below xs s e)

-- a dart's edge is live, and its side is 0 or 1
pub is_dart : (st : Stored) (d : Dart) → IsTrue ((dart_links st).has d)
    → (is_some (at st.edges.cells d.edge.0) ≡ true) × (d.side < 2)
is_dart st d h = let t = and_parts (is_some (at st.edges.cells d.edge.0)) (nat_lt d.side 2) h in
    (t.0, ltb-true d.side 2 t.1)

-- darts are equal where their parts are
pub equal_darts : (a b : Dart) → a.edge.0 ≡ b.edge.0 → a.side ≡ b.side → a ≡ b
equal_darts a b p q = λ i. record { edge = record { 0 = p i }; side = q i }

-- there are at most two darts for each place of an edge
pub darts_limited : (st : Stored) (ds : List Dart) → AllDistinct ds → AllKeys (dart_links st) ds
    → length ds ≤ 2 * length st.edges.cells
darts_limited st ds d k = keys_limited (λ (x : Dart). 2 * x.edge.0 + x.side) (2 * length st.edges.cells) ds d
    (λ a b p q e. let s = (is_dart st a (key_of (dart_links st) ds a k p)).1 in let t =
    (is_dart st b (key_of (dart_links st) ds b k q)).1 in equal_darts a b (omega arith) (omega arith))
    (λ x p. let h = is_dart st x (key_of (dart_links st) ds x k p) in let l =
    live_below st.edges.cells x.edge.0 h.0 in let t = h.1 in omega arith)

-- there is at most one loop for each place
pub radials_limited : (st : Stored) (rs : List Radial) → AllDistinct rs → AllKeys (radial_links st) rs
    → length rs ≤ length st.loops
radials_limited st rs d k = keys_limited (λ (x : Radial). x.0.0) (length st.loops) rs d
    (λ a b p q e. λ i. record { 0 = record { 0 = e i } })
    (λ x p. live_below st.loops x.0.0 (key_of (radial_links st) rs x k p))

-- the same of loops around their faces
pub rounds_limited : (st : Stored) (rs : List Round) → AllDistinct rs → AllKeys (round_links st) rs
    → length rs ≤ length st.loops
rounds_limited st rs d k = keys_limited (λ (x : Round). x.0.0) (length st.loops) rs d
    (λ a b p q e. λ i. record { 0 = record { 0 = e i } })
    (λ x p. live_below st.loops x.0.0 (key_of (round_links st) rs x k p))
