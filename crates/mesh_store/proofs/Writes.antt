-- A write over one cell, as the links and the spare slots see it.
use Rattle.std.proofs.Common.{◌≡◌, ℕ, List, Option, Some, None, map, sym, ap, ◌∙◌}
use Rattle.std.specs.Prelude.{slice_set}
use Rattle.std.specs.Option.{option_map}
use Rattle.std.proofs.Math.Seq.{map-set_same}
use Rattle.mesh_store.specs.Slots.{at}
use Rattle.mesh_store.specs.Stored.{Stored, without_disk, without_radial, without_round, beside_darts, beside_radials, beside_rounds}
use Rattle.mesh_store.specs.declared.cells.EdgeCell.{EdgeCell}
use Rattle.mesh_store.specs.declared.cells.LoopCell.{LoopCell}

-- a write that leaves what f tells of a cell leaves it of all
beside : {X Y : Type 0} (f : X → Y) (xs : List (Option X)) (s : ℕ) (x y : X) → at xs s ≡ Some x → f y ≡ f x
    → map (option_map f) (slice_set xs s (Some y)) ≡ map (option_map f) xs
beside f xs s x y was same = map-set_same (option_map f) xs s (Some y) None (ap Some same ∙ ap (option_map f) (sym was))

-- a write of disk links leaves all else
pub darts_beside : (st : Stored) (s : ℕ) (e f : EdgeCell) → at st.edges.cells s ≡ Some e
    → without_disk f ≡ without_disk e
    → beside_darts (record st {
      edges = record { cells = slice_set st.edges.cells s (Some f); names = st.edges.names };
    }) ≡ beside_darts st
darts_beside st s e f was same =
    ap (λ (cs : List (Option EdgeCell)). record st { edges = record { cells = cs; names = st.edges.names } })
    (beside without_disk st.edges.cells s e f was same)

-- a write of radial links leaves all else
pub radials_beside : (st : Stored) (s : ℕ) (k l : LoopCell) → at st.loops s ≡ Some k
    → without_radial l ≡ without_radial k
    → beside_radials (record st { loops = slice_set st.loops s (Some l) }) ≡ beside_radials st
radials_beside st s k l was same = ap (λ (ls : List (Option LoopCell)). record st { loops = ls })
    (beside without_radial st.loops s k l was same)

-- a write of links around a face leaves all else
pub rounds_beside : (st : Stored) (s : ℕ) (k l : LoopCell) → at st.loops s ≡ Some k → without_round l ≡ without_round k
    → beside_rounds (record st { loops = slice_set st.loops s (Some l) }) ≡ beside_rounds st
rounds_beside st s k l was same = ap (λ (ls : List (Option LoopCell)). record st { loops = ls })
    (beside without_round st.loops s k l was same)
