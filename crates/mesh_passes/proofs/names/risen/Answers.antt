use Rattle.std.proofs.Common.{◌≡◌, ℕ, eqb, sym, ◌∙◌}
use Rattle.std.proofs.lemmas.List.Filters.{dedup_is}
use Rattle.std.proofs.lemmas.List.Kept.{AllPairs-from_increasing}
use Rattle.std.proofs.lemmas.List.Sorted.{list_any-IsPermutation}
use Rattle.std.proofs.lemmas.Map.Keys.{IsStrictlyIncreasing-dedup}
use Rattle.mesh_passes.proofs.NameLists.{increasing_rises, among_dedup}
use Rattle.mesh_passes.proofs.names.risen.Goals as goal

pub returns-clause-rising : goal.returns-clause-rising
returns-clause-rising c =
    let is = dedup_is _ _ _ c.dedup.ensures.filtered in
    rw is (increasing_rises _
    (AllPairs-from_increasing _ (IsStrictlyIncreasing-dedup _ c.sort_unstable.ensures.sorted)))

pub returns-clause-members : goal.returns-clause-members
returns-clause-members c = λ n.
    let is = dedup_is _ _ _ c.dedup.ensures.filtered in
    rw is (among_dedup n _
    ∙ sym (list_any-IsPermutation (λ (m : ℕ). eqb m n) _ _ c.sort_unstable.ensures.permutation))
