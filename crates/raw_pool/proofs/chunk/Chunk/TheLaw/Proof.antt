-- A `&` to a chunk reaches each value.
use mathlib.Core.List.{[], ◌++◌}
use base.Fml.{Incl-trans}
use contract.BorrowLft.{meet_⊑_left}
use denote.RattleType.{RattleType}
use denote.Struct.Field.{RawPtr-field}
use denote.Struct.Laws.{RawPtr-copy}
use denote.Param.Laws.{Laws}
use denote.Param.Shared.{copy_shared}
use denote.Struct.Lending.{of_Lends}
use Rattle.raw_pool.specs.contracts.chunk.Chunk as C
use Rattle.raw_pool.proofs.chunk.Chunk.TheLaw.Statement.{statement}
use Rattle.raw_pool.proofs.Sharing.{chunk_laws, lends_chunk}

pub shares : (R : RattleType) (L : Laws R) → statement R L
shares R L =
    of_Lends (C.struct R) (C.the_codes R.Denot R.coded) (C.the_heap R) (C.the_lent R)
    (λ d _. chunk_laws R L.shr_laws d.start d.places) (copy_shared RawPtr-field RawPtr-copy, tt)
    (λ M 𝓤 𝓛 d _. lends_chunk 𝓛 (C.the_row R).lives R L (Incl-trans (meet_⊑_left (R.lives ++ []) _)
    (meet_⊑_left R.lives [])) d.start d.places)
