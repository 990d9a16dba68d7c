-- A `&` to a chunk is made where one to each of its values is.
use Prim.Native.Nat.{ℕ, ◌+◌}
use Rattle.std.specs.Prelude.{List, [], ◌∷◌, length}
use Rattle.std.specs.Mem.{type_size}
use seplogic.Ra.Ura.{Ura}
use base.Fraction.{full_share}
use base.Fml.{Lft, Incl, ftrue, ffalse, fsep, fwand, froom}
use mir.Syntax.{ty_int, w32}
use mir.Raw.{raw}
use contract.BorrowLft.{⊑_static}
use denote.Builtin.{u32}
use denote.Memory.{lone, part_at, shared_of}
use denote.Param.Shared.{copy_shared}
use denote.Struct.Field.{u32-field}
use denote.Struct.Laws.{u32-copy}
use types.Logic.{Logic}
use denote.RattleType.{RattleType, RowLaws}
use denote.Param.Laws.{Laws}
use denote.RawPtr.{Ptr, block_ptr, null_ptr}
use denote.Sharing.{ShrLaws, said}
use denote.SharingLaws.{beside_shr_laws, nothing_shr_laws, said_shr_laws}
use denote.Shares.{Shares-less}
use denote.Struct.Lending.{Lends, Lends-both, Lends-first, Lends-nothing, Lends-said, Lends-false}
use Rattle.raw_pool.specs.Place.{Place, Empty, Value, Link}
use Rattle.raw_pool.specs.Ownership.{place_owns, row_owns, place_lends, row_lends, fits, token, chunk_owns, chunk_lends}

module _ (R : RattleType) (L : RowLaws R) where
  place_laws : (b o : ℕ) (p : Place R.Denot) → ShrLaws (place_lends R b o p)
  place_laws b o Empty = nothing_shr_laws
  place_laws b o (Value x) = L x b o
  place_laws b o (Link n) = (copy_shared u32-field u32-copy).shr_laws n b o

  row_laws : (b o : ℕ) (ps : List (Place R.Denot)) → ShrLaws (row_lends R b o ps)
  row_laws b o [] = nothing_shr_laws
  row_laws b o (p ∷ ps) = beside_shr_laws _ _ (place_laws b o p) (row_laws b (o + type_size R) ps)

  pub chunk_laws : (at : Ptr) (ps : List (Place R.Denot)) → ShrLaws (chunk_lends R at ps)
  chunk_laws (block_ptr b o) ps = beside_shr_laws _ _ (said_shr_laws (fits R (length ps)) (λ _. tt)) (row_laws b o ps)
  chunk_laws null_ptr ps = said_shr_laws ffalse tt

module _ {M : Type 1} {𝓤 : Ura M} (𝓛 : Logic 𝓤) (l : Lft) (R : RattleType) (L : Laws R) (inside : Incl l R.lives) where
  lends_place : (b o : ℕ) (p : Place R.Denot) → Lends 𝓛 (place_owns R b o p) (place_lends R b o p) l
  lends_place b o Empty = Lends-nothing 𝓛 (place_owns R b o Empty) l
  lends_place b o (Value x) = λ κ ts. Shares-less 𝓛 R R.lives l inside (L.shares 𝓛) x κ ts b o
  lends_place b o (Link n) =
      Lends-first 𝓛 (part_at u32 full_share n b o) (fwand (froom (ty_int w32) b o) (froom (raw (lone R.mir)) b o))
      (shared_of u32 n b o) l
      (λ κ ts. Shares-less 𝓛 u32 [] l (⊑_static l) ((copy_shared u32-field u32-copy).shares M 𝓤 𝓛) n κ ts b o)

  lends_row : (b o : ℕ) (ps : List (Place R.Denot)) → Lends 𝓛 (row_owns R b o ps) (row_lends R b o ps) l
  lends_row b o [] = Lends-nothing 𝓛 ftrue l
  lends_row b o (p ∷ ps) =
      let s = type_size R in
      Lends-both 𝓛 (place_owns R b o p) (row_owns R b (o + s) ps) (place_lends R b o p) (row_lends R b (o + s) ps) l
      (lends_place b o p) (lends_row b (o + s) ps)

  pub lends_chunk : (at : Ptr) (ps : List (Place R.Denot)) → Lends 𝓛 (chunk_owns R at ps) (chunk_lends R at ps) l
  lends_chunk (block_ptr b o) ps =
      let row = row_owns R b o ps in let all = fits R (length ps) in let right = token R (length ps) (block_ptr b o) in
      Lends-both 𝓛 all (fsep row right) (said all) (row_lends R b o ps) l (Lends-said 𝓛 all (λ _. tt) l)
      (Lends-first 𝓛 row right (row_lends R b o ps) l (lends_row b o ps))
  lends_chunk null_ptr ps = Lends-false 𝓛 (said ffalse) l
