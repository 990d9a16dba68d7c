-- The names that the walks of the raw functions cite.
pub use mathlib.Core.Path.{◌≡◌, refl, sym, ap, subst, ◌∙◌}
pub use mathlib.Core.Bool.{true, false}
pub use Prim.Native.Nat.{ℕ, ◌+◌, ◌*◌, ◌<◌, ◌^◌}
pub use native.Mathlib.Omega.{arith}
pub use mathlib.Core.List.{List, [], ◌∷◌, ◌++◌}
pub use lib.Dec.{lit<}
pub use lib.ListN.{length, set, get_or, length-set, replicate, length-replicate}
pub use base.Fraction.{full_share}
pub use base.Logic.{SProp, ent, sep, id⊢, never}
pub use base.Fml.{GName, Fml, ftrue, fsep, fat, froom, fwand, flft, fobs, fbor}
pub use mir.Syntax.{Fn, Body, Ty, named, w32, w64, ty_int, ty_array}
pub use mir.MapTy.{inst_fn}
pub use mir.Raw.{raw as bare}
pub use mir.Val.{Val, vptr, vint, vunit, vstruct, vcons, vnil}
pub use prog.Wp.{Env, Wp, WpFn, after_seq, at_return}
pub use prog.Memory.{align, capped}
pub use prog.Capped.{capped_fits}
pub use types.Logic.{sem}
pub use contract.BorrowLft.{◌⊑◌}
pub use contract.Monad.{fact}
pub use contract.Running.{tables}
pub use types.Kit.{‵, raw, ◌⊛◌, some, given, later, prop, at_ret, ◌$◌, ◌∵◌, !, qed, by, move, keep, drop, use0, use1, use2, use3, split, split3, join, group, pick, learn, await, regoal, rewrite, fsplit, fsplit3, fjoin, fjoin3, fpick, fpack, feq_i, feq_l, suffices, frame, done}
pub use types.Match.{live, vrt, in_variant}
pub use types.Kit.{Post as After, any_q}
pub use types.Part.{agg, whole, sub, look_in}
pub use types.Run.{lit, bin, and_then, no_more, size_word, align_word, switches_on, init, look, stop, fld, load, addr, size_lit, unit_lit, of_opd, first, blocks, assigns_last, exec, returns, enter, well_typed}
pub use types.ByLocal.{is, get_tag, lands_as, lands_last, alloc_all, pass_all, free_all, look_at, get, get_in, through, sets, sets_last, env}
pub use denote.Exit.{yes, no}
pub use denote.RattleType.{owns}
pub use denote.Builtin.{usize, u32, unit, RefOf}
pub use denote.Memory.{cell_at, part_at, hidden_shr, mem}
unfoldable pub use denote.Memory.{part_of}
pub use denote.Opens.{hide, unhide}
pub use denote.Plain.{uint_Makes, uint_in, uint_out}
pub use denote.RawPtr.{Ptr, RawPtr, block_ptr, in_a_block}
pub use denote.Ref.{MutBor, MutRef}
pub use denote.Signature.{plain, types_at, mut_ref_to}
pub use denote.Steps.{nothing, heard, owned}
pub use denote.Triple.Call.{calls_at, calls_at_last}
pub use denote.Triple.Table.{framed}
pub use denote.Triple.Walked.{Stays, stay_dropped, stay_ref, walk_of, ends_at, says, Goes-dropped, Goes-ref, Goes-spent_ref}
pub use Rattle.core.proofs.alloc.Shapes.{after, head, arm_body}
pub use Rattle.core.proofs.alloc.Calls.{Answer, Answer-typed, Goes-blank}
pub use Rattle.core.proofs.slots.Leases.{uncapped, block_ty, block_size, block_align}
pub use Rattle.core.proofs.mem.Param.{El, R, args, el_x, elτ, lawful, one}
pub use Rattle.core.proofs.slice.Rows.{el_out, el_in}
pub use Rattle.std.proofs.raw_atomic.Walks.{proved_at}
pub use Rattle.std_alloc.proofs.RawLayout.{as_raw, as_written}
pub use Rattle.raw_pool.specs.Place.{Place, Empty, Value, Link, IsEmpty, IsFilled, IsLinked}
pub use Rattle.raw_pool.specs.Ownership.{HoldsLink, place_owns, row_owns, place_lends, row_lends, token, chunk_owns, chunk_lends}
