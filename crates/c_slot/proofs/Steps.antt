-- The words that the walks of this crate share.
pub use mathlib.Core.Path.{◌≡◌, refl, sym, ap, subst, ◌∙◌}
pub use mathlib.Core.List.{List, [], ◌∷◌, ◌++◌}
pub use Rattle.std.specs.Prelude.{Bool, true, false}
pub use Rattle.std.proofs.raw_atomic.Walks.{proved_at}
pub use lib.Dec.{T}
pub use seplogic.Ra.Ura.{Ura}
pub use mir.MapTy.{inst_fn}
pub use mir.Raw.{raw as bare}
pub use mir.Syntax.{Fn, Args, Dict, a_type, dcons, dnil}
pub use mir.Val.{Val, vstruct, vptr, of_list}
pub use base.Fml.{Fml, ftrue, fsep, flft}
pub use base.Logic.{ent, id⊢, never, fst∗}
pub use types.Logic.{Logic, sem}
pub use contract.BorrowLft.{◌⊑◌}
pub use contract.Monad.{fact}
pub use contract.Running.{tables}
pub use prog.Wp.{WpFn}
pub use types.Kit.{Goal, Item, Seq, Step, step, ‵, raw, ◌⊛◌, some, later, at_ret, ◌$◌, ◌∵◌, !, qed, by, move, drop, use1, join, split, split3, pick, rewrite, fsplit, fjoin, fpick, fpack, feq_i, feq_l, suffices, await, done}
pub use types.Part.{whole, sub, agg}
pub use types.Run.{stop, fld, no_more, and_then, of_opd, returns, enter, first, blocks, exec}
pub use types.ByLocal.{alloc_all, pass_all, free_all, look_at, get, get_in, sets, lands_as, lands_last, env}
pub use denote.Exit.{no, yes}
pub use denote.Param.{bounded}
pub use denote.RattleType.{RattleType, Valss}
pub use denote.RawPtr.{Ptr, RawPtr, block_ptr, null_ptr, ptr_val, in_a_block}
pub use denote.Signature.{plain}
pub use denote.Steps.{heard, nothing, only}
pub use denote.Struct.Struct.{within}
pub use denote.Struct.Owning.{shape}
pub use denote.Struct.Tuple.{Tuple}
pub use denote.Triple.Call.{calls_at, calls_at_last}
pub use denote.Triple.Clauses.{Ended, Clauses}
pub use denote.Triple.Spec.{triple_of}
pub use denote.Triple.Table.{framed}
pub use denote.Triple.Walked.{says, Stays, stay_dropped, walk_of, ends_at}
