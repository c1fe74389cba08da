-- The words that the walks over raw memory use.
pub use Rattle.std.proofs.Common.{◌≡◌, ℕ, zero, suc, ◌+◌, ◌-◌, ◌*◌, ◌^◌, ◌<◌, ◌≤◌, List, [], ◌∷◌, ◌++◌, length, get_or, set, replicate, Option, Some, None, refl, sym, ap, ◌∙◌, subst, arith, lit<, w64, length-set, zero-mul, suc-mul}
pub use Rattle.std.proofs.raw_atomic.Walks.{proved_at, leaves}
pub use Rattle.std.specs.Mem.{type_size}
pub use seplogic.Ra.Ura.{Ura}
pub use base.Fraction.{full_share}
pub use base.Logic.{SProp, ent, sep, emp, ex, guard, id⊢, never}
pub use base.Fml.{Fml, Lft, Share, ftrue, fsep, fat, froom, flft, fbor, fobs}
pub use mir.Syntax.{Ty, a_type, ty_array, named}
pub use mir.MapTy.{inst_fn}
pub use mir.Val.{Val, vunit, vptr, vint, vstruct, vcons, vnil, of_list}
pub use prog.Wp.{WpFn}
pub use contract.Monad.{fact, fact_i}
pub use contract.Running.{tables}
pub use contract.BorrowLft.{◌⊑◌}
pub use types.Logic.{Logic, sem}
pub use types.Kit.{Item, Goal, Seq, Step, step, ‵, raw, some, given, later, ◌⊛◌, at_ret, ◌$◌, ◌∵◌, !, qed, by, move, keep, drop, use0, use1, use2, use3, pick, learn, await, split, join, group, check, show, frame, rewrite, suffices, fsplit, fsplit3, fjoin, fjoin3, fpick, fpack, feq_i, feq_l, flt_i, flt_l, done}
pub use types.Part.{whole, sub, agg}
pub use types.Run.{enter, first, blocks, exec, returns, init, look, load, stop, fld, addr, lit, unit_lit, size_lit, of_opd, bin, and_then, no_more, assigns_last}
pub use types.ByLocal.{alloc_all, pass_all, free_all, look_at, get, get_in, through, sets, sets_last, take_at, give_at, env}
pub use types.SemTy.{Body}
pub use denote.Exit.{yes, no}
pub use denote.RattleType.{RattleType, owns, Valss}
pub use denote.Laws.{Is, shows}
pub use denote.Memory.{mem, part_at, hidden_shr}
pub use denote.Param.{param, layout, layouts}
pub use denote.Param.Laws.{Laws, param_laws}
pub use denote.RawPtr.{Ptr, RawPtr, block_ptr, ptr_val, in_a_block}
pub use denote.Builtin.{usize, RefOf}
pub use denote.Opens.{hide, unhide}
pub use denote.Steps.{nothing, opens, closes, peeks, heard}
pub use denote.Signature.{plain, types_at}
pub use denote.Struct.Struct.{Struct, within}
pub use denote.Triple.Walked.{Stays, walk_of, stay_dropped, stay_ref, Goes-dropped, Goes-ref}
pub use Rattle.core.proofs.mem.Param.{El, R, el_x, elτ}
pub use Rattle.core.proofs.ptr.Rows.{times_below, one_below}
pub use Rattle.std_alloc.proofs.RcSteps.{Good, word, word-Good}
pub use Rattle.std_alloc.proofs.RawLayout.{as_raw, as_written}
pub use Rattle.std_alloc.proofs.VecSteps.Shapes.{after}
