-- `allocate` cuts a new block into empty cells, and keeps the right to free it.
use Rattle.sb_arena.proofs.Names.{◌≡◌, ℕ, ◌*◌, ◌^◌, ◌<◌, List, [], ◌∷◌, ◌++◌, length, replicate, None, refl, sym, ap, subst, arith, lit<, w64, proved_at, leaves, SProp, ent, id⊢, Lft, Share, ftrue, flft, ty_array, inst_fn, Val, vptr, vint, vstruct, vcons, vnil, WpFn, fact, fact_i, tables, ◌⊑◌, emp, ‵, raw, ◌⊛◌, later, await, at_ret, ◌$◌, ◌∵◌, !, qed, by, move, keep, use0, use1, use2, use3, heard, split, join, suffices, fsplit, fjoin, feq_l, flt_i, flt_l, whole, agg, enter, first, exec, returns, stop, fld, lit, of_opd, bin, and_then, no_more, alloc_all, pass_all, free_all, look_at, get, get_in, sets, sets_last, env, RattleType, owns, layout, Ptr, block_ptr, nothing, plain, types_at, RefOf, Stays, walk_of, stay_dropped, Goes-dropped, usize, El, R, elτ, word, word-Good, Good, as_written, after}
use base.Fml.{Incl-trans}
use prog.Memory.{align, capped}
use prog.Capped.{capped_fits}
use types.Run.{size_word, align_word}
use types.ByLocal.{is}
use denote.Triple.Table.{framed}
use Rattle.std.proofs.lemmas.List.{length-replicate}
use Rattle.core.proofs.slots.Leases.{uncapped, block_ty, block_size, block_align, args, P}
use mir.Syntax.{Body}
use prog.Wp.{Wp, after_seq, at_return}
use types.Kit.{Post as After, any_q}
use types.Match.{live, vrt, in_variant}
use types.Run.{switches_on}
use types.ByLocal.{get_tag, lands_as}
use denote.Laws.{Is}
use mathlib.Core.Bool.{true, false}
use denote.Steps.{owned}
use denote.Struct.Struct.{Struct, Struct-Makes}
use denote.Struct.Declared as Declared
use denote.Struct.Tuple.{Tuple}
use denote.Triple.Call.{calls_at}
use Rattle.std.specs.Prelude.{Ok, Err}
use Rattle.std.specs.Vec.Ownership.{FitsInBlock}
use Rattle.core.specs.contracts.result.Result as Outcome
use Rattle.core.specs.contracts.alloc.AllocError as Refusal
use Rattle.core.proofs.alloc.Calls.{Al, Answer-typed, Takes, at_takes, Answered, Takes-goes, Takes-gives, answers}
use Rattle.std_alloc.proofs.VecSteps.Shapes.{head, arm_body}
use Rattle.std_alloc.proofs.ResultValues.{ok_of, err_of}
use Rattle.std_alloc.proofs.RcSteps.{first_Good}
use Rattle.sb_arena.specs.Ownership.{row}
use Rattle.sb_arena.proofs.Rows.{Row, Start, Mark, step_of, mark, mark_made, word_made, three, three_made, of_room}
use Rattle.sb_arena.specs.contracts.cells.Deed as D
use Rattle.sb_arena.specs.contracts.cells.allocate.{ended, clauses}
use Rattle.sb_arena.specs.contracts.cells.allocate.Key.{name as #self}
use Rattle.sb_arena.proofs.cells.allocate.Statement.{statement}
use Rattle.sb_arena.proofs.cells.allocate.Code as code

pub allocate_spec : {M : Type 1} → statement M
allocate_spec 𝓤 𝓛 𝓜 𝓡 wired X W LX LW g d dd met md =
    let H = 𝓛.H in let 𝓣 = tables 𝓤 H 𝓜 𝓡 𝓡.env in let E : El = record { row = X; laws = LX } in let Z : Al = record { row = W; laws = LW; g = g; d = d; drops = dd } in let s = step_of E in
    let En = ended X W g d dd in let c = clauses X W g d dd 𝓛 𝓜.mem 𝓡.returns in let fn = inst_fn (args E Z) code.function in let k = En.kept in let by_ref = RefOf (0 ∷ []) tt (plain (λ _. P E Z)) (λ _. tt) in
    let Deed : RattleType = D.the_row (R E) (P E Z) g in let Three : RattleType = Tuple (Start E ∷ Row E ∷ Deed ∷ []) in let Out : RattleType = Outcome.the_row Three Refusal.the_row in
    let hs : Stays En.signature.params k = (stay_dropped by_ref k.0, (stay_dropped (plain (λ _. usize)) k.1.0, tt)) in
    proved_at 𝓛 En hs c 𝓜 𝓡 (Goes-dropped 𝓛 3 by_ref k.0 (λ κs x f. refl), (Goes-dropped 𝓛 3 (plain (λ _. usize)) k.1.0 (λ κs x f. refl), tt))
    (#self (args E Z)) fn (code.unfolded 𝓤 H 𝓜 𝓡 wired (X, (W, tt)) d dd) (λ z are.
    let κ : Lft = z.0.0.0 in let q : Share = z.0.1.0 in let self = z.0.3.0 in let rb = self.ref_ptr.0 in let ro = self.ref_ptr.1 in let a = self.now in let us = z.0.4 in
    let others = ‵ (flft z.0.0.1.0 z.0.1.1.0) ⊛ ‵ (flft z.0.0.1.1.0 z.0.1.1.1.0) ⊛ ‵ ftrue in
    let Post : Val → SProp 𝓤 = (walk_of 𝓛 En hs c).post z in let Run : List Val → SProp 𝓤 = λ ws. WpFn 𝓤 H 𝓣.C 𝓣.Λ fn ws Post in
    let len : ℕ = z.0.3.1.0 in
    qed 𝓛 (((‵ (flft κ q) ⊛ others) ⊛ ‵ (owns (types_at En.signature.params z.0.0) z.0.3 us)) ∷ raw (fact 𝓤 (z.0.0.1.0 ⊑ X.lives)) ∷ raw (fact 𝓤 (z.0.0.1.1.0 ⊑ W.lives)) ∷ raw (fact 𝓤 (FitsInBlock (R E) len)) ∷ []) ∵
    move ! (1 ∷ 2 ∷ 3 ∷ []) $ heard ! _ (λ _. heard ! _ (λ within. heard ! _ (λ asked. split ! $ split ! $ move ! (2 ∷ []) $ fsplit ! $ fsplit ! $ feq_l ! (λ e0. move ! (1 ∷ []) $ fsplit ! $ fsplit ! $ feq_l ! (λ e1. flt_l ! (λ fits.
    keep ! (1 ∷ 2 ∷ 3 ∷ []) $
    -- [what `&alloc` has; its token; the other tokens]
    let bytes : len * s < 2 ^ 64 = omega (arith, asked.0) in let al : ℕ = capped (align (elτ E)) in let block = block_ty E len in
    let words : List Val = vptr rb ro ∷ vint w64 len ∷ [] in let y : (Takes Z 𝓛 𝓜.mem 𝓡.returns).Ghost = at_takes Z 𝓛 𝓜.mem 𝓡.returns κ q (rb, ro) a (len * s) al block in
    suffices ! (Run words) (subst (λ (ws : List Val). ent 𝓤 (Run words) (Run ws)) (λ j. sym e0 j ++ (sym e1 j ++ [])) (id⊢ 𝓤 (Run words))) $
    enter ! 𝓣.C 𝓣.Λ fn words Post $ alloc_all ! (λ l. pass_all ! refl ((tt, tt), ((tt, record { fits = fits }), tt)) $
    let Ev = env fn.locals l in let both : Body = head (after 2 fn.body) in
    let Then : After 𝓤 H = any_q (after_seq 𝓤 H (Wp 𝓤 H 𝓣.C 𝓣.Λ Ev (after 3 fn.body) (at_return 𝓤 H Ev Post)) (at_return 𝓤 H Ev Post)) in
    sets ! (is ! (bin ! (get ! refl) (size_word !) (record { fits = subst (λ (n : ℕ). n < 2 ^ 64) (sym (uncapped len s bytes)) bytes })) (ap (vint w64) (uncapped len s bytes))) refl (tt, record { fits = bytes }) $
    use2 𝓛 (raw ((Takes Z 𝓛 𝓜.mem 𝓡.returns).pre y)) (Takes-goes Z 𝓛 𝓜.mem 𝓡.returns κ q (rb, ro) a (Incl-trans z.0.2.0 within) (len * s) al block (block_size E len bytes) (block_align E len) bytes (capped_fits (align (elτ E)))) $
    calls_at ! (framed 𝓤 H 𝓜 𝓣) (Takes Z 𝓛 𝓜.mem 𝓡.returns) (met.allocate dd) y (and_then ! (get ! refl) (and_then ! (get ! refl) (and_then ! (align_word !) (no_more !)))) (λ v.
    use1 𝓛 (later (raw (Answered Z 𝓛 𝓜.mem 𝓡.returns a block v) ⊛ ‵ (flft κ q))) (Takes-gives Z 𝓛 𝓜.mem 𝓡.returns κ q (rb, ro) a (len * s) al block v) $ await ! tt $ split ! $
    answers Z ! 𝓜.mem 𝓡.returns a block v
    (λ b o e.
    let p : Ptr = block_ptr b o in let start : (Start E).Denot = record { ptr = p } in let cells : (Row E).Denot = record { mark = record {}; at = p; slots = replicate len None } in
    let deed : Deed.Denot = record { mark = record {}; at = p; len = len; alloc = a } in let made : Val = three (word p) mark mark in let all : Three.Denot = (start, cells, deed) in
    let typed : Good (layout Three) made = (tt, ((tt, tt), ((tt, tt), ((tt, tt), tt)))) in let ok = first_Good (layout Three) made typed in
    let Cut : Type 0 = (cells.at ≡ p) × (cells.slots ≡ replicate len None) in let Right : Type 0 = (deed.at ≡ p) × (deed.len ≡ len) × (deed.alloc ≡ a) in
    lands_as ! e refl (Answer-typed true b o) $ first ! $ switches_on ! (get_tag ! (vrt ! refl (fld ! refl (stop !))) (whole !)) $ exec ! 𝓣.C 𝓣.Λ Ev (arm_body 0 both) Then $
    sets ! (of_opd ! (get_in ! (vrt ! refl (fld ! refl (stop !))) (in_variant ! 0 0 refl refl (whole !)))) refl (tt, tt) $ sets ! (of_opd ! (get ! refl)) refl (tt, tt) $
    sets ! (agg ! (and_then ! (get ! refl) (no_more !))) refl (word-Good [] p) $
    sets ! (agg ! (no_more !)) refl (tt, tt) $ sets ! (agg ! (and_then ! (get ! refl) (no_more !))) refl (tt, (tt, tt)) $
    sets ! (agg ! (no_more !)) refl (tt, tt) $ sets ! (agg ! (and_then ! (get ! refl) (no_more !))) refl (tt, (tt, tt)) $
    sets ! (agg ! (and_then ! (get ! refl) (and_then ! (get ! refl) (and_then ! (get ! refl) (no_more !))))) refl typed $
    sets_last ! (agg ! (and_then ! (lit ! tt) (and_then ! (get ! refl) (no_more !)))) refl ok $
    exec ! 𝓣.C 𝓣.Λ Ev (after 3 fn.body) (at_ret Ev Post) $ sets ! (of_opd ! (get ! refl)) refl ok $
    -- [room for the block; the allocator's token; the lifetime's; the other tokens]
    move ! (1 ∷ []) $ use0 𝓛 (‵ ((Mark E).own_val (tt, tt) (mark ∷ []))) (mark_made E 𝓛) $ fjoin ! $ move ! (1 ∷ []) $
    as_written ! (ty_array (elτ E) len) b o $ use1 𝓛 (‵ (row (R E) b o cells.slots)) (of_room E 𝓛 b len o) $
    flt_i ! (length cells.slots * s) (2 ^ 63) (subst (λ n. n * s < 2 ^ 63) (sym (length-replicate len None)) asked.0) $ fjoin ! $
    use0 𝓛 (‵ ((Mark E).own_val (tt, tt) (mark ∷ []))) (mark_made E 𝓛) $ fjoin ! $ word_made ! p $
    use3 𝓛 (‵ (Three.own_val all (made ∷ []))) (three_made 𝓛 (Start E) (Row E) Deed start cells deed (word p) mark mark) $
    use1 𝓛 (‵ (Out.own_val (Ok all) (live 0 (vcons made vnil) ∷ []))) (ok_of 𝓛 Three Refusal.the_row all made) $
    returns ! (look_at ! 0 refl) $ free_all ! refl $ keep ! (0 ∷ 1 ∷ 2 ∷ []) $ move ! (1 ∷ 2 ∷ []) $ join ! $ nothing ! $ nothing ! $ fjoin ! $ nothing ! $ fjoin ! $
    use0 𝓛 (raw (fact 𝓤 Right)) (fact_i 𝓤 Right (emp 𝓤) (refl, refl, refl)) $ use0 𝓛 (raw (fact 𝓤 Cut)) (fact_i 𝓤 Cut (emp 𝓤) (refl, refl)) $ join ! $ move ! (2 ∷ 1 ∷ 3 ∷ 0 ∷ []) $ by ! (leaves 𝓛 En hs c z (live 0 (vcons made vnil)) (Ok all) (tt, (tt, tt)) (tt, (tt, tt))))
    (λ e.
    let Refused : RattleType = Struct (Declared.shape Refusal.the_type) in let none : Val = live 1 (vcons (vstruct vnil) vnil) in let Told : Type 0 = Unit {0} in
    lands_as ! e refl (Answer-typed false 0 0) $ first ! $ switches_on ! (get_tag ! (vrt ! refl (fld ! refl (stop !))) (whole !)) $ exec ! 𝓣.C 𝓣.Λ Ev (arm_body 1 both) Then $
    sets ! (of_opd ! (get_in ! (vrt ! refl (fld ! refl (stop !))) (in_variant ! 1 0 refl refl (whole !)))) refl (tt, tt) $
    sets_last ! (agg ! (and_then ! (lit ! tt) (and_then ! (get ! refl) (no_more !)))) refl (tt, (record { fits = lit< tt }, (tt, tt))) $
    exec ! 𝓣.C 𝓣.Λ Ev (after 3 fn.body) (at_ret Ev Post) $ sets ! (of_opd ! (get ! refl)) refl (tt, (record { fits = lit< tt }, (tt, tt))) $
    owned ! Refused (Is Refused) (Struct-Makes 𝓛 (Declared.shape Refusal.the_type) tt) tt (vstruct vnil ∷ []) (tt, (refl, tt)) $
    use1 𝓛 (‵ (Out.own_val (Err (record {})) (none ∷ []))) (err_of 𝓛 Three Refusal.the_row (record {}) (vstruct vnil)) $
    returns ! (look_at ! 0 refl) $ free_all ! refl $ keep ! (0 ∷ 1 ∷ 2 ∷ []) $ move ! (1 ∷ 2 ∷ []) $ join ! $ nothing ! $ nothing ! $ fjoin ! $ nothing ! $ fjoin ! $
    use0 𝓛 (raw (fact 𝓤 Told)) (fact_i 𝓤 Told (emp 𝓤) tt) $ use0 𝓛 (raw (fact 𝓤 Told)) (fact_i 𝓤 Told (emp 𝓤) tt) $ join ! $ move ! (2 ∷ 1 ∷ 3 ∷ 0 ∷ []) $ by ! (leaves 𝓛 En hs c z none (Err (record {})) (tt, (tt, tt)) (tt, (tt, tt)))))))))))))
