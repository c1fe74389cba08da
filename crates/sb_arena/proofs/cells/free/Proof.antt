-- `free` makes one room of the empty cells, and hands it back with the allocator's token.
use Rattle.sb_arena.proofs.Names.{◌≡◌, ℕ, ◌*◌, ◌^◌, ◌<◌, List, [], ◌∷◌, ◌++◌, replicate, None, refl, sym, ap, ◌∙◌, subst, arith, w64, proved_at, leaves, SProp, ent, id⊢, never, Lft, Share, ftrue, froom, flft, ty_array, inst_fn, Val, vunit, vptr, vint, WpFn, fact, tables, ◌⊑◌, ‵, raw, ◌⊛◌, given, later, await, learn, at_ret, ◌$◌, ◌∵◌, !, qed, by, move, keep, use1, heard, split, join, group, rewrite, suffices, fsplit, fjoin, feq_i, feq_l, flt_l, whole, sub, enter, first, blocks, exec, returns, stop, fld, unit_lit, of_opd, bin, and_then, no_more, alloc_all, pass_all, free_all, look_at, get, get_in, sets, env, RattleType, owns, Ptr, ptr_val, in_a_block, nothing, plain, types_at, RefOf, Stays, walk_of, stay_dropped, Goes-dropped, usize, El, R, elτ, word, word-Good, as_raw, after}
use base.Fml.{Incl-trans}
use prog.Memory.{align, capped}
use prog.Capped.{capped_fits}
use types.Run.{size_word, align_word}
use types.ByLocal.{is}
use denote.Triple.Table.{framed}
use Rattle.std.proofs.lemmas.List.{length-replicate}
use Rattle.core.proofs.slots.Leases.{uncapped, block_ty, block_size, block_align, args, P}
use lib.Dec.{T}
use mir.Syntax.{ty_unit}
use mir.Val.{has_ty, WT}
use types.ByLocal.{lands_last}
use denote.Triple.Call.{calls_at_last}
use Rattle.core.proofs.alloc.Calls.{Al, token, Gives, at_gives, Gives-goes, Gives-Gives, Goes-blank}
use Rattle.sb_arena.specs.Ownership.{row_at, token_of}
use Rattle.sb_arena.proofs.Rows.{Row, Start, Cell, step_of, mark, mark_had, word_had, to_room}
use Rattle.sb_arena.specs.contracts.cells.Deed as D
use Rattle.sb_arena.specs.contracts.cells.free.{ended, clauses}
use Rattle.sb_arena.specs.contracts.cells.free.Key.{name as #self}
use Rattle.sb_arena.proofs.cells.free.Statement.{statement}
use Rattle.sb_arena.proofs.cells.free.Code as code

pub free_spec : {M : Type 1} → statement M
free_spec 𝓤 𝓛 𝓜 𝓡 wired X W LX LW g d dd met md =
    let H = 𝓛.H in let 𝓣 = tables 𝓤 H 𝓜 𝓡 𝓡.env in let E : El = record { row = X; laws = LX } in let Z : Al = record { row = W; laws = LW; g = g; d = d; drops = dd } in let s = step_of E in
    let En = ended X W g d dd in let c = clauses X W g d dd 𝓛 𝓜.mem 𝓡.returns in let fn = inst_fn (args E Z) code.function in let k = En.kept in let by_ref = RefOf (0 ∷ []) tt (plain (λ _. P E Z)) (λ _. tt) in
    let Deed : RattleType = D.the_row (R E) (P E Z) g in
    let hs : Stays En.signature.params k = (stay_dropped by_ref k.0, (stay_dropped (plain (λ _. Start E)) k.1.0, (stay_dropped (plain (λ _. usize)) k.1.1.0, (stay_dropped (plain (λ _. Row E)) k.1.1.1.0, (stay_dropped (plain (λ _. Deed)) k.1.1.1.1.0, tt))))) in
    proved_at 𝓛 En hs c 𝓜 𝓡
    (Goes-dropped 𝓛 3 by_ref k.0 (λ κs x f. refl), (Goes-dropped 𝓛 3 (plain (λ _. Start E)) k.1.0 (λ κs x f. refl), (Goes-dropped 𝓛 3 (plain (λ _. usize)) k.1.1.0 (λ κs x f. refl), (Goes-blank 𝓛 3 (plain (λ _. Row E)) k.1.1.1.0 (λ κs x f. tt), (Goes-blank 𝓛 3 (plain (λ _. Deed)) k.1.1.1.1.0 (λ κs x f. tt), tt)))))
    (#self (args E Z)) fn (code.unfolded 𝓤 H 𝓜 𝓡 wired (X, (W, tt)) d dd) (λ z are.
    let κ : Lft = z.0.0.0 in let q : Share = z.0.1.0 in let self = z.0.3.0 in let rb = self.ref_ptr.0 in let ro = self.ref_ptr.1 in let a = self.now in let us = z.0.4 in
    let others = ‵ (flft z.0.0.1.0 z.0.1.1.0) ⊛ ‵ (flft z.0.0.1.1.0 z.0.1.1.1.0) ⊛ ‵ ftrue in
    let Post : Val → SProp 𝓤 = (walk_of 𝓛 En hs c).post z in let Run : List Val → SProp 𝓤 = λ ws. WpFn 𝓤 H 𝓣.C 𝓣.Λ fn ws Post in
    let start = z.0.3.1.0 in let len : ℕ = z.0.3.1.1.0 in let cells = z.0.3.1.1.1.0 in let deed = z.0.3.1.1.1.1.0 in
    qed 𝓛 (((‵ (flft κ q) ⊛ others) ⊛ ‵ (owns (types_at En.signature.params z.0.0) z.0.3 us)) ∷ raw (fact 𝓤 (z.0.0.1.0 ⊑ X.lives)) ∷ raw (fact 𝓤 (z.0.0.1.1.0 ⊑ W.lives))
    ∷ raw (fact 𝓤 ((cells.at ≡ start.ptr) × (cells.slots ≡ replicate len None))) ∷ raw (fact 𝓤 ((deed.at ≡ start.ptr) × (deed.len ≡ len) × (deed.alloc ≡ a))) ∷ []) ∵
    move ! (1 ∷ 2 ∷ 3 ∷ 4 ∷ []) $ heard ! _ (λ _. heard ! _ (λ within. heard ! _ (λ cut. heard ! _ (λ right. split ! $ split ! $ move ! (2 ∷ []) $ fsplit ! $ fsplit ! $ feq_l ! (λ e0. move ! (1 ∷ []) $ fsplit ! $ word_had ! start.ptr us.1.0 (λ e1.
    fsplit ! $ fsplit ! $ feq_l ! (λ e2. flt_l ! (λ fits. fsplit ! $ fsplit ! $ mark_had ! E us.1.1.1.0 (λ e3. move ! (1 ∷ []) $ fsplit ! $ fsplit ! $ mark_had ! E us.1.1.1.1.0 (λ e4. keep ! (2 ∷ 0 ∷ 3 ∷ 4 ∷ 5 ∷ []) $
    -- [the cells; the deed; what `&alloc` has; its token; the other tokens]
    let al : ℕ = capped (align (elτ E)) in let block = block_ty E len in let words : List Val = vptr rb ro ∷ word start.ptr ∷ vint w64 len ∷ mark ∷ mark ∷ [] in
    suffices ! (Run words) (subst (λ (ws : List Val). ent 𝓤 (Run words) (Run ws)) (λ j. sym e0 j ++ (sym e1 j ++ (sym e2 j ++ (sym e3 j ++ (sym e4 j ++ []))))) (id⊢ 𝓤 (Run words))) $
    enter ! 𝓣.C 𝓣.Λ fn words Post $ alloc_all ! (λ l. pass_all ! refl ((tt, tt), (word-Good [] start.ptr, ((tt, record { fits = fits }), ((tt, (tt, tt)), ((tt, (tt, tt)), tt))))) $
    rewrite ! 0 (λ (r : Ptr × List (Cell E)). ‵ (row_at (R E) r.0 r.1)) (λ i. (cut.0 i, cut.1 i)) refl $
    in_a_block ! start.ptr (λ p. row_at (R E) p (replicate len None)) (id⊢ 𝓤 (never 𝓤)) (λ b o e. fsplit ! $ flt_l ! (λ fit.
    let small : len * s < 2 ^ 63 = subst (λ n. n * s < 2 ^ 63) (length-replicate len None) fit in let bytes : len * s < 2 ^ 64 = omega arith in
    let y : (Gives Z 𝓛 𝓜.mem 𝓡.returns).Ghost = at_gives Z 𝓛 𝓜.mem 𝓡.returns κ q (rb, ro) a b o (len * s) al block in
    rewrite ! 1 (λ (r : W.Denot × Ptr × ℕ). ‵ (token_of (R E) (token Z r.0) r.1 r.2)) (λ i. (right.2 i, (right.0 ∙ e) i, right.1 i)) refl $
    use1 𝓛 (‵ (froom (ty_array (elτ E) len) b o)) (to_room E 𝓛 b len o) $ as_raw ! (ty_array (elτ E) len) b o $ first ! $ blocks ! $
    sets ! (is ! (of_opd ! (get_in ! (fld ! refl (stop !)) (sub ! 0 refl (whole !)))) (ap ptr_val e)) refl (tt, tt) $
    sets ! (is ! (bin ! (get ! refl) (size_word !) (record { fits = subst (λ (n : ℕ). n < 2 ^ 64) (sym (uncapped len s bytes)) bytes })) (ap (vint w64) (uncapped len s bytes))) refl (tt, record { fits = bytes }) $
    group ! 4 $ use1 𝓛 (raw ((Gives Z 𝓛 𝓜.mem 𝓡.returns).pre y)) (Gives-goes Z 𝓛 𝓜.mem 𝓡.returns κ q (rb, ro) a (Incl-trans z.0.2.0 within) b o (len * s) al block (block_size E len bytes) (block_align E len) bytes (capped_fits (align (elτ E)))) $
    calls_at_last ! (framed 𝓤 H 𝓜 𝓣) (Gives Z 𝓛 𝓜.mem 𝓡.returns) (met.deallocate dd) y (and_then ! (get ! refl) (and_then ! (get ! refl) (and_then ! (get ! refl) (and_then ! (align_word !) (no_more !))))) (λ v.
    use1 𝓛 (later (given (v ≡ vunit) (‵ (flft κ q)))) (Gives-Gives Z 𝓛 𝓜.mem 𝓡.returns κ q (rb, ro) a b o (len * s) al block v) $ await ! tt $ learn ! (λ is_unit.
    lands_last ! refl (subst (λ (u : Val). T (has_ty ty_unit u) × WT u) (sym is_unit) (tt, tt)) $ exec ! 𝓣.C 𝓣.Λ (env fn.locals l) (after 1 fn.body) (at_ret (env fn.locals l) Post) $
    sets ! (of_opd ! (unit_lit !)) refl (tt, tt) $ returns ! (look_at ! 0 refl) $ free_all ! refl $ keep ! (0 ∷ 1 ∷ []) $ join ! $
    nothing ! $ nothing ! $ fjoin ! $ nothing ! $ fjoin ! $ nothing ! $ fjoin ! $ nothing ! $ fjoin ! $ nothing ! $ fjoin ! $
    feq_i ! (List Val) (vunit ∷ []) (vunit ∷ []) refl $ nothing ! $ move ! (3 ∷ 2 ∷ 1 ∷ 0 ∷ []) $ by ! (leaves 𝓛 En hs c z vunit tt (tt, (tt, (tt, (tt, (tt, tt))))) (tt, (tt, (tt, (tt, (tt, tt))))))))))))))))))))))
