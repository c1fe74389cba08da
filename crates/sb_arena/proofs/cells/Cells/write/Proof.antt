-- `write` takes the cell's room out of the row, and puts back a cell with the value.
use Rattle.sb_arena.proofs.Names.{◌≡◌, ℕ, ◌*◌, ◌+◌, ◌^◌, ◌<◌, List, [], ◌∷◌, ◌++◌, length, get_or, set, Some, None, refl, sym, ◌∙◌, subst, arith, w64, length-set, proved_at, leaves, full_share, SProp, ent, id⊢, never, Lft, Share, ftrue, fat, flft, a_type, inst_fn, Val, vunit, vptr, vint, WpFn, fact, fact_i, tables, ◌⊑◌, emp, ‵, raw, ◌⊛◌, at_ret, ◌$◌, ◌∵◌, !, qed, by, move, keep, use0, use1, use2, heard, split, join, rewrite, suffices, fsplit, fsplit3, fjoin, fjoin3, feq_i, feq_l, flt_i, flt_l, whole, sub, enter, first, blocks, exec, returns, init, stop, fld, unit_lit, size_lit, of_opd, bin, assigns_last, alloc_all, pass_all, free_all, look_at, get, get_in, through, sets, take_at, give_at, env, owns, layouts, layout, Ptr, in_a_block, nothing, opens, closes, plain, Stays, walk_of, stay_dropped, stay_ref, types_at, Goes-dropped, Goes-ref, usize, El, R, elτ, times_below, one_below, word, word-Good, as_written, after}
use Rattle.sb_arena.specs.Ownership.{cell, row, row_at}
use Rattle.sb_arena.proofs.Rows.{Row, Start, Cell, step_of, word_had, value_had, value_in, others, cell_out, cell_in}
use Rattle.sb_arena.specs.contracts.cells.Cells.write.{ended, clauses}
use Rattle.sb_arena.specs.contracts.cells.Cells.write.Key.{name as #self}
use Rattle.sb_arena.proofs.cells.Cells.write.Statement.{statement}
use Rattle.sb_arena.proofs.cells.Cells.write.Code as code

pub write_spec : {M : Type 1} → statement M
write_spec 𝓤 𝓛 𝓜 𝓡 wired X L =
    let H = 𝓛.H in let 𝓣 = tables 𝓤 H 𝓜 𝓡 𝓡.env in let E : El = record { row = X; laws = L } in let s = step_of E in
    let En = ended X in let c = clauses X 𝓛 𝓜.mem 𝓡.returns in let inst = layouts (a_type ∷ []) (X, tt) in let fn = inst_fn inst code.function in
    let k = En.kept in
    let hs : Stays En.signature.params k = (stay_ref (0 ∷ []) tt (plain (λ _. Row E)), (stay_dropped (plain (λ _. Start E)) k.1.0, (stay_dropped (plain (λ _. usize)) k.1.1.0, (stay_dropped (plain (λ _. R E)) k.1.1.1.0, tt)))) in
    proved_at 𝓛 En hs c 𝓜 𝓡
    (Goes-ref 𝓛 2 0 tt (plain (λ _. Row E)), (Goes-dropped 𝓛 2 (plain (λ _. Start E)) k.1.0 (λ κs x f. refl), (Goes-dropped 𝓛 2 (plain (λ _. usize)) k.1.1.0 (λ κs x f. refl), (Goes-dropped 𝓛 2 (plain (λ _. R E)) k.1.1.1.0 (λ κs x f. refl), tt))))
    (#self inst) fn (code.unfolded 𝓤 H 𝓜 𝓡 wired (X, tt)) (λ z are.
    let κ : Lft = z.0.0.0 in let q : Share = z.0.1.0 in let self = z.0.3.0 in let d = self.now in let rb = self.ref_ptr.0 in let ro = self.ref_ptr.1 in let γ = self.ghost_name in
    let start = z.0.3.1.0 in let index : ℕ = z.0.3.1.1.0 in let item : X.Denot = z.0.3.1.1.1.0 in let us = z.0.4 in let there = get_or d.slots index None in
    let new : (Row E).Denot = record { mark = d.mark; at = d.at; slots = set d.slots index (Some item) } in let Says : Type 0 = (new.at ≡ d.at) × (new.slots ≡ set d.slots index (Some item)) in
    let Post : Val → SProp 𝓤 = (walk_of 𝓛 En hs c).post z in let Run : List Val → SProp 𝓤 = λ ws. WpFn 𝓤 H 𝓣.C 𝓣.Λ fn ws Post in
    qed 𝓛 (((‵ (flft κ q) ⊛ ‵ (flft z.0.0.1.0 z.0.1.1.0) ⊛ ‵ ftrue) ⊛ ‵ (owns (types_at En.signature.params z.0.0) z.0.3 us)) ∷ raw (fact 𝓤 (z.0.0.1.0 ⊑ X.lives))
    ∷ raw (fact 𝓤 (start.ptr ≡ d.at)) ∷ raw (fact 𝓤 ((index < length d.slots) × (there ≡ None))) ∷ []) ∵
    move ! (1 ∷ 2 ∷ 3 ∷ []) $ heard ! _ (λ _. heard ! _ (λ begins. heard ! _ (λ empty. split ! $ split ! $ move ! (2 ∷ []) $ fsplit ! $ fsplit3 ! $ feq_l ! (λ e0. move ! (2 ∷ []) $ fsplit ! $ word_had ! start.ptr us.1.0 (λ e1.
    fsplit ! $ fsplit ! $ feq_l ! (λ e2. flt_l ! (λ fits. fsplit ! $ value_had E ! item us.1.1.1.0 (λ v e3 good. keep ! (2 ∷ 3 ∷ 4 ∷ 0 ∷ 5 ∷ []) $
    -- [what self was lent with, in two parts; its token; the value; the other token]
    let words : List Val = vptr rb ro ∷ word start.ptr ∷ vint w64 index ∷ v ∷ [] in
    suffices ! (Run words) (subst (λ (ws : List Val). ent 𝓤 (Run words) (Run ws)) (λ j. sym e0 j ++ (sym e1 j ++ (sym e2 j ++ (sym e3 j ++ [])))) (id⊢ 𝓤 (Run words))) $
    enter ! 𝓣.C 𝓣.Λ fn words Post $ alloc_all ! (λ l. pass_all ! refl ((tt, tt), (word-Good [] start.ptr, ((tt, record { fits = fits }), (good, tt)))) $
    opens ! tt (Row E) {h = d} rb ro (λ vs. move ! (1 ∷ []) $ fsplit ! $ move ! (1 ∷ []) $
    in_a_block ! d.at (λ p. row_at (R E) p d.slots) (id⊢ 𝓤 (never 𝓤)) (λ b o e. fsplit ! $ flt_l ! (λ fit.
    let tiny : s < 2 ^ 64 = omega (arith, one_below (length d.slots) s (2 ^ 63) (omega (arith, empty.0)) fit) in
    let far : index * s < 2 ^ 64 = omega (arith, times_below index (length d.slots) s (2 ^ 63) (omega (arith, empty.0)) fit) in
    take_at ! 2 $ rewrite ! 0 (λ (p : Ptr). ‵ (fat full_share (layout (Start E)) (l 2) 0 (word p))) (begins ∙ e) refl $ give_at ! 2 $ first ! $ blocks ! $
    sets ! (bin ! (get ! refl) (size_lit ! (record { fits = tiny })) (record { fits = far })) refl (tt, record { fits = far }) $
    sets ! (bin ! (get_in ! (fld ! refl (stop !)) (sub ! 0 refl (whole !))) (get ! refl) tt) refl (tt, tt) $
    use1 𝓛 (‵ (cell (R E) b (index * s + o) there) ⊛ ‵ (others E 𝓛 b o d.slots index)) (cell_out E 𝓛 b o d.slots index empty.0) $ split ! $
    rewrite ! 0 (λ (x : Cell E). ‵ (cell (R E) b (index * s + o) x)) empty.1 refl $ as_written ! (elτ E) b (index * s + o) $
    -- [the room; the other cells; the mark; self's cell; the open loan, in three parts; the value; the other token]
    sets ! (of_opd ! (get ! refl)) refl good $ assigns_last ! (of_opd ! (get ! refl)) (through ! refl (stop !)) (init ! 0 refl good) $
    exec ! 𝓣.C 𝓣.Λ (env fn.locals l) (after 1 fn.body) (at_ret (env fn.locals l) Post) $ sets ! (of_opd ! (unit_lit !)) refl (tt, tt) $
    move ! (0 ∷ 7 ∷ []) $ use2 𝓛 (‵ (cell (R E) b (index * s + o) (Some item))) (value_in E 𝓛 item b (index * s + o) v) $
    use2 𝓛 (‵ (row (R E) b o new.slots)) (cell_in E 𝓛 b o d.slots index (Some item) empty.0) $
    flt_i ! (length new.slots * s) (2 ^ 63) (subst (λ n. n * s < 2 ^ 63) (sym (length-set d.slots index (Some item))) fit) $ fjoin ! $
    rewrite ! 0 (λ (p : Ptr). ‵ (row_at (R E) p new.slots)) (sym e) refl $ move ! (1 ∷ 0 ∷ []) $ fjoin ! $ move ! (1 ∷ 0 ∷ []) $ closes ! tt (Row E) new vs rb ro $
    returns ! (look_at ! 0 refl) $ free_all ! refl $
    -- [self, in two parts; the tokens]
    keep ! (0 ∷ 1 ∷ 2 ∷ 3 ∷ []) $ feq_i ! (List Val) us.0 (vptr rb ro ∷ []) e0 $ fjoin3 ! $ nothing ! $ nothing ! $ fjoin ! $ nothing ! $ fjoin ! $ nothing ! $ fjoin ! $ move ! (1 ∷ 0 ∷ []) $ fjoin ! $
    move ! (1 ∷ 2 ∷ []) $ join ! $ feq_i ! (List Val) (vunit ∷ []) (vunit ∷ []) refl $ use0 𝓛 (raw (fact 𝓤 Says)) (fact_i 𝓤 Says (emp 𝓤) (refl, refl)) $ move ! (2 ∷ 3 ∷ 1 ∷ 0 ∷ []) $
    by ! (leaves 𝓛 En hs c z vunit tt (new, (tt, (tt, (tt, tt)))) (tt, (tt, (tt, (tt, tt))))))))))))))))))
