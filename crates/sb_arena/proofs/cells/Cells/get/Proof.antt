-- `get` lends a value of what a `&` to the cells reaches.
use Rattle.sb_arena.proofs.Names.{◌≡◌, ℕ, ◌*◌, ◌+◌, ◌^◌, ◌<◌, List, [], ◌∷◌, ◌++◌, length, get_or, Some, None, refl, sym, ◌∙◌, subst, arith, w64, proved_at, leaves, full_share, SProp, ent, id⊢, never, Lft, Share, ftrue, fat, flft, a_type, inst_fn, Val, vptr, vint, WpFn, fact, fact_i, tables, ◌⊑◌, emp, ‵, raw, ◌⊛◌, at_ret, ◌$◌, ◌∵◌, !, qed, by, move, keep, drop, use0, use1, heard, split, join, rewrite, suffices, fsplit, fjoin, feq_i, feq_l, flt_l, whole, sub, enter, first, blocks, exec, returns, stop, fld, addr, hide, unhide, RefOf, size_lit, of_opd, bin, sets_last, alloc_all, pass_all, free_all, look_at, get, get_in, through, sets, take_at, give_at, env, owns, layouts, layout, Ptr, in_a_block, nothing, plain, Stays, walk_of, stay_dropped, types_at, Goes-dropped, usize, El, R, times_below, one_below, word, word-Good, after}
use Rattle.sb_arena.specs.Places.{IsFilled}
use Rattle.sb_arena.specs.Ownership.{cell_lent, row_lent_at}
use Rattle.sb_arena.proofs.Rows.{Row, Start, Cell, step_of, word_had, filled_within, cell_seen}
use Rattle.sb_arena.specs.contracts.cells.Cells.get.{ended, clauses}
use Rattle.sb_arena.specs.contracts.cells.Cells.get.Key.{name as #self}
use Rattle.sb_arena.proofs.cells.Cells.get.Statement.{statement}
use Rattle.sb_arena.proofs.cells.Cells.get.Code as code

pub get_spec : {M : Type 1} → statement M
get_spec 𝓤 𝓛 𝓜 𝓡 wired X L =
    let H = 𝓛.H in let 𝓣 = tables 𝓤 H 𝓜 𝓡 𝓡.env in let E : El = record { row = X; laws = L } in let s = step_of E in
    let En = ended X in let c = clauses X 𝓛 𝓜.mem 𝓡.returns in let inst = layouts (a_type ∷ []) (X, tt) in let fn = inst_fn inst code.function in
    let k = En.kept in let self_type = RefOf (0 ∷ []) tt (plain (λ _. Row E)) (λ _. tt) in
    let hs : Stays En.signature.params k = (stay_dropped self_type k.0, (stay_dropped (plain (λ _. Start E)) k.1.0, (stay_dropped (plain (λ _. usize)) k.1.1.0, tt))) in
    proved_at 𝓛 En hs c 𝓜 𝓡
    (Goes-dropped 𝓛 2 self_type k.0 (λ κs x f. refl), (Goes-dropped 𝓛 2 (plain (λ _. Start E)) k.1.0 (λ κs x f. refl), (Goes-dropped 𝓛 2 (plain (λ _. usize)) k.1.1.0 (λ κs x f. refl), tt)))
    (#self inst) fn (code.unfolded 𝓤 H 𝓜 𝓡 wired (X, tt)) (λ z are.
    let κ : Lft = z.0.0.0 in let q : Share = z.0.1.0 in let self = z.0.3.0 in let d = self.now in let rb = self.ref_ptr.0 in let ro = self.ref_ptr.1 in
    let start = z.0.3.1.0 in let index : ℕ = z.0.3.1.1.0 in let us = z.0.4 in let there = get_or d.slots index None in
    let Post : Val → SProp 𝓤 = (walk_of 𝓛 En hs c).post z in let Run : List Val → SProp 𝓤 = λ ws. WpFn 𝓤 H 𝓣.C 𝓣.Λ fn ws Post in
    qed 𝓛 (((‵ (flft κ q) ⊛ ‵ (flft z.0.0.1.0 z.0.1.1.0) ⊛ ‵ ftrue) ⊛ ‵ (owns (types_at En.signature.params z.0.0) z.0.3 us)) ∷ raw (fact 𝓤 (z.0.0.1.0 ⊑ X.lives))
    ∷ raw (fact 𝓤 ((start.ptr ≡ d.at) × IsFilled d.slots index)) ∷ []) ∵
    move ! (1 ∷ 2 ∷ []) $ heard ! _ (λ _. heard ! _ (λ asked. split ! $ split ! $ move ! (2 ∷ []) $ fsplit ! $ fsplit ! $ feq_l ! (λ e0. move ! (1 ∷ []) $ fsplit ! $ word_had ! start.ptr us.1.0 (λ e1.
    fsplit ! $ fsplit ! $ feq_l ! (λ e2. flt_l ! (λ fits. keep ! (1 ∷ 2 ∷ 3 ∷ []) $
    -- [what `&self` has; its token; the other token]
    let x : X.Denot = asked.1.0 in let within = filled_within d.slots index x asked.1.1 in let Told : Type 0 = there ≡ Some x in
    let words : List Val = vptr rb ro ∷ word start.ptr ∷ vint w64 index ∷ [] in
    suffices ! (Run words) (subst (λ (ws : List Val). ent 𝓤 (Run words) (Run ws)) (λ j. sym e0 j ++ (sym e1 j ++ (sym e2 j ++ []))) (id⊢ 𝓤 (Run words))) $
    enter ! 𝓣.C 𝓣.Λ fn words Post $ alloc_all ! (λ l. pass_all ! refl ((tt, tt), (word-Good [] start.ptr, ((tt, record { fits = fits }), tt))) $
    unhide ! $ fsplit ! $ drop ! $ in_a_block ! d.at (λ p. row_lent_at (R E) p d.slots κ) (id⊢ 𝓤 (never 𝓤)) (λ b o e. fsplit ! $ flt_l ! (λ fit.
    let tiny : s < 2 ^ 64 = omega (arith, one_below (length d.slots) s (2 ^ 63) (omega (arith, within)) fit) in
    let far : index * s < 2 ^ 64 = omega (arith, times_below index (length d.slots) s (2 ^ 63) (omega (arith, within)) fit) in
    take_at ! 2 $ rewrite ! 0 (λ (p : Ptr). ‵ (fat full_share (layout (Start E)) (l 2) 0 (word p))) (asked.0 ∙ e) refl $ give_at ! 2 $ first ! $ blocks ! $
    sets ! (bin ! (get ! refl) (size_lit ! (record { fits = tiny })) (record { fits = far })) refl (tt, record { fits = far }) $
    sets ! (bin ! (get_in ! (fld ! refl (stop !)) (sub ! 0 refl (whole !))) (get ! refl) tt) refl (tt, tt) $
    use1 𝓛 (‵ (cell_lent (R E) b (index * s + o) there κ)) (cell_seen E 𝓛 b κ o d.slots index within) $
    rewrite ! 0 (λ (y : Cell E). ‵ (cell_lent (R E) b (index * s + o) y κ)) asked.1.1 refl $ hide ! $
    sets_last ! (addr ! (through ! refl (stop !))) refl (tt, tt) $
    exec ! 𝓣.C 𝓣.Λ (env fn.locals l) (after 1 fn.body) (at_ret (env fn.locals l) Post) $ sets ! (of_opd ! (get ! refl)) refl (tt, tt) $
    returns ! (look_at ! 0 refl) $ free_all ! refl $
    -- [a `&` to the value; the tokens]
    keep ! (0 ∷ 1 ∷ 2 ∷ []) $ feq_i ! (List Val) (vptr b (index * s + o) ∷ []) (vptr b (index * s + o) ∷ []) refl $ fjoin ! $ nothing ! $ nothing ! $ fjoin ! $ nothing ! $ fjoin ! $ nothing ! $ fjoin ! $
    move ! (2 ∷ 3 ∷ []) $ join ! $ use0 𝓛 (raw (fact 𝓤 Told)) (fact_i 𝓤 Told (emp 𝓤) asked.1.1) $ move ! (1 ∷ 2 ∷ 3 ∷ 0 ∷ []) $
    by ! (leaves 𝓛 En hs c z (vptr b (index * s + o)) (record { ref_ptr = (b, index * s + o); now = x }) (tt, (tt, (tt, tt))) (tt, (tt, (tt, tt))))))))))))))
