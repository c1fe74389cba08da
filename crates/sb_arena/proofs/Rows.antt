-- Rows of cells in a block: one cell is taken out, put back or seen, and room for an array is a row of empty cells.
use Rattle.sb_arena.proofs.Names.{◌≡◌, ℕ, zero, suc, ◌+◌, ◌*◌, ◌<◌, List, [], ◌∷◌, ◌++◌, length, get_or, set, replicate, Option, Some, None, sym, refl, subst, arith, zero-mul, suc-mul, type_size, Ura, full_share, SProp, ent, sep, emp, ex, guard, Fml, Lft, ftrue, fsep, fat, froom, ty_array, Val, vstruct, vcons, vnil, of_list, Logic, sem, Item, Goal, Seq, Step, step, ‵, some, ◌⊛◌, ◌$◌, ◌∵◌, !, qed, by, move, keep, drop, use1, use2, pick, split, check, show, frame, rewrite, fsplit, fjoin, fpick, fpack, feq_i, feq_l, done, RattleType, Valss, Is, shows, part_at, param_laws, Ptr, RawPtr, ptr_val, nothing, peeks, Struct, within, El, R, el_x, elτ, Good, word}
use denote.Laws.{Typed}
use denote.Shadow.{makes_shadow}
use denote.Struct.Struct.{Shape}
use denote.Struct.Owning.{shape}
use denote.Struct.Declared as Declared
use denote.Struct.Tuple.{Tuple, tuple_type}
use borrow.Table.OneValue.{part_in, part_out}
use Rattle.sb_arena.specs.Ownership.{cell, row, cell_lent, row_lent}
use Rattle.sb_arena.specs.contracts.cells.Cells as C
use Rattle.sb_arena.specs.contracts.cells.Start as S

module _ (E : El) where
  abbrev pub Row : RattleType
  Row = C.the_row (R E)

  abbrev pub Start : RattleType
  Start = S.the_row (R E)

  -- the fields of `Cells`, which take no bytes
  abbrev pub Mark : RattleType
  Mark = Struct (shape (C.the_type (R E)))

  abbrev pub Cell : Type 0
  Cell = Option (el_x E)

  -- how far apart two cells are
  abbrev pub step_of : ℕ
  step_of = type_size (R E)

-- ---- a value of one pointer, and one of no bytes

abbrev one_pointer : Shape
one_pointer = record { name = []; args = []; types = []; fields = RawPtr ∷ [] }

abbrev pub Word : RattleType
Word = Struct one_pointer

abbrev pub mark : Val
mark = vstruct (vcons (vstruct vnil) vnil)

pub mark_made : (E : El) {M : Type 1} {𝓤 : Ura M} (𝓛 : Logic 𝓤) → ent 𝓤 (emp 𝓤) (sem 𝓛 ((Mark E).own_val (tt, tt) (mark ∷ [])))
mark_made E 𝓛 = makes_shadow 𝓛 ((Mark E).own_val (tt, tt) (mark ∷ [])) (λ vss. (tt, ((λ uss. (tt, tt)), tt))) ((vstruct vnil ∷ [], tt), (refl, ((tt, (refl, tt)), tt)))

module _ {M : Type 1} {𝓤 : Ura M} {𝓛 : Logic 𝓤} {K : Type 0} {Γ : List (Item 𝓤)} {G : Goal 𝓤 𝓛.H} where
  pub word_had : K → (p : Ptr) (vs : List Val) → (vs ≡ word p ∷ [] → Seq K 𝓛 Γ G) → Seq K 𝓛 (‵ (Word.own_val (p, tt) vs) ∷ Γ) G
  word_had t p vs k = fpick t (λ uss. fsplit t $ feq_l t (λ all. fsplit t $ feq_l t (λ one. drop t $ k (subst (λ (us : List Val). vs ≡ vstruct (of_list (us ++ [])) ∷ []) one all))))

  pub word_made : K → (p : Ptr) → Step K 𝓛 (‵ (Word.own_val (p, tt) (word p ∷ [])) ∷ Γ) G Γ G
  word_made t p = step (λ s.
      nothing t $ feq_i t (List Val) (ptr_val p ∷ []) (ptr_val p ∷ []) refl $ fjoin t $ feq_i t (List Val) (word p ∷ []) (word p ∷ []) refl $ fjoin t $
      fpack t (Valss (RawPtr ∷ [])) (within one_pointer (p, tt) (word p ∷ [])) (ptr_val p ∷ [], tt) $ s)

  pub mark_had : K → (E : El) (vs : List Val) → (vs ≡ mark ∷ [] → Seq K 𝓛 Γ G) → Seq K 𝓛 (‵ ((Mark E).own_val (tt, tt) vs) ∷ Γ) G
  mark_had t E vs k = fpick t (λ uss. fsplit t $ feq_l t (λ all. fsplit t $ fpick t (λ inner. fsplit t $ feq_l t (λ one. drop t $ drop t $
      k (subst (λ (us : List Val). vs ≡ vstruct (of_list (us ++ [])) ∷ []) one all)))))

abbrev pub three : Val → Val → Val → Val
three u v w = vstruct (vcons u (vcons v (vcons w vnil)))

pub three_made : {M : Type 1} {𝓤 : Ura M} (𝓛 : Logic 𝓤) (A B D : RattleType) (x : A.Denot) (y : B.Denot) (z : D.Denot) (u v w : Val)
    → ent 𝓤 (sep 𝓤 (sem 𝓛 (A.own_val x (u ∷ []))) (sep 𝓤 (sem 𝓛 (B.own_val y (v ∷ []))) (sem 𝓛 (D.own_val z (w ∷ []))))) (sem 𝓛 ((Tuple (A ∷ B ∷ D ∷ [])).own_val (x, y, z) (three u v w ∷ [])))
three_made 𝓛 A B D x y z u v w =
    qed 𝓛 (‵ (A.own_val x (u ∷ [])) ∷ ‵ (B.own_val y (v ∷ [])) ∷ ‵ (D.own_val z (w ∷ [])) ∷ []) ∵ nothing ! $ move ! (3 ∷ 0 ∷ []) $ fjoin ! $ move ! (2 ∷ 0 ∷ []) $ fjoin ! $ move ! (1 ∷ 0 ∷ []) $ fjoin ! $
    feq_i ! (List Val) (three u v w ∷ []) (three u v w ∷ []) refl $ fjoin ! $
    fpack ! (Valss (A ∷ B ∷ D ∷ [])) (within (Declared.shape (tuple_type (A ∷ B ∷ D ∷ []))) (x, (y, (z, tt))) (three u v w ∷ [])) (u ∷ [], (v ∷ [], (w ∷ [], tt))) $ done !

-- ---- a value at its place, and its machine value

single : (E : El) (vs : List Val) → Typed (elτ E ∷ []) vs → (v : Val) × (vs ≡ v ∷ []) × Good (elτ E) v
single E [] t = absurd t
single E (v ∷ []) t = (v, refl, t.0)
single E (v ∷ w ∷ vs) t = absurd t.1

module _ (E : El) {M : Type 1} {𝓤 : Ura M} (𝓛 : Logic 𝓤) where
  open 𝓛 use {H}

  abbrev At : (x : el_x E) (b o : ℕ) (v : Val) → SProp 𝓤
  At x b o v = sep 𝓤 (H.at full_share (elτ E) b o v) (sem 𝓛 (E.row.own_val x (v ∷ [])))

  pub value_out : (x : el_x E) (b o : ℕ) → ent 𝓤 (sem 𝓛 (part_at (R E) full_share x b o)) (ex 𝓤 (λ (v : Val). guard 𝓤 (Good (elτ E) v) (At x b o v)))
  value_out x b o = qed 𝓛 (‵ (part_at (R E) full_share x b o) ∷ []) ∵
      use1 𝓛 (some (λ (v : Val). ‵ (fat full_share (elτ E) b o v) ⊛ ‵ (E.row.own_val x (v ∷ [])))) (part_out 𝓛 (R E) refl full_share x b o) $ pick ! (λ v. split ! $ move ! (1 ∷ []) $
      peeks ! (R E) (Is (R E)) (shows 𝓛 (R E)) x (v ∷ []) (λ is.
      show ! (λ (u : Val). guard 𝓤 (Good (elτ E) u) (At x b o u)) v $ check ! (((param_laws 0 E.row E.laws).lawful 𝓛).typed x (v ∷ []) is).0 $ move ! (1 ∷ 0 ∷ []) $ done !))

  pub value_in : (x : el_x E) (b o : ℕ) (v : Val) → ent 𝓤 (At x b o v) (sem 𝓛 (part_at (R E) full_share x b o))
  value_in x b o v = part_in 𝓛 (R E) refl full_share x b o v

module _ (E : El) {M : Type 1} {𝓤 : Ura M} {𝓛 : Logic 𝓤} {K : Type 0} {Γ : List (Item 𝓤)} {G : Goal 𝓤 𝓛.H} where
  -- a value that is owned is one machine value of its type
  pub value_had : K → (x : el_x E) (vs : List Val) → ((v : Val) → vs ≡ v ∷ [] → Good (elτ E) v → Seq K 𝓛 (‵ (E.row.own_val x (v ∷ [])) ∷ Γ) G) → Seq K 𝓛 (‵ (E.row.own_val x vs) ∷ Γ) G
  value_had t x vs k =
      peeks t (R E) (Is (R E)) (shows 𝓛 (R E)) x vs (λ is.
      let one = single E vs (((param_laws 0 E.row E.laws).lawful 𝓛).typed x vs is) in
      rewrite t 0 (λ (us : List Val). ‵ (E.row.own_val x us)) one.1 refl $ k one.0 one.1 one.2)

pub filled_within : {X : Type 0} (cs : List (Option X)) (i : ℕ) (x : X) → get_or cs i None ≡ Some x → i < length cs
filled_within [] i x e = absurd (cc)
filled_within (c ∷ cs) zero x e = omega arith
filled_within (c ∷ cs) (suc i) x e = omega (arith, filled_within cs i x e)

-- ---- one cell of a row

module _ (E : El) {M : Type 1} {𝓤 : Ura M} (𝓛 : Logic 𝓤) (b : ℕ) where
  open 𝓛 use {H}

  abbrev s : ℕ
  s = step_of E

  -- the cells but for the i-th
  abbrev pub others : ℕ → List (Cell E) → ℕ → Fml
  others o [] i = ftrue
  others o (c ∷ cs) zero = row (R E) b (o + s) cs
  others o (c ∷ cs) (suc i) = fsep (cell (R E) b o c) (others (o + s) cs i)

  first_at : (o : ℕ) → o ≡ zero * s + o
  first_at o = omega (arith, zero-mul s)

  next_at : (i o : ℕ) → i * s + (o + s) ≡ suc i * s + o
  next_at i o = omega (arith, suc-mul i s)

  pub cell_out : (o : ℕ) (cs : List (Cell E)) (i : ℕ) → i < length cs → ent 𝓤 (sem 𝓛 (row (R E) b o cs)) (sep 𝓤 (sem 𝓛 (cell (R E) b (i * s + o) (get_or cs i None))) (sem 𝓛 (others o cs i)))
  cell_out o [] i lt = absurd (omega arith)
  cell_out o (c ∷ cs) zero lt = qed 𝓛 (‵ (cell (R E) b o c) ∷ ‵ (row (R E) b (o + s) cs) ∷ []) ∵ rewrite ! 0 (λ (k : ℕ). ‵ (cell (R E) b k c)) (first_at o) refl $ done !
  cell_out o (c ∷ cs) (suc i) lt = qed 𝓛 (‵ (cell (R E) b o c) ∷ ‵ (row (R E) b (o + s) cs) ∷ []) ∵ move ! (1 ∷ []) $
      use1 𝓛 (‵ (cell (R E) b (i * s + (o + s)) (get_or cs i None)) ⊛ ‵ (others (o + s) cs i)) (cell_out (o + s) cs i (omega arith)) $ split ! $
      rewrite ! 0 (λ (k : ℕ). ‵ (cell (R E) b k (get_or cs i None))) (next_at i o) refl $ move ! (2 ∷ 1 ∷ []) $ fjoin ! $ move ! (1 ∷ []) $ done !

  pub cell_in : (o : ℕ) (cs : List (Cell E)) (i : ℕ) (c : Cell E) → i < length cs → ent 𝓤 (sep 𝓤 (sem 𝓛 (cell (R E) b (i * s + o) c)) (sem 𝓛 (others o cs i))) (sem 𝓛 (row (R E) b o (set cs i c)))
  cell_in o [] i c lt = absurd (omega arith)
  cell_in o (d ∷ cs) zero c lt = qed 𝓛 (‵ (cell (R E) b (zero * s + o) c) ∷ ‵ (row (R E) b (o + s) cs) ∷ []) ∵ rewrite ! 0 (λ (k : ℕ). ‵ (cell (R E) b k c)) (sym (first_at o)) refl $ done !
  cell_in o (d ∷ cs) (suc i) c lt = qed 𝓛 (‵ (cell (R E) b (suc i * s + o) c) ∷ ‵ (others o (d ∷ cs) (suc i)) ∷ []) ∵ move ! (1 ∷ []) $ fsplit ! $ move ! (2 ∷ 1 ∷ []) $
      rewrite ! 0 (λ (k : ℕ). ‵ (cell (R E) b k c)) (sym (next_at i o)) refl $
      use2 𝓛 (‵ (row (R E) b (o + s) (set cs i c))) (cell_in (o + s) cs i c (omega arith)) $ move ! (1 ∷ 0 ∷ []) $ done !

  pub cell_seen : (κ : Lft) (o : ℕ) (cs : List (Cell E)) (i : ℕ) → i < length cs → ent 𝓤 (sem 𝓛 (row_lent (R E) b o cs κ)) (sem 𝓛 (cell_lent (R E) b (i * s + o) (get_or cs i None) κ))
  cell_seen κ o [] i lt = absurd (omega arith)
  cell_seen κ o (c ∷ cs) zero lt = qed 𝓛 (‵ (row_lent (R E) b o (c ∷ cs) κ) ∷ []) ∵ fsplit ! $ rewrite ! 0 (λ (k : ℕ). ‵ (cell_lent (R E) b k c κ)) (first_at o) refl $ keep ! (0 ∷ []) $ done !
  cell_seen κ o (c ∷ cs) (suc i) lt = qed 𝓛 (‵ (row_lent (R E) b o (c ∷ cs) κ) ∷ []) ∵ fsplit ! $ keep ! (1 ∷ []) $
      use1 𝓛 (‵ (cell_lent (R E) b (i * s + (o + s)) (get_or cs i None) κ)) (cell_seen κ (o + s) cs i (omega arith)) $ rewrite ! 0 (λ (k : ℕ). ‵ (cell_lent (R E) b k (get_or cs i None) κ)) (next_at i o) refl $ done !

  -- ---- room for an array

  pub of_room : (n o : ℕ) → ent 𝓤 (H.room (ty_array (elτ E) n) b o) (sem 𝓛 (row (R E) b o (replicate n None)))
  of_room zero o = qed 𝓛 (‵ (froom (ty_array (elτ E) 0) b o) ∷ []) ∵ keep ! [] $ done !
  of_room (suc n) o = qed 𝓛 (‵ (froom (ty_array (elτ E) (suc n)) b o) ∷ []) ∵
      use1 𝓛 (‵ (froom (elτ E) b o) ⊛ ‵ (froom (ty_array (elτ E) n) b (o + s))) (𝓛.laws.room_uncons (elτ E) n b o) $ split ! $
      use1 𝓛 (‵ (cell (R E) b o None)) (𝓛.laws.room-raw (elτ E) b o) $ frame ! $ by ! (of_room n (o + s))

  pub to_room : (n o : ℕ) → ent 𝓤 (sem 𝓛 (row (R E) b o (replicate n None))) (H.room (ty_array (elτ E) n) b o)
  to_room zero o = 𝓛.laws.room_nil (elτ E) b o
  to_room (suc n) o = qed 𝓛 (‵ (cell (R E) b o None) ∷ ‵ (row (R E) b (o + s) (replicate n None)) ∷ []) ∵
      use1 𝓛 (‵ (froom (elτ E) b o)) (𝓛.laws.raw-room (elτ E) b o) $ move ! (1 ∷ []) $
      use1 𝓛 (‵ (froom (ty_array (elτ E) n) b (o + s))) (to_room n (o + s)) $ move ! (1 ∷ []) $ by ! (𝓛.laws.room_cons (elτ E) n b o)
