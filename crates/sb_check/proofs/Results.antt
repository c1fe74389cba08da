-- A refusal of the first part is that of both.
use Rattle.std.proofs.Common.{◌≡◌, ◌∙◌, ap, refl, inl, inr, sym, subst}
use Rattle.std.specs.Prelude.{Result, Ok, Err, ◌⊎◌}
use Rattle.sb_value.specs.declared.refusal.Refusal.{Refusal}
use Rattle.sb_value.specs.declared.refusal.Refusal.TheVariants as refusal
use Rattle.sb_check.specs.declared.fault.CheckFault.{CheckFault}
use Rattle.sb_check.specs.declared.fault.CheckFault.TheVariants.{Refused, NoMemory}
use Rattle.sb_check.specs.Names.{and_then}
use Rattle.sb_check.specs.Answer.{Gives, Answers, refused}

pub gives-err : {X Y A B : Type 0} (v : X → A) (w : Y → B) (walk : Result A Refusal) (next : A → Result B Refusal) (e : CheckFault)
    → Gives v walk (Err e) → Gives w (and_then walk next) (Err e)
gives-err v w walk next (Refused r) h = ap (λ x. and_then x next) h
gives-err v w walk next NoMemory h = tt

pub answers-err : {X Y A : Type 0} (v : X → A) (w : Y → A) (walk : Result A Refusal) (e : CheckFault) → Gives v walk (Err e) → Answers w walk (Err (refused e))
answers-err v w walk (Refused r) h = inl h
answers-err v w walk NoMemory h = inr refl

pub answers-err_then : {X Y A B : Type 0} (v : X → A) (w : Y → B) (walk : Result A Refusal) (next : A → Result B Refusal) (e : CheckFault) → Gives v walk (Err e) → Answers w (and_then walk next) (Err (refused e))
answers-err_then v w walk next (Refused r) h = inl (ap (λ x. and_then x next) h)
answers-err_then v w walk next NoMemory h = inr refl

pub ruleset answers = (answers-err, answers-err_then)

pub same_gives : {X A : Type 0} (v : X → A) (walk other : Result A Refusal) (r : Result X CheckFault) → walk ≡ other → Gives v other r → Gives v walk r
same_gives {X = X} {A = A} v walk other r e h = let P : Result A Refusal → Type 0 = λ w. Gives v w r in subst P (sym e) h

-- what refuses a part refuses it whatever is made of the part
pub refused_before : {A B C : Type 0} (walk : Result A Refusal) (f : A → B) (g : A → C) (e : Refusal)
    → (and_then walk (λ a. Ok (f a)) ≡ Err e) ⊎ (e ≡ refusal.NoMemory) → (and_then walk (λ a. Ok (g a)) ≡ Err e) ⊎ (e ≡ refusal.NoMemory)
refused_before walk f g e (inr h) = inr h
refused_before (Ok a) f g e (inl h) = absurd (cc h)
refused_before (Err r) f g e (inl h) = let same : r ≡ e = cc h in inl (ap (λ x. Err x) same)

-- two parts in order, and then what is made of both
pub regroup : {A B C : Type 0} (a : Result A Refusal) (b : Result B Refusal) (made : A → B → C)
    → and_then a (λ x. and_then {B = C} b (λ y. Ok (made x y))) ≡ and_then {B = C} (and_then {B = A × B} a (λ x. and_then b (λ y. Ok (x, y)))) (λ p. Ok (made p.0 p.1))
regroup (Ok x) (Ok y) made = refl
regroup (Ok x) (Err e) made = refl
regroup (Err e) b made = refl

-- two answers of one walk are the same
pub same_refusal : {A : Type 0} (walk : Result A Refusal) (d e : Refusal) → walk ≡ Err d → walk ≡ Err e → d ≡ e
same_refusal (Ok a) d e h k = absurd (cc h)
same_refusal (Err r) d e h k = let one : r ≡ d = cc h in let other : r ≡ e = cc k in sym one ∙ other

pub not_both : {A : Type 0} (walk : Result A Refusal) (a : A) (e : Refusal) → walk ≡ Ok a → walk ≡ Err e → ⊥
not_both (Ok b) a e h k = cc k
not_both (Err r) a e h k = cc h

-- what was walked isn't refused
pub not_refused : {A : Type 0} (walk other : Result A Refusal) (a : A) (e : Refusal) → other ≡ walk → other ≡ Ok a → walk ≡ Err e → ⊥
not_refused walk other a e same is h = not_both walk a e (sym same ∙ is) h
