-- Parts that are allowed, and the first that isn't.
use Rattle.std.proofs.Common.{◌≡◌, ◌∙◌, ◌&&◌, Bool, true, false, Option, Some, None, ap, ap₂, is_some, refl, unwrap_or, ℕ, ◌+◌, ◌<◌, List, [], ◌∷◌, drop, length, get_or, inl, inr, subst, sym, add-one, drop-cons}
use Rattle.std.proofs.lemmas.Bool.{false≢true}
use Rattle.std.specs.Prelude.{MatchOption, option_map}
use Rattle.clap.specs.Words.{Row, Text}
use Rattle.sb_words.specs.Asking.{AllFit, AreAllowed, AsksBy, asked_by, Fits, IsFirstGiven, IsFirstOf, IsFirstUnfit, IsUnfit, NoneGiven, text_at}
use Rattle.sb_words.specs.Arguments.{parts, parts_of, verb_of}
use Rattle.sb_words.specs.Words.{AsksFor, Findings, HasMisplaced, HasUnfit, IsAskedBy, IsAskedOf, command_in}
use Rattle.sb_words.specs.declared.words.Asked.{Asked}
use Rattle.sb_words.specs.declared.words.Asked.TheVariants.{For, Help, Version, Refused, NotAllowed, Misplaced}
use Rattle.sb_words.specs.declared.argument.Argument.{Argument}
use Rattle.sb_words.specs.declared.argument.Argument.TheVariants.{Old, New, Action, Folder, Tenant, Load, DumpTo, Into, Journal, Sync, Keys, Status, Tenants, Bound, StepWork, Cells, Workers, Port, Connections, Idle, IdleTransaction, FirstTenant, TenantMemory, Segment, Log, Slow, Renew, UntilInputEnds}
use Rattle.sb_words.specs.declared.argument.Unfit.{Unfit}
use Rattle.sb_words.specs.declared.argument.Verb.{Verb}
use Rattle.sb_words.specs.declared.argument.Verb.TheVariants.{Run}
use Rattle.sb_words.specs.Requests.{Request}

pub both : (a b : Bool) → (a && b) ≡ true → (a ≡ true) × (b ≡ true)
both true b h = (refl, h)
both false b h = absurd (false≢true h)

none_first : (rows : List Row) (u : Unfit) (ps : List Argument) → AreAllowed rows → IsFirstOf rows u ps → ⊥
none_first rows u [] allowed first = first
none_first rows u (p ∷ ps) allowed (inl here) = allowed p u.text.now here.0
none_first rows u (p ∷ ps) allowed (inr behind) = none_first rows u ps allowed behind.1

pub asks_fit : (v : Verb) (rows : List Row) (u : Unfit) (a : Request) → AsksBy v rows a → IsFirstUnfit rows u → ⊥
asks_fit v rows u a asks unfit = none_first rows u parts asks.0 unfit

none_given_first : (rows : List Row) (u : Unfit) (ps : List Argument) → NoneGiven rows ps → IsFirstGiven rows u ps → ⊥
none_given_first rows u [] none first = first
none_given_first rows u (p ∷ ps) none (inl here) = absurd (false≢true (ap is_some (sym none.0 ∙ here.0)))
none_given_first rows u (p ∷ ps) none (inr behind) = none_given_first rows u ps none.1 behind.1

pub asks_placed : (f : Findings) (u : Unfit) (a : Request) → AsksFor f a → HasMisplaced f u → ⊥
asks_placed (rows, None) u a asks misplaced = misplaced
asks_placed (rows, Some named) u a asks misplaced = none_given_first rows u (parts_of Run) asks.2.0 misplaced

-- the same command with the same behind it
one_command : {A : Type 0} (o : Option A) (a b : A) → o ≡ Some a → o ≡ Some b → a ≡ b
one_command (Some c) a b is also = ap (λ o. unwrap_or o c) (sym is ∙ also)
one_command None a b is also = absurd (false≢true (ap is_some is))

pub asks_allowed : (f : Findings) (u : Unfit) (a : Request) → AsksFor f a → HasUnfit f u → ⊥
asks_allowed f u a (v, rows, is, asks) (w, behind, also, unfit) =
    let same = one_command (command_in f) (v, rows) (w, behind) is.1 also.1 in
    asks_fit v rows u a asks (subst (λ r. IsFirstUnfit r u) (sym (ap (λ p. p.1) same)) unfit)

pub asks_once : (f : Findings) (a b : Request) → AsksFor f a → AsksFor f b → a ≡ b
asks_once f a b (v, rows, is, asks) (w, behind, also, other) =
    let same = one_command (command_in f) (v, rows) (w, behind) is.1 also.1 in
    asks.1 ∙ (ap (λ p. asked_by p.0 p.1) same ∙ sym other.1)

-- each part is one of all
pub all_allowed : (rows : List Row) → AllFit rows parts → AreAllowed rows
all_allowed rows a Old = a.0
all_allowed rows a New = a.1.0
all_allowed rows a Action = a.1.1.0
all_allowed rows a Folder = a.1.1.1.0
all_allowed rows a Tenants = a.1.1.1.1.0
all_allowed rows a Bound = a.1.1.1.1.1.0
all_allowed rows a StepWork = a.1.1.1.1.1.1.0
all_allowed rows a Tenant = a.1.1.1.1.1.1.1.0
all_allowed rows a Into = a.1.1.1.1.1.1.1.1.0
all_allowed rows a Cells = a.1.1.1.1.1.1.1.1.1.0
all_allowed rows a Workers = a.1.1.1.1.1.1.1.1.1.1.0
all_allowed rows a Port = a.1.1.1.1.1.1.1.1.1.1.1.0
all_allowed rows a Connections = a.1.1.1.1.1.1.1.1.1.1.1.1.0
all_allowed rows a Idle = a.1.1.1.1.1.1.1.1.1.1.1.1.1.0
all_allowed rows a IdleTransaction = a.1.1.1.1.1.1.1.1.1.1.1.1.1.1.0
all_allowed rows a FirstTenant = a.1.1.1.1.1.1.1.1.1.1.1.1.1.1.1.0
all_allowed rows a TenantMemory = a.1.1.1.1.1.1.1.1.1.1.1.1.1.1.1.1.0
all_allowed rows a Load = a.1.1.1.1.1.1.1.1.1.1.1.1.1.1.1.1.1.0
all_allowed rows a DumpTo = a.1.1.1.1.1.1.1.1.1.1.1.1.1.1.1.1.1.1.0
all_allowed rows a Journal = a.1.1.1.1.1.1.1.1.1.1.1.1.1.1.1.1.1.1.1.0
all_allowed rows a Sync = a.1.1.1.1.1.1.1.1.1.1.1.1.1.1.1.1.1.1.1.1.0
all_allowed rows a Segment = a.1.1.1.1.1.1.1.1.1.1.1.1.1.1.1.1.1.1.1.1.1.0
all_allowed rows a Renew = a.1.1.1.1.1.1.1.1.1.1.1.1.1.1.1.1.1.1.1.1.1.1.0
all_allowed rows a Keys = a.1.1.1.1.1.1.1.1.1.1.1.1.1.1.1.1.1.1.1.1.1.1.1.0
all_allowed rows a Status = a.1.1.1.1.1.1.1.1.1.1.1.1.1.1.1.1.1.1.1.1.1.1.1.1.0
all_allowed rows a Log = a.1.1.1.1.1.1.1.1.1.1.1.1.1.1.1.1.1.1.1.1.1.1.1.1.1.0
all_allowed rows a Slow = a.1.1.1.1.1.1.1.1.1.1.1.1.1.1.1.1.1.1.1.1.1.1.1.1.1.1.0
all_allowed rows a UntilInputEnds = a.1.1.1.1.1.1.1.1.1.1.1.1.1.1.1.1.1.1.1.1.1.1.1.1.1.1.1.0

pub first_of_all : (rows : List Row) (r : Option Unfit) → MatchOption r (AllFit rows parts) (λ u. IsFirstOf rows u parts)
    → MatchOption r (AreAllowed rows) (IsFirstUnfit rows)
first_of_all rows None all = all_allowed rows all
first_of_all rows (Some u) first = first

-- ---- a command

pub run_asked : (rows : List Row) (sub : Option (Text × List Row)) (r : Asked) → sub ≡ None → IsAskedOf Run rows r → IsAskedBy (rows, sub) r
run_asked rows None (For i) is asked = (Run, rows, (tt, refl), asked)
run_asked rows None (NotAllowed u) is asked = (Run, rows, (tt, refl), asked)
run_asked rows None (Misplaced u) is asked = absurd asked
run_asked rows None (Help e) is asked = asked
run_asked rows None Version is asked = asked
run_asked rows None (Refused e) is asked = asked
run_asked rows (Some named) r is asked = absurd (false≢true (ap is_some (sym is)))

module _ (rows : List Row) (word : Text) (own : List Row) (v : Verb) (none : NoneGiven rows (parts_of Run)) (is : verb_of word ≡ Some v) where
  by_command : (r : Asked) → IsAskedOf v own r → IsAskedBy (rows, Some (word, own)) r
  by_command (For i) asked = (v, own, (none, ap (option_map (λ w. (w, own))) is), asked)
  by_command (NotAllowed u) asked = (v, own, (none, ap (option_map (λ w. (w, own))) is), asked)
  by_command (Misplaced u) asked = absurd asked
  by_command (Help e) asked = asked
  by_command Version asked = asked
  by_command (Refused e) asked = asked

  pub command_asked : (sub : Option (Text × List Row)) (r : Asked) → sub ≡ Some (word, own) → IsAskedOf v own r → IsAskedBy (rows, sub) r
  command_asked sub r named asked = subst (λ s. IsAskedBy (rows, s) r) (sym named) (by_command r asked)

pub misplaced_asked : (rows : List Row) (sub : Option (Text × List Row)) (named : Text × List Row) (u : Unfit) → sub ≡ Some named
    → IsFirstGiven rows u (parts_of Run) → IsAskedBy (rows, sub) (Misplaced u)
misplaced_asked rows sub named u is first = subst (λ s. IsAskedBy (rows, s) (Misplaced u)) (sym is) first

pub none_of : {B X : Type 0} (f : B → X) (o : Option B) → false ≡ is_some o → option_map f o ≡ None
none_of f None is = refl
none_of f (Some b) is = absurd (false≢true is)

-- two things of one that is there
pub pair_of : {B X Y : Type 0} (f : B → X) (g : B → Y) (o : Option B) (x : X) (y : Y) → Some x ≡ option_map f o
    → Some y ≡ option_map {T = X × Y} (λ p. p.1) (option_map {U = X × Y} (λ b. (f b, g b)) o) → option_map {U = X × Y} (λ b. (f b, g b)) o ≡ Some (x, y)
pair_of f g None x y one other = absurd (false≢true (ap is_some (sym one)))
pair_of {B} {X} {Y} f g (Some b) x y one other =
    let pair : X → Y → Option (X × Y) = λ k l. Some (k, l) in
    ap₂ pair (ap (λ o. unwrap_or o (f b)) (sym one)) (ap (λ o. unwrap_or o (g b)) (sym other))

-- ---- a part of a list

pub split_at : {A : Type 0} (xs : List A) (k : ℕ) (d : A) → k < length xs → get_or xs k d ∷ drop (k + 1) xs ≡ drop k xs
split_at xs k d within = rw (add-one k) (sym (drop-cons xs k d within))

module _ (rows : List Row) (ps : List Argument) (k : ℕ) (p : Argument) (left : p ∷ drop (k + 1) ps ≡ drop k ps) where
  pub next_fits : Fits rows p → AllFit rows (drop (k + 1) ps) → AllFit rows (drop k ps)
  next_fits fits rest = subst (AllFit rows) left (fits, rest)

  pub next_first : (u : Unfit) → Fits rows p → IsFirstOf rows u (drop (k + 1) ps) → IsFirstOf rows u (drop k ps)
  next_first u fits rest = subst (IsFirstOf rows u) left (inr (fits, rest))

  pub here_first : (u : Unfit) → IsUnfit rows p u.text.now × (u.part ≡ p) → IsFirstOf rows u (drop k ps)
  here_first u here = subst (IsFirstOf rows u) left (inl here)

  pub next_given : (u : Unfit) → text_at rows p ≡ None → IsFirstGiven rows u (drop (k + 1) ps) → IsFirstGiven rows u (drop k ps)
  next_given u none rest = subst (IsFirstGiven rows u) left (inr (none, rest))

  pub none_here : text_at rows p ≡ None → NoneGiven rows (drop (k + 1) ps) → NoneGiven rows (drop k ps)
  none_here none rest = subst (NoneGiven rows) left (none, rest)

  pub here_given : (u : Unfit) → (text_at rows p ≡ Some u.text.now) × (u.part ≡ p) → IsFirstGiven rows u (drop k ps)
  here_given u here = subst (IsFirstGiven rows u) left (inl here)
