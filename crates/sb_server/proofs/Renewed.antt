-- What a worker keeps where tenants are renewed, one part after another.
use Rattle.std.proofs.Common.{◌≡◌, ◌≢◌, ◌∙◌, ◌⊎◌, sym, ap, subst, inl, inr, ℕ, ◌+◌, ◌≤◌, ◌<◌, Bool, true, false, cond, List, [], ◌∷◌, ◌++◌, length, Option, Some, None, append_assoc, append-nil, length-append, get_or, arith}
use Rattle.std.proofs.lemmas.Bool.{false≢true}
use Rattle.std.specs.Prelude.{IfSome, IsSome, IsPermutation, flat_map, is_some, option_to_list, swap_remove}
use Rattle.std.specs.List.{All}
use Rattle.std.proofs.lemmas.Grind.{flat_map-append}
use Rattle.std.proofs.lemmas.Bool.{cases_eq}
use Rattle.std.proofs.lemmas.List.Elements.{All-append, All-cons, All-head, All-nil, All-tail, All-weaker}
use Rattle.std.proofs.lemmas.List.Sorted.{All-permutation, IsPermutation-append, IsPermutation-append_comm, IsPermutation-append_left, IsPermutation-append_right, IsPermutation-refl, IsPermutation-swap_remove, IsPermutation-sym, IsPermutation-to_front, IsPermutation-trans}
use Rattle.slab.specs.Slab.{Slab, Updates, get}
use Rattle.sb_desk.specs.declared.stub.Stub.{Stub}
use Rattle.sb_connection.specs.Exchanges.{IsClosed}
use Rattle.sb_connection.specs.History.{Converses, History, after_suspending}
use Rattle.sb_connection.specs.Policies.{Policy}
use Rattle.sb_connection.specs.Traffic.{Traffic}
use Rattle.sb_server.specs.Carried.{Carries}
use Rattle.sb_server.specs.Closed.{GainsClosed, LeavesClosed}
use Rattle.sb_server.specs.Renewals.{IsDone, IsLeft, KeepsOrRenews, LeavesOrRenews, LeavesVolume, Renewal, SameConnections}
use Rattle.sb_server.specs.Sessions.{KeepsSessions, session_count}

-- ---- what is left

-- a closed one is left, wherever tenants may be renewed
pub is_left : (p : Policy) (may : Bool) (stub : Stub) → LeavesClosed p stub → IsLeft p may stub
is_left p false stub closed = closed
is_left p true stub closed = inl closed

pub all_left : (p : Policy) (may : Bool) (stubs : List Stub) → All (LeavesClosed p) stubs → All (IsLeft p may) stubs
all_left p may stubs closed = All-weaker (LeavesClosed p) (IsLeft p may) (is_left p may) stubs closed

-- the receipts of a volume that a connection left
pub left_volume : (p : Policy) (r : Option Stub) (t : Traffic) (old new : History) (is_cut : Bool) → Carries t new is_cut → IfSome r (λ stub. new ≡ after_suspending old stub.receipts.items)
    → IfSome r (λ stub. Converses p.admits new None) → IfSome r (λ stub. IsClosed stub.receipts.items) → new.hosted.keyed ≡ p.keyed → IfSome r (LeavesVolume p)
left_volume p None t old new is_cut carried is conversation closed keyed = tt
left_volume p (Some stub) t old new is_cut carried is conversation closed keyed = record {
  closed = closed;
  traffic = t;
  history = new;
  is_cut = is_cut;
  carries = carried;
  conversation = conversation;
  earlier = old.left;
  volume = ap (λ (h : History). h.left) is;
  keyed = keyed;
}

pub is_detached : (r : Option Stub) (old new : History) → IfSome r (λ stub. new ≡ after_suspending old stub.receipts.items) → IfSome r (λ stub. old.attached ≡ true) → IsSome r
    → (old.attached ≡ true) × (new.attached ≡ false)
is_detached None old new is attached some = absurd (false≢true some)
is_detached (Some stub) old new is attached some = (attached, ap (λ (h : History). h.attached) is)

all_front : {X : Type 0} (P : X → Type 0) (xs ys : List X) → All P (xs ++ ys) → All P xs
all_front P [] ys all = All-nil P
all_front P (x ∷ xs) ys all = All-cons P x xs (All-head P x (xs ++ ys) all) (all_front P xs ys (All-tail P x (xs ++ ys) all))

abbrev taken : List Renewal → List Stub
taken renewals = flat_map (λ (r : Renewal). r.1) renewals

-- in the middle two parts change places
exchanged : {X : Type 0} (a b c : List X) → IsPermutation ((a ++ b) ++ c) ((a ++ c) ++ b)
exchanged {X} a b c =
    let middle = IsPermutation-append_right a (b ++ c) (c ++ b) (IsPermutation-append_comm b c) in
    subst (λ (l : List X). IsPermutation l ((a ++ c) ++ b)) (sym (append_assoc a b c))
    (subst (λ (l : List X). IsPermutation (a ++ (b ++ c)) l) (sym (append_assoc a c b)) middle)

module _ {X : Type 0} (p : Policy) (may : Bool) (renews : ℕ → List Stub → Type 0) (has : X → Bool) where
  -- the receipts stay, in whatever order, and no session is lost
  pub keeps_all : (before after : Slab X) (old new : List Stub) → IsPermutation old new → session_count before has ≤ session_count after has
      → KeepsOrRenews p may renews before after has old new
  keeps_all before after old new same sessions = record {
    left = [];
    are_left = All-nil (IsLeft p may);
    renewals = [];
    done = All-nil (IsDone may renews);
    kept = subst (λ (l : List Stub). IsPermutation l (new ++ [])) (sym (append-nil old)) (subst (λ (l : List Stub). IsPermutation old l) (sym (append-nil new)) same);
    sessions = omega (arith, sessions);
  }

  -- they are the same
  pub keeps_same : (before after : Slab X) (old new : List Stub) → new ≡ old → session_count before has ≤ session_count after has
      → KeepsOrRenews p may renews before after has old new
  keeps_same before after old new same sessions =
      keeps_all before after old new (subst (λ (l : List Stub). IsPermutation old l) (sym same) (IsPermutation-refl old)) sessions

  -- nothing is done
  pub keeps_still : (before after : Slab X) (old new : List Stub) → new ≡ old → after ≡ before → KeepsOrRenews p may renews before after has old new
  keeps_still before after old new same still =
      let count : session_count after has ≡ session_count before has = ap (λ (s : Slab X). session_count s has) still in
      keeps_same before after old new same (omega (arith, count))

  -- connections left some more
  more_left : (before after : Slab X) (old new more : List Stub) → new ≡ old ++ more → All (IsLeft p may) more → session_count before has ≤ session_count after has + length more
      → KeepsOrRenews p may renews before after has old new
  more_left before after old new more is are sessions = record {
    left = more;
    are_left = are;
    renewals = [];
    done = All-nil (IsDone may renews);
    kept = subst (λ (l : List Stub). IsPermutation (old ++ more) l) (sym (append-nil new)) (subst (λ (l : List Stub). IsPermutation (old ++ more) l) (sym is) (IsPermutation-refl (old ++ more)));
    sessions = sessions;
  }

  -- some were closed
  pub keeps_closed : (before after : Slab X) (old new : List Stub) → GainsClosed p old new → KeepsSessions before after has old new
      → KeepsOrRenews p may renews before after has old new
  keeps_closed before after old new gained kept =
      let long : length new ≡ length old + length gained.0 = ap length gained.1 ∙ length-append old gained.0 in
      more_left before after old new gained.0 gained.1 (all_left p may gained.0 gained.2) (omega (arith, long, kept))

  -- one may have left a volume
  pub keeps_left : (before after : Slab X) (old new : List Stub) (stub : Option Stub) → new ≡ old ++ option_to_list stub → IfSome stub (IsLeft p may)
      → session_count before has ≤ session_count after has + length (option_to_list stub) → KeepsOrRenews p may renews before after has old new
  keeps_left before after old new None is left sessions = more_left before after old new [] is (All-nil (IsLeft p may)) sessions
  keeps_left before after old new (Some stub) is left sessions =
      more_left before after old new (stub ∷ []) is (All-cons (IsLeft p may) stub [] left (All-nil (IsLeft p may))) sessions

  -- a renewal took those of its tenant
  pub keeps_taken : (before after : Slab X) (old new own : List Stub) (tenant : ℕ) → may ≡ true → IsPermutation old (new ++ own) → renews tenant own → All (λ (stub : Stub). stub.tenant ≡ tenant) own
      → session_count before has ≤ session_count after has → KeepsOrRenews p may renews before after has old new
  keeps_taken before after old new own tenant allowed split done are_own sessions = record {
    left = [];
    are_left = All-nil (IsLeft p may);
    renewals = (tenant, own) ∷ [];
    done = All-cons (IsDone may renews) (tenant, own) [] (allowed, done, are_own) (All-nil (IsDone may renews));
    kept = subst (λ (l : List Stub). IsPermutation l (new ++ (own ++ []))) (sym (append-nil old)) (subst (λ (l : List Stub). IsPermutation old (new ++ l)) (sym (append-nil own)) split);
    sessions = omega (arith, sessions);
  }

  -- one part, and the next one
  pub keeps_then : (before mid after : Slab X) (old half new : List Stub) → KeepsOrRenews p may renews before mid has old half
      → KeepsOrRenews p may renews mid after has half new → KeepsOrRenews p may renews before after has old new
  keeps_then before mid after old half new one two = record {
    left = one.left ++ two.left;
    are_left = All-append (IsLeft p may) one.left two.left one.are_left two.are_left;
    renewals = two.renewals ++ one.renewals;
    done = All-append (IsDone may renews) two.renewals one.renewals two.done one.done;
    kept = kept;
    sessions =
        let long = length-append one.left two.left in omega (arith, long, one.sessions, two.sessions);
  }
    where
      -- the first renewals take of what is there before, the next ones of what is left
      first : IsPermutation ((old ++ one.left) ++ two.left) ((half ++ two.left) ++ taken one.renewals)
      first =
          IsPermutation-trans ((old ++ one.left) ++ two.left) ((half ++ taken one.renewals) ++ two.left) ((half ++ two.left) ++ taken one.renewals)
          (IsPermutation-append_left two.left (old ++ one.left) (half ++ taken one.renewals) one.kept) (exchanged half (taken one.renewals) two.left)

      second : IsPermutation ((half ++ two.left) ++ taken one.renewals) ((new ++ taken two.renewals) ++ taken one.renewals)
      second = IsPermutation-append_left (taken one.renewals) (half ++ two.left) (new ++ taken two.renewals) two.kept

      all : (new ++ taken two.renewals) ++ taken one.renewals ≡ new ++ taken (two.renewals ++ one.renewals)
      all = append_assoc new (taken two.renewals) (taken one.renewals) ∙ ap (λ (l : List Stub). new ++ l) (sym (flat_map-append (λ (r : Renewal). r.1) two.renewals one.renewals))

      kept : IsPermutation (old ++ (one.left ++ two.left)) (new ++ taken (two.renewals ++ one.renewals))
      kept =
          subst (λ (l : List Stub). IsPermutation l (new ++ taken (two.renewals ++ one.renewals))) (append_assoc old one.left two.left)
          (subst (λ (l : List Stub). IsPermutation ((old ++ one.left) ++ two.left) l) all
          (IsPermutation-trans ((old ++ one.left) ++ two.left) ((half ++ two.left) ++ taken one.renewals) ((new ++ taken two.renewals) ++ taken one.renewals) first second))

  -- and then nothing is left or taken
  pub keeps_then_same : (before mid after : Slab X) (old half new : List Stub) → KeepsOrRenews p may renews before mid has old half → new ≡ half
      → session_count mid has ≤ session_count after has → KeepsOrRenews p may renews before after has old new
  keeps_then_same before mid after old half new one same sessions =
      keeps_then before mid after old half new one (keeps_same mid after half new same sessions)

  pub keeps_then_still : (before mid after : Slab X) (old half new : List Stub) → KeepsOrRenews p may renews before mid has old half → new ≡ half → after ≡ mid
      → KeepsOrRenews p may renews before after has old new
  keeps_then_still before mid after old half new one same still =
      keeps_then before mid after old half new one (keeps_still mid after half new same still)

  -- and then some are closed
  pub keeps_then_closed : (before mid after : Slab X) (old half new : List Stub) → KeepsOrRenews p may renews before mid has old half → GainsClosed p half new
      → KeepsSessions mid after has half new → KeepsOrRenews p may renews before after has old new
  keeps_then_closed before mid after old half new one gained kept =
      keeps_then before mid after old half new one (keeps_closed mid after half new gained kept)

  -- ---- what a server hands out

  -- a worker that began with none hands out what it has
  pub leaves_kept : (before after : Slab X) (old new stubs : List Stub) → old ≡ [] → stubs ≡ new → KeepsOrRenews p may renews before after has old new
      → LeavesOrRenews p may renews stubs
  leaves_kept before after old new stubs none is kept =
      let begun = subst (λ (l : List Stub). IsPermutation (l ++ kept.left) (new ++ taken kept.renewals)) none kept.kept in
      record {
        left = kept.left;
        are_left = kept.are_left;
        renewals = kept.renewals;
        done = kept.done;
        kept = subst (λ (l : List Stub). IsPermutation kept.left (l ++ taken kept.renewals)) (sym is) begun;
      }

module _ (p : Policy) (may : Bool) (renews : ℕ → List Stub → Type 0) where
  -- connections left it, and no renewal took anything
  pub leaves_all : (stubs : List Stub) → All (IsLeft p may) stubs → LeavesOrRenews p may renews stubs
  leaves_all stubs are = record {
    left = stubs;
    are_left = are;
    renewals = [];
    done = All-nil (IsDone may renews);
    kept = subst (λ (l : List Stub). IsPermutation stubs l) (sym (append-nil stubs)) (IsPermutation-refl stubs);
  }

  -- two workers do
  pub leave_both : (one two : List Stub) → LeavesOrRenews p may renews one → LeavesOrRenews p may renews two → LeavesOrRenews p may renews (one ++ two)
  leave_both one two a b = record {
    left = a.left ++ b.left;
    are_left = All-append (IsLeft p may) a.left b.left a.are_left b.are_left;
    renewals = a.renewals ++ b.renewals;
    done = All-append (IsDone may renews) a.renewals b.renewals a.done b.done;
    kept = kept;
  }
    where
      each : IsPermutation (a.left ++ b.left) ((one ++ taken a.renewals) ++ (two ++ taken b.renewals))
      each = IsPermutation-append a.left (one ++ taken a.renewals) b.left (two ++ taken b.renewals) a.kept b.kept

      apart : IsPermutation ((one ++ taken a.renewals) ++ (two ++ taken b.renewals)) (((one ++ two) ++ taken a.renewals) ++ taken b.renewals)
      apart =
          subst (λ (l : List Stub). IsPermutation l (((one ++ two) ++ taken a.renewals) ++ taken b.renewals)) (append_assoc (one ++ taken a.renewals) two (taken b.renewals))
          (IsPermutation-append_left (taken b.renewals) ((one ++ taken a.renewals) ++ two) ((one ++ two) ++ taken a.renewals) (exchanged one (taken a.renewals) two))

      all : ((one ++ two) ++ taken a.renewals) ++ taken b.renewals ≡ (one ++ two) ++ taken (a.renewals ++ b.renewals)
      all = append_assoc (one ++ two) (taken a.renewals) (taken b.renewals) ∙ ap (λ (l : List Stub). (one ++ two) ++ l) (sym (flat_map-append (λ (r : Renewal). r.1) a.renewals b.renewals))

      kept : IsPermutation (a.left ++ b.left) ((one ++ two) ++ taken (a.renewals ++ b.renewals))
      kept =
          subst (λ (l : List Stub). IsPermutation (a.left ++ b.left) l) all
          (IsPermutation-trans (a.left ++ b.left) ((one ++ taken a.renewals) ++ (two ++ taken b.renewals)) (((one ++ two) ++ taken a.renewals) ++ taken b.renewals) each apart)

  -- connections left what is handed out
  pub are_left_of : (stubs : List Stub) → LeavesOrRenews p may renews stubs → All (IsLeft p may) stubs
  are_left_of stubs some =
      all_front (IsLeft p may) stubs (taken some.renewals) (All-permutation (IsLeft p may) some.left (stubs ++ taken some.renewals) some.kept some.are_left)

-- one is moved from these receipts to those of a tenant
pub moved_one : (stubs own rest after : List Stub) (i : ℕ) (x : Stub) → i < length stubs → x ≡ get_or stubs i x → rest ≡ swap_remove stubs i x → after ≡ own ++ x ∷ []
    → IsPermutation (stubs ++ own) (rest ++ after)
moved_one stubs own rest after i x within is rest_is after_is =
    let out = IsPermutation-swap_remove stubs i x within is in
    let front : IsPermutation stubs (x ∷ rest) = subst (λ (l : List Stub). IsPermutation stubs (x ∷ l)) (sym rest_is) out in
    let both = IsPermutation-append_left own stubs (x ∷ rest) front in
    let back = IsPermutation-sym ((rest ++ own) ++ x ∷ []) (x ∷ (rest ++ own)) (IsPermutation-to_front (rest ++ own) x) in
    subst (λ (l : List Stub). IsPermutation (stubs ++ own) (rest ++ l)) (sym after_is)
    (subst (λ (l : List Stub). IsPermutation (stubs ++ own) l) (append_assoc rest own (x ∷ []))
    (IsPermutation-trans (stubs ++ own) (x ∷ (rest ++ own)) ((rest ++ own) ++ x ∷ []) both back))

-- ---- connections

pub same_still : {X : Type 0} (before after : Slab X) → after ≡ before → SameConnections before after
same_still before after still key = ap (λ s. is_some (get s key)) still

pub same_then : {X : Type 0} (before mid after : Slab X) → SameConnections before mid → SameConnections mid after → SameConnections before after
same_then before mid after one two key = two key ∙ one key

-- there is none to be taken out
pub none_out : {X : Type 0} (old mid : Slab X) (key : ℕ) → get old key ≡ None → Updates old mid key None → SameConnections old mid
none_out old mid key was out other = by (cases_eq other key)
  where
    by : (other ≡ key) ⊎ (other ≢ key) → is_some (get mid other) ≡ is_some (get old other)
    by (inl is) = subst (λ (k : ℕ). is_some (get mid k) ≡ is_some (get old k)) (sym is) (ap is_some (out.changed ∙ sym was))
    by (inr differs) = ap is_some (out.others other differs)

-- one is taken out and put back
pub put_again : {X : Type 0} (old mid new : Slab X) (key vacant : ℕ) → is_some (get old key) ≡ true → Updates old mid key None → vacant ≡ key → is_some (get new vacant) ≡ true
    → ((other : ℕ) → other ≢ vacant → get new other ≡ get mid other) → SameConnections old new
put_again old mid new key vacant was out at there others other = by (cases_eq other key)
  where
    by : (other ≡ key) ⊎ (other ≢ key) → is_some (get new other) ≡ is_some (get old other)
    by (inl is) = subst (λ (k : ℕ). is_some (get new k) ≡ is_some (get old k)) (sym is) (subst (λ (k : ℕ). is_some (get new k) ≡ true) at there ∙ sym was)
    by (inr differs) = ap is_some (others other (λ same. differs (same ∙ at)) ∙ out.others other differs)

pub put_same : {X : Type 0} (old mid new : Slab X) (key vacant : ℕ) (x : X) → is_some (get old key) ≡ true → Updates old mid key None → vacant ≡ key → Updates mid new vacant (Some x)
    → SameConnections old new
put_same old mid new key vacant x was out at put = put_again old mid new key vacant was out at (ap is_some put.changed) put.others

-- a session counts once
pub bit_at_most : (a b : Bool) → cond a 1 0 ≤ cond b 1 0 + 1
bit_at_most false b = omega arith
bit_at_most true b = omega arith
