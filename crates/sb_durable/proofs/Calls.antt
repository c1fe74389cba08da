-- Records that are played to a host, and sessions that are closed behind them.
use Rattle.std.proofs.Common.{◌≡◌, ℕ, zero, suc, ◌+◌, ◌*◌, ◌<◌, List, [], ◌∷◌, ◌++◌, length, map, get_or, set, drop, length-drop, length-append, Option, Some, None, Vec, option_map, refl, sym, ap, ◌∙◌, subst, append_assoc, append-nil, inl, inr, arith}
use Rattle.std.specs.Global.{Global}
use Rattle.std.specs.Prelude.{flat_map, option_to_list, replicate, slice_get}
use Rattle.std.proofs.Math.ListN.{get_or-append}
use Rattle.std.proofs.lemmas.List.{get_or-drop, map-set, set-get_or, set-set}
use Rattle.std.proofs.lemmas.Option.{get_or_from_slice_get, slice_get-get_or, slice_get-map}
use Rattle.sb_desk.specs.Calls.{Session}
use Rattle.sb_desk.specs.declared.stub.Stub.{Stub}
use Rattle.sb_durable.specs.Records.{Entry as Record}
use Rattle.sb_backup.specs.Renewals.{Renewed}
use Rattle.sb_durable.specs.Recording.{first_reach, renewal_of, renewed}
use Rattle.sb_durable.specs.declared.recorded_reach.RecordedReach.{RecordedReach}
use Rattle.sb_durable.specs.declared.replay.PlayFault.{PlayFault}
use Rattle.sb_durable.specs.declared.replay.PlayFault.TheVariants as fault
use Rattle.sb_durable.specs.Replays.{AreClosed, Becomes, Begins, IsClosed, LeavesPlayed, MakesStep, Playing, PlaysAll, PlaysLine, PlaysRenewal, RefusesRenewal, IsUnrenewed, Stays, changed, none_open, playing_of, receipts_in}
use Rattle.sb_durable.specs.RecordedTrails.{HasEach}

-- ---- an element that is changed

-- it is set to what it is changed to, as it is seen
pub set_changed : {A B : Type 0} (see : A → B) (change : B → B) (n : ℕ) (xs : List A) (x y : A) → n < length xs → x ≡ get_or xs n x → see y ≡ change (see x) → map see (set xs n y) ≡ changed change n (map see xs)
set_changed see change n [] x y within is same = absurd (omega (arith, within))
set_changed see change zero (a ∷ xs) x y within is same = ap (λ b. b ∷ map see xs) (same ∙ ap (λ z. change (see z)) is)
set_changed see change (suc n) (a ∷ xs) x y within is same = ap (λ l. see a ∷ l) (set_changed see change n xs x y (omega (arith, within)) is same)

map_same : {A : Type 0} (xs : List A) → map (λ x. x) xs ≡ xs
map_same [] = refl
map_same (x ∷ xs) = ap (λ l. x ∷ l) (map_same xs)

-- the same where it is seen as it is
pub set_changed_same : {A : Type 0} (change : A → A) (n : ℕ) (xs : List A) (x y : A) → n < length xs → x ≡ get_or xs n x → y ≡ change x → set xs n y ≡ changed change n xs
set_changed_same change n xs x y within is same = sym (map_same (set xs n y)) ∙ set_changed (λ a. a) change n xs x y within is same ∙ ap (changed change n) (map_same xs)

pub changed_none : {A : Type 0} (change : A → A) (n : ℕ) (xs : List A) → ((x : A) → change x ≡ x) → changed change n xs ≡ xs
changed_none change n [] none = refl
changed_none change zero (x ∷ xs) none = ap (λ y. y ∷ xs) (none x)
changed_none change (suc n) (x ∷ xs) none = ap (λ l. x ∷ l) (changed_none change n xs none)

-- ---- stubs of each tenant

abbrev pub items_of : Vec Stub Global → List Stub
items_of own = own.items

-- nothing more was left
pub stubs_stay : (n : ℕ) (stubs : List (Vec Stub Global)) → map items_of stubs ≡ changed (λ own. own ++ option_to_list None) n (map items_of stubs)
stubs_stay n stubs = sym (changed_none (λ own. own ++ []) n (map items_of stubs) append-nil)

flat_seen : (stubs : List (Vec Stub Global)) → flat_map items_of stubs ≡ flat_map (λ own. own) (map items_of stubs)
flat_seen [] = refl
flat_seen (own ∷ stubs) = ap (λ l. own.items ++ l) (flat_seen stubs)

-- ---- sessions at their places

module _ {S : Type 0} (seen : S → Session) where
  abbrev shows : Option S → Option Session
  shows own = option_map seen own

  pub none_at_all : (n : ℕ) → map (λ (o : Option S). option_map seen o) (replicate n None) ≡ replicate n None
  none_at_all zero = refl
  none_at_all (suc n) = ap (λ (l : List (Option Session)). None ∷ l) (none_at_all n)

  -- no session is open yet
  pub begun : (tenants : ℕ) (sessions : List (Option S)) (stubs : List (Vec Stub Global)) (reaches : List RecordedReach) → sessions ≡ replicate (8 * tenants) None → map items_of stubs ≡ replicate tenants [] → reaches ≡ replicate tenants first_reach
      → playing_of seen sessions stubs reaches ≡ none_open tenants
  begun tenants sessions stubs reaches all none firsts =
      let places : map shows sessions ≡ replicate (8 * tenants) None = ap (map shows) all ∙ none_at_all (8 * tenants) in
      (λ i. record { sessions = places i; stubs = none i; reaches = firsts i })

  -- what is at a session's place, and what others left
  pub becomes : (sessions : List (Option S)) (stubs more : List (Vec Stub Global)) (reaches counted : List RecordedReach) (r : Record) (place : ℕ) (own : Option S) (number : ℕ) (left : Option Stub) → place ≡ 8 * r.tenant + r.session
      → map items_of more ≡ changed (λ own. own ++ option_to_list left) r.tenant (map items_of stubs) → counted ≡ changed (λ reach. record { volume = reach.volume; entries = number }) r.tenant reaches
      → Becomes (playing_of seen sessions stubs reaches) r (playing_of seen (set sessions place own) more counted) (option_map seen own) number left
  becomes sessions stubs more reaches counted r place own number left there is counts =
      let places : map shows (set sessions place own) ≡ set (map shows sessions) (8 * r.tenant + r.session) (shows own) =
      map-set shows sessions place own ∙ ap (λ (n : ℕ). set (map shows sessions) n (shows own)) there in
      (λ i. record { sessions = places i; stubs = is i; reaches = counts i })

-- ---- one record

module _ {S : Type 0} (seen : S → Session) (sessions : List (Option S)) (stubs : List (Vec Stub Global)) (reaches : List RecordedReach) (r : Record) where
  -- it is a renewal
  pub renewed_on : (new : Playing) → r.tenant < length reaches → PlaysRenewal (playing_of seen sessions stubs reaches) r new → PlaysLine (playing_of seen sessions stubs reaches) r new
  renewed_on new has_tenant renewal = (has_tenant, inr renewal)

  -- no session of its tenant is open
  pub all_closed : ((s : ℕ) → s < 8 → slice_get sessions (8 * r.tenant + s) ≡ Some None) → (s : ℕ) → s < 8 → slice_get (map (option_map seen) sessions) (8 * r.tenant + s) ≡ Some None
  all_closed none s below = slice_get-map (option_map seen) sessions (8 * r.tenant + s) ∙ ap (option_map (option_map seen)) (none s below)

  some_open : ((s : ℕ) × (s < 8) × ((own : S) × (slice_get sessions (8 * r.tenant + s) ≡ Some (Some own)))) → (s : ℕ) × (s < 8) × ((own : Session) × (slice_get (map (option_map seen) sessions) (8 * r.tenant + s) ≡ Some (Some own)))
  some_open (s, below, (own, there)) = (s, below, (seen own, slice_get-map (option_map seen) sessions (8 * r.tenant + s) ∙ ap (option_map (option_map seen)) there))

  -- why its tenant isn't renewed
  pub refused_open : r ≡ renewal_of r.tenant → ((s : ℕ) × (s < 8) × ((own : S) × (slice_get sessions (8 * r.tenant + s) ≡ Some (Some own)))) → RefusesRenewal (playing_of seen sessions stubs reaches) r fault.NotClosed
  refused_open is one = (is, some_open one)

  pub refused_full : r ≡ renewal_of r.tenant → ((s : ℕ) → s < 8 → slice_get sessions (8 * r.tenant + s) ≡ Some None) → RefusesRenewal (playing_of seen sessions stubs reaches) r fault.TrailFull
  refused_full is none = (is, all_closed none)

  pub refused_by : (why : PlayFault) → r ≡ renewal_of r.tenant → ((s : ℕ) → s < 8 → slice_get sessions (8 * r.tenant + s) ≡ Some None) → IsUnrenewed why → RefusesRenewal (playing_of seen sessions stubs reaches) r why
  refused_by (fault.NotRenewed why) is none un = (is, all_closed none)
  refused_by fault.TrailFull is none un = (is, all_closed none)
  refused_by (fault.Journal why) is none un = absurd un
  refused_by (fault.Segment why) is none un = absurd un
  refused_by fault.NoRecord is none un = absurd un
  refused_by fault.NoTenant is none un = absurd un
  refused_by fault.NoSession is none un = absurd un
  refused_by fault.NotOpen is none un = absurd un
  refused_by (fault.Refused why) is none un = absurd un
  refused_by fault.NoMemory is none un = absurd un
  refused_by fault.NotClosed is none un = absurd un

  -- what its opening left is in the place of what its sessions left
  pub renews : (counted : List RecordedReach) (before after : Vec Stub Global) → r ≡ renewal_of r.tenant → ((s : ℕ) → s < 8 → slice_get sessions (8 * r.tenant + s) ≡ Some None) → r.tenant < length stubs → before ≡ get_or stubs r.tenant before
      → Renewed r.tenant before.items after.items → counted ≡ changed (λ reach. renewed reach (receipts_in after.items)) r.tenant reaches
      → PlaysRenewal (playing_of seen sessions stubs reaches) r (playing_of seen sessions (set stubs r.tenant after) counted)
  renews counted before after is none within at renewal counts = (
    is,
    all_closed none,
    (
      before.items,
      after.items,
      slice_get-map items_of stubs r.tenant ∙ ap (option_map items_of) (slice_get-get_or stubs r.tenant before within ∙ ap (λ (v : Vec Stub Global). Some v) (sym at)),
      renewal,
      (λ i. record { sessions = map (option_map seen) sessions; stubs = map-set items_of stubs r.tenant after i; reaches = counts i }),
    ),
  )

module _ {S : Type 0} (seen : S → Session) (sessions : List (Option S)) (stubs : List (Vec Stub Global)) (reaches : List RecordedReach) (r : Record) (place : ℕ) (there : place ≡ 8 * r.tenant + r.session) where
  -- what is found at its place
  seen_at : (found : Option S) → slice_get sessions place ≡ Some found → slice_get (map (option_map seen) sessions) (8 * r.tenant + r.session) ≡ Some (option_map seen found)
  seen_at found is =
      ap (λ (n : ℕ). slice_get (map (option_map seen) sessions) n) (sym there) ∙ slice_get-map (option_map seen) sessions place ∙ ap (option_map (option_map seen)) is

  -- what is taken from its place and put there again is put there
  put_back : (new : Playing) (still : Option Session) (number : ℕ) (left : Option Stub) → Becomes (playing_of seen (set sessions place None) stubs reaches) r new still number left → Becomes (playing_of seen sessions stubs reaches) r new still number left
  put_back new still number left is =
      let places : set (map (option_map seen) (set sessions place None)) (8 * r.tenant + r.session) still ≡ set (map (option_map seen) sessions) (8 * r.tenant + r.session) still =
      ap (λ (l : List (Option Session)). set l (8 * r.tenant + r.session) still) (map-set (option_map seen) sessions place None)
      ∙ ap (λ (n : ℕ). set (set (map (option_map seen) sessions) n None) (8 * r.tenant + r.session) still) there
      ∙ set-set (map (option_map seen) sessions) (8 * r.tenant + r.session) None still in
      is
      ∙ (λ i. record {
        sessions = places i;
        stubs = changed (λ own. own ++ option_to_list left) r.tenant (map items_of stubs);
        reaches = changed (λ reach. record { volume = reach.volume; entries = number }) r.tenant reaches;
      })

  pub played_on : (new : Playing) (own : Option S) (session : S) (taken : List (Option S)) → r.tenant < length reaches → r.session < 8 → slice_get sessions place ≡ Some own → own ≡ Some session → taken ≡ set sessions place None
      → (still : Option S) (number : ℕ) (left : Option Stub) → ((after : Session) × MakesStep (seen session) r.line number after × Stays after (option_map seen still) left)
      → Becomes (playing_of seen taken stubs reaches) r new (option_map seen still) number left → PlaysLine (playing_of seen sessions stubs reaches) r new
  played_on new own session taken has_tenant has_session found is was still number left (after, makes, stays) becomes = (
    has_tenant,
    inl (
      has_session,
      (
        Some (seen session),
        seen_at own found ∙ ap (λ (o : Option S). Some (option_map seen o)) is,
        (after, option_map seen still, left, number, makes, stays, put_back new (option_map seen still) number left (subst (λ (l : List (Option S)). Becomes (playing_of seen l stubs reaches) r new (option_map seen still) number left) was becomes)),
      ),
    ),
  )

  -- nothing was taken
  pub begun_on : (new : Playing) (own : Option S) (taken : List (Option S)) → r.tenant < length reaches → r.session < 8 → place < length sessions → slice_get sessions place ≡ Some own → own ≡ None → taken ≡ set sessions place None
      → Begins (playing_of seen taken stubs reaches) r new → PlaysLine (playing_of seen sessions stubs reaches) r new
  begun_on new own taken has_tenant has_session within found is was begins =
      let nothing : get_or sessions place None ≡ None = get_or_from_slice_get sessions place None None (found ∙ ap (λ (o : Option S). Some o) is) in
      let same : taken ≡ sessions = was ∙ ap (set sessions place) (sym nothing) ∙ set-get_or sessions place None in (
        has_tenant,
        inl (
          has_session,
          (
            None,
            seen_at own found ∙ ap (λ (o : Option S). Some (option_map seen o)) is,
            subst (λ (l : List (Option S)). Begins (playing_of seen l stubs reaches) r new) same begins,
          ),
        ),
      )

-- ---- a list of tenants

pub stands : (list tenants rest : List ℕ) (place : ℕ) → drop place list ≡ tenants ++ rest → HasEach list tenants
stands list tenants rest place whole t (k, below, at) = (
  place + k,
  omega (arith, below, ap length whole, length-drop place list, length-append tenants rest),
  sym (get_or-drop place list k t) ∙ ap (λ (l : List ℕ). get_or l k t) whole ∙ get_or-append tenants rest t k below ∙ at,
)

-- ---- sessions that are closed

pub closed_more : (xs : List (Option Session)) (stubs : List Stub) (s : Option Session) (own : Option Stub) → AreClosed xs stubs → IsClosed s own → AreClosed (xs ++ s ∷ []) (stubs ++ option_to_list own)
closed_more [] stubs s own none closed = (own, [], ap (λ (l : List Stub). l ++ option_to_list own) none ∙ sym (append-nil (option_to_list own)), closed, refl)
closed_more (x ∷ xs) stubs s own (left, others, is, first, are) closed = (
  left,
  others ++ option_to_list own,
  ap (λ (l : List Stub). l ++ option_to_list own) is ∙ append_assoc (option_to_list left) others (option_to_list own),
  first,
  closed_more xs others s own are closed,
)

-- ---- all records

-- what is seen of a player is played, too
pub plays_seen : {P : Type 0} (a b : P) (seen : P → Playing) (records : List Record) → PlaysAll (λ old r new. PlaysLine (seen old) r (seen new)) a records b → PlaysAll PlaysLine (seen a) records (seen b)
plays_seen a b seen [] same = ap seen same
plays_seen a b seen (r ∷ rs) (mid, one, more) = (seen mid, one, plays_seen mid b seen rs more)

pub leaves_played : (tenants : ℕ) (first last : Playing) (records : List Record) (closed stubs : List Stub) (own : List (Vec Stub Global)) (reaches : List RecordedReach) → first ≡ none_open tenants → PlaysAll PlaysLine first records last → AreClosed last.sessions closed
    → last.stubs ≡ map items_of own → stubs ≡ flat_map items_of own ++ closed → reaches ≡ last.reaches → LeavesPlayed tenants records stubs reaches
leaves_played tenants first last records closed stubs own reaches opens plays are shown is same = record {
  last = last;
  plays = subst (λ (p : Playing). PlaysAll PlaysLine p records last) opens plays;
  closed = closed;
  are_closed = are;
  stubs_are = is ∙ ap (λ (l : List Stub). l ++ closed) (flat_seen own ∙ ap (flat_map (λ own. own)) (sym shown));
  reaches_are = same;
}
