-- Journals in the files of a folder.
use Rattle.std.proofs.Common.{◌≡◌, ◌⊎◌, ℕ, Result, Ok, Err, List, [], ◌∷◌, ◌++◌, length, drop, refl, sym, ap, ◌∙◌, inl, inr, arith, append_assoc, append-nil, subst}
use Rattle.std.specs.Prelude.{OnErr}
use Rattle.sb_durable.specs.Head.{Head as SegmentHead, IsUnbegun, IsLeft}
use Rattle.sb_durable.specs.Journal.{contents_of, all_of}
use Rattle.sb_durable.specs.Records.{Entry as Record, bytes_of}
use Rattle.sb_durable.specs.Restart.{ends}
use Rattle.sb_durable.specs.Row.{Filed, IsNext, next_head, IsRow, HaveSettings, AreLeft, IsRowEnd, Hold, HoldBeforeOrAfter, all_contents}
use Rattle.sqlite_disk.specs.declared.Disk.{Ghosts}
use Rattle.sb_durable.specs.RowJournals.{HasRow}
use Rattle.sb_durable.specs.RowReaders.{filed}
use Rattle.sb_durable.specs.Segment.{HasAll, head_of}
use Rattle.sb_durable.specs.declared.row_journal.RowJournal.{RowJournal}
use Rattle.sb_durable.specs.declared.segment.segment.Segment.{Segment}
use Rattle.sb_durable.specs.RowJournal.{settings_of, KeepRow, FoldersCanLoseTheirOldest, RestartsAreTheSame}
use Rattle.sb_durable.specs.declared.journal_header.Head.{Head}
use Rattle.sb_durable.proofs.Batches.{contents-push, all_more}
use Rattle.sb_durable.proofs.Rows.{begun_behind, push_row, push_settings, push_contents, row_push, settings_push, left-push}
use Rattle.sb_durable.proofs.Volumes.{old_segments_can_go}
use Rattle.sb_tenant.specs.State.{State}
use Rattle.sb_tenant.specs.Trail.{state_after}
use Rattle.sb_cell.specs.Tenants.{hosts}

-- batches whose contents come in two parts
record Parted (batches : List (List Record)) (rest : List (List ℕ)) : Type 0 where
  older : List (List Record)
  newer : List (List Record)
  split : batches ≡ older ++ newer
  are : contents_of newer ≡ rest

parted : (front rest : List (List ℕ)) (batches : List (List Record)) → contents_of batches ≡ front ++ rest → Parted batches rest
parted [] rest batches is = record { older = []; newer = batches; split = refl; are = is }
parted (content ∷ front) rest [] is = absurd (omega (arith, ap length is))
parted (content ∷ front) rest (batch ∷ batches) is =
    let more = parted front rest batches (ap (λ (l : List (List ℕ)). drop 1 l) is) in
    record { older = batch ∷ more.older; newer = more.newer; split = ap (λ (l : List (List Record)). batch ∷ l) more.split; are = more.are }

all-append : (older newer : List (List Record)) → all_of (older ++ newer) ≡ all_of older ++ all_of newer
all-append [] newer = refl
all-append (batch ∷ older) newer = ap (λ (l : List Record). batch ++ l) (all-append older newer) ∙ sym (append_assoc batch (all_of older) (all_of newer))

-- what a folder holds without its oldest file
record Later (settings : List ℕ) (contents : List (List ℕ)) (files : List (List ℕ)) : Type 0 where
  front : List (List ℕ)
  rest : List (List ℕ)
  split : contents ≡ front ++ rest
  hold : Hold settings rest files

later_by : (settings : List ℕ) (file : List ℕ) (files : List (List ℕ)) (row : List Filed) (begun behind : List (List ℕ)) → IsRow row → HaveSettings settings row → AreLeft row begun → (file ∷ files) ≡ begun ++ behind → IsRowEnd behind
    → Later settings (all_contents row) files
later_by settings file files [] [] [] is have are whole over = absurd (omega (arith, ap length whole))
later_by settings file files [] [] (one ∷ []) is have are whole over = record {
  front = [];
  rest = [];
  split = refl;
  hold = record { row = []; is_row = tt; same_settings = tt; all = refl; begun = []; are = tt; behind = []; whole = ap (λ (l : List (List ℕ)). drop 1 l) whole; over = tt };
}
later_by settings file files [] [] (one ∷ other ∷ more) is have are whole over = absurd over
later_by settings file files [] (one ∷ begun) behind is have are whole over = absurd are
later_by settings file files (one ∷ row) [] behind is have are whole over = absurd are
later_by settings file files (one ∷ row) (first ∷ begun) behind is have are whole over = record {
  front = one.contents;
  rest = all_contents row;
  split = refl;
  hold = record {
    row = row;
    is_row = is.2;
    same_settings = have.1;
    all = refl;
    begun = begun;
    are = are.1;
    behind = behind;
    whole = ap (λ (l : List (List ℕ)). drop 1 l) whole;
    over = over;
  };
}

pub folders_can_lose_their_oldest : FoldersCanLoseTheirOldest
folders_can_lose_their_oldest head records file files keeps =
    let hold = keeps.hold in
    let later = later_by (settings_of head) file files hold.row hold.begun hold.behind hold.is_row hold.same_settings hold.are hold.whole hold.over in
    let parts = parted later.front later.rest keeps.batches (hold.all ∙ later.split) in (
      all_of parts.older,
      all_of parts.newer,
      keeps.all ∙ ap all_of parts.split ∙ all-append parts.older parts.newer,
      record { batches = parts.newer; hold = subst (λ (l : List (List ℕ)). Hold (settings_of head) l files) (sym parts.are) later.hold; all = refl },
    )

pub restarts_are_the_same : RestartsAreTheSame
restarts_are_the_same cell older newer none is t hosted =
    is t hosted ∙ ap (λ (st : State). state_after t cell.bound st (ends st)) (old_segments_can_go cell.bound (hosts cell) older newer none t hosted)

-- ---- one batch more

module _ (head : Head) (batches : List (List Record)) (entries waiting : List Record) (content : List ℕ) (all : entries ≡ all_of batches) (is : content ≡ bytes_of waiting) where
  pub more_contents : (contents : List (List ℕ)) → contents_of batches ≡ contents → contents_of (batches ++ waiting ∷ []) ≡ contents ++ content ∷ []
  more_contents contents are = contents-push batches waiting ∙ (λ i. are i ++ sym is i ∷ [])

  pub keep_more : (contents files : List (List ℕ)) → contents_of batches ≡ contents → HoldBeforeOrAfter (settings_of head) contents content files → KeepRow head entries files ⊎ KeepRow head (entries ++ waiting) files
  keep_more contents files are (inl before) = inl (record { batches = batches; hold = subst (λ (l : List (List ℕ)). Hold (settings_of head) l files) (sym are) before; all = all })
  keep_more contents files are (inr after) = inr (record {
    batches = batches ++ waiting ∷ [];
    hold = subst (λ (l : List (List ℕ)). Hold (settings_of head) l files) (sym (more_contents contents are)) after;
    all = all_more batches entries waiting all;
  })

-- the newest segment with one content more, whose head stays
module _ (settings : List ℕ) (older : List Filed) (own next : SegmentHead) (contents : List (List ℕ)) (content : List ℕ) (same : next ≡ own) where
  abbrev before : List Filed
  before = older ++ (record { head = own; contents = contents }) ∷ []

  abbrev after : SegmentHead → List Filed
  after h = older ++ (record { head = h; contents = contents ++ content ∷ [] }) ∷ []

  pub row_after : IsRow before → IsRow (after next)
  row_after is = subst (λ (h : SegmentHead). IsRow (after h)) (sym same) (push_row older (record { head = own; contents = contents }) content is)

  pub settings_after : HaveSettings settings before → HaveSettings settings (after next)
  settings_after have = subst (λ (h : SegmentHead). HaveSettings settings (after h)) (sym same) (push_settings settings older (record { head = own; contents = contents }) content have)

  pub contents_after : all_contents before ++ content ∷ [] ≡ all_contents (after next)
  contents_after = push_contents older (record { head = own; contents = contents }) content ∙ ap (λ (h : SegmentHead). all_contents (after h)) (sym same)

-- the same segment with another file
same_filed : {D : Type 0} (a b : Segment D) (contents : List (List ℕ)) → head_of b ≡ head_of a → filed a contents ≡ filed b contents
same_filed a b contents same = ap (λ (h : SegmentHead). record { head = h; contents = contents }) (sym same)

pub still_or : {A B C T E : Type 0} (result : Result T E) → (A → B) → A ⊎ C → OnErr result (B ⊎ C)
still_or (Ok value) still either = tt
still_or (Err error) still (inl holds) = inl (still holds)
still_or (Err error) still (inr other) = inr other

-- where its newest segment has what it had
pub row_still : {D : Type 0} {g : Ghosts D} (seen : D → List ℕ) (may_leave : D → List ℕ → Type 0) (old new : RowJournal D g) (head : Head) (older : List Filed) (entries waiting : List Record)
    → HasRow seen may_leave old head older entries waiting → ((contents : List (List ℕ)) → HasAll seen may_leave old.newest contents → HasAll seen may_leave new.newest contents)
    → head_of new.newest ≡ head_of old.newest → new.waiting.items ≡ old.waiting.items → HasRow seen may_leave new head older entries waiting
row_still seen may_leave old new head older entries waiting has keeps same wait =
    let filed_still = same_filed old.newest new.newest has.contents same in
    record {
      contents = has.contents;
      newest = keeps has.contents has.newest;
      row = subst (λ (f : Filed). IsRow (older ++ f ∷ [])) filed_still has.row;
      settings = subst (λ (f : Filed). HaveSettings (settings_of head) (older ++ f ∷ [])) filed_still has.settings;
      batches = has.batches;
      bytes = has.bytes ∙ ap (λ (f : Filed). all_contents (older ++ f ∷ [])) filed_still;
      all = has.all;
      waits = wait ∙ has.waits;
    }

-- ---- one segment more

pub none_more : (row : List Filed) (head : SegmentHead) → all_contents row ≡ all_contents (row ++ (record { head = head; contents = [] }) ∷ [])
none_more [] head = refl
none_more (one ∷ row) head = ap (λ (l : List (List ℕ)). one.contents ++ l) (none_more row head)

-- what is left of a segment that is begun behind the newest
pub begun_keep : (head : Head) (batches : List (List Record)) (entries : List Record) (older : List Filed) (own : Filed) (next : SegmentHead) → IsRow (older ++ own ∷ []) → HaveSettings (settings_of head) (older ++ own ∷ [])
    → contents_of batches ≡ all_contents (older ++ own ∷ []) → entries ≡ all_of batches → IsNext own next → (files : List (List ℕ)) → AreLeft (older ++ own ∷ []) files
    → (file : List ℕ) → IsUnbegun file ⊎ IsLeft next [] file → KeepRow head entries (files ++ file ∷ [])
begun_keep head batches entries older own next is have bytes all goes files are file (inl unbegun) = record {
  batches = batches;
  hold = record { row = older ++ own ∷ []; is_row = is; same_settings = have; all = bytes; begun = files; are = are; behind = file ∷ []; whole = refl; over = unbegun };
  all = all;
}
begun_keep head batches entries older own next is have bytes all goes files are file (inr left) =
    let one : Filed = record { head = next; contents = [] } in
    record {
      batches = batches;
      hold = subst (λ (l : List (List ℕ)). Hold (settings_of head) l (files ++ file ∷ [])) (sym bytes)
          (begun_behind (settings_of head) (older ++ own ∷ []) next files (row_push older own one is goes left.stands.fits) (settings_push (settings_of head) older own one have goes.settings) are file (inr left));
      all = all;
    }

module _ {D : Type 0} {g : Ghosts D} (seen : D → List ℕ) (may_leave : D → List ℕ → Type 0) (old : RowJournal D g) (head : Head) (older : List Filed) (entries waiting : List Record) (has : HasRow seen may_leave old head older entries waiting) where
  -- the head that is begun goes on where the newest segment ends
  pub goes_on : IsNext (filed old.newest has.contents) (next_head (head_of old.newest) old.newest.end.chain)
  goes_on = record { number = refl; before = has.newest.knows.end.chain; settings = refl }

  pub turned_has : (new : RowJournal D g) → HasAll seen may_leave new.newest [] → head_of new.newest ≡ next_head (head_of old.newest) old.newest.end.chain → new.waiting.items ≡ old.waiting.items
      → HasRow seen may_leave new head (older ++ filed old.newest has.contents ∷ []) entries waiting
  turned_has new all heads same =
      let own = filed old.newest has.contents in
      let one = filed new.newest [] in
      record {
        contents = [];
        newest = all;
        row = row_push older own one has.row (subst (λ (h : SegmentHead). IsNext own h) (sym heads) goes_on) all.knows.stands.fits;
        settings = settings_push (settings_of head) older own one has.settings (ap (λ (h : SegmentHead). h.settings) heads);
        batches = has.batches;
        bytes = has.bytes ∙ none_more (older ++ own ∷ []) (head_of new.newest);
        all = has.all;
        waits = same ∙ has.waits;
      }

  pub turned_keep : (files : List (List ℕ)) → AreLeft (older ++ filed old.newest has.contents ∷ []) files → (file : List ℕ) → IsUnbegun file ⊎ IsLeft (next_head (head_of old.newest) old.newest.end.chain) [] file
      → KeepRow head entries (files ++ file ∷ [])
  turned_keep files are file left =
      begun_keep head has.batches entries older (filed old.newest has.contents) (next_head (head_of old.newest) old.newest.end.chain) has.row has.settings has.bytes has.all goes_on files are file left

-- ---- what a folder keeps between two calls

-- the files of a row, each left as its segment
pub keep_now : (head : Head) (batches : List (List Record)) (older : List Filed) (own : Filed) → IsRow (older ++ own ∷ []) → HaveSettings (settings_of head) (older ++ own ∷ []) → contents_of batches ≡ all_contents (older ++ own ∷ [])
    → (files : List (List ℕ)) → AreLeft older files → (file : List ℕ) → IsLeft own.head own.contents file → KeepRow head (all_of batches) (files ++ file ∷ [])
keep_now head batches older own is have bytes files are file left = record {
  batches = batches;
  hold = record {
    row = older ++ own ∷ [];
    is_row = is;
    same_settings = have;
    all = bytes;
    begun = files ++ file ∷ [];
    are = left-push older files own file are left;
    behind = [];
    whole = sym (append-nil (files ++ file ∷ []));
    over = tt;
  };
  all = refl;
}

-- a first file, which has not begun or has its head
pub keep_first : (head : Head) (own : SegmentHead) (file : List ℕ) → own.settings ≡ settings_of head → IsUnbegun file ⊎ IsLeft own [] file → KeepRow head [] (file ∷ [])
keep_first head own file same (inl unbegun) = record {
  batches = [];
  hold = record { row = []; is_row = tt; same_settings = tt; all = refl; begun = []; are = tt; behind = file ∷ []; whole = refl; over = unbegun };
  all = refl;
}
keep_first head own file same (inr left) = keep_now head [] [] (record { head = own; contents = [] }) (left.stands.fits, tt, tt) (same, tt) refl [] tt file left

-- the same row, whose newest segment was mended
pub opened_row : (settings : List ℕ) (older : List Filed) (was now : Filed) (contents : List (List ℕ)) → now.head ≡ was.head → now.contents ≡ was.contents → IsRow (older ++ was ∷ []) → HaveSettings settings (older ++ was ∷ [])
    → contents ≡ all_contents (older ++ was ∷ []) → IsRow (older ++ now ∷ []) × HaveSettings settings (older ++ now ∷ []) × (contents ≡ all_contents (older ++ now ∷ []))
opened_row settings older was now contents heads same is have all =
    let back : was ≡ now = λ i. record { head = sym heads i; contents = sym same i } in (
      subst (λ (one : Filed). IsRow (older ++ one ∷ [])) back is,
      subst (λ (one : Filed). HaveSettings settings (older ++ one ∷ [])) back have,
      subst (λ (one : Filed). contents ≡ all_contents (older ++ one ∷ [])) back all,
    )
