-- Segments whose records are played one after the other.
use Rattle.std.proofs.Common.{◌≡◌, ◌+◌, ◌<◌, ℕ, Bool, List, [], ◌∷◌, ◌++◌, length, refl, sym, ap, ◌∙◌, subst, arith, append_assoc, append-nil, slice_index, Option, Some, None, IfSome, IsTrue}
use Rattle.sqlite_disk.specs.declared.Disk.{Ghosts}
use Rattle.sqlite_disk.specs.Digest.{digest}
use Rattle.std.specs.List.{AllByRecursion}
use Rattle.std.specs.Prelude.{map, drop}
use Rattle.std.proofs.lemmas.List.{map-append, same_from_push}
use Rattle.sb_durable.specs.Folders.{FollowOn}
use Rattle.sb_durable.specs.Head.{Head, IsHead, IsUnbegun, Stands, head_digest}
use Rattle.sb_durable.specs.Journal.{contents_of, all_of}
use Rattle.sb_durable.specs.Records.{Entry, bytes_of}
use Rattle.sb_durable.specs.Replays.{PlaysAll}
use Rattle.sb_durable.specs.Restart.{AreRecords}
use Rattle.sb_durable.specs.Row.{Filed, IsNext, IsRow, HaveSettings, IsRowEnd, AreFiled, AreLeft, all_contents}
use Rattle.sb_durable.specs.RowJournal.{KeepRow, settings_of}
use Rattle.sb_durable.specs.RowJournals.{HasRow, disk_of}
use Rattle.sb_durable.specs.RowOpenings.{OpensRow}
use Rattle.sb_durable.specs.RowReaders.{StaysRead, filed}
use Rattle.sb_durable.specs.RowReplays.{AreOfNumbers, AreRead, HaveAll, IsReadAs, LeavesUnbegun, PlaysRow, ReadsRow, ReadsWhatIsKept, files_of}
use Rattle.sb_durable.specs.Segment.{BindsAll, IsBehind, Bears, Knows, Reads, device_of, end_of, head_of}
use Rattle.sb_durable.specs.declared.journal_header.Head.{Head as Settings}
use Rattle.sb_durable.specs.declared.row_journal.RowJournal.{RowJournal}
use Rattle.sb_durable.specs.declared.segment.place.Place.{Place}
use Rattle.sb_durable.specs.declared.segment.reader.RowReader.{RowReader}
use Rattle.sb_durable.specs.declared.segment.segment.Segment.{Segment}
use Rattle.sb_durable.proofs.Batches.{contents-push}
use Rattle.sb_durable.proofs.Heads.{has_begun}
use Rattle.sb_durable.proofs.Pieces.{contents-append}
use Rattle.sb_durable.proofs.Records.{are_back, are_front, plays-append}
use Rattle.sb_durable.proofs.Rows.{row_push}
use Rattle.sb_durable.proofs.SegmentReading.{one_file_one_segment}
use Rattle.sb_durable.proofs.SegmentContents.{end-push, size-push}

-- what a segment knows binds it
pub bound_by : {D : Type 0} (seen : D → List ℕ) (segment : Segment D) (contents : List (List ℕ)) → Knows seen segment contents → BindsAll segment
bound_by seen segment contents knows = record { fits = knows.stands.fits; own = knows.own; contents = contents; each = knows.stands.behind.each; binds = knows.end }

-- one content more is read
read_more : (head : Head) (contents : List (List ℕ)) (content : List ℕ) (place next : Place) → IsBehind head contents place → Bears place content next → IsBehind head (contents ++ content ∷ []) next
read_more head contents content place next here bears = record {
  at = omega (arith, bears.at, here.at, size-push contents content);
  chain = bears.chain ∙ ap (λ (n : ℕ). digest n content) here.chain ∙ sym (end-push (head_digest head) contents content);
}

pub behind_more : (head : Head) (batches : List (List Entry)) (batch : List Entry) (content : List ℕ) (place next : Place) → content ≡ bytes_of batch → IsBehind head (contents_of batches) place → Bears place content next
    → IsBehind head (contents_of (batches ++ batch ∷ [])) next
behind_more head batches batch content place next is here bears =
    let all : contents_of batches ++ content ∷ [] ≡ contents_of (batches ++ batch ∷ []) = ap (λ (c : List ℕ). contents_of batches ++ c ∷ []) is ∙ sym (contents-push batches batch) in
    subst (λ (cs : List (List ℕ)). IsBehind head cs next) all (read_more head (contents_of batches) content place next here bears)

-- what is read of batches of which some were read
pub over_others : {D T : Type 0} (seen : D → List ℕ) (segment : Segment D) (others front back : List (List Entry)) → others ≡ front ++ back → Knows seen segment (contents_of others)
    → (Knows seen segment (contents_of front ++ contents_of back) → T) → T
over_others seen segment others front back is knows then =
    then (subst (λ (cs : List (List ℕ)). Knows seen segment cs) (ap contents_of is ∙ contents-append front back) knows)

pub push_number : (has : ℕ → List ℕ → Type 0) (numbers : List ℕ) (files : List (List ℕ)) (number : ℕ) (file : List ℕ) → AreOfNumbers has numbers files → has number file → AreOfNumbers has (numbers ++ number ∷ []) (files ++ file ∷ [])
push_number has [] [] number file are one = (one, tt)
push_number has [] (f ∷ files) number file are one = absurd are
push_number has (n ∷ numbers) [] number file are one = absurd are
push_number has (n ∷ numbers) (f ∷ files) number file are one = (are.0, push_number has numbers files number file are.1 one)

-- the next segment has the next number
pub next_number : (numbers : List ℕ) (j k was now : ℕ) → k ≡ j + 1 → k < length numbers → FollowOn numbers → was ≡ slice_index numbers j → now ≡ was + 1 → now ≡ slice_index numbers k
next_number numbers j k was now is below follow same next =
    next ∙ ap (λ (n : ℕ). n + 1) same ∙ sym (follow j (omega arith)) ∙ ap (λ (n : ℕ). slice_index numbers n) (sym is)

pub all-append : (older newer : List (List Entry)) → all_of (older ++ newer) ≡ all_of older ++ all_of newer
all-append [] newer = refl
all-append (batch ∷ older) newer = ap (λ (l : List Entry). batch ++ l) (all-append older newer) ∙ sym (append_assoc batch (all_of older) (all_of newer))

pub batch_read : (head : Head) (others front back : List (List Entry)) (content : List ℕ) (next : Place) → others ≡ front ++ back → AreRecords (all_of others) → Reads head (contents_of front) (contents_of back) content (Some next)
    → (played : List Entry) → ((b : List Entry) → AreRecords b → content ≡ bytes_of b → played ≡ b) → (later : List (List Entry)) × (others ≡ (front ++ played ∷ []) ++ later)
batch_read head others front [] content next is are reads played same = absurd reads
batch_read head others front (b ∷ back) content next is are reads played same =
    let parts = are_back (all_of front) (all_of (b ∷ back)) (subst AreRecords (ap all_of is ∙ all-append front (b ∷ back)) are) in
    let found = same b (are_front b (all_of back) parts) reads.0 in
    (back, is ∙ ap (λ (l : List Entry). front ++ l ∷ back) (sym found) ∙ sym (append_assoc front (played ∷ []) back))

pub none_read : (head : Head) (others front back : List (List Entry)) (content : List ℕ) → others ≡ front ++ back → Reads head (contents_of front) (contents_of back) content None → front ≡ others
none_read head others front [] content is reads = sym (is ∙ append-nil front)
none_read head others front (b ∷ back) content is reads = absurd reads

module _ {D : Type 0} (seen : D → List ℕ) (may_leave : D → List ℕ → Type 0) (is_clean : D → Bool) where
  pub stays_same : (reader : RowReader D) → StaysRead seen may_leave is_clean reader reader
  stays_same reader = record { head = refl; end = refl; knows = λ contents knows. knows; file = refl; crash = λ file left. left; clean = λ clean. clean }

  pub stays_then : (one two three : RowReader D) → StaysRead seen may_leave is_clean one two → StaysRead seen may_leave is_clean two three → StaysRead seen may_leave is_clean one three
  stays_then one two three first then = record {
    head = then.head ∙ first.head;
    end = then.end ∙ first.end;
    knows = λ contents knows. then.knows contents (first.knows contents knows);
    file = then.file ∙ first.file;
    crash = λ file left. first.crash file (then.crash file left);
    clean = λ clean. first.clean (then.clean clean);
  }

-- what was read of a segment that is opened, after it was read
module _ {D : Type 0} (seen : D → List ℕ) (may_leave : D → List ℕ → Type 0) (is_clean : D → Bool) (opened reader : RowReader D) (stays : StaysRead seen may_leave is_clean opened reader) (batches : List (List Entry))
    (read : AreRead seen (IsTrue (is_clean (device_of reader.last))) opened.last batches) where
  pub binds_now : BindsAll opened.last → IsBehind (head_of reader.last) (contents_of batches) (end_of reader.last)
  binds_now bound =
      subst (λ (h : Head). IsBehind h (contents_of batches) (end_of reader.last)) (sym stays.head)
      (subst (λ (e : Place). IsBehind (head_of opened.last) (contents_of batches) e) (sym stays.end) (read.binds bound))

  pub are_now : (IsTrue (is_clean (device_of opened.last)) → (head : Head) (contents : List (List ℕ)) → Stands head contents (seen (device_of opened.last)) → Knows seen opened.last contents)
      → IsTrue (is_clean (device_of reader.last)) → (head : Head) (others : List (List Entry)) → AreRecords (all_of others) → Stands head (contents_of others) (seen (device_of reader.last)) → batches ≡ others
  are_now knows clean head others records stands =
      read.are clean others records (knows (stays.clean clean) head (contents_of others) (subst (λ (f : List ℕ). Stands head (contents_of others) f) stays.file stands))

-- ---- a row

more_segment : (row : List Filed) (one : Filed) → all_contents (row ++ one ∷ []) ≡ all_contents row ++ one.contents
more_segment [] one = append-nil one.contents
more_segment (r ∷ row) one = ap (λ (l : List (List ℕ)). r.contents ++ l) (more_segment row one) ∙ sym (append_assoc r.contents (all_contents row) one.contents)

-- batches whose contents come in two parts
parted : (front rest : List (List ℕ)) (batches : List (List Entry)) → contents_of batches ≡ front ++ rest → (older newer : List (List Entry)) × (contents_of older ≡ front) × (batches ≡ older ++ newer) × (contents_of newer ≡ rest)
parted [] rest batches is = ([], batches, refl, refl, is)
parted (content ∷ front) rest [] is = absurd (omega (arith, ap length is))
parted (content ∷ front) rest (batch ∷ batches) is =
    let more = parted front rest batches (ap (λ (l : List (List ℕ)). drop 1 l) is) in
    (batch ∷ more.0, more.1, cc (is, more.2), ap (λ (l : List (List Entry)). batch ∷ l) more.3, more.4)

each_split : {D : Type 0} (p : D → Type 0) (front : List D) (last : D) → AllByRecursion p (front ++ last ∷ []) → AllByRecursion p front × p last
each_split p [] last each = (tt, each.0)
each_split p (d ∷ front) last each = let more = each_split p front last each.1 in ((each.0, more.0), more.1)

-- files of a row, with the last apart
filed_split : (row : List Filed) (files : List (List ℕ)) (file : List ℕ) → AreFiled row (files ++ file ∷ [])
    → (older : List Filed) × (newest : Filed) × (row ≡ older ++ newest ∷ []) × AreFiled older files × Stands newest.head newest.contents file
filed_split [] [] file filed = absurd filed
filed_split [] (f ∷ files) file filed = absurd filed
filed_split (one ∷ []) [] file filed = ([], one, refl, tt, filed.0)
filed_split (one ∷ other ∷ row) [] file filed = absurd filed.1
filed_split (one ∷ row) (f ∷ files) file filed =
    let more = filed_split row files file filed.1 in
    (one ∷ more.0, more.1, ap (λ (l : List Filed). one ∷ l) more.2, (filed.0, more.3), more.4)

module _ {D S : Type 0} (has : ℕ → List ℕ → Type 0) (seen : D → List ℕ) (is_clean : D → Bool) (plays : S → Entry → S → Type 0) (old new : S) (reader : RowReader D) (fits : IsHead (head_of reader.last)) (number : ℕ) (same : (head_of reader.last).number ≡ number)
    (own : has number (seen (device_of reader.last))) (begun : IsTrue (is_clean (device_of reader.last)) → IsUnbegun (seen (device_of reader.last)) → ⊥)
    (knows : IsTrue (is_clean (device_of reader.last)) → (head : Head) (contents : List (List ℕ)) → Stands head contents (seen (device_of reader.last)) → Knows seen reader.last contents) (batches : List (List Entry)) (binds : IsBehind (head_of reader.last) (contents_of batches) (end_of reader.last))
    (are : IsTrue (is_clean (device_of reader.last)) → (head : Head) (others : List (List Entry)) → AreRecords (all_of others) → Stands head (contents_of others) (seen (device_of reader.last)) → batches ≡ others) where
  -- the oldest segment was played
  first_has : IsTrue (is_clean (device_of reader.last)) → HaveAll seen (device_of reader.last ∷ []) batches
  first_has clean [] others records stand is = absurd stand
  first_has clean (one ∷ []) others records (stands, none) is =
      are clean one.head others records (subst (λ (cs : List (List ℕ)). Stands one.head cs (seen (device_of reader.last))) (sym (is ∙ append-nil one.contents)) stands)
  first_has clean (one ∷ other ∷ row) others records (stands, more) is = absurd more

  pub plays_first : (numbers : List ℕ) → numbers ≡ number ∷ [] → PlaysAll plays old (all_of batches) new → (p : PlaysRow has seen is_clean plays old new reader numbers []) × (p.batches ≡ batches)
  plays_first numbers is played = (
    record {
      last = contents_of batches;
      row = (fits, tt, tt);
      end = binds;
      numbered = ap (λ (n : ℕ). n ∷ []) same ∙ sym is;
      batches = batches;
      bytes = sym (append-nil (contents_of batches));
      played = played;
      closed = [];
      files = subst (λ (ns : List ℕ). AreOfNumbers has ns (seen (device_of reader.last) ∷ [])) (sym is) (own, tt);
      begun = begun;
      knows = knows;
      are = λ clean. first_has clean.0;
    },
    refl,
  )

  -- one more was played
  module _ (mid : S) (was : RowReader D) (read : List ℕ) (older : List Filed) (p : PlaysRow has seen is_clean plays old mid was read older) (next : IsNext (filed was.last p.last) (head_of reader.last)) where
    abbrev files : List D
    files = p.closed ++ device_of was.last ∷ []

    next_has : AllByRecursion (λ d. IsTrue (is_clean d)) (files ++ device_of reader.last ∷ []) → HaveAll seen (files ++ device_of reader.last ∷ []) (p.batches ++ batches)
    next_has clean row others records stand is =
        let sure = each_split (λ d. IsTrue (is_clean d)) files (device_of reader.last) clean in
        let parts = filed_split row (map seen files) (seen (device_of reader.last)) (subst (λ (l : List (List ℕ)). AreFiled row l) (map-append seen files (device_of reader.last ∷ [])) stand) in
        let halves = parted (all_contents parts.0) parts.1.contents others (is ∙ ap all_contents parts.2 ∙ more_segment parts.0 parts.1) in
        let split = subst AreRecords (ap all_of halves.3 ∙ all-append halves.0 halves.1) records in
        let front = p.are sure.0 parts.0 halves.0 (are_front (all_of halves.0) (all_of halves.1) split) parts.3 halves.2 in
        let back = are sure.1 parts.1.head halves.1 (are_back (all_of halves.0) (all_of halves.1) split) (subst (λ (cs : List (List ℕ)). Stands parts.1.head cs (seen (device_of reader.last))) (sym halves.4) parts.4) in
        (λ i. front i ++ back i) ∙ sym halves.3

    pub plays_next : (numbers : List ℕ) → numbers ≡ read ++ number ∷ [] → PlaysAll plays mid (all_of batches) new
        → (q : PlaysRow has seen is_clean plays old new reader numbers (older ++ filed was.last p.last ∷ [])) × (q.batches ≡ p.batches ++ batches)
    plays_next numbers is played =
        let before = filed was.last p.last in
        let one = filed reader.last (contents_of batches) in (
          record {
            last = contents_of batches;
            row = row_push older before one p.row next fits;
            end = binds;
            numbered = map-append (λ (o : Filed). o.head.number) (older ++ before ∷ []) (one ∷ []) ∙ (λ i. p.numbered i ++ same i ∷ []) ∙ sym is;
            batches = p.batches ++ batches;
            bytes = contents-append p.batches batches ∙ ap (λ (l : List (List ℕ)). l ++ contents_of batches) p.bytes ∙ sym (more_segment (older ++ before ∷ []) one);
            played = subst (λ (rs : List Entry). PlaysAll plays old rs new) (sym (all-append p.batches batches)) (plays-append plays old mid new (all_of p.batches) (all_of batches) p.played played);
            closed = files;
            files = subst (λ (ns : List ℕ). AreOfNumbers has ns (map seen (files ++ device_of reader.last ∷ []))) (sym is)
                (subst (λ (l : List (List ℕ)). AreOfNumbers has (read ++ number ∷ []) l) (sym (map-append seen files (device_of reader.last ∷ []))) (push_number has read (map seen files) number (seen (device_of reader.last)) p.files own));
            begun = begun;
            knows = knows;
            are = next_has;
          },
          refl,
        )

-- ---- what a crash leaves of a folder

all_left : (row : List Filed) (files : List (List ℕ)) → AreLeft row files → AreFiled row files
all_left [] [] left = tt
all_left [] (file ∷ files) left = absurd left
all_left (one ∷ row) [] left = absurd left
all_left (one ∷ row) (file ∷ files) left = (left.0.stands, all_left row files left.1)

-- the newest of a row has begun
newest_begun : (row : List Filed) (files : List (List ℕ)) (file : List ℕ) → AreLeft row (files ++ file ∷ []) → IsUnbegun file → ⊥
newest_begun row files file left unbegun =
    let parts = filed_split row files file (all_left row (files ++ file ∷ []) left) in
    has_begun parts.1.head _ file parts.4.fits parts.4.begins unbegun

-- the row of segments that files keep, none of which has not begun
record KeptRow (head : Settings) (records : List Entry) (files : List (List ℕ)) : Type 0 where
  row : List Filed
  is_row : IsRow row
  same_settings : HaveSettings (settings_of head) row
  batches : List (List Entry)
  all : records ≡ all_of batches
  bytes : contents_of batches ≡ all_contents row
  left : AreLeft row files

row_of : (head : Settings) (records : List Entry) (files : List (List ℕ)) → (keeps : KeepRow head records files) → (now : List (List ℕ)) → AreLeft keeps.hold.row now → KeptRow head records now
row_of head records files keeps now left = record {
  row = keeps.hold.row;
  is_row = keeps.hold.is_row;
  same_settings = keeps.hold.same_settings;
  batches = keeps.batches;
  all = keeps.all;
  bytes = keeps.hold.all;
  left = left;
}

module _ (head : Settings) (records : List Entry) (files : List (List ℕ)) (last : List ℕ) where
  -- the last file has begun
  begun_by : (IsUnbegun last → ⊥) → (row : List Filed) (begun behind : List (List ℕ)) → AreLeft row begun → files ++ last ∷ [] ≡ begun ++ behind → IsRowEnd behind → AreLeft row (files ++ last ∷ [])
  begun_by fresh row begun [] left whole over = subst (AreLeft row) (sym (whole ∙ append-nil begun)) left
  begun_by fresh row begun (file ∷ []) left whole over = let ends = same_from_push files begun last file whole in absurd (fresh (subst IsUnbegun (sym ends.1) over))
  begun_by fresh row begun (file ∷ other ∷ more) left whole over = absurd over

  -- the last file has not begun
  unbegun_by : IsUnbegun last → (row : List Filed) (begun behind : List (List ℕ)) → AreLeft row begun → files ++ last ∷ [] ≡ begun ++ behind → IsRowEnd behind → AreLeft row files
  unbegun_by unbegun row begun [] left whole over = absurd (newest_begun row files last (subst (AreLeft row) (sym (whole ∙ append-nil begun)) left) unbegun)
  unbegun_by unbegun row begun (file ∷ []) left whole over = let ends = same_from_push files begun last file whole in subst (AreLeft row) (sym ends.0) left
  unbegun_by unbegun row begun (file ∷ other ∷ more) left whole over = absurd over

  all_begun : (IsUnbegun last → ⊥) → KeepRow head records (files ++ last ∷ []) → KeptRow head records (files ++ last ∷ [])
  all_begun fresh keeps = let h = keeps.hold in row_of head records (files ++ last ∷ []) keeps (files ++ last ∷ []) (begun_by fresh h.row h.begun h.behind h.are h.whole h.over)

  others_begun : IsUnbegun last → KeepRow head records (files ++ last ∷ []) → KeptRow head records files
  others_begun unbegun keeps = let h = keeps.hold in row_of head records (files ++ last ∷ []) keeps files (unbegun_by unbegun h.row h.begun h.behind h.are h.whole h.over)

module _ {D S : Type 0} (has : ℕ → List ℕ → Type 0) (seen : D → List ℕ) (is_clean : D → Bool) (plays : S → Entry → S → Type 0) (old new : S) (reader : RowReader D) (numbers : List ℕ) (older : List Filed) (p : PlaysRow has seen is_clean plays old new reader numbers older) where
  abbrev read : List D
  read = p.closed ++ device_of reader.last ∷ []

  as_read : map seen read ≡ map seen p.closed ++ seen (device_of reader.last) ∷ []
  as_read = map-append seen p.closed (device_of reader.last ∷ [])

  module _ (clean : AllByRecursion (λ d. IsTrue (is_clean d)) read) (head : Settings) (records : List Entry) (are : AreRecords records) (k : KeptRow head records (map seen read)) where
    sure : IsTrue (is_clean (device_of reader.last))
    sure = (each_split (λ d. IsTrue (is_clean d)) p.closed (device_of reader.last) clean).1

    all_played : all_of p.batches ≡ records
    all_played = ap all_of (p.are clean k.row k.batches (subst AreRecords k.all are) (all_left k.row (map seen read) k.left) k.bytes) ∙ sym k.all

    read_as : IsReadAs seen reader head records
    read_as =
        let file = seen (device_of reader.last) in
        let parts = filed_split k.row (map seen p.closed) file (all_left k.row (map seen p.closed ++ file ∷ []) (subst (AreLeft k.row) as_read k.left)) in
        let known = p.knows sure parts.1.head parts.1.contents parts.4 in
        let both = one_file_one_segment file (head_of reader.last) parts.1.head parts.1.contents parts.1.contents known.stands parts.4 in
        let own : parts.1 ≡ filed reader.last parts.1.contents = λ i. record { head = sym both.0 i; contents = parts.1.contents } in
        let row : k.row ≡ parts.0 ++ filed reader.last parts.1.contents ∷ [] = parts.2 ∙ ap (λ (o : Filed). parts.0 ++ o ∷ []) own in
        record {
          older = parts.0;
          contents = parts.1.contents;
          batches = k.batches;
          read = record { knows = known; row = subst IsRow row k.is_row; same_settings = subst (HaveSettings (settings_of head)) row k.same_settings };
          bytes = k.bytes ∙ ap all_contents row;
          all = k.all;
        }

  pub kept_played : ReadsWhatIsKept seen is_clean (files_of p.closed (device_of reader.last) None) reader (all_of p.batches)
  kept_played clean head records are keeps =
      let fresh = p.begun (each_split (λ d. IsTrue (is_clean d)) p.closed (device_of reader.last) clean).1 in
      let all = all_begun head records (map seen p.closed) (seen (device_of reader.last)) fresh (subst (λ (fs : List (List ℕ)). KeepRow head records fs) as_read keeps) in
      let k = subst (λ (fs : List (List ℕ)). KeptRow head records fs) (sym as_read) all in
      (all_played clean head records are k, read_as clean head records are k)

  pub kept_played_before : (file : D) → (IsTrue (is_clean file) → IsUnbegun (seen file)) → ReadsWhatIsKept seen is_clean (files_of p.closed (device_of reader.last) (Some file)) reader (all_of p.batches)
  kept_played_before file unbegun clean head records are keeps =
      let split = each_split (λ d. IsTrue (is_clean d)) read file clean in
      let k = others_begun head records (map seen read) (seen file) (unbegun split.1) (subst (λ (fs : List (List ℕ)). KeepRow head records fs) (map-append seen read (file ∷ [])) keeps) in
      (all_played split.0 head records are k, read_as split.0 head records are k)

-- ---- the opening

-- the files that were read are those of the numbers
all_numbers : {D : Type 0} (has : ℕ → List ℕ → Type 0) (seen : D → List ℕ) (is_clean : D → Bool) (closed : List D) (last : D) (numbers begun behind : List ℕ) (unbegun : Option D) → numbers ≡ begun ++ behind → LeavesUnbegun has seen is_clean behind unbegun
    → AreOfNumbers has begun (map seen (closed ++ last ∷ [])) → AreOfNumbers has numbers (map seen (files_of closed last unbegun))
all_numbers has seen is_clean closed last numbers begun [] None whole rest files = subst (λ (ns : List ℕ). AreOfNumbers has ns (map seen (closed ++ last ∷ []))) (sym (whole ∙ append-nil begun)) files
all_numbers has seen is_clean closed last numbers begun [] (Some file) whole rest files = absurd rest
all_numbers has seen is_clean closed last numbers begun (n ∷ []) None whole rest files = absurd rest
all_numbers has seen is_clean closed last numbers begun (n ∷ []) (Some file) whole rest files =
    subst (λ (ns : List ℕ). AreOfNumbers has ns (map seen (closed ++ last ∷ [] ++ file ∷ []))) (sym whole)
    (subst (λ (fs : List (List ℕ)). AreOfNumbers has (begun ++ n ∷ []) fs) (sym (map-append seen (closed ++ last ∷ []) (file ∷ []))) (push_number has begun (map seen (closed ++ last ∷ [])) n (seen file) files rest.0))
all_numbers has seen is_clean closed last numbers begun (n ∷ m ∷ more) None whole rest files = absurd rest
all_numbers has seen is_clean closed last numbers begun (n ∷ m ∷ more) (Some file) whole rest files = absurd rest

pub opens_row : {D S : Type 0} {g : Ghosts D} (has : ℕ → List ℕ → Type 0) (seen : D → List ℕ) (may_leave : D → List ℕ → Type 0) (is_clean : D → Bool) (plays : S → Entry → S → Type 0) (old new : S) (reader : RowReader D) (numbers : List ℕ) (unbegun : Option D) (records : ℕ)
    → ReadsRow has seen is_clean plays old new reader numbers unbegun records → (journal : RowJournal D g) (full : Option D) (count : ℕ) → count ≡ records
    → (IsTrue (is_clean (disk_of journal)) → IfSome full (λ d. IsTrue (is_clean d)) → (head : Settings) (there : List Entry) → IsReadAs seen reader head there → (older : List Filed) × HasRow seen may_leave journal head older there [])
    → OpensRow has seen may_leave is_clean plays old new numbers journal full count
opens_row has seen may_leave is_clean plays old new reader numbers unbegun records r journal full count same gives = record {
  read = files_of r.row.closed (device_of reader.last) unbegun;
  files = all_numbers has seen is_clean r.row.closed (device_of reader.last) numbers r.begun r.behind unbegun r.whole r.rest r.row.files;
  played = all_of r.row.batches;
  plays_all = r.row.played;
  count = same ∙ r.count;
  kept = λ clean now sure head there are keeps. let k = r.kept clean head there are keeps in (k.0, gives now sure head there k.1);
}
