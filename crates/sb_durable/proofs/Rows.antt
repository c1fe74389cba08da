-- Rows of segments.
use Rattle.std.proofs.Common.{◌≡◌, ◌⊎◌, ℕ, List, [], ◌∷◌, ◌++◌, length, refl, sym, ap, ◌∙◌, inl, inr, arith, append_assoc, append-nil}
use Rattle.std.proofs.lemmas.List.Concat.{flat_map-append}
use Rattle.sb_durable.specs.Head.{Head, IsHead, IsLeft}
use Rattle.sb_durable.specs.Chain.{HasCollision}
use Rattle.sb_durable.specs.Row.{Filed, IsNext, binding, Continue, IsRow, row_digest, all_contents, HaveSettings, AreLeft, OneEndOneRow, OneFolderOneRow, NewerAreARow, OnlyTheNewestIsWritten, BegunBehind}
use Rattle.sb_durable.proofs.Chain.{one_end_one_segment}
use Rattle.sb_durable.proofs.SegmentReading.{one_file_one_segment}

same_filed : (one other : Filed) → one.head ≡ other.head → one.contents ≡ other.contents → one ≡ other
same_filed one other heads contents = λ i. record { head = heads i; contents = contents i }

same_row : (one other : Filed) (more others : List Filed) → one ≡ other → more ≡ others → (one ∷ more) ≡ (other ∷ others)
same_row one other more others same rest = λ i. same i ∷ rest i

-- ---- one digest

-- the digest before a row is that which its first segment names
abbrev Begins : ℕ → List Filed → Type 0
Begins before [] = Unit {0}
Begins before (one ∷ more) = one.head.before ≡ before

continues : (one : Filed) (more : List Filed) → Continue one more → Begins (binding one) more
continues one [] next = tt
continues one (other ∷ more) next = next.before

one_end : (before other_before : ℕ) (row others : List Filed) → IsRow row → IsRow others → Begins before row → Begins other_before others → length row ≡ length others
    → row_digest before row ≡ row_digest other_before others → ((row ≡ others) × (before ≡ other_before)) ⊎ HasCollision
one_end before other_before [] [] is are begin begin_others long same = inl (refl, same)
one_end before other_before [] (b ∷ news) is are begin begin_others long same = absurd (omega (arith, long))
one_end before other_before (a ∷ olds) [] is are begin begin_others long same = absurd (omega (arith, long))
one_end before other_before (a ∷ olds) (b ∷ news) is are begin begin_others long same =
    elim (one_end (binding a) (binding b) olds news is.2 are.2 (continues a olds is.1) (continues b news are.1) (omega (arith, long)) same) [
      | inr c ↦ inr c
      | inl rest ↦ elim (one_end_one_segment a.head b.head a.contents b.contents is.0 are.0 rest.1) [
        | inr c ↦ inr c
        | inl both ↦ inl (same_row a b olds news (same_filed a b both.0 both.1) rest.0, sym begin ∙ ap (λ (h : Head). h.before) both.0 ∙ begin_others)
      ]
    ]

pub one_end_one_row : OneEndOneRow
one_end_one_row before [] [] is are long same = inl refl
one_end_one_row before [] (b ∷ news) is are long same = absurd (omega (arith, long))
one_end_one_row before (a ∷ olds) [] is are long same = absurd (omega (arith, long))
one_end_one_row before (a ∷ olds) (b ∷ news) is are long same = elim (one_end a.head.before b.head.before (a ∷ olds) (b ∷ news) is are refl refl long same) [
  | inl both ↦ inl both.0
  | inr c ↦ inr c
]

-- ---- files

pub one_folder_one_row : OneFolderOneRow
one_folder_one_row [] [] [] filed others_filed = refl
one_folder_one_row [] [] (b ∷ news) filed others_filed = absurd others_filed
one_folder_one_row [] (a ∷ olds) others filed others_filed = absurd filed
one_folder_one_row (file ∷ files) [] others filed others_filed = absurd filed
one_folder_one_row (file ∷ files) (a ∷ olds) [] filed others_filed = absurd others_filed
one_folder_one_row (file ∷ files) (a ∷ olds) (b ∷ news) filed others_filed =
    let both = one_file_one_segment file a.head b.head a.contents b.contents filed.0 others_filed.0 in
    same_row a b olds news (same_filed a b both.0 both.1) (one_folder_one_row files olds news filed.1 others_filed.1)

pub newer_are_a_row : NewerAreARow
newer_are_a_row [] newer is = is
newer_are_a_row (one ∷ older) newer is = newer_are_a_row older newer is.2

pub left-push : (row : List Filed) (files : List (List ℕ)) (one : Filed) (file : List ℕ) → AreLeft row files → IsLeft one.head one.contents file → AreLeft (row ++ one ∷ []) (files ++ file ∷ [])
left-push [] [] one file are left = (left, tt)
left-push [] (f ∷ files) one file are left = absurd are
left-push (a ∷ row) [] one file are left = absurd are
left-push (a ∷ row) (f ∷ files) one file are left = (are.0, left-push row files one file are.1 left)

-- ---- the newest segment

-- with more contents
abbrev with_more : Filed → List ℕ → Filed
with_more one content = record { head = one.head; contents = one.contents ++ content ∷ [] }

push_continue : (one : Filed) (older : List Filed) (newest other : Filed) → other.head ≡ newest.head → Continue one (older ++ newest ∷ []) → Continue one (older ++ other ∷ [])
push_continue one [] newest other same next = record {
  number = ap (λ (h : Head). h.number) same ∙ next.number;
  before = ap (λ (h : Head). h.before) same ∙ next.before;
  settings = ap (λ (h : Head). h.settings) same ∙ next.settings;
}
push_continue one (a ∷ older) newest other same next = next

pub push_row : (older : List Filed) (newest : Filed) (content : List ℕ) → IsRow (older ++ newest ∷ []) → IsRow (older ++ with_more newest content ∷ [])
push_row [] newest content is = (is.0, tt, tt)
push_row (one ∷ older) newest content is = (is.0, push_continue one older newest (with_more newest content) refl is.1, push_row older newest content is.2)

pub push_settings : (settings : List ℕ) (older : List Filed) (newest : Filed) (content : List ℕ) → HaveSettings settings (older ++ newest ∷ []) → HaveSettings settings (older ++ with_more newest content ∷ [])
push_settings settings [] newest content have = have
push_settings settings (one ∷ older) newest content have = (have.0, push_settings settings older newest content have.1)

pub push_contents : (older : List Filed) (newest : Filed) (content : List ℕ) → all_contents (older ++ newest ∷ []) ++ content ∷ [] ≡ all_contents (older ++ with_more newest content ∷ [])
push_contents [] newest content =
    ap (λ (l : List (List ℕ)). l ++ content ∷ []) (append-nil newest.contents) ∙ sym (append-nil (newest.contents ++ content ∷ []))
push_contents (one ∷ older) newest content =
    append_assoc one.contents (all_contents (older ++ newest ∷ [])) (content ∷ []) ∙ ap (λ (l : List (List ℕ)). one.contents ++ l) (push_contents older newest content)

pub only_the_newest_is_written : OnlyTheNewestIsWritten
only_the_newest_is_written settings older newest files is have are content file (inl before) =
    inl (record {
      row = older ++ newest ∷ [];
      is_row = is;
      same_settings = have;
      all = refl;
      begun = files ++ file ∷ [];
      are = left-push older files newest file are before;
      behind = [];
      whole = sym (append-nil (files ++ file ∷ []));
      over = tt;
    })
only_the_newest_is_written settings older newest files is have are content file (inr after) =
    inr (record {
      row = older ++ with_more newest content ∷ [];
      is_row = push_row older newest content is;
      same_settings = push_settings settings older newest content have;
      all = push_contents older newest content;
      begun = files ++ file ∷ [];
      are = left-push older files (with_more newest content) file are after;
      behind = [];
      whole = sym (append-nil (files ++ file ∷ []));
      over = tt;
    })

front_row : (row : List Filed) (one : Filed) → IsRow (row ++ one ∷ []) → IsRow row
front_row [] one is = tt
front_row (a ∷ []) one is = (is.0, tt, tt)
front_row (a ∷ b ∷ row) one is = (is.0, is.1, front_row (b ∷ row) one is.2)

front_settings : (settings : List ℕ) (row : List Filed) (one : Filed) → HaveSettings settings (row ++ one ∷ []) → HaveSettings settings row
front_settings settings [] one have = tt
front_settings settings (a ∷ row) one have = (have.0, front_settings settings row one have.1)

pub begun_behind : BegunBehind
begun_behind settings row head files is have are file (inl unbegun) = record {
  row = row;
  is_row = front_row row (record { head = head; contents = [] }) is;
  same_settings = front_settings settings row (record { head = head; contents = [] }) have;
  all = refl;
  begun = files;
  are = are;
  behind = file ∷ [];
  whole = refl;
  over = unbegun;
}
begun_behind settings row head files is have are file (inr left) =
    let next : Filed = record { head = head; contents = [] } in
    record {
      row = row ++ next ∷ [];
      is_row = is;
      same_settings = have;
      all = sym (flat_map-append (λ (one : Filed). one.contents) row (next ∷ []) ∙ append-nil (all_contents row));
      begun = files ++ file ∷ [];
      are = left-push row files next file are left;
      behind = [];
      whole = sym (append-nil (files ++ file ∷ []));
      over = tt;
    }

-- ---- one segment more

continue_push : (one : Filed) (row : List Filed) (own next : Filed) → Continue one (row ++ own ∷ []) → Continue one ((row ++ own ∷ []) ++ next ∷ [])
continue_push one [] own next goes = goes
continue_push one (a ∷ row) own next goes = goes

pub row_push : (row : List Filed) (own next : Filed) → IsRow (row ++ own ∷ []) → IsNext own next.head → IsHead next.head → IsRow ((row ++ own ∷ []) ++ next ∷ [])
row_push [] own next is goes fits = (is.0, goes, (fits, tt, tt))
row_push (one ∷ row) own next is goes fits = (is.0, continue_push one row own next is.1, row_push row own next is.2 goes fits)

pub settings_push : (settings : List ℕ) (row : List Filed) (own next : Filed) → HaveSettings settings (row ++ own ∷ []) → next.head.settings ≡ own.head.settings → HaveSettings settings ((row ++ own ∷ []) ++ next ∷ [])
settings_push settings [] own next have same = (have.0, (same ∙ have.0, tt))
settings_push settings (one ∷ row) own next have same = (have.0, settings_push settings row own next have.1 same)
