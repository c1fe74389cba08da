-- Records in batches.
use Rattle.std.proofs.Common.{◌≡◌, ◌⊎◌, ℕ, List, [], ◌∷◌, ◌++◌, length, refl, sym, ◌∙◌, ap, subst, inl, inr, arith, length-append, append_assoc}
use Rattle.std.proofs.lemmas.List.{append-nil}
use Rattle.sb_durable.specs.Blocks.{Stands, IsBeforeOrAfter}
use Rattle.sb_durable.specs.Records.{Entry, entry_bytes, bytes_of}
use Rattle.sb_durable.specs.Journal.{head_bytes, contents_of, all_of, Keeps}
use Rattle.sb_durable.specs.declared.journal_header.Head.{Head}

pub bytes-push : (entries : List Entry) (entry : Entry) → bytes_of (entries ++ entry ∷ []) ≡ bytes_of entries ++ entry_bytes entry
bytes-push [] entry = append-nil (entry_bytes entry)
bytes-push (e ∷ entries) entry = ap (λ (l : List ℕ). entry_bytes e ++ l) (bytes-push entries entry) ∙ sym (append_assoc (entry_bytes e) (bytes_of entries) (entry_bytes entry))

-- one record more is read
pub bytes_more : (batch : List ℕ) (read : List Entry) (entry : Entry) (left behind : List ℕ) → batch ≡ bytes_of read ++ left → left ≡ entry_bytes entry ++ behind → batch ≡ bytes_of (read ++ entry ∷ []) ++ behind
bytes_more batch read entry left behind is found =
    is ∙ ap (λ (l : List ℕ). bytes_of read ++ l) found ∙ sym (append_assoc (bytes_of read) (entry_bytes entry) behind) ∙ ap (λ (l : List ℕ). l ++ behind) (sym (bytes-push read entry))

pub none_waits : (waiting : List Entry) → bytes_of waiting ≡ [] → waiting ≡ []
none_waits [] none = refl
none_waits (e ∷ waiting) none = absurd (omega (arith, ap length none, length-append (entry_bytes e) (bytes_of waiting)))

pub contents-push : (batches : List (List Entry)) (batch : List Entry) → contents_of (batches ++ batch ∷ []) ≡ contents_of batches ++ bytes_of batch ∷ []
contents-push [] batch = refl
contents-push (b ∷ batches) batch = ap (λ (l : List (List ℕ)). bytes_of b ∷ l) (contents-push batches batch)

pub all-push : (batches : List (List Entry)) (batch : List Entry) → all_of (batches ++ batch ∷ []) ≡ all_of batches ++ batch
all-push [] batch = append-nil batch
all-push (b ∷ batches) batch = ap (λ (l : List Entry). b ++ l) (all-push batches batch) ∙ sym (append_assoc b (all_of batches) batch)

pub contents_more : (head : Head) (batches : List (List Entry)) (waiting : List Entry) (content : List ℕ) → content ≡ bytes_of waiting
    → (head_bytes head ∷ contents_of batches) ++ content ∷ [] ≡ head_bytes head ∷ contents_of (batches ++ waiting ∷ [])
contents_more head batches waiting content is =
    ap (λ (l : List (List ℕ)). head_bytes head ∷ l) (ap (λ (c : List ℕ). contents_of batches ++ c ∷ []) is ∙ sym (contents-push batches waiting))

pub all_more : (batches : List (List Entry)) (entries waiting : List Entry) → entries ≡ all_of batches → entries ++ waiting ≡ all_of (batches ++ waiting ∷ [])
all_more batches entries waiting all = ap (λ (l : List Entry). l ++ waiting) all ∙ sym (all-push batches waiting)

pub keeps_more : (head : Head) (batches : List (List Entry)) (entries waiting : List Entry) (content file : List ℕ) → entries ≡ all_of batches → content ≡ bytes_of waiting
    → IsBeforeOrAfter (head_bytes head ∷ contents_of batches) content file → Keeps head entries file ⊎ Keeps head (entries ++ waiting) file
keeps_more head batches entries waiting content file all is (inl before) = inl (record { batches = batches; stands = before.stands; all = all })
keeps_more head batches entries waiting content file all is (inr after) = inr (record {
  batches = batches ++ waiting ∷ [];
  stands = subst (λ (cs : List (List ℕ)). Stands cs file) (contents_more head batches waiting content is) after.stands;
  all = all_more batches entries waiting all;
})
