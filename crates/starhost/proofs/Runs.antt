-- What words ask for, and statuses.
use Rattle.std.proofs.Common.{◌≡◌, ◌≤◌, ℕ, List, length, Option, Result, Ok, Err, inl, inr, refl, subst, sym, arith, map}
use Rattle.std.proofs.lemmas.List.{length-map}
use Rattle.std.specs.Prelude.{IfErr, OnOk}
use Rattle.sb_words.specs.Words.{AskFor, AskOnce, IsAsked}
use Rattle.sb_words.specs.Requests.{Request, request_of}
use Rattle.sb_words.specs.declared.invocation.Invocation.{Invocation}
use Rattle.sb_words.specs.declared.words.Asked.{Asked}
use Rattle.sb_words.specs.declared.words.Asked.TheVariants.{For}
use Rattle.sb_backup.specs.declared.error.BackupError.{BackupError}
use Rattle.sb_durable.specs.declared.journal_fault.JournalFault.{JournalFault}
use Rattle.sb_keys.specs.declared.key_digest.DigestError.{DigestError}
use Rattle.sb_keys.specs.declared.key_digest.DigestError.TheVariants as digest
use Rattle.starhost.specs.Faults.{RefusesDigest, TellsEnd, as_backup, as_digest, as_journal}
use Rattle.starhost.specs.declared.fault.ProgramFault.{ProgramFault}
use Rattle.starhost.specs.declared.fault.ProgramFault.TheVariants.{Backup, Journal}

-- texts are as many as words
pub few_texts : {A B : Type 0} (f : A → B) (words : List A) → length words ≤ 1 → length (map f words) ≤ 1
few_texts f words few = subst (λ (n : ℕ). n ≤ 1) (sym (length-map words f)) few

-- what is read is what the words ask for
pub asked_for : (words : _) (a : Asked) (i : Invocation) → IsAsked words a → a ≡ For i → AskFor words (request_of i)
asked_for words a i h is = subst (IsAsked words) is h

-- and what else they ask for is the same
pub as_asked : AskOnce → (words : _) (P : Request → Type 0) (a : Asked) (i : Invocation) (q : Request) → IsAsked words a → a ≡ For i → AskFor words q → P (request_of i) → P q
as_asked once words P a i q h is asks holds = subst P (once words (request_of i) q (asked_for words a i h is) asks) holds

-- a command that is told as a success went well
module _ {E P : Type 0} (denies : E → Type 0) (told : E → Option (List ℕ)) (errors more : E) where
  pub went_well : (ended : Result (Unit {0}) ProgramFault) (n : ℕ) → TellsEnd denies told errors more ended n → n ≡ 0 → OnOk ended P → P
  went_well (Ok value) n tells none h = h
  went_well (Err why) n tells none h = absurd (let one = tells.0 in omega arith)

-- what sb_backup answered, as the program tells it
pub ok_backup : (P : Type 0) (own : Result (Unit {0}) BackupError) (ended : Result (Unit {0}) ProgramFault) → ended ≡ as_backup own → OnOk own P → OnOk ended P
ok_backup P own ended is holds = subst (λ (r : Result (Unit {0}) ProgramFault). OnOk r P) (sym is) (by own holds)
  where
    by : (r : Result (Unit {0}) BackupError) → OnOk r P → OnOk (as_backup r) P
    by (Ok value) h = h
    by (Err e) h = tt

pub err_backup : (P : BackupError → Type 0) (own : Result (Unit {0}) BackupError) (ended : Result (Unit {0}) ProgramFault) → ended ≡ as_backup own → IfErr own P
    → IfErr ended (λ why. (e : BackupError) × (why ≡ Backup e) × P e)
err_backup P own ended is holds =
    subst (λ (r : Result (Unit {0}) ProgramFault). IfErr r (λ why. (e : BackupError) × (why ≡ Backup e) × P e)) (sym is) (by own holds)
  where
    by : (r : Result (Unit {0}) BackupError) → IfErr r P → IfErr (as_backup r) (λ why. (e : BackupError) × (why ≡ Backup e) × P e)
    by (Ok value) h = tt
    by (Err e) h = (e, refl, h)

-- and what sb_durable answered
pub ok_journal : (P : Type 0) (own : Result (Unit {0}) JournalFault) (ended : Result (Unit {0}) ProgramFault) → ended ≡ as_journal own → OnOk own P → OnOk ended P
ok_journal P own ended is holds = subst (λ (r : Result (Unit {0}) ProgramFault). OnOk r P) (sym is) (by own holds)
  where
    by : (r : Result (Unit {0}) JournalFault) → OnOk r P → OnOk (as_journal r) P
    by (Ok value) h = h
    by (Err e) h = tt

pub err_journal : (P : JournalFault → Type 0) (own : Result (Unit {0}) JournalFault) (ended : Result (Unit {0}) ProgramFault) → ended ≡ as_journal own → IfErr own P
    → IfErr ended (λ why. (e : JournalFault) × (why ≡ Journal e) × P e)
err_journal P own ended is holds =
    subst (λ (r : Result (Unit {0}) ProgramFault). IfErr r (λ why. (e : JournalFault) × (why ≡ Journal e) × P e)) (sym is) (by own holds)
  where
    by : (r : Result (Unit {0}) JournalFault) → IfErr r P → IfErr (as_journal r) (λ why. (e : JournalFault) × (why ≡ Journal e) × P e)
    by (Ok value) h = tt
    by (Err e) h = (e, refl, h)

-- and what told a digest: a stream failed, or the line is no key
pub ok_digest : (P : Type 0) (own : Result (Unit {0}) DigestError) (ended : Result (Unit {0}) ProgramFault) → ended ≡ as_digest own → OnOk own P → OnOk ended P
ok_digest P own ended is holds = subst (λ (r : Result (Unit {0}) ProgramFault). OnOk r P) (sym is) (by own holds)
  where
    by : (r : Result (Unit {0}) DigestError) → OnOk r P → OnOk (as_digest r) P
    by (Ok value) h = h
    by (Err (digest.Stream e)) h = tt
    by (Err digest.BadKey) h = tt

pub err_digest : (own : Result (Unit {0}) DigestError) (ended : Result (Unit {0}) ProgramFault) → ended ≡ as_digest own → IfErr ended RefusesDigest
err_digest own ended is = subst (λ (r : Result (Unit {0}) ProgramFault). IfErr r RefusesDigest) (sym is) (by own)
  where
    by : (r : Result (Unit {0}) DigestError) → IfErr (as_digest r) RefusesDigest
    by (Ok value) = tt
    by (Err (digest.Stream e)) = inl (e, refl)
    by (Err digest.BadKey) = inr refl
