use Rattle.std.proofs.Common.{◌≡◌, ◌⊎◌, ℕ, List, Some, None, map, inl, inr, refl, subst}
use Rattle.sb_words.specs.Words.{AskFor, IsAsked}
use Rattle.sb_words.specs.Requests.{Request, dump, folder, fresh, journal, key, parse, replay, request_of, run, serve}
use Rattle.starhost.specs.Reads.{Succeeds}
use Rattle.starhost.proofs.Runs.{as_asked, asked_for, few_texts}
use Rattle.starhost.proofs.program.command.Goals as goal

-- ---- what words ask for is answered, and they ask for nothing else

pub returns-in-Ok-For : goal.returns-in-Ok-For
returns-in-Ok-For g c =
    let b = c.in-Ok-For in
    let words = map g.S.AsStr.text c.args.words.now in
    let Has : Request → Type 0 = Succeeds g.R.Read.remaining g.W.Write.contents c.args.reader.now c.answer.new.reader c.args.writer.now c.answer.new.writer in
    let has : (q : Request) → AskFor words q → c.answer.result ≡ 0 → Has q = λ q asks ok.
    as_asked c.words_ask_once.ensures.once words Has b.field-0 b.asked q b.ensures.asked b.field-0-is asks (c.answer.ensures.succeeds ok) in
    record {
      runs = λ r. has (run r fresh);
      usual = λ few. has (run (record { tenants = 16; bound = 1000; work = None }) fresh) (c.words_ask_once.ensures.usual words (few_texts g.S.AsStr.text c.args.words.now few));
      loads = λ r path. has (run r (folder path));
      records = λ r path syncs. has (run r (journal path syncs));
      serves = λ s begins dump_to keys. has (serve s begins dump_to keys);
      replays = λ h. has (replay h);
      parses = has parse;
      dumps = λ d. has (dump d None);
      dumps_all = λ d path. has (dump d (Some path));
      digests = has key;
      asked = inl (request_of b.asked, asked_for words b.field-0 b.asked b.ensures.asked b.field-0-is, c.answer.ensures.goes);
    }

-- ---- questions, and words that are refused

pub returns-in-Ok-Help-clause-usual : goal.returns-in-Ok-Help-clause-usual
returns-in-Ok-Help-clause-usual g c = λ few ok. let words = map g.S.AsStr.text c.args.words.now in absurd (c.words_ask_once.ensures.one_thing words _ (c.words_ask_once.ensures.usual words (few_texts g.S.AsStr.text c.args.words.now few)) _ (rw c.in-Ok-Help.field-0-is at c.in-Ok-Help.ensures.asked))

pub returns-in-Ok-Help-clause-asked : goal.returns-in-Ok-Help-clause-asked
returns-in-Ok-Help-clause-asked g c = elim c.show_help.ensures [
  | inl shown ↦ inr (inl (rw c.in-Ok-Help.field-0-is at c.in-Ok-Help.ensures.asked, refl, shown))
  | inr short ↦ inr (inr (inr (inr (inr (inr (short.0, refl, short.1, short.2))))))
]

pub returns-in-Ok-Version-clause-usual : goal.returns-in-Ok-Version-clause-usual
returns-in-Ok-Version-clause-usual g c = λ few ok. let words = map g.S.AsStr.text c.args.words.now in absurd (c.words_ask_once.ensures.one_thing words _ (c.words_ask_once.ensures.usual words (few_texts g.S.AsStr.text c.args.words.now few)) _ (rw c.in-Ok-Version.field-0-is at c.in-Ok-Version.ensures.asked))

pub returns-in-Ok-Version-clause-asked : goal.returns-in-Ok-Version-clause-asked
returns-in-Ok-Version-clause-asked g c = inr (inr (inl (rw c.in-Ok-Version.field-0-is at c.in-Ok-Version.ensures.asked, refl, c.show.ensures)))

-- why words are refused, or no memory for the line
module _ {A B C : Type 0} (asked : A) (n : ℕ) {R W Told : Type 0} (reader : R) (writer : W) where
  refused : (n ≡ 2) ⊎ ((n ≡ 1) × Told)
      → (A × (n ≡ 2) × (reader ≡ reader) × (writer ≡ writer)) ⊎ (B ⊎ (C ⊎ ((n ≡ 1) × (reader ≡ reader) × (writer ≡ writer) × Told)))
  refused (inl two) = inl (asked, two, refl, refl)
  refused (inr one) = inr (inr (inr (one.0, refl, refl, one.1)))

pub returns-in-Ok-Refused-clause-asked : goal.returns-in-Ok-Refused-clause-asked
returns-in-Ok-Refused-clause-asked g c =
    inr (inr (inr (
    refused (subst (IsAsked (map g.S.AsStr.text c.args.words.now)) c.in-Ok-Refused.field-0-is c.in-Ok-Refused.ensures.asked) c.refuse.result c.args.reader.now c.args.writer.now c.refuse.ensures
    )))

pub returns-in-Ok-NotAllowed-clause-asked : goal.returns-in-Ok-NotAllowed-clause-asked
returns-in-Ok-NotAllowed-clause-asked g c =
    let unfit = c.in-Ok-NotAllowed.unfit in
    let has = subst (IsAsked (map g.S.AsStr.text c.args.words.now)) c.in-Ok-NotAllowed.field-0-is c.in-Ok-NotAllowed.ensures.asked in
    inr (inr (inr (inr (
    elim c.refuse_part.ensures [ inl said ↦ inl (unfit, has, said.0, refl, refl, said.1) | inr short ↦ inr (inr (short.0, refl, refl, short.1)) ]
    ))))

pub returns-in-Ok-Misplaced-clause-asked : goal.returns-in-Ok-Misplaced-clause-asked
returns-in-Ok-Misplaced-clause-asked g c =
    let unfit = c.in-Ok-Misplaced.unfit in
    let has = subst (IsAsked (map g.S.AsStr.text c.args.words.now)) c.in-Ok-Misplaced.field-0-is c.in-Ok-Misplaced.ensures.asked in
    inr (inr (inr (inr (inr (
    elim c.refuse_misplaced.ensures [ inl said ↦ inl (unfit, has, said.0, refl, refl, said.1) | inr short ↦ inr (short.0, refl, refl, short.1) ]
    )))))

pub returns-in-Err-clause-asked : goal.returns-in-Err-clause-asked
returns-in-Err-clause-asked g c = inr (inr (inr (inr (inr (inr (c.fault.ensures.status, refl, refl, c.fault.ensures.tells))))))
