-- What a session leaves: its receipts, the last of which is an `end`.
use Rattle.std.proofs.Common.{◌≡◌, ◌∙◌, sym, ap, subst, refl, ℕ, Bool, true, false, ◌||◌, List, [], ◌∷◌, ◌++◌, append_assoc, append-nil, Option, Some, None, codes}
use Rattle.std.proofs.lemmas.Bool.{false≢true, and_parts}
use Rattle.sb_syntax.specs.Text.{command_of}
use Rattle.sb_tenant.specs.declared.reply.Reply.TheVariants as told
use Rattle.sb_tenant.specs.Closing.{closes, is_ok}
use Rattle.sb_desk.specs.declared.receipts.Receipt.{Receipt}
use Rattle.sb_desk.specs.Receipts.{list_by, numbered, receipt}
use Rattle.sb_connection.proofs.Talks.{by_cases}
use Rattle.sb_connection.specs.Exchanges.{AreCalls, AreReceipts, Exchange, IsCall, IsClosed, answered, closing_receipts, ends, has_ended, overlong, receipt_of, receipts_of, unbegun}

-- the line that closes a session
end_closes : closes (codes "end") told.Ok ≡ true
unfolding command_of
end_closes = refl

-- an exchange that ends the session has a receipt
ending : (e : Exchange) → IsCall e → ends e ≡ true → (r : Receipt) × (receipt_of e ≡ r ∷ []) × (closes r.line r.answer.reply ≡ true)
ending overlong call ended = absurd (false≢true ended)
ending (unbegun line) call ended = absurd (false≢true ended)
ending (answered line answer has) numbered ended = by_number answer.number refl
  where
    by_number : (n : Option ℕ) → answer.number ≡ n → (r : Receipt) × (list_by n [] line answer ≡ r ∷ []) × (closes r.line r.answer.reply ≡ true)
    by_number (Some n) is = (receipt line answer, refl, ended)
    by_number None is =
        let ok : is_ok answer.reply ≡ true = (and_parts _ _ ended).1 in
        absurd (false≢true (sym (ap is_ok (numbered.0 is)) ∙ ok))

ending_last : (es : List Exchange) → AreCalls es → has_ended es ≡ true → IsClosed (receipts_of es)
ending_last [] are ended = absurd (false≢true ended)
ending_last (e ∷ es) (call, last, others) ended = by_cases (ends e) now (λ is. later (ending_last es others (sym (ap (λ (b : Bool). b || has_ended es) is) ∙ ended)))
  where
    now : ends e ≡ true → IsClosed (receipts_of (e ∷ es))
    now is =
        let r = ending e call is in record {
          others = [];
          last = r.0;
          are = ap (λ (l : List Receipt). l ++ receipts_of es) r.1 ∙ ap (λ (l : List Exchange). r.0 ∷ receipts_of l) (last is);
          ends = r.2;
        }

    later : IsClosed (receipts_of es) → IsClosed (receipts_of (e ∷ es))
    later r = record {
      others = receipt_of e ++ r.others;
      last = r.last;
      are = ap (λ (l : List Receipt). receipt_of e ++ l) r.are ∙ sym (append_assoc (receipt_of e) r.others (r.last ∷ []));
      ends = r.ends;
    }

-- one more in front
closed_behind : (first : Receipt) (receipts : List Receipt) → IsClosed receipts → IsClosed (first ∷ receipts)
closed_behind first receipts closed = record { others = first ∷ closed.others; last = closed.last; are = ap (λ (l : List Receipt). first ∷ l) closed.are; ends = closed.ends }

-- the receipts of a session that was closed
module _ (opening : ℕ) (es : List Exchange) (calls : AreCalls es) (list items : List Receipt) (listed : list ≡ receipt (codes "open") (numbered opening told.Ok) ∷ receipts_of es) where
  abbrev opened : Receipt
  opened = receipt (codes "open") (numbered opening told.Ok)

  pub left_receipts : (b : Bool) → has_ended es ≡ b → (b ≡ true → items ≡ list) → (b ≡ false → (n : ℕ) × (items ≡ list ++ receipt (codes "end") (numbered n told.Ok) ∷ [])) → AreReceipts es items × IsClosed items
  left_receipts true ended same more =
      let are : items ≡ opened ∷ receipts_of es = same refl ∙ listed in (
        record { opening = opening; closing = 0; are = are ∙ ap (λ (l : List Receipt). opened ∷ l) (sym (append-nil (receipts_of es)) ∙ ap (λ (b : Bool). receipts_of es ++ closing_receipts b 0) (sym ended)) },
        subst IsClosed (sym are) (closed_behind opened (receipts_of es) (ending_last es calls ended)),
      )
  left_receipts false ended same more =
      let n = (more refl).0 in
      let last = receipt (codes "end") (numbered n told.Ok) in
      let are : items ≡ opened ∷ (receipts_of es ++ last ∷ []) = (more refl).1 ∙ ap (λ (l : List Receipt). l ++ last ∷ []) listed in (
        record { opening = opening; closing = n; are = are ∙ ap (λ (b : Bool). opened ∷ (receipts_of es ++ closing_receipts b n)) (sym ended) },
        record { others = opened ∷ receipts_of es; last = last; are = are; ends = end_closes },
      )
