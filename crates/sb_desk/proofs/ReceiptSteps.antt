-- One receipt more, and the answer of the last one.
use Rattle.std.proofs.Common.{◌≡◌, Bool, ℕ, zero, suc, ◌+◌, true, List, [], ◌∷◌, ◌++◌, length, get_or, Some, None, refl, sym, ap, ◌∙◌, arith}
use Rattle.sb_tenant.specs.declared.reply.Answer.{Answer}
use Rattle.sb_tenant.specs.Closing.{closes}
use Rattle.sb_desk.specs.declared.receipts.Receipt.{Receipt}
use Rattle.sb_desk.specs.Receipts.{Receipts, after, last_of, list_by, receipt}

-- after one more receipt it is that one's
pub last_of-push : (rs : List Receipt) (r : Receipt) → last_of (rs ++ r ∷ []) ≡ Some r.answer
last_of-push [] r = refl
last_of-push (x ∷ []) r = refl
last_of-push (x ∷ y ∷ rs) r = last_of-push (y ∷ rs) r

-- it stands at the last place
pub last_of-at : (rs : List Receipt) (i : ℕ) (d : Receipt) → i + 1 ≡ length rs → last_of rs ≡ Some (get_or rs i d).answer
last_of-at [] i d h = absurd (omega arith)
last_of-at (x ∷ []) zero d h = refl
last_of-at (x ∷ []) (suc i) d h = absurd (omega arith)
last_of-at (x ∷ y ∷ rs) zero d h = absurd (omega arith)
last_of-at (x ∷ y ∷ rs) (suc i) d h = last_of-at (y ∷ rs) i d (omega arith)

-- a receipt more, and the session has ended: that is a call whose line closes it
pub after_closing : (r noted closed : Receipts) (line : List ℕ) (a : Answer) (has : Bool) (n : ℕ) → a.number ≡ Some n → closes line a.reply ≡ true →
    noted ≡ record { tenant = r.tenant; session = r.session; list = r.list ++ receipt line a ∷ []; ended = r.ended; has_transaction = has; ready = None; last = Some a } →
    closed ≡ record { tenant = noted.tenant; session = noted.session; list = noted.list; ended = true; has_transaction = noted.has_transaction; ready = noted.ready; last = noted.last } →
    closed ≡ after r line a has
after_closing r noted closed line a has n numbered closing note close =
    close
    ∙ ap (λ (x : Receipts). record { tenant = x.tenant; session = x.session; list = x.list; ended = true; has_transaction = x.has_transaction; ready = x.ready; last = x.last }) note
    ∙ (λ i. record { tenant = r.tenant; session = r.session; list = list_by (sym numbered i) r.list line a; ended = sym closing i; has_transaction = has; ready = None; last = Some a })
