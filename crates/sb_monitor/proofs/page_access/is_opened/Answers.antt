use Rattle.std.proofs.Common.{List, ℕ, Option, ap, subst}
use Rattle.std.specs.Prelude.{MatchOption, option_copied}
use Rattle.sb_status.specs.Requests.{AreSent}
use Rattle.sb_status.specs.declared.credentials.Credentials.{Credentials}
use Rattle.sb_monitor.proofs.page_access.is_opened.Goals as goal

-- the header's value is what was read
pub returns-in-Some-2 : goal.returns-in-Some-2
returns-in-Some-2 g c = λ opened.
    let value = c.in-Some.value.now in
    let own = c.in-Some-2.credentials in
    let sent = subst (λ (f : Option Credentials). MatchOption f ((text : List ℕ) (colon : ℕ) → AreSent value text colon → ⊥) (λ (k : Credentials). AreSent value k.text.items k.colon)) c.in-Some-2.is c.in_ok-credentials.ensures in
    (value, own.text.items, own.colon, ap option_copied c.in-Some.is, sent, c.admits.ensures opened)
