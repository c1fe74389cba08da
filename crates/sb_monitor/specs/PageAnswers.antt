-- Promise: how the status port answers a request.
use Rattle.std.specs.Prelude.{◌≡◌, ◌⊎◌, ◌++◌, ◌<◌, ℕ, Bool, true, bytes_eq, codes, if◌then◌else◌, length, List, [], not, option_copied, Option, None, Some}
use Rattle.sb_tenant.specs.declared.bound.Bound.{Bound}
use Rattle.httparse.specs.Grammar.{HasNoRequest}
use Rattle.httparse.specs.Spans.{RequestOverflows}
use Rattle.sb_connection.specs.declared.first_line.SessionName.{SessionName}
use Rattle.sb_status.specs.Requests.{IsHeadOf, head_limit, header_limit}
use Rattle.sb_status.specs.Responses.{head_text}
use Rattle.sb_status.specs.declared.request.Request.{Request}
use Rattle.sb_status.specs.declared.response.ContentType.{ContentType}
use Rattle.sb_status.specs.declared.response.ContentType.TheVariants.{Text}
use Rattle.sb_status.specs.declared.response.Status.{Status}
use Rattle.sb_monitor.specs.PageAccess.{IsGuarded}
use Rattle.sb_monitor.specs.HttpRefusals.{misfit_of, status_of, words_of}
use Rattle.sb_monitor.specs.Pages.{Replies}
use Rattle.sb_monitor.specs.Senders.{IsSentBy, stranger_of}
use Rattle.sb_monitor.specs.Targets.{Aims, page_of, wants_key}
use Rattle.sb_monitor.specs.declared.http_outcome.TheConstants.{NOT_READY}
use Rattle.sb_monitor.specs.declared.sender.Sender.{Sender}
use Rattle.sb_monitor.specs.declared.target.Target.{Target}
use Rattle.sb_monitor.specs.declared.http_outcome.HttpRefusal.{HttpRefusal}
use Rattle.sb_monitor.specs.declared.http_outcome.HttpRefusal.TheVariants.{BadRequest, KeyWanted, TooLong}
use Rattle.sb_monitor.specs.declared.http_outcome.Outcome.{Outcome}
use Rattle.sb_monitor.specs.declared.http_outcome.Outcome.TheVariants.{NotReady, Refused, Shown}

-- ---- the bytes of an answer

-- a head, and behind it the body, which HEAD does without
abbrev pub answer_text : Status → ContentType → List ℕ → Bool → List ℕ
answer_text status kind body has_body = head_text status kind (length body) ++ (if has_body then body else [])

abbrev pub outcome_text : Outcome → Bool → List ℕ
outcome_text (Shown s) has_body = answer_text s.status s.kind s.body.items has_body
outcome_text (Refused why) has_body = answer_text (status_of why) Text (words_of why) has_body
outcome_text NotReady has_body = NOT_READY.now ++ (if has_body then codes "not yet\n" else [])

abbrev pub has_body : Request → Bool
has_body r = not (bytes_eq r.method.now (codes "HEAD"))

-- ---- what a request comes to

-- it doesn't fit its target; or a key is wanted
abbrev pub IsTurnedAway : Bool → Request → Target → HttpRefusal → Type 0
IsTurnedAway wants r target why =
    (misfit_of target r ≡ Some why) ⊎ ((misfit_of target r ≡ None) × (wants_key wants target ≡ true) × (why ≡ KeyWanted))

module _ (wants : Bool) (admits : ℕ → List ℕ → Type 0) (first tenants cells : ℕ) (bound : Bound) (told : ℕ → SessionName → Type 0) (asked : ℕ → ℕ → Type 0) (stopped : Type 0) (lets_in : Bool → Type 0) where
  -- a request that fits, and has the key of whom its target belongs to, is replied to
  abbrev pub IsLetIn : Request → Target → Outcome → Type 0
  IsLetIn r target outcome =
      (misfit_of target r ≡ None) × IsGuarded (wants_key wants target) admits (page_of target) (option_copied r.authorization)
      × Replies first tenants cells bound told asked stopped lets_in target outcome

  abbrev pub ComesTo : Request → Target → Outcome → Type 0
  ComesTo r target (Shown s) = IsLetIn r target (Shown s)
  ComesTo r target (Refused why) = IsTurnedAway wants r target why ⊎ IsLetIn r target (Refused why)
  ComesTo r target NotReady = IsLetIn r target NotReady

  -- one that comes from elsewhere is refused, and shown nothing; any other one comes to what its target names
  abbrev pub ComesFrom : Option HttpRefusal → Request → Outcome → Type 0
  ComesFrom (Some why) r outcome = outcome ≡ Refused why
  ComesFrom None r outcome = (target : Target) × Aims r.target.now target × ComesTo r target outcome

  -- the bytes are a request, and what it comes to, by who sends it, is answered
  abbrev pub AnswersRequest : List ℕ → List ℕ → Type 0
  AnswersRequest bytes answer =
      (r : Request) × IsHeadOf bytes r × (s : Sender) × IsSentBy bytes s × (outcome : Outcome) × ComesFrom (stranger_of s) r outcome
      × (answer ≡ outcome_text outcome (has_body r))

  -- they are too many, or not a request, and that is told; or they are one
  abbrev pub Answers : List ℕ → List ℕ → Type 0
  Answers bytes answer =
      ((head_limit < length bytes) × (answer ≡ outcome_text (Refused TooLong) true))
      ⊎ ((HasNoRequest bytes ⊎ RequestOverflows header_limit bytes) × (answer ≡ outcome_text (Refused BadRequest) true))
      ⊎ AnswersRequest bytes answer
