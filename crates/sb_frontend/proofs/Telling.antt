-- A reply is told by its kind.
use Rattle.std.proofs.Common.{◌≡◌, ℕ, Bool, true, List, [], ◌∷◌, ◌++◌, Option, Some, Result, Ok, Err, refl, sym, ap, ◌∙◌, subst, inl}
use Rattle.std.proofs.lemmas.List.{append_assoc}
use Rattle.std.specs.Prelude.{IfOk, MatchResult, OnOk}
use Rattle.std.specs.declared.alloc.AllocError.{AllocError}
use Rattle.sb_value.specs.declared.refusal.Refusal.{Refusal}
use Rattle.sb_value.specs.declared.value.Value.{Value}
use Rattle.sb_postgres.specs.declared.query.kind.StatementKind.{StatementKind}
use Rattle.sb_postgres.specs.Answers.{Answered}
use Rattle.sb_postgres.specs.declared.told.tag.Effect.{Effect}
use Rattle.sb_postgres.specs.Kinds.{kind_of}
use Rattle.sb_postgres.specs.SqlStates.{state_of}
use Rattle.sb_postgres.specs.Tags.{tag_of}
use Rattle.sb_postgres.specs.Wordings.{message_of}
use Rattle.sb_frontend.specs.declared.report.Report.{Report}
use Rattle.sb_frontend.specs.declared.form.Form.{Form}
use Rattle.sb_frontend.specs.Columns.{heads}
use Rattle.sb_frontend.specs.Outputs.{Outgoing, Says, SaysSome, Tells, TellsSome, written}
use Rattle.sb_frontend.specs.Reports.{reported}
use Rattle.sb_frontend.specs.Replies.{Replied}
use Rattle.sb_frontend.specs.Rows.{RowsTold}
use Rattle.sb_frontend.specs.Tellings.{AreColumns, IsMessageOf, Refuses, TellsOwn, TellsReply, TellsRows, reply_tag}
use Rattle.sb_frontend.proofs.Saying.{fails-as, fails-reported, says-some, some-failed, written-append}

-- ---- by the reply

pub as-reply : (form : Form) (kind : StatementKind) (bytes : List ℕ) (r is : Replied) (old new : Outgoing) → r ≡ is → TellsSome (TellsReply form kind is) (reply_tag kind bytes is) old new
    → TellsSome (TellsReply form kind r) (reply_tag kind bytes r) old new
as-reply form kind bytes r is old new e h = subst (λ (t : Replied). TellsSome (TellsReply form kind t) (reply_tag kind bytes t) old new) (sym e) h

pub as-own : (r is : Replied) (old new : Outgoing) → r ≡ is → SaysSome (TellsOwn is) old new → SaysSome (TellsOwn r) old new
as-own r is old new e h = subst (λ (t : Replied). SaysSome (TellsOwn t) old new) (sym e) h

pub of-line : (bytes line : List ℕ) (effect : Effect) (old new : Outgoing) → bytes ≡ line → Tells [] (Some (tag_of (kind_of bytes) bytes effect)) old new → Tells [] (Some (tag_of (kind_of line) line effect)) old new
of-line bytes line effect old new e t = subst (λ (l : List ℕ). Tells [] (Some (tag_of (kind_of l) l effect)) old new) e t

-- ---- refusals

pub message-pushed : (r : Refusal) (about : Option (List ℕ)) (old new : List ℕ) → old ≡ [] → new ≡ old ++ message_of r about → IsMessageOf r new
message-pushed r about old new none e = inl (about, e ∙ ap (λ (t : List ℕ). t ++ message_of r about) none)

pub pushes-message : (made : Result (Unit {0}) AllocError) (r : Refusal) (about : Option (List ℕ)) (old new : List ℕ) → old ≡ [] → OnOk made (new ≡ old ++ message_of r about) → OnOk made (IsMessageOf r new)
pushes-message (Ok u) r about old new none e = message-pushed r about old new none e
pushes-message (Err x) r about old new none e = tt

pub made-refuses : (made : Result Report AllocError) (d : Bool) (r : Refusal) (old new : Outgoing) → IfOk made (λ (t : Report). (t.state ≡ state_of d r) × IsMessageOf r t.message.items)
    → MatchResult made (λ t. Says (reported t ∷ []) old new) (λ _. new ≡ record old { failed = true }) → SaysSome (Refuses d r) old new
made-refuses (Ok t) d r old new is says =
    says-some (Refuses d r) (reported t ∷ []) old new (t.message.items, is.1, fails-as t (state_of d r) t.message.items (reported t ∷ []) is.0 refl (fails-reported t)) says
made-refuses (Err e) d r old new is failed = some-failed (Refuses d r) old new failed

-- ---- rows

pub rows-told : (form : Form) (rows : List (List Value)) (old mid new : Outgoing) → SaysSome (AreColumns form) old mid → SaysSome (RowsTold rows) mid new → SaysSome (TellsRows form rows) old new
rows-told form rows old mid new one two = (
  two.0 ∙ one.0,
  λ well.
      let h = two.1 well in
      let g = one.1 h.0 in
      let whole : new.bytes ≡ old.bytes ++ written (g.1 ++ h.1) =
      h.3 ∙ ap (λ t. t ++ written h.1) g.3 ∙ append_assoc old.bytes (written g.1) (written h.1) ∙ ap (λ t. old.bytes ++ t) (sym (written-append g.1 h.1)) in
      (g.0, g.1 ++ h.1, (g.2.0, λ range. ap (λ (ms : List Answered). ms ++ h.1) g.2.1 ∙ ap (λ (ms : List Answered). heads form g.2.0 ++ ms) (h.2 range)), whole),
)
