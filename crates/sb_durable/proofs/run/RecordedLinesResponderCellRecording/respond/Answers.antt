use Rattle.std.proofs.Common.{◌≡◌, ◌++◌, ◌∷◌, List, [], ℕ, Option, false, is_some, sym, ap, ◌∙◌, subst, inl, refl, append-nil, option_map}
use Rattle.std.proofs.lemmas.Result.{on_ok_weaker}
use Rattle.sqlite_disk.specs.declared.Disk.{Ghosts}
use Rattle.sb_cell.specs.Tenants.{Cell}
use Rattle.sb_durable.specs.Journal.{Has}
use Rattle.sb_durable.specs.Recorded.{Responds}
use Rattle.sb_durable.specs.Records.{Entry}
use Rattle.sb_durable.specs.declared.run.Recording.{Recording}
use Rattle.sb_wire.specs.Counts.{Response, line_refusal, response_text}
use Rattle.sb_wire.specs.Lines.{Addressed, Piece, addressed_of}
use Rattle.sb_wire.specs.Output.{prefixed}
use Rattle.sb_wire.specs.Seen.{addressed_seen, piece_seen, refusal_line}
use Rattle.sb_wire.specs.declared.refusal.WireRefusal.{WireRefusal}
use Rattle.sb_wire.specs.declared.refusal.WireRefusal.TheVariants.{TooLong, BadLine}
use Rattle.sb_durable.specs.Runs.{IsRespondedBy, IsResponse}
use Rattle.sb_durable.proofs.run.RecordedLinesResponderCellRecording.respond.Goals as goal

-- a line that is refused makes no step, and nothing is recorded
refused : {D : Type 0} {g : Ghosts D} (seen : D → List ℕ) (may_leave : D → List ℕ → Type 0) (cell : Cell) (recording : Recording D g) (piece : Piece) (refusal : WireRefusal) →
    IsResponse piece (line_refusal refusal) → is_some recording.fault ≡ false →
    Responds seen may_leave (cell, recording) piece (response_text (line_refusal refusal)) (cell, recording)
refused seen may_leave cell recording piece refusal is goes = (
  (refl, refl, refl, refl),
  inl (
    line_refusal refusal,
    is,
    record {
      told = refl;
      makes = refl;
      adds = λ head records has. (tt, subst (λ (rs : List Entry). Has seen may_leave recording.journal head rs []) (sym (append-nil records)) has);
      goes = goes;
    },
  ),
)

pub returns-in-TooLong : goal.returns-in-TooLong
returns-in-TooLong g c = (
  response_text (line_refusal TooLong),
  refused g.D.Disk.seen g.D.Disk.may_leave c.args.first.now c.args.second.now (piece_seen c.args.piece) TooLong
      (subst (λ (p : Piece). IsResponse p (line_refusal TooLong)) (ap piece_seen (sym c.in-TooLong.is)) refl) c.requires,
  on_ok_weaker c.write_refusal.result (λ is. is ∙ (λ i. c.args.out.now.items ++ prefixed (c.none.ensures i) (refusal_line TooLong ∷ []))) c.write_refusal.ensures.ok,
  c.write_refusal.ensures.err,
)

pub returns-in-None : goal.returns-in-None
returns-in-None g c =
    let unaddressed = subst (λ (a : Option Addressed). IsRespondedBy a (line_refusal BadLine)) (ap (option_map addressed_seen) (sym c.in-None.is) ∙ c.split.ensures) refl in (
      response_text (line_refusal BadLine),
      refused g.D.Disk.seen g.D.Disk.may_leave c.args.first.now c.args.second.now (piece_seen c.args.piece) BadLine
          (subst (λ (p : Piece). IsResponse p (line_refusal BadLine)) (ap piece_seen (sym c.in-Line.is)) unaddressed) c.requires,
      on_ok_weaker c.write_refusal-in-None.result (λ is. is ∙ (λ i. c.args.out.now.items ++ prefixed (c.none-in-None.ensures i) (refusal_line BadLine ∷ []))) c.write_refusal-in-None.ensures.ok,
      c.write_refusal-in-None.ensures.err,
    )
