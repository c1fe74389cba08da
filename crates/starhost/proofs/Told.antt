-- A line that is told, and one behind it; and what a summary has counted from nothing.
use Rattle.std.proofs.Common.{◌≡◌, ◌∙◌, ◌⊎◌, ◌++◌, ℕ, List, [], Option, Result, Ok, Err, inl, inr, sym, ap, subst, append_assoc, append-nil, arith}
use Rattle.std.specs.Prelude.{OnOk}
use Rattle.std.specs.Io.KnownBytes.{Appends, Keeps}
use Rattle.std.proofs.KnownBytes.{Appends-trans}
use Rattle.sb_tenant.specs.declared.bound.Bound.{Bound}
use Rattle.sb_cell.specs.Tenants.{IsNew, Cell as ItsCell}
use Rattle.sb_wire.specs.Counts.{Counts, IsSummary, Summarizes}
use Rattle.sb_wire.specs.Lines.{Piece}
use Rattle.sb_wire.specs.Stream.{EndsBy, MayFail, OnWriteFault, Streams}
use Rattle.sb_wire.specs.declared.fault.StreamError.{StreamError}
use Rattle.sb_wire.specs.declared.fault.StreamError.TheVariants.{NoMemory}
use Rattle.sb_wire.specs.declared.summary.Summary.{Summary}
use Rattle.starhost.specs.Commands.{GoesFresh, Tells, status_of}

module _ {W : Type 0} (refuses : W → Type 0) (contents : W → Option (List ℕ)) where
  -- the line is written, and the other is told
  pub tells-both : (old mid new : W) (line written left other : List ℕ) → line ≡ written ++ left → Appends (contents old) (contents mid) written → left ≡ []
      → Tells refuses contents mid new other → Tells refuses contents old new (line ++ other)
  tells-both old mid new line written left other is appends none told =
      let whole : line ≡ written = is ∙ ap (λ (t : List ℕ). written ++ t) none ∙ append-nil written in (
        written ++ told.0,
        told.1,
        ap (λ (t : List ℕ). t ++ other) whole ∙ ap (λ (t : List ℕ). written ++ t) told.2 ∙ sym (append_assoc written told.0 told.1),
        Appends-trans (contents old) (contents mid) (contents new) written told.0 appends told.3,
        told.4,
      )

  -- the line can't be written as a whole
  pub tells-part : (old new : W) (line written left other : List ℕ) → line ≡ written ++ left → Appends (contents old) (contents new) written → MayFail refuses contents new
      → Tells refuses contents old new (line ++ other)
  tells-part old new line written left other is appends fails =
      (written, left ++ other, ap (λ (t : List ℕ). t ++ other) is ∙ append_assoc written left other, appends, inr fails)

-- a status of 0 is a success
pub at_success : {P : Type 0} (ended : Result (Unit {0}) StreamError) → status_of ended ≡ 0 → OnOk ended P → P
at_success (Ok value) zero holds = holds
at_success (Err error) zero holds = absurd (omega arith)

pub summarizes : (lines : List Piece) (text : List ℕ) (old new : Summary) → IsSummary [] old → Counts lines text old new → Summarizes lines text new
summarizes lines text old new none counts =
    record { responses = counts.responses; each = counts.each; whole = counts.whole; is = counts.adds.behind [] none }

-- a stream on a fresh cell, with a summary from nothing
pub goes-fresh : {R W : Type 0} (fails : R → Type 0) (remaining : R → Option (List ℕ)) (refuses : W → Type 0) (contents : W → Option (List ℕ)) (tenants : ℕ) (bound : Bound)
    (reader rest : R) (writer after : W) (ended : Result (Unit {0}) StreamError) (none summary : Summary) → IsSummary [] none
    → (((ended ≡ Err NoMemory) × Keeps (remaining reader) (remaining rest) × Keeps (contents writer) (contents after) × (summary ≡ none))
    ⊎ ((old new : ItsCell) × IsNew 0 1 tenants bound old
    × (s : Streams old (remaining reader) (contents writer) new (remaining rest) (contents after))
    × EndsBy fails remaining rest s.seen s.pieces s.left ended × Counts s.pieces s.replies.text none summary))
    → OnWriteFault ended (MayFail refuses contents after) → GoesFresh fails remaining refuses contents tenants bound reader rest writer after ended summary
goes-fresh fails remaining refuses contents tenants bound reader rest writer after ended none summary start (inl (short, input, output, same)) refused =
    (inl (short, input, output, subst (IsSummary []) (sym same) start), refused)
goes-fresh fails remaining refuses contents tenants bound reader rest writer after ended none summary start (inr (old, new, fresh, s, ends, counts)) refused =
    (inr (old, new, fresh, s, ends, summarizes s.pieces s.replies.text none summary start counts), refused)
