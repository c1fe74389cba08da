use Rattle.std.proofs.Common.{◌≡◌, ℕ, length, take}
use Rattle.sb_desk.specs.Receipts.{receipts_of}
use Rattle.sb_host.specs.Finish.{row_at}
use Rattle.sb_host.specs.Renewing.{receipt_count}
use Rattle.sb_host.proofs.volume_stubs.wanted_rows.Given as goal

-- the receipts that the entries so far want
abbrev pub invariant-loop-place : goal.invariant-loop-place
invariant-loop-place l = record {
  count : length l.rows.items ≡ 8;
  rows : (s : ℕ) → row_at l.rows.items s ≡ receipts_of s 1 (take l.place l.trail);
  parts : receipt_count l.rows.items ≡ l.place;
}
