use Rattle.std.proofs.Common.{◌≤◌, take}
use Rattle.sb_desk.specs.Receipts.{receipts_of}
use Rattle.sb_host.specs.Comparing.{IsSeen}
use Rattle.sb_host.proofs.comparing.compare.Given as goal

-- the entries so far were seen
abbrev pub invariant-loop-place : goal.invariant-loop-place
invariant-loop-place l = record {
  seen : IsSeen l.receipts (receipts_of l.session 1 (take l.place l.trail)) l.seen;
  few : l.seen.count ≤ l.place;
}
