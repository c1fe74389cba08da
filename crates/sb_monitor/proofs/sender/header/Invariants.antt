use Rattle.std.proofs.Common.{ℕ, List, drop, Option, map}
use Rattle.httparse.specs.Spans.{header_bytes}
use Rattle.sb_status.specs.Requests.{HasFirst}
use Rattle.sb_monitor.proofs.sender.header.Given as goal

-- what is first of the others is first of all
abbrev pub invariant-loop-header : goal.invariant-loop-header
invariant-loop-header l =
    (value : Option (List ℕ))
    → HasFirst l.wanted (map (header_bytes l.bytes) (drop l.header-index l.headers)) value
    → HasFirst l.wanted (map (header_bytes l.bytes) l.headers) value
