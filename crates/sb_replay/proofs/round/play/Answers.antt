use Rattle.std.proofs.Common.{◌≡◌, ℕ, subst, arith}
use Rattle.std.specs.List.{AllZip}
use Rattle.sb_replay.specs.Parts.{MovesIn}
use Rattle.sb_replay.proofs.Playing.{no_round, round_more}
use Rattle.sb_replay.proofs.round.play.Goals as goal

pub loop-round-init : goal.loop-round-init
loop-round-init g c = no_round c.args.parts.items

pub loop-round-preserved : goal.loop-round-preserved
loop-round-preserved g c = round_more c.loop-round._round c.args.parts.items c.loop-round.playing.items c.in_ok-playing.playing.items c.loop-round.invariant c.in_ok-playing.ensures

pub returns : goal.returns
returns g c =
    let at = c.loop-round in
    let all : at._round ≡ c.args.rounds = omega arith in
    subst (λ (n : ℕ). AllZip (MovesIn n) c.args.parts.items at.playing.items) all at.invariant
