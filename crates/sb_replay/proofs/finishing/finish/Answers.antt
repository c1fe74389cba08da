use Rattle.std.proofs.Common.{List, Vec, inr, subst}
use Rattle.std.specs.Global.{Global}
use Rattle.std.specs.List.{All}
use Rattle.sb_tenant.specs.declared.reply.Entry.{Entry}
use Rattle.sb_replay.specs.Replay.{DeniesOne, IsFullBy}
use Rattle.sb_replay.specs.Sheets.{Sheet}
use Rattle.sb_replay.proofs.finishing.finish.Goals as goal

pub returns-in-Err-check_full-clause-err : goal.returns-in-Err-check_full-clause-err
returns-in-Err-check_full-clause-err g c =
    inr (
      c.in-Ok.report,
      c.in-Ok.ensures,
      subst (λ (sheets : List Sheet). DeniesOne c.in-Ok.report.trails.items sheets c.in-Err-check_full.error) c.as_slice.ensures.value
          (subst (λ (trails : List (Vec Entry Global)). DeniesOne trails c.as_slice.result.now c.in-Err-check_full.error) c.as_slice-2.ensures.value c.in-Err-check_full.ensures.err),
    )

pub returns-in-Ok-text_of-clause-ok : goal.returns-in-Ok-text_of-clause-ok
returns-in-Ok-text_of-clause-ok g c = record {
  trails = c.in-Ok.report.trails.items;
  legal = c.in-Ok.ensures.0;
  agree = c.in-Ok.ensures.1;
  full = subst (λ (sheets : List Sheet). All (IsFullBy c.in-Ok.report.trails.items) sheets) c.as_slice.ensures.value (subst (λ (trails : List (Vec Entry Global)). All (IsFullBy trails) c.as_slice.result.now) c.as_slice-2.ensures.value c.in_default.ensures.ok);
  text_is = c.in-Ok-text_of.ensures;
}
