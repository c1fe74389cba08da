use Rattle.std.proofs.Common.{subst, sym}
use Rattle.sb_postgres.specs.declared.query.kind.StatementKind.{StatementKind}
use Rattle.sb_frontend.specs.Outputs.{Says}
use Rattle.sb_frontend.specs.Stepless.{warnings}
use Rattle.sb_frontend.proofs.Stepless.{no_warnings}
use Rattle.sb_frontend.proofs.without.warn_of.Goals as goal

pub returns-in-Begin : goal.returns-in-Begin
returns-in-Begin c = subst (λ (kd : StatementKind). Says (warnings kd c.args.has c.args.own) c.args.out.now c.warn.new.out) (sym c.in-Begin.is) c.warn.ensures

pub returns-in-Commit : goal.returns-in-Commit
returns-in-Commit c = subst (λ (kd : StatementKind). Says (warnings kd c.args.has c.args.own) c.args.out.now c.warn_of_none.new.out) (sym c.in-Commit.is) c.warn_of_none.ensures

pub returns-in-Rollback : goal.returns-in-Rollback
returns-in-Rollback c = subst (λ (kd : StatementKind). Says (warnings kd c.args.has c.args.own) c.args.out.now c.warn_of_none-in-Rollback.new.out) (sym c.in-Rollback.is) c.warn_of_none-in-Rollback.ensures

pub returns-in_default : goal.returns-in_default
returns-in_default c = no_warnings c.args.kind c.args.has c.args.own c.args.out.now c.in_default.not-Begin c.in_default.not-Commit c.in_default.not-Rollback
