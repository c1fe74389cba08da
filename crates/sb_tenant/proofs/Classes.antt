use Rattle.std.proofs.Common.{◌≡◌, refl}
use Rattle.sb_syntax.specs.Views.{definition, transaction_command}
use Rattle.sb_syntax.specs.declared.tree.Definition.{Definition}
use Rattle.sb_syntax.specs.declared.tree.Definition.TheVariants as definitions
use Rattle.sb_syntax.specs.declared.tree.TransactionCommand.{TransactionCommand}
use Rattle.sb_syntax.specs.declared.tree.TransactionCommand.TheVariants as transactions
use Rattle.sb_tenant.specs.Resolved.{defines, works}
use Rattle.sb_tenant.specs.Walk.{class_of}

pub definitions_define : (d : Definition) → class_of (definition d) ≡ defines
definitions_define (definitions.CreateTable n columns) = refl
definitions_define (definitions.DropTable n) = refl
definitions_define (definitions.CreateRule r) = refl
definitions_define (definitions.AlterRule r) = refl
definitions_define (definitions.DropRule n) = refl
definitions_define (definitions.ActivateRule n) = refl
definitions_define (definitions.DeactivateRule n) = refl
definitions_define (definitions.CreateRuleset n) = refl
definitions_define (definitions.DropRuleset n) = refl
definitions_define (definitions.AddRules n rules) = refl
definitions_define (definitions.DelRules n rules) = refl

pub transaction_commands_work : (c : TransactionCommand) → class_of (transaction_command c) ≡ works
transaction_commands_work transactions.Commit = refl
transaction_commands_work transactions.Rollback = refl
transaction_commands_work transactions.ProcessRules = refl
transaction_commands_work (transactions.ProcessRuleset n) = refl
transaction_commands_work (transactions.ProcessRule n) = refl
transaction_commands_work (transactions.Query q) = refl
transaction_commands_work (transactions.Change c) = refl
