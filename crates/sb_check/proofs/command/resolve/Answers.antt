use Rattle.sb_syntax.specs.Views as view
use Rattle.sb_check.proofs.CommandFits.{answers_fit}
use Rattle.sb_check.proofs.SourceTypes.{has_types}
use Rattle.sb_check.proofs.command.resolve.Goals as goal

pub returns-clause-fits : goal.returns-clause-fits
returns-clause-fits g c = answers_fit (g.S.Schema.names c.args.schema.now) (view.command c.args.text.now) c.command.result c.command.ensures

pub returns-clause-types : goal.returns-clause-types
returns-clause-types g c = has_types (g.S.Schema.names c.args.schema.now).tables c.tells_columns.ensures
