use Rattle.std.proofs.Common.{refl, ap, ◌∙◌}
use Rattle.std.proofs.lemmas.Str.Ascii.{trim_ascii_is}
use Rattle.sb_keys.specs.Text.{trimmed}
use Rattle.sb_keys.proofs.line.said.Goals as goal

pub returns : goal.returns
returns c = trim_ascii_is c.at.result.before.now _ _ refl c.trim_ascii.ensures.value ∙ ap trimmed c.at.ensures.before
