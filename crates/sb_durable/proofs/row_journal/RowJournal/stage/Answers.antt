use Rattle.std.proofs.Common.{◌++◌, List, ℕ, ap, sym, ◌∙◌, rules}
use Rattle.sb_durable.specs.Records.{entry_bytes, entry_of}
use Rattle.sb_durable.proofs.Batches.{bytes-push}
use Rattle.sb_durable.proofs.row_journal.RowJournal.stage.Goals as goal

pub returns-clause-ok : goal.returns-clause-ok
returns-clause-ok g c head older entries waiting has =
    let more = ap (λ (l : List ℕ). l ++ entry_bytes (entry_of c.args.line)) has.waits ∙ sym (bytes-push waiting (entry_of c.args.line)) in
    record { contents = has.contents; newest = has.newest; row = has.row; settings = has.settings; batches = has.batches; bytes = has.bytes; all = has.all; waits = search (rules, more) }
