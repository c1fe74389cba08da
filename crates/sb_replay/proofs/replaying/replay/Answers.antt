use Rattle.std.proofs.Common.{◌≡◌, ℕ, List, ◌++◌, IfSome, sym, ap, ◌∙◌, subst, append-nil}
use Rattle.std.specs.Io.KnownBytes.{Appends}
use Rattle.std.proofs.lemmas.Result.{on_ok_weaker}
use Rattle.sb_replay.specs.Scripts.{FailsToRead, HoldsScript}
use Rattle.std.proofs.KnownBytes.{Keeps-refl}
use Rattle.sb_replay.proofs.Faults.{not_written, unplayed_fails, unread_fails, unreported_fails}
use Rattle.sb_replay.specs.Replay.{Fails}
use Rattle.sb_replay.specs.declared.error.ReplayError.{ReplayError}
use Rattle.sb_replay.proofs.Whole.{and_appends, replays_known}
use Rattle.sb_replay.proofs.replaying.replay.Goals as goal

pub returns : goal.returns
returns g c =
    let input = g.R.Read.remaining c.args.reader.now in
    let before = g.W.Write.contents c.args.writer.now in
    let after = g.W.Write.contents c.write_out.new.writer in
    let rows = c.in-Ok.rows.items in
    let closed = c.in-Ok-play_all.closed in
    let text = c.in-Ok-finish.text.items in
    let script = subst (λ (n : ℕ). IfSome input (λ bytes. HoldsScript n bytes rows)) c.tenants.ensures c.in-Ok.ensures.ok in
    let replays = replays_known c.args.host g.N.Naming.bound input text rows closed.sheets.items closed.stubs.items c.steps_fix_the_order.ensures script c.in-Ok-play_all.ensures.ok c.in-Ok-finish.ensures.ok in
    let writes = c.write_out.ensures.writes in record {
      ok =
          on_ok_weaker c.write_out.result
          (λ none.
          let all : writes.0 ≡ text = sym (append-nil writes.0) ∙ ap (λ (l : List ℕ). writes.0 ++ l) (sym none) ∙ sym writes.2 ∙ c.as_slice.ensures.value in
          and_appends c.args.host g.N.Naming.bound input before after text replays (subst (Appends before after) all writes.3))
          writes.4;
      err =
          not_written c.write_out.result _ _ c.write_out.ensures.fault c.write_out.ensures.refused
          (λ refused. (text, writes.0, writes.1, replays, sym c.as_slice.ensures.value ∙ writes.2, writes.3, refused));
    }

pub returns-in-Err-play_all-clause-err : goal.returns-in-Err-play_all-clause-err
returns-in-Err-play_all-clause-err g c =
    unplayed_fails g.R.Source.fails g.R.Read.remaining g.W.Sink.refuses g.W.Write.contents c.args.host g.N.Naming.bound c.args.reader.now c.read_script.new.reader c.args.writer.now c.args.writer.now
    (Keeps-refl (g.W.Write.contents c.args.writer.now)) c.in-Err-play_all.error c.in-Err-play_all.ensures.err

pub returns-in-Err-finish-clause-err : goal.returns-in-Err-finish-clause-err
returns-in-Err-finish-clause-err g c =
    let input = g.R.Read.remaining c.args.reader.now in
    let closed = c.in-Ok-play_all.closed in
    let script = subst (λ (n : ℕ). IfSome input (λ bytes. HoldsScript n bytes c.in-Ok.rows.items)) c.tenants.ensures c.in-Ok.ensures.ok in
    unreported_fails g.R.Source.fails g.R.Read.remaining g.W.Sink.refuses g.W.Write.contents c.args.host g.N.Naming.bound c.args.reader.now c.read_script.new.reader c.args.writer.now c.args.writer.now
    (Keeps-refl (g.W.Write.contents c.args.writer.now)) c.in-Ok.rows.items closed.sheets.items closed.stubs.items c.in-Err-finish.error script c.in-Ok-play_all.ensures.ok c.in-Err-finish.ensures.err

pub returns-in-Err-clause-err : goal.returns-in-Err-clause-err
returns-in-Err-clause-err g c =
    let why = c.in-Err.ensures.err in
    subst (λ (e : ReplayError). Fails g.R.Source.fails g.R.Read.remaining g.W.Sink.refuses g.W.Write.contents c.args.host g.N.Naming.bound c.args.reader.now c.read_script.new.reader c.args.writer.now c.args.writer.now e) (sym c.unread.ensures)
    (unread_fails g.R.Source.fails g.R.Read.remaining g.W.Sink.refuses g.W.Write.contents c.args.host g.N.Naming.bound c.args.reader.now c.read_script.new.reader c.args.writer.now c.args.writer.now
    (Keeps-refl (g.W.Write.contents c.args.writer.now)) c.in-Err.error why.0 why.1
    (subst (λ (n : ℕ). FailsToRead g.R.Source.fails g.R.Read.remaining n why.0 c.read_script.new.reader c.in-Err.error) c.tenants.ensures why.2))
