use Rattle.std.proofs.Common.{◌∙◌, ◌&&◌, nat_lt, Bool, List, ap, subst, sym, refl}
use Rattle.sb_value.specs.declared.id.Who.{Who}
use Rattle.sb_value.specs.declared.lock.LockMode.TheVariants.{Write}
use Rattle.sb_value.specs.Table.{after_all}
use Rattle.sb_rawlog.specs.Sessions.{changes_by}
use Rattle.sb_locks.specs.Held.{held}
use Rattle.sb_tables.specs.Held.{Held, entries}
use Rattle.sb_process.specs.Made.{AreNumbered, AreStored, EachBelow}
use Rattle.sb_process.specs.Represents.{is_written}
use Rattle.sb_process.proofs.Making.{entries-made}
use Rattle.sb_process.proofs.Settling.{same_released, sound-made}
use Rattle.sb_process.proofs.Settled.{same-settled}
use Rattle.sb_process.proofs.Sharing.{entries-settled, numbered-settled, stored-settled}
use Rattle.sb_process.proofs.database.Database.commit.Goals as goal

pub returns-clause-kept : goal.returns-clause-kept
returns-clause-kept g c = λ origin setting progress r.
    let old : List Held = c.args.self.now.tables in
    let session = c.args.session in
    let sound = sound-made c.changes_keep_places.ensures origin progress.changes old r.made in
    let done = c.settle_all.ensures sound.0 in
    let written = is_written (held c.args.self.now.locks) session in
    record {
      id = refl;
      none = ap (λ (w : Who). changes_by w (g.L.ChangeLog.records c.forget.new.self)) (sym c.who-who.ensures) ∙ c.forget.ensures.own;
      tables = ap entries done ∙ entries-settled written old ∙ entries-made origin progress.changes old r.made ∙ ap (after_all progress.changes) r.base;
      made = record {
        numbered = subst AreNumbered (sym done) (numbered-settled written old sound.0);
        stored = subst AreStored (sym done) (stored-settled written old sound.1);
        proper = tt;
        made = refl;
      };
      settled = done ∙ same-settled written (is_written progress.locks session) (λ t. ap (λ (b : Bool). nat_lt t 16 && b) (r.locks session t Write)) old;
      locks = λ s t m. c.release.ensures s t m ∙ same_released _ progress.locks session r.locks s t m;
      sessions = λ s o other. (refl, refl, refl);
    }

pub returns-clause-numbers : goal.returns-clause-numbers
returns-clause-numbers g c = λ n h.
    let t = c.requires in
    let old : List Held = c.args.self.now.tables in
    let sound = sound-made c.changes_keep_places.ensures t.0 (t.2).changes old t.3.made in
    subst (EachBelow n) (sym (ap entries (c.settle_all.ensures sound.0) ∙ entries-settled (is_written (held c.args.self.now.locks) c.args.session) old)) h
