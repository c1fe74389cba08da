use Rattle.std.proofs.Common.{◌∙◌, sym, subst, refl}
use Rattle.sb_value.specs.Flags.{flag_at}
use Rattle.sb_process.specs.Work.{CanRun}
use Rattle.sb_tenant.specs.declared.phase.Phase.TheVariants.{Idle}
use Rattle.sb_tenant.specs.State.{setting_of, progress_of}
use Rattle.sb_tenant.proofs.Calls.{set-other, set-own, called, works-in, goes-back, back-aside, processed-done, processed-back, finds-with}
use Rattle.sb_tenant.proofs.Leaving.{are-active}
use Rattle.sb_tenant.proofs.Standing.{base_of}
use Rattle.sb_tenant.proofs.store.Store.run.Goals as goal

pub process-requires-clause-work : goal.process-requires-clause-work
process-requires-clause-work g c =
    let old = c.args.self.now in let s = c.args.point.now.session in let laws = c.tables_are_shared.ensures.laws in let is = c.tables_are_shared.ensures.in_range in
    let state = c.requires.stand.0 in let st = c.requires.stand.1 in
    (base_of st.0.0 state s, setting_of old.database.id state s, progress_of old.database.left state s, works-in laws is st)

pub process-requires-clause-rules : goal.process-requires-clause-rules
process-requires-clause-rules g c = let h = c.requires.stand.1.0.1 in subst (CanRun c.args.self.now.database.tables) (sym h.rules) h.runnable

pub process-requires-clause-active : goal.process-requires-clause-active
process-requires-clause-active g c = are-active (flag_at c.args.point.now.eligible) c.args.self.now.definitions.rules c.rules-rules.ensures.numbered c.requires.rules

-- ---- where it is done

pub returns-then-is_done-clause-aside : goal.returns-then-is_done-clause-aside
returns-then-is_done-clause-aside g c = λ state st.
    let old = c.args.self.now in let s = c.args.point.now.session in let laws = c.tables_are_shared.ensures.laws in let is = c.tables_are_shared.ensures.in_range in
    let l = c.process.ensures.leaves in
    let call = called old c.process.new.self old.phases l.id l.others l.times.0 l.sessions (λ o other. refl) in
    (processed-done laws is st call c.requires.active c.args.point.now.bound (flag_at c.args.point.now.eligible) (c.in-Ok.ensures.processed (base_of st.0.0 state s) (setting_of old.database.id state s) (progress_of old.database.left state s) (works-in laws is st)) (sym c.is_done.ensures ∙ c.if-is_done.true) c.requires.active).1

pub returns-then-is_done-clause-found : goal.returns-then-is_done-clause-found
returns-then-is_done-clause-found g c = λ state st chosen flags.
    let old = c.args.self.now in let s = c.args.point.now.session in let laws = c.tables_are_shared.ensures.laws in let is = c.tables_are_shared.ensures.in_range in
    let l = c.process.ensures.leaves in
    let call = called old c.process.new.self old.phases l.id l.others l.times.0 l.sessions (λ o other. refl) in
    let k = c.in-Ok.ensures.processed (base_of st.0.0 state s) (setting_of old.database.id state s) (progress_of old.database.left state s) (works-in laws is st) in
    finds-with laws is st call c.requires.active c.args.point.now.bound (flag_at c.args.point.now.eligible) k c.in-Ok.processed refl refl flags (processed-done laws is st call c.requires.active c.args.point.now.bound (flag_at c.args.point.now.eligible) k (sym c.is_done.ensures ∙ c.if-is_done.true) c.requires.active).0

pub returns-then-is_done-clause-leaves : goal.returns-then-is_done-clause-leaves
returns-then-is_done-clause-leaves g c =
    let l = c.process.ensures.leaves in
    record { id = l.id; others = l.others; times = l.times; numbers = l.numbers }

-- ---- where it is taken back

pub returns-else-is_done-clause-aside : goal.returns-else-is_done-clause-aside
returns-else-is_done-clause-aside g c = λ state st.
    let old = c.args.self.now in let s = c.args.point.now.session in let laws = c.tables_are_shared.ensures.laws in let is = c.tables_are_shared.ensures.in_range in
    let l = c.process.ensures.leaves in
    let call = called old c.process.new.self c.set.new.self l.id l.others l.times.0 l.sessions (set-other old.phases c.set.new.self s Idle c.set.ensures) in
    (processed-back laws is st call c.requires.active c.args.point.now.bound (flag_at c.args.point.now.eligible) (c.in-Ok.ensures.processed (base_of st.0.0 state s) (setting_of old.database.id state s) (progress_of old.database.left state s) (works-in laws is st)) (sym c.is_done.ensures ∙ c.if-is_done.false) (set-own old.phases c.set.new.self s Idle c.set.ensures) c.process.ensures.past).1

pub returns-else-is_done-clause-found : goal.returns-else-is_done-clause-found
returns-else-is_done-clause-found g c = λ state st chosen flags.
    let old = c.args.self.now in let s = c.args.point.now.session in let laws = c.tables_are_shared.ensures.laws in let is = c.tables_are_shared.ensures.in_range in
    let l = c.process.ensures.leaves in
    let call = called old c.process.new.self c.set.new.self l.id l.others l.times.0 l.sessions (set-other old.phases c.set.new.self s Idle c.set.ensures) in
    let k = c.in-Ok.ensures.processed (base_of st.0.0 state s) (setting_of old.database.id state s) (progress_of old.database.left state s) (works-in laws is st) in
    finds-with laws is st call c.requires.active c.args.point.now.bound (flag_at c.args.point.now.eligible) k c.in-Ok.processed refl refl flags
    (processed-back laws is st call c.requires.active c.args.point.now.bound (flag_at c.args.point.now.eligible) k (sym c.is_done.ensures ∙ c.if-is_done.false) (set-own old.phases c.set.new.self s Idle c.set.ensures) c.process.ensures.past).0

pub returns-in-Err-clause-aside : goal.returns-in-Err-clause-aside
returns-in-Err-clause-aside g c = λ state st.
    let old = c.args.self.now in let s = c.args.point.now.session in let laws = c.tables_are_shared.ensures.laws in let is = c.tables_are_shared.ensures.in_range in
    let l = c.process.ensures.leaves in
    let call = called old c.process.new.self c.set-in-Err.new.self l.id l.others l.times.0 l.sessions (set-other old.phases c.set-in-Err.new.self s Idle c.set-in-Err.ensures) in
    back-aside laws is st.0.1 st.1 call c.requires.active (goes-back laws is st.0.1 st.1 call (set-own old.phases c.set-in-Err.new.self s Idle c.set-in-Err.ensures) c.process.ensures.past (c.in-Err.ensures.no_memory (base_of st.0.0 state s) (setting_of old.database.id state s) (progress_of old.database.left state s) (works-in laws is st)))

pub returns-else-is_done-clause-leaves : goal.returns-else-is_done-clause-leaves
returns-else-is_done-clause-leaves g c =
    let l = c.process.ensures.leaves in
    record { id = l.id; others = l.others; times = l.times; numbers = l.numbers }

pub returns-in-Err-clause-leaves : goal.returns-in-Err-clause-leaves
returns-in-Err-clause-leaves g c =
    let l = c.process.ensures.leaves in
    record { id = l.id; others = l.others; times = l.times; numbers = l.numbers }
