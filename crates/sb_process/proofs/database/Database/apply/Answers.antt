use Rattle.std.proofs.Common.{◌≡◌, ◌∙◌, ℕ, ◌+◌, List, [], ◌∷◌, ◌++◌, length, refl, sym, ap, subst, arith, append_assoc}
use Rattle.std.proofs.lemmas.List.{append-nil}
use Rattle.std.specs.Vec.Iter.{into_iter_items}
use Rattle.sb_value.specs.declared.change.Change.{Change}
use Rattle.sb_value.specs.declared.id.Who.{Who}
use Rattle.sb_value.specs.declared.lock.LockMode.TheVariants.{Write}
use Rattle.sb_locks.specs.Held.{Holders, held}
use Rattle.sb_process.specs.Made.{NumbersBelow}
use Rattle.sb_process.specs.PreparedChanges.{CanApply, copies_of}
use Rattle.sb_process.specs.Represents.{Represents, who_in}
use Rattle.sb_process.proofs.Applying.{first_fits, others_can, below_one, none_left}
use Rattle.sb_process.proofs.Preparing.{last_same}
use Rattle.sb_process.proofs.Works.{work-with}
use Rattle.sb_process.proofs.database.Database.apply.Goals as goal

pub loop-change-init : goal.loop-change-init
loop-change-init g c =
    let same : into_iter_items c.into_iter-change-iterator.result ≡ c.args.prepared_changes.changes.items = c.into_iter-change-iterator.ensures.into_iter_gives.0 in
    record {
      can = subst (λ (l : List Change). CanApply c.args.self.now.tables (who_in c.args.self.now c.args.session) c.args.target l) (sym same) c.requires.can;
      len = c.into_iter-change-iterator.ensures.into_iter_gives.1 ∙ c.args.prepared_changes.changes.ok.0 ∙ ap (λ (l : List Change). length l) (sym same);
      copied = c.requires.copied ∙ ap copies_of (sym same);
      locked = c.requires.locked;
      room = omega (arith, ap length same, c.requires.room);
      clock = omega (arith, ap length same);
      made = (
        [],
        same,
        λ origin setting progress w.
            subst (λ (cs : List Change). Represents origin c.args.self.now c.args.session (g.L.ChangeLog.records c.args.log.now) (g.L.ChangeLog.clock c.args.log.now) setting (record progress { changes = cs }))
            (sym (append-nil progress.changes)) w.transaction,
      );
      id = refl;
      sessions = λ s r other. (refl, refl, refl);
      others = λ other differs. refl;
      numbers = λ n b. (n, omega (arith, ap length same), b);
    }

-- the list that is left begins with this change
pub apply_one-requires-clause-fits : goal.apply_one-requires-clause-fits
apply_one-requires-clause-fits g c =
    first_fits c.loop-change.self.tables (who_in c.loop-change.self c.args.session) c.args.target c.in-Some.change (into_iter_items c.next.new.self)
    (subst (λ (l : List Change). CanApply c.loop-change.self.tables (who_in c.loop-change.self c.args.session) c.args.target l) c.in-Some.ensures.steps.0 c.loop-change.invariant.can)

-- its copy is the one that comes next
pub apply_one-requires-clause-copied : goal.apply_one-requires-clause-copied
apply_one-requires-clause-copied g c =
    let v = c.loop-change.invariant in
    let left : List Change = into_iter_items c.next.new.self in
    let e = sym (v.copied ∙ ap copies_of c.in-Some.ensures.steps.0) ∙ c.in-Some-pop.ensures.items in
    sym (last_same (copies_of left) c.pop.new.self.items c.in-Some.change.new c.in-Some-pop.copy e).1

pub loop-change-preserved : goal.loop-change-preserved
loop-change-preserved g c =
    let v = c.loop-change.invariant in
    let x : Change = c.in-Some.change in
    let left : List Change = into_iter_items c.next.new.self in
    let split : into_iter_items c.loop-change.change-iterator ≡ x ∷ left = c.in-Some.ensures.steps.0 in
    let long : length (into_iter_items c.loop-change.change-iterator) ≡ length left + 1 = ap (λ (l : List Change). length l) split ∙ omega arith in
    let now : Who = who_in c.loop-change.self c.args.session in
    let can : CanApply c.loop-change.self.tables now c.args.target (x ∷ left) =
    subst (λ (l : List Change). CanApply c.loop-change.self.tables now c.args.target l) split v.can in
    let same : c.apply_one.new.self.id ≡ c.loop-change.self.id = c.apply_one.ensures.id in
    let popped = last_same (copies_of left) c.pop.new.self.items x.new c.in-Some-pop.copy (sym (v.copied ∙ ap copies_of split) ∙ c.in-Some-pop.ensures.items) in
    record {
      can = subst (λ (id : ℕ). CanApply c.apply_one.new.self.tables (record { tenant = id; session = c.args.session }) c.args.target left) (sym same)
          (others_can c.loop-change.self.tables c.apply_one.new.self.tables now c.args.target x left can c.apply_one.ensures.makes);
      len = omega (arith, c.in-Some.ensures.steps.1, v.len, long);
      copied = sym popped.0;
      locked = ap (λ (l : Holders). held l c.args.session c.args.target Write) c.apply_one.ensures.locks ∙ v.locked;
      room = omega (arith, c.apply_one.ensures.room, v.room, long);
      clock = omega (arith, c.apply_one.ensures.clock, v.clock, long);
      made = (
        v.made.0 ++ x ∷ [],
        append_assoc v.made.0 (x ∷ []) left ∙ ap (λ (l : List Change). v.made.0 ++ l) (sym split) ∙ v.made.1,
        λ origin setting progress w.
            subst
            (λ (cs : List Change). Represents origin c.apply_one.new.self c.args.session (g.L.ChangeLog.records c.apply_one.new.log) (g.L.ChangeLog.clock c.apply_one.new.log) setting (record progress { changes = cs }))
            (append_assoc progress.changes v.made.0 (x ∷ []))
            (c.apply_one.ensures.one origin setting (record progress { changes = progress.changes ++ v.made.0 })
            (work-with w (v.made.2 origin setting progress w) (sym v.id))),
      );
      id = same ∙ v.id;
      sessions = λ s r other. let a = c.apply_one.ensures.sessions s r other in let b = v.sessions s r other in (a.0 ∙ b.0, a.1 ∙ b.1, a.2 ∙ b.2);
      others = λ other differs.
          c.apply_one.ensures.others other (λ is. differs (is ∙ ap (λ (id : ℕ). let w : Who = record { tenant = id; session = c.args.session } in w) v.id)) ∙ v.others other differs;
      numbers = λ n b.
          let q = v.numbers n b in
          (q.0 + 1, omega (arith, q.1, long), below_one q.0 x c.loop-change.self.tables c.apply_one.new.self.tables v.can.numbered c.apply_one.ensures.makes q.2);
    }

pub returns-clause-all : goal.returns-clause-all
returns-clause-all g c = λ origin setting progress w.
    let v = c.loop-change.invariant in
    let none : into_iter_items c.loop-change.change-iterator ≡ [] = none_left (into_iter_items c.loop-change.change-iterator) (sym v.len ∙ c.in-None.ensures.steps.0) in
    let whole : v.made.0 ≡ c.args.prepared_changes.changes.items = sym (append-nil v.made.0) ∙ ap (λ (l : List Change). v.made.0 ++ l) (sym none) ∙ v.made.1 in
    subst
    (λ (cs : List Change). Represents origin c.loop-change.self c.args.session (g.L.ChangeLog.records c.loop-change.log) (g.L.ChangeLog.clock c.loop-change.log) setting (record progress { changes = progress.changes ++ cs }))
    whole (v.made.2 origin setting progress w)

pub returns-clause-leaves : goal.returns-clause-leaves
returns-clause-leaves g c =
    let v = c.loop-change.invariant in
    let none : length (into_iter_items c.loop-change.change-iterator) ≡ 0 = sym v.len ∙ c.in-None.ensures.steps.0 in
    record {
      id = v.id;
      sessions = v.sessions;
      others = v.others;
      times = (omega (arith, v.clock, none), omega (arith, v.clock, none));
      numbers = λ n b.
          let q = v.numbers n b in
          let end : q.0 ≡ n + length c.args.prepared_changes.changes.items = omega (arith, q.1, none) in
          subst (λ (m : ℕ). NumbersBelow m c.loop-change.self.tables) end q.2;
    }
