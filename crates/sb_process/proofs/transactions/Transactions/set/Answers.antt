-- one session's times of one rule are set
use Rattle.std.proofs.Common.{◌≡◌, ◌∙◌, ◌<◌, ◌&&◌, ◌||◌, ◌==◌, if◌then◌else◌, ℕ, List, [], length, slice_set, slice_index, slice_index_or, ap, arith}
use Rattle.std.proofs.lemmas.List.{get_or_default}
use Rattle.sb_value.specs.Flags.{flag_at}
use Rattle.sb_process.specs.Transactions.{Kept, times_of, mark_of, tested_of}
use Rattle.sb_process.specs.declared.times.Times.{Times}
use Rattle.sb_process.proofs.SetTimes.{set_time, time_in}
use Rattle.sb_process.proofs.transactions.Transactions.set.Goals as goal

there : (c : goal.After-index-self-index-2) → c.args.rule < length c.self.inside.rows.items
there c = omega (arith, c.requires.row, ap (λ (k : Kept). length k.rows) c.self.view_is)

read : (c : goal.After-index-self-index-2) → c.index-2.result.now ≡ times_of c.self.inside.rows.items c.args.rule
read c =
    c.index-2.ensures ∙ (λ i. slice_index_or c.self.inside.rows.items (c.index.ensures.value i) c.index-2.result.now)
    ∙ get_or_default c.self.inside.rows.items c.args.rule c.index-2.result.now (record { marks = []; tested = [] }) (there c)

is_session : (c : goal.After-index-self-index-2) → c.args.session < length c.self.inside.marked
is_session c = omega (arith, c.index-4.ensures.value, c.index-4.ensures.in_range)

members : (c : goal.After-index-self-index-2) (r : ℕ) → flag_at c.with-2.result r ≡ (flag_at (slice_index_or c.self.inside.marked c.args.session []) r || (r == c.args.rule))
members c r =
    c.with-2.ensures.members r
    ∙ (λ i. flag_at (slice_index_or c.self.inside.marked (c.index-4.ensures.value i) c.index-self-index.result) r || (r == c.args.rule))
    ∙ ap (λ l. flag_at l r || (r == c.args.rule)) (get_or_default c.self.inside.marked c.args.session c.index-self-index.result [] (is_session c))

-- what is set in one of the two times
set_in : (c : goal.After-index-self-index-2) (f : Times → List ℕ) (time : ℕ) →
    ((s : ℕ) → slice_index (f c.with.result) s ≡ (if s == c.args.session then time else slice_index (f c.index-2.result.now) s)) →
    (s r : ℕ) → time_in f (slice_set c.self.inside.rows.items c.index-3.result c.with.result) (slice_set c.self.inside.marked c.index-5.result c.with-2.result) s r
    ≡ (if (s == c.args.session) && (r == c.args.rule) then time else time_in f c.self.inside.rows.items c.self.inside.marked s r)
set_in c f time is s r =
    (λ i. time_in f (slice_set c.self.inside.rows.items (c.index-3.ensures.value i) c.with.result) (slice_set c.self.inside.marked (c.index-5.ensures.value i) c.with-2.result) s r)
    ∙ set_time f c.self.inside.rows.items c.self.inside.marked c.args.session c.args.rule time c.with.result c.with-2.result (there c) (is_session c)
    (λ x. is x ∙ ap (λ (t : Times). if x == c.args.session then time else slice_index (f t) x) (read c)) (members c) s r

pub returns-clause-marks : goal.returns-clause-marks
returns-clause-marks c = λ s r.
    set_in c (λ t. t.marks) c.args.mark c.with.ensures.marks s r
    ∙ (λ i. if (s == c.args.session) && (r == c.args.rule) then c.args.mark else mark_of (c.self.view_is i) s r)

pub returns-clause-tested : goal.returns-clause-tested
returns-clause-tested c = λ s r.
    set_in c (λ t. t.tested) c.args.tested c.with.ensures.tested s r
    ∙ (λ i. if (s == c.args.session) && (r == c.args.rule) then c.args.tested else tested_of (c.self.view_is i) s r)
