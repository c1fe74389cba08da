use Rattle.std.proofs.Common.{◌≡◌, List, Bool, [], ◌∷◌, Some, rules, subst, sym}
use Rattle.sb_value.specs.declared.value.Value.{Value}
use Rattle.sb_check.specs.declared.tree.Source.TheVariants.{Table}
use Rattle.sb_plan.specs.Memo.{IsRight}
use Rattle.sb_plan.specs.Meaning.{holds}
use Rattle.sb_plan.specs.RowFlags.{IsTold, Tell}
use Rattle.sb_plan.specs.Seen.{rows_in}
use Rattle.sb_eval.proofs.Changing.{told_as}
use Rattle.sb_eval.proofs.statement.target_changes.Goals as goal

-- the flags tell of the walk's condition
pub flagged_changes-requires : goal.flagged_changes-requires
flagged_changes-requires g c =
    let rows = rows_in (g.S.Sources.seen c.args.sources.now) in
    let filter = c.args.filter.now in
    let memo = c.in_ok-memo.memo in
    let right : IsRight rows filter memo = search rules in
    let Told : List Value → Bool → Type 0 = λ row b. holds rows filter ((row ∷ []) ∷ []) ≡ Some b in
    let told : Tell Told c.in-Some.flags.items (rows (Table c.args.table)) = told_as (IsTold filter memo) Told c.in-Some.flags.items (rows (Table c.args.table)) (λ row b is. is rows right) c.in-Some.ensures in
    subst (λ l. Tell Told l (rows (Table c.args.table))) (sym c.as_slice.ensures.value) told
