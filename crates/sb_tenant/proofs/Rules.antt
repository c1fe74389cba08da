-- Rule processing on whole scripts, by computation.
use Rattle.std.specs.Prelude.{◌≡◌, [], ◌∷◌, ◌++◌, Some, None, refl, codes}
use Rattle.sb_value.specs.declared.refusal.Refusal.TheVariants as refusal
use Rattle.sb_value.specs.declared.value.Value.TheVariants.{Text}
use Rattle.sb_syntax.specs.declared.tree.TableReference.TheVariants.{Named, Inserted, Deleted, OldUpdated}
use Rattle.sb_syntax.specs.Tree.{Name, everything, select, each_of, those, is_in, delete, changes, rolls_back, on_insert, on_delete, on_update, on_update_of, Command, open_session, begin, commit, rollback, process_rules, process_ruleset, process_rule, create_table, drop_table, create_rule, drop_rule, activate_rule, deactivate_rule, create_ruleset, drop_ruleset, add_rules, del_rules, query, change, insert_rows}
use Rattle.std.specs.Prelude.{false}
use Rattle.sb_tenant.specs.declared.reply.Reply.TheVariants as reply
use Rattle.sb_tenant.proofs.Script.{replies, int, row, t, h, a, b, integer_column, text_column, named, number, equals, below, source, all_of, columns_of, show, insert, set, plus_one, start, started, rule, copies, empties_h, no, considered, not_true, refused, done, inserts, transaction}

-- ---- net effects

-- an insert and a delete are nothing
pub insert_then_delete : replies 1000 (start ++ rule (codes "r") (on_insert ∷ on_delete ∷ on_update ∷ []) None (rolls_back ∷ []) [] [] ∷ inserts 1 ++ change (delete t everything) ∷ commit ∷ [])
    ≡ started ++ reply.Ok ∷ reply.Ok ∷ reply.Count 1 ∷ reply.Count 1 ∷ done [] ∷ []
insert_then_delete = refl

-- an insert and two updates are an insert of the last value
pub insert_then_updates : replies 1000 (start ++ rule (codes "u") (on_update ∷ []) None (rolls_back ∷ []) [] []
    ∷ rule (codes "i") (on_insert ∷ []) None (copies Inserted ∷ []) [] []
    ∷ inserts 1 ++ change (set t a (number 2) everything) ∷ change (set t a plus_one everything) ∷ commit ∷ begin ∷ show h ∷ [])
    ≡ started ++ reply.Ok ∷ reply.Ok ∷ reply.Ok ∷ reply.Count 1 ∷ reply.Count 1 ∷ reply.Count 1
    ∷ done (considered (codes "i") ∷ []) ∷ reply.Ok ∷ reply.Rows (row 3 ∷ []) ∷ []
insert_then_updates = refl

-- an update and a delete are a delete of the old value, where a rule's transition begins at its last consideration
pub update_then_delete : replies 1000 (start ++ rule (codes "d") (on_insert ∷ on_delete ∷ []) None (copies Deleted ∷ []) [] []
    ∷ inserts 5 ++ process_rules ∷ change (set t a (number 6) everything) ∷ change (delete t everything) ∷ commit ∷ begin ∷ show h ∷ [])
    ≡ started ++ reply.Ok ∷ reply.Ok ∷ reply.Count 1 ∷ done (considered (codes "d") ∷ []) ∷ reply.Count 1 ∷ reply.Count 1
    ∷ done (considered (codes "d") ∷ []) ∷ reply.Ok ∷ reply.Rows (row 5 ∷ []) ∷ []
update_then_delete = refl

-- an assertion point where a rule isn't considered leaves its mark, so the insert still counts
pub unconsidered_rule_keeps_its_mark : replies 1000 (start ++ rule (codes "u") (on_update ∷ []) None (rolls_back ∷ []) [] []
    ∷ inserts 1 ++ process_rules ∷ change (set t a (number 2) everything) ∷ commit ∷ [])
    ≡ started ++ reply.Ok ∷ reply.Ok ∷ reply.Count 1 ∷ done [] ∷ reply.Count 1 ∷ done [] ∷ []
unconsidered_rule_keeps_its_mark = refl

-- a column counts as updated where its value differs in the end, and not because an update names it
pub updated_columns : replies 1000 (open_session ∷ create_table t (integer_column a ∷ integer_column b ∷ []) ∷ create_table h (integer_column a ∷ [])
    ∷ rule (codes "w") (on_update_of (a ∷ []) ∷ []) None (copies OldUpdated ∷ []) [] []
    ∷ begin ∷ insert t ((int 1 ∷ int 1 ∷ []) ∷ (int 2 ∷ int 2 ∷ []) ∷ []) ∷ commit
    ∷ begin ∷ change (set t b (number 9) everything) ∷ commit
    ∷ begin ∷ change (set t a (named a) (equals (named a) (number 1))) ∷ change (set t b (number 8) everything) ∷ commit
    ∷ begin ∷ show h ∷ [])
    ≡ reply.Ok ∷ reply.Ok ∷ reply.Ok ∷ reply.Ok ∷ reply.Ok ∷ reply.Count 2 ∷ done []
    ∷ reply.Ok ∷ reply.Count 2 ∷ done []
    ∷ reply.Ok ∷ reply.Count 1 ∷ reply.Count 2 ∷ done []
    ∷ reply.Ok ∷ reply.Rows [] ∷ []
updated_columns = refl

-- ---- processing

-- a rule's own changes trigger it again, until its condition is false
abbrev counting : Command
counting = rule (codes "c") (on_insert ∷ on_update ∷ []) (Some (all_of (Named t) (below (named a) 3))) (changes (set t a plus_one (below (named a) 3)) ∷ []) [] []

pub self_triggering : replies 1000 (start ++ counting ∷ transaction)
    ≡ started ++ reply.Ok ∷ reply.Ok ∷ reply.Count 1 ∷ done (considered (codes "c") ∷ considered (codes "c") ∷ not_true (codes "c") ∷ []) ∷ []
self_triggering = refl

-- three considerations are within a bound of 3; where the rule is triggered after them, the transaction is rolled back
pub bound_on_considerations : replies 3 (start ++ counting ∷ transaction ++ inserts 0 ++ commit ∷ commit ∷ begin ∷ show t ∷ [])
    ≡ started ++ reply.Ok ∷ reply.Ok ∷ reply.Count 1 ∷ done (considered (codes "c") ∷ considered (codes "c") ∷ not_true (codes "c") ∷ [])
    ∷ reply.Ok ∷ reply.Count 1 ∷ reply.ByLimit (considered (codes "c") ∷ considered (codes "c") ∷ considered (codes "c") ∷ []) ∷ no refusal.NoTransaction
    ∷ reply.Ok ∷ reply.Rows (row 3 ∷ []) ∷ []
bound_on_considerations = refl

-- the order of creation decides, but for precedence, which goes through rules that are inactive or not triggered
pub precedence : replies 1000 (start ++ empties_h (codes "a") [] [] ∷ empties_h (codes "b") [] [] ∷ empties_h (codes "c") (codes "a" ∷ []) [] ∷ transaction
    ++ deactivate_rule (codes "c") ∷ transaction
    ++ rule (codes "x") (on_delete ∷ []) None (changes (delete h everything) ∷ []) (codes "a" ∷ []) (codes "b" ∷ []) ∷ transaction
    ++ activate_rule (codes "c") ∷ transaction)
    ≡ started ++ reply.Ok ∷ reply.Ok ∷ reply.Ok
    ∷ reply.Ok ∷ reply.Count 1 ∷ done (considered (codes "b") ∷ considered (codes "c") ∷ considered (codes "a") ∷ [])
    ∷ reply.Ok ∷ reply.Ok ∷ reply.Count 1 ∷ done (considered (codes "a") ∷ considered (codes "b") ∷ [])
    ∷ reply.Ok ∷ reply.Ok ∷ reply.Count 1 ∷ done (considered (codes "b") ∷ considered (codes "a") ∷ [])
    ∷ reply.Ok ∷ reply.Ok ∷ reply.Count 1 ∷ done (considered (codes "b") ∷ considered (codes "c") ∷ considered (codes "a") ∷ []) ∷ []
precedence = refl

-- a cycle of precedence is refused, and the rule isn't there afterwards
pub cycle_refused : replies 1000 (start ++ empties_h (codes "a") [] [] ∷ empties_h (codes "b") [] (codes "a" ∷ []) ∷ empties_h (codes "c") (codes "a" ∷ []) (codes "b" ∷ []) ∷ activate_rule (codes "c") ∷ [])
    ≡ started ++ reply.Ok ∷ reply.Ok ∷ no refusal.Cycle ∷ no refusal.NoRule ∷ []
cycle_refused = refl

-- the transition tables stay fixed while the condition and the actions run
pub fixed_transition_tables : replies 1000 (start ++ rule (codes "f") (on_insert ∷ []) (Some (all_of Inserted (below (named a) 5))) (changes (insert_rows t (row 9 ∷ [])) ∷ copies Inserted ∷ []) [] []
    ∷ transaction ++ begin ∷ show h ∷ [])
    ≡ started ++ reply.Ok ∷ reply.Ok ∷ reply.Count 1 ∷ done (considered (codes "f") ∷ not_true (codes "f") ∷ []) ∷ reply.Ok ∷ reply.Rows (row 1 ∷ []) ∷ []
fixed_transition_tables = refl

-- a deleted department takes its employees with it
abbrev cascade : Command
cascade = create_rule (record {
  name = codes "cascade";
  table = codes "dept";
  triggers = on_delete ∷ [];
  condition = None;
  actions = changes (delete (codes "emp") (those (is_in (named (codes "dno")) false (select (each_of (named (codes "dno") ∷ [])) (source Deleted ∷ []) everything)))) ∷ [];
  precedes = [];
  follows = [];
})

pub cascading_delete : replies 1000 (open_session ∷ create_table (codes "dept") (integer_column (codes "dno") ∷ [])
    ∷ create_table (codes "emp") (text_column (codes "ename") ∷ integer_column (codes "dno") ∷ []) ∷ cascade
    ∷ begin ∷ insert (codes "dept") (row 1 ∷ row 2 ∷ [])
    ∷ insert (codes "emp") ((Text (codes "ann") ∷ int 1 ∷ []) ∷ (Text (codes "bob") ∷ int 2 ∷ []) ∷ (Text (codes "cy") ∷ int 1 ∷ []) ∷ []) ∷ commit
    ∷ begin ∷ change (delete (codes "dept") (equals (named (codes "dno")) (number 1))) ∷ commit
    ∷ begin ∷ query (columns_of (codes "ename" ∷ []) (codes "emp" ∷ [])) ∷ drop_table (codes "emp") ∷ rollback ∷ drop_table (codes "emp") ∷ [])
    ≡ reply.Ok ∷ reply.Ok ∷ reply.Ok ∷ reply.Ok
    ∷ reply.Ok ∷ reply.Count 2 ∷ reply.Count 3 ∷ done []
    ∷ reply.Ok ∷ reply.Count 1 ∷ done (considered (codes "cascade") ∷ [])
    ∷ reply.Ok ∷ reply.Rows ((Text (codes "bob") ∷ []) ∷ []) ∷ no refusal.InTransaction ∷ reply.Ok ∷ no refusal.TableInUse ∷ []
cascading_delete = refl

-- an action that overflows rolls the transaction back
pub overflowing_action : replies 1000 (start ++ rule (codes "o") (on_insert ∷ []) None (changes (set t a plus_one everything) ∷ []) [] []
    ∷ inserts 9223372036854775807 ++ commit ∷ begin ∷ show t ∷ [])
    ≡ started ++ reply.Ok ∷ reply.Ok ∷ reply.Count 1 ∷ reply.ByError (codes "o") refusal.Overflow (refused (codes "o") ∷ []) ∷ reply.Ok ∷ reply.Rows [] ∷ []
overflowing_action = refl

-- ---- rulesets and assertion points for one rule

abbrev s : Name
s = codes "s"

pub rulesets : replies 1000 (start ++ empties_h (codes "r") [] [] ∷ empties_h (codes "q") [] []
    ∷ create_rule (record { name = codes "r"; table = h; triggers = on_delete ∷ []; condition = None; actions = rolls_back ∷ []; precedes = []; follows = [] })
    ∷ create_ruleset s ∷ create_ruleset s ∷ add_rules s (codes "r" ∷ codes "r" ∷ [])
    ∷ inserts 1 ++ process_ruleset s ∷ process_rule (codes "q") ∷ process_rules ∷ commit
    ∷ drop_table h ∷ del_rules s (codes "q" ∷ []) ∷ drop_ruleset s ∷ drop_rule (codes "r") ∷ drop_rule (codes "q") ∷ drop_table h ∷ [])
    ≡ started ++ reply.Ok ∷ reply.Ok ∷ no refusal.RuleExists ∷ reply.Ok ∷ no refusal.RulesetExists ∷ reply.Ok
    ∷ reply.Ok ∷ reply.Count 1 ∷ done (considered (codes "r") ∷ []) ∷ done (considered (codes "q") ∷ []) ∷ done [] ∷ done []
    ∷ no refusal.TableInUse ∷ reply.Ok ∷ reply.Ok ∷ reply.Ok ∷ reply.Ok ∷ reply.Ok ∷ []
rulesets = refl

-- a change of members is refused as a whole; an inactive rule is processed nowhere
pub inactive_member : replies 1000 (start ++ empties_h (codes "r") [] [] ∷ create_ruleset s ∷ add_rules s (codes "r" ∷ codes "z" ∷ [])
    ∷ inserts 1 ++ process_ruleset s ∷ commit
    ∷ deactivate_rule (codes "r") ∷ add_rules s (codes "r" ∷ [])
    ∷ inserts 1 ++ process_rule (codes "r") ∷ process_ruleset s ∷ commit ∷ [])
    ≡ started ++ reply.Ok ∷ reply.Ok ∷ no refusal.NoRule
    ∷ reply.Ok ∷ reply.Count 1 ∷ done [] ∷ done (considered (codes "r") ∷ [])
    ∷ reply.Ok ∷ reply.Ok ∷ reply.Ok ∷ reply.Count 1 ∷ done [] ∷ done [] ∷ done [] ∷ []
inactive_member = refl
