-- Machine: conditions in which nothing is calculated, nor in their subqueries.
use Rattle.std.specs.Prelude.{◌≡◌, Bool, true, false, ◌&&◌, ◌||◌, List, is_some}
use Rattle.std.specs.List.{list_all}
use Rattle.sb_value.specs.declared.value.Value.{Value}
use Rattle.sb_check.specs.Condition.{Condition, always, disjunction, conjunction, negation, compare, is_in, exists, Operand, expression, scalar_subquery, Query, select}
use Rattle.sb_check.specs.declared.tree.Items.{Items}
use Rattle.sb_check.specs.declared.tree.Items.TheVariants.{All, Count, Sum, Each}
use Rattle.sb_check.specs.declared.tree.Source.{Source}
use Rattle.sb_plan.specs.ErrorFree.{is_plain}
use Rattle.sb_plan.specs.Joined.{NeverOverflows}
use Rattle.sb_plan.specs.Memo.{IsRight, left, right, within, truth, one_value, values}
use Rattle.sb_plan.specs.declared.memo.Memo.{Memo}

-- whether nothing is calculated of what passes, but its number
abbrev pub items_free : Items → Bool
items_free All = true
items_free Count = true
items_free (Sum e) = false
items_free (Each es) = list_all is_plain es

-- whether a condition has no arithmetic, and neither has a subquery whose answer isn't known
abbrev mutual
  pub is_free : Condition → Memo → Bool
  is_free always memo = true
  is_free (disjunction a b) memo = is_free a (left memo) && is_free b (right memo)
  is_free (conjunction a b) memo = is_free a (left memo) && is_free b (right memo)
  is_free (negation a) memo = is_free a memo
  is_free (compare a op b) memo = is_plain a && operand_free b memo
  is_free (is_in a q) memo = is_plain a && (is_some (values memo) || query_free q (within memo))
  is_free (exists q) memo = is_some (truth memo) || query_free q (within memo)

  pub operand_free : Operand → Memo → Bool
  operand_free (expression e) memo = is_plain e
  operand_free (scalar_subquery q) memo = is_some (one_value memo) || query_free q (within memo)

  pub query_free : Query → Memo → Bool
  query_free (select items sources c) memo = items_free items && is_free c memo

-- such a condition overflows nowhere
abbrev pub FreeOfArithmeticNeverOverflow : Type 0
FreeOfArithmeticNeverOverflow =
    (rows_in : Source → List (List Value)) (c : Condition) (memo : Memo) → IsRight rows_in c memo → is_free c memo ≡ true → NeverOverflows rows_in c
