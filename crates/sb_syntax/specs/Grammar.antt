-- Promise: the grammar. `IsX x ts rest` says that the tokens of ts up to rest spell x.
use Rattle.std.specs.Prelude.{◌≤◌, ◌<◌, ◌^◌, ℕ, suc, pos, Bool, true, false, List, [], ◌∷◌, length, Option, Some, None}
use Rattle.std.specs.List.{AllPass}
use Rattle.sb_value.specs.Printable.{is_printable}
use Rattle.sb_value.specs.declared.value.Value.{Value}
use Rattle.sb_value.specs.declared.value.Value.TheVariants.{Int, Text}
use Rattle.sb_value.specs.declared.value.ColumnType.{ColumnType}
use Rattle.sb_value.specs.declared.value.ColumnType.TheVariants as t
use Rattle.sb_value.specs.declared.value.ColumnDefinition.{ColumnDefinition}
use Rattle.sb_syntax.specs.declared.kind.TokenKind.{TokenKind}
use Rattle.sb_syntax.specs.declared.kind.TokenKind.TheVariants as k
use Rattle.sb_syntax.specs.declared.tree.Arithmetic.TheVariants.{Add, Subtract, Multiply}
use Rattle.sb_syntax.specs.declared.tree.Comparison.{Comparison}
use Rattle.sb_syntax.specs.declared.tree.Comparison.TheVariants as c
use Rattle.sb_syntax.specs.declared.tree.TableReference.{TableReference}
use Rattle.sb_syntax.specs.declared.tree.TableReference.TheVariants.{Named, Inserted, Deleted, OldUpdated, NewUpdated}
use Rattle.sb_syntax.specs.declared.tree.ColumnReference.{ColumnReference}
use Rattle.sb_syntax.specs.declared.tree.ColumnReference.TheVariants.{Plain, Qualified}
use Rattle.sb_syntax.specs.declared.tree.SourceReference.{SourceReference}
use Rattle.sb_syntax.specs.Input.{Input, Is}
use Rattle.sb_syntax.specs.Tree as tree
use Rattle.sb_syntax.specs.Tree.{Name, Expression, Items, Condition, Operand, Filter, Query, Assignment, Statement, Action, Trigger, RuleText, AlterationText, Command}
use Rattle.sb_syntax.specs.Literal.{decimal, negative, unquoted}

-- x {sep x}, as a list of one or more
pub data More {A : Type 0} (sep : TokenKind) (Item : A → Input → Input → Type 0) : List A → Input → Input → Type 0 where
  no_more : {ts : Input} → More sep Item [] ts ts
  one_more : {x : A} {xs : List A} {ts a b rest : Input} → Is sep ts a → Item x a b → More sep Item xs b rest → More sep Item (x ∷ xs) ts rest

pub data Separated {A : Type 0} (sep : TokenKind) (Item : A → Input → Input → Type 0) : List A → Input → Input → Type 0 where
  items : {x : A} {xs : List A} {ts a rest : Input} → Item x ts a → More sep Item xs a rest → Separated sep Item (x ∷ xs) ts rest

-- a word that isn't reserved, of at most 32 bytes
pub data IsName : Name → Input → Input → Type 0 where
  name : {n : Name} {rest : Input} → 0 < length n → length n ≤ 32 → IsName n (record { kind = k.Name; text = n } ∷ rest) rest

-- an integer's digits, and a text in its quotes
pub data IsLiteral : Value → Input → Input → Type 0 where
  integer : {digits : List ℕ} {rest : Input} → decimal digits < 2 ^ 63 → IsLiteral (Int (pos (decimal digits))) (record { kind = k.Integer; text = digits } ∷ rest) rest
  minus : {digits : List ℕ} {ts rest : Input} → Is k.Minus ts (record { kind = k.Integer; text = digits } ∷ rest) → decimal digits ≤ 2 ^ 63 → IsLiteral (Int (negative (decimal digits))) ts rest
  text : {quoted : List ℕ} {rest : Input} → length (unquoted quoted) ≤ 255 → AllPass is_printable (unquoted quoted) → IsLiteral (Text (unquoted quoted)) (record { kind = k.Text; text = quoted } ∷ rest) rest

-- one of a rule's transition tables
pub data IsTransition : TableReference → Input → Input → Type 0 where
  inserted : {ts rest : Input} → Is k.Inserted ts rest → IsTransition Inserted ts rest
  deleted : {ts rest : Input} → Is k.Deleted ts rest → IsTransition Deleted ts rest
  old_updated : {ts rest : Input} → Is k.OldUpdated ts rest → IsTransition OldUpdated ts rest
  new_updated : {ts rest : Input} → Is k.NewUpdated ts rest → IsTransition NewUpdated ts rest

pub data IsTable : TableReference → Input → Input → Type 0 where
  named : {n : Name} {ts rest : Input} → IsName n ts rest → IsTable (Named n) ts rest
  transition : {table : TableReference} {ts rest : Input} → IsTransition table ts rest → IsTable table ts rest

pub data IsColumn : ColumnReference → Input → Input → Type 0 where
  plain : {n : Name} {ts rest : Input} → IsName n ts rest → IsColumn (Plain n) ts rest
  qualified : {table : TableReference} {n : Name} {ts x y rest : Input} → IsTable table ts x → Is k.Dot x y → IsName n y rest → IsColumn (Qualified table n) ts rest

pub data IsFactor : Expression → Input → Input → Type 0 where
  literal_factor : {v : Value} {ts rest : Input} → IsLiteral v ts rest → IsFactor (tree.literal v) ts rest
  column_factor : {column : ColumnReference} {ts rest : Input} → IsColumn column ts rest → IsFactor (tree.column column) ts rest

-- operators of one level group to the left
pub data IsTerm : Expression → Input → Input → Type 0 where
  factor : {e : Expression} {ts rest : Input} → IsFactor e ts rest → IsTerm e ts rest
  times : {a b : Expression} {ts x y rest : Input} → IsTerm a ts x → Is k.Star x y → IsFactor b y rest → IsTerm (tree.binary a Multiply b) ts rest

pub data IsExpr : Expression → Input → Input → Type 0 where
  term : {e : Expression} {ts rest : Input} → IsTerm e ts rest → IsExpr e ts rest
  plus : {a b : Expression} {ts x y rest : Input} → IsExpr a ts x → Is k.Plus x y → IsTerm b y rest → IsExpr (tree.binary a Add b) ts rest
  less : {a b : Expression} {ts x y rest : Input} → IsExpr a ts x → Is k.Minus x y → IsTerm b y rest → IsExpr (tree.binary a Subtract b) ts rest

-- the most expressions of a query
abbrev pub max_items : ℕ
max_items = 16

pub data IsItems : Items → Input → Input → Type 0 where
  all_columns : {ts rest : Input} → Is k.Star ts rest → IsItems tree.all ts rest
  count_rows : {ts x y z rest : Input} → Is k.Count ts x → Is k.LeftParen x y → Is k.Star y z → Is k.RightParen z rest → IsItems tree.count ts rest
  sum_rows : {e : Expression} {ts x y z rest : Input} → Is k.Sum ts x → Is k.LeftParen x y → IsExpr e y z → Is k.RightParen z rest → IsItems (tree.sum_of e) ts rest
  expressions : {es : List Expression} {ts rest : Input} → Separated k.Comma IsExpr es ts rest → length es ≤ max_items → IsItems (tree.each_of es) ts rest

pub data IsAlias : Option Name → Input → Input → Type 0 where
  no_alias : {ts : Input} → IsAlias None ts ts
  alias : {n : Name} {ts rest : Input} → IsName n ts rest → IsAlias (Some n) ts rest

pub data IsSource : SourceReference → Input → Input → Type 0 where
  source : {table : TableReference} {alias : Option Name} {ts x rest : Input} → IsTable table ts x → IsAlias alias x rest → IsSource (record { table = table; alias = alias }) ts rest

-- one or two
pub data IsSources : List SourceReference → Input → Input → Type 0 where
  one_source : {s : SourceReference} {ts rest : Input} → IsSource s ts rest → IsSources (s ∷ []) ts rest
  two_sources : {s t : SourceReference} {ts x y rest : Input} → IsSource s ts x → Is k.Comma x y → IsSource t y rest → IsSources (s ∷ t ∷ []) ts rest

pub data IsComparison : Comparison → Input → Input → Type 0 where
  equal : {ts rest : Input} → Is k.Equal ts rest → IsComparison c.Equal ts rest
  not_equal : {ts rest : Input} → Is k.NotEqual ts rest → IsComparison c.NotEqual ts rest
  less_than : {ts rest : Input} → Is k.Less ts rest → IsComparison c.Less ts rest
  at_most : {ts rest : Input} → Is k.LessEqual ts rest → IsComparison c.LessEqual ts rest
  greater_than : {ts rest : Input} → Is k.Greater ts rest → IsComparison c.Greater ts rest
  at_least : {ts rest : Input} → Is k.GreaterEqual ts rest → IsComparison c.GreaterEqual ts rest

-- `not` or nothing
pub data IsNot : Bool → Input → Input → Type 0 where
  plain : {ts : Input} → IsNot false ts ts
  not : {ts rest : Input} → Is k.Not ts rest → IsNot true ts rest

-- the greatest depth of `not` and parentheses in one condition
abbrev pub max_nesting : ℕ
max_nesting = 32

-- depth bounds how deep subqueries nest, and nesting how deep `not` and parentheses do.
mutual
  pub data IsCond : ℕ → ℕ → Condition → Input → Input → Type 0 where
    conj : {depth nesting : ℕ} {a : Condition} {ts rest : Input} → IsConj depth nesting a ts rest → IsCond depth nesting a ts rest
    or : {depth nesting : ℕ} {a b : Condition} {ts x y rest : Input} → IsCond depth nesting a ts x → Is k.Or x y → IsConj depth nesting b y rest → IsCond depth nesting (tree.disjunction a b) ts rest

  pub data IsConj : ℕ → ℕ → Condition → Input → Input → Type 0 where
    neg : {depth nesting : ℕ} {a : Condition} {ts rest : Input} → IsNeg depth nesting a ts rest → IsConj depth nesting a ts rest
    and : {depth nesting : ℕ} {a b : Condition} {ts x y rest : Input} → IsConj depth nesting a ts x → Is k.And x y → IsNeg depth nesting b y rest → IsConj depth nesting (tree.conjunction a b) ts rest

  pub data IsNeg : ℕ → ℕ → Condition → Input → Input → Type 0 where
    not_neg : {depth nesting : ℕ} {a : Condition} {ts x rest : Input} → Is k.Not ts x → IsNeg depth nesting a x rest → IsNeg depth (suc nesting) (tree.negation a) ts rest
    group : {depth nesting : ℕ} {a : Condition} {ts x y rest : Input} → Is k.LeftParen ts x → IsCond depth nesting a x y → Is k.RightParen y rest → IsNeg depth (suc nesting) a ts rest
    predicate : {depth nesting : ℕ} {a : Condition} {ts rest : Input} → IsPredicate depth a ts rest → IsNeg depth nesting a ts rest

  pub data IsPredicate : ℕ → Condition → Input → Input → Type 0 where
    comparison : {depth : ℕ} {e : Expression} {op : Comparison} {s : Operand} {ts x y rest : Input} → IsExpr e ts x → IsComparison op x y → IsOperand depth s y rest → IsPredicate depth (tree.compare e op s) ts rest
    member : {depth : ℕ} {e : Expression} {negated : Bool} {q : Query} {ts x y z rest : Input} → IsExpr e ts x → IsNot negated x y → Is k.In y z → IsSubquery depth q z rest → IsPredicate depth (tree.is_in e negated q) ts rest
    exists_one : {depth : ℕ} {q : Query} {ts x rest : Input} → Is k.Exists ts x → IsSubquery depth q x rest → IsPredicate depth (tree.exists q) ts rest

  pub data IsOperand : ℕ → Operand → Input → Input → Type 0 where
    expr_side : {depth : ℕ} {e : Expression} {ts rest : Input} → IsExpr e ts rest → IsOperand depth (tree.expression e) ts rest
    query_side : {depth : ℕ} {q : Query} {ts rest : Input} → IsSubquery depth q ts rest → IsOperand depth (tree.scalar_subquery q) ts rest

  pub data IsSubquery : ℕ → Query → Input → Input → Type 0 where
    nested : {depth : ℕ} {q : Query} {ts x y rest : Input} → Is k.LeftParen ts x → IsQuery depth q x y → Is k.RightParen y rest → IsSubquery (suc depth) q ts rest

  pub data IsFilter : ℕ → Filter → Input → Input → Type 0 where
    no_filter : {depth : ℕ} {ts : Input} → IsFilter depth tree.everything ts ts
    filter : {depth : ℕ} {a : Condition} {ts x rest : Input} → Is k.Where ts x → IsCond depth max_nesting a x rest → IsFilter depth (tree.those a) ts rest

  pub data IsQuery : ℕ → Query → Input → Input → Type 0 where
    selects : {depth : ℕ} {i : Items} {ss : List SourceReference} {f : Filter} {ts x y z w rest : Input} → Is k.Select ts x → IsItems i x y → Is k.From y z → IsSources ss z w → IsFilter depth f w rest
        → IsQuery depth (tree.select i ss f) ts rest

pub data IsColumnType : ColumnType → Input → Input → Type 0 where
  int_type : {ts rest : Input} → Is k.IntType ts rest → IsColumnType t.Int ts rest
  text_type : {ts rest : Input} → Is k.TextType ts rest → IsColumnType t.Text ts rest

pub data IsDefinition : ColumnDefinition → Input → Input → Type 0 where
  definition : {n : Name} {type : ColumnType} {ts x rest : Input} → IsName n ts x → IsColumnType type x rest → IsDefinition (record { name = n; of = type }) ts rest

-- the most columns of a table
abbrev pub max_columns : ℕ
max_columns = 8

pub data IsTuple : List Value → Input → Input → Type 0 where
  tuple : {vs : List Value} {ts x y rest : Input} → Is k.LeftParen ts x → Separated k.Comma IsLiteral vs x y → Is k.RightParen y rest → IsTuple vs ts rest

-- the greatest depth of subqueries in subqueries
abbrev pub max_depth : ℕ
max_depth = 4

pub data IsAssignment : Assignment → Input → Input → Type 0 where
  assigns : {n : Name} {s : Operand} {ts x y rest : Input} → IsName n ts x → Is k.Equal x y → IsOperand max_depth s y rest → IsAssignment (record { column = n; operand = s }) ts rest

pub data IsChange : Statement → Input → Input → Type 0 where
  inserts_rows : {n : Name} {tuples : List (List Value)} {ts x y z u rest : Input} → Is k.Insert ts x → Is k.Into x y → IsName n y z → Is k.Values z u → Separated k.Comma IsTuple tuples u rest → IsChange (tree.insert_rows n tuples) ts rest
  inserts_query : {n : Name} {q : Query} {ts x y z rest : Input} → Is k.Insert ts x → Is k.Into x y → IsName n y z → IsQuery max_depth q z rest → IsChange (tree.insert_query n q) ts rest
  deletes : {n : Name} {f : Filter} {ts x y z rest : Input} → Is k.Delete ts x → Is k.From x y → IsName n y z → IsFilter max_depth f z rest → IsChange (tree.delete n f) ts rest
  updates : {n : Name} {all : List Assignment} {f : Filter} {ts x y z u rest : Input} → Is k.Update ts x → IsName n x y → Is k.Set y z → Separated k.Comma IsAssignment all z u → IsFilter max_depth f u rest → IsChange (tree.update n all f) ts rest

-- ---- rules

abbrev pub IsNames : List Name → Input → Input → Type 0
IsNames = Separated k.Comma IsName

pub data IsTrigger : Trigger → Input → Input → Type 0 where
  at_insert : {ts rest : Input} → Is k.Inserted ts rest → IsTrigger tree.on_insert ts rest
  at_delete : {ts rest : Input} → Is k.Deleted ts rest → IsTrigger tree.on_delete ts rest
  at_update : {ts rest : Input} → Is k.Updated ts rest → IsTrigger tree.on_update ts rest
  at_update_of : {columns : List Name} {ts x y z rest : Input} → Is k.Updated ts x → Is k.LeftParen x y → IsNames columns y z → Is k.RightParen z rest → IsTrigger (tree.on_update_of columns) ts rest

pub data IsAction : Action → Input → Input → Type 0 where
  changes : {change : Statement} {ts rest : Input} → IsChange change ts rest → IsAction (tree.changes change) ts rest
  rolls_back : {ts rest : Input} → Is k.Rollback ts rest → IsAction tree.rolls_back ts rest

-- the most actions of a rule
abbrev pub max_actions : ℕ
max_actions = 8

-- the query behind `if`, or nothing
pub data IsIf : Option Query → Input → Input → Type 0 where
  always : {ts : Input} → IsIf None ts ts
  if_query : {q : Query} {ts x rest : Input} → Is k.If ts x → IsQuery max_depth q x rest → IsIf (Some q) ts rest

-- the names behind this word, or nothing
pub data IsListed (kind : TokenKind) : List Name → Input → Input → Type 0 where
  not_listed : {ts : Input} → IsListed kind [] ts ts
  listed : {names : List Name} {ts x rest : Input} → Is kind ts x → IsNames names x rest → IsListed kind names ts rest

-- the actions behind `then`, or nothing
pub data IsThen : Option (List Action) → Input → Input → Type 0 where
  as_before : {ts : Input} → IsThen None ts ts
  then_actions : {actions : List Action} {ts x rest : Input} → Is k.Then ts x → Separated k.Semicolon IsAction actions x rest → length actions ≤ max_actions → IsThen (Some actions) ts rest

-- two words and a name
pub data IsPhrase (first second : TokenKind) : Name → Input → Input → Type 0 where
  phrase : {n : Name} {ts x y rest : Input} → Is first ts x → Is second x y → IsName n y rest → IsPhrase first second n ts rest

-- a rule up to its triggers, and what stands behind them
pub data IsRuleHead : Name → Name → List Trigger → Input → Input → Type 0 where
  rule_head : {n on : Name} {triggers : List Trigger} {ts x y z w rest : Input} → IsPhrase k.Create k.Rule n ts x → Is k.On x y → IsName on y z → Is k.When z w → Separated k.Comma IsTrigger triggers w rest → IsRuleHead n on triggers ts rest

pub data IsRuleBody : Option Query → List Action → List Name → List Name → Input → Input → Type 0 where
  rule_body : {condition : Option Query} {actions : List Action} {precedes follows : List Name} {ts x y z w rest : Input} → IsIf condition ts x → Is k.Then x y → Separated k.Semicolon IsAction actions y z → length actions ≤ max_actions
      → IsListed k.Precedes precedes z w → IsListed k.Follows follows w rest → IsRuleBody condition actions precedes follows ts rest

pub data IsRule : RuleText → Input → Input → Type 0 where
  rule : {n on : Name} {all : List Trigger} {query : Option Query} {steps : List Action} {before after : List Name} {ts x rest : Input} → IsRuleHead n on all ts x → IsRuleBody query steps before after x rest
      → IsRule (record { name = n; table = on; triggers = all; condition = query; actions = steps; precedes = before; follows = after }) ts rest

-- new parts of a rule
pub data IsAlteration : AlterationText → Input → Input → Type 0 where
  alteration : {n : Name} {query : Option Query} {steps : Option (List Action)} {before after apart : List Name} {ts x y z u v rest : Input} → IsPhrase k.Alter k.Rule n ts x → IsIf query x y → IsThen steps y z
      → IsListed k.Precedes before z u → IsListed k.Follows after u v → IsListed k.NoPriority apart v rest
      → IsAlteration (record { name = n; condition = query; actions = steps; precedes = before; follows = after; nopriority = apart }) ts rest

-- ---- commands

pub data IsLeadingCommand : Command → Input → Input → Type 0 where
  opens : {ts rest : Input} → Is k.Open ts rest → IsLeadingCommand tree.open_session ts rest
  ends : {ts rest : Input} → Is k.End ts rest → IsLeadingCommand tree.end_session ts rest
  begins : {ts rest : Input} → Is k.Begin ts rest → IsLeadingCommand tree.begin ts rest
  commits : {ts rest : Input} → Is k.Commit ts rest → IsLeadingCommand tree.commit ts rest
  rolls_back : {ts rest : Input} → Is k.Rollback ts rest → IsLeadingCommand tree.rollback ts rest
  creates_table : {n : Name} {columns : List ColumnDefinition} {ts x y z rest : Input} → IsPhrase k.Create k.Table n ts x → Is k.LeftParen x y → Separated k.Comma IsDefinition columns y z → length columns ≤ max_columns → Is k.RightParen z rest
      → IsLeadingCommand (tree.create_table n columns) ts rest
  drops_table : {n : Name} {ts rest : Input} → IsPhrase k.Drop k.Table n ts rest → IsLeadingCommand (tree.drop_table n) ts rest
  creates_rule : {r : RuleText} {ts rest : Input} → IsRule r ts rest → IsLeadingCommand (tree.create_rule r) ts rest
  alters_rule : {r : AlterationText} {ts rest : Input} → IsAlteration r ts rest → IsLeadingCommand (tree.alter_rule r) ts rest
  drops_rule : {n : Name} {ts rest : Input} → IsPhrase k.Drop k.Rule n ts rest → IsLeadingCommand (tree.drop_rule n) ts rest
  activates : {n : Name} {ts rest : Input} → IsPhrase k.Activate k.Rule n ts rest → IsLeadingCommand (tree.activate_rule n) ts rest
  deactivates : {n : Name} {ts rest : Input} → IsPhrase k.Deactivate k.Rule n ts rest → IsLeadingCommand (tree.deactivate_rule n) ts rest
  creates_ruleset : {n : Name} {ts rest : Input} → IsPhrase k.Create k.Ruleset n ts rest → IsLeadingCommand (tree.create_ruleset n) ts rest
  drops_ruleset : {n : Name} {ts rest : Input} → IsPhrase k.Drop k.Ruleset n ts rest → IsLeadingCommand (tree.drop_ruleset n) ts rest
  adds_rules : {n : Name} {rules : List Name} {ts x y rest : Input} → IsPhrase k.Alter k.Ruleset n ts x → Is k.AddRules x y → IsNames rules y rest → IsLeadingCommand (tree.add_rules n rules) ts rest
  removes_rules : {n : Name} {rules : List Name} {ts x y rest : Input} → IsPhrase k.Alter k.Ruleset n ts x → Is k.DelRules x y → IsNames rules y rest → IsLeadingCommand (tree.del_rules n rules) ts rest
  processes : {ts x rest : Input} → Is k.Process ts x → Is k.Rules x rest → IsLeadingCommand tree.process_rules ts rest
  processes_ruleset : {n : Name} {ts rest : Input} → IsPhrase k.Process k.Ruleset n ts rest → IsLeadingCommand (tree.process_ruleset n) ts rest
  processes_rule : {n : Name} {ts rest : Input} → IsPhrase k.Process k.Rule n ts rest → IsLeadingCommand (tree.process_rule n) ts rest
  queries : {q : Query} {ts rest : Input} → IsQuery max_depth q ts rest → IsLeadingCommand (tree.query q) ts rest
  changes : {change : Statement} {ts rest : Input} → IsChange change ts rest → IsLeadingCommand (tree.change change) ts rest

-- the tokens, all of them, spell the command
abbrev pub IsCommand : Command → Input → Type 0
IsCommand s ts = IsLeadingCommand s ts []
