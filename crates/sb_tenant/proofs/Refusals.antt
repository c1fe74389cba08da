-- Refusals and queries on whole scripts, by computation.
use Rattle.std.specs.Prelude.{◌≡◌, true, List, [], ◌∷◌, ◌++◌, map, refl, codes}
use Rattle.sb_value.specs.declared.refusal.Refusal.TheVariants as refusal
use Rattle.sb_value.specs.declared.value.Value.{Value}
use Rattle.sb_value.specs.declared.value.Value.TheVariants.{Text}
use Rattle.sb_syntax.specs.declared.tree.Arithmetic.TheVariants.{Add, Multiply}
use Rattle.sb_syntax.specs.declared.tree.Comparison.TheVariants.{Equal, Less, LessEqual}
use Rattle.sb_syntax.specs.declared.tree.TableReference.TheVariants.{Named, Inserted}
use Rattle.sb_syntax.specs.Tree.{Name, literal, binary, all, sum_of, each_of, compare, is_in, exists, expression, scalar_subquery, everything, those, select, update, open_session, begin, commit, process_ruleset, process_rule, create_table, drop_table, create_ruleset, query, change}
use Rattle.sb_tenant.specs.declared.reply.Reply.TheVariants as reply
use Rattle.sb_tenant.proofs.Script.{replies, replies_in_sessions, int, row, t, h, a, b, integer_column, text_column, named, of_table, number, equals, source, aliased, all_of, a_of, columns_of, show, insert, start, started, no}

-- each refusal of a session, a name, a type or a count, one after another
pub refusals_in_order : replies_in_sessions 1000 (
    map (λ c. (0, c)) (begin ∷ open_session ∷ open_session ∷ commit
    ∷ create_table t (integer_column a ∷ integer_column a ∷ []) ∷ create_table t (integer_column a ∷ []) ∷ create_table t (integer_column a ∷ []) ∷ drop_table (codes "u")
    ∷ begin ∷ begin ∷ create_ruleset (codes "s")
    ∷ insert t ((int 1 ∷ int 2 ∷ []) ∷ []) ∷ insert t ((Text (codes "x") ∷ []) ∷ [])
    ∷ query (columns_of (b ∷ []) (t ∷ [])) ∷ query (all_of Inserted everything) ∷ process_rule (codes "r") ∷ process_ruleset (codes "s") ∷ [])
    ++ (1, open_session) ∷ (1, create_ruleset (codes "s")) ∷ [])
    ≡ no refusal.NotOpen ∷ reply.Ok ∷ no refusal.AlreadyOpen ∷ no refusal.NoTransaction
    ∷ no refusal.Ambiguous ∷ reply.Ok ∷ no refusal.TableExists ∷ no refusal.NoTable
    ∷ reply.Ok ∷ no refusal.InTransaction ∷ no refusal.InTransaction
    ∷ no refusal.WrongCount ∷ no refusal.BadType
    ∷ no refusal.NoColumn ∷ no refusal.BadTransition ∷ no refusal.NoRule ∷ no refusal.NoRuleset
    ∷ reply.Ok ∷ no refusal.Busy ∷ []
refusals_in_order = refl

-- a subquery with a column of the table that is updated, and names and types that are refused
pub names_and_types : replies 1000 (start ++ begin ∷ insert t (row 1 ∷ row 1 ∷ row 3 ∷ []) ∷ insert h (row 1 ∷ row 2 ∷ row 3 ∷ [])
    ∷ change (update h (record { column = a; operand = scalar_subquery (select (sum_of (of_table t a)) (source (Named t) ∷ []) (equals (of_table t a) (of_table h a))) } ∷ []) everything)
    ∷ show h
    ∷ query (columns_of (a ∷ []) (t ∷ h ∷ []))
    ∷ query (select (each_of (of_table t a ∷ [])) (source (Named t) ∷ source (Named t) ∷ []) everything)
    ∷ query (all_of (Named t) (those (compare (named a) Equal (scalar_subquery (a_of (Named h))))))
    ∷ query (all_of (Named t) (equals (binary (named a) Add (literal (Text (codes "x")))) (number 1))) ∷ [])
    ≡ started ++ reply.Ok ∷ reply.Count 3 ∷ reply.Count 3 ∷ reply.Count 3 ∷ reply.Rows (row 2 ∷ row 0 ∷ row 3 ∷ [])
    ∷ no refusal.Ambiguous ∷ no refusal.Ambiguous ∷ no refusal.WrongCount ∷ no refusal.BadType ∷ []
names_and_types = refl

-- two sources with aliases, `exists`, `not in`, a sum over combinations, and texts by their bytes
abbrev x : Name
x = codes "x"

abbrev y : Name
y = codes "y"

abbrev u : Name
u = codes "u"

abbrev words : List (List Value)
words = (Text (codes "b") ∷ []) ∷ (Text (codes "a") ∷ []) ∷ (Text [] ∷ []) ∷ (Text (codes "ab") ∷ []) ∷ []

pub queries : replies 1000 (start ++ create_table u (text_column (codes "s") ∷ []) ∷ begin
    ∷ insert t (row 1 ∷ row 2 ∷ []) ∷ insert h (row 2 ∷ row 3 ∷ []) ∷ insert u words
    ∷ query (select (each_of (of_table x a ∷ of_table y a ∷ [])) (aliased t x ∷ aliased h y ∷ []) (those (compare (of_table x a) Less (expression (of_table y a)))))
    ∷ query (all_of (Named t) (those (exists (all_of (Named h) (equals (of_table h a) (of_table t a))))))
    ∷ query (all_of (Named t) (those (is_in (named a) true (a_of (Named h)))))
    ∷ query (select (sum_of (binary (of_table x a) Multiply (of_table y a))) (aliased t x ∷ aliased h y ∷ []) everything)
    ∷ query (all_of (Named u) (those (compare (named (codes "s")) LessEqual (expression (literal (Text (codes "ab")))))))
    ∷ query (select all (aliased t x ∷ []) (equals (of_table t a) (number 1))) ∷ [])
    ≡ started ++ reply.Ok ∷ reply.Ok ∷ reply.Count 2 ∷ reply.Count 2 ∷ reply.Count 4
    ∷ reply.Rows ((int 1 ∷ int 2 ∷ []) ∷ (int 1 ∷ int 3 ∷ []) ∷ (int 2 ∷ int 3 ∷ []) ∷ [])
    ∷ reply.Rows (row 2 ∷ []) ∷ reply.Rows (row 1 ∷ []) ∷ reply.Rows (row 15 ∷ [])
    ∷ reply.Rows ((Text (codes "a") ∷ []) ∷ (Text [] ∷ []) ∷ (Text (codes "ab") ∷ []) ∷ []) ∷ no refusal.NoColumn ∷ []
queries = refl
