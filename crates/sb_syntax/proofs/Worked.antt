-- The commands of a few texts, computed.
use Rattle.std.proofs.Common.{◌≡◌, [], ◌∷◌, codes, pos, Some, None, refl}
use Rattle.sb_value.specs.declared.value.Value.TheVariants.{Int, Text}
use Rattle.sb_syntax.specs.declared.tree.Comparison.TheVariants.{Less}
use Rattle.sb_syntax.specs.declared.tree.ColumnReference.TheVariants.{Plain, Qualified}
use Rattle.sb_syntax.specs.declared.tree.TableReference.TheVariants.{Named, Deleted, OldUpdated}
use Rattle.sb_syntax.specs.Tree as tree
use Rattle.sb_syntax.specs.Tree.{Command, RuleText}
use Rattle.sb_syntax.specs.Text.{command_of}

open_is : command_of (codes " open ") ≡ Some tree.open_session
unfolding command_of
open_is = refl

pub begin_is : command_of (codes "begin") ≡ Some tree.begin
unfolding command_of
begin_is = refl

pub commit_is : command_of (codes "commit") ≡ Some tree.commit
unfolding command_of
commit_is = refl

insert_is : command_of (codes "insert into t values (1, 'it''s')") ≡ Some (tree.change (tree.insert_rows (codes "t") ((Int (pos 1) ∷ Text (codes "it's") ∷ []) ∷ [])))
unfolding command_of
insert_is = refl

select_is : command_of (codes "select count(*) from t u where old-updated.a < 2") ≡ Some (tree.query (tree.select tree.count (record { table = Named (codes "t"); alias = Some (codes "u") } ∷ [])
    (tree.those (tree.compare (tree.column (Qualified OldUpdated (codes "a"))) Less (tree.expression (tree.literal (Int (pos 2))))))))
unfolding command_of
select_is = refl

update_is : command_of (codes "update t set a = b") ≡ Some (tree.change (tree.update (codes "t") (record { column = codes "a"; operand = tree.expression (tree.column (Plain (codes "b"))) } ∷ []) tree.everything))
unfolding command_of
update_is = refl

rule_text : RuleText
rule_text = record {
  name = codes "r";
  table = codes "t";
  triggers = tree.on_update_of (codes "a" ∷ []) ∷ tree.on_delete ∷ [];
  condition = Some (tree.select tree.all (record { table = Deleted; alias = None } ∷ []) tree.everything);
  actions = tree.rolls_back ∷ [];
  precedes = [];
  follows = codes "p" ∷ codes "q" ∷ [];
}

rule_is : command_of (codes "create rule r on t when updated(a), deleted if select * from deleted then rollback follows p, q") ≡ Some (tree.create_rule rule_text)
unfolding command_of rule_text
rule_is = refl

refused_is : command_of (codes "open select") ≡ None
unfolding command_of
refused_is = refl
