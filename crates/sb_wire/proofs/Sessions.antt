-- Whole sessions from bytes to bytes, by computation.
use Rattle.std.specs.Prelude.{◌≡◌, [], ◌∷◌, refl, codes}
use Rattle.std.specs.Fmt.{digits}
use Rattle.sb_syntax.specs.Text.{command_of}
use Rattle.sb_wire.specs.Output.{prefixed}
use Rattle.sb_wire.proofs.Script.{answered_by}

-- a session from `open` to `end`, whose second transaction reads what the first one committed
pub a_whole_session : answered_by (codes "open" ∷ codes "create table t (a int, b text)" ∷ codes "begin" ∷ codes "insert into t values (1, 'x''y'), (-2, '')" ∷ codes "select * from t" ∷ codes "commit"
    ∷ codes "begin" ∷ codes "select * from t" ∷ codes "end" ∷ [])
    ≡ prefixed (codes "0 0") (codes "ok" ∷ codes "ok" ∷ codes "ok" ∷ codes "ok 2" ∷ codes "rows 2" ∷ codes "1,'x''y'" ∷ codes "-2,''" ∷ codes "done 0"
    ∷ codes "ok" ∷ codes "rows 2" ∷ codes "1,'x''y'" ∷ codes "-2,''" ∷ codes "ok" ∷ [])
unfolding digits command_of
a_whole_session = refl

-- a deleted department takes its employees with it
pub a_cascading_delete : answered_by (codes "open" ∷ codes "create table dept (dno int)" ∷ codes "create table emp (ename text, dno int)"
    ∷ codes "create rule cascade on dept when deleted then delete from emp where dno in (select dno from deleted)"
    ∷ codes "begin" ∷ codes "insert into dept values (1), (2)" ∷ codes "insert into emp values ('ann', 1), ('bob', 2), ('cy', 1)" ∷ codes "commit"
    ∷ codes "begin" ∷ codes "delete from dept where dno = 1" ∷ codes "commit" ∷ codes "begin" ∷ codes "select ename from emp" ∷ [])
    ≡ prefixed (codes "0 0") (codes "ok" ∷ codes "ok" ∷ codes "ok" ∷ codes "ok"
    ∷ codes "ok" ∷ codes "ok 2" ∷ codes "ok 3" ∷ codes "done 0"
    ∷ codes "ok" ∷ codes "ok 1" ∷ codes "done 1" ∷ codes "cascade true" ∷ codes "ok" ∷ codes "rows 1" ∷ codes "'bob'" ∷ [])
unfolding digits command_of
a_cascading_delete = refl
