-- What kind of command the walk of a command resolves to.
use Rattle.std.proofs.Common.{◌≡◌, Bool, true, false, Option, Some, None, Result, Ok, Err, refl}
use Rattle.sb_value.specs.declared.refusal.Refusal.{Refusal}
use Rattle.sb_syntax.specs.Tree as text
use Rattle.sb_syntax.specs.Tree.{Command}
use Rattle.sb_check.specs.Names.{and_then, required}
use Rattle.sb_tenant.specs.State.{Catalog}
use Rattle.sb_tenant.specs.Resolved.{Resolved, open_session, end_session, begin, commit, rollback, process_rules, query, change}
use Rattle.sb_tenant.specs.Walk.{unless, walk}

-- it opens or ends a session
abbrev pub is_edge : Resolved → Bool
is_edge open_session = true
is_edge end_session = true
is_edge other = false

abbrev pub is_edge_command : Command → Bool
is_edge_command text.open_session = true
is_edge_command text.end_session = true
is_edge_command other = false

-- it asks for locks
abbrev pub is_locking : Resolved → Bool
is_locking (query q) = true
is_locking (change c) = true
is_locking other = false

abbrev pub is_statement : Command → Bool
is_statement (text.query q) = true
is_statement (text.change c) = true
is_statement other = false

-- a walk that is refused, or resolves to what is of the command's kind
pub data IsOf (c : Command) : Result Resolved Refusal → Type 0 where
  refused : (e : Refusal) → IsOf c (Err e)
  resolved : (r : Resolved) → is_edge r ≡ is_edge_command c → is_locking r ≡ is_statement c → IsOf c (Ok r)

of-required : (c : Command) (b : Bool) (e : Refusal) (next : Result Resolved Refusal) → IsOf c next → IsOf c (required b e next)
of-required c true e next h = h
of-required c false e next h = refused e

of-unless : (c : Command) (o : Option Refusal) (next : Result Resolved Refusal) → IsOf c next → IsOf c (unless o next)
of-unless c None next h = h
of-unless c (Some e) next h = refused e

of-then : (c : Command) {A : Type 0} (r : Result A Refusal) (next : A → Result Resolved Refusal) → ((a : A) → IsOf c (next a)) → IsOf c (and_then r next)
of-then c (Ok a) next h = h a
of-then c (Err e) next h = refused e

pub kind-walk : (catalog : Catalog) (c : Command) → IsOf c (walk catalog c)
kind-walk catalog text.open_session = resolved open_session refl refl
kind-walk catalog text.end_session = resolved end_session refl refl
kind-walk catalog text.begin = resolved begin refl refl
kind-walk catalog text.commit = resolved commit refl refl
kind-walk catalog text.rollback = resolved rollback refl refl
kind-walk catalog text.process_rules = resolved process_rules refl refl
kind-walk catalog (text.process_ruleset name) = search (of-required, resolved)
kind-walk catalog (text.process_rule name) = search (of-then, resolved)
kind-walk catalog (text.create_table name columns) = search (of-then, of-required, resolved)
kind-walk catalog (text.drop_table name) = search (of-required, of-then, resolved)
kind-walk catalog (text.create_rule r) = search (of-required, of-then, resolved) depth 16
kind-walk catalog (text.alter_rule r) = search (of-then, resolved) depth 16
kind-walk catalog (text.drop_rule name) = search (of-then, resolved)
kind-walk catalog (text.activate_rule name) = search (of-then, resolved)
kind-walk catalog (text.deactivate_rule name) = search (of-then, resolved)
kind-walk catalog (text.create_ruleset name) = search (of-unless, resolved)
kind-walk catalog (text.drop_ruleset name) = search (of-required, resolved)
kind-walk catalog (text.add_rules name rules) = search (of-required, of-then, resolved)
kind-walk catalog (text.del_rules name rules) = search (of-required, of-then, resolved)
kind-walk catalog (text.query q) = search (of-then, resolved)
kind-walk catalog (text.change c) = search (of-then, resolved)
