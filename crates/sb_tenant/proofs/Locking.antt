-- Table locks of two sessions on whole scripts, by computation.
use Rattle.std.specs.Prelude.{◌≡◌, ℕ, List, [], ◌∷◌, ◌++◌, map, None, refl, codes, pos}
use Rattle.sb_value.specs.declared.refusal.Refusal.TheVariants as refusal
use Rattle.sb_value.specs.declared.value.Value.TheVariants.{Int}
use Rattle.sb_syntax.specs.declared.tree.TableReference.TheVariants.{Named, Inserted}
use Rattle.sb_syntax.specs.Tree.{each_of, everything, select, on_insert, insert_query, Command, open_session, begin, commit, rollback, change}
use Rattle.sb_tenant.specs.declared.reply.Reply.TheVariants as reply
use Rattle.sb_tenant.proofs.Script.{replies_in_sessions, row, t, h, a_of, show, source, plus_one, insert, start, started, rule, copies, no, refused, done}

abbrev first : List Command → List (ℕ × Command)
first commands = map (λ c. (0, c)) commands

-- a lock refuses a statement, and a rule's action, which rolls the transaction back
pub locked_action : replies_in_sessions 1000 (first (start ++ rule (codes "r") (on_insert ∷ []) None (copies Inserted ∷ []) [] [] ∷ []) ++ (1, open_session)
    ∷ (0, begin) ∷ (0, insert h (row 1 ∷ [])) ∷ (1, begin) ∷ (1, insert h (row 2 ∷ [])) ∷ (1, insert t (row 3 ∷ [])) ∷ (1, commit) ∷ (0, commit)
    ∷ (1, begin) ∷ (1, show h) ∷ (1, show t) ∷ [])
    ≡ started ++ reply.Ok ∷ reply.Ok
    ∷ reply.Ok ∷ reply.Count 1 ∷ reply.Ok ∷ no (refusal.Locked h) ∷ reply.Count 1
    ∷ reply.ByError (codes "r") (refusal.Locked h) (refused (codes "r") ∷ []) ∷ done []
    ∷ reply.Ok ∷ reply.Rows (row 1 ∷ []) ∷ reply.Rows [] ∷ []
locked_action = refl

-- a refused request keeps no lock; a sole reader may become the writer
pub locks_of_two_sessions : replies_in_sessions 1000 (first start ++ (1, open_session)
    ∷ (0, begin) ∷ (0, insert h (row 1 ∷ [])) ∷ (1, begin) ∷ (1, change (insert_query t (a_of (Named h)))) ∷ (0, insert t (row 2 ∷ [])) ∷ (0, commit)
    ∷ (1, show t) ∷ (0, begin) ∷ (0, show t) ∷ (0, insert t (row 3 ∷ [])) ∷ (1, commit) ∷ (0, insert t (row 3 ∷ [])) ∷ [])
    ≡ started ++ reply.Ok
    ∷ reply.Ok ∷ reply.Count 1 ∷ reply.Ok ∷ no (refusal.Locked h) ∷ reply.Count 1 ∷ done []
    ∷ reply.Rows (row 2 ∷ []) ∷ reply.Ok ∷ reply.Rows (row 2 ∷ []) ∷ no (refusal.Locked t) ∷ done [] ∷ reply.Count 1 ∷ []
locks_of_two_sessions = refl

-- a statement that is refused once its locks are taken keeps them
pub locks_stay : replies_in_sessions 1000 (first start ++ (1, open_session)
    ∷ (0, begin) ∷ (0, insert t ((Int (pos 9223372036854775807) ∷ []) ∷ [])) ∷ (0, commit)
    ∷ (0, begin) ∷ (0, change (insert_query h (select (each_of (plus_one ∷ [])) (source (Named t) ∷ []) everything)))
    ∷ (1, begin) ∷ (1, insert h (row 1 ∷ [])) ∷ (1, insert t (row 1 ∷ [])) ∷ (0, rollback) ∷ (1, insert h (row 1 ∷ [])) ∷ [])
    ≡ started ++ reply.Ok
    ∷ reply.Ok ∷ reply.Count 1 ∷ done []
    ∷ reply.Ok ∷ no refusal.Overflow
    ∷ reply.Ok ∷ no (refusal.Locked h) ∷ no (refusal.Locked t) ∷ reply.Ok ∷ reply.Count 1 ∷ []
locks_stay = refl
