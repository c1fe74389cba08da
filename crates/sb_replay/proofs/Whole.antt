-- A replay as a whole.
use Rattle.std.proofs.Common.{◌≡◌, ℕ, zero, suc, ◌+◌, ◌<◌, ◌≤◌, Bool, ◌||◌, true, false, List, [], ◌∷◌, length, get_or, Option, Some, None, refl, sym, ap, ◌∙◌, subst, arith, Vec}
use Rattle.std.specs.Prelude.{IfSome}
use Rattle.std.specs.Global.{Global}
use Rattle.std.specs.List.{All, AllByRecursion}
use Rattle.std.specs.List.Sorted.{IsPermutation}
use Rattle.std.specs.Io.KnownBytes.{Appends}
use Rattle.std.proofs.lemmas.Bool.{true≢false}
use Rattle.std.proofs.lemmas.List.{nil_from_length}
use Rattle.std.proofs.lemmas.List.Elements.{recursion_from_All}
use Rattle.std.proofs.lemmas.List.Sorted.{length_permutation}
use Rattle.sb_tenant.specs.declared.bound.Bound.{Bound}
use Rattle.sb_tenant.specs.declared.reply.Entry.{Entry}
use Rattle.sb_tenant.specs.Limits.{trail_limit}
use Rattle.sb_desk.specs.declared.receipts.Receipt.{Receipt}
use Rattle.sb_host.specs.Finish.{IsInOrder, OrderIsFixed, gathered, rank, row_at, wanted}
use Rattle.sb_desk.specs.declared.stub.Stub.{Stub}
use Rattle.sb_replay.specs.Input.{commands_for}
use Rattle.sb_replay.specs.Scripts.{HoldsScript, commands_at, rows_of}
use Rattle.sb_replay.specs.Lists.{AllFrom}
use Rattle.sb_replay.specs.Sessions.{AllFullBy, Attends, Exchange, any_lacks, lacks_number}
use Rattle.sb_replay.specs.Sheets.{Sheet, lines_of, texts_of}
use Rattle.sb_replay.specs.Parts.{AreAttended, Attended, AttendedAt, MovesIn, Opens, PlaysOut, session_at, tenant_at}
use Rattle.sb_replay.specs.Replay.{IsFullBy, Replays, Reports}
use Rattle.sb_replay.specs.declared.part.SessionPart.{SessionPart}
use Rattle.sb_replay.proofs.Lists.{then_zip}
use Rattle.sb_replay.proofs.Playing.{Finished, plays_all}
use Rattle.sb_replay.proofs.Ending.{all_attended}

-- from the opened sessions to what they leave
pub plays_through : {N : Type 0} (rounds : ℕ) (rows : List (Vec (Vec ℕ Global) Global)) (parts : List (SessionPart N)) (sheets : List Sheet) (stubs : List Stub)
    → All (λ row. length row.items ≤ rounds) rows → AllFrom Opens 0 rows parts → PlaysOut rounds parts sheets stubs → AreAttended rows sheets stubs
plays_through rounds rows parts sheets stubs few opens (last, moves, closes) =
    let P : Vec (Vec ℕ Global) Global → Type 0 = λ row. length row.items ≤ rounds in
    let finished : AllFrom Finished 0 rows last =
    then_zip P Opens (MovesIn rounds) Finished (λ k row old new within opened on. plays_all rounds k row old new within opened on) 0 rows parts last (recursion_from_All P rows few) opens moves in
    all_attended (λ j. gathered (tenant_at j) (session_at j) stubs) rows last sheets stubs (λ j. refl) finished closes

-- ---- one session

-- where some answer had no number the trail is full
full_by : (trail : ℕ) (es : List Exchange) → (any_lacks es ≡ true → trail_limit ≤ trail) → AllFullBy trail es
full_by trail [] h = tt
full_by trail (e ∷ es) h = (λ lacks. h (first (lacks_number e.given) (any_lacks es) lacks), full_by trail es (λ some. h (second (lacks_number e.given) (any_lacks es) some)))
  where
    first : (a b : Bool) → a ≡ true → (a || b) ≡ true
    first true b e = refl
    first false b e = absurd (true≢false (sym e))

    second : (a b : Bool) → b ≡ true → (a || b) ≡ true
    second true b e = refl
    second false b e = e

attends : (t s : ℕ) (commands : List (List ℕ)) (receipts : List Receipt) (trails : List (Vec Entry Global)) (sheet : Sheet)
    → OrderIsFixed → Attended t s commands receipts sheet → IsPermutation receipts (wanted t s trails) → IsFullBy trails sheet
    → Attends t s commands (wanted t s trails) (length (row_at trails t)) sheet.text
attends t s commands receipts trails sheet fixed a same full = record {
  exchanges = a.exchanges;
  commands_are = a.commands_are;
  text_is = a.text_is;
  full = full_by (length (row_at trails t)) a.exchanges (λ some. subst (λ (u : ℕ). trail_limit ≤ length (row_at trails u)) a.tenant_is (full (a.full_is ∙ some)));
  unopened = λ none. nil_from_length (wanted t s trails) (length_permutation receipts (wanted t s trails) same ∙ ap length (a.unopened none));
  opened = λ some. let stub = a.opened some in (stub.0, stub.1, stub.3 ∙ fixed s (row_at trails t) receipts same (subst IsInOrder stub.3 stub.2));
}

-- ---- all sessions

-- the one at a place
at_place : (R : ℕ → Vec (Vec ℕ Global) Global → Sheet → Type 0) (P : Sheet → Type 0) (k : ℕ) (rows : List (Vec (Vec ℕ Global) Global)) (sheets : List Sheet)
    → AllFrom R k rows sheets → AllByRecursion P sheets → (i : ℕ) → i < length rows
    → (row : Vec (Vec ℕ Global) Global) × (sheet : Sheet)
    × (commands_at (rows_of rows) i ≡ lines_of row.items) × (get_or (texts_of sheets) i [] ≡ sheet.text) × R (k + i) row sheet × P sheet
at_place R P k [] sheets all every i within = absurd (omega arith)
at_place R P k (row ∷ rows) [] all every i within = absurd all
at_place R P k (row ∷ rows) (sheet ∷ sheets) all every zero within =
    let at : k ≡ k + 0 = omega arith in
    (row, sheet, refl, refl, subst (λ (j : ℕ). R j row sheet) at all.0, every.0)
at_place R P k (row ∷ rows) (sheet ∷ sheets) all every (suc i) within =
    let found = at_place R P (k + 1) rows sheets all.1 every.1 i (omega arith) in
    let at : (k + 1) + i ≡ k + suc i = omega arith in
    (found.0, found.1, found.2, found.3, subst (λ (j : ℕ). R j found.0 found.1) at found.4, found.5)

same_length : (R : ℕ → Vec (Vec ℕ Global) Global → Sheet → Type 0) (k : ℕ) (rows : List (Vec (Vec ℕ Global) Global)) (sheets : List Sheet)
    → AllFrom R k rows sheets → length (texts_of sheets) ≡ length rows
same_length R k [] [] all = refl
same_length R k [] (sheet ∷ sheets) all = absurd all
same_length R k (row ∷ rows) [] all = absurd all
same_length R k (row ∷ rows) (sheet ∷ sheets) all = let others = same_length R (k + 1) rows sheets all.1 in omega arith

pub replays : (tenants : ℕ) (bound : Bound) (input text : List ℕ) (rows : List (Vec (Vec ℕ Global) Global)) (sheets : List Sheet) (stubs : List Stub)
    → OrderIsFixed → HoldsScript tenants input rows → AreAttended rows sheets stubs → Reports tenants bound stubs sheets text → Replays tenants bound input text
replays tenants bound input text rows sheets stubs fixed script attended reports =
    let R : ℕ → Vec (Vec ℕ Global) Global → Sheet → Type 0 = AttendedAt (λ k. gathered (tenant_at k) (session_at k) stubs) in
    let every = recursion_from_All (IsFullBy reports.trails) sheets reports.full in
    record {
      asks = script.asks;
      asked = script.asked;
      trails = reports.trails;
      legal = reports.legal;
      texts = texts_of sheets;
      count = same_length R 0 rows sheets attended ∙ script.count;
      attends = λ t s few small.
          let count = script.count in
          let found = at_place R (IsFullBy reports.trails) 0 rows sheets attended every (rank t s) (omega (arith, few, small, count)) in
          let tenant : tenant_at (0 + rank t s) ≡ t = omega (arith, small) in
          let session : session_at (0 + rank t s) ≡ s = omega (arith, small) in
          let one : Attended t s (lines_of found.0.items) (gathered t s stubs) found.1 =
          subst (λ (r : ℕ). Attended t r (lines_of found.0.items) (gathered t r stubs) found.1) session
          (subst (λ (u : ℕ). Attended u (session_at (0 + rank t s)) (lines_of found.0.items) (gathered u (session_at (0 + rank t s)) stubs) found.1) tenant found.4) in
          let commands : lines_of found.0.items ≡ commands_for t s script.asks = sym found.2 ∙ script.rows_are t s few small in
          let done = attends t s (lines_of found.0.items) (gathered t s stubs) reports.trails found.1 fixed one (reports.agree t s small) found.5 in
          subst (λ (l : List ℕ). Attends t s (commands_for t s script.asks) (wanted t s reports.trails) (length (row_at reports.trails t)) l) (sym found.3)
          (subst (λ (l : List (List ℕ)). Attends t s l (wanted t s reports.trails) (length (row_at reports.trails t)) found.1.text) commands done);
      text_is = reports.text_is;
    }

-- where the input is known
pub replays_known : (tenants : ℕ) (bound : Bound) (known : Option (List ℕ)) (text : List ℕ) (rows : List (Vec (Vec ℕ Global) Global)) (sheets : List Sheet) (stubs : List Stub)
    → OrderIsFixed → IfSome known (λ input. HoldsScript tenants input rows) → AreAttended rows sheets stubs → Reports tenants bound stubs sheets text
    → IfSome known (λ input. Replays tenants bound input text)
replays_known tenants bound None text rows sheets stubs fixed script attended reports = tt
replays_known tenants bound (Some input) text rows sheets stubs fixed script attended reports = replays tenants bound input text rows sheets stubs fixed script attended reports

pub and_appends : (tenants : ℕ) (bound : Bound) (known old new : Option (List ℕ)) (text : List ℕ)
    → IfSome known (λ input. Replays tenants bound input text) → Appends old new text
    → IfSome known (λ input. (text : List ℕ) × Appends old new text × Replays tenants bound input text)
and_appends tenants bound None old new text replays appends = tt
and_appends tenants bound (Some input) old new text replays appends = (text, appends, replays)
