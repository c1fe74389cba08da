-- A statement is prepared.
use Rattle.std.proofs.Common.{◌≡◌, ℕ, ◌+◌, List, [], ◌∷◌, ◌++◌, Option, Some, None, Result, Ok, Err, refl, ap, sym, ◌∙◌, subst, inl, inr, arith}
use Rattle.std.proofs.lemmas.List.FromFn.{map-range_with_len_more}
use Rattle.sb_value.specs.declared.value.ColumnType.{ColumnType}
use Rattle.sb_postgres.specs.declared.query.error.QueryError.{QueryError}
use Rattle.sb_postgres.specs.declared.query.error.QueryError.TheVariants as errors
use Rattle.sb_postgres.specs.declared.query.statement.Statement.{Statement}
use Rattle.sb_postgres.specs.declared.query.statements.Statements.{Statements}
use Rattle.sb_postgres.specs.declared.query.template.FillError.{FillError}
use Rattle.sb_postgres.specs.Lines.{Lines, end, line}
use Rattle.sb_postgres.specs.Statements.{HasLines, IsNext, Leaves, place_of, text_of}
use Rattle.sb_postgres.specs.Templates.{Counts}
use Rattle.sb_frontend.specs.declared.denial.Denial.{Denial}
use Rattle.sb_frontend.specs.declared.denial.Denial.TheVariants as d
use Rattle.sb_frontend.specs.Denials.{Comes, of_fill, of_query}
use Rattle.sb_frontend.specs.Outcomes.{line_found}
use Rattle.sb_frontend.specs.Portals.{PreparedBy, chosen, chosen_at, one_of}
use Rattle.sb_frontend.proofs.Playing.{lines-all, next-none, next-some}

-- ---- the one statement of a text

abbrev pub HasOne : List ℕ → Result (Option Statement) Denial → Type 0
HasOne text found = (ls : Lines) × HasLines 0 text ls × Comes (one_of ls) (line_found found)

abbrev pub Begun : Statements → List ℕ → Type 0
Begun s text = (place_of s ≡ 0) × (text_of s ≡ text) × (ls : Lines) × Leaves s ls

-- the lines of the text, and what comes first
abbrev pub First : Statements → Statements → Result (Option Statement) QueryError → Type 0
First s left r = (ls : Lines) → Leaves s ls → IsNext ls left r

unread-first : (ls : Lines) (left : Statements) (e : QueryError) → IsNext ls left (Err e) → Comes (one_of ls) (Err (of_query e))
unread-first ls left errors.Memory is = inr refl
unread-first ls left (errors.Refused r) is = inl (sym (ap one_of is))

unread-second : (bytes places : List ℕ) (more : Lines) (left : Statements) (e : QueryError) → IsNext more left (Err e) → Comes (one_of (line bytes places more)) (Err (of_query e))
unread-second bytes places more left errors.Memory is = inr refl
unread-second bytes places more left (errors.Refused r) is = inl (sym (ap (λ (ls : Lines). one_of (line bytes places ls)) is))

as-next : (ls : Lines) (left : Statements) (r is : Result (Option Statement) QueryError) → r ≡ is → IsNext ls left r → IsNext ls left is
as-next ls left r is e next = subst (λ (t : Result (Option Statement) QueryError). IsNext ls left t) e next

pub none-first : (s left : Statements) (text : List ℕ) (r : Result (Option Statement) QueryError) → Begun s text → First s left r → r ≡ Ok None → HasOne text (Ok None)
none-first s left text r begun first e =
    let ls = begun.2 in
    let is : ls ≡ end = next-none ls left r (first ls begun.3) e in
    (ls, lines-all s text ls begun.0 begun.1 begun.3, inl (sym (ap one_of is)))

pub error-first : (s left : Statements) (text : List ℕ) (r : Result (Option Statement) QueryError) (error : QueryError) (why : Denial) → Begun s text → First s left r → r ≡ Err error → why ≡ of_query error → HasOne text (Err why)
error-first s left text r error why begun first e told =
    let ls = begun.2 in
    let comes : Comes (one_of ls) (Err (of_query error)) = unread-first ls left error (as-next ls left r (Err error) e (first ls begun.3)) in
    (ls, lines-all s text ls begun.0 begun.1 begun.3, subst (λ (w : Denial). Comes (one_of ls) (Err w)) (sym told) comes)

-- behind the first statement
abbrev pub Second : Statements → List ℕ → Statement → (Lines → Type 0) → Type 0
Second left text first After = (ls more : Lines) × HasLines 0 text ls × (ls ≡ line first.line.items first.origins.items more) × After more

pub second-of : (s left end-of : Statements) (text : List ℕ) (r second : Result (Option Statement) QueryError) (first : Statement) → Begun s text → First s left r → r ≡ Ok (Some first) → First left end-of second
    → Second left text first (λ more. IsNext more end-of second)
second-of s left end-of text r second first begun next e behind =
    let ls = begun.2 in
    let n = next-some ls left r first (next ls begun.3) e in
    (ls, n.0, lines-all s text ls begun.0 begun.1 begun.3, n.2, behind n.0 n.1)

as-lines : (ls is : Lines) (found : Result (Option (List ℕ)) Denial) → ls ≡ is → Comes (one_of is) found → Comes (one_of ls) found
as-lines ls is found e comes = subst (λ (l : Lines). Comes (one_of l) found) (sym e) comes

pub one-alone : (left end-of : Statements) (text : List ℕ) (first : Statement) (second : Result (Option Statement) QueryError) → Second left text first (λ more. IsNext more end-of second) → second ≡ Ok None → HasOne text (Ok (Some first))
one-alone left end-of text first second h e =
    let none : h.1 ≡ end = as-next h.1 end-of second (Ok None) e h.4 in
    let is : h.0 ≡ line first.line.items first.origins.items end = h.3 ∙ ap (line first.line.items first.origins.items) none in
    (h.0, h.2, as-lines h.0 (line first.line.items first.origins.items end) (Ok (Some first.line.items)) is (inl refl))

pub one-of-several : (left end-of : Statements) (text : List ℕ) (first other : Statement) (second : Result (Option Statement) QueryError) → Second left text first (λ more. IsNext more end-of second) → second ≡ Ok (Some other) → HasOne text (Err d.Several)
one-of-several left end-of text first other second h e =
    let n = next-some h.1 end-of second other h.4 e in
    let is : h.0 ≡ line first.line.items first.origins.items (line other.line.items other.origins.items n.0) = h.3 ∙ ap (line first.line.items first.origins.items) n.2 in
    (h.0, h.2, as-lines h.0 _ (Err d.Several) is (inl refl))

pub error-second : (left end-of : Statements) (text : List ℕ) (first : Statement) (second : Result (Option Statement) QueryError) (error : QueryError) (why : Denial) → Second left text first (λ more. IsNext more end-of second)
    → second ≡ Err error → why ≡ of_query error → HasOne text (Err why)
error-second left end-of text first second error why h e told =
    let comes : Comes (one_of (line first.line.items first.origins.items h.1)) (Err (of_query error)) =
    unread-second first.line.items first.origins.items h.1 end-of error (as-next h.1 end-of second (Err error) e h.4) in
    (h.0, h.2, as-lines h.0 (line first.line.items first.origins.items h.1) (Err why) h.3 (subst (λ (w : Denial). Comes (one_of (line first.line.items first.origins.items h.1)) (Err w)) (sym told) comes))

-- ---- its types

pub not-counted : (bytes given : List ℕ) (error : FillError) (r : Result ℕ FillError) (why : Denial) → Counts bytes r → r ≡ Err error → why ≡ of_fill error → PreparedBy given (Ok (Some bytes)) (Err why)
not-counted bytes given error r why counts is told = ([], Err error, subst (λ (c : Result ℕ FillError). Counts bytes c) is counts, inl (ap (λ (w : Denial). Err w) told))

-- the type of one more parameter
pub chosen-more : (given : List ℕ) (known : List ColumnType) (k v : ℕ) (old new : List ℕ) → old ≡ chosen k given known → v ≡ chosen_at given known k → new ≡ old ++ v ∷ [] → new ≡ chosen (k + 1) given known
chosen-more given known k v old new is found more =
    more ∙ ap (λ (xs : List ℕ). xs ++ v ∷ []) is ∙ ap (λ (x : ℕ). chosen k given known ++ x ∷ []) found ∙ sym (map-range_with_len_more (chosen_at given known) 0 k k (omega arith))
