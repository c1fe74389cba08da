-- A draft is what its marks make.
use Rattle.std.proofs.Common.{◌≡◌, ◌≤◌, ◌<◌, ◌+◌, ◌-◌, ◌==◌, ℕ, Bool, true, false, cond, nat_le, List, [], ◌∷◌, ◌++◌, length, map, Option, Some, None, option_map, Result, Ok, Err, refl, ap, sym, ◌∙◌, subst, append_assoc, length-append, arith}
use Rattle.std.proofs.lemmas.Bool.{ne_eqb, leb-true, le-leb, cond_both}
use Rattle.std.proofs.lemmas.List.{append-nil, length-map}
use Rattle.sb_postgres.specs.declared.query.actions.Scope.{Scope}
use Rattle.sb_postgres.specs.declared.query.error.Fault.TheVariants as fault
use Rattle.sb_postgres.specs.declared.query.error.Refusal.{Refusal}
use Rattle.sb_postgres.specs.declared.query.piece.PieceKind.{PieceKind}
use Rattle.sb_postgres.specs.declared.query.piece.PieceKind.TheVariants as k
use Rattle.sb_postgres.specs.Actions.{scope_after, scoped}
use Rattle.sb_postgres.specs.Drafts.{Drafted, nothing, places, first_gap, with_gap, spaced, with_bytes, limited, with_text, with_gap_behind, drafted_closed, drafted_by, drafted_lines}
use Rattle.sb_postgres.specs.Pieces as p
use Rattle.sb_postgres.specs.Pieces.{Pieces, HasPieces}
use Rattle.sb_postgres.proofs.Again.{piece-some}
use Rattle.sb_postgres.specs.Lines.{Mark, byte, gap, placed, marks, shown, inside, Line, behind, joined, bytes_of, origins_of, refusal, unprintable, is_name, Lines, end, refused, line, closed, lines_by, lines_of}

-- ---- marks one by one

abbrev pub put : Mark → Drafted → Drafted
put (byte b at) d = with_bytes at (b ∷ []) d
put (gap at) d = with_gap at d

abbrev pub puts : List Mark → Drafted → Drafted
puts [] d = d
puts (m ∷ ms) d = puts ms (put m d)

puts-append : (ms ns : List Mark) (d : Drafted) → puts (ms ++ ns) d ≡ puts ns (puts ms d)
puts-append [] ns d = refl
puts-append (m ∷ ms) ns d = puts-append ms ns (put m d)

abbrev draft : List ℕ → List ℕ → Option ℕ → Drafted
draft bs os g = record { bytes = bs; origins = os; gap = g }

-- the line so far and what follows
pub record Adds (d : Drafted) (bs os : List ℕ) (cs : Line) : Type 0 where
  pub bytes : d.bytes ≡ bs ++ bytes_of cs
  pub origins : d.origins ≡ os ++ origins_of cs

some-more : (bs : List ℕ) (b : ℕ) → length (bs ++ b ∷ []) ≡ 0 → ⊥
some-more bs b e = omega (arith, length-append bs (b ∷ []), e)

gap-none : (bs os : List ℕ) (at : ℕ) → (length bs ≡ 0 → ⊥) → with_gap at (draft bs os None) ≡ draft bs os (Some at)
gap-none bs os at n = rw (ne_eqb (length bs) 0 n) refl

gap-some : (bs os : List ℕ) (at first : ℕ) → with_gap at (draft bs os (Some first)) ≡ draft bs os (Some first)
gap-some bs os at first = cond_both (length bs == 0) (draft bs os (Some first)) (draft bs os (Some first)) (λ d. d ≡ draft bs os (Some first)) (λ e. refl) (λ e. refl)

puts-behind : (ms : List Mark) (bs os : List ℕ) (g : Option ℕ) → (length bs ≡ 0 → ⊥) → Adds (puts ms (draft bs os g)) bs os (behind g ms)
puts-behind [] bs os g n = record { bytes = sym (append-nil bs); origins = sym (append-nil os) }
puts-behind (byte b at ∷ ms) bs os None n =
    let h = puts-behind ms (bs ++ b ∷ []) (os ++ at ∷ []) None (some-more bs b) in
    record {
      bytes = h.bytes ∙ append_assoc bs (b ∷ []) (bytes_of (behind None ms));
      origins = h.origins ∙ append_assoc os (at ∷ []) (origins_of (behind None ms));
    }
puts-behind (byte b at ∷ ms) bs os (Some first) n =
    let h = puts-behind ms ((bs ++ 32 ∷ []) ++ b ∷ []) ((os ++ first ∷ []) ++ at ∷ []) None (some-more (bs ++ 32 ∷ []) b) in
    record {
      bytes = h.bytes ∙ (append_assoc (bs ++ 32 ∷ []) (b ∷ []) (bytes_of (behind None ms)) ∙ append_assoc bs (32 ∷ []) (b ∷ bytes_of (behind None ms)));
      origins = h.origins ∙ (append_assoc (os ++ first ∷ []) (at ∷ []) (origins_of (behind None ms)) ∙ append_assoc os (first ∷ []) (at ∷ origins_of (behind None ms)));
    }
puts-behind (gap at ∷ ms) bs os None n =
    subst (λ (d : Drafted). Adds (puts ms d) bs os (behind (Some at) ms)) (sym (gap-none bs os at n)) (puts-behind ms bs os (Some at) n)
puts-behind (gap at ∷ ms) bs os (Some first) n =
    subst (λ (d : Drafted). Adds (puts ms d) bs os (behind (Some first) ms)) (sym (gap-some bs os at first)) (puts-behind ms bs os (Some first) n)

one-is-some : (b : ℕ) → length (b ∷ []) ≡ 0 → ⊥
one-is-some b e = omega (arith, e)

pub puts-joined : (ms : List Mark) → Adds (puts ms nothing) [] [] (joined ms)
puts-joined [] = record { bytes = refl; origins = refl }
puts-joined (byte b at ∷ ms) = let h = puts-behind ms (b ∷ []) (at ∷ []) None (one-is-some b) in record { bytes = h.bytes; origins = h.origins }
puts-joined (gap at ∷ ms) = puts-joined ms

joined-length : (ms : List Mark) → length (joined ms) ≡ length (puts ms nothing).bytes
joined-length ms = sym (ap length (puts-joined ms).bytes ∙ length-map (joined ms) (λ c. c.0))

-- ---- bytes one behind the other

puts-placed-on : (bs : List ℕ) (at : ℕ) (xs os : List ℕ) → puts (placed at bs) (draft xs os None) ≡ draft (xs ++ bs) (os ++ places at (length bs)) None
puts-placed-on [] at xs os = ap (λ ys. draft ys os None) (sym (append-nil xs)) ∙ ap (λ ps. draft (xs ++ []) ps None) (sym (append-nil os))
puts-placed-on (b ∷ bs) at xs os =
    puts-placed-on bs (at + 1) (xs ++ b ∷ []) (os ++ at ∷ [])
    ∙ (ap (λ ys. draft ys ((os ++ at ∷ []) ++ places (at + 1) (length bs)) None) (append_assoc xs (b ∷ []) bs)
    ∙ ap (λ ps. draft (xs ++ b ∷ bs) ps None) (append_assoc os (at ∷ []) (places (at + 1) (length bs))))

puts-placed : (bs : List ℕ) (at : ℕ) (d : Drafted) → 0 < length bs → puts (placed at bs) d ≡ with_bytes at bs d
puts-placed [] at d l = absurd (omega arith)
puts-placed (b ∷ bs) at d l =
    puts-placed-on bs (at + 1) ((spaced d).bytes ++ b ∷ []) ((spaced d).origins ++ at ∷ [])
    ∙ (ap (λ ys. draft ys (((spaced d).origins ++ at ∷ []) ++ places (at + 1) (length bs)) None) (append_assoc (spaced d).bytes (b ∷ []) bs)
    ∙ ap (λ ps. draft ((spaced d).bytes ++ b ∷ bs) ps None) (append_assoc (spaced d).origins (at ∷ []) (places (at + 1) (length bs))))

-- ---- pieces

abbrev Goes : ℕ → Option Refusal → List Mark → Lines → Result Drafted Refusal → (Drafted → Lines) → Type 0
Goes at f ms more made goes = lines_by at f (joined ms) more ≡ drafted_by made goes

-- what is made within the limit
limit-same : (at : ℕ) (ms : List Mark) (e : Drafted) (more : Lines) (goes : Drafted → Lines) (r : Result Drafted Refusal → Result Drafted Refusal) → length (joined ms) ≡ length e.bytes
    → ((b : Bool) → nat_le (length e.bytes) 4_096 ≡ b → cond b more (refused (refusal fault.TooLong at)) ≡ drafted_by (r (cond b (Ok e) (Err (refusal fault.TooLong at)))) goes) → Goes at None ms more (r (limited at e)) goes
limit-same at ms e more goes r same h = ap (λ n. cond (nat_le n 4_096) more (refused (refusal fault.TooLong at))) same ∙ h (nat_le (length e.bytes) 4_096) refl

bytes-kept : (at : ℕ) (d : Drafted) → (with_gap at d).bytes ≡ d.bytes
bytes-kept at d = cond_both (length d.bytes == 0) d (record d { gap = first_gap at d.gap }) (λ (e : Drafted). e.bytes ≡ d.bytes) (λ z. refl) (λ z. refl)

blank-same : (at : ℕ) (ms : List Mark) (more : Lines) (goes : Drafted → Lines) → length (puts ms nothing).bytes ≤ 4_096 → (length (puts (ms ++ gap at ∷ []) nothing).bytes ≤ 4_096 → more ≡ goes (puts (ms ++ gap at ∷ []) nothing))
    → Goes at None (ms ++ gap at ∷ []) more (Ok (with_gap at (puts ms nothing))) goes
blank-same at ms more goes short h =
    let d = puts ms nothing in
    let made : puts (ms ++ gap at ∷ []) nothing ≡ with_gap at (puts ms nothing) = puts-append ms (gap at ∷ []) nothing in
    let kept : (with_gap at (puts ms nothing)).bytes ≡ (puts ms nothing).bytes = bytes-kept at (puts ms nothing) in
    let long : length (puts (ms ++ gap at ∷ []) nothing).bytes ≤ 4_096 = subst (λ (xs : List ℕ). length xs ≤ 4_096) (sym (ap (λ (e : Drafted). e.bytes) made ∙ kept)) short in
    let fits : nat_le (length (joined (ms ++ gap at ∷ []))) 4_096 ≡ true = le-leb _ _ (subst (λ (n : ℕ). n ≤ 4_096) (sym (joined-length (ms ++ gap at ∷ []))) long) in
    ap (λ b. cond b more (refused (refusal fault.TooLong at))) fits ∙ (h long ∙ ap goes made)

text-same : (kind : PieceKind) (at : ℕ) (bytes : List ℕ) (ms : List Mark) (more : Lines) (goes : Drafted → Lines) (o : Option ℕ) → 0 < length bytes
    → (length (puts (ms ++ placed at (map (shown kind) bytes)) nothing).bytes ≤ 4_096 → more ≡ goes (puts (ms ++ placed at (map (shown kind) bytes)) nothing))
    → Goes at (option_map (refusal fault.Unprintable) o) (ms ++ placed at (map (shown kind) bytes)) more (with_text kind at bytes (puts ms nothing) o) goes
text-same kind at bytes ms more goes (Some place) l h = refl
text-same kind at bytes ms more goes None l h =
    let xs : List ℕ = map (shown kind) bytes in
    let some : 0 < length (map (shown kind) bytes) = omega (arith, length-map bytes (shown kind)) in
    let made : puts (ms ++ placed at (map (shown kind) bytes)) nothing ≡ with_bytes at (map (shown kind) bytes) (puts ms nothing) = puts-append ms (placed at (map (shown kind) bytes)) nothing ∙ puts-placed (map (shown kind) bytes) at (puts ms nothing) some in
    let same = joined-length (ms ++ placed at (map (shown kind) bytes)) ∙ ap (λ (e : Drafted). length e.bytes) made in
    limit-same at (ms ++ placed at (map (shown kind) bytes)) (with_bytes at (map (shown kind) bytes) (puts ms nothing)) more goes (λ r. r) same (go made)
  where
    go : puts (ms ++ placed at (map (shown kind) bytes)) nothing ≡ with_bytes at (map (shown kind) bytes) (puts ms nothing) → (b : Bool) → nat_le (length (with_bytes at (map (shown kind) bytes) (puts ms nothing)).bytes) 4_096 ≡ b
        → cond b more (refused (refusal fault.TooLong at)) ≡ drafted_by (cond b (Ok (with_bytes at (map (shown kind) bytes) (puts ms nothing))) (Err (refusal fault.TooLong at))) goes
    go made true t = h (subst (λ (e : Drafted). length e.bytes ≤ 4_096) (sym made) (leb-true _ _ t)) ∙ ap goes made
    go made false t = refl

name-some : (bs : List ℕ) → is_name bs ≡ true → 0 < length bs
name-some [] e = absurd cc
name-some (b ∷ bs) e = omega arith

abbrev name_marks : ℕ → List ℕ → List Mark
name_marks at bytes = gap at ∷ placed (at + 1) (map (shown k.QuotedName) (inside bytes)) ++ gap (at + length bytes - 1) ∷ []

abbrev named : ℕ → List ℕ → Drafted → Drafted
named at bytes d = with_bytes (at + 1) (map (shown k.QuotedName) (inside bytes)) (with_gap at d)

name-made : (at : ℕ) (bytes : List ℕ) (ms : List Mark) → is_name (inside bytes) ≡ true → puts (ms ++ name_marks at bytes) nothing ≡ with_gap (at + length bytes - 1) (named at bytes (puts ms nothing))
name-made at bytes ms e =
    let l : 0 < length (inside bytes) = name-some (inside bytes) e in
    let some : 0 < length (map (shown k.QuotedName) (inside bytes)) = omega (arith, length-map (inside bytes) (shown k.QuotedName)) in
    puts-append ms (name_marks at bytes) nothing
    ∙ (puts-append (placed (at + 1) (map (shown k.QuotedName) (inside bytes))) (gap (at + length bytes - 1) ∷ []) (with_gap at (puts ms nothing))
    ∙ ap (with_gap (at + length bytes - 1)) (puts-placed (map (shown k.QuotedName) (inside bytes)) (at + 1) (with_gap at (puts ms nothing)) some))

name-same : (at : ℕ) (bytes : List ℕ) (ms : List Mark) (more : Lines) (goes : Drafted → Lines)
    → (length (puts (ms ++ name_marks at bytes) nothing).bytes ≤ 4_096 → more ≡ goes (puts (ms ++ name_marks at bytes) nothing)) → (b : Bool) → is_name (inside bytes) ≡ b
    → Goes at (cond b None (Some (refusal fault.Name at))) (ms ++ name_marks at bytes) more (cond b (with_gap_behind (at + length bytes - 1) (limited at (named at bytes (puts ms nothing)))) (Err (refusal fault.Name at))) goes
name-same at bytes ms more goes h false e = refl
name-same at bytes ms more goes h true e =
    let made = name-made at bytes ms e in
    let kept : (with_gap (at + length bytes - 1) (named at bytes (puts ms nothing))).bytes ≡ (named at bytes (puts ms nothing)).bytes = bytes-kept (at + length bytes - 1) (named at bytes (puts ms nothing)) in
    let same = joined-length (ms ++ name_marks at bytes) ∙ (ap (λ (e : Drafted). length e.bytes) made ∙ ap length kept) in
    limit-same at (ms ++ name_marks at bytes) (named at bytes (puts ms nothing)) more goes (with_gap_behind (at + length bytes - 1)) same (go made kept)
  where
    go : puts (ms ++ name_marks at bytes) nothing ≡ with_gap (at + length bytes - 1) (named at bytes (puts ms nothing)) → (with_gap (at + length bytes - 1) (named at bytes (puts ms nothing))).bytes ≡ (named at bytes (puts ms nothing)).bytes
        → (b : Bool) → nat_le (length (named at bytes (puts ms nothing)).bytes) 4_096 ≡ b
        → cond b more (refused (refusal fault.TooLong at)) ≡ drafted_by (with_gap_behind (at + length bytes - 1) (cond b (Ok (named at bytes (puts ms nothing))) (Err (refusal fault.TooLong at)))) goes
    go made kept true t =
        let short : length (with_gap (at + length bytes - 1) (named at bytes (puts ms nothing))).bytes ≤ 4_096 = subst (λ (xs : List ℕ). length xs ≤ 4_096) (sym kept) (leb-true _ _ t) in
        h (subst (λ (e : Drafted). length e.bytes ≤ 4_096) (sym made) short) ∙ ap goes made
    go made kept false t = refl

-- ---- whole texts

closed-by : (cs : Line) (d : Drafted) (more : Lines) → d.bytes ≡ bytes_of cs → d.origins ≡ origins_of cs → closed cs more ≡ drafted_closed d more
closed-by [] d more e f = ap (λ (bs : List ℕ). cond (length bs == 0) more (line bs d.origins more)) (sym e)
closed-by (c ∷ cs) d more e f =
    let some : length d.bytes ≡ 0 → ⊥ = λ z. omega (arith, z, ap length e) in
    let c-is : drafted_closed d more ≡ line d.bytes d.origins more = rw (ne_eqb (length d.bytes) 0 some) refl in
    ap (λ (bs : List ℕ). line bs (origins_of (c ∷ cs)) more) (sym e) ∙ (ap (λ (os : List ℕ). line d.bytes os more) (sym f) ∙ sym c-is)

closed-same : (ms : List Mark) (more : Lines) → closed (joined ms) more ≡ drafted_closed (puts ms nothing) more
closed-same ms more = closed-by (joined ms) (puts ms nothing) more (puts-joined ms).bytes (puts-joined ms).origins

step : (kind : PieceKind) (at : ℕ) (bytes : List ℕ) (more : Pieces) → 0 < length bytes → ((ns : List Mark) → length (puts ns nothing).bytes ≤ 4_096 → lines_of ns more ≡ drafted_lines (puts ns nothing) more)
    → (ms : List Mark) → length (puts ms nothing).bytes ≤ 4_096 → lines_of ms (p.piece kind at bytes more) ≡ drafted_lines (puts ms nothing) (p.piece kind at bytes more)
unfolding lines_of drafted_lines
step k.Semicolon at bytes more l ih ms short = ap (closed (joined ms)) (ih [] (omega arith)) ∙ closed-same ms (drafted_lines nothing more)
step k.Blank at bytes more l ih ms short = blank-same at ms (lines_of (ms ++ gap at ∷ []) more) (λ e. drafted_lines e more) short (ih (ms ++ gap at ∷ []))
step k.QuotedName at bytes more l ih ms short = name-same at bytes ms (lines_of (ms ++ name_marks at bytes) more) (λ e. drafted_lines e more) (ih (ms ++ name_marks at bytes)) (is_name (inside bytes)) refl
step k.Constant at bytes more l ih ms short = text-same k.Constant at bytes ms (lines_of (ms ++ marks k.Constant at bytes) more) (λ e. drafted_lines e more) (unprintable at bytes) l (ih (ms ++ marks k.Constant at bytes))
step k.Parameter at bytes more l ih ms short = text-same k.Parameter at bytes ms (lines_of (ms ++ marks k.Parameter at bytes) more) (λ e. drafted_lines e more) (unprintable at bytes) l (ih (ms ++ marks k.Parameter at bytes))
step k.Word at bytes more l ih ms short = text-same k.Word at bytes ms (lines_of (ms ++ marks k.Word at bytes) more) (λ e. drafted_lines e more) (unprintable at bytes) l (ih (ms ++ marks k.Word at bytes))
step k.Byte at bytes more l ih ms short = text-same k.Byte at bytes ms (lines_of (ms ++ marks k.Byte at bytes) more) (λ e. drafted_lines e more) (unprintable at bytes) l (ih (ms ++ marks k.Byte at bytes))

-- each piece has a byte
abbrev pub AreSome : Pieces → Type 0
AreSome p.end = Unit {0}
AreSome (p.refused f at) = Unit {0}
AreSome (p.piece kind at bytes more) = (0 < length bytes) × AreSome more

pub pieces-some : (at : ℕ) (text : List ℕ) (ps : Pieces) → HasPieces at text ps → AreSome ps
pieces-some at text ps p.end_of_text = tt
pieces-some at text ps (p.no_piece h) = tt
pieces-some at text ps (p.first {kind = kind} {bytes = bytes} {rest = rest} {more = more} h is m) = (piece-some kind bytes rest h, pieces-some (at + length bytes) rest more m)

pub scoped-some : (scope : Scope) (ps : Pieces) → AreSome ps → AreSome (scoped scope ps)
unfolding scoped
scoped-some scope p.end h = tt
scoped-some scope (p.refused f at) h = tt
scoped-some scope (p.piece kind at bytes more) h = (h.0, scoped-some (scope_after scope kind bytes) more h.1)

pub lines-drafted : (ps : Pieces) → AreSome ps → (ms : List Mark) → length (puts ms nothing).bytes ≤ 4_096 → lines_of ms ps ≡ drafted_lines (puts ms nothing) ps
unfolding lines_of drafted_lines
lines-drafted p.end h ms short = closed-same ms end
lines-drafted (p.refused f at) h ms short = refl
lines-drafted (p.piece kind at bytes more) h ms short = step kind at bytes more h.0 (lines-drafted more h.1) ms short
