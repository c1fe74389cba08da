-- The first and the last of a tuple's changes, from the ends of a walk over them.
use Rattle.std.proofs.Common.{◌≡◌, ℕ, true, false, cond, ◌&&◌, nat_le, List, [], ◌∷◌, ◌++◌, reverse, length, length-append, ◌<◌, Option, Some, None, MatchOption, refl, sym, ap, ◌∙◌, subst, arith}
use Rattle.std.proofs.lemmas.List.{reverse-append, reverse-reverse, map-append}
use Rattle.sb_value.specs.NetEffect.{is_of, history, last_of, net_between, net_of}
use Rattle.sb_value.specs.declared.id.Who.{Who}
use Rattle.sb_value.specs.declared.change.Change.{Change}
use Rattle.sb_rawlog.specs.Changes.{is_by, is_tuple}
use Rattle.sb_rawlog.specs.Records.{Record, selected, walk, before, change_at}
use Rattle.sb_rawlog.specs.Steps.{todo_from, tuple_todo, TupleSpot, TupleNext, TupleOlder}
use Rattle.sb_rawlog.specs.declared.spot.Spot.{Spot}
use Rattle.sb_rawlog.specs.Sessions.{changes, changes_since}
use Rattle.sb_net.specs.Spans.{IsSpan, EndsAt}

-- a tuple's changes are those of the session that are of the tuple
pub history-since : (who : Who) (table tuple since : ℕ) (rs : List Record) → history (changes_since who since rs) table tuple ≡ changes (selected (is_tuple who table tuple) since rs)
unfolding selected
history-since who table tuple since [] = refl
history-since who table tuple since (r ∷ rs) =
    elim (nat_le since r.0) as (λ a. history (changes (cond (a && is_by who r.1) (r ∷ selected (is_by who) since rs) (selected (is_by who) since rs))) table tuple
    ≡ changes (cond (a && (is_by who r.1 && is_of table tuple r.1)) (r ∷ selected (is_tuple who table tuple) since rs) (selected (is_tuple who table tuple) since rs))) [
      | false ↦ history-since who table tuple since rs
      | true ↦ elim (is_by who r.1) as (λ b. history (changes (cond b (r ∷ selected (is_by who) since rs) (selected (is_by who) since rs))) table tuple
          ≡ changes (cond (b && is_of table tuple r.1) (r ∷ selected (is_tuple who table tuple) since rs) (selected (is_tuple who table tuple) since rs))) [
            | false ↦ history-since who table tuple since rs
            | true ↦ elim (is_of table tuple r.1) as (λ d. cond d (r.1 ∷ history (changes_since who since rs) table tuple) (history (changes_since who since rs) table tuple)
                ≡ changes (cond d (r ∷ selected (is_tuple who table tuple) since rs) (selected (is_tuple who table tuple) since rs))) [
                  | false ↦ history-since who table tuple since rs
                  | true ↦ ap (λ l. r.1 ∷ l) (history-since who table tuple since rs)
                ]
          ]
    ]

-- the same, from the walk
pub history-walk : (who : Who) (table tuple since : ℕ) (rs : List Record) → history (changes_since who since rs) table tuple ≡ changes (reverse (walk (is_tuple who table tuple) since rs))
unfolding walk
history-walk who table tuple since rs = history-since who table tuple since rs ∙ ap changes (sym (reverse-reverse (selected (is_tuple who table tuple) since rs)))

-- a walk with nothing to give
pub none_since : (who : Who) (table tuple since : ℕ) (rs : List Record) → walk (is_tuple who table tuple) since rs ≡ [] → history (changes_since who since rs) table tuple ≡ []
none_since who table tuple since rs e = history-walk who table tuple since rs ∙ ap (λ l. changes (reverse l)) e

pub last_of-end : (c : Change) (cs : List Change) (d : Change) → last_of c (cs ++ d ∷ []) ≡ d
last_of-end c [] d = refl
last_of-end c (b ∷ cs) d = last_of-end b cs d

-- what was passed ends with the oldest change, and begins with the newest
ends_of : (passed tail : List Record) (s t : ℕ) (first last : Change) → passed ++ (t, first) ∷ [] ≡ (s, last) ∷ tail → IsSpan first last (changes (reverse (passed ++ (t, first) ∷ [])))
ends_of [] tail s t first last e = let head : (t, first) ≡ (s, last) = cc in let same : first ≡ last = ap (λ (r : Record). r.1) head in record { newer = []; are = refl; last_is = sym same }
ends_of (q ∷ qs) tail s t first last e =
    let head : q ≡ (s, last) = cc in
    let same : q.1 ≡ last = ap (λ (r : Record). r.1) head in
    record {
      newer = changes (reverse qs) ++ q.1 ∷ [];
      are = ap changes (reverse-append (q ∷ qs) ((t, first) ∷ []) ∙ ap (λ l. (t, first) ∷ l) (reverse-append (q ∷ []) qs)) ∙ ap (λ l. first ∷ l) (map-append (λ (r : Record). r.1) (reverse qs) (q ∷ []));
      last_is = sym same ∙ sym (last_of-end first (changes (reverse qs)) q.1);
    }

-- what is left at a spot begins and ends with these
pub span_is : (todo passed tail : List Record) (s t : ℕ) (first last : Change) → todo ≡ passed ++ (t, first) ∷ [] → todo ≡ (s, last) ∷ tail → IsSpan first last (changes (reverse todo))
span_is todo passed tail s t first last ends begins =
    subst (λ l. IsSpan first last (changes (reverse l))) (sym ends) (ends_of passed tail s t first last (sym ends ∙ begins))

-- a net effect is between the first and the last change
pub net_of_span : (first last : Change) (changes : List Change) → IsSpan first last changes → net_between first.kind last.kind first last ≡ net_of changes
net_of_span first last changes span = (λ j. net_between first.kind (span.last_is j).kind first (span.last_is j)) ∙ ap net_of (sym span.are)

-- the span of all that a walk has is that of the tuple's changes
pub span_of_all : (who : Who) (table tuple since : ℕ) (rs todo : List Record) (first last : Change) → todo ≡ walk (is_tuple who table tuple) since rs → IsSpan first last (changes (reverse todo))
    → IsSpan first last (history (changes_since who since rs) table tuple)
span_of_all who table tuple since rs todo first last all span = subst (IsSpan first last) (ap (λ l. changes (reverse l)) all ∙ sym (history-walk who table tuple since rs)) span

-- ---- the steps of a walk

pub fewer : (r : Record) (passed rest all : List Record) → all ≡ r ∷ (passed ++ rest) → length rest < length all
fewer r passed rest all e = let long = ap length e in let cut = length-append passed rest in omega arith

-- what a walk has left at its first spot is all of it
pub todo_is : (ok : Spot → Type 0) (rs : List Record) (who : Who) (table tuple since : ℕ) (todo : List Record) (s : Spot) → TupleSpot ok rs who table tuple since todo s → tuple_todo rs (Some s) ≡ todo
todo_is ok rs who table tuple since todo s h = (λ j. todo_from (is_tuple (h.who_is j) (h.table_is j) (h.tuple_is j)) rs s.since s.time (h.comes.here j)) ∙ sym h.comes.first

-- the next older change of a spot's walk, or its end
pub next_is : (ok : Spot → Type 0) (rs : List Record) (at : Spot) (c : Change) → change_at at.time rs ≡ Some c → (o : Option Spot) → TupleNext ok rs at o → MatchOption o (EndsAt rs at) (TupleOlder ok rs at)
next_is ok rs at c e None h = record { change = c; here = e; left = ap (todo_from (is_tuple at.who at.table at.tuple) rs at.since at.time) e ∙ ap (λ l. (at.time, c) ∷ l) h }
next_is ok rs at c e (Some s) h = record {
  stands = h.stands;
  who_is = h.who_is;
  table_is = h.table_is;
  tuple_is = h.tuple_is;
  since_is = h.since_is;
  first = (at.time, c);
  passed = [];
  left = ap (todo_from (is_tuple at.who at.table at.tuple) rs at.since at.time) e
      ∙ ap (λ l. (at.time, c) ∷ l) (sym (todo_is ok rs at.who at.table at.tuple at.since (walk (is_tuple at.who at.table at.tuple) at.since (before at.time rs)) s h));
}
