-- How targets end.
use Rattle.std.proofs.Common.{◌≡◌, ◌∙◌, ◌<◌, ◌==◌, ℕ, suc, zero, Bool, true, false, cond, List, [], ◌∷◌, ◌++◌, drop, refl, sym, ap, subst, eqb-true, arith}
use Rattle.std.specs.Prelude.{codes}
use Rattle.std.specs.Int.{IsInRange}
use Rattle.std.specs.Str.{IsAscii, IsUtf8}
use Rattle.std.specs.Str.Parse.{AllDigits, IsNumeral}
use Rattle.std.proofs.lemmas.List.{append_cancel_left, append_cancel_right}
use Rattle.std.proofs.lemmas.Str.{IsUtf8-from_ascii}
use Rattle.std.proofs.lemmas.Str.Parse.{digit_from_value}
use Rattle.sb_status.specs.Routes.{IsNumber, IsTarget, Names, NamesAlone, NamesBehind, NamesSession, NamesWithout, StandsBehind}
use Rattle.sb_status.specs.declared.route.Route.{Route}
use Rattle.sb_status.specs.declared.route.Route.TheVariants.{Host, Metrics, Tenant, Dump, End, Renew, Unknown}
use Rattle.sb_status.specs.declared.route.Ended.{Ended}

-- ---- the last byte

abbrev last_of : List ℕ → ℕ
last_of [] = 0
last_of (b ∷ []) = b
last_of (b ∷ (c ∷ bs)) = last_of (c ∷ bs)

last_behind : (front : List ℕ) (b : ℕ) (bs : List ℕ) → last_of (front ++ b ∷ bs) ≡ last_of (b ∷ bs)
last_behind [] b bs = refl
last_behind (x ∷ []) b bs = refl
last_behind (x ∷ (y ∷ front)) b bs = last_behind (y ∷ front) b bs

-- ---- a number's bytes

-- its digits, with a plus in front or without
by_digits : (P : List ℕ → Type 0) → ((ds : List ℕ) → IsNumeral 10 ds → P ds) → ((ds : List ℕ) → IsNumeral 10 ds → P (43 ∷ ds)) → (text : List ℕ) (n : ℕ) → IsNumber text n → P text
by_digits P plain plus [] n is = absurd (omega (arith, is.0.0))
by_digits P plain plus (b ∷ bs) n is = by (b == 43) (eqb-true b 43) is.0
  where
    by : (p : Bool) → (p ≡ true → b ≡ 43) → IsNumeral 10 (drop (cond p 1 0) (b ∷ bs)) → P (b ∷ bs)
    by true known digits = subst (λ (x : ℕ). P (x ∷ bs)) (sym (known refl)) (plus bs digits)
    by false known digits = plain (b ∷ bs) digits

digits_ascii : (ds : List ℕ) → AllDigits 10 ds → IsAscii ds
digits_ascii [] all i = omega arith
digits_ascii (c ∷ cs) all zero = let k = digit_from_value c all.0 in omega arith
digits_ascii (c ∷ cs) all (suc i) = digits_ascii cs all.1 i

number_ascii : (text : List ℕ) (n : ℕ) → IsNumber text n → IsAscii text
number_ascii text n is = by_digits IsAscii (λ ds digits. digits_ascii ds digits.1) with_plus text n is
  where
    with_plus : (ds : List ℕ) → IsNumeral 10 ds → IsAscii (43 ∷ ds)
    with_plus ds digits zero = omega arith
    with_plus ds digits (suc i) = digits_ascii ds digits.1 i

pub number_is_text : (text : List ℕ) (n : ℕ) → IsNumber text n → IsUtf8 text
number_is_text text n is = IsUtf8-from_ascii text (number_ascii text n is)

-- the last one is a digit
last_digit : (c : ℕ) (cs : List ℕ) → AllDigits 10 (c ∷ cs) → IsInRange 48 57 (last_of (c ∷ cs))
last_digit c [] all = digit_from_value c all.0
last_digit c (d ∷ cs) all = last_digit d cs all.1

ends_in_digit : (text : List ℕ) (n : ℕ) → IsNumber text n → IsInRange 48 57 (last_of text)
ends_in_digit text n is = by_digits (λ l. IsInRange 48 57 (last_of l)) plain with_plus text n is
  where
    plain : (ds : List ℕ) → IsNumeral 10 ds → IsInRange 48 57 (last_of ds)
    plain [] digits = absurd (omega (arith, digits.0))
    plain (c ∷ cs) digits = last_digit c cs digits.1

    with_plus : (ds : List ℕ) → IsNumeral 10 ds → IsInRange 48 57 (last_of (43 ∷ ds))
    with_plus [] digits = absurd (omega (arith, digits.0))
    with_plus (c ∷ cs) digits = last_digit c cs digits.1

-- no number ends as a script's target does, an end's or a renewal's
no_number : (b c : ℕ) (front bs : List ℕ) (text : List ℕ) (n : ℕ) → text ≡ front ++ b ∷ bs → last_of (b ∷ bs) ≡ c → 57 < c → IsNumber text n → ⊥
no_number b c front bs text n is ends high number =
    let digit = ends_in_digit text n number in
    let last : last_of text ≡ c = ap last_of is ∙ last_behind front b bs ∙ ends in
    omega (arith, digit, last, high)

-- two ends of one text have the same last byte
same_last : (rest front digits : List ℕ) (b : ℕ) (bs : List ℕ) (c : ℕ) (cs : List ℕ) → rest ≡ front ++ b ∷ bs → rest ≡ digits ++ c ∷ cs
    → last_of (b ∷ bs) ≡ last_of (c ∷ cs)
same_last rest front digits b bs c cs one two = sym (last_behind front b bs) ∙ sym (ap last_of one) ∙ ap last_of two ∙ last_behind digits c cs

dump_or_end : (rest front digits : List ℕ) → rest ≡ front ++ codes "/end" → rest ≡ digits ++ codes "/dump" → ⊥
dump_or_end rest front digits one two =
    let e : 100 ≡ 112 = same_last rest front digits 47 (101 ∷ 110 ∷ 100 ∷ []) 47 (100 ∷ 117 ∷ 109 ∷ 112 ∷ []) one two in omega (arith, e)

renew_or_end : (rest front digits : List ℕ) → rest ≡ front ++ codes "/end" → rest ≡ digits ++ codes "/renew" → ⊥
renew_or_end rest front digits one two =
    let e : 100 ≡ 119 = same_last rest front digits 47 (101 ∷ 110 ∷ 100 ∷ []) 47 (114 ∷ 101 ∷ 110 ∷ 101 ∷ 119 ∷ []) one two in omega (arith, e)

renew_or_dump : (rest front digits : List ℕ) → rest ≡ front ++ codes "/dump" → rest ≡ digits ++ codes "/renew" → ⊥
renew_or_dump rest front digits one two =
    let e : 112 ≡ 119 = same_last rest front digits 47 (100 ∷ 117 ∷ 109 ∷ 112 ∷ []) 47 (114 ∷ 101 ∷ 110 ∷ 101 ∷ 119 ∷ []) one two in omega (arith, e)

-- ---- where a number isn't one

-- behind a script's end
pub no_dump_number : (rest digits : List ℕ) → rest ≡ digits ++ codes "/dump" → ((n : ℕ) → IsNumber digits n → ⊥) → NamesBehind rest Unknown
no_dump_number rest digits is none (Tenant n) number = no_number 47 112 digits (100 ∷ 117 ∷ 109 ∷ 112 ∷ []) rest n is refl (omega arith) number
no_dump_number rest digits is none (Dump n) (others, number, same) =
    none n (subst (λ (l : List ℕ). IsNumber l n) (append_cancel_right others digits (codes "/dump") (sym same ∙ is)) number)
no_dump_number rest digits is none (End e) (front, session, same) = dump_or_end rest front digits same is
no_dump_number rest digits is none (Renew n) (others, number, same) = renew_or_dump rest digits others is same
no_dump_number rest digits is none Host none_here = none_here
no_dump_number rest digits is none Metrics none_here = none_here
no_dump_number rest digits is none Unknown none_here = none_here

-- behind the end of a session
pub no_session : (rest front : List ℕ) → rest ≡ front ++ codes "/end" → ((e : Ended) → NamesSession front e → ⊥) → NamesWithout rest Unknown
no_session rest front is none = (
  (
    (λ n number. no_number 47 100 front (101 ∷ 110 ∷ 100 ∷ []) rest n is refl (omega arith) number),
    (λ n stands. renew_or_end rest front stands.0 is stands.2),
  ),
  (λ e stands. none e (subst (λ (l : List ℕ). NamesSession l e) (append_cancel_right stands.0 front (codes "/end") (sym stands.2 ∙ is)) stands.1)),
)

-- behind a renewal's end
pub no_renewal_number : (rest digits : List ℕ) → rest ≡ digits ++ codes "/renew" → ((n : ℕ) → IsNumber digits n → ⊥) → NamesAlone rest Unknown
no_renewal_number rest digits is none = (
  (λ n number. no_number 47 119 digits (114 ∷ 101 ∷ 110 ∷ 101 ∷ 119 ∷ []) rest n is refl (omega arith) number),
  (λ n stands. none n (subst (λ (l : List ℕ). IsNumber l n) (append_cancel_right stands.0 digits (codes "/renew") (sym stands.2 ∙ is)) stands.1)),
)

-- ---- one part after another

-- no end of a session is named, and so is what else can be
pub without_alone : (rest : List ℕ) (page : Route) → ((front : List ℕ) → rest ≡ front ++ codes "/end" → ⊥) → NamesAlone rest page → NamesWithout rest page
without_alone rest Host none alone = alone
without_alone rest Metrics none alone = alone
without_alone rest (Tenant n) none alone = alone
without_alone rest (Dump n) none alone = alone
without_alone rest (End e) none alone = alone
without_alone rest (Renew n) none alone = alone
without_alone rest Unknown none alone = (alone, (λ e stands. none stands.0 stands.2))

-- no script is named, and so is what else can be
pub behind_without : (rest : List ℕ) (page : Route) → ((digits : List ℕ) → rest ≡ digits ++ codes "/dump" → ⊥) → NamesWithout rest page → NamesBehind rest page
behind_without rest Host none without = without
behind_without rest Metrics none without = without
behind_without rest (Tenant n) none without = without
behind_without rest (Dump n) none without = without
behind_without rest (End e) none without = without
behind_without rest (Renew n) none without = without
behind_without rest Unknown none without = no_page
  where
    no_page : (page : Route) → StandsBehind rest page → ⊥
    no_page (Tenant n) stands = without.0.0 n stands
    no_page (Dump n) stands = none stands.0 stands.2
    no_page (End e) stands = without.1 e stands
    no_page (Renew n) stands = without.0.1 n stands
    no_page Host stands = stands
    no_page Metrics stands = stands
    no_page Unknown stands = stands

-- what is behind the first part names the same page as the whole target
pub names-by_rest : (target rest : List ℕ) (page : Route) → target ≡ codes "/tenants/" ++ rest → NamesBehind rest page → Names target page
names-by_rest target rest Host is behind = absurd behind
names-by_rest target rest Metrics is behind = absurd behind
names-by_rest target rest (Tenant n) is behind = (rest, is, behind)
names-by_rest target rest (Dump n) is behind = (rest, is, behind)
names-by_rest target rest (End e) is behind = (rest, is, behind)
names-by_rest target rest (Renew n) is behind = (rest, is, behind)
names-by_rest target rest Unknown is behind = no_page
  where
    same : (other : List ℕ) → target ≡ codes "/tenants/" ++ other → other ≡ rest
    same other e = append_cancel_left (codes "/tenants/") other rest (sym e ∙ is)

    no_page : (page : Route) → IsTarget target page → ⊥
    no_page Host e = let both : codes "/" ≡ codes "/tenants/" ++ rest = sym e ∙ is in cc
    no_page Metrics e = let both : codes "/metrics" ≡ codes "/tenants/" ++ rest = sym e ∙ is in cc
    no_page (Tenant n) t = behind (Tenant n) (subst (λ (l : List ℕ). StandsBehind l (Tenant n)) (same t.0 t.1) t.2)
    no_page (Dump n) t = behind (Dump n) (subst (λ (l : List ℕ). StandsBehind l (Dump n)) (same t.0 t.1) t.2)
    no_page (End e) t = behind (End e) (subst (λ (l : List ℕ). StandsBehind l (End e)) (same t.0 t.1) t.2)
    no_page (Renew n) t = behind (Renew n) (subst (λ (l : List ℕ). StandsBehind l (Renew n)) (same t.0 t.1) t.2)
    no_page Unknown t = t.2

-- a target that is none of those is that of no page
pub names_none : (target : List ℕ) → (target ≡ codes "/" → ⊥) → (target ≡ codes "/metrics" → ⊥) → ((rest : List ℕ) → target ≡ codes "/tenants/" ++ rest → ⊥) → Names target Unknown
names_none target host metrics tenants Host e = host e
names_none target host metrics tenants Metrics e = metrics e
names_none target host metrics tenants (Tenant n) t = tenants t.0 t.1
names_none target host metrics tenants (Dump n) t = tenants t.0 t.1
names_none target host metrics tenants (End e) t = tenants t.0 t.1
names_none target host metrics tenants (Renew n) t = tenants t.0 t.1
names_none target host metrics tenants Unknown t = t.2
