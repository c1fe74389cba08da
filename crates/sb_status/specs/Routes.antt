-- Promise: which page a target names.
use Rattle.std.specs.Prelude.{◌≡◌, ◌+◌, ◌<◌, ◌^◌, ℕ, List, [], ◌∷◌, ◌++◌, codes}
use Rattle.std.specs.Str.Parse.{IsNumeral, digits_value, without_leading_plus}
use Rattle.sb_status.specs.declared.route.Route.{Route}
use Rattle.sb_status.specs.declared.route.Route.TheVariants.{Host, Metrics, Tenant, Dump, End, Renew, Unknown}
use Rattle.sb_status.specs.declared.route.Ended.{Ended}

-- decimal digits, in front of which a plus may stand
abbrev pub IsNumber : List ℕ → ℕ → Type 0
IsNumber text n = IsNumeral 10 (without_leading_plus text) × (n ≡ digits_value 10 (without_leading_plus text)) × (n < 2 ^ 32)

-- a tenant, and the digit of one of its sessions
abbrev pub NamesSession : List ℕ → Ended → Type 0
NamesSession text e =
    (digits : List ℕ) × IsNumber digits e.tenant × (text ≡ (digits ++ codes "/sessions/") ++ (e.session + 48) ∷ []) × (e.session < 10)

-- what stands behind the first part of a tenant's target
abbrev pub StandsBehind : List ℕ → Route → Type 0
StandsBehind rest (Tenant n) = IsNumber rest n
StandsBehind rest (Dump n) = (digits : List ℕ) × IsNumber digits n × (rest ≡ digits ++ codes "/dump")
StandsBehind rest (End e) = (front : List ℕ) × NamesSession front e × (rest ≡ front ++ codes "/end")
StandsBehind rest (Renew n) = (digits : List ℕ) × IsNumber digits n × (rest ≡ digits ++ codes "/renew")
StandsBehind rest page = ⊥

-- a page's target is its own
abbrev pub IsTarget : List ℕ → Route → Type 0
IsTarget target Host = target ≡ codes "/"
IsTarget target Metrics = target ≡ codes "/metrics"
IsTarget target page = (rest : List ℕ) × (target ≡ codes "/tenants/" ++ rest) × StandsBehind rest page

-- the target is that of a page; where none is known, it is that of no page
abbrev pub Names : List ℕ → Route → Type 0
Names target Unknown = (page : Route) → IsTarget target page → ⊥
Names target page = IsTarget target page

-- the same of what stands behind the first part
abbrev pub NamesBehind : List ℕ → Route → Type 0
NamesBehind rest Unknown = (page : Route) → StandsBehind rest page → ⊥
NamesBehind rest page = StandsBehind rest page

-- and of that where no end of a session can be named, either
abbrev pub NamesAlone : List ℕ → Route → Type 0
NamesAlone rest Unknown = ((n : ℕ) → StandsBehind rest (Tenant n) → ⊥) × ((n : ℕ) → StandsBehind rest (Renew n) → ⊥)
NamesAlone rest page = StandsBehind rest page

-- and of that where no script can be named
abbrev pub NamesWithout : List ℕ → Route → Type 0
NamesWithout rest Unknown = NamesAlone rest Unknown × ((e : Ended) → StandsBehind rest (End e) → ⊥)
NamesWithout rest page = StandsBehind rest page
