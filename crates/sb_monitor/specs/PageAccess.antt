-- Promise: whose key opens which page.
use Rattle.std.specs.Prelude.{◌≡◌, ◌+◌, ℕ, Bool, true, List, codes, drop, take, Option, Some}
use Rattle.sb_keys.specs.Text.{status_holder}
use Rattle.sb_status.specs.Requests.{AreSent}
use Rattle.sb_status.specs.Routes.{IsNumber}
use Rattle.sb_status.specs.declared.route.Route.{Route}
use Rattle.sb_status.specs.declared.route.Route.TheVariants.{Host, Metrics, Tenant, Dump, End, Renew, Unknown}

-- a tenant's pages are its own, and all others are of whom the keys call status
abbrev pub holder_of : Route → ℕ
holder_of (Tenant n) = n
holder_of (Dump n) = n
holder_of (End e) = e.tenant
holder_of (Renew n) = n
holder_of Host = status_holder
holder_of Metrics = status_holder
holder_of Unknown = status_holder

-- the user is named as the one whom the page belongs to
abbrev pub IsUser : Route → List ℕ → Type 0
IsUser (Tenant n) name = IsNumber name n
IsUser (Dump n) name = IsNumber name n
IsUser (End e) name = IsNumber name e.tenant
IsUser (Renew n) name = IsNumber name n
IsUser Host name = name ≡ codes "status"
IsUser Metrics name = name ≡ codes "status"
IsUser Unknown name = name ≡ codes "status"

-- a text is a user, a colon, and a key of whom the page belongs to
abbrev pub OpensBy : (ℕ → List ℕ → Type 0) → Route → List ℕ → ℕ → Type 0
OpensBy admits route text colon = IsUser route (take colon text) × admits (holder_of route) (drop (colon + 1) text)

-- a header has such a text, as HTTP Basic sends it
abbrev pub Opens : (ℕ → List ℕ → Type 0) → Route → Option (List ℕ) → Type 0
Opens admits route header =
    (value text : List ℕ) × (colon : ℕ) × (header ≡ Some value) × AreSent value text colon × OpensBy admits route text colon

-- where keys are wanted, the header opens the page
abbrev pub IsGuarded : Bool → (ℕ → List ℕ → Type 0) → Route → Option (List ℕ) → Type 0
IsGuarded wants admits route header = wants ≡ true → Opens admits route header
