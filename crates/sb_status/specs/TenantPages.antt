-- Promise: what the page of a tenant begins with.
use Rattle.std.specs.Prelude.{◌≡◌, ℕ, List, [], ◌∷◌, ◌++◌, Option, None, Some}
use Rattle.std.specs.List.{flat_map}
use Rattle.sb_status.specs.Pages.{rendered}
use Rattle.sb_status.specs.declared.fragment.Fragment.{Fragment}
use Rattle.sb_status.specs.declared.fragment.Fragment.TheVariants as piece
use Rattle.sb_status.specs.declared.markup.Markup.{Markup}
use Rattle.sb_status.specs.declared.markup.Markup.TheVariants.{Ago, FactActive, FactBytes, FactChanges, FactOpen, FactRenewed, FactRoom, FactRows, FactSteps, FactVolume, FactsEnd, Head, OldPage, OldPageEnd, TenantTitle}
use Rattle.sb_status.specs.declared.text.Escaping.TheVariants.{Html}
use Rattle.sb_status.specs.declared.view.TenantNumbers.{TenantNumbers}
use Rattle.sb_status.specs.declared.view.TenantView.{TenantView}

-- marks, each with a number behind it
abbrev pub counted : List (Markup × ℕ) → List Fragment
counted counts = flat_map (λ c. piece.Markup c.0 ∷ piece.Number c.1 ∷ []) counts

-- how old the numbers are, if they aren't new
abbrev pub age_pieces : Option ℕ → List Fragment
age_pieces None = []
age_pieces (Some seconds) = piece.Markup OldPage ∷ piece.Number seconds ∷ piece.Markup OldPageEnd ∷ []

-- how long ago a renewal began the volume, if one did
abbrev pub renewed_pieces : Option ℕ → List Fragment
renewed_pieces None = []
renewed_pieces (Some seconds) = piece.Markup FactRenewed ∷ piece.Number seconds ∷ piece.Markup Ago ∷ []

-- the tenant's number in the title, and its others
abbrev pub numbered : TenantNumbers → List (Markup × ℕ)
numbered n =
    (TenantTitle, n.tenant) ∷ (FactSteps, n.steps) ∷ (FactRoom, n.room) ∷ (FactBytes, n.bytes)
    ∷ (FactRows, n.rows) ∷ (FactOpen, n.open) ∷ (FactActive, n.active) ∷ (FactChanges, n.changes)
    ∷ (FactVolume, n.volume) ∷ []

abbrev pub beginning_of : TenantNumbers → List Fragment
beginning_of n =
    piece.Markup Head ∷ (age_pieces n.age ++ (counted (numbered n) ++ (renewed_pieces n.volume_age ++ piece.Markup FactsEnd ∷ [])))

-- these bytes are a page of this tenant: its numbers stand in front
abbrev pub IsPageOf : TenantView → List ℕ → Type 0
IsPageOf view bytes = (rest : List Fragment) × (bytes ≡ rendered Html (beginning_of view.numbers ++ rest))
