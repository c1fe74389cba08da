-- Promise: what the target of a request names.
use Rattle.std.specs.Prelude.{◌≡◌, ◌≢◌, ℕ, Bool, false, codes, List}
use Rattle.sb_status.specs.Routes.{Names}
use Rattle.sb_status.specs.declared.route.Route.{Route}
use Rattle.sb_status.specs.declared.route.Route.TheVariants.{Host}
use Rattle.sb_monitor.specs.declared.target.Target.{Target}
use Rattle.sb_monitor.specs.declared.target.Target.TheVariants.{Page, Ready, Stop}

-- two are the server's own, and all others are those of pages
abbrev pub Aims : List ℕ → Target → Type 0
Aims text Ready = text ≡ codes "/ready"
Aims text Stop = text ≡ codes "/stop"
Aims text (Page route) = Names text route × (text ≢ codes "/ready") × (text ≢ codes "/stop")

-- the page whose key it wants: the server's own want that of its first page
abbrev pub page_of : Target → Route
page_of (Page route) = route
page_of Ready = Host
page_of Stop = Host

-- where keys are wanted, all want one but the question whether clients are let in
abbrev pub wants_key : Bool → Target → Bool
wants_key wanted Ready = false
wants_key wanted Stop = wanted
wants_key wanted (Page route) = wanted
