-- Promise: which requests come from elsewhere: they name another machine, or a page of another site sends them.
use Rattle.std.specs.Prelude.{◌==◌, ◌&&◌, ◌||◌, ℕ, Bool, false, true, bytes_eq, codes, drop, if◌then◌else◌, is_some, length, List, [], ◌∷◌, map, Option, None, Some, option_copied, take}
use Rattle.std.specs.Char.{is_ascii_digit}
use Rattle.std.specs.List.{list_all}
use Rattle.httparse.specs.Grammar.{ReadsRequest, RequestHead}
use Rattle.httparse.specs.Spans.{name_and_value}
use Rattle.sb_status.specs.Requests.{HasFirst}
use Rattle.sb_monitor.specs.declared.http_outcome.HttpRefusal.{HttpRefusal}
use Rattle.sb_monitor.specs.declared.http_outcome.HttpRefusal.TheVariants.{Foreign, OtherName}
use Rattle.sb_monitor.specs.declared.sender.Sender.{Sender}

-- a sender has what the first headers of these names say
pub record IsOf (head : RequestHead) (s : Sender) : Type 0 where
  pub host : HasFirst (codes "host") (map name_and_value head.fields) (option_copied s.host)
  pub origin : HasFirst (codes "origin") (map name_and_value head.fields) (option_copied s.origin)
  pub site : HasFirst (codes "sec-fetch-site") (map name_and_value head.fields) (option_copied s.site)

-- the bytes begin with the head of a request, and that is its sender
abbrev pub IsSentBy : List ℕ → Sender → Type 0
IsSentBy bytes s = (head : RequestHead) × (rest : List ℕ) × ReadsRequest bytes head rest × IsOf head s

-- nothing, or a colon and digits
abbrev pub is_port : List ℕ → Bool
is_port [] = true
is_port (colon ∷ digits) = (colon == 58) && list_all is_ascii_digit digits

-- it is that name, without a port or with one
abbrev pub is_at : List ℕ → List ℕ → Bool
is_at name host = bytes_eq (take (length name) host) name && is_port (drop (length name) host)

-- it is a name of this machine
abbrev pub is_here : List ℕ → Bool
is_here host = is_at (codes "localhost") host || (is_at (codes "127.0.0.1") host || is_at (codes "[::1]") host)

-- a request names this machine, or none
abbrev pub names_here : Option (List ℕ) → Bool
names_here None = true
names_here (Some host) = is_here host

-- a browser tells that it is of a page of this server or of none, or no browser tells
abbrev pub is_own : Option (List ℕ) → Bool
is_own None = true
is_own (Some site) = bytes_eq site (codes "same-origin") || bytes_eq site (codes "none")

-- no page of this server is the origin of a request
abbrev pub is_foreign : Sender → Bool
is_foreign s = if is_some s.origin then true else (if is_own (option_copied s.site) then false else true)

-- why a sender is shown nothing, if it isn't
abbrev pub stranger_of : Sender → Option HttpRefusal
stranger_of s = if names_here (option_copied s.host) then (if is_foreign s then Some Foreign else None) else Some OtherName
