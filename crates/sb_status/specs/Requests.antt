-- Promise: which bytes give which request.
use Rattle.std.specs.Prelude.{◌≡◌, ◌⊎◌, ℕ, List, [], ◌∷◌, Ok, Option, None, Some, ⊤, codes, drop, map, option_copied, take}
use Rattle.std.specs.Char.{to_ascii_lowercase}
use Rattle.base64.specs.Engines.{standard}
use Rattle.base64.specs.GeneralPurpose.{decode_of}
use Rattle.httparse.specs.Grammar.{ReadsRequest, RequestHead}
use Rattle.httparse.specs.Spans.{name_and_value}
use Rattle.memchr.specs.Find.{IsFirstByte, is_byte}
use Rattle.sb_status.specs.declared.request.Incoming.{Incoming}
use Rattle.sb_status.specs.declared.request.Incoming.TheVariants.{Partial, TooLong, Malformed, Whole}
use Rattle.sb_status.specs.declared.request.Request.{Request}

-- the most bytes of a head
abbrev pub head_limit : ℕ
head_limit = 8192

abbrev pub IfWhole : Incoming → (Request → Type 0) → Type 0
IfWhole (Whole r) P = P r
IfWhole Partial P = ⊤
IfWhole TooLong P = ⊤
IfWhole Malformed P = ⊤

-- the most headers of a head
abbrev pub header_limit : ℕ
header_limit = 64

-- a header with its value has this name, whose letters may be large or small
abbrev pub IsNamed : List ℕ → List ℕ × List ℕ → Type 0
IsNamed name header = map to_ascii_lowercase header.0 ≡ map to_ascii_lowercase name

-- the first of these headers that has the name has this value, or none has it
abbrev pub HasFirst : List ℕ → List (List ℕ × List ℕ) → Option (List ℕ) → Type 0
HasFirst name [] value = value ≡ None
HasFirst name (header ∷ headers) value =
    (IsNamed name header × (value ≡ Some header.1)) ⊎ ((IsNamed name header → ⊥) × HasFirst name headers value)

-- a request has the method and target of a head, and what its headers say of who asks
pub record IsOf (head : RequestHead) (r : Request) : Type 0 where
  pub method : r.method.now ≡ head.method
  pub target : r.target.now ≡ head.target
  pub authorization : HasFirst (codes "authorization") (map name_and_value head.fields) (option_copied r.authorization)
  pub origin : HasFirst (codes "origin") (map name_and_value head.fields) (option_copied r.origin)

-- the bytes begin with a head of HTTP/1.0 or 1.1, and the request is that
abbrev pub IsHeadOf : List ℕ → Request → Type 0
IsHeadOf bytes r = (head : RequestHead) × (rest : List ℕ) × ReadsRequest bytes head rest × IsOf head r

-- HTTP Basic: the code is base64 of a text, whose first colon stands there
abbrev pub AreIn : List ℕ → List ℕ → ℕ → Type 0
AreIn code text colon = (decode_of standard code ≡ Ok text) × IsFirstByte (is_byte 58) text (Some colon)

-- a header's value has them behind the scheme's name, whose letters may be large or small
abbrev pub AreSent : List ℕ → List ℕ → ℕ → Type 0
AreSent value text colon = (map to_ascii_lowercase (take 6 value) ≡ codes "basic ") × AreIn (drop 6 value) text colon
