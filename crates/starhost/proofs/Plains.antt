-- Words that ask for a server by numbers alone.
use Rattle.std.proofs.Common.{◌≡◌, ◌∙◌, List, Option, Some, None, ℕ, refl}
use Rattle.std.specs.Borrow.{Bor}
use Rattle.sb_words.specs.Requests.{IsPlain, beginning_of, fresh, text_of}
use Rattle.sb_words.specs.declared.invocation.Origin.{Origin}
use Rattle.sb_words.specs.declared.invocation.Origin.TheVariants as origin
use Rattle.sb_words.specs.declared.invocation.ServeWords.{ServeWords}
use Rattle.std.specs.declared.net.socket_addr.SocketAddr.{SocketAddr}
use Rattle.starhost.specs.Plains.{IsPlainServer}
use Rattle.starhost.specs.Terms.{IsPlanOf, IsStatusOf}
use Rattle.starhost.specs.declared.terms.Plan.{Plan}

is_fresh : (o : Origin) → beginning_of o ≡ fresh → o ≡ origin.Fresh
is_fresh origin.Fresh is = refl
is_fresh (origin.Folder path) is = cc
is_fresh (origin.Journal words) is = cc

has_none : (s : Option (Bor (List ℕ))) → text_of s ≡ None → s ≡ None
has_none None is = refl
has_none (Some r) is = cc

no_status : (port : Option ℕ) (address : Option SocketAddr) → port ≡ None → IsStatusOf port address → address ≡ None
no_status None None none is = refl
no_status None (Some address) none is = absurd is
no_status (Some port) address none is = cc

-- and their plan is that of such a server
pub is_plain : (words : ServeWords) (plan : Plan) → IsPlanOf words.options plan
    → IsPlain words.options (beginning_of words.origin) (text_of words.dump_to) (text_of words.keys) → IsPlainServer words plan
is_plain words plan is plain = (
  is_fresh words.origin plain.0,
  has_none words.dump_to plain.1,
  has_none words.keys plain.2,
  no_status words.options.status plan.status plain.3 is.7,
  is.8 ∙ plain.4,
)
