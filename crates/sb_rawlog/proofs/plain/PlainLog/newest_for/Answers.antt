use Rattle.std.proofs.Common.{◌≡◌, [], take, refl, sym, subst}
use Rattle.sb_rawlog.specs.Found.{Found, InList}
use Rattle.sb_rawlog.specs.Keys.{fits}
use Rattle.sb_rawlog.specs.KeySteps.{KeySpot}
use Rattle.sb_rawlog.specs.Records.{walk}
use Rattle.sb_rawlog.proofs.Rises.{read}
use Rattle.sb_rawlog.proofs.Spots.{it_here, it_first, it_fits}
use Rattle.sb_rawlog.proofs.plain.PlainLog.newest_for.Goals as goal

pub returns : goal.returns
returns c =
    let rs = c.args.self.now.items.items in let p = fits c.args.key.now in let since = c.args.since in let i = c.in-Some.i in let r = c.index.result.now in
    let f = subst (λ l. Found p since l (walk p since (take c.args.end l)) i) c.deref.ensures.value c.in-Some.ensures in
    let e = read rs i r c.index.ensures f.within in let todo = walk p since (take c.args.end rs) in
    subst (KeySpot (InList rs) rs c.args.key.now since todo) (sym c.spot_for.ensures) (record {
      found = r;
      is = refl;
      stands = (r.1, it_here p since rs todo i r f e);
      here = it_here p since rs todo i r f e;
      good = it_fits p since rs todo i r f e;
      first = it_first p since rs todo i r f e;
    })

pub returns-in_default : goal.returns-in_default
returns-in_default c = let p = fits c.args.key.now in subst (λ l. walk p c.args.since (take c.args.end l) ≡ []) c.deref.ensures.value c.in_default.ensures
