use Rattle.std.proofs.Common.{map, ap, sym, ◌∙◌}
use Rattle.sb_tenant.specs.Alike.{IsAtRest, shown}
use Rattle.sb_tenant.specs.Tenant.{state}
use Rattle.sb_tenant.proofs.Resting.{seen_at_rest}
use Rattle.sb_tenant.proofs.alike.are_alike.Goals as goal

-- at rest the tables that are seen are the committed ones
pub returns : goal.returns
returns c h =
    let first : IsAtRest (state c.args.one.now) = c.is_at_rest.ensures c.if-not-is_at_rest.false in
    let second : IsAtRest (state c.args.other.now) = c.is_at_rest-2.ensures c.if-not-is_at_rest-2.false in
    let same = c.same_catalogs.ensures in
    record {
      catalogs = record {
        tables =
            ap (map shown) (sym (seen_at_rest (state c.args.one.now) first.ended))
            ∙ same.tables h
            ∙ ap (map shown) (seen_at_rest (state c.args.other.now) second.ended);
        rules = same.rules h;
        rulesets = same.rulesets h;
        pairs = same.pairs h;
      };
      first = first;
      second = second;
    }
