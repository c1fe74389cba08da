use Rattle.std.proofs.Common.{◌≡◌, ◌+◌, ◌≤◌, vec_len, vec_capacity, sym, subst, arith, rules}
use Rattle.crossbeam_deque.specs.Handles.{stealer_deque}
use Rattle.sb_workers.proofs.Crews.{helpers_grow, helpers-pop}
use Rattle.sb_workers.proofs.crew.+crew+fn-crew-join+arg3.Goals as goal

pub join-helper-requires-after_bounds : goal.join-helper-requires-after_bounds
join-helper-requires-after_bounds g t c =
    let p = helpers-pop g.W.Work.does (stealer_deque c.args.thief.now) c.args.helpers.items c.pop.new.self.items c.in-Some.helper c.in-Some.ensures.items c.requires.1 in
    let less : vec_len c.pop.new.self + 1 ≡ vec_len c.args.helpers = c.in-Some.ensures.cases in
    let places = c.requires.3 in
    λ κs bounds. (p.1, (search rules, ((λ a h. h), ((λ a h. h), ((λ a h. h), ((λ a h. h), ((search rules, search rules, (c.requires.0, p.0, c.requires.2, omega (arith, less, places))), (search rules, search rules, search rules, search rules))))))))

pub returns : goal.returns
returns g t c =
    let two = c.join-helper.ensures.second in
    let pushed = c.push_reserved.ensures in
    let less : vec_len c.pop.new.self + 1 ≡ vec_len c.args.helpers = c.in-Some.ensures.cases in (
      two.0,
      two.1,
      helpers_grow g.W.Work.does (stealer_deque c.args.thief.now) c.join-helper.result.1.1.items c.join-helper.result.0 c.push_reserved.new.self.items pushed.items two.2 c.join-helper.ensures.first,
      omega (arith, pushed.len, two.3, less),
      subst (λ n. vec_capacity c.args.back ≤ n) (sym pushed.capacity) two.4,
    )
