-- of no rule none is chosen
use Rattle.std.proofs.Common.{◌≡◌, ◌∙◌, ℕ, zero, suc, Bool, true, false, List, [], ◌∷◌, refl, sym, ap}
use Rattle.sb_value.specs.Flags.{flag_at, has_none}
use Rattle.sb_value.specs.Order.{chosen}
use Rattle.sb_priority.specs.Ranks.{ranked}
use Rattle.sb_process.proofs.candidates.chosen_of.Goals as goal

no_flag : (set : List Bool) → has_none set ≡ true → (k : ℕ) → flag_at set k ≡ false
no_flag [] e k = refl
no_flag (true ∷ set) e k = absurd (let x = e in cc)
no_flag (false ∷ set) e zero = refl
no_flag (false ∷ set) e (suc k) = no_flag set e k

none_ranked : (set : List Bool) → ((k : ℕ) → flag_at set k ≡ false) → (rules : List ℕ) → ranked set rules ≡ []
none_ranked set none [] = refl
none_ranked set none (r ∷ rules) = rw (none r) (none_ranked set none rules)

pub returns-then-is_empty : goal.returns-then-is_empty
returns-then-is_empty c pairs h =
    sym (ap (chosen pairs) (none_ranked c.args.set (no_flag c.args.set (sym c.is_empty.ensures ∙ c.if-is_empty.true)) c.args.order.now.rules))
