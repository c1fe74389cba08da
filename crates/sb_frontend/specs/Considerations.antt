-- Promise: the text of considered rules, as `rules considered: note true, check false`.
use Rattle.std.specs.Prelude.{ℕ, List, [], ◌∷◌, ◌++◌, flat_map, codes}
use Rattle.sb_value.specs.declared.refusal.Verdict.{Verdict}
use Rattle.sb_value.specs.declared.refusal.Verdict.TheVariants as verdict
use Rattle.sb_postgres.specs.declared.told.sqlstate.SqlState.TheVariants as state
use Rattle.sb_postgres.specs.Answers.{Answered}
use Rattle.sb_frontend.specs.Outputs.{notice_of}

abbrev pub Considered : Type 0
Considered = List ℕ × Verdict

abbrev pub verdict_text : Verdict → List ℕ
verdict_text verdict.True = codes " true"
verdict_text verdict.False = codes " false"
verdict_text verdict.Error = codes " error"

abbrev pub considered : Considered → List ℕ
considered c = c.0 ++ verdict_text c.1

abbrev pub listed : List Considered → List ℕ
listed [] = []
listed (c ∷ cs) = considered c ++ flat_map (λ d. codes ", " ++ considered d) cs

abbrev pub considered_text : List Considered → List ℕ
considered_text cs = codes "rules considered: " ++ listed cs

-- one notice of them, if there are any
abbrev pub notices : List Considered → List Answered
notices [] = []
notices (c ∷ cs) = notice_of (codes "NOTICE") state.SuccessfulCompletion (considered_text (c ∷ cs)) ∷ []
