-- Promise: an error that a client is told, with what is known of it.
use Rattle.std.specs.Prelude.{ℕ, List, [], ◌∷◌, ◌++◌, codes}
use Rattle.sb_postgres.specs.Answers.{Answered, ErrorResponse, SeenField}
use Rattle.sb_frontend.specs.declared.report.Report.{Report}
use Rattle.sb_frontend.specs.Outputs.{field, fields_of}

-- what is empty isn't told
abbrev pub known : ℕ → List ℕ → List SeenField
known letter [] = []
known letter (b ∷ bs) = field letter (b ∷ bs) ∷ []

-- behind what each error has: the detail, the context and the place in the client's text
abbrev pub details : Report → List SeenField
details r = (known 68 r.detail.items ++ known 87 r.context.items) ++ known 80 r.position.items

abbrev pub reported : Report → Answered
reported r = ErrorResponse (fields_of (codes "ERROR") r.state r.message.items ++ details r)
