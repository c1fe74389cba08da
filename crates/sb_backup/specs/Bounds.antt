-- Promise: the bound of each step of a run.
use Rattle.sb_tenant.specs.declared.bound.Bound.{Bound}
use Rattle.sb_words.specs.declared.invocation.Run.{Run}

-- its consideration limit, and its budget, if there is one
abbrev pub bound_of : Run → Bound
bound_of run = record { considerations = run.bound; work = run.work }
