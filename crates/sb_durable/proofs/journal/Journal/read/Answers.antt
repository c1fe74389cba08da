use Rattle.std.proofs.Common.{◌∷◌, List, ℕ, subst}
use Rattle.std.proofs.lemmas.Result.{IfOk-weaker}
use Rattle.sb_durable.specs.Log.{HasAll}
use Rattle.sb_durable.specs.Journal.{head_bytes, contents_of}
use Rattle.sb_durable.proofs.Pieces.{contents-append, gives}
use Rattle.sb_durable.proofs.journal.Journal.read.Goals as goal

pub returns-clause-found : goal.returns-clause-found
returns-clause-found g c =
    let disk = g.D.Disk in
    IfOk-weaker c.read.result _ _ (λ next reads clean head entries at.
    let log = subst (λ (cs : List (List ℕ)). HasAll disk.seen disk.may_leave c.args.self.now.log (head_bytes head ∷ cs)) (contents-append at.front at.back) at.log in
    gives _ _ _ head entries _ next at.front at.back at.all (c.read.ensures.same _ at.log) (reads clean (head_bytes head ∷ contents_of at.front) (contents_of at.back) log at.reach)) c.read.ensures.found

pub returns-clause-same : goal.returns-clause-same
returns-clause-same g c head entries waiting has = record { batches = has.batches; log = c.read.ensures.same _ has.log; all = has.all; waits = has.waits }
