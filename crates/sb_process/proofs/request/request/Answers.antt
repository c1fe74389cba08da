use Rattle.sb_locks.specs.Held.{held}
use Rattle.sb_process.proofs.Requests.{has_name_of}
use Rattle.sb_process.proofs.request.request.Goals as goal

pub unwrap-requires : goal.unwrap-requires
unwrap-requires c = has_name_of c.args.tables.now (held c.args.locks.now) c.args.session c.args.list.now c.in-Err.locked.table c.name.result c.requires c.in-Err.ensures.refused c.name.ensures
