use Rattle.sb_rawlog.specs.declared.key.Key.TheVariants.{Tuple as TupleKey}
use Rattle.sb_rawlog.proofs.Steps.{first_chain, first_places}
use Rattle.sb_rawlog.proofs.back.back_for.Goals as goal

pub search-requires : goal.search-requires
search-requires c =
    let r = c.requires in let change = c.args.change.now in
    let k = TupleKey (record { tenant = change.tenant; session = change.session }) change.table change.tuple in (
      r.1.0,
      (
        first_places c.args.arena.now c.args.heads.now.ops.items c.args.heads.now.tuples.items c.args.heads.now.sessions.items r.0 r.1.0 0 r.1.1 k 0,
        first_chain c.args.arena.now c.args.heads.now.ops.items c.args.heads.now.tuples.items c.args.heads.now.sessions.items r.0 r.1.0 0 r.1.1 k 0 c.first.result c.first.ensures,
      ),
    )
