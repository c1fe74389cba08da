-- Machine: what a walk looks for.
use Rattle.std.specs.Prelude.{Bool}
use Rattle.sb_value.specs.declared.change.Change.{Change}
use Rattle.sb_rawlog.specs.Changes.{is_by, is_op, is_tuple}
use Rattle.sb_rawlog.specs.declared.key.Key.{Key}
use Rattle.sb_rawlog.specs.declared.key.Key.TheVariants.{Op, Tuple, Session}

abbrev pub fits : Key → Change → Bool
fits (Op who table kind) c = is_op who table kind c
fits (Tuple who table tuple) c = is_tuple who table tuple c
fits (Session who) c = is_by who c
