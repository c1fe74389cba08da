-- Machine: what a command asks of its session, in the program.
use Rattle.sb_tenant.specs.declared.class.Class as stored
use Rattle.sb_tenant.specs.declared.class.Class.TheVariants.{Opens, Ends, Begins, Defines, Works}
use Rattle.sb_tenant.specs.Resolved.{Class, opens, ends, begins, defines, works}

abbrev pub class_seen : stored.Class → Class
class_seen Opens = opens
class_seen Ends = ends
class_seen Begins = begins
class_seen Defines = defines
class_seen Works = works
