-- Machine: what the fields of a cell are seen as.
use Rattle.sb_rawlog.specs.Raw.{records_of}
use Rattle.sb_cell.specs.declared.cell.Cell.TheInside.{Inside}
use Rattle.sb_cell.specs.Hosting.{IsHosted}
use Rattle.sb_cell.specs.Tenants.{Cell}

abbrev pub seen : Inside → Cell
seen c = record {
  first = c.first;
  stride = c.stride;
  bound = c.bound;
  tenants = c.tenants.items;
  records = records_of c.log;
  clock = c.log.clock;
  index = c.index;
}

-- each tenant is at its place, and the log and the index hold what the tenants have
abbrev pub IsInOrder : Inside → Type 0
IsInOrder c = IsHosted (seen c)
