-- Machine: a rule's transition tables, net effect by net effect.
use Rattle.std.specs.Prelude.{List, ◌++◌, filter_map, option_to_list, Option}
use Rattle.sb_value.specs.NetEffect.{inserted_row, deleted_row, old_updated_row, new_updated_row}
use Rattle.sb_value.specs.declared.net.Net.{Net}
use Rattle.sb_value.specs.declared.net.Transition.{Transition}
use Rattle.sb_value.specs.declared.net.Triggers.{Triggers}

-- the rows of these net effects
abbrev pub tables_of : Triggers → List (Option Net) → Transition
tables_of triggers nets = record {
  inserted = filter_map inserted_row nets;
  deleted = filter_map deleted_row nets;
  old_updated = filter_map (old_updated_row triggers) nets;
  new_updated = filter_map (new_updated_row triggers) nets;
}

-- the tables with those of one more
abbrev pub with_net : Triggers → Transition → Option Net → Transition
with_net triggers tables net = record {
  inserted = tables.inserted ++ option_to_list (inserted_row net);
  deleted = tables.deleted ++ option_to_list (deleted_row net);
  old_updated = tables.old_updated ++ option_to_list (old_updated_row triggers net);
  new_updated = tables.new_updated ++ option_to_list (new_updated_row triggers net);
}
