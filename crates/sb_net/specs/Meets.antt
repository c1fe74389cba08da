-- Machine: operations of net effects, and the rules that they trigger.
use Rattle.std.specs.Prelude.{Bool, ◌&&◌, ◌||◌}
use Rattle.sb_value.specs.Flags.{share_place}
use Rattle.sb_value.specs.declared.net.Triggers.{Triggers}
use Rattle.sb_net.specs.declared.operations.NetOperations.{NetOperations}

-- one of the operations is among those that trigger a rule
abbrev pub meets : Triggers → NetOperations → Bool
meets t o = (t.inserted && o.inserted) || ((t.deleted && o.deleted) || ((t.updated && o.updated) || share_place t.columns o.columns))
