-- Promise: the lines that tell why a stream ended early.
use Rattle.std.specs.Prelude.{ℕ, List, codes}
use Rattle.sb_wire.specs.declared.fault.StreamError.{StreamError}
use Rattle.sb_wire.specs.declared.fault.StreamError.TheVariants.{ReadFault, WriteFault, NoMemory}

abbrev pub fault_line : StreamError → List ℕ
fault_line ReadFault = codes "fault: read failed\n"
fault_line WriteFault = codes "fault: write failed\n"
fault_line NoMemory = codes "fault: out of memory\n"
