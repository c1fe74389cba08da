-- Promise: the lines that tell why a run with a journal ends early, or a journal isn't written anew.
use Rattle.std.specs.Prelude.{ℕ, List, codes}
use Rattle.sb_wire.specs.Faults.{fault_line}
use Rattle.sb_backup.specs.Errors.{error_text}
use Rattle.sb_durable.specs.declared.journal_fault.JournalFault.{JournalFault}
use Rattle.sb_durable.specs.declared.journal_fault.JournalFault.TheVariants.{Stream, CannotOpen, Failed, CannotWrite, Undumped}

abbrev pub fault_text : JournalFault → List ℕ
fault_text (Stream e) = fault_line e
fault_text CannotOpen = codes "fault: cannot open journal\n"
fault_text Failed = codes "fault: journal failed\n"
fault_text CannotWrite = codes "fault: cannot write journal\n"
fault_text (Undumped e) = error_text e
