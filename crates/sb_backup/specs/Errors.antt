-- Promise: the lines that tell why tenants aren't dumped, or aren't made again.
use Rattle.std.specs.Prelude.{ℕ, List, ◌++◌, codes, decimal}
use Rattle.sb_wire.specs.Faults.{fault_line}
use Rattle.sb_backup.specs.declared.error.BackupError.{BackupError}
use Rattle.sb_backup.specs.declared.error.BackupError.TheVariants.{Stream, NoTenant, TenantBusy, CannotDump, NoFolder, CannotLoad, CannotWrite}

-- a text with a number behind it
abbrev pub one_number_text : List ℕ → ℕ → List ℕ
one_number_text label number = label ++ decimal number ++ codes "\n"

abbrev pub error_text : BackupError → List ℕ
error_text (Stream e) = fault_line e
error_text (NoTenant t) = one_number_text (codes "fault: no tenant ") t
error_text (TenantBusy t) = one_number_text (codes "fault: busy tenant ") t
error_text (CannotDump t) = one_number_text (codes "fault: cannot dump ") t
error_text NoFolder = codes "fault: no folder\n"
error_text (CannotLoad t) = one_number_text (codes "fault: cannot load ") t
error_text (CannotWrite t) = one_number_text (codes "fault: cannot write ") t
