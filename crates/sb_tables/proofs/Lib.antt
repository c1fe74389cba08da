pub mod RisingLaws
pub mod RowLaws
pub mod SlotLaws
pub mod TableLaws
pub mod UndoLaws
pub mod KeepLaws
pub mod TablesHeld
pub mod Pigeons
