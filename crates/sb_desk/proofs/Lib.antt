pub mod SeatSteps
pub mod CellSteps
pub mod DeskSteps
pub mod ReceiptSteps
pub mod DeskCalls
pub mod DeskNew
pub mod DeskRenewals
