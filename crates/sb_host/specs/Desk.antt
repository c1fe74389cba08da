-- Promise: what a session and its receipts are, passed on to whoever opens a host's sessions.
pub use Rattle.sb_desk.specs.Calls.{AnswersOnce, Calls, IsBehind, IsNumbered, Session, shown}
pub use Rattle.sb_desk.specs.Receipts.{list_by, newcomer, numbered, receipt}
pub use Rattle.sb_desk.specs.Stubs.{LeavesStub}
pub use Rattle.sb_desk.specs.declared.desk.CallError.{CallError}
pub use Rattle.sb_desk.specs.declared.receipts.Receipt.{Receipt}
pub use Rattle.sb_desk.specs.declared.stub.Stub.{Stub}
