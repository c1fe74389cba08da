use Rattle.sb_frontend.proofs.Extending.{nothing-committed}
use Rattle.sb_frontend.proofs.conversation.Conversation.commit.Goals as goal

pub returns-in_default-clause-told : goal.returns-in_default-clause-told
returns-in_default-clause-told g c = rw (← c.self.view_is) (nothing-committed c.self.inside.speaker c.self.inside.out c.in_default.is)
