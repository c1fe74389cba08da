use Rattle.sb_server.proofs.client_connection.ClientConnection.answer.Goals as goal

pub returns-clause-stays : goal.returns-clause-stays
returns-clause-stays g c = c.advance.ensures.stays
