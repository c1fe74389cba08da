use Rattle.sb_tenant.proofs.store.Store.refuse.Goals as goal

pub returns-in-NoMemory-clause-refused : goal.returns-in-NoMemory-clause-refused
returns-in-NoMemory-clause-refused g c = λ index before meant aside h. c.run_out.ensures.performed index before meant aside
