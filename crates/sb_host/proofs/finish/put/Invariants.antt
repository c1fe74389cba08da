use Rattle.sb_host.proofs.finish.put.Given as goal

abbrev pub ghost-put_all : goal.ghost-put_all
ghost-put_all g a = g.N.Naming.bound
