use Rattle.bz_engine.proofs.marking.find_marking.Goals as goal

pub returns-in-ByName : goal.returns-in-ByName
returns-in-ByName c = c.by_name.ensures c.args.line
