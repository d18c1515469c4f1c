use Rattle.ept_part.proofs.names.path_in.Goals as goal

pub returns : goal.returns
returns c = c.format.ensures.ok
