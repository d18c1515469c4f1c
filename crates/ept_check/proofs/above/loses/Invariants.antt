use Rattle.ept_check.proofs.above.loses.Given as goal

abbrev pub ghosts-loses_in : goal.ghosts-loses_in
ghosts-loses_in a = record { name = a.blank.name; parts = a.blank.parts }
