use Rattle.ept_leaf_rows.proofs.grids.number_in.Given as goal

abbrev pub ghosts-number_of_winner : goal.ghosts-number_of_winner
ghosts-number_of_winner a = record { name = a.blank.name; parts = a.blank.parts }
