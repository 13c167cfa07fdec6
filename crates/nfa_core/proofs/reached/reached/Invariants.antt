use Rattle.nfa_core.proofs.reached.reached.Given as goal

abbrev pub ghosts-walk : goal.ghosts-walk
ghosts-walk a = record { name = a.blank.name; parts = a.blank.parts }
