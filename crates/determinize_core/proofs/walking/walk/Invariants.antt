use Rattle.determinize_core.proofs.walking.walk.Given as goal

abbrev pub ghosts-walk_counted : goal.ghosts-walk_counted
ghosts-walk_counted a = record { name = a.blank.name; parts = a.blank.parts }
