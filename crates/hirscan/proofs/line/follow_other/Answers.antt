use Rattle.hirscan.proofs.line.follow_other.Goals as goal

pub returns-in-Empty : goal.returns-in-Empty
returns-in-Empty c = rw c.in-Empty.is c.empty_line.ensures

pub returns-in-Lit : goal.returns-in-Lit
returns-in-Lit c = rw c.in-Lit.is c.lit_line.ensures

pub returns-in-Look : goal.returns-in-Look
returns-in-Look c = rw c.in-Look.is c.look_line.ensures

pub returns-in-Rep : goal.returns-in-Rep
returns-in-Rep c = rw c.in-Rep.is c.rep_line.ensures

pub returns-in-Alt : goal.returns-in-Alt
returns-in-Alt c = rw c.in-Alt.is c.alt_line.ensures

pub returns-in-Pattern : goal.returns-in-Pattern
returns-in-Pattern c = rw c.in-Pattern.is c.pattern_line.ensures

pub returns-in-Find : goal.returns-in-Find
returns-in-Find c = rw c.in-Find.is c.find_line.ensures
