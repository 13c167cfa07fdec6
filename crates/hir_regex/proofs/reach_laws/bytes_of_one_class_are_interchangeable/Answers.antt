use Rattle.hir_regex.proofs.ClassLemmas.{answer_by_automaton, answer_by_classes, built_has_its_classes}
use Rattle.hir_regex.proofs.reach_laws.bytes_of_one_class_are_interchangeable.Goals as goal

pub returns-clause-marks : goal.returns-clause-marks
returns-clause-marks c = answer_by_automaton

pub returns-clause-answer : goal.returns-clause-answer
returns-clause-answer c = answer_by_classes

pub returns-clause-built : goal.returns-clause-built
returns-clause-built c = built_has_its_classes
