use Rattle.std.proofs.Common.{◌∙◌, ap, sym, List, Bool}
use Rattle.search_core.specs.ByteSets.{ranges_from}
use Rattle.search_core.specs.Marks.{recorded}
use Rattle.nfa_core.specs.Alike.{marks_of}
use Rattle.lazy_dfa.proofs.Automata.BuiltLemmas.{plain_classes, marked_classes}
use Rattle.lazy_dfa.proofs.automaton.builder.classes_of.Goals as goal

pub returns-then-not-get_byte_classes : goal.returns-then-not-get_byte_classes
returns-then-not-get_byte_classes c =
    plain_classes c.args.nfa.now c.args.config.now c.singletons.result c.singletons.ensures.len c.singletons.ensures.own
    (sym c.get_byte_classes.ensures ∙ c.if-not-get_byte_classes.true)

pub returns : goal.returns
returns c =
    marked_classes c.args.nfa.now c.args.config.now c.byte_classes.result c.add_set.new.self c.byte_classes.ensures.len
    c.byte_classes.ensures.numbered
    (c.add_set.ensures ∙ (ap (λ (m : List Bool). recorded m (ranges_from c.args.quits.now 0)) c.byte_class_set.ensures
    ∙ ap (λ (s : List Bool). recorded (marks_of c.args.nfa.now.terminator c.args.nfa.now.automaton.states) (ranges_from s 0)) c.requires))
    (sym c.get_byte_classes.ensures ∙ c.if-not-get_byte_classes.false)
