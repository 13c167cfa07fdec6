use Rattle.std.proofs.Common.{◌≡◌, ◌∙◌, map, rules}
use Rattle.std.specs.Bool.{nat_eq}
use Rattle.std.specs.List.{list_any}
use Rattle.nfa_core.specs.Alike.{marks_of}
use Rattle.nfa_core.specs.Nfa.{node_at}
use Rattle.nfa_core.specs.NfaParts.{automaton_in}
use Rattle.nfa_core.specs.NfaValue.{is_match, looks_of, reached_freely}
use Rattle.nfa_core.specs.Walks.{distinct}
use Rattle.nfa_core.proofs.NfaLookLemmas.{empty_met, prefix_met}
use Rattle.nfa_core.proofs.nfa_facts.Facts.new.Goals as goal

pub returns : goal.returns
returns c =
    let met : c.in_ok-reached.reached.names ≡ distinct nat_eq (reached_freely (automaton_in c.args.parts.now)) = search rules in
    let empty : c.has_match.result ≡ list_any (λ q. is_match (node_at (automaton_in c.args.parts.now) q)) c.in_ok-reached.reached.names =
    rw c.deref-3.ensures.value at c.has_match.ensures in
    let prefix : c.looks_among.result ≡ looks_of (map (node_at (automaton_in c.args.parts.now)) c.in_ok-reached.reached.names) =
    rw c.deref-5.ensures.value at c.looks_among.ensures in
    let marks : c.class_set-byte_class_set.result ≡ marks_of c.args.parts.now.look_matcher.terminator
    (automaton_in c.args.parts.now).states = rw c.deref.ensures.value at c.class_set-byte_class_set.ensures in
    record {
      captures = search rules;
      empty = empty ∙ empty_met (automaton_in c.args.parts.now) c.in_ok-reached.reached.names met;
      looks = search rules;
      prefix = prefix ∙ prefix_met (automaton_in c.args.parts.now) c.in_ok-reached.reached.names met;
      marks = marks;
      all_bytes = c.byte_classes.ensures.len;
      classes = c.byte_classes.ensures.numbered;
      memory = search rules;
    }
