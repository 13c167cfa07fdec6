use Rattle.std.proofs.Common.{ap, inr, refl, sym}
use Rattle.line_search.specs.BoundedTrees.{IsTreeForLines}
use Rattle.line_search.specs.Replacing.{all_names}
use Rattle.line_search.specs.declared.patterns.PatternOptions.{PatternOptions}
use Rattle.line_search.proofs.MatchLemmas.{asked_for_lines, asked_for_spans, read_for_lines}
use Rattle.line_search.proofs.finder.Finder.of.Goals as goal

pub invariant_of-result : goal.invariant_of-result
invariant_of-result c =
    let lines : IsTreeForLines c.args.patterns.now.0 c.args.patterns.now.1 c.args.tree.now =
    asked_for_lines c.args.patterns.now.0 c.args.patterns.now.1 c.args.with_matches c.args.tree.now c.requires.tree in (
      (
        record { tree = c.args.tree.now; mean = lines; built = c.in-Ok.ensures.built },
        λ asked. (
          asked_for_spans c.args.patterns.now.0 c.args.patterns.now.1 c.args.with_matches c.args.tree.now c.requires.tree asked,
          c.requires.loops asked,
        ),
      ),
      c.new.ensures,
      c.new-candidates.ensures,
      c.new-literals.ensures c.args.patterns.now.0 c.args.patterns.now.1 (ap (λ (h : PatternOptions). h.crlf) (sym c.how.ensures)) lines,
      c.strings_of.ensures c.args.patterns.now.0 c.args.patterns.now.1 (ap (λ (h : PatternOptions). h.crlf) (sym c.how-2.ensures)) lines,
    )

pub new-candidates-requires-clause-tree : goal.new-candidates-requires-clause-tree
new-candidates-requires-clause-tree c =
    asked_for_lines c.args.patterns.now.0 c.args.patterns.now.1 c.args.with_matches c.args.tree.now c.requires.tree

pub returns-clause-searches : goal.returns-clause-searches
returns-clause-searches c =
    let read = read_for_lines c.args.patterns.now.0 c.args.patterns.now.1 c.args.tree.now
    (asked_for_lines c.args.patterns.now.0 c.args.patterns.now.1 c.args.with_matches c.args.tree.now c.requires.tree) in
    record {
      may = λ asked. asked;
      how = c.args.patterns.now.0;
      same = refl;
      patterns = read.0;
      are_read = read.1;
      names = all_names c.args.patterns.now.0 c.args.patterns.now.1;
      named = refl;
    }

pub returns-in-Err-clause-refused : goal.returns-in-Err-clause-refused
returns-in-Err-clause-refused c = inr (c.args.tree.now, c.requires.tree, c.in-Err.ensures.refused)
