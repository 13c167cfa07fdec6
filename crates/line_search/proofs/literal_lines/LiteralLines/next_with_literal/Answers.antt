use Rattle.std.proofs.Common.{List, Option, None, Some, ℕ, sym, subst}
use Rattle.std.specs.Prelude.{option_map}
use Rattle.hir_core.specs.Tree.{never}
use Rattle.line_trees.specs.LineTrees.{line_tree}
use Rattle.literal_search.specs.Searches.{IsContainedIn, IsNextEnd}
use Rattle.line_search.specs.Candidates.{IsNextLine}
use Rattle.line_search.specs.LiteralLines.{HasStringsOf}
use Rattle.line_search.proofs.LiteralLemmas.{next_by_literals, none_by_literals, some_mapped}
use Rattle.line_search.proofs.literal_lines.LiteralLines.next_with_literal.Goals as goal

pub returns-in-Some-clause-next : goal.returns-in-Some-clause-next
returns-in-Some-clause-next c how texts it strings =
    subst (IsNextLine how texts c.args.block.now c.args.at) (sym c.line.ensures)
    (next_by_literals how texts c.args.self.now c.args.block.now c.args.at it c.see_bytes.ensures c.requires.within c.requires.starts
    c.in-Some.place c.line_start-start.result c.has_any_string_at-has.result (option_map (λ x. x.now) c.args.strings)
    (some_mapped (λ x. x.now) (HasStringsOf how texts) c.args.strings strings)
    (subst (λ (o : Option ℕ). IsNextEnd (line_tree how.crlf it.tree) c.args.block.now c.args.at o) c.in-Some.is
    (c.next_end.ensures (line_tree how.crlf it.tree)
    (subst (λ (ls : List (List ℕ)). IsContainedIn ls (line_tree how.crlf it.tree)) (sym c.self.view_is) it.contained)))
    c.line_start-start.ensures.from c.line_start-start.ensures.within c.line_start-start.ensures.before c.line_start-start.ensures.starts
    c.line_start-start.ensures.last c.has_any_string_at-has.ensures)

pub returns-in-None-clause-next : goal.returns-in-None-clause-next
returns-in-None-clause-next c how texts it strings =
    subst (IsNextLine how texts c.args.block.now c.args.at) (sym c.here-in-None.ensures)
    (none_by_literals how texts c.args.self.now c.args.block.now c.args.at it c.see_bytes.ensures c.requires.within c.requires.starts
    (subst (λ (o : Option ℕ). IsNextEnd (line_tree how.crlf it.tree) c.args.block.now c.args.at o) c.in-None.is
    (c.next_end.ensures (line_tree how.crlf it.tree)
    (subst (λ (ls : List (List ℕ)). IsContainedIn ls (line_tree how.crlf it.tree)) (sym c.self.view_is) it.contained))))

-- nothing contains a literal of a tree that matches nothing, so where the search stops is within the block
pub has_any_string_at-has-requires : goal.has_any_string_at-has-requires
has_any_string_at-has-requires c =
    (subst (λ (o : Option ℕ). IsNextEnd never c.args.block.now c.args.at o) c.in-Some.is
    (c.next_end.ensures never (record { contained = λ looks h i j means. absurd means }))).1
