use Rattle.std.proofs.Common.{◌≡◌, ◌++◌, map, drop, option_map}
use Rattle.std.specs.List.{flat_map}
use Rattle.grep_core.specs.Printing.{printed_match, text_line}
use Rattle.line_search.specs.LineMatchers.{span_pair}
use Rattle.grep_core.proofs.items.push_all.Given as goal

abbrev pub invariant-loop-span : goal.invariant-loop-span
invariant-loop-span l =
    l.out.items ++ flat_map (printed_match l.what (option_map (λ n. n.now) l.name) l.role (text_line l.line))
    (map span_pair (drop l.span-index l.found))
    ≡ l.initial.out.items ++ flat_map (printed_match l.what (option_map (λ n. n.now) l.name) l.role (text_line l.line))
    (map span_pair l.found)
