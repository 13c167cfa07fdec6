use Rattle.std.proofs.Common.{option_map, string_bytes, subst, sym, arith}
use Rattle.std.proofs.lemmas.List.{length-map}
use Rattle.group_finder.specs.Engines.{IsAutomatonOf}
use Rattle.group_finder.proofs.CompileLemmas.{few_bytes, may_compile, not_both}
use Rattle.group_finder.proofs.GroupLemmas.{automaton_made, pattern_read}
use Rattle.group_finder.proofs.LaidLemmas.{all_laid}
use Rattle.group_finder.proofs.finder.dfa_of.Goals as goal

pub returns-in-Err-clause-refused : goal.returns-in-Err-clause-refused
returns-in-Err-clause-refused c = c.cause_of.ensures _ _ _ c.in-Err.ensures.err

pub returns-in_default-clause-refused : goal.returns-in_default-clause-refused
returns-in_default-clause-refused c = (c.allowed-most.ensures, pattern_read _ _ _ _ c.in-Ok.ensures.ok)

pub returns-in-Err-TooBig-clause-refused : goal.returns-in-Err-TooBig-clause-refused
returns-in-Err-TooBig-clause-refused c = (c.allowed-most.ensures, pattern_read _ _ _ _ c.in-Ok.ensures.ok)

pub unreachable-requires : goal.unreachable-requires
unreachable-requires c =
    c.in-Err-Malformed.ensures.whole
    (may_compile c.args.config.now c.args.text.now c.in-Ok.parsed.hir _ _ c.in-Ok.ensures.ok c.in-Ok.ensures.formed
    (omega (arith, c.len.ensures, c.in-Ok-try_from.ensures, length-map c.in-Ok.parsed.names.items (option_map string_bytes))))
    (omega (arith, c.in-Ok.ensures.group_zero.0, c.in-Ok-try_from.ensures.1, c.len.ensures))
    c.in-Err-Malformed.field-0-is

pub unreachable-requires-in-Err-Malformed-new : goal.unreachable-requires-in-Err-Malformed-new
unreachable-requires-in-Err-Malformed-new c =
    let shape = c.in-Ok-compile.ensures.shape
    (may_compile c.args.config.now c.args.text.now c.in-Ok.parsed.hir _ _ c.in-Ok.ensures.ok c.in-Ok.ensures.formed
    (omega (arith, c.len.ensures, c.in-Ok-try_from.ensures, length-map c.in-Ok.parsed.names.items (option_map string_bytes)))) in
    not_both c.in-Err-Malformed-new.field-0 c.in-Err-Malformed-new.field-0-is
    (c.in-Err-Malformed-new.ensures.whole shape.0 (shape.1 (few_bytes c.args.size_limit c.allowed-most.result c.allowed-most.ensures)))

pub returns-in-Ok-new-clause-made : goal.returns-in-Ok-new-clause-made
returns-in-Ok-new-clause-made c =
    subst (IsAutomatonOf c.args.config.now c.args.text.now) (sym c.in-Ok-new.ensures.same)
    (automaton_made c.args.config.now c.args.text.now c.in-Ok.parsed.hir _ c.in-Ok-compile.nfa c.in-Ok.ensures.ok
    c.in-Ok-compile.ensures.matches
    (omega (arith, c.in-Ok-compile.ensures.slots, c.len.ensures, c.in-Ok-try_from.ensures, length-map c.in-Ok.parsed.names.items (option_map string_bytes))))

pub returns-in-Ok-new-clause-laid : goal.returns-in-Ok-new-clause-laid
returns-in-Ok-new-clause-laid c =
    all_laid c.args.config.now c.args.text.now c.in-Ok.parsed.hir _ c.in-Ok-layout_of.layout c.in-Ok.ensures.ok c.in-Ok-layout_of.ensures
