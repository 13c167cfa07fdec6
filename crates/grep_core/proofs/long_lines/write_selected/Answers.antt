use Rattle.std.proofs.Common.{◌∷◌, ◌∙◌, List, ℕ, Bor, option_map, ap, sym}
use Rattle.std.specs.List.{flat_map}
use Rattle.line_search.specs.Patterns.{spans_in}
use Rattle.grep_core.specs.ContextPrinting.{item, print_item}
use Rattle.grep_core.specs.LongLines.{printed_one}
use Rattle.grep_core.specs.Printing.{text_line}
use Rattle.grep_core.specs.Reporting.{shown, still_reported}
use Rattle.grep_core.specs.declared.role.Role.TheVariants.{Selected}
use Rattle.grep_core.proofs.LongLineLemmas.{all_printed, none_begun, selected_begun, selected_part, selected_written}
use Rattle.grep_core.proofs.long_lines.write_selected.Goals as goal

pub returns-in-Err-clause-fault : goal.returns-in-Err-clause-fault
returns-in-Err-clause-fault g c f res read seen spans some lines = none_begun (g.W.Write.contents c.args.writer.now) _

pub returns-in-Err-write_matches-clause-fault : goal.returns-in-Err-write_matches-clause-fault
returns-in-Err-write_matches-clause-fault g c f res read seen spans some lines =
    let name = option_map (λ (n : Bor (List ℕ)). n.now) c.shown-name.result in
    let found = flat_map (printed_one c.args.task.what.now name (text_line c.args.line))
    (spans_in c.args.finder.now.how res c.args.bytes.now) in
    selected_begun c.new-out.result.items c.begin_matches.new.out.items found
    (print_item c.args.task.what.now (shown c.args.task.with_name c.args.task.name.now) Selected (item (text_line c.args.line)
    (f.spans (text_line c.args.line).content)))
    (still_reported c.args.task.what.now f c.args.task.name.now c.args.task.with_name c.args.telling.now (text_line c.args.line ∷ lines))
    (still_reported c.args.task.what.now f c.args.task.name.now c.args.task.with_name c.begin_matches.new.telling lines)
    (g.W.Write.contents c.args.writer.now) (g.W.Write.contents c.write_matches.new.writer) c.new-out.ensures.items
    (c.in-Ok.ensures.goes_on f (text_line c.args.line) seen lines)
    (all_printed c.args.task.what.now (shown c.args.task.with_name c.args.task.name.now) (text_line c.args.line)
    (spans_in c.args.finder.now.how res c.args.bytes.now) (f.spans (text_line c.args.line).content) c.requires.may.by_match c.requires.may.plain.plain some spans
    ∙ ap (λ n. flat_map (printed_one c.args.task.what.now n (text_line c.args.line))
    (spans_in c.args.finder.now.how res c.args.bytes.now)) (sym c.shown-name.ensures))
    (c.in-Err-write_matches.ensures.fault res read)

pub returns-in-Ok-write_out-clause-writes : goal.returns-in-Ok-write_out-clause-writes
returns-in-Ok-write_out-clause-writes g c f res read seen spans some lines =
    let name = option_map (λ (n : Bor (List ℕ)). n.now) c.shown-name.result in
    let found = flat_map (printed_one c.args.task.what.now name (text_line c.args.line))
    (spans_in c.args.finder.now.how res c.args.bytes.now) in
    selected_written c.new-out.result.items c.begin_matches.new.out.items found
    (print_item c.args.task.what.now (shown c.args.task.with_name c.args.task.name.now) Selected (item (text_line c.args.line)
    (f.spans (text_line c.args.line).content)))
    (still_reported c.args.task.what.now f c.args.task.name.now c.args.task.with_name c.args.telling.now (text_line c.args.line ∷ lines))
    (still_reported c.args.task.what.now f c.args.task.name.now c.args.task.with_name c.begin_matches.new.telling lines)
    c.write_matches.new.out.items c.deref.result.now
    (g.W.Write.contents c.args.writer.now) (g.W.Write.contents c.write_matches.new.writer) (g.W.Write.contents c.write_out.new.writer)
    c.new-out.ensures.items (c.in-Ok.ensures.goes_on f (text_line c.args.line) seen lines)
    (all_printed c.args.task.what.now (shown c.args.task.with_name c.args.task.name.now) (text_line c.args.line)
    (spans_in c.args.finder.now.how res c.args.bytes.now) (f.spans (text_line c.args.line).content) c.requires.may.by_match c.requires.may.plain.plain some spans
    ∙ ap (λ n. flat_map (printed_one c.args.task.what.now n (text_line c.args.line))
    (spans_in c.args.finder.now.how res c.args.bytes.now)) (sym c.shown-name.ensures))
    (c.in-Ok-write_matches.ensures.sends res read) c.deref.ensures.value c.in-Ok-write_out.ensures.ok

pub returns-clause-fault : goal.returns-clause-fault
returns-clause-fault g c f res read seen spans some lines =
    let name = option_map (λ (n : Bor (List ℕ)). n.now) c.shown-name.result in
    let found = flat_map (printed_one c.args.task.what.now name (text_line c.args.line))
    (spans_in c.args.finder.now.how res c.args.bytes.now) in
    selected_part c.new-out.result.items c.begin_matches.new.out.items found
    (print_item c.args.task.what.now (shown c.args.task.with_name c.args.task.name.now) Selected (item (text_line c.args.line)
    (f.spans (text_line c.args.line).content)))
    (still_reported c.args.task.what.now f c.args.task.name.now c.args.task.with_name c.args.telling.now (text_line c.args.line ∷ lines))
    (still_reported c.args.task.what.now f c.args.task.name.now c.args.task.with_name c.begin_matches.new.telling lines)
    c.write_matches.new.out.items c.deref.result.now
    (g.W.Write.contents c.args.writer.now) (g.W.Write.contents c.write_matches.new.writer) (g.W.Write.contents c.write_out.new.writer)
    c.new-out.ensures.items (c.in-Ok.ensures.goes_on f (text_line c.args.line) seen lines)
    (all_printed c.args.task.what.now (shown c.args.task.with_name c.args.task.name.now) (text_line c.args.line)
    (spans_in c.args.finder.now.how res c.args.bytes.now) (f.spans (text_line c.args.line).content) c.requires.may.by_match c.requires.may.plain.plain some spans
    ∙ ap (λ n. flat_map (printed_one c.args.task.what.now n (text_line c.args.line))
    (spans_in c.args.finder.now.how res c.args.bytes.now)) (sym c.shown-name.ensures))
    (c.in-Ok-write_matches.ensures.sends res read) c.deref.ensures.value c.in-Err-write_out.ensures.part
