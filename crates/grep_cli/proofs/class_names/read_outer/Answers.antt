use Rattle.grep_cli.proofs.ClassLemmas.{outer_class}
use Rattle.grep_cli.proofs.class_names.read_outer.Goals as goal

pub returns : goal.returns
returns c =
    outer_class c.name_len.result c.opening_len.result c.args.rest.now c.without_caret.result.now c.without_caret.ensures c.name_len.ensures.len
    c.if-name_len-gt0.false
    c.opening_len.ensures.len
