use Rattle.std.proofs.Common.{◌-◌, ◌+◌, ap, arith, drop, take}
use Rattle.grep_cli.proofs.ClassLemmas.{inner_class, inner_known, inner_unknown}
use Rattle.grep_cli.proofs.class_names.read_inner.Goals as goal

pub returns-then-len-eq0 : goal.returns-then-len-eq0
returns-then-len-eq0 c inside few =
    inner_class c.args.depth c.saturating_add.result c.name_len-len.result c.opening_len.result c.args.rest.now inside c.name_len-len.ensures.len
    c.if-len-eq0.true
    c.opening_len.ensures.len
    (omega arith)

pub returns-then-is_known : goal.returns-then-is_known
returns-then-is_known c inside few =
    inner_known c.args.depth c.name_len-len.result c.args.rest.now (take (1 + c.name_len-len.result - 1) (drop 1 c.args.rest.now)) inside
    c.name_len-len.ensures.len
    (omega arith)
    (ap (λ k. take k (drop 1 c.args.rest.now)) (omega arith))
    c.if-is_known.ensures

pub returns : goal.returns
returns c inside few =
    inner_unknown c.args.depth c.name_len-len.result c.args.rest.now (take (1 + c.name_len-len.result - 1) (drop 1 c.args.rest.now)) inside
    c.name_len-len.ensures.len
    (omega arith)
    (ap (λ k. take k (drop 1 c.args.rest.now)) (omega arith))
    c.if-is_known.ensures
