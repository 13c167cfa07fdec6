use Rattle.std.proofs.Common.{arith}
use Rattle.lazy_dfa.proofs.PassedBytes.SkipLemmas.{reads_none, reads_on}
use Rattle.lazy_dfa.proofs.search.runs.read_forward.Goals as goal

pub stretch-init : goal.stretch-init
stretch-init c = reads_none c.args.dfa.now c.args.cache.now c.args.haystack.now c.is_made.ensures c.requires.own
    (λ i. omega (arith, c.type_inv.haystack i)) c.requires.is_forward
    (record { at = c.args.from; id = c.args.id }) c.args.end c.requires.row c.requires.untagged c.requires.fits

pub returns-then-stretch : goal.returns-then-stretch
returns-then-stretch c = reads_on c.args.dfa.now c.args.cache.now c.args.haystack.now c.is_made.ensures c.requires.own
    (λ i. omega (arith, c.type_inv.haystack i)) c.requires.is_forward
    (record { at = c.args.from; id = c.args.id }) c.stretch.moved c.read_stretch-stretch.result.moved c.args.end c.args.end c.requires.row
    c.stretch.invariant c.read_stretch-stretch.ensures.reads

pub stretch-preserved : goal.stretch-preserved
stretch-preserved c = reads_on c.args.dfa.now c.args.cache.now c.args.haystack.now c.is_made.ensures c.requires.own
    (λ i. omega (arith, c.type_inv.haystack i)) c.requires.is_forward
    (record { at = c.args.from; id = c.args.id }) c.stretch.moved c.read_stretch-stretch.result.moved c.args.end c.args.end c.requires.row
    c.stretch.invariant c.read_stretch-stretch.ensures.reads

pub returns : goal.returns
returns c = reads_on c.args.dfa.now c.args.cache.now c.args.haystack.now c.is_made.ensures c.requires.own
    (λ i. omega (arith, c.type_inv.haystack i)) c.requires.is_forward
    (record { at = c.args.from; id = c.args.id }) c.stretch.moved c.read_alone.result.moved c.args.end c.args.end c.requires.row
    c.stretch.invariant c.read_alone.ensures.reads
