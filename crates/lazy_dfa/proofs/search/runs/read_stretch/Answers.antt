use Rattle.std.proofs.Common.{◌≡◌, ◌+◌, ◌≤◌, subst, sym, arith}
use Rattle.lazy_dfa.specs.Stretches.{MovesTo}
use Rattle.lazy_dfa.specs.declared.search.runs.Moved.{Moved}
use Rattle.lazy_dfa.proofs.PassedBytes.SkipLemmas.{reads_on, reads_thrice, reads_within}
use Rattle.lazy_dfa.proofs.search.runs.read_stretch.Goals as goal

pub returns-then-lead-lt-LEAD-clause-reads : goal.returns-then-lead-lt-LEAD-clause-reads
returns-then-lead-lt-LEAD-clause-reads c =
    let d = c.args.dfa.now in
    let v = c.args.cache.now in
    let h = c.args.haystack.now in
    let lead = c.walk_both-lead.result in
    let led : Moved = record { at = c.args.moved.at + lead.count; id = lead.first } in
    let join = c.args.moved.at + 48 + 8 in
    let up = c.requires.is_forward in
    let read = reads_within d v h c.is_made.ensures c.requires.own (λ i. omega (arith, c.type_inv.haystack i)) up c.args.moved led
    (c.args.moved.at + 8) join c.walk_both-lead.ensures.first (omega arith) in
    reads_within d v h c.is_made.ensures c.requires.own (λ i. omega (arith, c.type_inv.haystack i)) up c.args.moved
    c.read_alone.result.moved join c.args.end
    (reads_on d v h c.is_made.ensures c.requires.own (λ i. omega (arith, c.type_inv.haystack i)) up c.args.moved led
    c.read_alone.result.moved join join c.requires.row read c.read_alone.ensures.reads)
    (omega (arith, c.requires.fits))

pub returns-then-rest-clause-reads : goal.returns-then-rest-clause-reads
returns-then-rest-clause-reads c =
    let d = c.args.dfa.now in
    let v = c.args.cache.now in
    let h = c.args.haystack.now in
    let lead = c.walk_both-lead.result in
    let both = c.walk_both-both.result in
    let led : Moved = record { at = c.args.moved.at + lead.count; id = lead.first } in
    let first : Moved = record { at = c.args.moved.at + lead.count + both.count; id = both.first } in
    let join = c.args.moved.at + 48 + 8 in
    let near : c.args.moved.at + lead.count ≤ c.args.moved.at + 8 = c.walk_both-lead.ensures.first.within in
    let up = c.requires.is_forward in
    let read = reads_within d v h c.is_made.ensures c.requires.own (λ i. omega (arith, c.type_inv.haystack i)) up c.args.moved led
    (c.args.moved.at + 8) join c.walk_both-lead.ensures.first (omega arith) in
    let further = reads_within d v h c.is_made.ensures c.requires.own (λ i. omega (arith, c.type_inv.haystack i)) up led first
    (c.args.moved.at + lead.count + 48) join c.walk_both-both.ensures.first (omega (arith, near)) in
    let alone = reads_thrice d v h c.is_made.ensures c.requires.own (λ i. omega (arith, c.type_inv.haystack i)) up c.args.moved led first
    c.read_alone-rest.result.moved join c.requires.row read further c.read_alone-rest.ensures.reads in
    reads_within d v h c.is_made.ensures c.requires.own (λ i. omega (arith, c.type_inv.haystack i)) up c.args.moved
    c.read_alone-rest.result.moved join c.args.end alone (omega (arith, c.requires.fits))

pub returns-clause-reads : goal.returns-clause-reads
returns-clause-reads c =
    let d = c.args.dfa.now in
    let v = c.args.cache.now in
    let h = c.args.haystack.now in
    let lead = c.walk_both-lead.result in
    let both = c.walk_both-both.result in
    let led : Moved = record { at = c.args.moved.at + lead.count; id = lead.first } in
    let first : Moved = record { at = c.args.moved.at + lead.count + both.count; id = both.first } in
    let join = c.args.moved.at + 48 + 8 in
    let near : c.args.moved.at + lead.count ≤ c.args.moved.at + 8 = c.walk_both-lead.ensures.first.within in
    let up = c.requires.is_forward in
    let read = reads_within d v h c.is_made.ensures c.requires.own (λ i. omega (arith, c.type_inv.haystack i)) up c.args.moved led
    (c.args.moved.at + 8) join c.walk_both-lead.ensures.first (omega arith) in
    let further = reads_within d v h c.is_made.ensures c.requires.own (λ i. omega (arith, c.type_inv.haystack i)) up led first
    (c.args.moved.at + lead.count + 48) join c.walk_both-both.ensures.first (omega (arith, near)) in
    let alone = reads_thrice d v h c.is_made.ensures c.requires.own (λ i. omega (arith, c.type_inv.haystack i)) up c.args.moved led first
    c.read_alone-rest.result.moved join c.requires.row read further c.read_alone-rest.ensures.reads in
    let joint : Moved = record { at = join; id = lead.second } in
    let second : Moved = record { at = join + both.count; id = both.second } in
    let there : c.read_alone-rest.result.moved.at ≡ join = c.read_alone-rest.ensures.further c.if-rest.false in
    let same : c.read_alone-rest.result.moved.id ≡ lead.second = grind (arith, c.ne.ensures, c.if-ne.false) in
    let joined : joint ≡ c.read_alone-rest.result.moved = λ k. record { at = sym there k; id = sym same k } in
    let behind = reads_within d v h c.is_made.ensures c.requires.own (λ i. omega (arith, c.type_inv.haystack i)) up joint second
    (join + 48) c.args.end c.walk_both-both.ensures.second (omega (arith, c.requires.fits)) in
    reads_on d v h c.is_made.ensures c.requires.own (λ i. omega (arith, c.type_inv.haystack i)) up c.args.moved
    c.read_alone-rest.result.moved second join c.args.end c.requires.row alone
    (subst (λ (m : Moved). MovesTo d v h m c.args.end second) joined behind)
