-- The calls are made at the sequences.
use Rattle.std.proofs.Common.{ap, ◌∙◌, alloc_error}
use Rattle.thompson_nfa.specs.RangeWalks.{paths_of}
use Rattle.thompson_nfa.proofs.Tries.CallLemmas.{calls_all_if, calls_up_to_if}
use Rattle.thompson_nfa.proofs.range_tries.range_trie.RangeTrie.iter.Goals as goal

pub returns-clause-ok : goal.returns-clause-ok
returns-clause-ok g c =
    calls_all_if {E = g.row.E.Denot} (goal.F-step g) c.args.f (paths_of c.deref.result.now) c.args.self.now
    (ap paths_of c.deref.ensures.value ∙ c.in_ok-paths.ensures.paths) c.call_each.result c.call_each.ensures.ok

pub returns-clause-err : goal.returns-clause-err
returns-clause-err g c =
    calls_up_to_if {E = g.row.E.Denot} (goal.F-step g) c.args.f (paths_of c.deref.result.now) c.args.self.now
    (ap paths_of c.deref.ensures.value ∙ c.in_ok-paths.ensures.paths)
    (λ e. g.E.From.from_gives alloc_error e) c.call_each.result c.call_each.ensures.err
