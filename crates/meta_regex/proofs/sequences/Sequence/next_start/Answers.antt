use Rattle.meta_regex.proofs.SequenceLemmas.{literal_within}
use Rattle.meta_regex.proofs.sequences.Sequence.next_start.Goals as goal

pub returns-in-Some-clause-within : goal.returns-in-Some-clause-within
returns-in-Some-clause-within c = literal_within c.in-Some.finder.now c.args.haystack.now c.args.from c.next_start.result c.next_start.ensures
