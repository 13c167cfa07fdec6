-- What other crates' proofs may cite of this crate's, besides its public functions.
--
-- ---- matches one after the other, by steps
-- nothing is taken at first, one more is by a step that gives it, all are if a step gives nothing, and some at any time
pub use Rattle.regex_pair.proofs.TakenLemmas.{none_taken, one_more_taken, all_taken, some_taken}
-- what was taken, with one more, as a list that is equal
pub use Rattle.regex_pair.proofs.TakenLemmas.{taken_so}
-- the same by the steps of an iterator
pub use Rattle.regex_pair.proofs.TakenLemmas.{one_more_by_step, all_by_step}
-- what a step gives, and that a search that it asks for starts no further back
pub use Rattle.regex_pair.proofs.TakenLemmas.{item_of, same_match, match_is_no_end, match_is_no_refusal, asked_behind}
-- a chain is a beginning of the list of all answers, and a whole one is all of it
pub use Rattle.regex_pair.proofs.JoinedLemmas.{chain_begins, chain_is_whole}
-- ---- what is found
-- a match lies in its span, and an answer depends on its reach
pub use Rattle.regex_pair.proofs.JoinedLemmas.{match_lies, joined_by_reach}
-- an answer that isn't an error is the joined one
pub use Rattle.regex_pair.proofs.NextLemmas.{answer_is_joined}
-- how far an answer reaches, and that pairs over the same NFAs answer alike
pub use Rattle.regex_pair.proofs.ReachLemmas.{joined_has_reach}
pub use Rattle.regex_pair.proofs.AlikeLemmas.{joined_alike, told_alike}
