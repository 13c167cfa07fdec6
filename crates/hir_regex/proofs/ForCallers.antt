-- What other crates' proofs may cite of this crate's, besides its public functions.
--
-- the automata of a pair that is built, and that each is of its options
pub use Rattle.hir_regex.proofs.BuiltPairLemmas.{dfa_ok, pair_ok, both_built, dfa_is}
-- what is built of trees is a regex of them
pub use Rattle.hir_regex.proofs.BuiltLemmas.{built_regex}
-- one who reads forward begins at the start, and passes looks as they are read by bytes, where both readings agree
pub use Rattle.hir_regex.proofs.RegexLemmas.{begins, passed_alike}
-- if no pattern has an unbounded repetition whose body may be empty, each of their bodies consumes at least one byte
pub use Rattle.hir_regex.proofs.LoopLemmas.{all_of_none}
-- if no element of a list fails a test, each passes it
pub use Rattle.hir_regex.proofs.LoopLemmas.{none_at}
-- a haystack in which nothing is broken is UTF-8
pub use Rattle.hir_regex.proofs.BrokenTextLemmas.{text_of_none}
-- a search that starts at another offset is one of the laws too; a mode that it doesn't support is rejected by its first half
pub use Rattle.hir_regex.proofs.SearchLemmas.{asked_at, refuses_by_first}
-- which errors a search has: why a step has one, and when it is that of the automata, a quit byte that is read forward, or none
pub use Rattle.hir_regex.proofs.SureLemmas.{RefusesFrom, refused_from, refusal_is_joined, supported_forward}
pub use Rattle.hir_regex.proofs.SureLemmas.{quits_forward, never_gives_up, never_no_pair}
-- the matches that were taken from an iterator begin the list of the answers, and are all of it once the iterator has ended
pub use Rattle.hir_regex.proofs.HeadlineLemmas.{taken_begin, taken_are_all}
