-- The lemmas that other crates' proofs may cite, in addition to this crate's public functions. They are about steps and about what states
-- list.
-- each step from the dead state leads to it
pub use Rattle.determinize_core.proofs.StepLawLemmas.{stays_dead}
-- what a sequence of states lists, by the ends of runs
pub use Rattle.determinize_core.proofs.ListedLemmas.{latest_is_first, all_listed, none_listed, last_listed}
-- The bytes of a state stand for it and distinguish it from each other state. So does the test by which a map compares states.
pub use Rattle.determinize_core.proofs.ValueLemmas.{decoded_encoded, same_from_bytes, told_by_bytes, told_by_test, has_its_own, dead_state}
-- a state's bytes are at most thirteen, and so many more by its patterns and its states
pub use Rattle.determinize_core.proofs.LengthLemmas.{length-encoded}
-- what starts and steps lead to is made of the automaton's states, looks and patterns, none twice, and has few bytes
pub use Rattle.determinize_core.proofs.SteppedLemmas.{step_stepped, start_stepped, dead_stepped, stepped_short}
-- units that an automaton does not distinguish lead to one state, and starts after them are one
pub use Rattle.determinize_core.proofs.AlikeLemmas.{units_step_alike, units_start_alike}
-- The parts of what starts and steps lead to, one by one. From the dead state each step leads to it, and so does a step that leads to no
-- match and no state. Under leftmost-first a step lists one match at most.
pub use Rattle.determinize_core.proofs.StepLawLemmas.{step_below, step_once, start_below, start_once, comes_to_none}
pub use Rattle.determinize_core.proofs.StepStateLemmas.{step_state, start_state}
-- a state that a step leads to has states below the bound and none twice, also through an equation
pub use Rattle.determinize_core.proofs.WalkingLemmas.{behind_below, behind_once}
-- The states of a sequence are those of the search under all looks, and list what it finds at each offset.
pub use Rattle.determinize_core.proofs.WalkedLemmas.{lists_are_lists, states_are, matches_are}
-- where a sequence's states lead by the unit at their offset, the lists under all looks lead too
pub use Rattle.determinize_core.proofs.ReadingLemmas.{entries_alike}
-- what a sequence of states lists: all ends, or the first end; whether there is one, and at which offset
pub use Rattle.determinize_core.proofs.ListedLemmas.{one_listed, some_listed, never_listed, latest_is_preferred_run}
-- a sequence of states depends on what it reads alone
pub use Rattle.determinize_core.proofs.DependLemmas.{walks_alike}
-- sequences over bytes are sequences over a haystack that has them, and what their states list
pub use Rattle.determinize_core.proofs.HaystackLemmas.{state_there, states_len, all_are_listed, one_is_listed, end_is_told, none_is_told}
pub use Rattle.determinize_core.proofs.DecidedLemmas.{has_family}
pub use Rattle.determinize_core.proofs.MatchLemmas.{reading_none}
