-- The lemmas that other crates' proofs may cite, in addition to this crate's public functions.
-- ---- equality, and members of lists
-- names are equal, and pairs are, if the test says so; the names below a bound are finitely many
pub use Rattle.nfa_core.proofs.PairLemmas.{names_equal, pairs_equal, same_here, from_map, finite_names}
-- nothing is in an empty list; an item is in a list or not; what is in a longer list, and what holds of all in it
pub use Rattle.nfa_core.proofs.MemberLemmas.{none_in, not_both, has_or_not, has_cons, has_first, has_same, has_one, has_later, of_cons}
pub use Rattle.nfa_core.proofs.MemberLemmas.{of_append, of_push, of_flat_map}
-- Lists joined with repeats dropped: in two parts, without repeats, all members that come, and no others. Repeats below a flat_map do not
-- show above it.
pub use Rattle.nfa_core.proofs.JoinLemmas.{join-append, join_once, join_brings, of_join, join_flat_map}
-- an optional value is present or not, and is one value
pub use Rattle.nfa_core.proofs.PreferenceLemmas.{option_cases, one_value, no_value}
-- an item that passes a test is in the list that the test keeps exactly if it is in the whole list
pub use Rattle.nfa_core.proofs.RunLemmas.{has_filter}
-- ---- depth-first searches and runs
-- Searches of two lists are one search. A search ends with one list, and with the same one if nothing in it has more edges.
pub use Rattle.nfa_core.proofs.StepLemmas.{joined, one_after, stays_closed}
-- a search that is made again from the kept vertices keeps the vertices that it would have kept
pub use Rattle.nfa_core.proofs.KeptLemmas.{kept_close_anew}
-- the search of a stack lists what the searches of its parts list; it lists one list
pub use Rattle.nfa_core.proofs.ListsLemmas.{lists_append, lists_split, one_list}
-- A search visits the ends of chains. The first end is that of the most preferred run. Each end is that of a run, and the end of each chain
-- is listed.
pub use Rattle.nfa_core.proofs.EndsLemmas.{chains_met, most_preferred, listed_run, chain_listed}
-- from each vertex of a finite graph, a search ends
pub use Rattle.nfa_core.proofs.ExistLemmas.{walk_from}
-- lists of states by position: the latest match is the first end, and each list has the ends at its position
pub use Rattle.nfa_core.proofs.BehindLemmas.{latest_is_preferred, list_matches}
-- runs end within the part of the haystack that can be read, and what such offsets are for a search forward or in reverse
pub use Rattle.nfa_core.proofs.InsideLemmas.{ends_inside, inside_forward, inside_reverse}
-- no run is empty if no match is reached without a byte
pub use Rattle.nfa_core.proofs.HereLemmas.{none_here}
-- the lists and the first end are those of each haystack that is alike up to where the search is over
pub use Rattle.nfa_core.proofs.OverLemmas.{other_lists, first_same}
-- haystacks are alike if the looks of the states are read alike
pub use Rattle.nfa_core.proofs.ReadAlikeLemmas.{alike_by_looks, alike_forward}
-- ---- states, and the bytes and looks that they have
-- the states to which a state leads, by what is read and without a byte, are named by it; what matches is a match
pub use Rattle.nfa_core.proofs.AutomatonLemmas.{read_led, nothing_led, match_is}
-- the set of looks has the looks of states; where a sparse state leads
pub use Rattle.nfa_core.proofs.LookedLemmas.{looks_any, sparse_leads}
-- bytes of one class are alike for the automaton, also if the classes are finer
pub use Rattle.nfa_core.proofs.ClassLemmas.{bytes_alike}
-- Haystacks whose bytes have the same class at each offset are searched alike. Looks of states hold alike in them, and they have the same
-- ends.
pub use Rattle.nfa_core.proofs.SameTextLemmas.{looks_alike, ways_alike, ends_alike}
-- the search with a stack over an automaton's states: names below a bound, and what a step of the search does
pub use Rattle.nfa_core.proofs.ReachedLemmas.{has_from_all, taken_below, left_below, len_nodes}
-- ---- what is built of a builder's states
-- past a state there is one that stands for itself, and it stays where it is
pub use Rattle.nfa_core.proofs.RenamingLemmas.{past_itself, past_inside, past_stands, past_twice, past_next}
-- no two kept states have one name, each name is that of a kept state, and a kept state matches what it matched
pub use Rattle.nfa_core.proofs.RenamingAutomaton.{one_state, state_named, state_match}
-- each new name is that of a state, and the automaton is well-formed; its ends are those that the table lists, and that its chains find
pub use Rattle.nfa_core.proofs.RenamingEnds.{name_inside, is_well_formed, ends_listed, ends_found, found_end, chains_once}
-- the ends of the automaton's runs are those of the table's, in order, also with loops whose body can match the empty string
pub use Rattle.nfa_core.proofs.TableLemmas.{ends_kept}
-- the automaton needs no more bytes than the builder
pub use Rattle.nfa_core.proofs.SizeLemmas.{smaller}
-- if lists are joined and repeats dropped, repeats within them do not show
pub use Rattle.nfa_core.proofs.JoinedWays.{join_once_more, join_distinct_each}
-- the ends from a pair to which nothing leads back
pub use Rattle.nfa_core.proofs.JoinedWays.{ends_by_ways}
-- the looks of states, one by one
pub use Rattle.nfa_core.proofs.NfaLookLemmas.{has_looks}
-- Where the automaton that is built leads, by the builder's table: under new names to the same offsets. Each member of a renamed list comes
-- from a member of the list.
pub use Rattle.nfa_core.proofs.RenamingAutomaton.{renamed_pair, state_ways}
pub use Rattle.nfa_core.proofs.RenamingWalks.{from_mapped}
pub use Rattle.nfa_core.proofs.RenamingAnswers.{every_of_all}
-- a chain of what is built that comes to a kept state is one of the table
pub use Rattle.nfa_core.proofs.RenamingPlaces.{chain_to}
-- the first of a list is that of the list without repeats
pub use Rattle.nfa_core.proofs.RunLemmas.{first_distinct}
pub use Rattle.nfa_core.proofs.AllLemmas.{unequal}
pub use Rattle.nfa_core.proofs.BehindLemmas.{place_zero}
pub use Rattle.nfa_core.proofs.ClassLemmas.{sound_at}
pub use Rattle.nfa_core.proofs.ClassLemmas.{all_unmarked}
pub use Rattle.nfa_core.proofs.PreferenceLemmas.{first_of_option}
pub use Rattle.nfa_core.proofs.ReachLawLemmas.{some_same}
pub use Rattle.nfa_core.proofs.ReadAlikeLemmas.{nothing_same}
pub use Rattle.nfa_core.proofs.RelabelLemmas.{map_appended}
