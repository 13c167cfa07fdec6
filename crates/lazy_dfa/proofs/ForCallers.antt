-- What other crates' proofs may cite, apart from this crate's public functions.
-- ---- what a half search finds
-- What has to be found among the ends of runs, and the first end even if looks beyond the reach are interpreted otherwise.
pub use Rattle.lazy_dfa.proofs.HalfSearches.FoundLemmas.{scan_finds, scan_finds_first}
-- over a span that is done, and for a pattern that doesn't exist, nothing is found
pub use Rattle.lazy_dfa.proofs.HalfSearches.ReachLemmas.{no_pattern}
pub use Rattle.lazy_dfa.proofs.HalfSearches.ScanLemmas.{scan_done}
-- if each end counts, a half search is one scan; otherwise it restarts over one byte less
pub use Rattle.lazy_dfa.proofs.HalfSearches.ScanLemmas.{scan_is_pass, scan_anchored, scan_unanchored}
pub use Rattle.lazy_dfa.proofs.HalfSearches.AnewLemmas.{again, last_pass}
-- ---- quit bytes, modes, reach
-- A quit byte that ends a search lies in the span or next to it. If none lies there and the mode is supported, the search succeeds.
pub use Rattle.lazy_dfa.proofs.HalfSearches.ScanLemmas.{scan_quits_near, scan_finds_near}
-- which unsupported modes are reported
pub use Rattle.lazy_dfa.proofs.HalfSearches.ScanLemmas.{scan_mode_told}
-- starts for each pattern affect a search only by which modes are supported
pub use Rattle.lazy_dfa.proofs.Automata.SupportLemmas.{scan_by_support}
-- An answer depends only on its reach. The reach has no quit byte, contains the offset that is found, and lies in the span or next to it.
pub use Rattle.lazy_dfa.proofs.HalfSearches.IntervalReachLemmas.{scan_by_reach, scan_is_quiet, scan_place_is_reached, reach_is_near}
pub use Rattle.lazy_dfa.proofs.HalfSearches.IntervalReachLemmas.{scan_in_span}
pub use Rattle.lazy_dfa.proofs.HalfSearches.HasReachLemmas.{scan_has_reach, scan_has_reach_back, start_is_state}
-- A forward search reads the bytes from the one before the span on: one more than the units that it reads.
pub use Rattle.lazy_dfa.proofs.HalfSearches.HasReachLemmas.{reached_forward, below_reach}
pub use Rattle.lazy_dfa.proofs.HalfSearches.ReachLemmas.{scan_few}
-- if the automaton has a Unicode word boundary, each byte above 7F is a quit byte
pub use Rattle.lazy_dfa.proofs.Automata.QuitSetLemmas.{supported_quits}
-- bytes of one class have the same marks, among which are all marks of the automaton
pub use Rattle.lazy_dfa.proofs.Automata.BuiltLemmas.{classes_by_marks}
-- ---- overlapping searches
-- If all matches are searched for, what is left of an overlapping search is the ends of runs, offset by offset. Each end is reported once,
-- in reading order. At one offset, the ends of the preferred runs come first. Before a quit byte, they are the ends at the offsets before
-- its unit.
pub use Rattle.lazy_dfa.proofs.OverlappingWalks.WalkEndLemmas.{rest_by_place, rest_has, rest_exactly, rest_once, rest_ordered, rest_best}
pub use Rattle.lazy_dfa.proofs.OverlappingWalks.WalkEndLemmas.{rest_before_quit}
-- Each end lies in the span, at an offset that counts. Over a done span nothing is left, and no end is left of a pattern that doesn't
-- exist.
pub use Rattle.lazy_dfa.proofs.OverlappingWalks.RestLemmas.{rest_in_span, rest_done, rest_of_no_pattern}
-- the errors of an overlapping search, and when it has none
pub use Rattle.lazy_dfa.proofs.OverlappingWalks.RestLemmas.{refusal_is, quit_is_near, quiet_goes}
-- an overlapping search can go on in a cache that wasn't cleared
pub use Rattle.lazy_dfa.proofs.OverlappingWalks.WalkGoesOnLemmas.{walk_kept, walk_counted}
-- the patterns of all ends, and no others, are added to a set that has room for them
pub use Rattle.lazy_dfa.proofs.OverlappingWalks.WhichLemmas.{members_added, added_members, which_goes, room_kept}
-- ---- caches
-- an ID names one state, a state has one ID, and an ID of a sentinel is no ID of a row
pub use Rattle.lazy_dfa.proofs.CacheChanges.ChangeLemmas.{one_id, one_state, no_row}
-- the dead state, and that IDs of rows have no tag of a sentinel
pub use Rattle.lazy_dfa.proofs.CacheChanges.IsCacheLemmas.{alive_of, row_is_plain, row_of_held}
-- what is known about a step at an untagged ID, and where a known step leads
pub use Rattle.lazy_dfa.proofs.CacheChanges.ChangeLemmas.{plain_place, plain_noted, noted_read}
pub use Rattle.lazy_dfa.proofs.CacheChanges.IsCacheLemmas.{known_leads}
-- if no least number of clears is set, a search never gives up
pub use Rattle.lazy_dfa.proofs.Courses.SearchClauseLemmas.{never_among}
pub use Rattle.lazy_dfa.proofs.HalfSearches.FoundLemmas.{few_restarts}
pub use Rattle.lazy_dfa.proofs.OverlappingWalks.RestLemmas.{mapped_there}
pub use Rattle.lazy_dfa.proofs.HalfSearches.TurnLemmas.{place_next}
pub use Rattle.lazy_dfa.proofs.HalfSearches.TurnLemmas.{empty_is}
pub use Rattle.lazy_dfa.proofs.HalfSearches.TurnLemmas.{one_found}
pub use Rattle.lazy_dfa.proofs.OverlappingWalks.WalkEndLemmas.{first_low}
pub use Rattle.lazy_dfa.proofs.OverlappingWalks.WhichLemmas.{all_there}
