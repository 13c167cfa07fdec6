-- The lemmas that other crates' proofs may cite, in addition to this crate's public functions. Most of what a caller asks of a compile is a
-- field of `IsCompiled` and of the records that it names, in specs/Compilations.antt. These say what holds of spans, orders, starts, looks
-- and limits. What those say of lists of trees, and of two automata at once, is here.

-- a state has a look exactly if one of the trees uses it, turned round if the automaton reads in reverse
pub use Rattle.thompson_nfa.proofs.CallerLemmas.{looks_are_used}
-- when reading forward, the unanchored start finds what the patterns find at one offset after the other
pub use Rattle.thompson_nfa.proofs.CallerLemmas.{by_patterns, unanchored_by_patterns}
-- a span of a haystack of bytes, with words read as bytes, is a plain text: its edges are read as they are
pub use Rattle.thompson_nfa.proofs.CallerLemmas.{span_is_read}
-- Over one haystack, what is meant forward is meant in reverse. So the automata of both directions find the same spans from the starts of
-- the patterns, the anchored ones, and the unanchored one. Each takes what trees mean in a haystack that is cut, which `hir_core::cut_laws`
-- says.
pub use Rattle.thompson_nfa.proofs.Walks.DirectionLemmas.{same_meant, same_patterns, same_anchored, same_unanchored}
-- If no group is kept, none causes an error. A limit below what all states take leaves no room for them. Then, apart from a failed
-- allocation, the only error is that the limit is exceeded.
pub use Rattle.thompson_nfa.proofs.CallerRefusals.{no_groups_refused, fits_no_limit, limit_alone_refuses}
