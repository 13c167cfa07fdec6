-- What the proofs of other crates may cite of this crate, besides its definitions and its public laws.

-- where an offset lies at which a search may start
pub use Rattle.search_types.proofs.ModeLemmas.{starts_at}
-- the computed answer is the leftmost
pub use Rattle.search_types.proofs.AnswerLemmas.{computed_is_answer}
-- the list of all answers by the steps of a loop that writes it: one more is written, no more is answered, none is asked for
pub use Rattle.search_types.proofs.AllAnswersLemmas.{answer_written, answers_done}
-- no answer ends past the end
-- ends rise, spans lie between the start and the end, and a greater bound makes the list no longer
pub use Rattle.search_types.proofs.AllAnswersLemmas.{ends_rise, spans_within, no_answer_is_cut_off}
-- answers that are taken one after the other are the list of all answers, or a beginning of it
pub use Rattle.search_types.proofs.ChainLemmas.{chains_begin_the_list, whole_chains_are_the_list}
-- the first of joined lists is the first of the least offset that has one
pub use Rattle.search_types.proofs.FirstLemmas.{first_found}
-- of two choices that are both none the first is none
pub use Rattle.search_types.proofs.GroupLemmas.{none_first}
-- slots of groups that break no rule are in range
pub use Rattle.search_types.proofs.GroupLaws.{slot_in_range}
-- a search may start up to the last offset where its mode lets it, and it has one answer
pub use Rattle.search_types.proofs.ModeLemmas.{may_start_at}
pub use Rattle.search_types.proofs.AnswerLemmas.{one_answer}
pub use Rattle.search_types.proofs.IndexLemmas.{option_or-None}
pub use Rattle.search_types.proofs.ModeLemmas.{both_left}
-- what holds of an existing value holds if there is none
pub use Rattle.search_types.proofs.GroupLoopLemmas.{failed}
