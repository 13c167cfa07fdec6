-- What the proofs of other crates may cite of this crate, besides its definitions.
--
-- the text of a group by the slots of a match is the text that the match gives it
pub use Rattle.templates.proofs.SlotLemmas.{group_text_of}
-- what a template writes depends on groups up to the greatest one alone
pub use Rattle.templates.proofs.TextLemmas.{same_texts}
-- a haystack with its matches replaced, match by match
pub use Rattle.templates.proofs.MatchLemmas.{taken, first_matches, comes, no_more, none_left, one_more}
pub use Rattle.templates.proofs.MatchLemmas.{IsReplacedSoFar, replacing_goes_on, replacing_ends}
