-- What the proofs of other crates may cite of this crate, besides its definitions and its public laws.
--
-- what a tree means in a line, its line tree means in the block, and a line with a match is a block with one
pub use Rattle.line_trees.proofs.MeaningLemmas.{means_in_block, match_in_block}
-- what the line tree means in the block between two offsets of one line, the tree means in the line
pub use Rattle.line_trees.proofs.WithinLemmas.{means_in_line}
-- each look by itself
pub use Rattle.line_trees.proofs.LineLookLemmas.{same_looks, looks_go_on}
-- what a line tree keeps of the tree
pub use Rattle.line_trees.proofs.KeptLemmas.{minimum_kept, loops_kept, feeds_kept}
-- what a tree that reads no line feed means has no line feed among its bytes
pub use Rattle.line_trees.proofs.FeedLemmas.{reads_none}
-- the bytes of a part of a haystack
pub use Rattle.line_trees.proofs.ListLemmas.{get_taken, get_dropped}
-- what a tree means, it means without its looks at words by characters too
pub use Rattle.line_trees.proofs.WordlessLemmas.{means_wordless, returns_wordless, feeds_wordless}
