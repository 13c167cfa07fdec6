-- Tries of literals, and the states that an alternation of literals becomes.

pub mod LiteralLemmas
pub mod LiteralGroupLemmas
pub mod LiteralEndLemmas
pub mod LiteralNodeLemmas
pub mod LiteralRoundLemmas
pub mod LiteralLaidLemmas
pub mod LiteralPartLemmas
pub mod LiteralStateLemmas
pub mod LiteralRowLemmas
pub mod LiteralStemLemmas
pub mod LiteralTextLemmas
pub mod LiteralTreeLemmas
pub mod LiteralTrieLemmas
