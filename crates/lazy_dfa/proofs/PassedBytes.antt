-- Bytes that searches skip.

pub mod ByteTestLemmas
pub mod HalfTableLemmas
pub mod RowTableLemmas
pub mod SkipLemmas
pub mod PairLemmas
