-- What the caches of a pair are after a borrow of one of them.
use Rattle.std.specs.Borrow.{Lends, MutBor, Fml}
use Rattle.lazy_dfa.specs.Caches.{CacheValue}
use Rattle.lazy_dfa.specs.contracts.cache.Cache.{the_row as half_row}
use Rattle.regex_pair.specs.contracts.cache.Cache.{the_row}
use Rattle.regex_pair.specs.Pairs.{PairCache}

-- the cache of the automaton that finds ends is borrowed, and the other stays
abbrev pub BorrowsForward : MutBor PairCache → MutBor CacheValue → Fml
BorrowsForward s r = Lends the_row half_row s r (λ w. record { forward = w; reverse = s.now.reverse })

-- the cache of the automaton that finds starts is borrowed
abbrev pub BorrowsReverse : MutBor PairCache → MutBor CacheValue → Fml
BorrowsReverse s r = Lends the_row half_row s r (λ w. record { forward = s.now.forward; reverse = w })
