-- What searches over two automata and their caches answer, what they leave, and what they cost.
use Rattle.std.specs.Prelude.{◌≡◌, ◌⊎◌, ℕ, false, Option, Some, None, Result, Err, if◌then◌else◌}
use Rattle.search_types.specs.declared.match_error.MatchErrorKind.{MatchErrorKind}
use Rattle.search_types.specs.declared.match_error.MatchErrorKind.TheVariants.{GaveUp, NoMemory}
use Rattle.search_types.specs.Found.{Found}
use Rattle.search_types.specs.Inputs.{Search}
use Rattle.lazy_dfa.specs.Caches.{CacheValue}
use Rattle.lazy_dfa.specs.Dfas.{Dfa, reader}
use Rattle.lazy_dfa.specs.Linked.{IsLinked, scans_of}
use Rattle.lazy_dfa.specs.Readers.{HalfAnswer, found, quit, unsupported}
use Rattle.lazy_dfa.specs.HalfSearches.{half_search}
use Rattle.lazy_dfa.specs.SearchAnswers.{GivesUpAmong}
use Rattle.lazy_dfa.specs.SearchPromises.{half_made}
use Rattle.regex_pair.specs.Joined.{is_start_known, back_from, joined}
use Rattle.regex_pair.specs.Pairs.{Pair, PairCache}

-- the search for an end finds this one, and the start isn't known, so a search goes back from it
pub record GoesBack (p : Pair) (q : Search) (e : ℕ × ℕ) : Type 0 where
  pub found : half_search (reader p.forward) q ≡ found (Some e)
  pub unknown : is_start_known (reader p.forward) q e.0 ≡ false

-- ---- answers

-- a half search gave up at x, and the cache is as it was then
abbrev pub HalfGivesUp : Dfa → CacheValue → Search → ℕ → Type 0
HalfGivesUp d v q x = GivesUpAmong d v q x (scans_of (reader d) q)

-- one of both half searches gave up
pub data PairGivesUp (p : Pair) (c : PairCache) (q : Search) (x : ℕ) : Type 0 where
  gives_up_forward : HalfGivesUp p.forward c.forward q x → PairGivesUp p c q x
  gives_up_back : (e : ℕ × ℕ) → GoesBack p q e → HalfGivesUp p.reverse c.reverse (back_from q e.0) x → PairGivesUp p c q x

-- A search answers the joined answer, whatever the caches hold. Otherwise it is out of memory, or it gave up.
abbrev pub AnswersPair : Pair → PairCache → Search → Result (Option Found) MatchErrorKind → Type 0
AnswersPair p c q result =
    (result ≡ joined p q) ⊎ (result ≡ Err NoMemory) ⊎ ((x : ℕ) × (result ≡ Err (GaveUp x)) × PairGivesUp p c q x)

-- ---- paths

-- the path of the search back is known, if there is one
abbrev pub IsBackLinked : Pair → CacheValue → Search → Type 0
IsBackLinked p v q = (e : ℕ × ℕ) → GoesBack p q e → IsLinked p.reverse v (back_from q e.0)

-- the paths of both halves are known
pub record ArePathsLinked (p : Pair) (c : PairCache) (q : Search) : Type 0 where
  pub forward : IsLinked p.forward c.forward q
  pub back : IsBackLinked p c.reverse q

-- ---- work

-- an upper bound on the number of states that the search back makes, if there is one
abbrev pub back_made_by : Pair → Search → HalfAnswer → ℕ
back_made_by p q (found (Some e)) = if is_start_known (reader p.forward) q e.0 then 0 else half_made (reader p.reverse) (back_from q e.0)
back_made_by p q (found None) = 0
back_made_by p q (quit b x) = 0
back_made_by p q (unsupported mode) = 0

abbrev pub back_made : Pair → Search → ℕ
back_made p q = back_made_by p q (half_search (reader p.forward) q)
