-- Automata that are those of a regex, except for the capacity of their caches.
use Rattle.std.proofs.Common.{◌≡◌, ◌<◌, ◌≤◌, ℕ, Bool, List, Option, Some, None, subst}
use Rattle.hir_core.specs.Tree.{Tree}
use Rattle.search_types.specs.declared.match_error.MatchErrorKind.{MatchErrorKind}
use Rattle.search_types.specs.declared.match_error.MatchErrorKind.TheVariants.{GaveUp, HaystackTooLong, NoMemory, NotAPair, Quit}
use Rattle.search_types.specs.declared.match_error.MatchErrorKind.TheVariants.{UnsupportedAnchored}
use Rattle.regex_pair.specs.Pairs.{Pair}
use Rattle.hir_regex.specs.declared.settings.Settings.{Settings}
use Rattle.hir_regex.specs.Built.{IsBuilt}
use Rattle.growing_regex.specs.Earliest.{IsEarliestError}
use Rattle.growing_regex.specs.Growing.{AreGrown, Growing, IsResized, sized_settings}

-- the automata as they were made
pub as_made : (g : Growing) (p : Pair) → g.pair ≡ p → AreGrown g p
as_made g p same = record {
  capacity = None;
  limit = tt;
  built = λ xs s it. subst (λ (q : Pair). IsBuilt xs s q) same it;
}

-- copies of them with caches of another capacity
pub grown_again : (g : Growing) (p q : Pair) (bytes : ℕ) → 0 < bytes → bytes ≤ g.largest → IsResized bytes p q → AreGrown g p → AreGrown g q
grown_again g p q bytes some within resized was = record {
  capacity = Some bytes;
  limit = (some, within);
  built = λ xs s it. resized xs (sized_settings was.capacity s) (was.built xs s it);
}

-- an error of a search for the least end says the same, whatever the capacity
pub error_kept : (words : ℕ → Bool) (xs : List Tree) (s : Settings) (capacity : Option ℕ) (h : List ℕ) (at : ℕ) (e : MatchErrorKind) →
    IsEarliestError words xs (sized_settings capacity s) h at e → IsEarliestError words xs s h at e
error_kept words xs s capacity h at (Quit b x) it = it
error_kept words xs s capacity h at (GaveUp x) it = it
error_kept words xs s capacity h at NoMemory it = it
error_kept words xs s capacity h at (HaystackTooLong n) it = it
error_kept words xs s capacity h at (UnsupportedAnchored mode) it = it
error_kept words xs s capacity h at NotAPair it = it
