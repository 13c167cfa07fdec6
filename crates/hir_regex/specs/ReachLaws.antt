-- The bytes of a haystack on which an answer depends: a reach, and bytes that no automaton distinguishes.
use Rattle.std.specs.Prelude.{◌≡◌, ◌+◌, ◌<◌, ◌≤◌, ℕ, Bool, true, false, List, All, length, Option, Some}
use Rattle.std.specs.List.{list_any}
use Rattle.search_core.specs.Characters.{byte_or_zero}
use Rattle.search_core.specs.Text.{byte_at}
use Rattle.search_core.specs.Utf8.{IsValidText}
use Rattle.look_core.specs.Codes.{is_word_unicode}
use Rattle.look_core.specs.LookSets.{has_any}
use Rattle.look_core.specs.Looks.{holds, IsWordSet}
use Rattle.look_core.specs.Terminators.{Terminator}
use Rattle.hir_core.specs.Tree.{Tree}
use Rattle.hir_core.specs.Facts.{looks_used}
use Rattle.search_types.specs.Found.{Found}
use Rattle.search_types.specs.Inputs.{Search}
use Rattle.lazy_dfa.specs.Building.{classes_of}
use Rattle.lazy_dfa.specs.Dfas.{class_of}
use Rattle.regex_pair.specs.Pairs.{Pair}
use Rattle.regex_pair.specs.Reach.{IsPairReach}
use Rattle.hir_regex.specs.Choices.{answer_from}
use Rattle.hir_regex.specs.Regexes.{query_of}

-- The offset after what a search read, and after everything on which its answer depends. Take any haystack of bytes
-- that has the same bytes from the one before the span up to this offset, and that is valid if the trees ask for that.
-- Over it the trees define the same answer.
pub record IsAnswerReach (xs : List Tree) (utf8 : Bool) (t : Terminator) (p : Pair) (q : Search) (o : Option Found) (end : ℕ) : Type 0 where
  pub read : IsPairReach p q o end
  pub defined : (g : List ℕ) → q.end ≤ length g → All (λ byte. byte < 256) g → (utf8 ≡ true → IsValidText g) →
      ((x : ℕ) → q.start ≤ x + 1 → x < end → byte_at g x ≡ byte_at q.haystack x) → (words : ℕ → Bool) → IsWordSet words →
      answer_from (query_of xs utf8 (holds words t g) (record q { haystack = g })) q.start ≡ o

-- haystacks of one length, with bytes of the same class at each offset
abbrev pub IsAlike : List ℕ → List ℕ → List ℕ → Type 0
IsAlike classes h g =
    (length h ≡ length g) × ((k : ℕ) → k < length h → class_of classes (Some (byte_or_zero h k)) ≡ class_of classes
    (Some (byte_or_zero g k)))

-- the classes of bytes of the first automaton are those with which it is built
abbrev pub HasItsClasses : Pair → Type 0
HasItsClasses p = p.forward.classes ≡ classes_of p.forward.nfa p.forward.options

-- no tree has a Unicode word look
abbrev pub HasNoUnicodeWord : List Tree → Type 0
HasNoUnicodeWord xs = list_any (λ x. has_any is_word_unicode (looks_used x)) xs ≡ false
