-- What the trees of a list define if they are searched for with these settings, and when a search meets no quit byte.
use Rattle.std.specs.Prelude.{◌≡◌, ℕ, ◌+◌, ◌≤◌, Bool, true, false, List, Option, Some}
use Rattle.search_core.specs.ByteSets.{has}
use Rattle.search_core.specs.Text.{byte_at}
use Rattle.look_core.specs.Looks.{holds}
use Rattle.hir_core.specs.Tree.{Tree}
use Rattle.search_types.specs.Found.{Found}
use Rattle.search_types.specs.Inputs.{Search}
use Rattle.hir_regex.specs.declared.settings.Settings.{Settings}
use Rattle.hir_regex.specs.Choices.{Query, answer_from, answers_of}
use Rattle.hir_regex.specs.Regexes.{query_of}

-- what is searched for, with these word characters
abbrev pub query_by : (ℕ → Bool) → List Tree → Settings → Search → Query
query_by words xs s q = query_of xs s.utf8 (holds words s.line_terminator q.haystack) q

-- the leftmost-first answer of the trees: the least start at which one of them matches, and there the preferred match
abbrev pub answer_to : (ℕ → Bool) → List Tree → Settings → Search → Option Found
answer_to words xs s q = answer_from (query_by words xs s q) q.start

-- all their answers, one after the other
abbrev pub answers_to : (ℕ → Bool) → List Tree → Settings → Search → List Found
answers_to words xs s q = answers_of (query_by words xs s q) q.start

-- no quit byte is in the span or next to it
abbrev pub IsQuiet : List Bool → Search → Type 0
IsQuiet quits q = (x b : ℕ) → q.start ≤ x + 1 → x ≤ q.end → byte_at q.haystack x ≡ Some b → has quits b ≡ false

-- the quit byte b is there, at the index x
pub record IsQuitNextTo (quits : List Bool) (q : Search) (b x : ℕ) : Type 0 where
  pub stands : byte_at q.haystack x ≡ Some b
  pub is_quit : has quits b ≡ true
  pub behind_start : q.start ≤ x + 1
  pub before_end : x ≤ q.end
