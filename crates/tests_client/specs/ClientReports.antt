-- What a client of trees may ask, and the answers that it then gets.
use Rattle.std.specs.Prelude.{◌≡◌, ℕ, Bool, false, List, All, length, Option}
use Rattle.look_core.specs.Looks.{IsWordSet}
use Rattle.hir_core.specs.Facts.{LoopsRead}
use Rattle.hir_core.specs.Tree.{Tree}
use Rattle.search_types.specs.declared.anchored.Anchored.TheVariants.{No}
use Rattle.search_types.specs.Found.{Found}
use Rattle.search_types.specs.Inputs.{Search}
use Rattle.hir_regex.specs.declared.settings.Settings.{Settings}
use Rattle.hir_regex.specs.Headline.{answer_to, answers_to}
use Rattle.hir_regex.specs.Regexes.{IsSearchOf}

-- a search of the whole haystack
abbrev pub client_search : List ℕ → Search
client_search h = record { haystack = h; start = 0; end = length h; anchored = No; earliest = false }

-- the trees define an answer to it: the body of every unbounded repetition consumes at least one byte, and in
-- UTF-8 mode all of it is UTF-8
abbrev pub MayAsk : List Tree → Settings → Search → Type 0
MayAsk xs s q = All LoopsRead xs × IsSearchOf xs s.utf8 q

-- two answers are the leftmost-first one of the trees
pub record AreTheAnswer (xs : List Tree) (s : Settings) (q : Search) (first second : Option Found) : Type 0 where
  pub first_is : (words : ℕ → Bool) → IsWordSet words → first ≡ answer_to words xs s q
  pub second_is : (words : ℕ → Bool) → IsWordSet words → second ≡ answer_to words xs s q

-- a list is that of all answers of the trees
abbrev pub IsTheList : List Tree → Settings → Search → List Found → Type 0
IsTheList xs s q all = (words : ℕ → Bool) → IsWordSet words → answers_to words xs s q ≡ all

-- both
abbrev pub IsClientReported : List Tree → Settings → Search → Option Found → Option Found → List Found → Type 0
IsClientReported xs s q first second all = AreTheAnswer xs s q first second × IsTheList xs s q all
