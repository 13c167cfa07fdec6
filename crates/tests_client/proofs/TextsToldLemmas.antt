-- What was reported, by what the calls promise.
use Rattle.std.proofs.Common.{◌≡◌, ℕ, Bool, List, All, sym, subst}
use Rattle.regex_syntax.specs.declared.Config.{Config}
use Rattle.hir_core.specs.Tree.{Tree}
use Rattle.hir_core.specs.Facts.{LoopsRead}
use Rattle.search_types.specs.Found.{Found}
use Rattle.search_types.specs.Inputs.{Search}
use Rattle.regex_pair.specs.Pairs.{Pair}
use Rattle.hir_regex.specs.declared.settings.Settings.{Settings}
use Rattle.hir_regex.specs.Built.{IsBuilt}
use Rattle.hir_regex.specs.Regexes.{IsSearchOf}
use Rattle.pattern_search.specs.Searches.{whole_search}
use Rattle.pattern_search.specs.Written.{AnswersWhatIsWritten}
use Rattle.tests_client.specs.TextReports.{IsListed, AreAllMatches}

listed_of : (config : Config) (texts : List (List ℕ)) (xs : List Tree) (s : Settings) (h : List ℕ) (fs : List Found) → All LoopsRead xs →
    IsSearchOf xs s.utf8 (whole_search h 0) → (l : IsListed xs s (whole_search h 0) fs) → AnswersWhatIsWritten config texts xs s l.pair →
    AreAllMatches config texts s.utf8 h fs
listed_of config texts xs s h fs loops search l written = record {
  patterns = written.patterns;
  are_read = written.are_read;
  all = written.answers.all loops h search fs l.list.old l.list.new l.list.regex l.list.taken l.list.over;
}

-- what is listed of a search with these settings, where both are known by equations
pub all_listed : (config : Config) (texts : List (List ℕ)) (xs : List Tree) (s : Settings) (utf8 : Bool) (h : List ℕ)
    (q : Search) (fs : List Found) →
    s.utf8 ≡ utf8 → q ≡ whole_search h 0 → All LoopsRead xs → IsSearchOf xs utf8 q → IsListed xs s q fs →
    ((p : Pair) → IsBuilt xs s p → AnswersWhatIsWritten config texts xs s p) → AreAllMatches config texts utf8 h fs
all_listed config texts xs s utf8 h q fs set is loops search l written =
    subst (λ b. AreAllMatches config texts b h fs) set
    (let whole : IsSearchOf xs s.utf8 (whole_search h 0) = subst (λ b. IsSearchOf xs b (whole_search h 0)) (sym set)
    (subst (IsSearchOf xs utf8) is search) in
    let list : IsListed xs s (whole_search h 0) fs = subst (λ r. IsListed xs s r fs) is l in
    listed_of config texts xs s h fs loops whole list (written list.pair list.built))
