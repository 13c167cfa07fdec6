use Rattle.std.proofs.Common.{◌≡◌, ◌∙◌, ℕ, List, Option, ap, false, refl, sym, subst}
use Rattle.std.specs.Prelude.{IfSome}
use Rattle.ucd_perl.specs.Perl.{is_word_char}
use Rattle.pattern_text.specs.Words.{word_set}
use Rattle.growing_regex.specs.Growing.{Growing}
use Rattle.line_search.specs.Candidates.{IsCandidatesOf, IsNextLine, block_regex}
use Rattle.line_search.specs.Searchers.{line_settings}
use Rattle.line_search.specs.declared.candidates.BlockFacts.{BlockFacts}
use Rattle.line_search.specs.declared.patterns.PatternOptions.{PatternOptions}
use Rattle.line_search.proofs.CandidateLemmas.{here_is_next, reached_is_next}
use Rattle.line_search.proofs.candidate_finder.CandidateFinder.reach_wordless.Goals as goal

pub returns-in_default-clause-reaches : goal.returns-in_default-clause-reaches
returns-in_default-clause-reaches c =
    record {
      next =
          subst (IsNextLine c.args.self.now.0 c.args.self.now.1 c.args.block.now c.args.at) (sym c.here.ensures)
          (here_is_next c.args.self.now.0 c.args.self.now.1 c.args.block.now c.args.at c.requires.within c.requires.starts);
      refused = tt;
    }

pub returns-clause-reaches : goal.returns-clause-reaches
returns-clause-reaches c =
    let how = c.self.inside.patterns.now.0 in
    let texts = c.self.inside.patterns.now.1 in
    let it : IsCandidatesOf how texts (block_regex c.in-Some.wordless.pair (record { exact = false; feedless = false; crlf = how.crlf })) =
    subst (λ (o : Option Growing). IfSome o (λ g. IsCandidatesOf how texts (block_regex g.pair (record { exact = false; feedless = false; crlf = how.crlf }))))
    c.in-Some.is c.self.invariant.1 in
    let same : record { exact = false; feedless = false; crlf = how.crlf } ≡ c.without_words-known.result =
    ap (λ v. record { exact = false; feedless = false; crlf = v }) (ap (λ (h : PatternOptions). h.crlf) (sym c.how.ensures)) ∙ sym c.without_words-known.ensures in
    record {
      next =
          subst (λ (v : PatternOptions × List (List ℕ)). IsNextLine v.0 v.1 c.args.block.now c.args.at c.reached-reached.result) c.self.view_is
          (reached_is_next how texts (block_regex c.in-Some.wordless.pair c.without_words-known.result) c.args.block.now c.args.at c.in-Ok.stop
          c.reached-reached.result
          (subst (λ (k : BlockFacts). IsCandidatesOf how texts (block_regex c.in-Some.wordless.pair k)) same it) c.reached-reached.ensures.from c.reached-reached.ensures.within c.reached-reached.ensures.starts
          (c.reached-reached.ensures.passed how texts c.in-Some.wordless.pair) (c.reached-reached.ensures.has how texts c.in-Some.wordless.pair)
          (λ xs built. c.in-Ok.ensures.reported xs c.args.block.now
          (c.find_earliest_end-found.ensures.found xs line_settings built refl refl is_word_char word_set)
          (c.find_earliest_end-found.ensures.refused xs line_settings built refl refl is_word_char word_set))
          (λ xs built. c.in-Ok.ensures.ends xs c.args.block.now
          (c.find_earliest_end-found.ensures.found xs line_settings built refl refl is_word_char word_set)));
      refused = tt;
    }
