use Rattle.std.proofs.Common.{ℕ, ap, sym, refl, ◌∙◌, Some}
use Rattle.search_types.specs.Found.{HalfFound}
use Rattle.lazy_dfa.specs.SearchAnswers.{pair_of}
use Rattle.lazy_dfa.proofs.CacheChanges.IsCacheLemmas.{lt_of}
use Rattle.lazy_dfa.proofs.Courses.TurnStepLemmas.{matches_there, row_matches, first_recorded}
use Rattle.lazy_dfa.proofs.search.match_loop.best_after.Goals as goal

pub match_pattern-pattern-requires-clause-inside : goal.match_pattern-pattern-requires-clause-inside
match_pattern-pattern-requires-clause-inside c = matches_there c.args.cache.now c.args.met.id c.requires.own.shape
    (c.requires.matches (lt_of 0x8000_0000 c.args.met.id (sym c.is_not_known.ensures ∙ c.if-is_not_known.false)))

pub returns-clause-last : goal.returns-clause-last
returns-clause-last c l s held =
    ap (λ (m : HalfFound). pair_of (Some m)) c.new.ensures
    ∙ (ap (λ (p : ℕ). Some (c.args.met.last, p)) (c.match_pattern-pattern.ensures s held)
    ∙ first_recorded s c.args.met.last (pair_of c.args.best) s.matches refl
    (sym (row_matches c.args.cache.now c.args.met.id s c.requires.own.shape held) ∙ c.requires.matches l))
