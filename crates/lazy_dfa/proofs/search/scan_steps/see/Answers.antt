use Rattle.std.proofs.Common.{◌∙◌, refl, sym, ap, Some}
use Rattle.search_types.specs.Found.{HalfFound}
use Rattle.lazy_dfa.specs.SearchAnswers.{pair_of}
use Rattle.lazy_dfa.proofs.Courses.TurnStepLemmas.{see_untagged, see_dead, see_quit, see_unmatched, matches_there, see_end, see_on}
use Rattle.lazy_dfa.proofs.search.scan_steps.see.Goals as goal

pub returns-then-not-is_tagged : goal.returns-then-not-is_tagged
returns-then-not-is_tagged c = see_untagged c.args.cache.now c.args.id c.args.place
    (pair_of c.args.best) c.args.earliest _ c.requires.own.shape c.requires.held refl
    (sym c.is_tagged.ensures ∙ c.if-not-is_tagged.true) refl refl

pub returns-then-is_dead : goal.returns-then-is_dead
returns-then-is_dead c = see_dead c.args.cache.now c.args.id c.args.place
    (pair_of c.args.best) c.args.earliest _ c.requires.own.shape c.requires.held refl
    (sym c.is_dead.ensures ∙ c.if-is_dead.true) refl refl

pub returns-then-is_quit : goal.returns-then-is_quit
returns-then-is_quit c = see_quit c.args.cache.now c.args.id c.args.place
    (pair_of c.args.best) c.args.earliest _ c.requires.own.shape c.requires.held refl
    (sym c.is_quit.ensures ∙ c.if-is_quit.true) refl

pub returns-then-not-is_match : goal.returns-then-not-is_match
returns-then-not-is_match c = see_unmatched c.args.cache.now c.args.id c.args.place
    (pair_of c.args.best) c.args.earliest _ c.requires.own.shape c.requires.held refl
    (sym c.is_dead.ensures ∙ c.if-is_dead.false) (sym c.is_quit.ensures ∙ c.if-is_quit.false) (sym c.is_match.ensures
    ∙ c.if-not-is_match.true) refl refl

pub match_pattern-pattern-requires-clause-inside : goal.match_pattern-pattern-requires-clause-inside
match_pattern-pattern-requires-clause-inside c = matches_there c.args.cache.now c.args.id c.requires.own.shape (sym c.is_match.ensures
    ∙ c.if-not-is_match.false)

pub returns-then-earliest : goal.returns-then-earliest
returns-then-earliest c = see_end c.args.cache.now c.args.id c.args.place
    (pair_of c.args.best) c.args.earliest _ c.requires.own.shape c.requires.held refl
    (sym c.is_dead.ensures ∙ c.if-is_dead.false) (sym c.is_quit.ensures ∙ c.if-is_quit.false) (sym c.is_match.ensures
    ∙ c.if-not-is_match.false)
    c.match_pattern-pattern.result c.match_pattern-pattern.ensures (ap (λ (m : HalfFound). pair_of (Some m)) c.new.ensures)
    c.if-earliest.true refl

pub returns-else-earliest : goal.returns-else-earliest
returns-else-earliest c = see_on c.args.cache.now c.args.id c.args.place
    (pair_of c.args.best) c.args.earliest _ c.requires.own.shape c.requires.held refl
    (sym c.is_dead.ensures ∙ c.if-is_dead.false) (sym c.is_quit.ensures ∙ c.if-is_quit.false) (sym c.is_match.ensures
    ∙ c.if-not-is_match.false)
    c.match_pattern-pattern.result c.match_pattern-pattern.ensures (ap (λ (m : HalfFound). pair_of (Some m)) c.new.ensures)
    c.if-earliest.false refl
