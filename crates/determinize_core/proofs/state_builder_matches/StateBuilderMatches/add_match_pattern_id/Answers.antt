use Rattle.std.proofs.Common.{◌≡◌, ◌≢◌, ◌<◌, ℕ, List, false, length, arith, ap, sym, ◌∙◌, refl, subst}
use Rattle.std.specs.Prelude.{slice_index, nat_eq}
use Rattle.std.specs.List.{list_any}
use Rattle.determinize_core.specs.States.{StateValue}
use Rattle.determinize_core.specs.StateBytes.{decoded_unfinished, IsUnfinished}
use Rattle.determinize_core.specs.Positions.{ArePositions}
use Rattle.determinize_core.proofs.PositionLemmas.{noted_same, noted_last, noted_apart}
use Rattle.determinize_core.proofs.state_builder_matches.StateBuilderMatches.add_match_pattern_id.Goals as goal

-- if an allocation fails, at most a position was noted for the pattern, which isn't in the list
refused : (old new noted now : List ℕ) (p : ℕ) → IsUnfinished old → ArePositions noted (decoded_unfinished old).matches →
    list_any (nat_eq p) (decoded_unfinished old).matches ≡ false →
    ((q : ℕ) → q ≢ p → slice_index now q ≡ slice_index noted q) → new ≡ old →
    IsUnfinished new × ArePositions now (decoded_unfinished new).matches
refused old new noted now p of at absent others same =
    subst (λ (xs : List ℕ). IsUnfinished xs × ArePositions now (decoded_unfinished xs).matches) (sym same)
    (of, noted_apart noted (decoded_unfinished old).matches p at now absent others)

pub invariant_of-self : goal.invariant_of-self
invariant_of-self c =
    refused c.self.inside.bytes.items c.self.inside.bytes.items c.self.inside.positions.noted.items c.note.new.self.noted.items
    c.args.pid c.self.invariant.0 c.self.invariant.1
    (ap (λ (v : StateValue). list_any (nat_eq c.args.pid) v.matches) c.self.view_is ∙ c.requires)
    c.in_err-note.ensures.others refl

pub invariant_of-self-in_err-add_pattern : goal.invariant_of-self-in_err-add_pattern
invariant_of-self-in_err-add_pattern c =
    refused c.self.inside.bytes.items c.add_pattern.new.bytes.items c.self.inside.positions.noted.items c.note.new.self.noted.items
    c.args.pid c.self.invariant.0 c.self.invariant.1
    (ap (λ (v : StateValue). list_any (nat_eq c.args.pid) v.matches) c.self.view_is ∙ c.requires)
    c.in_ok-note.ensures.others c.in_err-add_pattern.ensures.err

pub invariant_of-self-2 : goal.invariant_of-self-2
invariant_of-self-2 c =
    let kept = c.in_ok-add_pattern.ensures.ok in
    let before = (decoded_unfinished c.self.inside.bytes.items).matches in
    let absent = ap (λ (v : StateValue). list_any (nat_eq c.args.pid) v.matches) c.self.view_is ∙ c.requires in
    let count : c.count-count.result ≡ length before =
    c.count-count.ensures ∙ ap (λ (v : StateValue). length v.matches) (sym c.self.view_is) in
    let last : 0 < length before → slice_index c.note.new.self.noted.items c.args.pid ≡ length before =
    λ some. c.in_ok-note.ensures.there (omega (arith, some, count)) ∙ count in
    let at = noted_last c.self.inside.positions.noted.items before c.args.pid c.self.invariant.1 c.note.new.self.noted.items
    absent c.in_ok-note.ensures.others last in
    (kept.0, noted_same c.note.new.self.noted.items _ _ (ap (λ (v : StateValue). v.matches) kept.1) at)
