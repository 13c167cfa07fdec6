-- What is found, by its spans and starts.
use Rattle.std.proofs.Common.{◌≡◌, ℕ, Option, Some, None, option_map, refl, sym, ap, ◌∙◌}
use Rattle.std.specs.Option.{option_or}
use Rattle.std.specs.Prelude.{is_some}
use Rattle.regex_hir.specs.Find.{Match}
use Rattle.regex_syntax.proofs.Written.{is_some-option_map}
use Rattle.pattern_search.specs.Searches.{span_of_match}

-- the span of the first of two matches that there is
pub spans_or : (a b : Option Match) → option_map span_of_match (option_or a b)
    ≡ option_or (option_map span_of_match a) (option_map span_of_match b)
spans_or None b = refl
spans_or (Some x) b = refl

-- if starts are alike, there is either something on both sides or nothing
pub alike_some : {A B : Type 0} (f : A → ℕ) (g : B → ℕ) (x : Option A) (y : Option B) → option_map f x ≡ option_map g y →
    is_some x ≡ is_some y
alike_some f g x y e = sym (is_some-option_map f x) ∙ ap is_some e ∙ is_some-option_map g y
