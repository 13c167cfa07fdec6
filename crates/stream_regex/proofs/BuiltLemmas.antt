-- The automaton of a build gives up at no byte.
use Rattle.std.proofs.Common.{◌≡◌, ◌∙◌, ℕ, zero, suc, Bool, true, false, List, ap, refl, replicate, if◌then◌else◌}
use Rattle.std.specs.Prelude.{◌&&◌}
use Rattle.search_core.specs.ByteSets.{has}
use Rattle.hir_core.specs.Tree.{Tree}
use Rattle.lazy_dfa.specs.ConfigValue.{no_bytes}
use Rattle.lazy_dfa.specs.Quits.{with_high_bytes}
use Rattle.hir_regex.specs.Built.{quit_bytes_for, use_unicode_words}
use Rattle.stream_regex.specs.StreamRegexes.{dfa_options_of}
use Rattle.stream_regex.specs.declared.options.Options.{Options}

none_of : (n b : ℕ) → has (replicate n false) b ≡ false
none_of zero b = refl
none_of (suc n) zero = refl
none_of (suc n) (suc b) = none_of n b

none_there : (b : ℕ) → has no_bytes b ≡ false
unfolding no_bytes
none_there b = none_of 256 b

by_words : (w : Bool) → (if w && false then with_high_bytes no_bytes else no_bytes) ≡ no_bytes
by_words true = refl
by_words false = refl

pub gives_up_nowhere : (o : Options) (xs : List Tree) (quits : List Bool) → quits ≡ quit_bytes_for xs (dfa_options_of o) → (b : ℕ) → has quits b ≡ false
gives_up_nowhere o xs quits is b =
    ap (λ (set : List Bool). has set b) (is ∙ by_words (use_unicode_words xs)) ∙ none_there b
