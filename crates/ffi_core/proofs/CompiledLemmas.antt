-- What the engine says of its regex, said of a compiled regex.
use Rattle.std.proofs.Common.{◌≡◌, ℕ, Bool, List, subst}
use Rattle.regex_syntax.specs.declared.Config.{Config}
use Rattle.meta_regex.specs.declared.options.Options as engine
use Rattle.meta_regex.specs.Regexes.{RegexValue}
use Rattle.ffi_core.specs.declared.options.Options.{Options}
use Rattle.ffi_core.specs.Compiled.{Regexed, config_by}
use Rattle.ffi_core.specs.Options.{options_of}

abbrev pub value_of : RegexValue → Options → Regexed
value_of r o = record { options = o; texts = r.texts; loops = r.loops }

-- the regex that is shared was made with these options, and is seen as this value
pub by_value : (shared r : RegexValue) (o : Options) (v : Regexed) → shared ≡ r → r.options ≡ options_of o → value_of r o ≡ v →
    (P : Config → List (List ℕ) → Bool → Type 0) → P shared.options.syntax shared.texts shared.loops → P (config_by v) v.texts v.loops
by_value shared r o v same options is P p =
    subst (λ (w : Regexed). P (config_by w) w.texts w.loops) is
    (subst (λ (e : engine.Options). P e.syntax r.texts r.loops) options
    (subst (λ (it : RegexValue). P it.options.syntax it.texts it.loops) same p))

-- and so is what is said of its options
pub by_options : (shared r : RegexValue) (o : Options) (v : Regexed) → shared ≡ r → r.options ≡ options_of o → value_of r o ≡ v →
    (P : engine.Options → List (List ℕ) → Type 0) → P shared.options shared.texts → P (options_of v.options) v.texts
by_options shared r o v same options is P p =
    subst (λ (w : Regexed). P (options_of w.options) w.texts) is
    (subst (λ (e : engine.Options). P e r.texts) options
    (subst (λ (it : RegexValue). P it.options it.texts) same p))
