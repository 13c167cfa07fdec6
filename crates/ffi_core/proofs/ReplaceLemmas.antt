-- Replacing matches into a caller's buffer.
use Rattle.std.proofs.Common.{◌≡◌, ℕ, Bool, true, false, List, [], length, ap, refl, ◌∙◌}
use Rattle.std.specs.Prelude.{IfOk, Result, Ok, Err}
use Rattle.meta_regex.specs.declared.options.Options as engine
use Rattle.meta_regex.specs.Regexes.{RegexValue, overlaid}
use Rattle.regex_syntax.specs.declared.Config.{Config}
use Rattle.captures.specs.Groups.{AreGroupsOf}
use Rattle.captures.specs.Replacing.{IsReplaced, IsReplacementFor, Said, as_literal, by_template}
use Rattle.captures.specs.declared.groups.Groups.{Groups}
use Rattle.captures.specs.declared.replacement.Replacement.{Replacement}
use Rattle.ffi_core.specs.Compiled.{Regexed, config_by}
use Rattle.ffi_core.specs.Options.{options_of}
use Rattle.ffi_core.specs.Replacing.{IsReplacedInto, said_by}
use Rattle.ffi_core.specs.declared.options.Options.{Options}
use Rattle.ffi_core.proofs.CompiledLemmas.{by_value, value_of}

-- a replacement for the groups that go with a regex, said of the compiled regex
pub made_for : {E : Type 0} (shared : RegexValue) (o : Options) (v : Regexed) (g : Groups) (is : Bool) (bytes : List ℕ)
    (r : Result Replacement E) → shared.options ≡ options_of o → value_of shared o ≡ v → AreGroupsOf shared.options shared.texts g →
    (is ≡ true → IfOk r (λ x. (e : engine.Options) (ts : List (List ℕ)) → AreGroupsOf e ts g → IsReplacementFor e.syntax ts (as_literal bytes) x)) →
    (is ≡ false → IfOk r (λ x. (e : engine.Options) (ts : List (List ℕ)) → AreGroupsOf e ts g → IsReplacementFor e.syntax ts (by_template e.syntax bytes) x)) →
    IfOk r (IsReplacementFor (config_by v) v.texts (said_by (config_by v) is bytes))
made_for shared o v g true bytes (Ok x) options is own literal template =
    by_value shared shared o v refl options is (λ k ts loops. IsReplacementFor k ts (as_literal bytes) x)
    (literal refl shared.options shared.texts own)
made_for shared o v g false bytes (Ok x) options is own literal template =
    by_value shared shared o v refl options is (λ k ts loops. IsReplacementFor k ts (by_template k bytes) x)
    (template refl shared.options shared.texts own)
made_for shared o v g true bytes (Err e) options is own literal template = tt
made_for shared o v g false bytes (Err e) options is own literal template = tt

-- what comes of replacing is written as far as there is room
pub into_room : (config : Config) (ts : List (List ℕ)) (h : List ℕ) (said : Said) (limit : ℕ) (bytes : List ℕ) (count : ℕ) (old new : List ℕ)
    (len : ℕ) → IsReplaced config ts h said limit [] bytes count → new ≡ overlaid bytes old → len ≡ length bytes →
    IsReplacedInto config ts h said limit old new len count
into_room config ts h said limit bytes count old new len made written long = record {
  written = λ res read. written ∙ ap (λ b. overlaid b old) (made.output res read);
  long = λ res read. long ∙ ap length (made.output res read);
  counted = made.counted;
}
