-- Why a step fails.
use Rattle.std.proofs.Common.{◌≡◌, ◌≢◌, ◌∙◌, ℕ, true, false, Option, None, sym, ap, inl, inr, true≢false}
use Rattle.std.specs.Prelude.{◌&&◌, is_none, not}
use Rattle.std.proofs.lemmas.Bool.{and_parts}
use Rattle.determinize_core.specs.States.{StateValue}
use Rattle.lazy_dfa.specs.Caches.{CacheValue, HeldAt, fits, has_no_room, is_clear_denied, row_holding}
use Rattle.lazy_dfa.specs.ConfigValue.{clears_of, minimum_bytes_of}
use Rattle.lazy_dfa.specs.Dfas.{Dfa, after, is_dead}
use Rattle.lazy_dfa.specs.Steps.{IsStepCause}
use Rattle.lazy_dfa.specs.declared.cache_error.CacheError.{CacheError}
use Rattle.lazy_dfa.specs.declared.cache_error.CacheError.TheVariants.{GaveUp, NoMemory}

-- a state has no room only if there is a limit on clears
pub limit_is_set : (d : Dfa) (v : CacheValue) (s : StateValue) → has_no_room d v s ≡ true → clears_of d.options ≢ None
limit_is_set d v s e none =
    let a = and_parts (not (is_dead s)) (is_none (row_holding s v.states) && (not (fits d.capacity s v)
    && is_clear_denied (clears_of d.options) (minimum_bytes_of d.options) v)) e in
    let b = and_parts (is_none (row_holding s v.states)) (not (fits d.capacity s v)
    && is_clear_denied (clears_of d.options) (minimum_bytes_of d.options) v) a.1 in
    let f = and_parts (not (fits d.capacity s v)) (is_clear_denied (clears_of d.options) (minimum_bytes_of d.options) v) b.1 in
    true≢false (sym f.1 ∙ ap (λ (o : Option ℕ). is_clear_denied o (minimum_bytes_of d.options) v) none)

gave_up_is : GaveUp ≡ NoMemory → ⊥
gave_up_is e = let never : true ≡ false = cc in true≢false never

pub step_limit : (d : Dfa) (v : CacheValue) (id : ℕ) (u : Option ℕ) (s : StateValue) (e : CacheError) → e ≡ GaveUp → HeldAt v id s →
    IsStepCause d v id u e → clears_of d.options ≢ None
step_limit d v id u s e is h (inl f) = absurd (gave_up_is (sym is ∙ f))
step_limit d v id u s e is h (inr g) = limit_is_set d v (after d s u) (g.1.lacks s h)
