-- Why the program builds no regex of patterns: because of their size, or because it is out of memory.
use Rattle.std.proofs.Common.{◌≡◌, ◌⊎◌, inl, inr, ◌+◌, ◌^◌, ◌≤◌, ◌&&◌, Bool, false, not, List, length, true≢false, refl, sym, ap, ◌∙◌}
use Rattle.std.proofs.Common.{subst, lit<}
use Rattle.std.proofs.Math.Bool.{and-false}
use Rattle.search_core.specs.Index.{greatest_index}
use Rattle.hir_core.specs.Tree.{Tree}
use Rattle.nfa_core.specs.declared.build_error.BuildError.{BuildError as NfaBuildError}
use Rattle.nfa_core.specs.declared.build_error.BuildError.TheVariants.{ExceededSizeLimit}
use Rattle.thompson_nfa.specs.RefusedTrees.{RejectsTrees}
use Rattle.thompson_nfa.proofs.ForCallers.{limit_alone_refuses}
use Rattle.lazy_dfa.specs.Quits.{has_high_bytes}
use Rattle.lazy_dfa.specs.ConfigValue.{by_hand}
use Rattle.lazy_dfa.specs.declared.build_error.BuildError.{BuildError}
use Rattle.lazy_dfa.specs.declared.build_error.BuildError.TheVariants.{NFA, NoMemory, Unsupported}
use Rattle.hirscan.specs.declared.line.Setup.{Setup}
use Rattle.hir_regex.specs.declared.settings.Settings.{Settings}
use Rattle.hir_regex.specs.Built.{FailsBuild, not_compiled, unsupported, too_small, no_memory, are_unsupported, compile_options}
use Rattle.hir_regex.specs.Built.{program_settings, use_unicode_words}
use Rattle.hirscan.specs.Reply.{AreTooLarge}

-- words by characters are searched for as far as a search comes
never_unsupported : (xs : List Tree) (said : Settings) → are_unsupported xs (program_settings said).dfa ≡ false
never_unsupported xs said =
    ap (λ b. b && not (has_high_bytes (by_hand (program_settings said).dfa))) (and-false (use_unicode_words xs))

abbrev IsRefusedFor : Setup → List Tree → BuildError → Type 0
IsRefusedFor setup xs e = (e ≡ NoMemory) ⊎ ((e ≡ NFA (ExceededSizeLimit (2 ^ 26))) × AreTooLarge setup xs)

module _ (setup : Setup) (xs : List Tree) (few : length xs ≤ greatest_index + 1) where
  for_size : (reverse : Bool) (x : NfaBuildError) → x ≡ ExceededSizeLimit (2 ^ 26) →
      RejectsTrees (compile_options reverse (program_settings setup.settings)) xs x → AreTooLarge setup xs
  for_size reverse x is refused =
      (reverse, subst (λ (y : NfaBuildError). RejectsTrees (compile_options reverse (program_settings setup.settings)) xs y) is refused)

  refused_for : (e : BuildError) → FailsBuild xs (program_settings setup.settings) e → IsRefusedFor setup xs e
  refused_for e (not_compiled reverse x other refused is) =
      let limit = limit_alone_refuses (compile_options reverse (program_settings setup.settings)) xs x (2 ^ 26) refl refl
      (lit< tt) few refused other in
      inr (is ∙ ap NFA limit.0, for_size reverse x limit.0 refused)
  refused_for e (unsupported n m up back are is) = absurd (true≢false (sym are ∙ never_unsupported xs setup.settings))
  refused_for e (too_small n m up back can checks reverse roomy less is) = absurd (true≢false checks)
  refused_for e (no_memory is) = inl is

  by_cause : (x : NfaBuildError) → IsRefusedFor setup xs (NFA x) → AreTooLarge setup xs
  by_cause x (inl lacks) = cc
  by_cause x (inr large) = large.1

  -- if no automaton is compiled of these patterns, they are too large
  pub too_large : (ys : List Tree) (s : Settings) (e : BuildError) (x : NfaBuildError) → ys ≡ xs → s ≡ program_settings setup.settings →
      e ≡ NFA x →
      FailsBuild ys s e → AreTooLarge setup xs
  too_large ys s e x patterns settings is refused =
      by_cause x (refused_for (NFA x)
      (subst (λ (v : BuildError). FailsBuild xs (program_settings setup.settings) v) is
      (subst (λ (t : Settings). FailsBuild xs t e) settings (subst (λ (zs : List Tree). FailsBuild zs s e) patterns refused))))

  not_unsupported : IsRefusedFor setup xs Unsupported → ⊥
  not_unsupported (inl is) = cc
  not_unsupported (inr both) = cc

  -- and for no other cause
  pub never_refused_so : (ys : List Tree) (s : Settings) (e : BuildError) → ys ≡ xs → s ≡ program_settings setup.settings →
      e ≡ Unsupported → FailsBuild ys s e → ⊥
  never_refused_so ys s e patterns settings is refused =
      not_unsupported (refused_for Unsupported
      (subst (λ (v : BuildError). FailsBuild xs (program_settings setup.settings) v) is
      (subst (λ (t : Settings). FailsBuild xs t e) settings (subst (λ (zs : List Tree). FailsBuild zs s e) patterns refused))))
