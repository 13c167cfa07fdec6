-- Each input is rejected for what shows in it, or asks for a search.
use Rattle.std.proofs.Common.{◌≡◌, ℕ, ◌+◌, ◌^◌, ◌<◌, ◌≤◌, ◌⊎◌, inl, inr, List, length, drop, Option, Some, None, refl, arith}
use Rattle.std.proofs.lemmas.Bool.{cases_lt}
use Rattle.hir_core.specs.Tree.{Tree}
use Rattle.hirscan.specs.declared.fault.FaultKind.{FaultKind}
use Rattle.hirscan.specs.declared.line.Setup.{Setup}
use Rattle.hirscan.specs.Takes.{QueryValue, at_first}
use Rattle.hirscan.specs.Reads.{Reads, IsFaultAt}
use Rattle.hirscan.specs.Rejections.{rejection}
use Rattle.hirscan.specs.Reply.{IsInputRejected, too_long, faulty, unfit, Asks}
use Rattle.hirscan.proofs.SomeReadsLemmas.{reads_or_faulty}

abbrev IsDecided : List ℕ → Type 0
IsDecided input = ((cause : List ℕ) × IsInputRejected input cause) ⊎
    ((setup : Setup) × (xs : List Tree) × (h : List ℕ) × Asks input setup xs h)

module _ (input : List ℕ) where
  by_cause : (at : QueryValue) (n : ℕ) → length input ≤ 2 ^ 30 → Reads input at_first at n → (o : Option (List ℕ)) →
      rejection at.setup at.patterns (drop n input) ≡ o → IsDecided input
  by_cause at n short read (Some cause) found = inl (cause, unfit at n short read found)
  by_cause at n short read None none = inr (
    at.setup,
    at.patterns,
    drop n input,
    record {
      at = at;
      len = n;
      short = short;
      reads = read;
      setup_is = refl;
      patterns_are = refl;
      haystack_is = refl;
      fits = none;
    },
  )

  by_head : length input ≤ 2 ^ 30 →
      ((there : QueryValue) × (n : ℕ) × Reads input at_first there n) ⊎ ((k : ℕ) × (kind : FaultKind) × IsFaultAt input at_first k kind) →
      IsDecided input
  by_head short (inl r) = by_cause r.0 r.1 short r.2 (rejection r.0.setup r.0.patterns (drop r.1 input)) refl
  by_head short (inr f) = inl (_, faulty f.0 f.1 short f.2 refl)

  by_length : (length input < 2 ^ 30 + 1) ⊎ (2 ^ 30 + 1 ≤ length input) → IsDecided input
  by_length (inl short) = by_head (omega arith) (reads_or_faulty input at_first)
  by_length (inr long) = inl (_, too_long (omega arith) refl)

  pub refused_or_asked : IsDecided input
  refused_or_asked = by_length (cases_lt (length input) (2 ^ 30 + 1))
