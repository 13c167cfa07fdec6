-- An attempt writes to the slots of the pattern's groups alone.
use Rattle.std.proofs.Common.{◌≡◌, ℕ, zero, suc, ◌+◌, ◌-◌, ◌*◌, ◌<◌, ◌≤◌, Bool, true, false, List, [], All, length, Option, Some, None, nat_lt, if◌then◌else◌, refl, subst, ⊎_elim, arith}
use Rattle.std.proofs.lemmas.List.Elements.{All-nil, All-cons}
use Rattle.std.proofs.lemmas.Option.{none-some, same_Some}
use Rattle.std.specs.Char.{len_utf8}
use Rattle.regex_class.specs.Ranges.{in_ranges}
use Rattle.regex_hir.specs.Text.{char_at}
use Rattle.regex_hir.specs.Re.{Re, empty, literal, byte_in, char_in, look, cat, alt, group, plus, Trace, Rest, accept, write, rounds, attempt}
use Rattle.regex_hir.proofs.OptionLemmas.{option_or_cases, prefer_cases}
use Rattle.regex_hir.proofs.AttemptLemmas.{cond_some, option_and_then_some}
use Rattle.regex_syntax.specs.Grammar.{group_count}

module _ (h : List ℕ) (slots : ℕ) where
  abbrev Below : List (ℕ × ℕ) → Type 0
  Below ws = All (λ (w : ℕ × ℕ). w.0 < slots) ws

  -- whatever follows writes to these slots
  abbrev Within : Rest → Type 0
  Within k = (i : ℕ) (t : Trace) → k i ≡ Some t → Below t.writes

  rounds_within : (greedy : Bool) (body : Rest → Rest) → ((k : Rest) → Within k → Within (body k)) → (k : Rest) → Within k → (n : ℕ) →
      Within (rounds greedy body k n)
  unfolding rounds
  rounds_within greedy body each k w zero i t e = w i t e
  rounds_within greedy body each k w (suc n) i t e =
      ⊎_elim
      (λ round. each _ (λ j u f. rounds_within greedy body each k w n j u (cond_some (nat_lt i j) _ u f).1) i t round)
      (λ leave. w i t leave)
      (prefer_cases greedy _ (k i) t e)

  written : (slot i : ℕ) (o : Option Trace) → slot < slots → ((u : Trace) → o ≡ Some u → Below u.writes) → (t : Trace) →
      write slot i o ≡ Some t → Below t.writes
  written slot i None low each t e = absurd (none-some t e)
  written slot i (Some u) low each t e =
      subst (λ (v : Trace). Below v.writes) (same_Some _ t e)
      (All-cons (λ (w : ℕ × ℕ). w.0 < slots) (slot, i) u.writes low (each u refl))

  either : (b : Bool) (x y : Option Trace) (t : Trace) → ((u : Trace) → x ≡ Some u → Below u.writes) →
      ((u : Trace) → y ≡ Some u → Below u.writes) → (if b then x else y) ≡ Some t → Below t.writes
  either true x y t p q e = p t e
  either false x y t p q e = q t e

  pub attempt_within : (re : Re) → 2 * group_count re ≤ slots → (k : Rest) → Within k → Within (attempt h re k)
  unfolding attempt
  attempt_within empty low k w i t e = w i t e
  attempt_within (literal bs) low k w i t e = w _ t (cond_some _ _ t e).1
  attempt_within (byte_in rs) low k w i t e = w _ t (cond_some _ _ t e).1
  attempt_within (char_in rs) low k w i t e =
      let c = option_and_then_some (λ (x : ℕ). if in_ranges rs x then k (i + len_utf8 x) else None) (char_at h i) t e in
      w (i + len_utf8 c.0) t (cond_some (in_ranges rs c.0) (k (i + len_utf8 c.0)) t c.2).1
  attempt_within (look l) low k w i t e = w i t (cond_some _ _ t e).1
  attempt_within (cat a b) low k w i t e =
      attempt_within a (omega (arith, low)) _ (attempt_within b (omega (arith, low)) k w) i t e
  attempt_within (alt a b) low k w i t e =
      ⊎_elim (attempt_within a (omega (arith, low)) k w i t) (λ other. attempt_within b (omega (arith, low)) k w i t other.1) (option_or_cases _ _ t e)
  attempt_within (group n a) low k w i t e =
      written (2 * n) i _ (omega (arith, low))
      (attempt_within a (omega (arith, low)) _ (λ j u f. written (2 * n + 1) j (k j) (omega (arith, low)) (w j) u f) i) t e
  attempt_within (plus greedy a) low k w i t e =
      attempt_within a low _
      (λ j u f. either (nat_lt i j) _ (k j) u
      (λ v g. rounds_within greedy (attempt h a) (attempt_within a low) k w (length h - j) j v g) (w j) f)
      i t e

accepts_within : (slots : ℕ) → Within [] slots accept
accepts_within slots i t e = subst (λ (v : Trace). All (λ (w : ℕ × ℕ). w.0 < slots) v.writes) (same_Some _ t e) (All-nil _)

pub writes_within : (h : List ℕ) (re : Re) (count : ℕ) → group_count re ≤ count → (i : ℕ) (t : Trace) → attempt h re accept i ≡ Some t →
    All (λ (w : ℕ × ℕ). w.0 < 2 * count) t.writes
writes_within h re count few i t e = attempt_within h (2 * count) re (omega (arith, few)) accept (accepts_within (2 * count)) i t e
