-- No quit byte is among the units that an overlapping search reads, from one offset of its span to a later one.
use Rattle.std.proofs.Common.{◌≡◌, ℕ, zero, suc, ◌+◌, ◌-◌, ◌<◌, ◌≤◌, Bool, true, false, List, sym, ap, ◌∙◌, ⊎_elim, arith}
use Rattle.std.proofs.lemmas.Bool.{cases_lt}
use Rattle.search_types.specs.Inputs.{Search}
use Rattle.nfa_core.specs.Ways.{offset_of}
use Rattle.determinize_core.specs.States.{StateValue}
use Rattle.determinize_core.specs.Steps.{unit_at}
use Rattle.lazy_dfa.specs.Courses.{AreRead}
use Rattle.lazy_dfa.specs.ScanLaws.{HasNoQuit}
use Rattle.lazy_dfa.specs.Readers.{Reader, is_quit}
use Rattle.lazy_dfa.specs.HalfSearches.{first_offset}
use Rattle.lazy_dfa.specs.ScanOffsets.{last_offset, came, left_at, IsWithinSpan}
use Rattle.lazy_dfa.proofs.HalfSearches.FoundLemmas.{place_add}
use Rattle.nfa_core.proofs.ForCallers.{place_zero}

-- ---- units

module _ (r : Reader) (h : List ℕ) where
  abbrev IsQuiet : ℕ → Type 0
  IsQuiet i = is_quit r.quits (unit_at r.automaton.reverse h i) ≡ false

  pub no_quit_yet : (i : ℕ) → HasNoQuit r h i 0
  no_quit_yet i k l = absurd (omega (arith, l))

  pub no_quit_once : (i : ℕ) → IsQuiet i → HasNoQuit r h i 1
  no_quit_once i e zero l = ap (λ (j : ℕ). is_quit r.quits (unit_at r.automaton.reverse h j)) (place_zero r.automaton.reverse i) ∙ e
  no_quit_once i e (suc k) l = absurd (omega (arith, l))

  pub no_quit_read : (i : ℕ) (v : StateValue) (n : ℕ) → AreRead r h i v n → HasNoQuit r h i n
  no_quit_read i v n read k l = (read k l).quiet

  -- some units, and then some more
  pub no_quit_on : (i j m n : ℕ) → j ≡ offset_of r.automaton.reverse i m → HasNoQuit r h i m → HasNoQuit r h j n → HasNoQuit r h i (m + n)
  no_quit_on i j m n e before behind k l = ⊎_elim
      (λ (less : k < m). before k less)
      (λ (past : m ≤ k). later past (k - m) (omega (arith, past)) (omega (arith, l, past)))
      (cases_lt k m)
    where
      later : m ≤ k → (x : ℕ) → m + x ≡ k → x < n → IsQuiet (offset_of r.automaton.reverse i k)
      later past x sum less =
          ap (λ (y : ℕ). is_quit r.quits (unit_at r.automaton.reverse h (offset_of r.automaton.reverse i y))) (sym sum)
          ∙ (ap (λ (y : ℕ). is_quit r.quits (unit_at r.automaton.reverse h y)) (sym (place_add r.automaton.reverse i m x))
          ∙ (ap (λ (y : ℕ). is_quit r.quits (unit_at r.automaton.reverse h (offset_of r.automaton.reverse y x))) (sym e)
          ∙ behind x less))

-- ---- offsets of a span

pub came_first : (is_reverse : Bool) (q : Search) → came is_reverse q (first_offset is_reverse q.start q.end) ≡ 0
came_first false q = omega arith
came_first true q = omega arith

pub came_next : (is_reverse : Bool) (q : Search) (at : ℕ) → IsWithinSpan q at → (at ≡ last_offset is_reverse q → ⊥) →
    came is_reverse q (offset_of is_reverse at 1) ≡ suc (came is_reverse q at)
came_next false q at w n = omega (arith, w.0, w.1, n)
came_next true q at w n = omega (arith, w.0, w.1, n)

pub came_steps : (is_reverse : Bool) (q : Search) (a c l : ℕ) → IsWithinSpan q a → IsWithinSpan q c →
    left_at is_reverse q a ≡ l + left_at is_reverse q c → came is_reverse q a + (l + 1) ≡ suc (came is_reverse q c)
came_steps false q a c l w x e = omega (arith, w.0, w.1, x.0, x.1, e)
came_steps true q a c l w x e = omega (arith, w.0, w.1, x.0, x.1, e)
