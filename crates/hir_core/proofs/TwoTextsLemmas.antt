-- What a tree means from i to j depends on the bytes from i to j and on how its looks are read there.
use Rattle.std.proofs.Common.{◌≡◌, ℕ, zero, suc, ◌+◌, ◌-◌, ◌≤◌, List, [], ◌∷◌, length, take, drop, slice_get, Some, None, inl, inr, refl}
use Rattle.std.proofs.Common.{sym, ap, ◌∙◌, subst, arith, drop-drop}
use Rattle.std.specs.List.{starts_with}
use Rattle.std.specs.Bool.{nat_eq}
use Rattle.std.proofs.lemmas.List.{length-take}
use Rattle.search_core.specs.Utf8.{Spells}
use Rattle.hir_core.specs.Tree.{Tree, empty, literal, byte_class, char_class, look, repetition, capture, nothing, cat, never, alt}
use Rattle.hir_core.specs.Means.{Looks, Means, Rounds}
use Rattle.hir_core.specs.Facts.{looks_used}
use Rattle.hir_core.specs.Agree.{AgreeFrom}
use Rattle.hir_core.proofs.LookFactLemmas.{one_held, union_left, union_right}
use Rattle.hir_core.proofs.SpanLemmas.{IsSpan-Means, IsSpan-Rounds, span_forward}
use Rattle.hir_core.proofs.CutLemmas.{cut_to_whole, whole_to_cut}

get_first : (h : List ℕ) (i : ℕ) → slice_get h i ≡ slice_get (drop i h) 0
get_first h zero = refl
get_first [] (suc i) = refl
get_first (b ∷ h) (suc i) = get_first h i

-- two haystacks with the same bytes from s on, and readings that agree from there
module _ (f g : Looks) (h k : List ℕ) (s e : ℕ) (len : length h ≡ length k) (tails : (i : ℕ) → s ≤ i → drop i h ≡ drop i k) where
  abbrev Carries : Tree → Type 0
  Carries x = (i j : ℕ) → s ≤ i → j ≤ e → Means f h x i j → Means g k x i j

  rounds_carry : (x : Tree) → Carries x → (n i j : ℕ) → s ≤ i → j ≤ e → Rounds (Means f h x) n i j → Rounds (Means g k x) n i j
  rounds_carry x each zero i j l t r = r
  rounds_carry x each (suc n) i j l t r =
      let up = span_forward f h x i r.0 r.1 in
      let others = IsSpan-Rounds h (Means f h x) (IsSpan-Means f h x) n r.0 j r.2 in
      let on : r.0 ≤ j = others.forward in
      (r.0, each i r.0 l (omega arith) r.1, rounds_carry x each n r.0 j (omega arith) t r.2)

  no_round : (x : Tree) (n i j : ℕ) → n ≤ 0 → Rounds (Means f h x) n i j → Rounds (Means g k x) n i j
  no_round x zero i j le r = r
  no_round x (suc n) i j le r = absurd (omega arith)

  carries : (x : Tree) → AgreeFrom f g s e x → Carries x
  carries empty a i j l t m = m
  carries (literal bytes) a i j l t m = (m.0, sym (ap (λ (w : List ℕ). starts_with nat_eq w bytes) (tails i l)) ∙ m.1)
  carries (byte_class ranges) a i j l t m =
      (m.0, m.1, get_first k i ∙ sym (ap (λ (w : List ℕ). slice_get w 0) (tails i l)) ∙ sym (get_first h i) ∙ m.2, m.3)
  carries (char_class ranges) a i j l t m = record {
    scalar = m.scalar;
    forward = m.forward;
    within = omega (arith, m.within, len);
    spells = subst (λ (w : List ℕ). Spells m.scalar (take (j - i) w)) (tails i l) m.spells;
    member = m.member;
  }
  carries (look o) a i j l t m = (m.0, sym (a o (one_held o o refl) i l (omega (arith, t, m.0))) ∙ m.1)
  carries (repetition min None greedy x) a i j l t m = (m.0, m.1, tt, rounds_carry x (carries x a) m.0 i j l t m.3)
  carries (repetition min (Some zero) greedy x) a i j l t m = (m.0, m.1, m.2, no_round x m.0 i j m.2 m.3)
  carries (repetition min (Some (suc most)) greedy x) a i j l t m = (m.0, m.1, m.2, rounds_carry x (carries x a) m.0 i j l t m.3)
  carries (capture index name x) a i j l t m = carries x a i j l t m
  carries nothing a i j l t m = m
  carries (cat x y) a i j l t m =
      let up = span_forward f h x i m.0 m.1 in
      let on = span_forward f h y m.0 j m.2 in (
        m.0,
        carries x (λ o u. a o (union_left (looks_used x) (looks_used y) o u)) i m.0 l (omega arith) m.1,
        carries y (λ o u. a o (union_right (looks_used x) (looks_used y) o u)) m.0 j (omega arith) t m.2,
      )
  carries never a i j l t m = m
  carries (alt x y) a i j l t (inl m) = inl (carries x (λ o u. a o (union_left (looks_used x) (looks_used y) o u)) i j l t m)
  carries (alt x y) a i j l t (inr m) = inr (carries y (λ o u. a o (union_right (looks_used x) (looks_used y) o u)) i j l t m)

-- Two haystacks with the same bytes from s to e, and readings that agree at the offsets from s to e. The agreement after e doesn't count,
-- as the bytes are cut there.
module _ (f g : Looks) (h k : List ℕ) (s e : ℕ) (fits : e ≤ length h) (fits_too : e ≤ length k)
    (same : drop s (take e h) ≡ drop s (take e k)) where
  cut_tails : (i : ℕ) → s ≤ i → drop i (take e h) ≡ drop i (take e k)
  cut_tails i l =
      let sum : s + (i - s) ≡ i = omega arith in
      ap (λ n. drop n (take e h)) (sym sum) ∙ sym (drop-drop (i - s) s (take e h)) ∙ ap (drop (i - s)) same
      ∙ drop-drop (i - s) s (take e k) ∙ ap (λ n. drop n (take e k)) sum

  cut_len : length (take e h) ≡ length (take e k)
  cut_len = omega (arith, length-take e h, length-take e k)

  pub same_spans_in_both : (x : Tree) → AgreeFrom f g s e x → (i j : ℕ) → s ≤ i → i ≤ e → j ≤ e → Means f h x i j → Means g k x i j
  same_spans_in_both x agree i j l at to m =
      (cut_to_whole g k e x i j at
      (carries f g (take e h) (take e k) s e cut_len cut_tails x agree i j l to (whole_to_cut f h e x i j to m))).0
