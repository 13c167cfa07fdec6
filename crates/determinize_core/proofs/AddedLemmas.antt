-- States of an automaton are added one after another.
use Rattle.std.proofs.Common.{◌≡◌, ℕ, zero, suc, ◌+◌, ◌<◌, ◌≤◌, true, false, List, ◌∷◌, length, drop, get_or, refl, sym, ap, []}
use Rattle.std.proofs.Common.{◌∙◌, arith, not, subst}
use Rattle.std.specs.List.{list_any}
use Rattle.std.proofs.lemmas.Bool.{or_parts}
use lib.Bits.{or_zero_r}
use Rattle.look_core.specs.declared.look.Look.{Look}
use Rattle.look_core.specs.LookSets.{has_look, union_of}
use Rattle.look_core.proofs.ForCallers.{has_look-none}
use Rattle.nfa_core.specs.Nfa.{Node, byte_range, sparse_node, dense_node, look_node, union_node, binary_union, capture_node, fail_node}
use Rattle.nfa_core.specs.Nfa.{match_node, Automaton, node_at}
use Rattle.nfa_core.specs.NfaValue.{look_of, looks_of, is_capture}
use Rattle.nfa_core.proofs.ForCallers.{looks_any, not_both}
use Rattle.determinize_core.specs.Steps.{is_kept, kept_among, looks_with}

-- a list from a member on
pub from_member : (qs : List ℕ) (k : ℕ) → k < length qs → drop k qs ≡ get_or qs k 0 ∷ drop (suc k) qs
from_member [] k within = absurd (omega (arith, within))
from_member (q ∷ qs) zero within = refl
from_member (q ∷ qs) (suc k) within = from_member qs k (omega (arith, within))

pub past_all : (qs : List ℕ) (k : ℕ) → length qs ≤ k → drop k qs ≡ []
past_all [] zero past = refl
past_all [] (suc k) past = refl
past_all (q ∷ qs) zero past = absurd (omega (arith, past))
past_all (q ∷ qs) (suc k) past = past_all qs k (omega (arith, past))

pub next_left : (qs : List ℕ) (k q : ℕ) → k < length qs → q ≡ get_or qs k 0 → drop k qs ≡ q ∷ drop (k + 1) qs
next_left qs k q within e =
    let next : suc k ≡ k + 1 = omega arith in
    from_member qs k within ∙ (ap (λ (p : ℕ). p ∷ drop (suc k) qs) (sym e) ∙ ap (λ (i : ℕ). q ∷ drop i qs) next)

-- ---- automata without looks, and without captures

has_none : (node : Node) → ((l : Look) (next : ℕ) → node ≡ look_node l next → ⊥) → look_of node ≡ 0
has_none (byte_range low high next) never = refl
has_none (sparse_node ranges) never = refl
has_none (dense_node names) never = refl
has_none (look_node l next) never = absurd (never l next refl)
has_none (union_node names) never = refl
has_none (binary_union first second) never = refl
has_none (capture_node next pattern group slot) never = refl
has_none fail_node never = refl
has_none (match_node pattern) never = refl

module _ (a : Automaton) (none : looks_of a.states ≡ 0) where
  no_look_at : (q : ℕ) → look_of (node_at a q) ≡ 0
  no_look_at q = has_none (node_at a q) (λ l next is. not_both (has_look 0 l) ⊥
      (subst (λ (s : ℕ). has_look s l ≡ true) none ((looks_any l a).1 (q, next, is))) (has_look-none l))

  pub no_looks : (s : ℕ) (qs : List ℕ) → looks_with a s qs ≡ s
  no_looks s [] = refl
  no_looks s (q ∷ qs) =
      let same : union_of s (look_of (node_at a q)) ≡ s = ap (union_of s) (no_look_at q) ∙ or_zero_r s in
      ap (λ (n : ℕ). looks_with a n qs) same ∙ no_looks s qs

none_captures : (nodes : List Node) → list_any is_capture nodes ≡ false → (q : ℕ) → is_capture (get_or nodes q fail_node) ≡ false
none_captures [] none q = refl
none_captures (node ∷ nodes) none zero = (or_parts (is_capture node) (list_any is_capture nodes) none).0
none_captures (node ∷ nodes) none (suc q) = none_captures nodes (or_parts (is_capture node) (list_any is_capture nodes) none).1 q

pub all_kept : (a : Automaton) → list_any is_capture a.states ≡ false → (qs : List ℕ) → kept_among a qs ≡ qs
all_kept a none [] = refl
all_kept a none (q ∷ qs) =
    let keeps : is_kept a q ≡ true = ap not (none_captures a.states none q) in
    rw keeps (ap (λ (l : List ℕ). q ∷ l) (all_kept a none qs))
