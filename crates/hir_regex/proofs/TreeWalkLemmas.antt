-- The ends of the runs of an automaton that is compiled from trees are the spans that the trees mean, for one who reads forward or in
-- reverse, in each mode.
use Rattle.std.proofs.Common.{◌≡◌, ◌↔◌, ℕ, ◌<◌, ◌≤◌, Bool, true, false, ◌&&◌, List, length, get_or, slice_get, Some, refl, sym, ap, ◌∙◌}
use Rattle.std.proofs.Common.{subst, inl, inr, arith, nat_lt, ◌==◌, eq-eqb}
use Rattle.std.proofs.lemmas.Bool.{cases_lt, lt-ltb, and_from}
use Rattle.std.proofs.lemmas.Option.{slice_get_within, get_or_from_slice_get}
use Rattle.search_core.specs.Utf8.{IsValidText}
use Rattle.look_core.specs.Terminators.{Terminator}
use Rattle.hir_core.specs.Tree.{Tree, empty}
use Rattle.hir_core.specs.Means.{Looks, Means}
use Rattle.hir_core.specs.Facts.{is_utf8_tree}
use Rattle.hir_core.proofs.ForCallers.{span_forward, span_start_bounded, span_end_bounded}
use Rattle.search_types.specs.declared.anchored.Anchored.{Anchored}
use Rattle.search_types.specs.declared.anchored.Anchored.TheVariants.{No, Yes, Pattern}
use Rattle.search_types.specs.Modes.{allowed, is_anchored, may_start}
use Rattle.search_types.specs.Places.{counts}
use Rattle.search_types.proofs.ForCallers.{starts_at, may_start_at}
use Rattle.nfa_core.specs.Nfa.{Automaton}
use Rattle.nfa_core.specs.Places.{same_pair}
use Rattle.nfa_core.specs.Walks.{Has}
use Rattle.nfa_core.specs.Reaches.{read_by}
use Rattle.nfa_core.specs.Ways.{Text, offset_of, ends_from}
use Rattle.thompson_nfa.specs.Compilations.{IsChoice, IsPlainText, IsReadTo, FindsSpans, pattern_start}
use Rattle.thompson_nfa.specs.Denotes.{IsMeant}
use Rattle.lazy_dfa.specs.Dfas.{Dfa}
use Rattle.lazy_dfa.specs.Scans.{start_name}
use Rattle.lazy_dfa.specs.HalfSearches.{first_offset}
use Rattle.hir_regex.specs.OverlappingTrees.{IsOverlappingDfa}
use Rattle.hir_regex.proofs.FirstEndLemmas.{start_has_tree}
use Rattle.hir_regex.proofs.LooseEndLemmas.{allowed_named}

-- ---- modes

named_allowed : (p n k : ℕ) → k < n → k ≡ p → allowed (Pattern p) n k ≡ true
named_allowed p n k inside same = and_from (nat_lt k n) (k == p) (lt-ltb k n inside) (eq-eqb k p same)

-- in a search that reads from offset i a span may begin to be read at offset k
abbrev IsFrom : Bool → Anchored → Text → ℕ → ℕ → Type 0
IsFrom b No text i k = IsReadTo b text i k
IsFrom b Yes text i k = k ≡ i
IsFrom b (Pattern p) text i k = k ≡ i

-- the pattern is one that the mode allows, and its tree one that leads to the offset from one where a span may begin
abbrev pub IsMet : List Tree → Bool → Text → Anchored → ℕ → ℕ × ℕ → Type 0
IsMet xs b text mode i x = (k : ℕ) × (IsFrom b mode text i k × (allowed mode (length xs) x.1 ≡ true) × IsChoice b xs text k x)

-- forward
pub forward_starts : (mode : Anchored) (text : Text) (s e k : ℕ) → text.end ≡ e → s ≤ e → IsFrom false mode text s k →
    may_start mode s e k ≡ true
forward_starts No text s e k at l from = may_start_at No s e k l from.0 (omega (arith, at, from.1))
forward_starts Yes text s e k at l from = may_start_at Yes s e k l (omega (arith, from)) (omega (arith, from))
forward_starts (Pattern p) text s e k at l from = may_start_at (Pattern p) s e k l (omega (arith, from)) (omega (arith, from))

pub starts_forward : (mode : Anchored) (text : Text) (s e k : ℕ) → text.end ≡ e → may_start mode s e k ≡ true → IsFrom false mode text s k
starts_forward No text s e k at starts = let a = starts_at No s e k starts in (a.from_s, let high = a.to_last in omega (arith, at, high))
starts_forward Yes text s e k at starts =
    let a = starts_at Yes s e k starts in let low = a.from_s in let high = a.to_last in omega (arith, low, high)
starts_forward (Pattern p) text s e k at starts =
    let a = starts_at (Pattern p) s e k starts in let low = a.from_s in let high = a.to_last in omega (arith, low, high)

pub forward_high : (mode : Anchored) (text : Text) (s e k : ℕ) → text.end ≡ e → s ≤ e → IsFrom false mode text s k → k ≤ e
forward_high No text s e k at l from = omega (arith, at, from.1)
forward_high Yes text s e k at l from = omega (arith, l, from)
forward_high (Pattern p) text s e k at l from = omega (arith, l, from)

-- in reverse
pub reverse_ends : (mode : Anchored) (text : Text) (e k : ℕ) → IsFrom true mode text e k → is_anchored mode ≡ true → k ≡ e
reverse_ends No text e k from anchored = cc
reverse_ends Yes text e k from anchored = from
reverse_ends (Pattern p) text e k from anchored = from

pub reverse_near : (mode : Anchored) (text : Text) (s e k : ℕ) → text.start ≡ s → s ≤ e → IsFrom true mode text e k → (s ≤ k) × (k ≤ e)
reverse_near No text s e k at l from =
    let low = from.1 in let high = from.0 in (omega (arith, at, l, low), high)
reverse_near Yes text s e k at l from = (omega (arith, l, from), omega (arith, from))
reverse_near (Pattern p) text s e k at l from = (omega (arith, l, from), omega (arith, from))

pub ends_reverse : (mode : Anchored) (text : Text) (s e k : ℕ) → text.start ≡ s → s ≤ k → k ≤ e → (is_anchored mode ≡ true → k ≡ e) →
    IsFrom true mode text e k
ends_reverse No text s e k at low high tied = (high, omega (arith, at, low))
ends_reverse Yes text s e k at low high tied = tied refl
ends_reverse (Pattern p) text s e k at low high tied = tied refl

-- ---- where a search begins

from_zero : (c : Bool) (s e : ℕ) → offset_of c (first_offset c s e) 0 ≡ first_offset c s e
from_zero false s e = omega arith
from_zero true s e = omega arith

pub begins_zero : (c b : Bool) (s e : ℕ) → c ≡ b → offset_of c (first_offset c s e) 0 ≡ first_offset b s e
begins_zero c b s e same = from_zero c s e ∙ ap (λ k. first_offset k s e) same

-- ---- where spans count

-- where a span starts and ends, the automaton counts as the mode says: in UTF-8 mode an automaton without empty matches has none
-- but at boundaries
pub counted_alike : (utf8 v : Bool) (looks : Looks) (h : List ℕ) (x : Tree) (i j : ℕ) → Means looks h x i j → j ≤ length h →
    (utf8 ≡ true → IsValidText h) → (utf8 ≡ true → is_utf8_tree x ≡ true) → (i ≡ j → v ≡ true) →
    (counts (utf8 && v) h i ≡ counts utf8 h i) × (counts (utf8 && v) h j ≡ counts utf8 h j)
counted_alike false v looks h x i j means within valid tree some = (refl, refl)
counted_alike true true looks h x i j means within valid tree some = (refl, refl)
counted_alike true false looks h x i j means within valid tree some = elim (cases_lt i j) [
  | inl lt ↦ (
    sym (span_start_bounded looks h x i j (valid refl) (tree refl) means lt within),
    sym (span_end_bounded looks h x i j (valid refl) (tree refl) means lt within),
  )
  | inr ge ↦
      let up = span_forward looks h x i j means in
      let differ : false ≡ true = some (omega (arith, up, ge)) in cc
]

-- ---- what runs find

module _ (xs : List Tree) (b utf8 : Bool) (t : Terminator) (d : Dfa) (w : IsOverlappingDfa xs b utf8 t d) where
  abbrev a : Automaton
  a = d.nfa.automaton

  spans : FindsSpans b xs d.nfa
  spans = let P : Bool → Type 0 = λ c. FindsSpans c xs d.nfa in subst P w.reads w.compiled.spans

  module _ (looks : Looks) (h : List ℕ) (s e : ℕ) (read : IsPlainText (read_by looks h s e)) where
    abbrev text : Text
    text = read_by looks h s e

    abbrev Met : Anchored → ℕ → ℕ × ℕ → Type 0
    Met mode i x = IsMet xs b text mode i x

    choice_inside : (k : ℕ) (x : ℕ × ℕ) → IsChoice b xs text k x → x.1 < length xs
    choice_inside k x c = slice_get_within xs x.1 c.0 c.1

    met_free : (i : ℕ) (x : ℕ × ℕ) → s ≤ i → i ≤ e → Has same_pair x (ends_from a text (i, a.start_unanchored)) ↔ Met No i x
    met_free i x low high =
        let found = spans.unanchored text i x read low high in (
          λ there. let c = found.0 there in (c.0, (c.1, lt-ltb x.1 (length xs) (choice_inside c.0 x c.2), c.2)),
          λ m. found.1 (m.0, m.1.0, m.1.2),
        )

    met_anchored : (i : ℕ) (x : ℕ × ℕ) → i ≤ e → Has same_pair x (ends_from a text (i, a.start_anchored)) ↔ Met Yes i x
    met_anchored i x high =
        let found = spans.anchored text i x high in (
          λ there. let c = found.0 there in (i, (refl, lt-ltb x.1 (length xs) (choice_inside i x c), c)),
          λ m. let P : ℕ → Type 0 = λ k. IsChoice b xs text k x in found.1 (subst P m.1.0 m.1.2),
        )

    met_named : (p name i : ℕ) (x : ℕ × ℕ) → slice_get a.start_pattern p ≡ Some name → i ≤ e →
        Has same_pair x (ends_from a text (i, pattern_start a p)) ↔ Met (Pattern p) i x
    met_named p name i x is high =
        let listed = start_has_tree w.options xs d.nfa w.compiled p name is in
        let inside = slice_get_within xs p (get_or xs p empty) listed in (
          λ there.
              let c = (spans.patterns p (get_or xs p empty) listed text i x high).0 there in
              let same : x.1 ≡ p = c.0 in (
                i,
                (
                  refl,
                  named_allowed p (length xs) x.1 (omega (arith, inside, same)) same,
                  (get_or xs p empty, ap (slice_get xs) same ∙ listed, c.1),
                ),
              ),
          λ m.
              let same : x.1 ≡ p = allowed_named p (length xs) x.1 m.1.1 in
              let P : ℕ → Type 0 = λ k. IsMeant b text m.1.2.0 k x.0 in
              (spans.patterns p m.1.2.0 (ap (slice_get xs) (sym same) ∙ m.1.2.1) text i x high).1 (same, subst P m.1.0 m.1.2.2),
        )

    abbrev Finds : Anchored → ℕ → ℕ → ℕ × ℕ → Type 0
    Finds mode name i x = Has same_pair x (ends_from a text (i, name)) ↔ Met mode i x

    pub met : (mode : Anchored) (name i : ℕ) (x : ℕ × ℕ) → start_name a mode ≡ Some name → s ≤ i → i ≤ e → Finds mode name i x
    met No name i x is low high =
        let same : a.start_unanchored ≡ name = cc in
        let P : ℕ → Type 0 = λ k. Finds No k i x in subst P same (met_free i x low high)
    met Yes name i x is low high =
        let same : a.start_anchored ≡ name = cc in
        let P : ℕ → Type 0 = λ k. Finds Yes k i x in subst P same (met_anchored i x high)
    met (Pattern p) name i x is low high =
        let P : ℕ → Type 0 = λ k. Finds (Pattern p) k i x in
        subst P (get_or_from_slice_get a.start_pattern p name 0 is) (met_named p name i x is high)
