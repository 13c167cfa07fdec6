-- The strings of what a node emits, and what one step of an insertion does to them.
use Rattle.std.proofs.Common.{◌≡◌, ◌⊎◌, inl, inr, ℕ, ◌+◌, ◌<◌, ◌≤◌, List, [], ◌∷◌, ◌++◌, map, length, true, ◌&&◌, nat_le, sym, ◌∙◌, arith}
use Rattle.std.proofs.Common.{subst}
use Rattle.std.proofs.lemmas.Bool.{and_parts, and_from, leb-true, le-leb, false≢true}
use Rattle.std.specs.List.{AllZip}
use Rattle.hir_core.specs.Sequences.{is_in_ranges}
use Rattle.hir_core.specs.declared.utf8_sequences.Utf8Range.{Utf8Range}
use Rattle.thompson_nfa.specs.declared.range_tries.trie_nodes.Edge.{Edge}
use Rattle.thompson_nfa.specs.RangeTries.{IsInSome, IsWith}
use Rattle.thompson_nfa.specs.TrieNodes.{following, along, AreInside, Rises, IsLater}
use Rattle.thompson_nfa.specs.TrieSteps.{EdgesRead, HasEdge, GainsStrings}
use Rattle.thompson_nfa.proofs.Tries.NodeLemmas.{below_same}

-- a string of more ranges than none
pub spelled : (r : ℕ × ℕ) (q : List (ℕ × ℕ)) (b : ℕ) (t : List ℕ) → is_in_ranges (r ∷ q) (b ∷ t) ≡ true → (r.0 ≤ b) × (b ≤ r.1) ×
    (is_in_ranges q t ≡ true)
spelled r q b t e =
    let two = and_parts (nat_le r.0 b && nat_le b r.1) (is_in_ranges q t) e in
    let one = and_parts (nat_le r.0 b) (nat_le b r.1) two.0 in
    (leb-true r.0 b one.0, leb-true b r.1 one.1, two.1)

pub spells : (r : ℕ × ℕ) (q : List (ℕ × ℕ)) (b : ℕ) (t : List ℕ) → r.0 ≤ b → b ≤ r.1 → is_in_ranges q t ≡ true →
    is_in_ranges (r ∷ q) (b ∷ t) ≡ true
spells r q b t l h e =
    and_from (nat_le r.0 b && nat_le b r.1) (is_in_ranges q t) (and_from (nat_le r.0 b) (nat_le b r.1) (le-leb r.0 b l) (le-leb b r.1 h)) e

-- ---- the strings of sequences
pub in_append : (xs ys : List (List (ℕ × ℕ))) (s : List ℕ) → IsInSome (xs ++ ys) s → IsInSome xs s ⊎ IsInSome ys s
in_append [] ys s h = inr h
in_append (x ∷ xs) ys s h = elim h [
  | inl here ↦ inl (inl here)
  | inr later ↦ elim (in_append xs ys s later) [ inl l ↦ inl (inr l) | inr r ↦ inr r ]
]

pub in_left : (xs ys : List (List (ℕ × ℕ))) (s : List ℕ) → IsInSome xs s → IsInSome (xs ++ ys) s
in_left [] ys s h = absurd h
in_left (x ∷ xs) ys s h = elim h [ inl here ↦ inl here | inr later ↦ inr (in_left xs ys s later) ]

pub in_right : (xs ys : List (List (ℕ × ℕ))) (s : List ℕ) → IsInSome ys s → IsInSome (xs ++ ys) s
in_right [] ys s h = h
in_right (x ∷ xs) ys s h = inr (in_right xs ys s h)

pub in_behind : (r : ℕ × ℕ) (qs : List (List (ℕ × ℕ))) (b : ℕ) (t : List ℕ) →
    IsInSome (map (λ q. r ∷ q) qs) (b ∷ t) → (r.0 ≤ b) × (b ≤ r.1) ×
    IsInSome qs t
in_behind r [] b t h = absurd h
in_behind r (q ∷ qs) b t h = elim h [
  | inl here ↦ (let g = spelled r q b t here in (g.0, g.1, inl g.2))
  | inr later ↦ (let g = in_behind r qs b t later in (g.0, g.1, inr g.2))
]

pub behind_in : (r : ℕ × ℕ) (qs : List (List (ℕ × ℕ))) (b : ℕ) (t : List ℕ) → r.0 ≤ b → b ≤ r.1 → IsInSome qs t →
    IsInSome (map (λ q. r ∷ q) qs) (b ∷ t)
behind_in r [] b t l h i = absurd i
behind_in r (q ∷ qs) b t l h i = elim i [ inl here ↦ inl (spells r q b t l h here) | inr later ↦ inr (behind_in r qs b t l h later) ]

pub none_behind : (r : ℕ × ℕ) (qs : List (List (ℕ × ℕ))) → IsInSome (map (λ q. r ∷ q) qs) [] → ⊥
none_behind r [] h = h
none_behind r (q ∷ qs) h = elim h [ inl here ↦ false≢true here | inr later ↦ none_behind r qs later ]

-- ---- the strings of edges
module _ (v : List (List (List (ℕ × ℕ)))) where
  pub in_along : (es : List Edge) (b : ℕ) (t : List ℕ) → IsInSome (along v es) (b ∷ t) → EdgesRead v es b t
  in_along [] b t h = h
  in_along (e ∷ es) b t h = elim (in_append (map (λ q. (e.range.start, e.range.end) ∷ q) (following v e.next)) (along v es) (b ∷ t) h) [
    | inl here ↦ inl (in_behind (e.range.start, e.range.end) (following v e.next) b t here)
    | inr later ↦ inr (in_along es b t later)
  ]

  pub along_in : (es : List Edge) (b : ℕ) (t : List ℕ) → EdgesRead v es b t → IsInSome (along v es) (b ∷ t)
  along_in [] b t h = h
  along_in (e ∷ es) b t h = elim h [
    | inl here ↦ in_left (map (λ q. (e.range.start, e.range.end) ∷ q) (following v e.next)) (along v es) (b ∷ t) (behind_in (
      e.range.start,
      e.range.end,
    ) (following v e.next) b t here.0 here.1 here.2)
    | inr later ↦ in_right (map (λ q. (e.range.start, e.range.end) ∷ q) (following v e.next)) (along v es) (b ∷ t) (along_in es b t later)
  ]

  pub none_along : (es : List Edge) → IsInSome (along v es) [] → ⊥
  none_along [] h = h
  none_along (e ∷ es) h = elim (in_append (map (λ q. (e.range.start, e.range.end) ∷ q) (following v e.next)) (along v es) [] h) [
    | inl here ↦ none_behind (e.range.start, e.range.end) (following v e.next) here
    | inr later ↦ none_along es later
  ]

-- ---- one step of an insertion
module _ (v w : List (List (List (ℕ × ℕ)))) (start stop : ℕ) (rest : List (ℕ × ℕ)) where
  pub steps_only : (ps es : List Edge) (b : ℕ) (t : List ℕ) → AllZip (GainsStrings v w start stop rest) ps es → EdgesRead w es b t →
      EdgesRead v ps b t ⊎ ((start ≤ b) × (b < stop) × (is_in_ranges rest t ≡ true))
  steps_only [] [] b t z h = absurd h
  steps_only [] (e ∷ es) b t z h = absurd z
  steps_only (p ∷ ps) [] b t z h = absurd z
  steps_only (p ∷ ps) (e ∷ es) b t z h = elim h [
    | inl here ↦ (
        let low : p.range.start ≤ b = subst (λ (r : Utf8Range). r.start ≤ b) z.0.0 here.0 in
        let high : b ≤ p.range.end = subst (λ (r : Utf8Range). b ≤ r.end) z.0.0 here.1 in
        elim z.0.1 [
          | inl within ↦ elim (within.1.only t here.2) [
            | inl old ↦ inl (inl (low, high, old))
            | inr new ↦ inr (omega (arith, within.0.0), omega (arith, within.0.1), new)
          ]
          | inr beside ↦ inl (inl (low, high, subst (λ (qs : List (List (ℕ × ℕ))). IsInSome qs t) beside.1 here.2))
        ])
    | inr later ↦ elim (steps_only ps es b t z.1 later) [ inl old ↦ inl (inr old) | inr new ↦ inr new ]
  ]

  pub steps_kept : (ps es : List Edge) (b : ℕ) (t : List ℕ) → AllZip (GainsStrings v w start stop rest) ps es →
      EdgesRead v ps b t → EdgesRead w es b t
  steps_kept [] [] b t z h = absurd h
  steps_kept [] (e ∷ es) b t z h = absurd z
  steps_kept (p ∷ ps) [] b t z h = absurd z
  steps_kept (p ∷ ps) (e ∷ es) b t z h = elim h [
    | inl here ↦ (
        let low : e.range.start ≤ b = subst (λ (r : Utf8Range). r.start ≤ b) (sym z.0.0) here.0 in
        let high : b ≤ e.range.end = subst (λ (r : Utf8Range). b ≤ r.end) (sym z.0.0) here.1 in
        elim z.0.1 [
          | inl within ↦ inl (low, high, within.1.kept t here.2)
          | inr beside ↦ inl (low, high, subst (λ (qs : List (List (ℕ × ℕ))). IsInSome qs t) (sym beside.1) here.2)
        ])
    | inr later ↦ inr (steps_kept ps es b t z.1 later)
  ]

  pub steps_added : (ps es : List Edge) (b : ℕ) (t : List ℕ) → AllZip (GainsStrings v w start stop rest) ps es → HasEdge ps b → start ≤ b →
      b < stop →
      is_in_ranges rest t ≡ true → EdgesRead w es b t
  steps_added [] [] b t z h l g i = absurd h
  steps_added [] (e ∷ es) b t z h l g i = absurd z
  steps_added (p ∷ ps) [] b t z h l g i = absurd z
  steps_added (p ∷ ps) (e ∷ es) b t z h l g i = elim h [
    | inl here ↦ (
        let low : e.range.start ≤ b = subst (λ (r : Utf8Range). r.start ≤ b) (sym z.0.0) here.0 in
        let high : b ≤ e.range.end = subst (λ (r : Utf8Range). b ≤ r.end) (sym z.0.0) here.1 in
        elim z.0.1 [
          | inl within ↦ inl (low, high, within.1.added t i)
          | inr beside ↦ elim beside.0 [ inl before ↦ absurd (omega (arith, here.1)) | inr behind ↦ absurd (omega (arith, here.0)) ]
        ])
    | inr later ↦ inr (steps_added ps es b t z.1 later l g i)
  ]

  pub steps_rise : (low : ℕ) (ps es : List Edge) → AllZip (GainsStrings v w start stop rest) ps es → Rises low ps → Rises low es
  steps_rise low [] [] z r = tt
  steps_rise low [] (e ∷ es) z r = absurd z
  steps_rise low (p ∷ ps) [] z r = absurd z
  steps_rise low (p ∷ ps) (e ∷ es) z r = (
    subst (λ (k : Utf8Range). low ≤ k.start) (sym z.0.0) r.0,
    subst (λ (k : Utf8Range). k.start ≤ k.end) (sym z.0.0) r.1,
    subst (λ (k : Utf8Range). Rises (k.end + 1) es) (sym z.0.0) (steps_rise (p.range.end + 1) ps es z.1 r.2),
  )

  -- more nodes change nothing
  pub steps_later : (x : List (List (List (ℕ × ℕ)))) (ps es : List Edge) → IsLater w x → AreInside (length w) es →
      AllZip (GainsStrings v w start stop rest) ps es → AllZip (GainsStrings v x start stop rest) ps es
  steps_later x [] [] later inside z = z
  steps_later x [] (e ∷ es) later inside z = absurd z
  steps_later x (p ∷ ps) [] later inside z = absurd z
  steps_later x (p ∷ ps) (e ∷ es) later inside z =
      let same : following x e.next ≡ following w e.next = below_same w x (length w) e.next later.same inside.0 in (
        (
          z.0.0,
          elim z.0.1 [
            | inl within ↦ inl (within.0, subst (λ (qs : List (List (ℕ × ℕ))). IsWith (following v p.next) rest qs) (sym same) within.1)
            | inr beside ↦ inr (beside.0, same ∙ beside.1)
          ],
        ),
        steps_later x ps es later inside.1 z.1,
      )
