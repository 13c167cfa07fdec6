-- Dividing the edges of a node at the ends of a range keeps their strings.
use Rattle.std.proofs.Common.{◌≡◌, ◌⊎◌, inl, inr, ℕ, ◌+◌, ◌-◌, ◌<◌, ◌≤◌, List, [], ◌∷◌, ◌++◌, min, max, nat_lt, true, false, arith}
use Rattle.std.proofs.Common.{append-nil, append_assoc}
use Rattle.std.proofs.lemmas.Bool.{cases_lt}
use Rattle.std.proofs.lemmas.Bool.Decides.{nat_tests}
use Rattle.thompson_nfa.specs.declared.range_tries.trie_nodes.Edge.{Edge}
use Rattle.thompson_nfa.specs.declared.range_tries.trie_nodes.Next.{Next}
use Rattle.thompson_nfa.specs.declared.range_tries.trie_nodes.Next.TheVariants.{Nothing}
use Rattle.thompson_nfa.specs.RangeTries.{IsInSome}
use Rattle.thompson_nfa.specs.TrieNodes.{following, IsInside, AreInside, Rises}
use Rattle.thompson_nfa.specs.RangeCovers.{edge_of, piece, cut_edge, cover_from}
use Rattle.thompson_nfa.specs.TrieSteps.{EdgesRead, HasEdge, AreDivided}

-- a piece is one edge, or none
pub piece_cases : (lo hi : ℕ) (n : Next) → ((lo < hi) × (piece lo hi n ≡ edge_of lo (hi - 1) n ∷ [])) ⊎ ((hi ≤ lo) × (piece lo hi n ≡ []))
piece_cases lo hi n = elim (cases_lt lo hi) [
  | inl l ↦ (let e : nat_lt lo hi ≡ true = grind (arith, nat_tests) in inl (l, rw e))
  | inr l ↦ (let e : nat_lt lo hi ≡ false = grind (arith, nat_tests) in inr (l, rw e))
]

-- ---- strings
pub has_append : (v : List (List (List (ℕ × ℕ)))) (xs ys : List Edge) (b : ℕ) (t : List ℕ) →
    EdgesRead v (xs ++ ys) b t → EdgesRead v xs b t ⊎
    EdgesRead v ys b t
has_append v [] ys b t h = inr h
has_append v (x ∷ xs) ys b t h = elim h [
  | inl here ↦ inl (inl here)
  | inr later ↦ elim (has_append v xs ys b t later) [ inl l ↦ inl (inr l) | inr r ↦ inr r ]
]

pub has_left : (v : List (List (List (ℕ × ℕ)))) (xs ys : List Edge) (b : ℕ) (t : List ℕ) → EdgesRead v xs b t → EdgesRead v (xs ++ ys) b t
has_left v [] ys b t h = absurd h
has_left v (x ∷ xs) ys b t h = elim h [ inl here ↦ inl here | inr later ↦ inr (has_left v xs ys b t later) ]

pub has_right : (v : List (List (List (ℕ × ℕ)))) (xs ys : List Edge) (b : ℕ) (t : List ℕ) → EdgesRead v ys b t → EdgesRead v (xs ++ ys) b t
has_right v [] ys b t h = h
has_right v (x ∷ xs) ys b t h = inr (has_right v xs ys b t h)

pub piece_has : (v : List (List (List (ℕ × ℕ)))) (lo hi : ℕ) (n : Next) (b : ℕ) (t : List ℕ) → EdgesRead v (piece lo hi n) b t → (lo ≤ b) ×
    (b < hi) × IsInSome (following v n) t
piece_has v lo hi n b t h = elim (piece_cases lo hi n) [
  | inl c ↦ (let g = rw c.1 at h in elim g [ inl here ↦ (here.0, omega arith, here.2) | inr none ↦ absurd none ])
  | inr c ↦ absurd (rw c.1 at h)
]

pub has_piece : (v : List (List (List (ℕ × ℕ)))) (lo hi : ℕ) (n : Next) (b : ℕ) (t : List ℕ) → lo ≤ b →
    b < hi → IsInSome (following v n) t →
    EdgesRead v (piece lo hi n) b t
has_piece v lo hi n b t l h i = elim (piece_cases lo hi n) [
  | inl c ↦ rw c.1 (inl (l, omega arith, i))
  | inr c ↦ absurd (omega arith)
]

module _ (v : List (List (List (ℕ × ℕ)))) (b : ℕ) (t : List ℕ) (from start stop : ℕ) (ordered : start < stop) (e : Edge) where
  pub cut_has : EdgesRead v (cut_edge from start stop e) b t → (e.range.start ≤ b) × (b ≤ e.range.end) × IsInSome (following v e.next) t
  cut_has h =
      let low = e.range.start in
      let high = e.range.end + 1 in
      let p1 = piece (max from start) (min low stop) Nothing in
      let p2 = piece low (min high start) e.next in
      let p3 = piece (max low start) (min high stop) e.next in
      let p4 = piece (max low stop) high e.next in
      elim (has_append v p1 (p2 ++ (p3 ++ p4)) b t h) [
        | inl a ↦ absurd (piece_has v (max from start) (min low stop) Nothing b t a).2
        | inr r ↦ elim (has_append v p2 (p3 ++ p4) b t r) [
          | inl a ↦ (let g = piece_has v low (min high start) e.next b t a in (g.0, omega arith, g.2))
          | inr s ↦ elim (has_append v p3 p4 b t s) [
            | inl a ↦ (let g = piece_has v (max low start) (min high stop) e.next b t a in (omega arith, omega arith, g.2))
            | inr a ↦ (let g = piece_has v (max low stop) high e.next b t a in (omega arith, omega arith, g.2))
          ]
        ]
      ]

  pub has_cut : e.range.start ≤ b → b ≤ e.range.end → IsInSome (following v e.next) t → EdgesRead v (cut_edge from start stop e) b t
  has_cut l h i =
      let low = e.range.start in
      let high = e.range.end + 1 in
      let p1 = piece (max from start) (min low stop) Nothing in
      let p2 = piece low (min high start) e.next in
      let p3 = piece (max low start) (min high stop) e.next in
      let p4 = piece (max low stop) high e.next in
      has_right v p1 (p2 ++ (p3 ++ p4)) b t (elim (cases_lt b start) [
        | inl a ↦ has_left v p2 (p3 ++ p4) b t (has_piece v low (min high start) e.next b t l (omega arith) i)
        | inr a ↦ has_right v p2 (p3 ++ p4) b t (elim (cases_lt b stop) [
          | inl c ↦ has_left v p3 p4 b t (has_piece v (max low start) (min high stop) e.next b t (omega arith) (omega arith) i)
          | inr c ↦ has_right v p3 p4 b t (has_piece v (max low stop) high e.next b t (omega arith) (omega arith) i)
        ])
      ])

module _ (v : List (List (List (ℕ × ℕ)))) (b : ℕ) (t : List ℕ) (start stop : ℕ) (ordered : start < stop) where
  pub cover_has : (from : ℕ) (es : List Edge) → EdgesRead v (cover_from from start stop es) b t → EdgesRead v es b t
  cover_has from [] h = absurd (piece_has v (max from start) stop Nothing b t h).2
  cover_has from (e ∷ es) h = elim (has_append v (cut_edge from start stop e) (cover_from (e.range.end + 1) start stop es) b t h) [
    | inl a ↦ inl (cut_has v b t from start stop ordered e a)
    | inr r ↦ inr (cover_has (e.range.end + 1) es r)
  ]

  pub has_cover : (from : ℕ) (es : List Edge) → EdgesRead v es b t → EdgesRead v (cover_from from start stop es) b t
  has_cover from [] h = absurd h
  has_cover from (e ∷ es) h = elim h [
    | inl a ↦ has_left v (cut_edge from start stop e) (cover_from (e.range.end + 1) start stop es) b t
        (has_cut v b t from start stop ordered e a.0 a.1 a.2)
    | inr r ↦ has_right v (cut_edge from start stop e) (cover_from (e.range.end + 1) start stop es) b t (has_cover (e.range.end + 1) es r)
  ]

-- ---- each byte of the range has an edge
pub edge_left : (xs ys : List Edge) (b : ℕ) → HasEdge xs b → HasEdge (xs ++ ys) b
edge_left [] ys b h = absurd h
edge_left (x ∷ xs) ys b h = elim h [ inl here ↦ inl here | inr later ↦ inr (edge_left xs ys b later) ]

pub edge_right : (xs ys : List Edge) (b : ℕ) → HasEdge ys b → HasEdge (xs ++ ys) b
edge_right [] ys b h = h
edge_right (x ∷ xs) ys b h = inr (edge_right xs ys b h)

pub edge_piece : (lo hi : ℕ) (n : Next) (b : ℕ) → lo ≤ b → b < hi → HasEdge (piece lo hi n) b
edge_piece lo hi n b l h = elim (piece_cases lo hi n) [
  | inl c ↦ rw c.1 (inl (l, omega arith))
  | inr c ↦ absurd (omega arith)
]

pub edge_cover : (b start stop from : ℕ) (es : List Edge) → start ≤ b → b < stop → from ≤ b → HasEdge (cover_from from start stop es) b
edge_cover b start stop from [] l h g = edge_piece (max from start) stop Nothing b (omega arith) h
edge_cover b start stop from (e ∷ es) l h g =
    let low = e.range.start in
    let high = e.range.end + 1 in
    let p1 = piece (max from start) (min low stop) Nothing in
    let p2 = piece low (min high start) e.next in
    let p3 = piece (max low start) (min high stop) e.next in
    let p4 = piece (max low stop) high e.next in
    let rest = cover_from high start stop es in
    elim (cases_lt b high) [
      | inl a ↦ edge_left (p1 ++ (p2 ++ (p3 ++ p4))) rest b (elim (cases_lt b low) [
        | inl c ↦ edge_left p1 (p2 ++ (p3 ++ p4)) b (edge_piece (max from start) (min low stop) Nothing b (omega arith) (omega arith))
        | inr c ↦ edge_right p1 (p2 ++ (p3 ++ p4)) b (edge_right p2 (p3
            ++ p4) b (edge_left p3 p4 b (edge_piece (max low start) (min high stop) e.next b (omega arith) (omega arith))))
      ])
      | inr a ↦ edge_right (p1 ++ (p2 ++ (p3 ++ p4))) rest b (edge_cover b start stop high es l h a)
    ]

-- ---- each edge lies in the range or outside it
pub divided_append : (start stop : ℕ) (xs ys : List Edge) → AreDivided start stop xs → AreDivided start stop ys →
    AreDivided start stop (xs ++ ys)
divided_append start stop [] ys f g = g
divided_append start stop (x ∷ xs) ys f g = (f.0, divided_append start stop xs ys f.1 g)

pub divided_within : (start stop lo hi : ℕ) (n : Next) → start ≤ lo → hi ≤ stop → AreDivided start stop (piece lo hi n)
divided_within start stop lo hi n l h = elim (piece_cases lo hi n) [
  | inl c ↦ rw c.1 (inl (l, omega arith), tt)
  | inr c ↦ rw c.1 tt
]

pub divided_before : (start stop lo hi : ℕ) (n : Next) → hi ≤ start → AreDivided start stop (piece lo hi n)
divided_before start stop lo hi n h = elim (piece_cases lo hi n) [
  | inl c ↦ rw c.1 (inr (inl (omega arith)), tt)
  | inr c ↦ rw c.1 tt
]

pub divided_behind : (start stop lo hi : ℕ) (n : Next) → stop ≤ lo → AreDivided start stop (piece lo hi n)
divided_behind start stop lo hi n h = elim (piece_cases lo hi n) [
  | inl c ↦ rw c.1 (inr (inr h), tt)
  | inr c ↦ rw c.1 tt
]

pub divided_cover : (start stop from : ℕ) (es : List Edge) → AreDivided start stop (cover_from from start stop es)
divided_cover start stop from [] = divided_within start stop (max from start) stop Nothing (omega arith) (omega arith)
divided_cover start stop from (e ∷ es) =
    let low = e.range.start in
    let high = e.range.end + 1 in
    divided_append start stop (cut_edge from start stop e) (cover_from high start stop es)
    (divided_append start stop (piece (max from start) (min low stop) Nothing) (piece low (min high start) e.next
    ++ (piece (max low start) (min high stop) e.next ++ piece (max low stop) high e.next))
    (divided_within start stop (max from start) (min low stop) Nothing (omega arith) (omega arith))
    (divided_append start stop (piece low (min high start) e.next) (piece (max low start) (min high stop) e.next
    ++ piece (max low stop) high e.next)
    (divided_before start stop low (min high start) e.next (omega arith))
    (divided_append start stop (piece (max low start) (min high stop) e.next) (piece (max low stop) high e.next)
    (divided_within start stop (max low start) (min high stop) e.next (omega arith) (omega arith))
    (divided_behind start stop (max low stop) high e.next (omega arith)))))
    (divided_cover start stop high es)

-- ---- the ranges still rise, and the edges lead to nodes
pub rises_more : (low lower : ℕ) (es : List Edge) → lower ≤ low → Rises low es → Rises lower es
rises_more low lower [] l r = tt
rises_more low lower (e ∷ es) l r = (omega arith, r.1, r.2)

pub rises_piece : (low lo hi behind : ℕ) (n : Next) (rest : List Edge) → low ≤ lo → low ≤ behind → hi ≤ behind → Rises behind rest →
    Rises low (piece lo hi n ++ rest)
rises_piece low lo hi behind n rest a b c r = elim (piece_cases lo hi n) [
  | inl d ↦ rw d.1 (a, omega arith, rises_more behind (hi - 1 + 1) rest (omega arith) r)
  | inr d ↦ rw d.1 (rises_more behind low rest b r)
]

pub rises_cover : (start stop : ℕ) → start < stop → (from : ℕ) (es : List Edge) → Rises from es → Rises from (cover_from from start stop es)
rises_cover start stop ordered from [] r =
    rw append-nil at (rises_piece from (max from start) stop (max from stop) Nothing [] (omega arith) (omega arith) (omega arith) tt)
rises_cover start stop ordered from (e ∷ es) r =
    let low = e.range.start in
    let high = e.range.end + 1 in
    let m1 = min high (max low start) in
    let m2 = min high (max low stop) in
    let p2 = piece low (min high start) e.next in
    let p3 = piece (max low start) (min high stop) e.next in
    let p4 = piece (max low stop) high e.next in
    let rest = cover_from high start stop es in
    let r0 : from ≤ low = r.0 in
    let r1 : low < high = omega (arith, r.1) in
    simp append_assoc (rises_piece from (max from start) (min low stop) low Nothing (p2
    ++ (p3 ++ (p4 ++ rest))) (omega arith) r0 (omega arith)
    (rises_piece low low (min high start) m1 e.next (p3 ++ (p4 ++ rest)) (omega arith) (omega arith) (omega arith)
    (rises_piece m1 (max low start) (min high stop) m2 e.next (p4 ++ rest) (omega arith) (omega arith) (omega arith)
    (rises_piece m2 (max low stop) high high e.next rest (omega arith) (omega arith) (omega arith)
    (rises_cover start stop ordered high es r.2)))))

pub inside_append : (k : ℕ) (xs ys : List Edge) → AreInside k xs → AreInside k ys → AreInside k (xs ++ ys)
inside_append k [] ys f g = g
inside_append k (x ∷ xs) ys f g = (f.0, inside_append k xs ys f.1 g)

pub inside_piece : (k lo hi : ℕ) (n : Next) → IsInside k n → AreInside k (piece lo hi n)
inside_piece k lo hi n i = elim (piece_cases lo hi n) [ inl c ↦ rw c.1 (i, tt) | inr c ↦ rw c.1 tt ]

pub inside_cover : (k start stop from : ℕ) (es : List Edge) → AreInside k es → AreInside k (cover_from from start stop es)
inside_cover k start stop from [] i = inside_piece k (max from start) stop Nothing tt
inside_cover k start stop from (e ∷ es) i =
    let low = e.range.start in
    let high = e.range.end + 1 in
    inside_append k (cut_edge from start stop e) (cover_from high start stop es)
    (inside_append k (piece (max from start) (min low stop) Nothing) (piece low (min high start) e.next
    ++ (piece (max low start) (min high stop) e.next ++ piece (max low stop) high e.next))
    (inside_piece k (max from start) (min low stop) Nothing tt)
    (inside_append k (piece low (min high start) e.next) (piece (max low start) (min high stop) e.next ++ piece (max low stop) high e.next)
    (inside_piece k low (min high start) e.next i.0)
    (inside_append k (piece (max low start) (min high stop) e.next) (piece (max low stop) high e.next)
    (inside_piece k (max low start) (min high stop) e.next i.0)
    (inside_piece k (max low stop) high e.next i.0))))
    (inside_cover k start stop high es i.1)
