-- An insertion, from its steps: the pieces of a node, and the node that is made of what follows them.
use Rattle.std.proofs.Common.{◌≡◌, ◌⊎◌, inl, inr, ℕ, zero, suc, ◌+◌, ◌<◌, ◌≤◌, List, [], ◌∷◌, ◌++◌, map, length, get_or, take, true, Result}
use Rattle.std.proofs.Common.{Ok, Err, IfOk, refl, sym, ap, ◌∙◌, arith, subst, length-append}
use Rattle.std.proofs.lemmas.Bool.{false≢true}
use Rattle.std.specs.List.{AllZip}
use Rattle.std.specs.declared.alloc.AllocError.{AllocError}
use Rattle.hir_core.specs.Sequences.{is_in_ranges, bytes_of}
use Rattle.hir_core.specs.declared.utf8_sequences.Utf8Range.{Utf8Range}
use Rattle.thompson_nfa.specs.declared.range_tries.trie_nodes.Edge.{Edge}
use Rattle.thompson_nfa.specs.declared.range_tries.trie_nodes.Next.{Next}
use Rattle.thompson_nfa.specs.declared.range_tries.trie_nodes.Next.TheVariants.{Node}
use Rattle.thompson_nfa.specs.RangeTries.{IsInSome, IsApart, IsWith, AreRanges}
use Rattle.thompson_nfa.specs.TrieNodes.{following, along, IsInside, AreInside, Rises, IsLater}
use Rattle.thompson_nfa.specs.RangeCovers.{cover_from}
use Rattle.thompson_nfa.specs.TrieSteps.{EdgesRead, LiesWithin, IsOutsideOf, AreDivided, IsCover, GainsStrings}
use Rattle.thompson_nfa.proofs.Tries.NodeLemmas.{are_inside_more, inside_more, below_same}
use Rattle.thompson_nfa.proofs.Tries.CoverLemmas.{cover_has, has_cover, edge_cover, divided_cover, rises_cover, inside_cover, inside_append}
use Rattle.thompson_nfa.proofs.Tries.TrieLemmas.{steps_rise, spells, spelled, in_along, along_in, none_along, steps_only, steps_kept}
use Rattle.thompson_nfa.proofs.Tries.TrieLemmas.{steps_added, steps_later}
use Rattle.std.proofs.lemmas.List.Elements.{all_zip_more}
use Rattle.std.proofs.lemmas.List.{get_or_append_left, take_all}
use Rattle.std.proofs.Math.Seq.{get_or-append_seam}
use Rattle.thompson_nfa.proofs.Tries.EmptyString.{empty_alone}

-- ---- the pieces of what follows
module _ (v : List (List (List (ℕ × ℕ)))) (start end : ℕ) (ordered : start ≤ end) (pieces : List Edge) where
  pub cover_of_edges : (next : Next) (es : List Edge) → pieces ≡ cover_from 0 start (end + 1) es → Rises 0 es → AreInside (length v) es →
      ((b : ℕ) (t : List ℕ) → EdgesRead v es b t → IsInSome (following v next) (b ∷ t)) →
      ((b : ℕ) (t : List ℕ) → IsInSome (following v next) (b ∷ t) → EdgesRead v es b t) →
      IsCover v next start (end + 1) pieces
  cover_of_edges next es e rising inside only kept = rw e (record {
    rising = rises_cover start (end + 1) (omega arith) 0 es rising;
    inside = inside_cover (length v) start (end + 1) 0 es inside;
    divided = divided_cover start (end + 1) 0 es;
    covered = λ b l h. edge_cover b start (end + 1) 0 es l h (omega arith);
    only = λ b t h. only b t (cover_has v b t start (end + 1) (omega arith) 0 es h);
    kept = λ b t h. has_cover v b t start (end + 1) (omega arith) 0 es (kept b t h);
  })

  pub cover_of_node : (n : ℕ) (es : List Edge) → pieces ≡ cover_from 0 start (end + 1) es → along v es ≡ get_or v n [] → AreInside n es →
      n < length v → Rises 0 es →
      IsCover v (Node n) start (end + 1) pieces
  cover_of_node n es e emits inside l rising =
      cover_of_edges (Node n) es e rising (are_inside_more n (length v) es (omega arith) inside)
      (λ b t h. subst (λ (qs : List (List (ℕ × ℕ))). IsInSome qs (b ∷ t)) emits (along_in v es b t h))
      (λ b t h. in_along v es b t (subst (λ (qs : List (List (ℕ × ℕ))). IsInSome qs (b ∷ t)) (sym emits) h))

-- ---- a string of the ranges
abbrev pub witness : List (ℕ × ℕ) → List ℕ
witness [] = []
witness (r ∷ rs) = r.0 ∷ witness rs

pub witness_spelled : (rs : List (ℕ × ℕ)) → AreRanges rs → is_in_ranges rs (witness rs) ≡ true
witness_spelled [] ok = refl
witness_spelled (r ∷ rs) ok = spells r rs r.0 (witness rs) (omega arith) ok.0 (witness_spelled rs ok.1)

-- ---- the ranges that are left stay apart from what follows a piece in the first one
pub has_at : (v : List (List (List (ℕ × ℕ)))) (es : List Edge) (i : ℕ) (e : Edge) (b : ℕ) (t : List ℕ) → i < length es → e ≡ get_or es i e →
    e.range.start ≤ b → b ≤ e.range.end → IsInSome (following v e.next) t → EdgesRead v es b t
has_at v [] i e b t l at low high h = absurd (omega arith)
has_at v (x ∷ es) zero e b t l at low high h = inl (rw (← at) (low, high, h))
has_at v (x ∷ es) (suc i) e b t l at low high h = inr (has_at v es i e b t (omega arith) at low high h)

pub range_at : (low : ℕ) (es : List Edge) (i : ℕ) (e : Edge) → i < length es → e ≡ get_or es i e → Rises low es →
    e.range.start ≤ e.range.end
range_at low [] i e l at r = absurd (omega arith)
range_at low (x ∷ es) zero e l at r = subst (λ (y : Edge). y.range.start ≤ y.range.end) (sym at) r.1
range_at low (x ∷ es) (suc i) e l at r = range_at (x.range.end + 1) es i e (omega arith) at r.2

pub next_at : (k : ℕ) (es : List Edge) (i : ℕ) (e : Edge) → i < length es → e ≡ get_or es i e → AreInside k es → IsInside k e.next
next_at k [] i e l at r = absurd (omega arith)
next_at k (x ∷ es) zero e l at r = subst (λ (y : Edge). IsInside k y.next) (sym at) r.0
next_at k (x ∷ es) (suc i) e l at r = next_at k es i e (omega arith) at r.1

pub divided_at : (start stop : ℕ) (es : List Edge) (i : ℕ) (e : Edge) → i < length es → e ≡ get_or es i e → AreDivided start stop es →
    LiesWithin start stop e ⊎ IsOutsideOf start stop e
divided_at start stop [] i e l at r = absurd (omega arith)
divided_at start stop (x ∷ es) zero e l at r = subst (λ (y : Edge). LiesWithin start stop y ⊎ IsOutsideOf start stop y) (sym at) r.0
divided_at start stop (x ∷ es) (suc i) e l at r = divided_at start stop es i e (omega arith) at r.1

cons≢nil : {x : ℕ} {xs : List ℕ} → x ∷ xs ≡ [] → ⊥
cons≢nil e = cc

module _ (v : List (List (List (ℕ × ℕ)))) (next : Next) (first : ℕ × ℕ) (rest : List (ℕ × ℕ)) (pieces : List Edge)
    (cover : IsCover v next first.0 (first.1 + 1) pieces) (apart : IsApart (following v next) (first ∷ rest)) where
  pub apart_below : (i : ℕ) (p : Edge) → i < length pieces → p ≡ get_or pieces i p → LiesWithin first.0 (first.1 + 1) p →
      IsApart (following v p.next) rest
  apart_below i p l at within =
      let b = p.range.start in
      let some = range_at 0 pieces i p l at cover.rising in
      record {
        short = λ s more old new.
            apart.short (b ∷ s) more (cover.only b s (has_at v pieces i p b s l at (omega arith) some old))
            (spells first rest b (s ++ more) within.0 (omega (arith, within.1, some)) new);
        long = λ s more new old.
            apart.long (b ∷ s) more (spells first rest b s within.0 (omega (arith, within.1, some)) new)
            (cover.only b (s ++ more) (has_at v pieces i p b (s ++ more) l at (omega arith) some old));
      }

  -- ---- the edges of the new node have the strings
  pub with_steps : (w : List (List (List (ℕ × ℕ)))) (es : List Edge) → AreRanges (first ∷ rest) →
      AllZip (GainsStrings v w first.0 (first.1 + 1) rest) pieces es →
      IsWith (following v next) (first ∷ rest) (along w es)
  with_steps w es ok z = record {
    only = λ s h. only s h;
    kept = λ s h. kept s h;
    added = λ s h. added s h;
  }
    where
      only : (s : List ℕ) → IsInSome (along w es) s → IsInSome (following v next) s ⊎ (is_in_ranges (first ∷ rest) s ≡ true)
      only [] h = absurd (none_along w es h)
      only (b ∷ t) h = elim (steps_only v w first.0 (first.1 + 1) rest pieces es b t z (in_along w es b t h)) [
        | inl old ↦ inl (cover.only b t old)
        | inr new ↦ inr (spells first rest b t new.0 (omega (arith, new.1)) new.2)
      ]

      kept : (s : List ℕ) → IsInSome (following v next) s → IsInSome (along w es) s
      kept [] h = absurd (cons≢nil (apart.short [] (witness (first ∷ rest)) h (witness_spelled (first ∷ rest) ok)))
      kept (b ∷ t) h = along_in w es b t (steps_kept v w first.0 (first.1 + 1) rest pieces es b t z (cover.kept b t h))

      added : (s : List ℕ) → is_in_ranges (first ∷ rest) s ≡ true → IsInSome (along w es) s
      added [] h = absurd (false≢true h)
      added (b ∷ t) h =
          let g = spelled first rest b t h in
          along_in w es b t (steps_added v w first.0 (first.1 + 1) rest pieces es b t z (cover.covered b g.0 (omega (arith, g.1))) g.0
          (omega (arith, g.1)) g.2)

-- ---- the loop over the pieces
-- the first pieces are done: an edge stands for each of them
pub record IsInserting (v w : List (List (List (ℕ × ℕ)))) (start stop : ℕ) (rest : List (ℕ × ℕ)) (ps es : List Edge) : Type 0 where
  pub later : IsLater v w
  pub inside : AreInside (length w) es
  pub steps : AllZip (GainsStrings v w start stop rest) ps es

pub later_itself : (v : List (List (List (ℕ × ℕ)))) → IsLater v v
later_itself v = record { len = omega arith; same = λ i l. refl }

pub later_more : (u v w : List (List (List (ℕ × ℕ)))) → IsLater u v → IsLater v w → IsLater u w
later_more u v w f g =
    let a : length u ≤ length v = f.len in
    let b : length v ≤ length w = g.len in
    record { len = omega arith; same = λ i l. g.same i (omega arith) ∙ f.same i l }

pub later_push : (v : List (List (List (ℕ × ℕ)))) (x : List (List (ℕ × ℕ))) (w : List (List (List (ℕ × ℕ)))) → w ≡ v ++ x ∷ [] → IsLater v w
later_push v x w e = rw e (record { len = omega (arith, length-append v (x ∷ [])); same = λ i l. get_or_append_left v (x ∷ []) [] i l })

module _ (v w x : List (List (List (ℕ × ℕ)))) (start stop : ℕ) (rest : List (ℕ × ℕ)) (ps es : List Edge) (i : ℕ) (p e : Edge)
    (l : i < length ps) (at : p ≡ get_or ps i p)
    (here : IsInserting v w start stop rest (take i ps) es) (later : IsLater w x) where
  pub inserting_more : GainsStrings v x start stop rest p e → IsInside (length x) e.next →
      IsInserting v x start stop rest (take (i + 1) ps) (es ++ e ∷ [])
  inserting_more step inside = record {
    later = later_more v w x here.later later;
    inside = inside_append (length x) es (e ∷ []) (are_inside_more (length w) (length x) es later.len here.inside) (inside, tt);
    steps = all_zip_more (GainsStrings v x start stop rest) ps es i p e l at
        (steps_later v w start stop rest x (take i ps) es later here.inside here.steps) step;
  }

  module _ (inside : AreInside (length v) ps) where
    pub next_kept : following w p.next ≡ following v p.next
    next_kept = below_same v w (length v) p.next here.later.same (next_at (length v) ps i p l at inside)

    -- a piece in the range, with what was made of what follows it
    pub inserting_within : (n : Next) → e ≡ record { range = p.range; next = n } → LiesWithin start stop p → IsInside (length x) n →
        IsWith (following w p.next) rest (following x n) →
        IsInserting v x start stop rest (take (i + 1) ps) (es ++ e ∷ [])
    inserting_within n is within inner more =
        inserting_more (
          ap (λ y. y.range) is,
          inl (
            within,
            subst (λ (qs : List (List (ℕ × ℕ))). IsWith (following v p.next) rest qs) (ap (λ y. following x y.next) (sym is))
                (subst (λ (qs : List (List (ℕ × ℕ))). IsWith qs rest (following x n)) next_kept more),
          ),
        )
        (subst (λ (y : Edge). IsInside (length x) y.next) (sym is) inner)

    -- a piece that is not in the range
    pub inserting_beside : e ≡ p → x ≡ w → AreDivided start stop ps → (LiesWithin start stop p → ⊥) →
        IsInserting v x start stop rest (take (i + 1) ps) (es ++ e ∷ [])
    inserting_beside is same divided out =
        let beside : IsOutsideOf start stop p = elim (divided_at start stop ps i p l at divided) [ inl h ↦ absurd (out h) | inr h ↦ h ] in
        let inner : IsInside (length w) p.next = inside_more (length v) (length w) p.next here.later.len
        (next_at (length v) ps i p l at inside) in
        inserting_more
        (ap (λ y. y.range) is, inr (beside, ap (λ y. following x y.next) is ∙ ap (λ y. following y p.next) same ∙ next_kept))
        (subst (λ (y : Edge). IsInside (length x) y.next) (sym is) (inside_more (length w) (length x) p.next later.len inner))

-- ---- what the code does at its end
pub with_none : (qs : List (List (ℕ × ℕ))) (rs : List Utf8Range) → rs ≡ [] → IsApart qs (map bytes_of rs) →
    IsWith qs (map bytes_of rs) ([] ∷ [])
with_none qs rs e apart =
    subst (λ (x : List Utf8Range). IsWith qs (map bytes_of x) ([] ∷ [])) (sym e)
    (empty_alone qs (subst (λ (x : List Utf8Range). IsApart qs (map bytes_of x)) e apart))

module _ (v w x : List (List (List (ℕ × ℕ)))) (next made : Next) (rs rest : List Utf8Range) (first : Utf8Range) (e : rs ≡ first ∷ rest)
    (pieces edges : List Edge)
    (cover : IsCover v next first.start (first.end + 1) pieces) (apart : IsApart (following v next) (map bytes_of rs))
    (ok : AreRanges (map bytes_of rs)) where
  first_apart : IsApart (following v next) ((first.start, first.end) ∷ map bytes_of rest)
  first_apart = subst (λ (y : List Utf8Range). IsApart (following v next) (map bytes_of y)) e apart

  pub first_ok : AreRanges ((first.start, first.end) ∷ map bytes_of rest)
  first_ok = subst (λ (y : List Utf8Range). AreRanges (map bytes_of y)) e ok

  pub rest_apart : (i : ℕ) (p : Edge) → i < length pieces → p ≡ get_or pieces i p → LiesWithin first.start (first.end + 1) p →
      following w p.next ≡ following v p.next →
      IsApart (following w p.next) (map bytes_of rest)
  rest_apart i p l at within same =
      subst (λ (qs : List (List (ℕ × ℕ))). IsApart qs (map bytes_of rest)) (sym same)
      (apart_below v next (first.start, first.end) (map bytes_of rest) pieces cover first_apart i p l at within)

  module _ (n : ℕ) (here : IsInserting v w first.start (first.end + 1) (map bytes_of rest) (take n pieces) edges)
      (whole : length pieces ≤ n) where
    all_steps : AllZip (GainsStrings v w first.start (first.end + 1) (map bytes_of rest)) pieces edges
    all_steps = subst (λ (ps : List Edge). AllZip (GainsStrings v w first.start (first.end + 1) (map bytes_of rest)) ps edges)
        (take_all n pieces whole) here.steps

    pub edges_rise : Rises 0 edges
    edges_rise = steps_rise v w first.start (first.end + 1) (map bytes_of rest) 0 pieces edges all_steps cover.rising

    pub with_pushed : made ≡ Node (length w) → x ≡ w ++ along w edges ∷ [] → IsWith (following v next) (map bytes_of rs) (following x made)
    with_pushed a b =
        let emits : along w edges ≡ following x made = sym (ap (λ m. following x m) a ∙ ap (λ y. get_or y (length w) []) b
        ∙ get_or-append_seam w (along w edges) [] []) in
        subst (λ (y : List Utf8Range). IsWith (following v next) (map bytes_of y) (following x made)) (sym e)
        (subst (λ (qs : List (List (ℕ × ℕ))). IsWith (following v next) ((first.start, first.end) ∷ map bytes_of rest) qs) emits
        (with_steps v next (first.start, first.end) (map bytes_of rest) pieces cover first_apart w edges first_ok all_steps))

-- ---- reads of a list
pub read_itself : {A : Type 0} → (xs : List A) (i : ℕ) (d : A) → i < length xs → get_or xs i d ≡ get_or xs i (get_or xs i d)
read_itself [] i d l = absurd (omega arith)
read_itself (x ∷ xs) zero d l = refl
read_itself (x ∷ xs) (suc i) d l = read_itself xs i d (omega arith)

pub nil_of_length : {A : Type 0} → (xs : List A) → length xs ≡ 0 → xs ≡ []
nil_of_length [] e = refl
nil_of_length (x ∷ xs) e = absurd (omega arith)

-- what the call that makes the node returns
pub with_pushed_if : (v w x : List (List (List (ℕ × ℕ)))) (next : Next) (rs rest : List Utf8Range) (first : Utf8Range)
    (e : rs ≡ first ∷ rest) (pieces edges : List Edge) →
    IsCover v next first.start (first.end + 1) pieces → IsApart (following v next) (map bytes_of rs) →
    AreRanges (map bytes_of rs) → (n : ℕ) →
    IsInserting v w first.start (first.end + 1) (map bytes_of rest) (take n pieces) edges → length pieces ≤ n →
    (made : Result Next AllocError) →
    IfOk made (λ m. m ≡ Node (length w)) → IfOk made (λ _. x ≡ w ++ along w edges ∷ []) →
    IfOk made (λ m. IsWith (following v next) (map bytes_of rs) (following x m))
with_pushed_if v w x next rs rest first e pieces edges cover apart ok n here whole (Ok m) a b =
    with_pushed v w x next m rs rest first e pieces edges cover apart ok n here whole a b
with_pushed_if v w x next rs rest first e pieces edges cover apart ok n here whole (Err m) a b = tt
