-- What a tree means in a haystack that is cut at e, and which ends it prefers there.
use Rattle.std.proofs.Common.{◌≡◌, ℕ, zero, suc, ◌+◌, ◌-◌, ◌<◌, ◌≤◌, leb, Bool, true, false, cond, List, [], ◌∷◌, ◌++◌, length, take, drop}
use Rattle.std.proofs.Common.{slice_get, slice_range, Option, Some, None, inl, inr, refl, sym, ap, ap₂, ◌∙◌, subst, arith, append_assoc}
use Rattle.std.specs.List.{flat_map}
use Rattle.std.proofs.Math.Seq.{take-add}
use Rattle.std.proofs.lemmas.List.{length-take, take_at, drop-take}
use Rattle.std.proofs.lemmas.List.Elements.{filter-append}
use Rattle.std.proofs.lemmas.Option.{slice_get_within}
use Rattle.std.proofs.lemmas.Slice.Eq.{starts_is}
use Rattle.std.proofs.lemmas.Bool.Decides.{Decides-eqb}
use Rattle.search_core.specs.Utf8.{Spells}
use Rattle.search_core.specs.Characters.{character_at, spelling_len}
use Rattle.hir_core.specs.Tree.{Tree, empty, literal, byte_class, char_class, look, repetition, capture, nothing, cat, never, alt}
use Rattle.hir_core.specs.Means.{Looks, Means, Rounds, SpellsMember, stands, is_member}
use Rattle.hir_core.specs.PreferredEnds.{Ends, in_order, up_to, at_least, between, class_end, character_end, preferred_ends, Has}
use Rattle.hir_core.specs.Facts.{minimum_len, IsAboveZero, LoopsRead}
use Rattle.hir_core.proofs.KeptLemmas.{kept, Has-kept, kept_has, kept_short, flat_map_kept, in_order-kept, same_one}
use Rattle.hir_core.proofs.SpanLemmas.{IsSpan-Means, IsSpan-Rounds, span_forward, stands_begin}
use Rattle.hir_core.proofs.PreferredEndsLemmas.{preferred_ends_sound, preferred_ends_complete}
use Rattle.hir_core.proofs.RepetitionLemmas.{up_to_enough, rounds_read}

-- ---- lists that are cut
cut_length : (e : ℕ) (h : List ℕ) → (length (take e h) ≤ e) × (length (take e h) ≤ length h)
cut_length e h = (omega (arith, length-take e h), omega (arith, length-take e h))

cut_twice : (n m : ℕ) (l : List ℕ) → n ≤ m → take n (take m l) ≡ take n l
cut_twice zero m l p = refl
cut_twice (suc n) zero l p = absurd (omega arith)
cut_twice (suc n) (suc m) [] p = refl
cut_twice (suc n) (suc m) (x ∷ l) p = ap (λ t. x ∷ t) (cut_twice n m l (omega arith))

get_cut : (e i : ℕ) (h : List ℕ) → i < e → slice_get (take e h) i ≡ slice_get h i
get_cut zero i h p = absurd (omega arith)
get_cut (suc e) i [] p = refl
get_cut (suc e) zero (x ∷ h) p = refl
get_cut (suc e) (suc i) (x ∷ h) p = get_cut e i h (omega arith)

drop_cut : (e i : ℕ) (h : List ℕ) → i ≤ e → drop i (take e h) ≡ take (e - i) (drop i h)
drop_cut e i h p =
    let sum : e ≡ i + (e - i) = omega arith in
    ap (λ n. drop i (take n h)) sum ∙ drop-take i (e - i) h

rest_cut : (e i : ℕ) (h : List ℕ) → i ≤ e → drop i h ≡ drop i (take e h) ++ drop e h
rest_cut zero zero h p = refl
rest_cut zero (suc i) h p = absurd (omega arith)
rest_cut (suc e) zero [] p = refl
rest_cut (suc e) zero (x ∷ h) p = ap (λ t. x ∷ t) (rest_cut e zero h (omega arith))
rest_cut (suc e) (suc i) [] p = refl
rest_cut (suc e) (suc i) (x ∷ h) p = rest_cut e i h (omega arith)

range_cut : (e i j : ℕ) (h : List ℕ) → i ≤ j → j ≤ e → slice_range (take e h) i j ≡ slice_range h i j
range_cut e i j h p q =
    ap (take (j - i)) (drop_cut e i h (omega arith)) ∙ cut_twice (j - i) (e - i) (drop i h) (omega arith)

begun_stands : (h : List ℕ) (i : ℕ) (bytes rest : List ℕ) → drop i h ≡ bytes ++ rest → stands h i bytes ≡ true
begun_stands h i bytes rest s = (starts_is Decides-eqb (drop i h) bytes (stands h i bytes) refl).1 rest s

stands_whole : (e i : ℕ) (h bytes : List ℕ) → i ≤ e → stands (take e h) i bytes ≡ true → stands h i bytes ≡ true
stands_whole e i h bytes p s =
    let rest = drop (i + length bytes) (take e h) in
    begun_stands h i bytes (rest ++ drop e h)
    (rest_cut e i h p ∙ ap (λ t. t ++ drop e h) (stands_begin (take e h) i bytes s) ∙ append_assoc bytes rest (drop e h))

stands_cut : (e i : ℕ) (h bytes : List ℕ) → i + length bytes ≤ e → stands h i bytes ≡ true → stands (take e h) i bytes ≡ true
stands_cut e i h bytes p s =
    let n = length bytes in
    let rest = drop (i + n) h in
    let sum : e - i ≡ n + (e - i - n) = omega arith in
    begun_stands (take e h) i bytes (take (e - i - n) (drop n (bytes ++ rest)))
    (drop_cut e i h (omega arith)
    ∙ ap (take (e - i)) (stands_begin h i bytes s)
    ∙ ap (λ m. take m (bytes ++ rest)) sum
    ∙ take-add n (e - i - n) (bytes ++ rest)
    ∙ ap (λ t. t ++ take (e - i - n) (drop n (bytes ++ rest))) (take_at bytes rest n refl))

-- ---- the spans
module _ (looks : Looks) (h : List ℕ) (e : ℕ) where
  within_cut : (x : Tree) (i j : ℕ) → i ≤ e → Means looks (take e h) x i j → j ≤ e
  within_cut x i j p m = let span = IsSpan-Means looks (take e h) x i j m in let cut = cut_length e h in omega (arith, span.within, cut.0)

  member_whole : (ranges : List (ℕ × ℕ)) (i j : ℕ) → SpellsMember (take e h) ranges i j → SpellsMember h ranges i j
  member_whole ranges i j m =
      let cut = cut_length e h in
      record {
        scalar = m.scalar;
        forward = m.forward;
        within = omega (arith, m.within, cut.1);
        spells = subst (λ (s : List ℕ). Spells m.scalar s) (range_cut e i j h m.forward (omega (arith, m.within, cut.0))) m.spells;
        member = m.member;
      }

  member_cut : (ranges : List (ℕ × ℕ)) (i j : ℕ) → j ≤ e → SpellsMember h ranges i j → SpellsMember (take e h) ranges i j
  member_cut ranges i j p m = record {
    scalar = m.scalar;
    forward = m.forward;
    within = omega (arith, p, m.within, length-take e h);
    spells = subst (λ (s : List ℕ). Spells m.scalar s) (sym (range_cut e i j h m.forward p)) m.spells;
    member = m.member;
  }

  rounds_whole : (x : Tree) → ((i j : ℕ) → i ≤ e → Means looks (take e h) x i j → Means looks h x i j) →
      (n i j : ℕ) → i ≤ e → Rounds (Means looks (take e h) x) n i j → Rounds (Means looks h x) n i j
  rounds_whole x each zero i j p r = r
  rounds_whole x each (suc n) i j p r =
      (r.0, each i r.0 p r.1, rounds_whole x each n r.0 j (within_cut x i r.0 p r.1) r.2)

  rounds_cut : (x : Tree) → ((i j : ℕ) → j ≤ e → Means looks h x i j → Means looks (take e h) x i j) →
      (n i j : ℕ) → j ≤ e → Rounds (Means looks h x) n i j → Rounds (Means looks (take e h) x) n i j
  rounds_cut x each zero i j p r = r
  rounds_cut x each (suc n) i j p r =
      let others = IsSpan-Rounds h (Means looks h x) (IsSpan-Means looks h x) n r.0 j r.2 in
      (r.0, each i r.0 (omega (arith, others.forward, p)) r.1, rounds_cut x each n r.0 j p r.2)

  means_whole : (x : Tree) (i j : ℕ) → i ≤ e → Means looks (take e h) x i j → Means looks h x i j
  means_whole empty i j p m = m
  means_whole (literal bytes) i j p m = (m.0, stands_whole e i h bytes p m.1)
  means_whole (byte_class ranges) i j p m =
      let inside = slice_get_within (take e h) i m.1 m.2 in
      let cut = cut_length e h in
      (m.0, m.1, sym (get_cut e i h (omega (arith, inside, cut.0))) ∙ m.2, m.3)
  means_whole (char_class ranges) i j p m = member_whole ranges i j m
  means_whole (look l) i j p m = m
  means_whole (repetition low most greedy x) i j p m = (m.0, m.1, m.2, rounds_whole x (means_whole x) m.0 i j p m.3)
  means_whole (capture index name x) i j p m = means_whole x i j p m
  means_whole nothing i j p m = m
  means_whole (cat x y) i j p m =
      (m.0, means_whole x i m.0 p m.1, means_whole y m.0 j (within_cut x i m.0 p m.1) m.2)
  means_whole never i j p m = elim m [ ]
  means_whole (alt x y) i j p (inl m) = inl (means_whole x i j p m)
  means_whole (alt x y) i j p (inr m) = inr (means_whole y i j p m)

  means_cut : (x : Tree) (i j : ℕ) → j ≤ e → Means looks h x i j → Means looks (take e h) x i j
  means_cut empty i j p m = m
  means_cut (literal bytes) i j p m = (m.0, stands_cut e i h bytes (omega (arith, p, m.0)) m.1)
  means_cut (byte_class ranges) i j p m = (m.0, m.1, get_cut e i h (omega (arith, p, m.0)) ∙ m.2, m.3)
  means_cut (char_class ranges) i j p m = member_cut ranges i j p m
  means_cut (look l) i j p m = m
  means_cut (repetition low most greedy x) i j p m = (m.0, m.1, m.2, rounds_cut x (means_cut x) m.0 i j p m.3)
  means_cut (capture index name x) i j p m = means_cut x i j p m
  means_cut nothing i j p m = m
  means_cut (cat x y) i j p m =
      let later = span_forward looks h y m.0 j m.2 in
      (m.0, means_cut x i m.0 (omega (arith, later, p)) m.1, means_cut y m.0 j p m.2)
  means_cut never i j p m = elim m [ ]
  means_cut (alt x y) i j p (inl m) = inl (means_cut x i j p m)
  means_cut (alt x y) i j p (inr m) = inr (means_cut y i j p m)

pub cut_to_whole : (looks : Looks) (h : List ℕ) (e : ℕ) (x : Tree) (i j : ℕ) → i ≤ e → Means looks (take e h) x i j → Means looks h x i j ×
    (j ≤ e)
cut_to_whole looks h e x i j p m = (means_whole looks h e x i j p m, within_cut looks h e x i j p m)

pub whole_to_cut : (looks : Looks) (h : List ℕ) (e : ℕ) (x : Tree) (i j : ℕ) → j ≤ e → Means looks h x i j → Means looks (take e h) x i j
whole_to_cut looks h e x i j p m = means_cut looks h e x i j p m

-- ---- the ends
ends_forward : (looks : Looks) (h : List ℕ) (x : Tree) (i j : ℕ) → Has (preferred_ends looks h x i) j → i ≤ j
ends_forward looks h x i j g = span_forward looks h x i j (preferred_ends_sound looks h x i j g)

one_if : (b : Bool) (k : ℕ) → length (cond b (k ∷ []) []) ≤ 1
one_if true k = omega arith
one_if false k = omega arith

one_byte_end : (ranges : List (ℕ × ℕ)) (o : Option ℕ) (i : ℕ) → length (class_end ranges o i) ≤ 1
one_byte_end ranges None i = omega arith
one_byte_end ranges (Some b) i = one_if (is_member ranges b) (i + 1)

one_character_end : (ranges : List (ℕ × ℕ)) (o : Option ℕ) (i : ℕ) → length (character_end ranges o i) ≤ 1
one_character_end ranges None i = omega arith
one_character_end ranges (Some c) i = one_if (is_member ranges c) (i + spelling_len c)

module _ (looks : Looks) (h : List ℕ) (e : ℕ) where
  abbrev Cuts : Tree → Type 0
  Cuts x = (i : ℕ) → i ≤ e → preferred_ends looks (take e h) x i ≡ kept e (preferred_ends looks h x i)

  -- a tree of one end at most
  leaf_cuts : (x : Tree) (i : ℕ) → i ≤ e → ((g : List ℕ) → length (preferred_ends looks g x i) ≤ 1) →
      preferred_ends looks (take e h) x i ≡ kept e (preferred_ends looks h x i)
  leaf_cuts x i p one =
      same_one (preferred_ends looks (take e h) x i) (kept e (preferred_ends looks h x i)) (one (take e h))
      (omega (arith, one h, kept_short e (preferred_ends looks h x i)))
      (λ j g.
      let m = cut_to_whole looks h e x i j p (preferred_ends_sound looks (take e h) x i j g) in
      kept_has e (preferred_ends looks h x i) j (preferred_ends_complete looks h x i j m.0) m.1)
      (λ j g.
      let k = Has-kept e (preferred_ends looks h x i) j g in
      preferred_ends_complete looks (take e h) x i j (whole_to_cut looks h e x i j k.1 (preferred_ends_sound looks h x i j k.0)))

  -- a tree, and then the ends of g
  then_cuts : (x : Tree) → Cuts x → (f g : Ends) → ((k : ℕ) → k ≤ e → f k ≡ kept e (g k)) → ((k j : ℕ) → Has (g k) j → k ≤ j) →
      (i : ℕ) → i ≤ e → flat_map f (preferred_ends looks (take e h) x i) ≡ kept e (flat_map g (preferred_ends looks h x i))
  then_cuts x cuts f g same forward i p = ap (flat_map f) (cuts i p) ∙ flat_map_kept e f g same forward (preferred_ends looks h x i)

  module _ (greedy : Bool) (x : Tree) (cuts : Cuts x) where
    up_to_cuts : (n i : ℕ) → i ≤ e → up_to greedy (preferred_ends looks (take e h) x) n i ≡ kept e
        (up_to greedy (preferred_ends looks h x) n i)
    up_to_cuts zero i p = in_order-kept e false [] i p
    up_to_cuts (suc n) i p =
        ap (λ more. in_order greedy more i)
        (then_cuts x cuts (up_to greedy (preferred_ends looks (take e h) x) n) (up_to greedy (preferred_ends looks h x) n) (up_to_cuts n)
        (ends_forward looks h (repetition 0 (Some n) greedy x)) i p)
        ∙ in_order-kept e greedy (flat_map (up_to greedy (preferred_ends looks h x) n) (preferred_ends looks h x i)) i p

    between_cuts : (low most i : ℕ) → i ≤ e →
        between greedy (preferred_ends looks (take e h) x) low most i ≡ kept e (between greedy (preferred_ends looks h x) low most i)
    between_cuts zero most i p = up_to_cuts most i p
    between_cuts (suc low) zero i p = refl
    between_cuts (suc low) (suc most) i p =
        then_cuts x cuts (between greedy (preferred_ends looks (take e h) x) low most) (between greedy (preferred_ends looks h x) low most)
        (between_cuts low most) (ends_forward looks h (repetition low (Some most) greedy x)) i p

    -- as many rounds as bytes are left in the whole are enough for what is cut
    at_least_cuts : IsAboveZero (minimum_len x) → (low i : ℕ) → i ≤ e →
        at_least (take e h) greedy (preferred_ends looks (take e h) x) low i ≡ kept e (at_least h greedy (preferred_ends looks h x) low i)
    at_least_cuts a zero i p =
        let cut = cut_length e h in
        up_to_enough (take e h) greedy (preferred_ends looks (take e h) x) (rounds_read looks (take e h) x a) (length (take e h) - i)
        (length h - i) i
        (omega arith) (omega (arith, cut.1))
        ∙ up_to_cuts (length h - i) i p
    at_least_cuts a (suc low) i p =
        then_cuts x cuts (at_least (take e h) greedy (preferred_ends looks (take e h) x) low)
        (at_least h greedy (preferred_ends looks h x) low)
        (at_least_cuts a low) (ends_forward looks h (repetition low None greedy x)) i p

  ends_cut : (x : Tree) → LoopsRead x → Cuts x
  ends_cut empty r i p = leaf_cuts empty i p (λ g. omega arith)
  ends_cut (literal bytes) r i p = leaf_cuts (literal bytes) i p (λ g. one_if (stands g i bytes) (i + length bytes))
  ends_cut (byte_class ranges) r i p = leaf_cuts (byte_class ranges) i p (λ g. one_byte_end ranges (slice_get g i) i)
  ends_cut (char_class ranges) r i p = leaf_cuts (char_class ranges) i p (λ g. one_character_end ranges (character_at g i) i)
  ends_cut (look l) r i p = leaf_cuts (look l) i p (λ g. one_if (looks l i) i)
  ends_cut (repetition low None greedy x) r i p = at_least_cuts greedy x (ends_cut x r.1) r.0 low i p
  ends_cut (repetition low (Some most) greedy x) r i p = between_cuts greedy x (ends_cut x r) low most i p
  ends_cut (capture index name x) r i p = ends_cut x r i p
  ends_cut nothing r i p = leaf_cuts nothing i p (λ g. omega arith)
  ends_cut (cat x y) r i p =
      then_cuts x (ends_cut x r.0) (preferred_ends looks (take e h) y) (preferred_ends looks h y) (ends_cut y r.1)
      (ends_forward looks h y) i p
  ends_cut never r i p = refl
  ends_cut (alt x y) r i p =
      ap₂ (λ (a b : List ℕ). a ++ b) (ends_cut x r.0 i p) (ends_cut y r.1 i p)
      ∙ sym (filter-append (λ j. leb j e) (preferred_ends looks h x i) (preferred_ends looks h y i))

pub cut_ends : (looks : Looks) (h : List ℕ) (e : ℕ) (x : Tree) (i : ℕ) → LoopsRead x → i ≤ e →
    preferred_ends looks (take e h) x i ≡ kept e (preferred_ends looks h x i)
cut_ends looks h e x i r p = ends_cut looks h e x r i p
