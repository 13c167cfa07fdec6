-- Where lists of strings end, one after the other, and matches that are repeated.
use Rattle.std.proofs.Common.{◌≡◌, inl, inr, ℕ, suc, ◌+◌, Bool, true, [], false, List, ◌∷◌, ◌++◌, length, drop, get_or, nat_eq, ◌&&◌, ◌||◌}
use Rattle.std.proofs.Common.{if◌then◌else◌, refl, sym, ap, ◌∙◌, arith, append_assoc, drop-cons, drop_of_length-le}
use Rattle.std.proofs.lemmas.Grind.{common_steps}
use Rattle.std.proofs.lemmas.Option.{slice_get_cases}
use Rattle.std.specs.List.{starts_with}
use Rattle.hir_core.specs.Means.{stands}
use Rattle.nfa_core.specs.Walks.{has, join, distinct}
use Rattle.thompson_nfa.specs.declared.literals.literal_groups.Edge.{Edge}
use Rattle.thompson_nfa.specs.LiteralGroups.{tails, each_after, chunk_strings}
use Rattle.thompson_nfa.specs.LiteralTries.{literal_ends_of, IsLike}

-- ---- ends

pub ends_append : (us vs : List (List ℕ)) (h : List ℕ) (i : ℕ) →
    literal_ends_of (us ++ vs) h i ≡ literal_ends_of us h i ++ literal_ends_of vs h i
ends_append [] vs h i = refl
ends_append (w ∷ us) vs h i =
    let here : List ℕ = if stands h i w then (i + length w) ∷ [] else [] in
    ap (λ (l : List ℕ). here ++ l) (ends_append us vs h i) ∙ sym (append_assoc here (literal_ends_of us h i) (literal_ends_of vs h i))

-- none of the strings is empty
abbrev pub NoneEnds : List (List ℕ) → Type 0
NoneEnds [] = Unit {0}
NoneEnds ([] ∷ ws) = ⊥
NoneEnds ((b ∷ w) ∷ ws) = NoneEnds ws

pub none_end_append : (us vs : List (List ℕ)) → NoneEnds us → NoneEnds vs → NoneEnds (us ++ vs)
none_end_append [] vs a b = b
none_end_append ([] ∷ us) vs a b = absurd a
none_end_append ((c ∷ w) ∷ us) vs a b = none_end_append us vs a b

none_end_behind : (b : ℕ) (ws : List (List ℕ)) → NoneEnds (each_after b ws)
none_end_behind b [] = tt
none_end_behind b (w ∷ ws) = none_end_behind b ws

pub chunk_none_end : (groups : List (List (List ℕ))) (es : List Edge) → NoneEnds (chunk_strings groups es)
chunk_none_end groups [] = tt
chunk_none_end groups (e ∷ es) = none_end_append (each_after e.byte (get_or groups e.next [])) (chunk_strings groups es)
    (none_end_behind e.byte (get_or groups e.next [])) (chunk_none_end groups es)

one_end : (t s : Bool) (i n : ℕ) (w : List ℕ) (rest : List (List ℕ)) (h : List ℕ) (others : List ℕ) → s ≡ stands h (i + 1) w →
    n ≡ length w → others ≡ literal_ends_of rest h (i + 1) →
    (if t && s then (i + suc n) ∷ [] else []) ++ others ≡ literal_ends_of (if t then w ∷ rest else rest) h (i + 1)
one_end true s i n w rest h others e m o =
    let place : i + suc n ≡ i + 1 + length w = omega (arith, m) in
    ap (λ (l : List ℕ). (if s then (i + suc n) ∷ [] else []) ++ l) o
    ∙ ap (λ (k : ℕ). (if s then k ∷ [] else []) ++ literal_ends_of rest h (i + 1)) place
    ∙ ap (λ (b : Bool). (if b then (i + 1 + length w) ∷ [] else []) ++ literal_ends_of rest h (i + 1)) e
one_end false s i n w rest h others e m o = o

ends_at_byte : (ws : List (List ℕ)) (h : List ℕ) (i c : ℕ) → NoneEnds ws → drop i h ≡ c ∷ drop (i + 1) h →
    literal_ends_of ws h i ≡ literal_ends_of (tails c ws) h (i + 1)
ends_at_byte [] h i c none e = refl
ends_at_byte ([] ∷ ws) h i c none e = absurd none
ends_at_byte ((a ∷ w) ∷ ws) h i c none e =
    ap (λ (d : List ℕ). (if starts_with nat_eq d (a ∷ w) then (i + suc (length w)) ∷ [] else []) ++ literal_ends_of ws h i) e
    ∙ one_end (nat_eq a c) (stands h (i + 1) w) i (length w) w (tails c ws) h (literal_ends_of ws h i) refl refl
    (ends_at_byte ws h i c none e)

ends_at_end : (ws : List (List ℕ)) (h : List ℕ) (i : ℕ) → NoneEnds ws → drop i h ≡ [] → literal_ends_of ws h i ≡ []
ends_at_end [] h i none e = refl
ends_at_end ([] ∷ ws) h i none e = absurd none
ends_at_end ((a ∷ w) ∷ ws) h i none e =
    ap (λ (d : List ℕ). (if starts_with nat_eq d (a ∷ w) then (i + suc (length w)) ∷ [] else []) ++ literal_ends_of ws h i) e
    ∙ ends_at_end ws h i none e

-- Lists of strings, none of which is empty, end at the same offsets if the same strings follow each byte in both lists.
pub same_ends : (us vs : List (List ℕ)) → NoneEnds us → NoneEnds vs → ((c : ℕ) → tails c us ≡ tails c vs) → (h : List ℕ) (i : ℕ) →
    literal_ends_of us h i ≡ literal_ends_of vs h i
same_ends us vs a b same h i = elim (slice_get_cases h i).1 [
  | inl x ↦
      let e : drop i h ≡ x.0 ∷ drop (i + 1) h = drop-cons h i x.0 x.1 ∙ ap (λ (c : ℕ). c ∷ drop (suc i) h) x.3
      ∙ ap (λ (k : ℕ). x.0 ∷ drop k h) (let k : suc i ≡ i + 1 = omega arith in k) in
      ends_at_byte us h i x.0 a e ∙ ap (λ (ws : List (List ℕ)). literal_ends_of ws h (i + 1)) (same x.0) ∙ sym (ends_at_byte vs h i x.0 b e)
  | inr o ↦
      let e : drop i h ≡ [] = drop_of_length-le h o.0 in
      ends_at_end us h i a e ∙ sym (ends_at_end vs h i b e)
]

-- ---- repeats

pub join_append : (seen xs ys : List ℕ) → join nat_eq seen (xs ++ ys) ≡ join nat_eq (join nat_eq seen xs) ys
join_append seen [] ys = refl
join_append seen (x ∷ xs) ys = elim (has nat_eq x seen) as
    (λ t. (if t then join nat_eq seen (xs ++ ys) else join nat_eq (seen ++ x ∷ []) (xs ++ ys)) ≡ join nat_eq (if t then join nat_eq seen xs
    else join nat_eq (seen ++ x ∷ []) xs) ys)
    [ true ↦ join_append seen xs ys | false ↦ join_append (seen ++ x ∷ []) xs ys ]

-- what follows may be replaced by what ends at the same offsets
pub like_then : (us vs xs ys : List (List ℕ)) → IsLike us vs → ((h : List ℕ) (i : ℕ) → literal_ends_of xs h i ≡ literal_ends_of ys h i) →
    IsLike (us ++ xs) (vs ++ ys)
like_then us vs xs ys like same h i =
    ap (distinct nat_eq) (ends_append us xs h i) ∙ join_append [] (literal_ends_of us h i) (literal_ends_of xs h i)
    ∙ ap (λ (l : List ℕ). join nat_eq (distinct nat_eq (literal_ends_of us h i)) l) (same h i)
    ∙ ap (λ (l : List ℕ). join nat_eq l (literal_ends_of ys h i)) (like h i)
    ∙ sym (join_append [] (literal_ends_of vs h i) (literal_ends_of ys h i)) ∙ ap (distinct nat_eq) (sym (ends_append vs ys h i))

has_pushed : (x : ℕ) (seen : List ℕ) → has nat_eq x (seen ++ x ∷ []) ≡ true
has_pushed x [] = grind (arith, common_steps)
has_pushed x (y ∷ seen) = elim (nat_eq x y) as (λ t. (t || has nat_eq x (seen ++ x ∷ [])) ≡ true) [
  | true ↦ refl
  | false ↦
      has_pushed x seen
]

join_twice : (x : ℕ) (seen : List ℕ) → join nat_eq seen (x ∷ x ∷ []) ≡ join nat_eq seen (x ∷ [])
join_twice x seen =
    let T : Bool → Type 0 = λ t. (t ≡ has nat_eq x seen) → (if t then join nat_eq seen (x ∷ [])
    else join nat_eq (seen ++ x ∷ []) (x ∷ [])) ≡ (if t then seen else seen ++ x ∷ []) in
    let all : (t : Bool) → T t = λ t. elim t as T [
      | true ↦ λ e. ap (λ (b : Bool). if b then seen else seen ++ x ∷ []) (sym e)
      | false ↦ λ e. ap (λ (b : Bool). if b then seen ++ x ∷ [] else (seen ++ x ∷ []) ++ x ∷ []) (has_pushed x seen)
    ] in
    all (has nat_eq x seen) refl

-- one more match after a match
pub match_twice : (ws : List (List ℕ)) → IsLike ((ws ++ [] ∷ []) ++ [] ∷ []) (ws ++ [] ∷ [])
match_twice ws h i =
    let here : List ℕ = literal_ends_of ([] ∷ []) h i in
    let is : here ≡ (i + 0) ∷ [] = refl in
    ap (distinct nat_eq) (ends_append (ws ++ [] ∷ []) ([] ∷ []) h i ∙ ap (λ (l : List ℕ). l ++ (i + 0) ∷ []) (ends_append ws ([] ∷ []) h i)
    ∙ append_assoc (literal_ends_of ws h i) ((i + 0) ∷ []) ((i + 0) ∷ []))
    ∙ join_append [] (literal_ends_of ws h i) ((i + 0) ∷ (i + 0) ∷ []) ∙ join_twice (i + 0) (distinct nat_eq (literal_ends_of ws h i))
    ∙ sym (join_append [] (literal_ends_of ws h i) ((i + 0) ∷ [])) ∙ ap (distinct nat_eq) (sym (ends_append ws ([] ∷ []) h i))
