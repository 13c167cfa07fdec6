-- The rounds of the loop over a node's strings.
use Rattle.std.proofs.Common.{◌≡◌, ℕ, zero, suc, ◌+◌, ◌≤◌, max, Bool, true, [], false, List, ◌∷◌, ◌++◌, length, take, drop, get_or, ◌==◌}
use Rattle.std.proofs.Common.{if◌then◌else◌, refl, sym, ap, ◌∙◌, subst, arith}
use Rattle.std.proofs.lemmas.Grind.{common_steps}
use denote.Ref.{Bor}
use Rattle.thompson_nfa.specs.declared.literals.literal_groups.Edge.{Edge}
use Rattle.thompson_nfa.specs.LiteralGroups.{texts, run_of, IsChunk, AddsGroups}
use Rattle.thompson_nfa.proofs.LiteralTries.LiteralEndLemmas.{NoneEnds}
use Rattle.thompson_nfa.proofs.LiteralTries.LiteralNodeLemmas.{IsEnded, IsTurn, Listing, chunk_next, match_here, nothing_taken}

-- ---- rounds

run_none : (ws : List (List ℕ)) → NoneEnds (take (run_of ws) ws)
run_none [] = tt
run_none ([] ∷ ws) = tt
run_none ((b ∷ w) ∷ ws) = run_none ws

run_stops : (ws : List (List ℕ)) → IsEnded (drop (run_of ws) ws)
run_stops [] = tt
run_stops ([] ∷ ws) = tt
run_stops ((b ∷ w) ∷ ws) = run_stops ws

run_joined : (ws : List (List ℕ)) (n : ℕ) → take n ws ++ drop n ws ≡ ws
run_joined ws zero = refl
run_joined [] (suc n) = refl
run_joined (w ∷ ws) (suc n) = ap (λ (l : List (List ℕ)). w ∷ l) (run_joined ws n)

texts_take : (n : ℕ) (xs : List (Bor (List ℕ))) → texts (take n xs) ≡ take n (texts xs)
texts_take zero xs = refl
texts_take (suc n) [] = refl
texts_take (suc n) (x ∷ xs) = ap (λ (l : List (List ℕ)). x.now ∷ l) (texts_take n xs)

texts_drop : (n : ℕ) (xs : List (Bor (List ℕ))) → texts (drop n xs) ≡ drop n (texts xs)
texts_drop zero xs = refl
texts_drop (suc n) [] = refl
texts_drop (suc n) (x ∷ xs) = texts_drop n xs

turn_of : (ws : List (List ℕ)) (n : ℕ) → n ≡ max (run_of ws) 1 → IsTurn ws (take n ws) (drop n ws)
turn_of [] n e = record {
  stops = λ b w us f. absurd (nothing_taken n ((b ∷ w) ∷ us) f tt);
  split = run_joined [] n;
  ended = λ us f. absurd (nothing_taken n ([] ∷ us) f tt);
  none_ends = λ b w us f. absurd (nothing_taken n ((b ∷ w) ∷ us) f tt);
}
turn_of ([] ∷ ws) n e =
    let P : ℕ → Type 0 = λ k. IsTurn ([] ∷ ws) (take k ([] ∷ ws)) (drop k ([] ∷ ws)) in
    let one : n ≡ 1 = omega arith in
    subst P (sym one) (record {
      stops = λ b w us f. absurd (cc);
      split = refl;
      ended = λ us f. cc;
      none_ends = λ b w us f. absurd (cc);
    })
turn_of ((a ∷ v) ∷ ws) n e =
    let P : ℕ → Type 0 = λ k. IsTurn ((a ∷ v) ∷ ws) (take k ((a ∷ v) ∷ ws)) (drop k ((a ∷ v) ∷ ws)) in
    let more : n ≡ suc (run_of ws) = omega arith in
    subst P (sym more) (record {
      stops = λ b w us f. run_stops ws;
      split = run_joined ((a ∷ v) ∷ ws) (suc (run_of ws));
      ended = λ us f. absurd (cc);
      none_ends = λ b w us f. run_none ws;
    })

pub turn_at : (all front back : List (Bor (List ℕ))) (n : ℕ) → n ≡ max (run_of (texts all)) 1 → front ≡ take n all → back ≡ drop n all →
    IsTurn (texts all) (texts front) (texts back)
turn_at all front back n e f g =
    let P : List (List ℕ) → Type 0 = λ l. IsTurn (texts all) l (texts back) in
    let Q : List (List ℕ) → Type 0 = λ l. IsTurn (texts all) (take n (texts all)) l in
    subst P (sym (ap texts f ∙ texts_take n all)) (subst Q (sym (ap texts g ∙ texts_drop n all)) (turn_of (texts all) n e))

taken_all : (xs : List (Bor (List ℕ))) (m : ℕ) → m ≡ length xs → take m xs ≡ xs
taken_all [] zero e = refl
taken_all [] (suc m) e = absurd (omega arith)
taken_all (x ∷ xs) zero e = absurd (omega arith)
taken_all (x ∷ xs) (suc m) e = ap (λ (l : List (Bor (List ℕ))). x ∷ l) (taken_all xs m (omega arith))

left_part : (xs : List (Bor (List ℕ))) (n m : ℕ) → m + n ≡ length xs → take m (drop n xs) ≡ drop n xs
left_part xs zero m e = taken_all xs m (omega (arith, e))
left_part [] (suc n) m e = absurd (omega arith)
left_part (x ∷ xs) (suc n) m e = left_part xs n m (omega (arith, e))

text_at : (xs : List (Bor (List ℕ))) (d : Bor (List ℕ)) → 1 ≤ length xs → get_or (texts xs) 0 [] ≡ (get_or xs 0 d).now
text_at [] d l = absurd (omega arith)
text_at (x ∷ xs) d l = refl

no_text : (w : List ℕ) → length w ≡ 0 → w ≡ []
no_text [] e = refl
no_text (a ∷ w) e = absurd (omega arith)

some_text : (w : List ℕ) → (length w ≡ 0 → ⊥) → (a : ℕ) × (v : List ℕ) × (w ≡ a ∷ v)
some_text [] ne = absurd (ne refl)
some_text (a ∷ w) ne = (a, w, refl)

is_some : (n : ℕ) → false ≡ (n == 0) → n ≡ 0 → ⊥
is_some zero e z = absurd (cc)
is_some (suc n) e z = absurd (omega arith)

some_taken : (xs : List (Bor (List ℕ))) (n : ℕ) → 1 ≤ n → 1 ≤ length xs → 1 ≤ length (take n xs)
some_taken [] n a b = absurd (omega arith)
some_taken (x ∷ xs) zero a b = absurd (omega arith)
some_taken (x ∷ xs) (suc n) a b = omega arith

pub texts_long : (xs : List (Bor (List ℕ))) → length (texts xs) ≡ length xs
texts_long [] = refl
texts_long (x ∷ xs) = ap (λ (n : ℕ). suc n) (texts_long xs)

-- ---- rounds of the loop over a node's strings

module _ (first : ℕ) (old new : List (List (List ℕ))) (items : List (List Edge)) (rest : List (Bor (List ℕ))) (matched : Bool)
    (all : List (List ℕ)) (so_far : Listing first old new items (texts rest) matched all)
    (n m : ℕ) (is_turn : n ≡ max (run_of (texts rest)) 1) (some : 1 ≤ length rest) (others : m + n ≡ length rest) (d : Bor (List ℕ)) where
  turn : IsTurn (texts rest) (texts (take n rest)) (texts (take m (drop n rest)))
  turn = turn_at rest (take n rest) (take m (drop n rest)) n is_turn refl (left_part rest n m others)

  here : get_or (texts (take n rest)) 0 [] ≡ (get_or (take n rest) 0 d).now
  here = text_at (take n rest) d (some_taken rest n (omega arith) some)

  one : 1 ≤ length (texts (take n rest))
  one = omega (arith, texts_long (take n rest), some_taken rest n (omega arith) some)

  pub match_turn : (items2 : List (List Edge)) → true ≡ (length (get_or (take n rest) 0 d).now == 0) →
      items2 ≡ (if matched then items else items ++ [] ∷ []) → Listing first old new items2 (texts (take m (drop n rest))) true all
  match_turn items2 empty is =
      match_here first old new items (texts rest) matched all so_far matched refl (texts (take n rest))
      (texts (take m (drop n rest))) items2 turn (here ∙ no_text (get_or (take n rest) 0 d).now (grind (arith, common_steps, empty)))
      one is

  pub chunk_turn : (more : List (List (List ℕ))) (items2 : List (List Edge)) (edges : List Edge) →
      false ≡ (length (get_or (take n rest) 0 d).now == 0) → items2 ≡ items ++ edges ∷ [] →
      AddsGroups new more (length edges) (texts (take n rest)) → ((before : List (List (List ℕ))) → length before ≡ first →
      IsChunk first (before ++ more) edges (texts (take n rest))) →
      Listing first old more items2 (texts (take m (drop n rest))) false all
  chunk_turn more items2 edges ne is adds chunk =
      let w = some_text (get_or (take n rest) 0 d).now (is_some (length (get_or (take n rest) 0 d).now) ne) in
      chunk_next first old new items (texts rest) matched all so_far more items2 edges (texts (take n rest))
      (texts (take m (drop n rest))) turn w.0 w.1 (here ∙ w.2) one is adds chunk
