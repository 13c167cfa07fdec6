-- A tree with fewer words has a span where the one with all words has one.
use Rattle.std.proofs.Common.{◌≡◌, ◌≤◌, ◌<◌, inl, inr, ℕ, zero, suc, ◌+◌, true, List, [], ◌∷◌, ◌++◌, map, length, get_or, take, drop, Bor}
use Rattle.std.proofs.Common.{slice_get, Some, refl, sym, ap, subst, ◌∙◌, arith, append_assoc, nat_eq}
use Rattle.std.proofs.lemmas.List.{append-nil, take_all, take_more}
use Rattle.std.proofs.lemmas.Option.{none-some, same_Some}
use Rattle.std.proofs.lemmas.List.Sorted.{Contains-permutation, IsPermutation-map, IsPermutation-sym}
use Rattle.std.proofs.lemmas.Bool.Decides.{Decides-eqb}
use Rattle.std.proofs.lemmas.Slice.Eq.{starts_is}
use Rattle.std.specs.List.{Contains, starts_with}
use Rattle.std.specs.List.Sorted.{IsPermutation}
use Rattle.hir_core.specs.Means.{Looks, Means, stands}
use Rattle.hir_core.specs.Tree.{Tree, literal, alternation}
use Rattle.literal_search.specs.Literals.{Listed, ListsPrefix}
use Rattle.line_search.specs.FewerWords.{AreEnoughOf, HasFewerWords}
use Rattle.line_search.specs.Joined.{one_or_all}

-- ---- words that begin with others
prefix_rest : (bytes prefix : List ℕ) → starts_with nat_eq bytes prefix ≡ true → bytes ≡ prefix ++ drop (length prefix) bytes
prefix_rest bytes prefix e = (starts_is Decides-eqb bytes prefix true (sym e)).0 refl

rest_prefix : (bytes prefix rest : List ℕ) → bytes ≡ prefix ++ rest → starts_with nat_eq bytes prefix ≡ true
rest_prefix bytes prefix rest e = (starts_is Decides-eqb bytes prefix (starts_with nat_eq bytes prefix) refl).1 rest e

begins_with_itself : (word : List ℕ) → starts_with nat_eq word word ≡ true
begins_with_itself word = rest_prefix word word [] (sym (append-nil word))

-- the beginning of a word is where the word is
beginning_stands : (h : List ℕ) (i : ℕ) (word start : List ℕ) → stands h i word ≡ true → starts_with nat_eq word start ≡ true →
    stands h i start ≡ true
beginning_stands h i word start there begins =
    let rest : List ℕ = drop (length word) (drop i h) in
    let more : List ℕ = drop (length start) word in
    let parts : word ≡ start ++ more = prefix_rest word start begins in
    rest_prefix (drop i h) start (more ++ rest)
    (prefix_rest (drop i h) word there ∙ ap (λ (t : List ℕ). t ++ rest) parts ∙ append_assoc start more rest)

-- ---- members of lists of words
listed_left : (xs ys : List (List ℕ)) (w : List ℕ) → Listed xs w → Listed (xs ++ ys) w
listed_left [] ys w m = elim m [ ]
listed_left (x ∷ xs) ys w (inl e) = inl e
listed_left (x ∷ xs) ys w (inr m) = inr (listed_left xs ys w m)

listed_last : (xs : List (List ℕ)) (w : List ℕ) → Listed (xs ++ w ∷ []) w
listed_last [] w = inl refl
listed_last (x ∷ xs) w = inr (listed_last xs w)

-- what all members of a list have, and one more, all members of the longer list have
with_last : (P : List ℕ → Type 0) (xs : List (List ℕ)) (v : List ℕ) → ((w : List ℕ) → Listed xs w → P w) → P v →
    (w : List ℕ) → Listed (xs ++ v ∷ []) w → P w
with_last P [] v all last w (inl e) = subst P e last
with_last P [] v all last w (inr none) = elim none [ ]
with_last P (x ∷ xs) v all last w (inl e) = all w (inl e)
with_last P (x ∷ xs) v all last w (inr m) = with_last P xs v (λ u there. all u (inr there)) last w m

contained : (xs : List (List ℕ)) (w : List ℕ) → Listed xs w → Contains xs w
contained [] w m = elim m [ ]
contained (x ∷ xs) w (inl e) = (0, omega arith, e)
contained (x ∷ xs) w (inr m) = let there = contained xs w m in (suc there.0, omega (arith, there.1), there.2)

listed_at : (xs : List (List ℕ)) (w : List ℕ) (k : ℕ) → k < length xs → get_or xs k w ≡ w → Listed xs w
listed_at [] w k within is = absurd (omega (arith, within))
listed_at (x ∷ xs) w zero within is = inl is
listed_at (x ∷ xs) w (suc k) within is = inr (listed_at xs w k (omega (arith, within)) is)

-- another order lists the same words
same_words : (xs ys : List (List ℕ)) (w : List ℕ) → IsPermutation xs ys → Listed xs w → Listed ys w
same_words xs ys w moved m =
    let there = Contains-permutation xs ys w moved (contained xs w m) in
    listed_at ys w there.0 there.1 there.2

-- one more word, which begins with one of those that are kept
enough_same : (words kept : List (List ℕ)) (word : List ℕ) → AreEnoughOf words kept → ListsPrefix kept word →
    AreEnoughOf (words ++ word ∷ []) kept
enough_same words kept word enough begins = record {
  listed = record { keeps = λ w m. listed_left words (word ∷ []) w (enough.listed.keeps w m) };
  begun = record { prefixes = with_last (ListsPrefix kept) words word enough.begun.prefixes begins };
}

-- one more word, which is kept
enough_more : (words kept : List (List ℕ)) (word : List ℕ) → AreEnoughOf words kept → AreEnoughOf (words ++ word ∷ []) (kept ++ word ∷ [])
enough_more words kept word enough = record {
  listed = record {
    keeps = with_last (Listed (words ++ word ∷ [])) kept word (λ w m. listed_left words (word ∷ []) w (enough.listed.keeps w m))
        (listed_last words word);
  };
  begun = record {
    prefixes = with_last (ListsPrefix (kept ++ word ∷ [])) words word
        (λ w m. let was = enough.begun.prefixes w m in
        record { prefix = was.prefix; listed = listed_left kept (word ∷ []) was.prefix was.listed; begins = was.begins })
        (record { prefix = word; listed = listed_last kept word; begins = begins_with_itself word });
  };
}

-- the words are enough in any order
pub enough_moved : (xs ys kept : List (List ℕ)) → IsPermutation xs ys → AreEnoughOf ys kept → AreEnoughOf xs kept
enough_moved xs ys kept moved enough = record {
  listed = record { keeps = λ w m. same_words ys xs w (IsPermutation-sym xs ys moved) (enough.listed.keeps w m) };
  begun = record { prefixes = λ w m. enough.begun.prefixes w (same_words xs ys w moved m) };
}

-- ---- the words that references refer to
abbrev pub words_at : List (Bor (List ℕ)) → List (List ℕ)
words_at = map (λ (t : Bor (List ℕ)). t.now)

words_at-append : (xs ys : List (Bor (List ℕ))) → words_at (xs ++ ys) ≡ words_at xs ++ words_at ys
words_at-append [] ys = refl
words_at-append (x ∷ xs) ys = ap (λ (t : List (List ℕ)). x.now ∷ t) (words_at-append xs ys)

one_taken : (ts : List (Bor (List ℕ))) (n : ℕ) (d : Bor (List ℕ)) → n < length ts →
    words_at (take (n + 1) ts) ≡ words_at (take n ts) ++ (get_or ts n d).now ∷ []
one_taken ts n d below = ap words_at (take_more ts n d below) ∙ words_at-append (take n ts) (get_or ts n d ∷ [])

-- the steps of the loop
pub word_passed : (ts kept ks : List (Bor (List ℕ))) (n : ℕ) (d : Bor (List ℕ)) → n < length ts →
    AreEnoughOf (words_at (take n ts)) (words_at kept) → ks ≡ kept → ListsPrefix (words_at ks) (get_or ts n d).now →
    AreEnoughOf (words_at (take (n + 1) ts)) (words_at kept)
word_passed ts kept ks n d below enough same begins =
    subst (λ (ws : List (List ℕ)). AreEnoughOf ws (words_at kept)) (sym (one_taken ts n d below))
    (enough_same (words_at (take n ts)) (words_at kept) (get_or ts n d).now enough
    (subst (λ (us : List (Bor (List ℕ))). ListsPrefix (words_at us) (get_or ts n d).now) same begins))

pub word_kept : (ts old new : List (Bor (List ℕ))) (n : ℕ) (d : Bor (List ℕ)) → n < length ts →
    AreEnoughOf (words_at (take n ts)) (words_at old) → new ≡ old ++ get_or ts n d ∷ [] →
    AreEnoughOf (words_at (take (n + 1) ts)) (words_at new)
word_kept ts old new n d below enough pushed =
    subst (λ (ws : List (List ℕ)). AreEnoughOf ws (words_at new)) (sym (one_taken ts n d below))
    (subst (AreEnoughOf (words_at (take n ts) ++ (get_or ts n d).now ∷ []))
    (sym (ap words_at pushed ∙ words_at-append old (get_or ts n d ∷ [])))
    (enough_more (words_at (take n ts)) (words_at old) (get_or ts n d).now enough))

-- all words were taken
pub enough_of_all : (ts kept : List (Bor (List ℕ))) (n : ℕ) → length ts ≤ n → AreEnoughOf (words_at (take n ts)) (words_at kept) →
    AreEnoughOf (words_at ts) (words_at kept)
enough_of_all ts kept n all enough =
    subst (λ (t : List (Bor (List ℕ))). AreEnoughOf (words_at t) (words_at kept)) (take_all n ts all) enough

-- the last of the words is one of them
pub last_listed : (ts : List (Bor (List ℕ))) (n : ℕ) (t : Bor (List ℕ)) (word : List ℕ) → slice_get ts n ≡ Some t →
    starts_with nat_eq word t.now ≡ true → ListsPrefix (words_at ts) word
last_listed ts n t word there begins = record { prefix = t.now; listed = at ts n there; begins = begins }
  where
    at : (ts : List (Bor (List ℕ))) (n : ℕ) → slice_get ts n ≡ Some t → Listed (words_at ts) t.now
    at [] n e = absurd (none-some t e)
    at (u ∷ us) zero e = inl (ap (λ (v : Bor (List ℕ)). v.now) (same_Some u t e))
    at (u ∷ us) (suc n) e = inr (at us n e)

pub enough_sorted : (xs ys : List (Bor (List ℕ))) (kept : List (List ℕ)) → IsPermutation xs ys → AreEnoughOf (words_at ys) kept →
    AreEnoughOf (words_at xs) kept
enough_sorted xs ys kept moved = enough_moved (words_at xs) (words_at ys) kept (IsPermutation-map (λ (t : Bor (List ℕ)). t.now) xs ys moved)

trees_of_words : (ts : List (Bor (List ℕ))) → map (λ (w : Bor (List ℕ)). literal w.now) ts ≡ map literal (words_at ts)
trees_of_words [] = refl
trees_of_words (t ∷ ts) = ap (λ (xs : List Tree). literal t.now ∷ xs) (trees_of_words ts)

-- the tree of words that are enough
pub fewer_of : (ts kept ks : List (Bor (List ℕ))) (x : Tree) → AreEnoughOf (words_at ts) (words_at kept) → ks ≡ kept →
    x ≡ one_or_all (map (λ (w : Bor (List ℕ)). literal w.now) ks) →
    HasFewerWords (alternation (map (λ (w : Bor (List ℕ)). literal w.now) ts)) x
fewer_of ts kept ks x enough same is = record {
  words = words_at ts;
  kept = words_at kept;
  of_words = ap alternation (trees_of_words ts);
  of_kept = is ∙ ap one_or_all (trees_of_words ks ∙ ap (λ (us : List (Bor (List ℕ))). map literal (words_at us)) same);
  enough = enough;
}

-- ---- the trees
module _ (looks : Looks) (h : List ℕ) (i : ℕ) where
  -- a span of an alternation of words is one of them
  word_of_span : (ws : List (List ℕ)) (j : ℕ) → Means looks h (alternation (map literal ws)) i j →
      (w : List ℕ) × Listed ws w × (j ≡ i + length w) × (stands h i w ≡ true)
  word_of_span [] j m = elim m [ ]
  word_of_span (w ∷ ws) j (inl m) = (w, inl refl, m.0, m.1)
  word_of_span (w ∷ ws) j (inr m) = let it = word_of_span ws j m in (it.0, inr it.1, it.2, it.3)

  -- and a word that is there is a span
  span_of_word : (ws : List (List ℕ)) (w : List ℕ) → Listed ws w → stands h i w ≡ true →
      Means looks h (alternation (map literal ws)) i (i + length w)
  span_of_word [] w m there = elim m [ ]
  span_of_word (v ∷ ws) w (inl e) there =
      inl (ap (λ (t : List ℕ). i + length t) (sym e), subst (λ (t : List ℕ). stands h i t ≡ true) (sym e) there)
  span_of_word (v ∷ ws) w (inr m) there = inr (span_of_word ws w m there)

  all_of_one : (xs : List Tree) (j : ℕ) → Means looks h (one_or_all xs) i j → Means looks h (alternation xs) i j
  all_of_one [] j m = m
  all_of_one (x ∷ []) j m = inl m
  all_of_one (x ∷ y ∷ xs) j m = m

  one_of_all : (xs : List Tree) (j : ℕ) → Means looks h (alternation xs) i j → Means looks h (one_or_all xs) i j
  one_of_all [] j m = m
  one_of_all (x ∷ []) j (inl m) = m
  one_of_all (x ∷ []) j (inr none) = elim none [ ]
  one_of_all (x ∷ y ∷ xs) j m = m

  -- a span of the tree with fewer words is one of the tree with all of them
  pub span_of_all : (x y : Tree) (j : ℕ) → HasFewerWords x y → Means looks h y i j → Means looks h x i j
  span_of_all x y j fewer m =
      let it = word_of_span fewer.kept j (all_of_one (map literal fewer.kept) j
      (subst (λ (t : Tree). Means looks h t i j) fewer.of_kept m)) in
      subst (λ (t : Tree). Means looks h t i j) (sym fewer.of_words)
      (subst (λ n. Means looks h (alternation (map literal fewer.words)) i n) (sym it.2)
      (span_of_word fewer.words it.0 (fewer.enough.listed.keeps it.0 it.1) it.3))

  -- where a span of the tree with all words starts, one of the tree with fewer words does
  pub span_of_fewer : (x y : Tree) (j : ℕ) → HasFewerWords x y → Means looks h x i j → (k : ℕ) × Means looks h y i k
  span_of_fewer x y j fewer m =
      let it = word_of_span fewer.words j (subst (λ (t : Tree). Means looks h t i j) fewer.of_words m) in
      let start = fewer.enough.begun.prefixes it.0 it.1 in (
        i + length start.prefix,
        subst (λ (t : Tree). Means looks h t i (i + length start.prefix)) (sym fewer.of_kept)
            (one_of_all (map literal fewer.kept) (i + length start.prefix)
            (span_of_word fewer.kept start.prefix start.listed (beginning_stands h i it.0 start.prefix it.3 start.begins))),
      )
