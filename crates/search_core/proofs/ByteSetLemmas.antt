-- The first byte that passes a test is the first element of the list of all that do, and the bytes after it are the rest of that list.
use Rattle.std.proofs.Common.{◌≡◌, ℕ, zero, suc, ◌+◌, ◌-◌, ◌<◌, ◌≤◌, Bool, true, false, cond, List, [], ◌∷◌, drop, get_or, refl, ap, ◌∙◌}
use Rattle.std.proofs.Common.{subst, Option, Some, None, arith}
use Rattle.std.specs.List.{All, filter, range_with_len, prefix_len}
use Rattle.std.proofs.lemmas.List.Elements.{All-map}
use Rattle.std.proofs.lemmas.List.{get_or-drop}
use Rattle.search_core.specs.ByteSets.{bytes_where, IsFirstWhere, starts_range, range_end, ranges_from}

filter_none : (test : ℕ → Bool) (a n : ℕ) → ((k : ℕ) → a ≤ k → k < a + n → test k ≡ false) → filter test (range_with_len a n) ≡ []
filter_none test a zero h = refl
filter_none test a (suc n) h =
    ap (λ t. cond t (a ∷ filter test (range_with_len (a + 1) n)) (filter test (range_with_len (a + 1) n))) (h a (omega arith) (omega arith))
    ∙ filter_none test (a + 1) n (λ k p q. h k (omega arith) (omega arith))

filter_skip : (test : ℕ → Bool) (a d n : ℕ) → ((k : ℕ) → a ≤ k → k < a + d → test k ≡ false) →
    filter test (range_with_len a (d + n)) ≡ filter test (range_with_len (a + d) n)
filter_skip test a zero n h =
    let e : 0 + n ≡ n = omega arith in
    let f : a ≡ a + 0 = omega arith in
    ap (λ m. filter test (range_with_len a m)) e ∙ ap (λ b. filter test (range_with_len b n)) f
filter_skip test a (suc d) n h =
    let e : suc d + n ≡ suc (d + n) = omega arith in
    let f : (a + 1) + d ≡ a + suc d = omega arith in
    ap (λ m. filter test (range_with_len a m)) e
    ∙ ap (λ t. cond t (a ∷ filter test (range_with_len (a + 1) (d + n))) (filter test (range_with_len (a + 1) (d + n))))
    (h a (omega arith) (omega arith))
    ∙ filter_skip test (a + 1) d n (λ k p q. h k (omega arith) (omega arith))
    ∙ ap (λ b. filter test (range_with_len b n)) f

filter_yes : (test : ℕ → Bool) (a n : ℕ) → test a ≡ true → filter test (range_with_len a (suc n)) ≡ a ∷ filter test
    (range_with_len (a + 1) n)
filter_yes test a n t = ap (λ t. cond t (a ∷ filter test (range_with_len (a + 1) n)) (filter test (range_with_len (a + 1) n))) t

pub bytes_where-none : (test : ℕ → Bool) (from end : ℕ) → ((k : ℕ) → from ≤ k → k < end → test k ≡ false) → bytes_where test from end ≡ []
unfolding bytes_where
bytes_where-none test from end h = filter_none test from (end - from) (λ k p q. h k p (omega arith))

pub bytes_where-first : (test : ℕ → Bool) (from end b : ℕ) → from ≤ b → b < end → test b ≡ true →
    ((k : ℕ) → from ≤ k → k < b → test k ≡ false) →
    bytes_where test from end ≡ b ∷ bytes_where test (b + 1) end
unfolding bytes_where
bytes_where-first test from end b p q t h =
    let d : ℕ = b - from in
    let e : end - from ≡ (b - from) + suc (end - (b + 1)) = omega arith in
    let f : from + (b - from) ≡ b = omega arith in
    ap (λ n. filter test (range_with_len from n)) e
    ∙ filter_skip test from (b - from) (suc (end - (b + 1))) (λ k r s. h k r (omega arith))
    ∙ ap (λ a. filter test (range_with_len a (suc (end - (b + 1))))) f
    ∙ filter_yes test b (end - (b + 1)) t

-- as many as pass from the first on, up to the first that doesn't
prefix_is : (xs : List Bool) (n : ℕ) → ((k : ℕ) → k < n → get_or xs k false ≡ true) → get_or xs n false ≡ false → prefix_len (λ m. m) xs ≡ n
prefix_is [] zero h f = refl
prefix_is [] (suc n) h f = cc (h 0 (omega arith))
prefix_is (x ∷ xs) zero h f = ap (λ t. cond t (1 + prefix_len (λ m. m) xs) 0) f
prefix_is (x ∷ xs) (suc n) h f =
    let e : 1 + n ≡ suc n = omega arith in
    ap (λ t. cond t (1 + prefix_len (λ m. m) xs) 0) (h 0 (omega arith))
    ∙ ap (λ m. 1 + m) (prefix_is xs n (λ k p. h (suc k) (omega arith)) f) ∙ e

pub range_end_is : (set : List Bool) (b e : ℕ) → b ≤ e → ((k : ℕ) → b < k → k ≤ e → get_or set k false ≡ true) →
    get_or set (e + 1) false ≡ false → e ≡ range_end set b
range_end_is set b e p h f =
    let x : (b + 1) + (e - b) ≡ e + 1 = omega arith in
    let n = prefix_is (drop (b + 1) set) (e - b)
    (λ k q. get_or-drop (b + 1) set k false ∙ h ((b + 1) + k) (omega arith) (omega arith))
    (get_or-drop (b + 1) set (e - b) false ∙ ap (λ i. get_or set i false) x ∙ f) in
    omega arith

-- a search that found b, and one that found none
pub bytes_where-some : (test : ℕ → Bool) (from end : ℕ) (r : Option ℕ) (b : ℕ) → r ≡ Some b → IsFirstWhere test from end r →
    bytes_where test from end ≡ b ∷ bytes_where test (b + 1) end
bytes_where-some test from end r b e h =
    let g = subst (λ (o : Option ℕ). IsFirstWhere test from end o) e h in
    bytes_where-first test from end b g.0 g.1 g.2 g.3

pub bytes_where-ended : (test : ℕ → Bool) (from end : ℕ) (r : Option ℕ) → r ≡ None → IsFirstWhere test from end r →
    bytes_where test from end ≡ []
bytes_where-ended test from end r e h =
    let g = subst (λ (o : Option ℕ). IsFirstWhere test from end o) e h in
    bytes_where-none test from end g

-- no range ends before it starts
pub ranges_forward : (set : List Bool) (from : ℕ) → All (λ r. r.0 ≤ r.1) (ranges_from set from)
ranges_forward set from =
    All-map (λ (r : ℕ × ℕ). r.0 ≤ r.1) (λ b. (b, range_end set b)) (bytes_where (starts_range set) from 256) (λ k d h. omega arith)
