-- A trie with the strings of a class, turned round, emits no more sequences than the class has scalars: the least string of
-- each sequence is a spelling turned round, and no two sequences have one in common.
use Rattle.std.proofs.Common.{◌≡◌, ◌⊎◌, inl, inr, ℕ, zero, suc, ◌+◌, ◌-◌, ◌<◌, ◌≤◌, List, [], ◌∷◌, ◌++◌, map, reverse, length, get_or, drop}
use Rattle.std.proofs.Common.{true, refl, sym, ap, ◌∙◌, arith, subst, length-append}
use Rattle.std.proofs.lemmas.List.{length-map, reverse-reverse}
use Rattle.search_core.specs.Utf8.{Spells}
use Rattle.hir_core.specs.Sequences.{spelling_of, is_in_ranges, utf8_sequences}
use Rattle.hir_core.specs.BySequences.{sequences_of}
use Rattle.hir_core.proofs.ForCallers.{spelled_by}
use Rattle.thompson_nfa.specs.RangeTries.{IsInSome, IsBefore, IsBeforeAll, AreRanges, IsTrie}
use Rattle.thompson_nfa.specs.ClassTries.{turned_round, HasTurned}
use Rattle.thompson_nfa.specs.ScalarCounts.{scalars_in}
use Rattle.thompson_nfa.proofs.Tries.TrieLemmas.{spells, in_append}
use Rattle.thompson_nfa.proofs.Classes.TurnedStrings.{turned_round_in, strings_spell}

-- ---- lists without repeats

-- y is in the list
abbrev pub Among : {A : Type 0} → List A → A → Type 0
Among [] y = ⊥
Among (x ∷ xs) y = (x ≡ y) ⊎ Among xs y

-- none is in the list twice
abbrev pub AreApart : {A : Type 0} → List A → Type 0
AreApart [] = Unit {0}
AreApart (x ∷ xs) = (Among xs x → ⊥) × AreApart xs

pub among_left : {A : Type 0} (xs ys : List A) (z : A) → Among xs z → Among (xs ++ ys) z
among_left [] ys z h = absurd h
among_left (x ∷ xs) ys z h = elim h [ inl here ↦ inl here | inr later ↦ inr (among_left xs ys z later) ]

pub among_right : {A : Type 0} (xs ys : List A) (z : A) → Among ys z → Among (xs ++ ys) z
among_right [] ys z h = h
among_right (x ∷ xs) ys z h = inr (among_right xs ys z h)

pub among_map : {A B : Type 0} (f : A → B) (xs : List A) (x : A) (y : B) → Among xs x → f x ≡ y → Among (map f xs) y
among_map f [] x y h e = absurd h
among_map f (z ∷ xs) x y h e = elim h [ inl here ↦ inl (ap f here ∙ e) | inr later ↦ inr (among_map f xs x y later e) ]

-- the list without the one at this position
abbrev without : {A : Type 0} (ys : List A) (x : A) → Among ys x → List A
without [] x h = []
without (y ∷ ys) x (inl e) = ys
without (y ∷ ys) x (inr h) = y ∷ without ys x h

without_one : {A : Type 0} (ys : List A) (x : A) (h : Among ys x) → length ys ≡ suc (length (without ys x h))
without_one [] x h = absurd h
without_one (y ∷ ys) x (inl e) = refl
without_one (y ∷ ys) x (inr h) = ap suc (without_one ys x h)

there_still : {A : Type 0} (ys : List A) (x : A) (h : Among ys x) (z : A) → Among ys z → (x ≡ z → ⊥) → Among (without ys x h) z
there_still [] x h z k n = absurd h
there_still (y ∷ ys) x (inl e) z (inl f) n = absurd (n (sym e ∙ f))
there_still (y ∷ ys) x (inl e) z (inr k) n = k
there_still (y ∷ ys) x (inr h) z (inl f) n = inl f
there_still (y ∷ ys) x (inr h) z (inr k) n = inr (there_still ys x h z k n)

pub no_more_than : {A : Type 0} (xs ys : List A) → AreApart xs → ((x : A) → Among xs x → Among ys x) → length xs ≤ length ys
no_more_than [] ys a f = omega arith
no_more_than {A} (x ∷ xs) ys a f =
    let here : Among ys x = f x (inl refl) in
    let others : length xs ≤ length (without ys x here) = no_more_than xs (without ys x here) a.1
    (λ z k. there_still ys x here z (f z (inr k)) (λ (e : x ≡ z). a.0 (subst (λ (y : A). Among xs y) (sym e) k))) in
    let one : length ys ≡ suc (length (without ys x here)) = without_one ys x here in
    omega (arith, others, one)

-- ---- the numbers of a class

-- so many consecutive numbers from the first on
abbrev pub numbers_from : ℕ → ℕ → List ℕ
numbers_from first zero = []
numbers_from first (suc n) = first ∷ numbers_from (suc first) n

abbrev pub numbers : List (ℕ × ℕ) → List ℕ
numbers [] = []
numbers (r ∷ rs) = numbers_from r.0 (suc (r.1 - r.0)) ++ numbers rs

so_many_from : (first n : ℕ) → length (numbers_from first n) ≡ n
so_many_from first zero = refl
so_many_from first (suc n) = ap suc (so_many_from (suc first) n)

so_many : (rs : List (ℕ × ℕ)) → length (numbers rs) ≡ scalars_in rs
so_many [] = refl
so_many (r ∷ rs) =
    let sum = length-append (numbers_from r.0 (suc (r.1 - r.0))) (numbers rs) in
    let one = so_many_from r.0 (suc (r.1 - r.0)) in
    let others = so_many rs in
    sum ∙ ap (λ n. n + length (numbers rs)) one ∙ ap (λ n. suc (r.1 - r.0) + n) others

equal_or_above : (a b : ℕ) → a ≤ b → (a ≡ b) ⊎ (suc a ≤ b)
equal_or_above zero zero l = inl refl
equal_or_above zero (suc b) l = inr (omega arith)
equal_or_above (suc a) zero l = absurd (omega (arith, l))
equal_or_above (suc a) (suc b) l = elim (equal_or_above a b (omega (arith, l))) [ inl e ↦ inl (ap suc e) | inr k ↦ inr (omega (arith, k)) ]

number_from : (first n c : ℕ) → first ≤ c → c < first + n → Among (numbers_from first n) c
number_from first zero c l h = absurd (omega (arith, l, h))
number_from first (suc n) c l h = elim (equal_or_above first c l) [
  | inl e ↦ inl e
  | inr k ↦
      inr (number_from (suc first) n c k (omega (arith, h)))
]

-- ---- the strings of a class are spellings of its numbers

pub class_spells : (rs : List (ℕ × ℕ)) (s : List ℕ) → IsInSome (sequences_of rs) s → (c : ℕ) × Among (numbers rs) c × Spells c s
class_spells [] s h = absurd h
class_spells (r ∷ rs) s h = elim (in_append (utf8_sequences r.0 r.1) (sequences_of rs) s h) [
  | inl here ↦
      let p = strings_spell r.0 r.1 s here in (
        p.0,
        among_left (numbers_from r.0 (suc (r.1 - r.0))) (numbers rs) p.0
            (number_from r.0 (suc (r.1 - r.0)) p.0 p.1 (omega (arith, p.1, p.2))),
        p.3,
      )
  | inr later ↦
      let p = class_spells rs s later in
      (p.0, among_right (numbers_from r.0 (suc (r.1 - r.0))) (numbers rs) p.0 p.1, p.2)
]

abbrev turned_spelling : ℕ → List ℕ
turned_spelling c = reverse (spelling_of c)

turned_among : (rs : List (ℕ × ℕ)) (s : List ℕ) → IsInSome (turned_round (sequences_of rs)) s → Among (map turned_spelling (numbers rs)) s
turned_among rs s h =
    let p = class_spells rs (reverse s) (turned_round_in (sequences_of rs) s h) in
    among_map turned_spelling (numbers rs) p.0 s p.1 (ap reverse (spelled_by p.0 (reverse s) p.2) ∙ reverse-reverse s)

-- ---- the least string of each sequence

abbrev pub lowest : List (ℕ × ℕ) → List ℕ
lowest [] = []
lowest (r ∷ q) = r.0 ∷ lowest q

pub lowest_in : (q : List (ℕ × ℕ)) → AreRanges q → is_in_ranges q (lowest q) ≡ true
lowest_in [] a = refl
lowest_in (r ∷ q) a = spells r q r.0 (lowest q) (omega arith) a.0 (lowest_in q a.1)

lowest_apart : (q r : List (ℕ × ℕ)) → AreRanges q → IsBefore q r → lowest q ≡ lowest r → ⊥
lowest_apart [] r a b e = b
lowest_apart (x ∷ q) [] a b e = b
lowest_apart (x ∷ q) (y ∷ r) a (inl l) e =
    let same : x.0 ≡ y.0 = ap (λ (s : List ℕ). get_or s 0 0) e in
    let full = a.0 in
    absurd (omega (arith, same, full, l))
lowest_apart (x ∷ q) (y ∷ r) a (inr b) e = lowest_apart q r a.1 b.1 (ap (λ (s : List ℕ). drop 1 s) e)

no_other : (q : List (ℕ × ℕ)) (qs : List (List (ℕ × ℕ))) → AreRanges q → IsBeforeAll q qs → Among (map lowest qs) (lowest q) → ⊥
no_other q [] a b h = h
no_other q (r ∷ qs) a b h = elim h [ inl here ↦ lowest_apart q r a b.0 (sym here) | inr later ↦ no_other q qs a b.1 later ]

all_apart : (qs : List (List (ℕ × ℕ))) → IsTrie qs → AreApart (map lowest qs)
all_apart [] t = tt
all_apart (q ∷ qs) t = (no_other q qs t.0 t.1, all_apart qs t.2)

lowest_of : (qs : List (List (ℕ × ℕ))) (s : List ℕ) → IsTrie qs → Among (map lowest qs) s → IsInSome qs s
lowest_of [] s t h = h
lowest_of (q ∷ qs) s t h = elim h [
  | inl here ↦ inl (subst (λ (l : List ℕ). is_in_ranges q l ≡ true) here (lowest_in q t.0))
  | inr later ↦ inr (lowest_of qs s t.2 later)
]

-- no more sequences than scalars
pub sequences_counted : (qs : List (List (ℕ × ℕ))) (rs : List (ℕ × ℕ)) → IsTrie qs → HasTurned qs (sequences_of rs) →
    length qs ≤ scalars_in rs
sequences_counted qs rs t h =
    let few : length (map lowest qs) ≤ length (map turned_spelling (numbers rs)) =
    no_more_than (map lowest qs) (map turned_spelling (numbers rs)) (all_apart qs t)
    (λ s k. turned_among rs s (h.only s (lowest_of qs s t k))) in
    let left = length-map qs lowest in
    let right = length-map (numbers rs) turned_spelling in
    let all = so_many rs in
    omega (arith, few, left, right, all)
