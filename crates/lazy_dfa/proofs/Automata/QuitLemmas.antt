-- Sets of bytes that are made or read byte by byte.
use Rattle.std.proofs.Common.{◌≡◌, ◌≢◌, ℕ, zero, suc, ◌+◌, ◌-◌, ◌<◌, ◌≤◌, Bool, true, false, ◌||◌, ◌&&◌, List, ◌∷◌, length, get_or, set, []}
use Rattle.std.proofs.Common.{map, nat_le, refl, sym, ap, ◌∙◌, ⊎_elim, arith, length-set, get_or-set_same, get_or-set_other}
use Rattle.std.proofs.lemmas.Bool.{cases_eq, le-leb, or_right}
use Rattle.std.proofs.lemmas.Bool.Decides.{leb_tells}
use Rattle.std.specs.List.{range_with_len, list_all}
use Rattle.search_core.specs.ByteSets.{has}
use Rattle.lazy_dfa.specs.Quits.{with_high_bytes, has_high_bytes}

-- a list by its elements
by_elements : (f : ℕ → Bool) (a n : ℕ) (xs : List Bool) → length xs ≡ n → ((k : ℕ) → k < n → get_or xs k false ≡ f (a + k)) →
    xs ≡ map f (range_with_len a n)
by_elements f a zero [] e g = refl
by_elements f a zero (x ∷ xs) e g = absurd (omega (arith, e))
by_elements f a (suc n) [] e g = absurd (omega (arith, e))
by_elements f a (suc n) (x ∷ xs) e g =
    let here : a + 0 ≡ a = omega arith in
    let head : x ≡ f a = g 0 (omega arith) ∙ ap f here in
    let rest : xs ≡ map f (range_with_len (a + 1) n) =
    by_elements f (a + 1) n xs (omega (arith, e)) (λ k l. let there : a + suc k ≡ a + 1 + k = omega arith in
    g (suc k) (omega (arith, l)) ∙ ap f there) in
    ap (λ (y : Bool). y ∷ xs) head ∙ ap (λ (ys : List Bool). f a ∷ ys) rest

-- whether the byte should be in the set
abbrev pub is_wanted : List Bool → ℕ → Bool
is_wanted set b = has set b || nat_le 0x80 b

pub wanted_by_set : (set : List Bool) (b : ℕ) → has set b ≡ true → is_wanted set b ≡ true
wanted_by_set set b e = ap (λ (x : Bool). x || nat_le 0x80 b) e

pub wanted_high : (set : List Bool) (b : ℕ) → 0x80 ≤ b → is_wanted set b ≡ true
wanted_high set b l = or_right (has set b) (nat_le 0x80 b) (le-leb 0x80 b l)

pub unwanted : (set : List Bool) (b : ℕ) → has set b ≡ false → b < 0x80 → is_wanted set b ≡ false
unwanted set b e l = ap (λ (x : Bool). x || nat_le 0x80 b) e ∙ ⊎_elim (λ reported. let up = reported.1 in
    absurd (omega (arith, l, up))) (λ reported. reported.0) (leb_tells 0x80 b)

-- the first n bytes are settled, and the others aren't in the set
pub record IsSettled (set : List Bool) (made : List Bool) (n : ℕ) : Type 0 where
  pub len : length made ≡ 256
  pub done : (k : ℕ) → k < n → has made k ≡ is_wanted set k
  pub rest : (k : ℕ) → n ≤ k → k < 256 → has made k ≡ false

pub settled_all : (set made : List Bool) → IsSettled set made 256 → made ≡ with_high_bytes set
unfolding with_high_bytes
settled_all set made i = by_elements (is_wanted set) 0 256 made i.len (λ k l. let e : k ≡ 0 + k = omega arith in
    i.done k l ∙ ap (is_wanted set) e)

pub settled_none : (set made : List Bool) → length made ≡ 256 → ((b : ℕ) → b < 256 → has made b ≡ false) → IsSettled set made 0
settled_none set made e f = record { len = e; done = λ k l. absurd (omega (arith, l)); rest = λ k l m. f k m }

pub settled_in : (xs made : List Bool) (n : ℕ) → n < 256 → is_wanted xs n ≡ true → IsSettled xs made n →
    IsSettled xs (set made n true) (n + 1)
settled_in xs made n small want i = record {
  len = length-set made n true ∙ i.len;
  done = λ k l. ⊎_elim
      (λ (e : k ≡ n). ap (λ (m : ℕ). get_or (set made n true) m false) e
      ∙ (get_or-set_same made n true false (rw i.len small) ∙ (sym want ∙ ap (is_wanted xs) (sym e))))
      (λ (ne : k ≢ n). get_or-set_other made n k true false ne ∙ i.done k (omega (arith, l, ne)))
      (cases_eq k n);
  rest = λ k l m. get_or-set_other made n k true false (λ e. omega (arith, e, l)) ∙ i.rest k (omega (arith, l)) m;
}

pub settled_out : (xs made : List Bool) (n : ℕ) → n < 256 → is_wanted xs n ≡ false → IsSettled xs made n → IsSettled xs made (n + 1)
settled_out xs made n small none i = record {
  len = i.len;
  done = λ k l. ⊎_elim
      (λ (e : k ≡ n). ap (has made) e ∙ (i.rest n (omega arith) small ∙ (sym none ∙ ap (is_wanted xs) (sym e))))
      (λ (ne : k ≢ n). i.done k (omega (arith, l, ne)))
      (cases_eq k n);
  rest = λ k l m. i.rest k (omega (arith, l)) m;
}

-- ---- reading

-- whether all bytes from one on are in the set
abbrev pub all_from : List Bool → ℕ → Bool
all_from set n = list_all (has set) (range_with_len n (256 - n))

pub all_here : (set : List Bool) (n : ℕ) → n < 256 → has set n ≡ true → all_from set n ≡ all_from set (n + 1)
all_here set n small e =
    ap (λ (m : ℕ). list_all (has set) (range_with_len n m)) (more n small) ∙ ap (λ (b : Bool). b && all_from set (n + 1)) e
  where
    more : (n : ℕ) → n < 256 → 256 - n ≡ suc (256 - (n + 1))
    more n l = omega (arith, l)

pub high_from : (set : List Bool) → has_high_bytes set ≡ all_from set 0x80
unfolding has_high_bytes
high_from set = refl
