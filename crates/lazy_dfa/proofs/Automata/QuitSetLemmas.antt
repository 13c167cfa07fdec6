-- Which bytes are quit bytes. All of it is stated for ranges of any length, since a list of 256 items would be unfolded.
use Rattle.std.proofs.Common.{◌≡◌, ℕ, zero, suc, ◌+◌, ◌<◌, ◌≤◌, Bool, true, false, ◌&&◌, ◌||◌, not, List, map, length, get_or, refl, sym}
use Rattle.std.proofs.Common.{ap, ◌∙◌, ⊎_elim, arith, if◌then◌else◌}
use Rattle.std.proofs.lemmas.Bool.{cases_Bool, cases_lt, and_parts, le-leb, and_from, or_left, or_right, not-true}
use Rattle.std.proofs.lemmas.Bool.Decides.{leb_tells}
use Rattle.std.proofs.lemmas.List.FromFn.{get_or-map-range_with_len, length-map-range_with_len}
use Rattle.std.specs.Bool.{nat_le}
use Rattle.std.specs.List.{range_with_len, list_all}
use Rattle.search_core.specs.ByteSets.{has}
use Rattle.nfa_core.specs.Nfa.{Automaton}
use Rattle.lazy_dfa.specs.Quits.{has_unicode_word, with_high_bytes, has_high_bytes, quit_bytes, is_unsupported}

-- ---- tests of ranges

pub some_of_range : (p : ℕ → Bool) (a n : ℕ) → list_all p (range_with_len a n) ≡ false →
    (b : ℕ) × (a ≤ b) × (b < a + n) × (p b ≡ false)
some_of_range p a zero none = let never : true ≡ false = none in absurd (grind (arith, never))
some_of_range p a (suc n) none = ⊎_elim
    (λ (here : p a ≡ true).
    let later = some_of_range p (a + 1) n (sym (ap (λ (x : Bool). x && list_all p (range_with_len (a + 1) n)) here) ∙ none) in
    let from = later.1 in let to = later.2 in
    (later.0, omega (arith, from), omega (arith, to), later.3))
    (λ (here : p a ≡ false). (a, omega arith, omega arith, here))
    (cases_Bool (p a))

-- ---- high bytes

or_false : (x y : Bool) → y ≡ false → (x || y) ≡ x
or_false true y e = refl
or_false false y e = e

above : (b : ℕ) → b < 0x80 → nat_le 0x80 b ≡ false
above b l = ⊎_elim (λ reported. let up = reported.1 in absurd (omega (arith, l, up))) (λ reported. reported.0) (leb_tells 0x80 b)

module _ (set : List Bool) where
  abbrev is_in : ℕ → Bool
  is_in b = has set b || nat_le 0x80 b

  in_range : (n b : ℕ) → b < n → get_or (map is_in (range_with_len 0 n)) b false ≡ is_in b
  in_range n b l = get_or-map-range_with_len is_in 0 n b b false l (omega arith)

  pub high_at : (b : ℕ) → b < 256 → has (with_high_bytes set) b ≡ is_in b
  unfolding with_high_bytes
  high_at b l = in_range 256 b l

  pub high_len : length (with_high_bytes set) ≡ 256
  unfolding with_high_bytes
  high_len = length-map-range_with_len is_in 0 256

  pub not_all_high : has_high_bytes set ≡ false → (b : ℕ) × (0x80 ≤ b) × (b < 256) × (has set b ≡ false)
  unfolding has_high_bytes
  not_all_high none = let b = some_of_range (has set) 0x80 128 none in let to = b.2 in (b.0, b.1, omega (arith, to), b.3)

-- ---- quit bytes

-- one of two sets
either : (b : Bool) (xs ys : List Bool) (P : List Bool → Type 0) → (b ≡ true → P xs) → (b ≡ false → P ys) → P (if b then xs else ys)
either true xs ys P yes_case no_case = yes_case refl
either false xs ys P yes_case no_case = no_case refl

module _ (a : Automaton) (boundaries : Bool) (set : List Bool) where
  abbrev is_wide : Bool
  is_wide = has_unicode_word a && boundaries

  pub quits_by_hand : (b : ℕ) → b < 256 → has set b ≡ true → has (quit_bytes a boundaries set) b ≡ true
  quits_by_hand b l e = either is_wide (with_high_bytes set) set (λ (s : List Bool). has s b ≡ true)
      (λ wide. high_at set b l ∙ or_left (has set b) (nat_le 0x80 b) e) (λ plain. e)

  pub quits_of_ascii : (b : ℕ) → b < 0x80 → has (quit_bytes a boundaries set) b ≡ has set b
  quits_of_ascii b l = either is_wide (with_high_bytes set) set (λ (s : List Bool). has s b ≡ has set b)
      (λ wide. high_at set b (omega (arith, l)) ∙ or_false (has set b) (nat_le 0x80 b) (above b l)) (λ plain. refl)

  pub quits_of_wide : (b : ℕ) → is_wide ≡ true → 0x80 ≤ b → b < 256 → has (quit_bytes a boundaries set) b ≡ true
  quits_of_wide b wide from to =
      ap (λ (w : Bool). has (if w then with_high_bytes set else set) b) wide ∙ high_at set b to
      ∙ or_right (has set b) (nat_le 0x80 b) (le-leb 0x80 b from)

  pub quits_plain : is_wide ≡ false → quit_bytes a boundaries set ≡ set
  quits_plain plain = ap (λ (w : Bool). if w then with_high_bytes set else set) plain

  pub quits_len : length set ≡ 256 → length (quit_bytes a boundaries set) ≡ 256
  quits_len e = either is_wide (with_high_bytes set) set (λ (s : List Bool). length s ≡ 256) (λ wide. high_len set) (λ plain. e)

and_off : (x : Bool) → (x && false) ≡ false
and_off true = refl
and_off false = refl

pub quits_of_high : (a : Automaton) (set : List Bool) (b : ℕ) → has_unicode_word a ≡ true → 0x80 ≤ b → b < 256 →
    has (quit_bytes a true set) b ≡ true
quits_of_high a set b unicode from to = quits_of_wide a true set b (and_from (has_unicode_word a) true unicode refl) from to

pub quits_off : (a : Automaton) (set : List Bool) → quit_bytes a false set ≡ set
quits_off a set = quits_plain a false set (and_off (has_unicode_word a))

-- ---- errors

pub some_high_is_missing : (a : Automaton) (boundaries : Bool) (set : List Bool) → is_unsupported a boundaries set ≡ true →
    (has_unicode_word a ≡ true) × (boundaries ≡ false) × ((b : ℕ) × (0x80 ≤ b) × (b < 256) × (has set b ≡ false))
some_high_is_missing a boundaries set e =
    let both = and_parts (has_unicode_word a && not boundaries) (not (has_high_bytes set)) e in
    let first = and_parts (has_unicode_word a) (not boundaries) both.0 in
    (first.0, not-true boundaries first.1, not_all_high set (not-true (has_high_bytes set) both.1))

false_behind : (x y : Bool) → y ≡ false → (x && y) ≡ false
false_behind true y e = e
false_behind false y e = refl

not_high : (set : List Bool) (b : ℕ) → 0x80 ≤ b → b < 256 → has set b ≡ false → has_high_bytes set ≡ false
unfolding has_high_bytes
not_high set b from to e = missing 0x80 128 from to
  where
    missing : (a n : ℕ) → a ≤ b → b < a + n → list_all (has set) (range_with_len a n) ≡ false
    missing a zero from to = absurd (omega (arith, from, to))
    missing a (suc n) from to = ⊎_elim
        (λ (past : a < b). false_behind (has set a) (list_all (has set) (range_with_len (a + 1) n))
        (missing (a + 1) n (omega (arith, past)) (omega (arith, to))))
        (λ (at : b ≤ a).
        let is : a ≡ b = omega (arith, at, from) in
        ap (λ (x : Bool). x && list_all (has set) (range_with_len (a + 1) n)) (ap (has set) is ∙ e))
        (cases_lt a b)

pub missing_high_is_refused : (a : Automaton) (set : List Bool) (b : ℕ) → has_unicode_word a ≡ true → 0x80 ≤ b → b < 256 →
    has set b ≡ false →
    is_unsupported a false set ≡ true
missing_high_is_refused a set b unicode from to e =
    and_from (has_unicode_word a && true) (not (has_high_bytes set)) (and_from (has_unicode_word a) true unicode refl)
    (ap not (not_high set b from to e))

-- if an automaton isn't rejected, each high byte is a quit byte, either by the option for word boundaries or by the given set
pub supported_quits : (a : Automaton) (boundaries : Bool) (set : List Bool) (b : ℕ) → is_unsupported a boundaries set ≡ false →
    has_unicode_word a ≡ true →
    0x80 ≤ b → b < 256 → has (quit_bytes a boundaries set) b ≡ true
supported_quits a true set b fine unicode from to = quits_of_high a set b unicode from to
supported_quits a false set b fine unicode from to = ⊎_elim
    (λ (e : has set b ≡ true). quits_by_hand a false set b to e)
    (λ (e : has set b ≡ false). let never : true ≡ false = sym (missing_high_is_refused a set b unicode from to e) ∙ fine in
    absurd (grind (arith, never)))
    (cases_Bool (has set b))
