-- Each span of a tree that isn't empty begins with a byte that it may begin with, so none starts where no such byte is.
use Rattle.std.proofs.Common.{◌≡◌, ◌==◌, ℕ, zero, suc, ◌+◌, ◌-◌, ◌<◌, ◌≤◌, ◌⊎◌, inl, inr, Bool, true, false, ◌&&◌, nat_le, List, [], ◌∷◌, ◌++◌, length, drop}
use Rattle.std.proofs.Common.{slice_get, slice_range, Some, refl, sym, ap, subst, ◌∙◌, arith, true≢false, All, if◌then◌else◌}
use Rattle.std.proofs.lemmas.Bool.Decides.{Decides-eqb}
use Rattle.std.proofs.Common.{take}
use Rattle.std.proofs.lemmas.Bool.{and_parts, cases_lt, eq-eqb, le-leb, le-ltb, leb-true, lt-ltb, or_cases, or_left, or_right}
use Rattle.std.proofs.lemmas.Option.{none-some, slice_get_within, get_or_from_slice_get}
use Rattle.std.proofs.lemmas.Slice.Eq.{starts_is}
use Rattle.search_core.specs.ByteSets.{has}
use Rattle.search_core.specs.Utf8.{Spells}
use Rattle.search_core.specs.Utf8.Spells.{from_0000, from_0080, from_0800, from_1000, from_d000, from_e000, from_10000, from_40000, from_100000}
use Rattle.hir_core.specs.Tree.{Tree, empty, literal, byte_class, char_class, look, repetition, capture, nothing, cat, never, alt}
use Rattle.hir_core.specs.Means.{Looks, Means, Rounds, SpellsMember, is_member, stands}
use Rattle.meta_regex.specs.FirstBytes.{AreFirstBytes, has_high, may_be_empty, may_begin}

-- ---- the first byte of a spelling
pub record Leads (c : ℕ) (s : List ℕ) : Type 0 where
  pub byte : ℕ
  pub rest : List ℕ
  pub is : s ≡ byte ∷ rest
  pub low : byte < 0x80 → byte ≡ c
  pub high : 0x80 ≤ byte → 0x80 ≤ c

leads : (c : ℕ) (s : List ℕ) → Spells c s → Leads c s
leads c s (from_0000 a r e v) = record { byte = a; rest = _; is = e; low = λ l. sym v; high = λ l. absurd (omega (arith, r.1, l)) }
leads c s (from_0080 a b r t e v) = record { byte = a; rest = _; is = e; low = λ l. absurd (omega (arith, r.0, l)); high = λ l. omega (arith, v, r.0) }
leads c s (from_0800 a b d r t u e v) = record { byte = a; rest = _; is = e; low = λ l. absurd (omega (arith, r, l)); high = λ l. omega (arith, v, r, t.0) }
leads c s (from_1000 a b d r t u e v) = record { byte = a; rest = _; is = e; low = λ l. absurd (omega (arith, r.0, l)); high = λ l. omega (arith, v, r.0) }
leads c s (from_d000 a b d r t u e v) = record { byte = a; rest = _; is = e; low = λ l. absurd (omega (arith, r, l)); high = λ l. omega (arith, v, r) }
leads c s (from_e000 a b d r t u e v) = record { byte = a; rest = _; is = e; low = λ l. absurd (omega (arith, r.0, l)); high = λ l. omega (arith, v, r.0) }
leads c s (from_10000 a b d f r t u w e v) = record { byte = a; rest = _; is = e; low = λ l. absurd (omega (arith, r, l)); high = λ l. omega (arith, v, r, t.0) }
leads c s (from_40000 a b d f r t u w e v) = record { byte = a; rest = _; is = e; low = λ l. absurd (omega (arith, r.0, l)); high = λ l. omega (arith, v, r.0) }
leads c s (from_100000 a b d f r t u w e v) = record { byte = a; rest = _; is = e; low = λ l. absurd (omega (arith, r, l)); high = λ l. omega (arith, v, r) }

-- ---- lists
pub rest_stands : (h : List ℕ) (i : ℕ) (bytes : List ℕ) → stands h i bytes ≡ true → drop i h ≡ bytes ++ drop (length bytes) (drop i h)
rest_stands h i bytes e = (starts_is Decides-eqb (drop i h) bytes true (sym e)).0 refl

get_first : (i : ℕ) (h : List ℕ) → slice_get (drop i h) 0 ≡ slice_get h i
get_first zero [] = refl
get_first zero (a ∷ h) = refl
get_first (suc i) [] = refl
get_first (suc i) (a ∷ h) = get_first i h

pub first_of_rest : (h : List ℕ) (i b : ℕ) (rest : List ℕ) → drop i h ≡ b ∷ rest → slice_get h i ≡ Some b
first_of_rest h i b rest e = sym (get_first i h) ∙ ap (λ (l : List ℕ). slice_get l 0) e

first_of_taken : (n : ℕ) (xs : List ℕ) (b : ℕ) (rest : List ℕ) → take n xs ≡ b ∷ rest → slice_get xs 0 ≡ Some b
first_of_taken zero xs b rest e = absurd (none-some b (ap (λ (l : List ℕ). slice_get l 0) e))
first_of_taken (suc n) [] b rest e = absurd (none-some b (ap (λ (l : List ℕ). slice_get l 0) e))
first_of_taken (suc n) (x ∷ xs) b rest e = ap (λ (l : List ℕ). slice_get l 0) e

pub byte_below : (h : List ℕ) (i b : ℕ) → All (λ (b : ℕ). b < 256) h → slice_get h i ≡ Some b → b < 256
byte_below h i b bytes at =
    subst (λ (n : ℕ). n < 256) (get_or_from_slice_get h i b 0 at) (bytes i 0 (slice_get_within h i b at))

both_true : {a b : Bool} → a ≡ true → b ≡ true → (a && b) ≡ true
both_true {a} {b} p q = ap (λ (t : Bool). t && b) p ∙ q

at_least : (min n : ℕ) → n ≡ 0 → min ≤ n → (min == 0) ≡ true
at_least min n none low = eq-eqb min 0 (omega (arith, none, low))

-- ---- leaves
-- a span is empty, and may be, or it begins with a byte with which the tree may begin
pub record Begins (h : List ℕ) (x : Tree) (i : ℕ) : Type 0 where
  pub byte : ℕ
  pub at : slice_get h i ≡ Some byte
  pub may : may_begin x byte ≡ true

literal_begins : (h : List ℕ) (bytes : List ℕ) (i j : ℕ) → j ≡ i + length bytes → stands h i bytes ≡ true →
    ((i ≡ j) × (may_be_empty (literal bytes) ≡ true)) ⊎ Begins h (literal bytes) i
literal_begins h [] i j size there = inl (omega (arith, size), refl)
literal_begins h (b ∷ bytes) i j size there =
    inr record { byte = b; at = first_of_rest h i b _ (rest_stands h i (b ∷ bytes) there); may = eq-eqb b b refl }

high_of : (ranges : List (ℕ × ℕ)) (c : ℕ) → 0x80 ≤ c → is_member ranges c ≡ true → has_high ranges ≡ true
high_of [] c low m = m
high_of (r ∷ rs) c low m = elim (or_cases (nat_le r.0 c && nat_le c r.1) (is_member rs c) m) [
  | inl one ↦ or_left (nat_le 0x80 r.1) (has_high rs) (le-leb 0x80 r.1 (omega (arith, low, leb-true c r.1 (and_parts (nat_le r.0 c) (nat_le c r.1) one).1)))
  | inr more ↦ or_right (nat_le 0x80 r.1) (has_high rs) (high_of rs c low more)
]

led_by : (ranges : List (ℕ × ℕ)) (c b : ℕ) → (b < 0x80 → b ≡ c) → (0x80 ≤ b → 0x80 ≤ c) → is_member ranges c ≡ true →
    may_begin (char_class ranges) b ≡ true
led_by ranges c b low high m = elim (cases_lt b 0x80) [
  | inl less ↦ ap (λ (t : Bool). if t then is_member ranges b else has_high ranges) (lt-ltb b 0x80 less) ∙ ap (is_member ranges) (low less) ∙ m
  | inr above ↦ ap (λ (t : Bool). if t then is_member ranges b else has_high ranges) (le-ltb b 0x80 above) ∙ high_of ranges c (high above) m
]

character_begins : (h : List ℕ) (ranges : List (ℕ × ℕ)) (i j : ℕ) → SpellsMember h ranges i j → Begins h (char_class ranges) i
character_begins h ranges i j m =
    let l = leads m.scalar (slice_range h i j) m.spells in
    record {
      byte = l.byte;
      at = sym (get_first i h) ∙ first_of_taken (j - i) (drop i h) l.byte l.rest l.is;
      may = led_by ranges m.scalar l.byte l.low l.high m.member;
    }

-- ---- trees
module _ (looks : Looks) (h : List ℕ) where
  -- what is said of each span of a tree
  abbrev Split : Tree → ℕ → ℕ → Type 0
  Split x i j = ((i ≡ j) × (may_be_empty x ≡ true)) ⊎ Begins h x i

  rounds_begin : (x : Tree) → ((i j : ℕ) → Means looks h x i j → Split x i j) → (n i j : ℕ) → Rounds (Means looks h x) n i j →
      ((i ≡ j) × ((n ≡ 0) ⊎ (may_be_empty x ≡ true))) ⊎ Begins h x i
  rounds_begin x each zero i j r = inl (r, inl refl)
  rounds_begin x each (suc n) i j r = elim (each i r.0 r.1) [
    | inl here ↦ elim (rounds_begin x each n r.0 j r.2) [
      | inl all ↦ inl (here.0 ∙ all.0, inr here.1)
      | inr begins ↦ inr record { byte = begins.byte; at = ap (slice_get h) here.0 ∙ begins.at; may = begins.may }
    ]
    | inr begins ↦ inr begins
  ]

  begin : (x : Tree) (i j : ℕ) → Means looks h x i j → Split x i j
  begin empty i j m = inl (m, refl)
  begin (literal bytes) i j m = literal_begins h bytes i j m.0 m.1
  begin (byte_class ranges) i j m = inr record { byte = m.1; at = m.2; may = m.3 }
  begin (char_class ranges) i j m = inr (character_begins h ranges i j m)
  begin (look l) i j m = inl (m.0, refl)
  begin (repetition min most greedy x) i j m = elim (rounds_begin x (begin x) m.0 i j m.3) [
    | inl all ↦ inl (
      all.0,
      elim all.1 [
        | inl none ↦ or_left (min == 0) (may_be_empty x) (at_least min m.0 none m.1)
        | inr some ↦ or_right (min == 0) (may_be_empty x) some
      ],
    )
    | inr begins ↦ inr record { byte = begins.byte; at = begins.at; may = begins.may }
  ]
  begin (capture index name x) i j m = elim (begin x i j m) [
    | inl all ↦ inl all
    | inr begins ↦ inr record { byte = begins.byte; at = begins.at; may = begins.may }
  ]
  begin nothing i j m = inl (m, refl)
  begin (cat x y) i j m = elim (begin x i m.0 m.1) [
    | inl here ↦ elim (begin y m.0 j m.2) [
      | inl there ↦ inl (here.0 ∙ there.0, both_true here.1 there.1)
      | inr begins ↦ inr record {
        byte = begins.byte;
        at = ap (slice_get h) here.0 ∙ begins.at;
        may = or_right (may_begin x begins.byte) (may_be_empty x && may_begin y begins.byte) (both_true here.1 begins.may);
      }
    ]
    | inr begins ↦ inr record {
      byte = begins.byte;
      at = begins.at;
      may = or_left (may_begin x begins.byte) (may_be_empty x && may_begin y begins.byte) begins.may;
    }
  ]
  begin never i j m = elim m [ ]
  begin (alt x y) i j (inl m) = elim (begin x i j m) [
    | inl here ↦ inl (here.0, or_left (may_be_empty x) (may_be_empty y) here.1)
    | inr begins ↦ inr record { byte = begins.byte; at = begins.at; may = or_left (may_begin x begins.byte) (may_begin y begins.byte) begins.may }
  ]
  begin (alt x y) i j (inr m) = elim (begin y i j m) [
    | inl here ↦ inl (here.0, or_right (may_be_empty x) (may_be_empty y) here.1)
    | inr begins ↦ inr record { byte = begins.byte; at = begins.at; may = or_right (may_begin x begins.byte) (may_begin y begins.byte) begins.may }
  ]

-- a set of all bytes with which the spans of a tree may begin, none of which may be empty
pub first_bytes_of : (set : List Bool) (x : Tree) → may_be_empty x ≡ false →
    ((b : ℕ) → b < 256 → may_begin x b ≡ true → has set b ≡ true) → AreFirstBytes set x
first_bytes_of set x some all = record {
  begun = λ looks h i j bytes m. elim (begin looks h x i j m) [
    | inl here ↦ absurd (true≢false (sym here.1 ∙ some))
    | inr begins ↦ (
      begins.byte,
      begins.at,
      all begins.byte (byte_below h i begins.byte bytes begins.at) begins.may,
    )
  ];
}
