-- What the code of `decode` and `decode_last` reads: spellings by their length, at the start and at the end of bytes.
use Rattle.std.proofs.Common.{◌≡◌, ℕ, suc, ◌+◌, ◌-◌, ◌<◌, ◌≤◌, ◌⊎◌, inl, inr, true, List, [], ◌∷◌, ◌++◌, length, get_or, Option, Some, None}
use Rattle.std.proofs.Common.{MatchOption, SomeIff, refl, sym, ap, subst, ◌∙◌, arith, length-append, length-drop, take, drop}
use Rattle.std.proofs.lemmas.Bool.{and_parts, leb-true}
use Rattle.std.proofs.lemmas.List.{take-append-drop, get_or_append_left, get_or-append_right}
use Rattle.std.proofs.lemmas.Bool.Decides.{nat_tests}
use Rattle.std.specs.Char.{IsScalar, InScalarRange, OutOfScalarRange}
use Rattle.std.specs.Int.{IsInRange, is_in_range}
use Rattle.search_core.specs.Utf8.{IsContinuation, scalar_of_two, scalar_of_three, scalar_of_four, second_of_three, second_of_four, Spells}
use Rattle.search_core.specs.Utf8.{SpellsFirst, SpellsLast}
use Rattle.search_core.specs.Utf8.Spells.{from_0000, from_0080, from_0800, from_1000, from_d000, from_e000, from_10000, from_40000}
use Rattle.search_core.specs.Utf8.Spells.{from_100000}

-- what `char::from_u32` gives for the code of a spelling
pub char_of : (r : Option ℕ) (code : ℕ) (P : ℕ → Type 0) → SomeIff r (IsScalar code) code →
    MatchOption r (OutOfScalarRange code) (λ _. InScalarRange code) → P code × InScalarRange code → MatchOption r ((c : ℕ) → ¬ (P c)) P
char_of None code P v h p = absurd (elim h [
  | inl out ↦ elim p.1 [ inl low ↦ omega arith | inr high ↦ omega arith ]
  | inr out ↦
      elim p.1 [ inl low ↦ omega arith | inr high ↦ omega arith ]
])
char_of (Some x) code P v h p = subst P (sym v.1) p.0

pub in_range : (lo hi b : ℕ) → is_in_range lo hi b ≡ true → IsInRange lo hi b
in_range lo hi b e = let p = and_parts _ _ e in (leb-true _ _ p.0, leb-true _ _ p.1)

pub two_spell : (a b : ℕ) → 0xC2 ≤ a → a ≤ 0xDF → is_in_range 0x80 0xBF b ≡ true →
    Spells (scalar_of_two a b) (a ∷ b ∷ []) × InScalarRange (scalar_of_two a b)
two_spell a b low high e =
    let t = in_range _ _ b e in
    (from_0080 a b (low, high) t refl refl, inl (omega arith))

-- the rows of three bytes
three_rows : (a b : ℕ) → second_of_three a b ≡ true →
    ((a ≡ 0xE0) × IsInRange 0xA0 0xBF b) ⊎ ((IsInRange 0xE1 0xEC a × IsContinuation b) ⊎
    (((a ≡ 0xED) × IsInRange 0x80 0x9F b) ⊎ (IsInRange 0xEE 0xEF a × IsContinuation b)))
three_rows a b e = grind (arith, nat_tests)

pub three_spell : (a b d : ℕ) → second_of_three a b ≡ true → is_in_range 0x80 0xBF d ≡ true →
    Spells (scalar_of_three a b d) (a ∷ b ∷ d ∷ []) × InScalarRange (scalar_of_three a b d)
three_spell a b d e f =
    let t = in_range _ _ d f in
    elim (three_rows a b e) [
      | inl r ↦ (from_0800 a b d r.0 r.1 t refl refl, inl (omega arith))
      | inr w ↦ elim w [
        | inl r ↦ (from_1000 a b d r.0 r.1 t refl refl, inl (omega arith))
        | inr v ↦ elim v [
          | inl r ↦ (from_d000 a b d r.0 r.1 t refl refl, inl (omega arith))
          | inr r ↦ (from_e000 a b d r.0 r.1 t refl refl, inr (omega arith, omega arith))
        ]
      ]
    ]

four_rows : (a b : ℕ) → second_of_four a b ≡ true →
    ((a ≡ 0xF0) × IsInRange 0x90 0xBF b) ⊎ ((IsInRange 0xF1 0xF3 a × IsContinuation b) ⊎ ((a ≡ 0xF4) × IsInRange 0x80 0x8F b))
four_rows a b e = grind (arith, nat_tests)

pub four_spell : (a b d e : ℕ) → second_of_four a b ≡ true → is_in_range 0x80 0xBF d ≡ true → is_in_range 0x80 0xBF e ≡ true →
    Spells (scalar_of_four a b d e) (a ∷ b ∷ d ∷ e ∷ []) × InScalarRange (scalar_of_four a b d e)
four_spell a b d e q f g =
    let t = in_range _ _ d f in
    let u = in_range _ _ e g in
    elim (four_rows a b q) [
      | inl r ↦ (from_10000 a b d e r.0 r.1 t u refl refl, inr (omega arith, omega arith))
      | inr w ↦ elim w [
        | inl r ↦ (from_40000 a b d e r.0 r.1 t u refl refl, inr (omega arith, omega arith))
        | inr r ↦ (from_100000 a b d e r.0 r.1 t u refl refl, inr (omega arith, omega arith))
      ]
    ]

-- the first byte of a spelling says how long it is
abbrev pub Leads : ℕ → ℕ → Type 0
Leads a n =
    ((a ≤ 0x7F) × (n ≡ 1)) ⊎ ((IsInRange 0xC2 0xDF a × (n ≡ 2)) ⊎ ((IsInRange 0xE0 0xEF a × (n ≡ 3)) ⊎ (IsInRange 0xF0 0xF4 a × (n ≡ 4))))

leads_by : (s t : List ℕ) → s ≡ t → Leads (get_or t 0 0) (length t) → Leads (get_or s 0 0) (length s)
leads_by s t e h = rw e h

pub spelling_leads : (c : ℕ) (s : List ℕ) → Spells c s → Leads (get_or s 0 0) (length s)
spelling_leads c s (from_0000 a r e v) = leads_by s _ e (inl (r.1, refl))
spelling_leads c s (from_0080 a b r t e v) = leads_by s _ e (inr (inl (r, refl)))
spelling_leads c s (from_0800 a b d r t u e v) = leads_by s _ e (inr (inr (inl ((omega arith, omega arith), refl))))
spelling_leads c s (from_1000 a b d r t u e v) = leads_by s _ e (inr (inr (inl ((omega arith, omega arith), refl))))
spelling_leads c s (from_d000 a b d r t u e v) = leads_by s _ e (inr (inr (inl ((omega arith, omega arith), refl))))
spelling_leads c s (from_e000 a b d r t u e v) = leads_by s _ e (inr (inr (inl ((omega arith, omega arith), refl))))
spelling_leads c s (from_10000 a b d f r t u w e v) = leads_by s _ e (inr (inr (inr ((omega arith, omega arith), refl))))
spelling_leads c s (from_40000 a b d f r t u w e v) = leads_by s _ e (inr (inr (inr ((omega arith, omega arith), refl))))
spelling_leads c s (from_100000 a b d f r t u w e v) = leads_by s _ e (inr (inr (inr ((omega arith, omega arith), refl))))

-- a list of so many bytes, written out
pub one_of : (s : List ℕ) → length s ≡ 1 → s ≡ get_or s 0 0 ∷ []
one_of [] h = absurd (omega arith)
one_of (a ∷ []) h = refl
one_of (a ∷ b ∷ s) h = absurd (omega arith)

pub two_of : (s : List ℕ) → length s ≡ 2 → s ≡ get_or s 0 0 ∷ get_or s 1 0 ∷ []
two_of [] h = absurd (omega arith)
two_of (a ∷ s) h = ap (λ l. a ∷ l) (one_of s (omega arith))

pub three_of : (s : List ℕ) → length s ≡ 3 → s ≡ get_or s 0 0 ∷ get_or s 1 0 ∷ get_or s 2 0 ∷ []
three_of [] h = absurd (omega arith)
three_of (a ∷ s) h = ap (λ l. a ∷ l) (two_of s (omega arith))

pub four_of : (s : List ℕ) → length s ≡ 4 → s ≡ get_or s 0 0 ∷ get_or s 1 0 ∷ get_or s 2 0 ∷ get_or s 3 0 ∷ []
four_of [] h = absurd (omega arith)
four_of (a ∷ s) h = ap (λ l. a ∷ l) (three_of s (omega arith))

pub leads_some : (a n : ℕ) → Leads a n → 0 < n
leads_some a n h = grind arith

leads_two : (a n : ℕ) → Leads a n → 0x80 ≤ a → a ≤ 0xDF → n ≡ 2
leads_two a n h low high = grind arith

leads_three : (a n : ℕ) → Leads a n → 0xE0 ≤ a → a ≤ 0xEF → n ≡ 3
leads_three a n h low high = grind arith

leads_four : (a n : ℕ) → Leads a n → 0xF0 ≤ a → n ≡ 4
leads_four a n h low = grind arith

-- a spelling at the start: its bytes are the first of all, so the first byte of all says how long it is
pub same_first : (bytes s rest : List ℕ) (k : ℕ) → bytes ≡ s ++ rest → k < length s → get_or s k 0 ≡ get_or bytes k 0
same_first bytes s rest k e h = sym (ap (λ l. get_or l k 0) e ∙ get_or_append_left s rest 0 k h)

module _ (bytes : List ℕ) (c : ℕ) (f : SpellsFirst c bytes) where
  first_leads : Leads (get_or bytes 0 0) (length f.spelling)
  first_leads =
      let leads = spelling_leads c f.spelling f.spells in
      subst (λ a. Leads a (length f.spelling)) (same_first bytes f.spelling f.rest 0 f.joined (leads_some _ _ leads)) leads

  pub first_fits : length f.spelling ≤ length bytes
  first_fits = omega (arith, ap length f.joined, length-append f.spelling f.rest)

  pub first_is_two : 0x80 ≤ get_or bytes 0 0 → get_or bytes 0 0 ≤ 0xDF → (1 < length bytes) ×
      Spells c (get_or bytes 0 0 ∷ get_or bytes 1 0 ∷ [])
  first_is_two low high =
      let n = leads_two _ _ first_leads low high in
      let e0 = same_first bytes f.spelling f.rest 0 f.joined (omega arith) in
      let e1 = same_first bytes f.spelling f.rest 1 f.joined (omega arith) in
      (omega (arith, first_fits), subst (Spells c) (two_of f.spelling n ∙ cc) f.spells)

  pub first_is_three : 0xE0 ≤ get_or bytes 0 0 → get_or bytes 0 0 ≤ 0xEF →
      (2 < length bytes) × Spells c (get_or bytes 0 0 ∷ get_or bytes 1 0 ∷ get_or bytes 2 0 ∷ [])
  first_is_three low high =
      let n = leads_three _ _ first_leads low high in
      let e0 = same_first bytes f.spelling f.rest 0 f.joined (omega arith) in
      let e1 = same_first bytes f.spelling f.rest 1 f.joined (omega arith) in
      let e2 = same_first bytes f.spelling f.rest 2 f.joined (omega arith) in
      (omega (arith, first_fits), subst (Spells c) (three_of f.spelling n ∙ cc) f.spells)

  pub first_is_four : 0xF0 ≤ get_or bytes 0 0 →
      (3 < length bytes) × Spells c (get_or bytes 0 0 ∷ get_or bytes 1 0 ∷ get_or bytes 2 0 ∷ get_or bytes 3 0 ∷ [])
  first_is_four low =
      let n = leads_four _ _ first_leads low in
      let e0 = same_first bytes f.spelling f.rest 0 f.joined (omega arith) in
      let e1 = same_first bytes f.spelling f.rest 1 f.joined (omega arith) in
      let e2 = same_first bytes f.spelling f.rest 2 f.joined (omega arith) in
      let e3 = same_first bytes f.spelling f.rest 3 f.joined (omega arith) in
      (omega (arith, first_fits), subst (Spells c) (four_of f.spelling n ∙ cc) f.spells)

-- bytes that are long enough, with the first few written out
pub front_one : (bytes : List ℕ) → 0 < length bytes → bytes ≡ (get_or bytes 0 0 ∷ []) ++ drop 1 bytes
front_one [] h = absurd (omega arith)
front_one (a ∷ t) h = refl

pub front_two : (bytes : List ℕ) → 1 < length bytes → bytes ≡ (get_or bytes 0 0 ∷ get_or bytes 1 0 ∷ []) ++ drop 2 bytes
front_two [] h = absurd (omega arith)
front_two (a ∷ t) h = ap (λ l. a ∷ l) (front_one t (omega arith))

pub front_three : (bytes : List ℕ) → 2 < length bytes → bytes ≡ (get_or bytes 0 0 ∷ get_or bytes 1 0 ∷ get_or bytes 2 0 ∷ [])
    ++ drop 3 bytes
front_three [] h = absurd (omega arith)
front_three (a ∷ t) h = ap (λ l. a ∷ l) (front_two t (omega arith))

pub front_four : (bytes : List ℕ) → 3 < length bytes →
    bytes ≡ (get_or bytes 0 0 ∷ get_or bytes 1 0 ∷ get_or bytes 2 0 ∷ get_or bytes 3 0 ∷ []) ++ drop 4 bytes
front_four [] h = absurd (omega arith)
front_four (a ∷ t) h = ap (λ l. a ∷ l) (front_three t (omega arith))

-- so what is read of the first bytes is what is read of all
abbrev pub Reads : (ℕ → Type 0) → Option ℕ → Type 0
Reads P r = MatchOption r ((c : ℕ) → ¬ (P c)) P

pub read_one : (bytes : List ℕ) → 0 < length bytes → get_or bytes 0 0 ≤ 0x7F → SpellsFirst (get_or bytes 0 0) bytes
read_one bytes some low =
    record {
      spelling = get_or bytes 0 0 ∷ [];
      rest = drop 1 bytes;
      spells = from_0000 (get_or bytes 0 0) (omega arith, low) refl refl;
      joined = front_one bytes some;
    }

pub read_two : (bytes : List ℕ) (r : Option ℕ) → 1 < length bytes → 0x80 ≤ get_or bytes 0 0 → get_or bytes 0 0 ≤ 0xDF →
    Reads (λ c. Spells c (get_or bytes 0 0 ∷ get_or bytes 1 0 ∷ [])) r → Reads (λ c. SpellsFirst c bytes) r
read_two bytes None long low high h = λ c f. h c (first_is_two bytes c f low high).1
read_two bytes (Some x) long low high h = record { spelling = _; rest = drop 2 bytes; spells = h; joined = front_two bytes long }

pub read_three : (bytes : List ℕ) (r : Option ℕ) → 2 < length bytes → 0xE0 ≤ get_or bytes 0 0 → get_or bytes 0 0 ≤ 0xEF →
    Reads (λ c. Spells c (get_or bytes 0 0 ∷ get_or bytes 1 0 ∷ get_or bytes 2 0 ∷ [])) r → Reads (λ c. SpellsFirst c bytes) r
read_three bytes None long low high h = λ c f. h c (first_is_three bytes c f low high).1
read_three bytes (Some x) long low high h = record { spelling = _; rest = drop 3 bytes; spells = h; joined = front_three bytes long }

pub read_four : (bytes : List ℕ) (r : Option ℕ) → 3 < length bytes → 0xF0 ≤ get_or bytes 0 0 →
    Reads (λ c. Spells c (get_or bytes 0 0 ∷ get_or bytes 1 0 ∷ get_or bytes 2 0 ∷ get_or bytes 3 0 ∷ [])) r →
    Reads (λ c. SpellsFirst c bytes) r
read_four bytes None long low h = λ c f. h c (first_is_four bytes c f low).1
read_four bytes (Some x) long low h = record { spelling = _; rest = drop 4 bytes; spells = h; joined = front_four bytes long }

-- a spelling at the end: its byte k from the end is that of the whole
pub same_last : (bytes front s : List ℕ) (k : ℕ) → bytes ≡ front ++ s → k < length s →
    get_or s (length s - suc k) 0 ≡ get_or bytes (length bytes - suc k) 0
same_last bytes front s k e h =
    let n : length bytes ≡ length front + length s = ap length e ∙ length-append front s in
    let i : length bytes - suc k - length front ≡ length s - suc k = omega arith in
    sym (ap (λ l. get_or l (length bytes - suc k) 0) e ∙ get_or-append_right front s (length front) (length bytes - suc k) 0 refl
    (omega arith)
    ∙ ap (λ j. get_or s j 0) i)

-- the last few bytes written out
abbrev pub back : List ℕ → ℕ → ℕ
back bytes k = get_or bytes (length bytes - k) 0

pub back_one : (bytes front s : List ℕ) → bytes ≡ front ++ s → length s ≡ 1 → s ≡ back bytes 1 ∷ []
back_one bytes front s e n =
    let e0 = rw n at (same_last bytes front s 0 e (omega arith)) in
    one_of s n ∙ cc

pub back_two : (bytes front s : List ℕ) → bytes ≡ front ++ s → length s ≡ 2 → s ≡ back bytes 2 ∷ back bytes 1 ∷ []
back_two bytes front s e n =
    let e0 = rw n at (same_last bytes front s 1 e (omega arith)) in
    let e1 = rw n at (same_last bytes front s 0 e (omega arith)) in
    two_of s n ∙ cc

pub back_three : (bytes front s : List ℕ) → bytes ≡ front ++ s → length s ≡ 3 → s ≡ back bytes 3 ∷ back bytes 2 ∷ back bytes 1 ∷ []
back_three bytes front s e n =
    let e0 = rw n at (same_last bytes front s 2 e (omega arith)) in
    let e1 = rw n at (same_last bytes front s 1 e (omega arith)) in
    let e2 = rw n at (same_last bytes front s 0 e (omega arith)) in
    three_of s n ∙ cc

pub back_four : (bytes front s : List ℕ) → bytes ≡ front ++ s → length s ≡ 4 →
    s ≡ back bytes 4 ∷ back bytes 3 ∷ back bytes 2 ∷ back bytes 1 ∷ []
back_four bytes front s e n =
    let e0 = rw n at (same_last bytes front s 3 e (omega arith)) in
    let e1 = rw n at (same_last bytes front s 2 e (omega arith)) in
    let e2 = rw n at (same_last bytes front s 1 e (omega arith)) in
    let e3 = rw n at (same_last bytes front s 0 e (omega arith)) in
    four_of s n ∙ cc

-- a spelling that the last k bytes are is at the end
module _ (bytes : List ℕ) (c k : ℕ) (long : k ≤ length bytes) where
  cut : bytes ≡ take (length bytes - k) bytes ++ drop (length bytes - k) bytes
  cut = sym (take-append-drop (length bytes - k) bytes)

  dropped : length (drop (length bytes - k) bytes) ≡ k
  dropped = omega (arith, length-drop (length bytes - k) bytes)

  put_last : Spells c (drop (length bytes - k) bytes) → SpellsLast c bytes
  put_last h = record { front = take (length bytes - k) bytes; spelling = drop (length bytes - k) bytes; spells = h; joined = cut }

pub put_one : (bytes : List ℕ) → 0 < length bytes → back bytes 1 ≤ 0x7F → SpellsLast (back bytes 1) bytes
put_one bytes long low =
    put_last bytes (back bytes 1) 1 long (from_0000 (back bytes 1) (
      omega arith,
      low,
    ) (back_one bytes _ _ (cut bytes 0 1 long) (dropped bytes 0 1 long)) refl)

pub put_two : (bytes : List ℕ) (c : ℕ) → 1 < length bytes → Spells c (back bytes 2 ∷ back bytes 1 ∷ []) → SpellsLast c bytes
put_two bytes c long h =
    put_last bytes c 2 long (subst (Spells c) (sym (back_two bytes _ _ (cut bytes 0 2 long) (dropped bytes 0 2 long))) h)

pub put_three : (bytes : List ℕ) (c : ℕ) → 2 < length bytes → Spells c (back bytes 3 ∷ back bytes 2 ∷ back bytes 1 ∷ []) →
    SpellsLast c bytes
put_three bytes c long h =
    put_last bytes c 3 long (subst (Spells c) (sym (back_three bytes _ _ (cut bytes 0 3 long) (dropped bytes 0 3 long))) h)

pub put_four : (bytes : List ℕ) (c : ℕ) → 3 < length bytes →
    Spells c (back bytes 4 ∷ back bytes 3 ∷ back bytes 2 ∷ back bytes 1 ∷ []) → SpellsLast c bytes
put_four bytes c long h =
    put_last bytes c 4 long (subst (Spells c) (sym (back_four bytes _ _ (cut bytes 0 4 long) (dropped bytes 0 4 long))) h)

-- and if the last bytes are a spelling at no length, no spelling is at the end
module _ (bytes : List ℕ) (high : 0x80 ≤ back bytes 1) (two : (c : ℕ) →
    ¬ (Spells c (back bytes 2 ∷ back bytes 1 ∷ []))) (three : 2 < length bytes → (c : ℕ) →
    ¬ (Spells c (back bytes 3 ∷ back bytes 2 ∷ back bytes 1 ∷ []))) (four : 3 < length bytes → (c : ℕ) →
    ¬ (Spells c (back bytes 4 ∷ back bytes 3 ∷ back bytes 2 ∷ back bytes 1 ∷ []))) where
  pub none_last : (c : ℕ) → ¬ (SpellsLast c bytes)
  none_last c f =
      let fits : length f.spelling ≤ length bytes = omega (arith, ap length f.joined, length-append f.front f.spelling) in
      elim (spelling_leads c f.spelling f.spells) [
        | inl one ↦
            let e0 = rw one.1 at (same_last bytes f.front f.spelling 0 f.joined (omega arith)) in
            absurd (omega arith)
        | inr more ↦ elim more [
          | inl n ↦ two c (subst (Spells c) (back_two bytes _ _ f.joined n.1) f.spells)
          | inr most ↦ elim most [
            | inl n ↦ three (omega arith) c (subst (Spells c) (back_three bytes _ _ f.joined n.1) f.spells)
            | inr n ↦ four (omega arith) c (subst (Spells c) (back_four bytes _ _ f.joined n.1) f.spells)
          ]
        ]
      ]

pub read_last_four : (bytes : List ℕ) (r : Option ℕ) → 3 < length bytes → 0x80 ≤ back bytes 1 →
    ((c : ℕ) → ¬ (Spells c (back bytes 2 ∷ back bytes 1 ∷ []))) → ((c : ℕ) →
    ¬ (Spells c (back bytes 3 ∷ back bytes 2 ∷ back bytes 1 ∷ []))) →
    Reads (λ c. Spells c (back bytes 4 ∷ back bytes 3 ∷ back bytes 2 ∷ back bytes 1 ∷ [])) r → Reads (λ c. SpellsLast c bytes) r
read_last_four bytes None long high two three h = none_last bytes high two (λ _. three) (λ _. h)
read_last_four bytes (Some x) long high two three h = put_four bytes x long h
