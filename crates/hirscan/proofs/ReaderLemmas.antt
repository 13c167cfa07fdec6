-- Each reader answers exactly what its relation says of the word, and nothing exactly if that says nothing.
use Rattle.std.proofs.Common.{◌≡◌, ◌⊎◌, ℕ, ◌<◌, Bool, true, false, not, ◌||◌, List, [], Option, Some, None, nat_lt, refl, sym, ap, subst}
use Rattle.std.proofs.Common.{◌∙◌, inl, inr}
use Rattle.std.specs.Prelude.{◌↔◌}
use Rattle.std.specs.Option.{unwrap_or}
use Rattle.std.proofs.lemmas.Bool.{ltb-true, lt-ltb, not-true, not_from_false, or_cases, or_left, or_right}
use Rattle.hex.specs.Hex.{decode_of}
use Rattle.hirscan.specs.declared.fault.FaultKind.TheVariants.{BadNumber, BadHex, BadRange, BadChoice}
use Rattle.hirscan.specs.Words.{IsNumber, IsBound, IsGreedy, IsSwitch, IsYes, IsHex, IsHexByte, HasEnds, IsItem, IsLookName, HasHexEnds}
use Rattle.hirscan.specs.Words.{is_scalar, IsScalarItem}
use Rattle.hirscan.specs.Readers.{IsReader, IsSpelled, line_word, number, bound, order, switch, yes_or_no, hex_bytes, hex_byte, item_ends}
use Rattle.hirscan.specs.Readers.{the_ends, hex_ends, the_hex_ends, look_named}
use Rattle.hirscan.specs.LineFault.{when, unless_read, ends_fault, item_fault, scalar_ends_fault, scalar_item_fault}
use Rattle.hirscan.proofs.SaysLemmas.{number_says, number_said, bound_says, bound_said, order_says, order_said, switch_says, switch_said}
use Rattle.hirscan.proofs.SaysLemmas.{yes_says, yes_said, hex_bytes_says, hex_bytes_said, byte_of_result, hex_byte_said, ends_say}
use Rattle.hirscan.proofs.SaysLemmas.{ends_said, item_says, item_said}
use Rattle.hirscan.proofs.NameLemmas.{line_word_spelled, line_word-spelling, look_spelled, look_said}
use Rattle.hirscan.proofs.ScalarItemLemmas.{hex_ends_say, hex_ends_said, scalar_item_says, scalar_item_said}

none_of : {X : Type 0} (o : Option X) → ((x : X) → o ≡ Some x → ⊥) → o ≡ None
none_of None n = refl
none_of (Some x) n = absurd (n x refl)

some_is_none : {X : Type 0} (o : Option X) (x : X) → o ≡ Some x → o ≡ None → ⊥
some_is_none o x e f = absurd (let g : Some x ≡ None = sym e ∙ f in cc)

reader_of : {X : Type 0} (read : List ℕ → Option X) (says : List ℕ → X → Type 0) →
    ((w : List ℕ) (x : X) → read w ≡ Some x → says w x) → ((w : List ℕ) (x : X) → says w x → read w ≡ Some x) → IsReader read says
reader_of read says sound complete = record {
  some = λ w x. (sound w x, complete w x);
  none = λ w. (λ e x s. some_is_none (read w) x (complete w x s) e, λ n. none_of (read w) (λ x e. n x (sound w x e)));
}

pub numbers_read : IsReader number IsNumber
numbers_read = reader_of number IsNumber
    (λ w n e. subst (IsNumber w) (ap (λ o. unwrap_or o 0) e) (number_says w (ap (λ o. unless_read o BadNumber) e))) number_said

pub bounds_read : IsReader bound IsBound
bounds_read = reader_of bound IsBound
    (λ w b e. subst (IsBound w) (ap (λ o. unwrap_or o None) e) (bound_says w (ap (λ o. unless_read o BadNumber) e))) bound_said

pub orders_read : IsReader order IsGreedy
orders_read = reader_of order IsGreedy
    (λ w b e. subst (IsGreedy w) (ap (λ o. unwrap_or o false) e) (order_says w (ap (λ o. unless_read o BadChoice) e))) order_said

pub switches_read : IsReader switch IsSwitch
switches_read = reader_of switch IsSwitch
    (λ w b e. subst (IsSwitch w) (ap (λ o. unwrap_or o false) e) (switch_says w (ap (λ o. unless_read o BadChoice) e))) switch_said

pub yes_or_no_read : IsReader yes_or_no IsYes
yes_or_no_read = reader_of yes_or_no IsYes
    (λ w b e. subst (IsYes w) (ap (λ o. unwrap_or o false) e) (yes_says w (ap (λ o. unless_read o BadChoice) e))) yes_said

pub bytes_read : IsReader hex_bytes IsHex
bytes_read = reader_of hex_bytes IsHex
    (λ w bs e. subst (IsHex w) (ap (λ o. unwrap_or o []) e) (hex_bytes_says w (ap (λ o. unless_read o BadHex) e))) hex_bytes_said

pub byte_read : IsReader hex_byte IsHexByte
byte_read = reader_of hex_byte IsHexByte
    (λ w b e. byte_of_result w (decode_of w) b refl e) hex_byte_said

pub ends_read : IsReader item_ends HasEnds
ends_read = reader_of item_ends HasEnds ends_say ends_said

pub hex_ends_read : IsReader hex_ends HasHexEnds
hex_ends_read = reader_of hex_ends HasHexEnds hex_ends_say hex_ends_said

pub looks_read : IsReader look_named IsLookName
looks_read = reader_of look_named IsLookName look_spelled look_said

pub line_words_read : IsReader line_word IsSpelled
line_words_read = reader_of line_word IsSpelled line_word_spelled (λ w k e. ap line_word e ∙ line_word-spelling k)

-- ---- what is wrong with an item

pub item_taken : (w : List ℕ) → (item_fault w ≡ None) ↔ ((r : ℕ × ℕ) × IsItem w r)
item_taken w = (λ e. (the_ends w, item_says w e), λ h. (item_said w h.0 h.1).0)

turned_round : (b : Bool) → when b BadRange ≡ Some BadRange → b ≡ true
turned_round true e = refl
turned_round false e = absurd cc

never_hex : (b : Bool) → when b BadRange ≡ Some BadHex → ⊥
never_hex true e = absurd cc
never_hex false e = absurd cc

range_of : (w : List ℕ) (o : Option (ℕ × ℕ)) → item_ends w ≡ o → ends_fault o ≡ Some BadRange → (r : ℕ × ℕ) × HasEnds w r × (r.1 < r.0)
range_of w None e f = absurd cc
range_of w (Some r) e f = (r, ends_say w r e, ltb-true _ _ (turned_round _ f))

pub item_turned_round : (w : List ℕ) → (item_fault w ≡ Some BadRange) ↔ ((r : ℕ × ℕ) × HasEnds w r × (r.1 < r.0))
item_turned_round w = (
  range_of w (item_ends w) refl,
  λ h. let e = ends_said w h.0 h.1 in let b : nat_lt h.0.1 h.0.0 ≡ true = lt-ltb _ _ h.2 in rw (e, b) refl,
)

no_ends : (w : List ℕ) (o : Option (ℕ × ℕ)) → item_ends w ≡ o → ends_fault o ≡ Some BadHex → (r : ℕ × ℕ) → HasEnds w r → ⊥
no_ends w None e f r h = some_is_none (item_ends w) r (ends_said w r h) e
no_ends w (Some q) e f r h = never_hex _ f

pub item_without_ends : (w : List ℕ) → (item_fault w ≡ Some BadHex) ↔ ((r : ℕ × ℕ) → HasEnds w r → ⊥)
item_without_ends w = (
  no_ends w (item_ends w) refl,
  λ n. let e = none_of (item_ends w) (λ r f. n r (ends_say w r f)) in rw e refl,
)

-- ---- what is wrong with an item of scalars

pub scalar_item_taken : (w : List ℕ) → (scalar_item_fault w ≡ None) ↔ ((r : ℕ × ℕ) × IsScalarItem w r)
scalar_item_taken w = (λ e. (the_hex_ends w, scalar_item_says w e), λ h. (scalar_item_said w h.0 h.1).0)

no_item : (low high : ℕ) → (not (is_scalar low) || not (is_scalar high) || nat_lt high low) ≡ true
    → (is_scalar low ≡ false) ⊎ (is_scalar high ≡ false) ⊎ (high < low)
no_item low high e = elim (or_cases (not (is_scalar low) || not (is_scalar high)) (nat_lt high low) e) [
  | inl f ↦ elim (or_cases (not (is_scalar low)) (not (is_scalar high)) f) [
    | inl g ↦ inl (not-true _ g)
    | inr g ↦ inr (inl (not-true _ g))
  ]
  | inr f ↦ inr (inr (ltb-true _ _ f))
]

is_no_item : (low high : ℕ) → (is_scalar low ≡ false) ⊎ (is_scalar high ≡ false) ⊎ (high < low)
    → (not (is_scalar low) || not (is_scalar high) || nat_lt high low) ≡ true
is_no_item low high h = elim h [
  | inl e ↦ or_left _ _ (or_left _ _ (not_from_false _ e))
  | inr k ↦ elim k [
    | inl e ↦ or_left _ _ (or_right _ _ (not_from_false _ e))
    | inr l ↦ or_right _ _ (lt-ltb _ _ l)
  ]
]

scalar_range_of : (w : List ℕ) (o : Option (ℕ × ℕ)) → hex_ends w ≡ o → scalar_ends_fault o ≡ Some BadRange
    → (r : ℕ × ℕ) × HasHexEnds w r × ((is_scalar r.0 ≡ false) ⊎ (is_scalar r.1 ≡ false) ⊎ (r.1 < r.0))
scalar_range_of w None e f = absurd cc
scalar_range_of w (Some r) e f = (r, hex_ends_say w r e, no_item r.0 r.1 (turned_round _ f))

pub scalar_item_out_of_range : (w : List ℕ) → (scalar_item_fault w ≡ Some BadRange)
    ↔ ((r : ℕ × ℕ) × HasHexEnds w r × ((is_scalar r.0 ≡ false) ⊎ (is_scalar r.1 ≡ false) ⊎ (r.1 < r.0)))
scalar_item_out_of_range w = (
  scalar_range_of w (hex_ends w) refl,
  λ h. let e = hex_ends_said w h.0 h.1 in let b = is_no_item h.0.0 h.0.1 h.2 in rw (e, b) refl,
)

no_hex_ends : (w : List ℕ) (o : Option (ℕ × ℕ)) → hex_ends w ≡ o → scalar_ends_fault o ≡ Some BadHex → (r : ℕ × ℕ) → HasHexEnds w r → ⊥
no_hex_ends w None e f r h = some_is_none (hex_ends w) r (hex_ends_said w r h) e
no_hex_ends w (Some q) e f r h = never_hex _ f

pub scalar_item_without_ends : (w : List ℕ) → (scalar_item_fault w ≡ Some BadHex) ↔ ((r : ℕ × ℕ) → HasHexEnds w r → ⊥)
scalar_item_without_ends w = (
  no_hex_ends w (hex_ends w) refl,
  λ n. let e = none_of (hex_ends w) (λ r f. n r (hex_ends_say w r f)) in rw e refl,
)
