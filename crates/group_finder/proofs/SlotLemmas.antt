-- Slots that are written one by one, and the slots of a match in parts.
use Rattle.std.proofs.Common.{◌≡◌, ℕ, zero, suc, ◌+◌, ◌-◌, ◌<◌, ◌≤◌, List, [], ◌∷◌, ◌++◌, All, length, map, take, drop, replicate, slice_index, slice_set, Option, Some, None, refl, sym, ap, ap₂, ◌∙◌, subst, arith, ne_eqb, ⊎_elim, ◌⊎◌}
use Rattle.std.proofs.lemmas.Bool.{cond-false}
use Rattle.std.proofs.lemmas.List.Elements.{All-head, All-tail, All-weaker}
use Rattle.std.specs.List.{range_with_len}
use Rattle.std.specs.Option.{option_or}
use Rattle.regex_hir.specs.Find.{Match, last_write, slot_of}
use Rattle.regex_hir.proofs.OptionLemmas.{option_or-None}
use Rattle.regex_vm.specs.Found.{cell, group_cells}
use Rattle.group_finder.specs.Slots.{no_offset, offset_or_none, offset_of_cell, slot_value, slots_of}
use Rattle.group_finder.specs.Engines.{offsets_of}

-- ---- a list whose first elements are changed already
abbrev pub changed : (ℕ → ℕ) → ℕ → List ℕ → List ℕ
changed f i xs = map f (take i xs) ++ drop i xs

step : (f : ℕ → ℕ) (xs : List ℕ) (i : ℕ) → i < length xs →
    slice_set (changed f i xs) i (f (slice_index (changed f i xs) i)) ≡ changed f (suc i) xs
step f [] i below = absurd (omega (arith, below))
step f (x ∷ xs) zero below = refl
step f (x ∷ xs) (suc i) below = ap (λ (ys : List ℕ). f x ∷ ys) (step f xs i (omega (arith, below)))

pub one_more_changed : (f : ℕ → ℕ) (xs : List ℕ) (i : ℕ) (now new : List ℕ) (y : ℕ) → i < length xs → now ≡ changed f i xs →
    y ≡ f (slice_index now i) → new ≡ slice_set now i y → new ≡ changed f (i + 1) xs
one_more_changed f xs i now new y below is here put =
    let next : suc i ≡ i + 1 = omega arith in
    put
    ∙ ap (slice_set now i) here
    ∙ ap (λ (ys : List ℕ). slice_set ys i (f (slice_index ys i))) is
    ∙ step f xs i below
    ∙ ap (λ (n : ℕ). changed f n xs) next

pub all_changed : (f : ℕ → ℕ) (xs : List ℕ) (i : ℕ) → length xs ≤ i → changed f i xs ≡ map f xs
all_changed f [] zero above = refl
all_changed f [] (suc i) above = refl
all_changed f (x ∷ xs) zero above = absurd (omega (arith, above))
all_changed f (x ∷ xs) (suc i) above = ap (λ (ys : List ℕ). f x ∷ ys) (all_changed f xs i (omega (arith, above)))

pub all_alike : (y : ℕ) (xs : List ℕ) → map (λ (x : ℕ). y) xs ≡ replicate (length xs) y
all_alike y [] = refl
all_alike y (x ∷ xs) = ap (λ (ys : List ℕ). y ∷ ys) (all_alike y xs)

-- ---- the slots of a match
offset_in_cell : (o : Option ℕ) → offset_of_cell (cell o) ≡ offset_or_none o
offset_in_cell None = refl
offset_in_cell (Some i) =
    let next : i + 1 ≡ suc i = omega arith in
    ap offset_of_cell next

pub along : (f g : ℕ → ℕ) (k n : ℕ) → ((i : ℕ) → f i ≡ g i) → map f (range_with_len k n) ≡ map g (range_with_len k n)
along f g k zero same = refl
along f g k (suc n) same = ap₂ ◌∷◌ (same k) (along f g (k + 1) n same)

map_map : (f g : ℕ → ℕ) (xs : List ℕ) → map f (map g xs) ≡ map (λ x. f (g x)) xs
map_map f g [] = refl
map_map f g (x ∷ xs) = ap (λ (ys : List ℕ). f (g x) ∷ ys) (map_map f g xs)

-- the cells of a match, as offsets
pub cells_as_offsets : (m : Match) (n : ℕ) → map offset_of_cell (group_cells m n) ≡ offsets_of m n
unfolding group_cells
cells_as_offsets m n =
    map_map offset_of_cell (λ k. cell (last_write m.trace.writes (k + 2))) (range_with_len 0 n)
    ∙ along _ _ 0 n (λ i. offset_in_cell (last_write m.trace.writes (i + 2)))

pub slot_after_ends : (m : Match) (k : ℕ) → slot_of m (k + 2) ≡ last_write m.trace.writes (k + 2)
unfolding slot_of
slot_after_ends m k =
    ap₂ option_or
    (ap (option_or (last_write m.trace.writes (k + 2))) (cond-false _ (Some m.trace.end) None (ne_eqb 1 (k + 2) (omega arith)))
    ∙ option_or-None _)
    (cond-false _ (Some m.start) None (ne_eqb 0 (k + 2) (omega arith)))
    ∙ option_or-None _

pub never_written : (ws : List (ℕ × ℕ)) (slot : ℕ) → All (λ (w : ℕ × ℕ). w.0 < slot) ws → last_write ws slot ≡ None
never_written [] slot all = refl
never_written (w ∷ ws) slot all =
    ap₂ option_or (never_written ws slot (All-tail (λ (v : ℕ × ℕ). v.0 < slot) w ws all))
    (cond-false _ (Some w.1) None (ne_eqb w.0 slot (omega (arith, All-head (λ (v : ℕ × ℕ). v.0 < slot) w ws all))))

-- what is in slots from a number on
abbrev offsets_from : Match → ℕ → ℕ → List ℕ
offsets_from m k n = map (λ i. offset_or_none (last_write m.trace.writes (i + 2))) (range_with_len k n)

in_parts : (m : Match) (k a b j : ℕ) → k + a ≡ j → (n : ℕ) → a + b ≡ n → offsets_from m k n ≡ offsets_from m k a ++ offsets_from m j b
in_parts m k zero b j e n whole =
    let here : k ≡ j = omega (arith, e) in
    let all : n ≡ b = omega (arith, whole) in
    ap₂ (offsets_from m) here all
in_parts m k (suc a) b j e zero whole = absurd (omega (arith, whole))
in_parts m k (suc a) b j e (suc n) whole =
    ap (λ (ys : List ℕ). offset_or_none (last_write m.trace.writes (k + 2)) ∷ ys)
    (in_parts m (k + 1) a b j (omega (arith, e)) n (omega (arith, whole)))

-- after the last slot that is written
unwritten : (m : Match) (k n : ℕ) → All (λ (w : ℕ × ℕ). w.0 < k + 2) m.trace.writes → offsets_from m k n ≡ replicate n no_offset
unwritten m k zero all = refl
unwritten m k (suc n) all =
    ap₂ ◌∷◌ (ap offset_or_none (never_written m.trace.writes (k + 2) all))
    (unwritten m (k + 1) n
    (All-weaker (λ (w : ℕ × ℕ). w.0 < k + 2) (λ w. w.0 < k + 1 + 2) (λ w below. omega (arith, below)) m.trace.writes all))

-- the slots of a match are its ends, and then its offsets
from_second : (m : Match) (k n : ℕ) → map (slot_value m) (range_with_len (k + 2) n) ≡ offsets_from m k n
from_second m k zero = refl
from_second m k (suc n) =
    let here : k + 2 ≡ suc (suc k) = omega arith in
    let next : k + 2 + 1 ≡ k + 1 + 2 = omega arith in
    ap₂ ◌∷◌ (ap (slot_value m) here ∙ ap offset_or_none (slot_after_ends m k))
    (ap (λ (i : ℕ). map (slot_value m) (range_with_len i n)) next ∙ from_second m (k + 1) n)

ends_and_offsets : (m : Match) (n : ℕ) → slots_of m (suc (suc n)) ≡ m.start ∷ m.trace.end ∷ offsets_of m n
unfolding slots_of
ends_and_offsets m n = ap (λ (ys : List ℕ). m.start ∷ m.trace.end ∷ ys) (from_second m 0 n)

-- What is written in parts, and past the slots of the automaton without an offset, are the slots.
pub slots_in_parts : (m : Match) (count room rest n : ℕ) (ends own after slots : List ℕ) → 2 ≤ count →
    All (λ (w : ℕ × ℕ). w.0 < count) m.trace.writes → 2 + (room + rest) ≡ n → (rest ≡ 0) ⊎ (room ≡ count - 2) →
    ends ≡ m.start ∷ m.trace.end ∷ [] → own ≡ offsets_of m room → after ≡ replicate rest no_offset →
    slots ≡ ends ++ (own ++ after) → slots ≡ slots_of m n
slots_in_parts m count room rest n ends own after slots two within whole fits ends_are own_is after_is slots_are =
    let past : offsets_from m room rest ≡ replicate rest no_offset =
    ⊎_elim
    (λ (none : rest ≡ 0). subst (λ r. offsets_from m room r ≡ replicate r no_offset) (sym none) refl)
    (λ (all : room ≡ count - 2). unwritten m room rest
    (All-weaker (λ (w : ℕ × ℕ). w.0 < count) (λ w. w.0 < room + 2) (λ w below. omega (arith, below, all, two)) m.trace.writes within))
    fits in
    let total : suc (suc (room + rest)) ≡ n = omega (arith, whole) in
    slots_are
    ∙ ap₂ ◌++◌ ends_are (ap₂ ◌++◌ own_is (after_is ∙ sym past) ∙ sym (in_parts m 0 room rest room (omega arith) (room + rest) refl))
    ∙ sym (ends_and_offsets m (room + rest))
    ∙ ap (slots_of m) total

-- at most one slot
pub few_slots : (m : Match) (n : ℕ) → n < 2 → replicate n m.start ≡ slots_of m n
unfolding slots_of
few_slots m zero few = refl
few_slots m (suc zero) few = refl
few_slots m (suc (suc n)) few = absurd (omega (arith, few))
