-- Slots that are filled row by row.
use Rattle.std.proofs.Common.{◌≡◌, ℕ, zero, suc, ◌+◌, ◌-◌, ◌<◌, ◌≤◌, List, [], ◌∷◌, ◌++◌, All, length, map, slice_set, take, drop, min, replicate, refl, sym, ap, ◌∙◌, subst, arith, append_assoc, append-nil, length-append}
use Rattle.std.proofs.lemmas.List.{take-append-drop, take_at}
use Rattle.std.proofs.lemmas.List.Elements.{All-nil, All-cons, All-head, All-tail}
use Rattle.std.specs.List.{range_with_len}
use Rattle.regex_hir.specs.Find.{Match}
use Rattle.pattern_search.specs.Searches.{span_of_match}
use Rattle.meta_regex.specs.Regexes.{overlaid}
use Rattle.group_finder.specs.Slots.{slot_value, slots_of}
use Rattle.captures.specs.Captures.{rows_of}
use Rattle.captures.specs.Rows.{AreFilled}

-- ---- the first of a row
take_range : (f : ℕ → ℕ) (k room width : ℕ) → room ≤ width → take room (map f (range_with_len k width)) ≡ map f (range_with_len k room)
take_range f k zero width fits = refl
take_range f k (suc room) zero fits = absurd (omega (arith, fits))
take_range f k (suc room) (suc width) fits = ap (λ (ys : List ℕ). f k ∷ ys) (take_range f (k + 1) room width (omega (arith, fits)))

pub take_slots : (m : Match) (room width : ℕ) → room ≤ width → take room (slots_of m width) ≡ slots_of m room
unfolding slots_of
take_slots m room width fits = take_range (slot_value m) 0 room width fits

length_range : (f : ℕ → ℕ) (k n : ℕ) → length (map f (range_with_len k n)) ≡ n
length_range f k zero = refl
length_range f k (suc n) = ap suc (length_range f (k + 1) n)

pub length_slots : (m : Match) (n : ℕ) → length (slots_of m n) ≡ n
unfolding slots_of
length_slots m n = length_range (slot_value m) 0 n

pub take_alike : (x room width : ℕ) → room ≤ width → take room (replicate width x) ≡ replicate room x
take_alike x zero width fits = refl
take_alike x (suc room) zero fits = absurd (omega (arith, fits))
take_alike x (suc room) (suc width) fits = ap (λ (ys : List ℕ). x ∷ ys) (take_alike x room width (omega (arith, fits)))

pub length_alike : (x n : ℕ) → length (replicate n x) ≡ n
length_alike x zero = refl
length_alike x (suc n) = ap suc (length_alike x n)

-- ---- a match whose span is all that is wanted
pub slot_of_start : (m : Match) (start n : ℕ) → m.start ≡ start → n < 2 → replicate n start ≡ slots_of m n
unfolding slots_of
slot_of_start m start zero same few = refl
slot_of_start m start (suc zero) same few = ap (λ (i : ℕ). i ∷ []) (sym same)
slot_of_start m start (suc (suc n)) same few = absurd (omega (arith, few))

two_slots : (m : Match) → slots_of m 2 ≡ m.start ∷ m.trace.end ∷ []
unfolding slots_of
two_slots m = refl

pub slots_of_span : (m : Match) (start end n : ℕ) → span_of_match m ≡ (start, end) → n ≡ 2 → start ∷ end ∷ [] ≡ slots_of m n
slots_of_span m start end n span two =
    ap (λ (s : ℕ × ℕ). s.0 ∷ s.1 ∷ []) (sym span) ∙ sym (two_slots m) ∙ ap (slots_of m) (sym two)

-- ---- a row after those that are filled
lay_first : (xs old : List ℕ) (room : ℕ) → room ≡ min (length xs) (length old) → take room xs ++ drop room old ≡ overlaid xs old
unfolding overlaid
lay_first [] old zero e = refl
lay_first [] old (suc room) e = absurd (omega (arith, e))
lay_first (x ∷ xs) [] zero e = refl
lay_first (x ∷ xs) [] (suc room) e = absurd (omega (arith, e))
lay_first (x ∷ xs) (y ∷ ys) zero e = absurd (omega (arith, e))
lay_first (x ∷ xs) (y ∷ ys) (suc room) e = ap (λ (zs : List ℕ). x ∷ zs) (lay_first xs ys room (omega (arith, e)))

lay_next : (done old xs : List ℕ) (filled room : ℕ) → filled ≡ min (length done) (length old) → room ≡ min (length xs) (length old - filled) →
    take filled (overlaid done old) ++ (take room xs ++ drop room (drop filled (overlaid done old))) ≡ overlaid (done ++ xs) old
unfolding overlaid
lay_next [] old xs zero room e f = lay_first xs old room (omega (arith, f))
lay_next [] old xs (suc filled) room e f = absurd (omega (arith, e))
lay_next (d ∷ done) [] xs zero zero e f = refl
lay_next (d ∷ done) [] xs zero (suc room) e f = absurd (omega (arith, f))
lay_next (d ∷ done) [] xs (suc filled) room e f = absurd (omega (arith, e))
lay_next (d ∷ done) (y ∷ ys) xs zero room e f = absurd (omega (arith, e))
lay_next (d ∷ done) (y ∷ ys) xs (suc filled) room e f =
    ap (λ (zs : List ℕ). d ∷ zs) (lay_next done ys xs filled room (omega (arith, e)) (omega (arith, f)))

pub one_laid : {A : Type 0} (xs ys : List A) (x : A) → overlaid (xs ++ x ∷ []) ys ≡ slice_set (overlaid xs ys) (length xs) x
unfolding overlaid
one_laid [] [] x = refl
one_laid [] (y ∷ ys) x = refl
one_laid (a ∷ xs) [] x = refl
one_laid (a ∷ xs) (y ∷ ys) x = ap (λ (zs : List _). a ∷ zs) (one_laid xs ys x)

pub length_laid : {A : Type 0} (xs ys : List A) → length (overlaid xs ys) ≡ length ys
unfolding overlaid
length_laid [] ys = refl
length_laid (x ∷ xs) [] = refl
length_laid (x ∷ xs) (y ∷ ys) = ap suc (length_laid xs ys)

pub map_one_more : {A B : Type 0} (f : A → B) (xs : List A) (x : A) → map f (xs ++ x ∷ []) ≡ map f xs ++ f x ∷ []
map_one_more f [] x = refl
map_one_more f (a ∷ xs) x = ap (λ (zs : List _). f a ∷ zs) (map_one_more f xs x)

pub map_laid : {A B : Type 0} (f : A → B) (xs ys : List A) → map f (overlaid xs ys) ≡ overlaid (map f xs) (map f ys)
unfolding overlaid
map_laid f [] ys = refl
map_laid f (x ∷ xs) [] = refl
map_laid f (x ∷ xs) (y ∷ ys) = ap (λ (zs : List _). f x ∷ zs) (map_laid f xs ys)

-- what holds of each of the first list holds of as many of what it is laid over
pub all_laid : {A : Type 0} (P : A → Type 0) (xs ys : List A) → All P xs → All P (take (length xs) (overlaid xs ys))
unfolding overlaid
all_laid P [] ys each = All-nil P
all_laid P (x ∷ xs) [] each = All-nil P
all_laid P (x ∷ xs) (y ∷ ys) each =
    All-cons P x (take (length xs) (overlaid xs ys)) (All-head P x xs each) (all_laid P xs ys (All-tail P x xs each))

pub same_length : (done old now : List ℕ) (filled : ℕ) → AreFilled done old now filled → length now ≡ length old
same_length done old now filled it = ap length it.laid ∙ length_laid done old

pub filled_within : (done old now : List ℕ) (filled : ℕ) → AreFilled done old now filled → filled ≤ length now
filled_within done old now filled it = omega (arith, it.filled_are, same_length done old now filled it)

pub filled_more : (done old now new xs : List ℕ) (filled room : ℕ) → AreFilled done old now filled →
    room ≡ min (length xs) (length now - filled) → new ≡ take filled now ++ (take room xs ++ drop room (drop filled now)) →
    AreFilled (done ++ xs) old new (filled + room)
filled_more done old now new xs filled room it fits is =
    let same = same_length done old now filled it in
    let most : room ≡ min (length xs) (length old - filled) = omega (arith, fits, same) in
    record {
      laid = is
          ∙ ap (λ (zs : List ℕ). take filled zs ++ (take room xs ++ drop room (drop filled zs))) it.laid
          ∙ lay_next done old xs filled room it.filled_are most;
      filled_are = omega (arith, it.filled_are, most, length-append done xs);
    }

-- there is no room for it
pub filled_no_more : (done old now xs : List ℕ) (filled : ℕ) → AreFilled done old now filled → 0 ≡ min (length xs) (length now - filled) →
    AreFilled (done ++ xs) old now filled
filled_no_more done old now xs filled it none =
    let same : filled + 0 ≡ filled = omega arith in
    subst (AreFilled (done ++ xs) old now) same
    (filled_more done old now now xs filled 0 it none (sym (take-append-drop filled now)))

-- ---- the rows of matches
pub rows_more : (width : ℕ) (ms : List Match) (w : Match) → rows_of width (ms ++ w ∷ []) ≡ rows_of width ms ++ slots_of w width
rows_more width [] w = append-nil (slots_of w width)
rows_more width (m ∷ ms) w =
    ap (λ (ys : List ℕ). slots_of m width ++ ys) (rows_more width ms w)
    ∙ sym (append_assoc (slots_of m width) (rows_of width ms) (slots_of w width))

pub take_taken : {A : Type 0} (xs ys : List A) (n : ℕ) → n ≡ length xs → take n (xs ++ ys) ≡ xs
take_taken xs ys n e = take_at xs ys n (sym e)
