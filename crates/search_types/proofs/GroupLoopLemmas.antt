-- The groups of a pattern as a loop takes one after the other.
use Rattle.std.proofs.Common.{◌≡◌, ℕ, ◌+◌, ◌<◌, ◌≤◌, List, [], ◌∷◌, ◌++◌, map, length, drop, get_or, None, sym, ap, subst, ◌∙◌, arith}
use Rattle.std.proofs.Common.{Result, Ok, Err, length-append, append_assoc}
use Rattle.std.specs.Prelude.{Option, IfOk, IsErrAnd}
use Rattle.std.proofs.lemmas.List.{map-append, length-map, drop_more, drop_all, append-nil}
use Rattle.search_core.specs.Index.{greatest_index}
use Rattle.search_types.specs.Groups.{Name}
use Rattle.search_types.specs.GroupFaults.{group_fault_after, fault_after, pattern_fault}
use Rattle.search_types.proofs.GroupLemmas.{none_first, none_second}

-- an error ensures nothing of a success
pub failed : {A E : Type 0} (P : A → Type 0) (Q : E → Type 0) (r : Result A E) → IsErrAnd r Q → IfOk r P
failed P Q (Ok a) is = absurd is
failed P Q (Err e) is = tt

seen_first : {S B : Type 0} (see : S → B) (xs : List S) (i : ℕ) (x : S) → i < length xs → x ≡ get_or xs i x →
    map see (drop i xs) ≡ see x ∷ map see (drop (i + 1) xs)
seen_first see xs i x inside is =
    ap (map see) (drop_more xs i x inside) ∙ ap (λ z. see z ∷ map see (drop (i + 1) xs)) (sym is)

pub seen_pushed : {S B : Type 0} (see : S → B) (old new : List S) (x y : S) → see y ≡ see x → new ≡ old ++ y ∷ [] →
    map see new ≡ map see old ++ see x ∷ []
seen_pushed see old new x y same pushed =
    ap (map see) pushed ∙ map-append see old (y ∷ []) ∙ ap (λ z. map see old ++ z ∷ []) same

pub all_seen : {S B : Type 0} (see : S → B) (xs old new : List S) (i : ℕ) (x : S) (whole : List B) → i < length xs →
    x ≡ get_or xs i x → map see new ≡ map see old ++ see x ∷ [] → map see old ++ map see (drop i xs) ≡ whole →
    map see new ++ map see (drop (i + 1) xs) ≡ whole
all_seen see xs old new i x whole inside is more so_far =
    ap (λ l. l ++ map see (drop (i + 1) xs)) more
    ∙ append_assoc (map see old) (see x ∷ []) (map see (drop (i + 1) xs))
    ∙ ap (λ l. map see old ++ l) (sym (seen_first see xs i x inside is)) ∙ so_far

pub sound_first : {S : Type 0} (see : S → Option Name) (xs : List S) (old : List (Option Name)) (i : ℕ) (x : S) → i < length xs →
    x ≡ get_or xs i x → fault_after 0 old (map see (drop i xs)) ≡ None → group_fault_after 0 old (see x) ≡ None
sound_first see xs old i x inside is sound =
    none_first (group_fault_after 0 old (see x)) (fault_after 0 (old ++ see x ∷ []) (map see (drop (i + 1) xs)))
    (ap (fault_after 0 old) (sym (seen_first see xs i x inside is)) ∙ sound)

pub sound_rest : {S : Type 0} (see : S → Option Name) (xs old new : List S) (i : ℕ) (x : S) → i < length xs → x ≡ get_or xs i x →
    map see new ≡ map see old ++ see x ∷ [] → fault_after 0 (map see old) (map see (drop i xs)) ≡ None →
    fault_after 0 (map see new) (map see (drop (i + 1) xs)) ≡ None
sound_rest see xs old new i x inside is more sound =
    ap (λ l. fault_after 0 l (map see (drop (i + 1) xs))) more
    ∙ none_second (group_fault_after 0 (map see old) (see x)) (fault_after 0 (map see old ++ see x ∷ []) (map see (drop (i + 1) xs)))
    (ap (fault_after 0 (map see old)) (sym (seen_first see xs i x inside is)) ∙ sound)

one_longer : (new old most : ℕ) → new ≡ old + 1 → old ≤ most → new ≤ most + 1
one_longer new old most e few = omega arith

pub room_pushed : {S : Type 0} (old new seen : List S) (y : S) → new ≡ old ++ y ∷ [] → seen ≡ old → length seen ≤ greatest_index →
    length new ≤ greatest_index + 1
room_pushed old new seen y pushed same few =
    one_longer (length new) (length seen) greatest_index
    (ap length pushed ∙ length-append old (y ∷ []) ∙ ap (λ l. length l + 1) (sym same)) few

-- ---- after the loop
pub all_read : {S B : Type 0} (see : S → B) (xs old : List S) (i : ℕ) (whole : List B) → length xs ≤ i →
    map see old ++ map see (drop i xs) ≡ whole → map see old ≡ whole
all_read see xs old i whole past so_far =
    sym (append-nil (map see old)) ∙ ap (λ l. map see old ++ map see l) (sym (drop_all i xs past)) ∙ so_far

sound_some : (names : List (Option Name)) → pattern_fault 0 names ≡ None → 0 < length names
sound_some [] h = cc
sound_some (name ∷ names) h = omega arith

pub some_read : (names whole : List (Option Name)) → names ≡ whole → pattern_fault 0 whole ≡ None → 0 < length names
some_read names whole e sound = subst (λ (l : List (Option Name)). 0 < length l) (sym e) (sound_some whole sound)

pub room_seen : {S B : Type 0} (see : S → B) (xs : List S) → length xs ≤ greatest_index + 1 → length (map see xs) ≤ greatest_index + 1
room_seen see xs few = subst (λ (n : ℕ). n ≤ greatest_index + 1) (sym (length-map xs see)) few
