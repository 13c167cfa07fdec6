-- A list of numbers, and a table with the position of each number in it.
use Rattle.std.proofs.Common.{◌≡◌, ◌≢◌, ℕ, ◌+◌, ◌<◌, ◌≤◌, true, false, List, [], ◌∷◌, ◌++◌, length, set, get_or, slice_index, take}
use Rattle.std.proofs.Common.{sym, ap, ◌∙◌, subst, ⊎_elim, arith, length-set, get_or-set_same, get_or-set_other, All}
use Rattle.std.proofs.lemmas.Bool.{cases_eq, false_from_ne_true}
use Rattle.std.proofs.lemmas.Bool.Decides.{Decides-eqb}
use Rattle.std.proofs.lemmas.Cmp.{nat_eq_equiv}
use Rattle.std.proofs.lemmas.Map.Views.{Contains-from_any, list_any-from_Contains, exact_unsigned_eq}
use Rattle.std.proofs.lemmas.Map.Keys.{IsDistinct-from_apart}
use Rattle.std.proofs.lemmas.List.{get_or-take, get_or_default, take_more_set}
use Rattle.std.proofs.lemmas.Grind.{common_steps}
use Rattle.std.specs.List.{IsDistinct}
use Rattle.std.specs.Bool.{nat_eq}
use Rattle.std.specs.Cmp.{both_ways}
use Rattle.nfa_core.specs.NameSets.{is_in}
use Rattle.nfa_core.specs.Paired.{IsPaired}
use Rattle.nfa_core.proofs.NameLemmas.{has_room}

length_of_first : (xs : List ℕ) (n : ℕ) → n ≤ length xs → length (take n xs) ≡ n
length_of_first xs n h = grind (arith, common_steps)

read_first : (xs : List ℕ) (n k d o : ℕ) → k < n → n ≤ length xs → get_or (take n xs) k d ≡ get_or xs k o
read_first xs n k d o h within = grind (arith, common_steps, get_or-take)

-- a number of the list stands at its position
held_at : (dense places : List ℕ) (n name : ℕ) → IsPaired dense places n → is_in name (take n dense) ≡ true →
    (slice_index places name < n) × (slice_index dense (slice_index places name) ≡ name)
held_at dense places n name p h =
    let found = Contains-from_any exact_unsigned_eq name (take n dense) h in
    let len = length_of_first dense n p.within in
    let inside : found.0 < n = omega (arith, len, found.1) in
    let read : slice_index dense found.0 ≡ name = sym (read_first dense n found.0 name 0 inside p.within) ∙ found.2 in
    let place : slice_index places name ≡ found.0 = ap (λ x. slice_index places x) (sym read) ∙ (p.paired found.0 inside).1 in
    (subst (λ (x : ℕ). x < n) (sym place) inside, ap (λ x. slice_index dense x) place ∙ read)

held_from : (dense places : List ℕ) (n name k : ℕ) → IsPaired dense places n → k < n → slice_index dense k ≡ name →
    is_in name (take n dense) ≡ true
held_from dense places n name k p inside read =
    let len = length_of_first dense n p.within in
    list_any-from_Contains nat_eq_equiv name (take n dense) (
      k,
      omega (arith, len, inside),
      read_first dense n k name 0 inside p.within ∙ read,
    )

-- what is read from the tables shows whether the list has the number
pub held_inside : (dense places : List ℕ) (n name place read d o : ℕ) → IsPaired dense places n → name < length places →
    place ≡ get_or places name d → place < n → read ≡ get_or dense place o → nat_eq read name ≡ is_in name (take n dense)
held_inside dense places n name place read d o p h at inside reads =
    let here : place ≡ slice_index places name = at ∙ get_or_default places name d 0 h in
    let there : read ≡ slice_index dense place = reads ∙ get_or_default dense place o 0 (omega (arith, inside, p.within)) in
    both_ways _ _
    (λ e. held_from dense places n name place p inside (sym there ∙ (Decides-eqb read name).0 e))
    (λ held. (Decides-eqb read name).1 (there ∙ ap (λ x. slice_index dense x) here ∙ (held_at dense places n name p held).1))

pub held_outside : (dense places : List ℕ) (n name place d : ℕ) → IsPaired dense places n → name < length places →
    place ≡ get_or places name d → n ≤ place → false ≡ is_in name (take n dense)
held_outside dense places n name place d p h at past =
    let here : place ≡ slice_index places name = at ∙ get_or_default places name d 0 h in
    sym (false_from_ne_true _ (λ held. let inside = (held_at dense places n name p held).0 in absurd (omega (arith, inside, here, past))))

pub distinct : (dense places : List ℕ) (n : ℕ) → IsPaired dense places n → IsDistinct nat_eq (take n dense)
distinct dense places n p = IsDistinct-from_apart nat_eq (take n dense) (λ i j d before inside.
    let len = length_of_first dense n p.within in
    let second : j < n = omega (arith, len, inside) in
    let first : i < n = omega (arith, before, second) in
    false_from_ne_true _ (λ e.
    let same = (Decides-eqb (get_or (take n dense) i d) (get_or (take n dense) j d)).0 e in
    let reads : slice_index dense i ≡ slice_index dense j = sym (read_first dense n i d 0 first p.within) ∙ same
    ∙ read_first dense n j d 0 second p.within in
    let places_of : i ≡ j = sym (p.paired i first).1 ∙ ap (λ x. slice_index places x) reads ∙ (p.paired j second).1 in
    absurd (omega (arith, places_of, before))))

pub below : (dense places : List ℕ) (n : ℕ) → IsPaired dense places n → All (λ x. x < length places) (take n dense)
below dense places n p k d h =
    let len = length_of_first dense n p.within in
    let inside : k < n = omega (arith, len, h) in
    subst (λ (x : ℕ). x < length places) (sym (read_first dense n k d 0 inside p.within)) (p.paired k inside).0

-- a number that is absent leaves room for it
pub room : (dense places : List ℕ) (n name : ℕ) → IsPaired dense places n → name < length places → is_in name (take n dense) ≡ false →
    n < length dense
room dense places n name p h absent =
    let len = length_of_first dense n p.within in
    let most = has_room (take n dense) (length places) name (distinct dense places n p) (below dense places n p) h absent in
    omega (arith, len, most, p.even)

pub added : (dense places : List ℕ) (n name : ℕ) → IsPaired dense places n → name < length places → is_in name (take n dense) ≡ false →
    IsPaired (set dense n name) (set places name n) (n + 1)
added dense places n name p h absent =
    let free = room dense places n name p h absent in
    let dense_len = length-set dense n name in
    let places_len = length-set places name n in
    record {
      within = omega (arith, dense_len, free);
      even = omega (arith, dense_len, places_len, p.even);
      small = omega (arith, places_len, p.small);
      paired = λ k inside. ⊎_elim
          (λ (e : k ≡ n).
          let here : slice_index (set dense n name) k ≡ name = rw e (get_or-set_same dense n name 0 free) in
          rw here (rw places_len h, get_or-set_same places name n 0 h ∙ sym e))
          (λ (ne : k ≢ n).
          let old : k < n = omega (arith, ne, inside) in
          let other : slice_index dense k ≢ name = λ e. let t : true ≡ false = sym (held_from dense places n name k p old e) ∙ absent in
          cc in
          let here : slice_index (set dense n name) k ≡ slice_index dense k = get_or-set_other dense n k name 0 ne in
          rw here (rw places_len (p.paired k old).0, get_or-set_other places name (slice_index dense k) n 0 other ∙ (p.paired k old).1))
          (cases_eq k n);
    }

pub names_added : (dense : List ℕ) (n name : ℕ) → n < length dense → take (n + 1) (set dense n name) ≡ take n dense ++ name ∷ []
names_added dense n name h = take_more_set dense n name h
