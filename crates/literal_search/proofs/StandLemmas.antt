-- Where literals stand in a haystack.
use Rattle.std.proofs.Common.{◌≡◌, ℕ, ◌+◌, ◌-◌, ◌≤◌, true, List, [], ◌∷◌, ◌++◌, length, drop}
use Rattle.std.proofs.Common.{refl, sym, ap, ◌∙◌, arith, append_assoc, length-append, length-drop, drop-drop, slice_get, Some}
use Rattle.std.proofs.Common.{length-take-le}
use Rattle.std.proofs.lemmas.List.{drop_more, take-append-drop}
use Rattle.std.proofs.lemmas.Option.{slice_get_within, get_or_from_slice_get}
use Rattle.std.specs.List.{starts_with, slice_range}
use Rattle.std.specs.Bool.{nat_eq}
use Rattle.std.proofs.lemmas.Bool.Decides.{Decides-eqb}
use Rattle.std.proofs.lemmas.Slice.Eq.{starts_is}
use Rattle.hir_core.specs.Means.{stands}
use Rattle.literal_search.specs.Literals.{KeepsAll, ListsPrefixes, Crosses, BeginsBy, IsOneOf, ContainsOne}
use Rattle.literal_search.proofs.ListLemmas.{prefix_rest}

-- ---- one literal
-- the haystack from an offset on is the bytes that stand there, and what follows
pub stands_rest : (h : List ℕ) (i : ℕ) (bytes : List ℕ) → stands h i bytes ≡ true → drop i h ≡ bytes ++ drop (length bytes) (drop i h)
stands_rest h i bytes e = (starts_is Decides-eqb (drop i h) bytes true (sym e)).0 refl

pub rest_stands : (h : List ℕ) (i : ℕ) (bytes rest : List ℕ) → drop i h ≡ bytes ++ rest → stands h i bytes ≡ true
rest_stands h i bytes rest e = (starts_is Decides-eqb (drop i h) bytes (stands h i bytes) refl).1 rest e

pub empty_stands : (h : List ℕ) (i : ℕ) → stands h i [] ≡ true
empty_stands h i = rest_stands h i [] (drop i h) refl

-- two literals, one after the other
pub both_stand : (h : List ℕ) (i k : ℕ) (a b : List ℕ) → k ≡ i + length a → stands h i a ≡ true → stands h k b ≡ true →
    stands h i (a ++ b) ≡ true
both_stand h i k a b at first second =
    let after : drop (length a) (drop i h) ≡ drop k h = drop-drop (length a) i h ∙ ap (λ n. drop n h) (sym at) in
    let rest : List ℕ = drop (length b) (drop k h) in
    let whole : drop i h ≡ (a ++ b) ++ rest =
    stands_rest h i a first ∙ ap (λ t. a ++ t) (after ∙ stands_rest h k b second) ∙ sym (append_assoc a b rest) in
    rest_stands h i (a ++ b) rest whole

pub prefix_stands : (h : List ℕ) (i : ℕ) (bytes prefix : List ℕ) → stands h i bytes ≡ true → starts_with nat_eq bytes prefix ≡ true →
    (stands h i prefix ≡ true) × (length prefix ≤ length bytes)
prefix_stands h i bytes prefix there begins =
    let rest : List ℕ = drop (length bytes) (drop i h) in
    let more : List ℕ = drop (length prefix) bytes in
    let parts : bytes ≡ prefix ++ more = prefix_rest bytes prefix begins in
    let whole : drop i h ≡ prefix ++ (more ++ rest) =
    stands_rest h i bytes there ∙ ap (λ (t : List ℕ). t ++ rest) parts ∙ append_assoc prefix more rest in
    (rest_stands h i prefix (more ++ rest) whole, omega (arith, ap length parts, length-append prefix more))

-- one byte
pub byte_stands : (h : List ℕ) (i b : ℕ) → slice_get h i ≡ Some b → stands h i (b ∷ []) ≡ true
byte_stands h i b e =
    rest_stands h i (b ∷ []) (drop (i + 1) h)
    (drop_more h i b (slice_get_within h i b e) ∙ ap (λ x. x ∷ drop (i + 1) h) (get_or_from_slice_get h i b b e))

-- the bytes of a span stand at its start
pub part_stands : (h : List ℕ) (i j : ℕ) → i ≤ j → j ≤ length h →
    (stands h i (slice_range h i j) ≡ true) × (j ≡ i + length (slice_range h i j))
part_stands h i j forward within = (
  rest_stands h i (slice_range h i j) (drop (j - i) (drop i h)) (sym (take-append-drop (j - i) (drop i h))),
  omega (arith, length-take-le (j - i) (drop i h) (omega (arith, length-drop i h)), length-drop i h),
)

-- ---- lists
pub begins_of_one : (ls : List (List ℕ)) (h : List ℕ) (i j : ℕ) → IsOneOf ls h i j → BeginsBy ls h i j
begins_of_one ls h i j o = record { literal = o.literal; listed = o.listed; within = omega (arith, o.ends); there = o.there }

pub contains_of_begins : (ls : List (List ℕ)) (h : List ℕ) (i j : ℕ) → BeginsBy ls h i j → ContainsOne ls h i j
contains_of_begins ls h i j b = record { at = i; from = omega arith; begins = b }

pub begins_wider : (ls : List (List ℕ)) (h : List ℕ) (i k j : ℕ) → k ≤ j → BeginsBy ls h i k → BeginsBy ls h i j
begins_wider ls h i k j w b = record { literal = b.literal; listed = b.listed; within = omega (arith, w, b.within); there = b.there }

pub contains_wider : (ls : List (List ℕ)) (h : List ℕ) (i k l j : ℕ) → i ≤ k → l ≤ j → ContainsOne ls h k l → ContainsOne ls h i j
contains_wider ls h i k l j low high c =
    record { at = c.at; from = omega (arith, low, c.from); begins = begins_wider ls h c.at l j high c.begins }

pub begins_cut : (old new : List (List ℕ)) (h : List ℕ) (i j : ℕ) → ListsPrefixes old new → BeginsBy old h i j → BeginsBy new h i j
begins_cut old new h i j p b =
    let one = p.prefixes b.literal b.listed in
    let part = prefix_stands h i b.literal one.prefix b.there one.begins in
    record { literal = one.prefix; listed = one.listed; within = omega (arith, b.within, part.1); there = part.0 }

pub contains_cut : (old new : List (List ℕ)) (h : List ℕ) (i j : ℕ) → ListsPrefixes old new → ContainsOne old h i j → ContainsOne new h i j
contains_cut old new h i j p c = record { at = c.at; from = c.from; begins = begins_cut old new h c.at j p c.begins }

pub one_kept : (old new : List (List ℕ)) (h : List ℕ) (i j : ℕ) → KeepsAll old new → IsOneOf old h i j → IsOneOf new h i j
one_kept old new h i j k o = record { literal = o.literal; listed = k.keeps o.literal o.listed; ends = o.ends; there = o.there }

pub begins_crossed : (first second new : List (List ℕ)) (h : List ℕ) (i k j : ℕ) → Crosses first second new → IsOneOf first h i k →
    BeginsBy second h k j → BeginsBy new h i j
begins_crossed first second new h i k j x a b = record {
  literal = a.literal ++ b.literal;
  listed = x.crosses a.literal b.literal a.listed b.listed;
  within = omega (arith, a.ends, b.within, length-append a.literal b.literal);
  there = both_stand h i k a.literal b.literal a.ends a.there b.there;
}

pub one_crossed : (first second new : List (List ℕ)) (h : List ℕ) (i k j : ℕ) → Crosses first second new → IsOneOf first h i k →
    IsOneOf second h k j → IsOneOf new h i j
one_crossed first second new h i k j x a b = record {
  literal = a.literal ++ b.literal;
  listed = x.crosses a.literal b.literal a.listed b.listed;
  ends = omega (arith, a.ends, b.ends, length-append a.literal b.literal);
  there = both_stand h i k a.literal b.literal a.ends a.there b.there;
}
