-- What is built from a sound NFA satisfies `IsDfa`.
use Rattle.std.proofs.Common.{◌≡◌, ℕ, zero, suc, ◌+◌, ◌-◌, ◌<◌, ◌≤◌, Bool, true, false, ◌&&◌, not, ◌⊎◌, nat_lt, max, List, length, get_or}
use Rattle.std.proofs.Common.{map, take, Option, Some, None, if◌then◌else◌, replicate, inl, inr, refl, sym, ap, ◌∙◌, subst, ⊎_elim}
use Rattle.std.proofs.Common.{arith}
use Rattle.std.proofs.lemmas.Bool.{cases_Bool, cases_lt, lt-ltb}
use Rattle.std.proofs.lemmas.List.{length-take, length-replicate}
use Rattle.std.proofs.lemmas.List.FromFn.{get_or-map-range_with_len, fill_by_all}
use Rattle.std.proofs.lemmas.List.Sums.{count_by_more_yes, count_by_more_no, count_by-le-length}
use Rattle.std.proofs.Math.Nat.{le-max_left}
use Rattle.std.specs.List.{range_with_len, flat_map}
use Rattle.search_core.specs.ByteSets.{has, ranges_from}
use Rattle.search_core.specs.Classes.{alphabet_size}
use Rattle.search_core.specs.Marks.{marks_below, recorded, IsUnmarked, HasMarks}
use Rattle.search_core.proofs.ForCallers.{length-recorded, own_marks, marks_stay}
use Rattle.look_core.specs.Terminators.{Terminator}
use Rattle.nfa_core.specs.Alike.{marks_of}
use Rattle.nfa_core.specs.Nfa.{Node}
use Rattle.nfa_core.specs.NfaValue.{Nfa, IsSound, ranges_apart_by}
use Rattle.nfa_core.proofs.ForCallers.{bytes_alike, all_unmarked}
use Rattle.determinize_core.specs.Steps.{step_value}
use Rattle.determinize_core.proofs.ForCallers.{units_step_alike}
use Rattle.lazy_dfa.specs.Accounting.{Measures, stride_of, least_capacity, effective_capacity}
use Rattle.lazy_dfa.specs.Building.{quits_of, class_in, classes_of, measures_with, dfa_of, is_too_small}
use Rattle.lazy_dfa.specs.ConfigValue.{DfaOptions, kind_of, classes_on, word_boundary_of, by_hand, capacity_of, skips_check}
use Rattle.lazy_dfa.specs.Dfas.{Dfa, IsUnit, class_of, Alike, after, IsDfa}
use Rattle.lazy_dfa.specs.Quits.{is_unsupported}
use Rattle.lazy_dfa.proofs.Automata.BuildLemmas.{power_small, power_enough}
use Rattle.lazy_dfa.proofs.Automata.QuitClassLemmas.{same_class_same_set}

-- ---- classes by marks

marks_next : (m : List Bool) (b : ℕ) → b < length m → marks_below m b ≤ marks_below m (b + 1)
marks_next m b l = ⊎_elim
    (λ (e : get_or m b false ≡ true). let more = count_by_more_yes (λ x. x) m b false l e in omega (arith, more))
    (λ (e : get_or m b false ≡ false). let same = count_by_more_no (λ x. x) m b false l e in omega (arith, same))
    (cases_Bool (get_or m b false))

marks_rise : (m : List Bool) (a d b : ℕ) → a + d ≡ b → b ≤ length m → marks_below m a ≤ marks_below m b
marks_rise m a zero b e l = let is : a ≡ b = omega (arith, e) in let same = ap (marks_below m) is in omega (arith, same)
marks_rise m a (suc d) b e l =
    let so_far : marks_below m a ≤ marks_below m (a + d) = marks_rise m a d (a + d) refl (omega (arith, e, l)) in
    let more : marks_below m (a + d) ≤ marks_below m (a + d + 1) = marks_next m (a + d) (omega (arith, e, l)) in
    let is : a + d + 1 ≡ b = omega (arith, e) in
    let same = ap (marks_below m) is in omega (arith, so_far, more, same)

marks_few : (m : List Bool) (b : ℕ) → marks_below m b ≤ b
marks_few m b = let short = count_by-le-length (λ (x : Bool). x) (take b m) in let taken = length-take b m in omega (arith, short, taken)

length-marks_of : (t : Terminator) (nodes : List Node) → length (marks_of t nodes) ≡ 256
unfolding marks_of
length-marks_of t nodes = length-recorded (replicate 256 false) (flat_map (ranges_apart_by t) nodes) ∙ length-replicate 256 false

same_set : (zeros set : List Bool) (rs : List (ℕ × ℕ)) (b c : ℕ) → IsUnmarked zeros → length zeros ≡ 256 → b < 256 → c < 256 →
    marks_below (recorded (recorded zeros rs) (ranges_from set 0)) b ≡ marks_below (recorded (recorded zeros rs) (ranges_from set 0)) c →
    has set b ≡ has set c
same_set zeros set rs b c none len small little e = ⊎_elim
    (λ (up : b < c). same_class_same_set set zeros rs b c none len (omega (arith, up)) little e)
    (λ (is_reverse : c ≤ b). sym (same_class_same_set set zeros rs c b none len is_reverse small (sym e)))
    (cases_lt b c)

same_quits : (t : Terminator) (nodes : List Node) (set : List Bool) (b c : ℕ) → b < 256 → c < 256 →
    marks_below (recorded (marks_of t nodes) (ranges_from set 0)) b ≡ marks_below (recorded (marks_of t nodes) (ranges_from set 0)) c →
    has set b ≡ has set c
unfolding marks_of
same_quits t nodes set b c small little e =
    same_set (replicate 256 false) set (flat_map (ranges_apart_by t) nodes) b c (all_unmarked 256) (length-replicate 256 false) small
    little e

-- ---- the classes of what is built

at_range : (f : ℕ → ℕ) (n b : ℕ) → b < n → get_or (map f (range_with_len 0 n)) b 0 ≡ f b
at_range f n b l = get_or-map-range_with_len f 0 n b b 0 l (omega arith)

pub class_there : (n : Nfa) (o : DfaOptions) (b : ℕ) → b < 256 → get_or (classes_of n o) b 0 ≡ class_in n o b
unfolding classes_of
class_there n o b l = at_range (class_in n o) 256 b l

one_rises : (t : Bool) (m : List Bool) (b : ℕ) → b ≤ 255 → length m ≡ 256 →
    (if t then marks_below m b else b) ≤ (if t then marks_below m 255 else 255)
one_rises true m b l len = let rise = marks_rise m b (255 - b) 255 (omega (arith, l)) (omega (arith, len)) in rise
one_rises false m b l len = l

one_few : (t : Bool) (m : List Bool) (b : ℕ) → (if t then marks_below m b else b) ≤ b
one_few true m b = marks_few m b
one_few false m b = omega arith

one_class : (t : Bool) (m : List Bool) (b c : ℕ) → (if t then marks_below m b else b) ≡ (if t then marks_below m c else c) →
    (marks_below m b ≡ marks_below m c) ⊎ (b ≡ c)
one_class true m b c e = inl e
one_class false m b c e = inr e

module _ (n : Nfa) (o : DfaOptions) where
  abbrev marks : List Bool
  marks = recorded (marks_of n.terminator n.automaton.states) (ranges_from (quits_of n o) 0)

  length-marks : length marks ≡ 256
  length-marks = length-recorded (marks_of n.terminator n.automaton.states) (ranges_from (quits_of n o) 0)
      ∙ length-marks_of n.terminator n.automaton.states

  class_rises : (b : ℕ) → b < 256 → get_or (classes_of n o) b 0 ≤ get_or (classes_of n o) 255 0
  class_rises b l =
      let here = class_there n o b l in
      let last = class_there n o 255 (omega arith) in
      let rise = one_rises (classes_on o) marks b (omega (arith, l)) length-marks in omega (arith, here, last, rise)

  class_few : get_or (classes_of n o) 255 0 ≤ 255
  class_few = let last = class_there n o 255 (omega arith) in let few = one_few (classes_on o) marks 255 in omega (arith, last, few)

  room : alphabet_size (classes_of n o) ≤ stride_of (classes_of n o)
  room = let few = class_few in power_enough 9 1 (alphabet_size (classes_of n o)) (omega (arith, few))

  classed : (u : Option ℕ) → IsUnit u → class_of (classes_of n o) u < stride_of (classes_of n o)
  classed None l = let r = room in omega (arith, r)
  classed (Some b) l = let r = room in let rise = class_rises b l in omega (arith, r, rise)

  pub is_narrow : stride_of (classes_of n o) ≤ 512
  is_narrow = power_small 9 1 (alphabet_size (classes_of n o)) 512 (omega arith)

  alike_bytes : (b c : ℕ) → IsSound n.automaton → b < 256 → c < 256 → (marks_below marks b ≡ marks_below marks c) ⊎ (b ≡ c) →
      Alike (dfa_of n o) (Some b) (Some c)
  unfolding Alike after
  alike_bytes b c sound small little (inl e) = (
    same_quits n.terminator n.automaton.states (quits_of n o) b c small little e,
    λ s stepped.
        units_step_alike n.automaton n.terminator (kind_of o) s (Some b) (Some c) stepped
        (bytes_alike n.automaton n.terminator marks b c sound
        (marks_stay (marks_of n.terminator n.automaton.states) (marks_of n.terminator n.automaton.states) (ranges_from (quits_of n o) 0)
        (own_marks (marks_of n.terminator n.automaton.states))) small little e),
  )
  alike_bytes b c sound small little (inr e) =
      (ap (has (quits_of n o)) e, λ s stepped. ap (λ (x : ℕ). step_value n.automaton n.terminator (kind_of o) s (Some x)) e)

  -- bytes of one class have the same marks, among which are all marks of the automaton
  pub classes_by_marks : (m : List Bool) × HasMarks m (marks_of n.terminator n.automaton.states) × ((b c : ℕ) → b < 256 → c < 256 →
      class_of (classes_of n o) (Some b) ≡ class_of (classes_of n o) (Some c) → marks_below m b ≡ marks_below m c)
  classes_by_marks = (
    marks,
    marks_stay (marks_of n.terminator n.automaton.states) (marks_of n.terminator n.automaton.states) (ranges_from (quits_of n o) 0)
        (own_marks (marks_of n.terminator n.automaton.states)),
    λ b c l k e. ⊎_elim (λ (same : marks_below marks b ≡ marks_below marks c). same) (λ (one : b ≡ c). ap (marks_below marks) one)
        (one_class (classes_on o) marks b c (sym (class_there n o b l) ∙ (e ∙ class_there n o c k))),
  )

  alike_ends : Alike (dfa_of n o) None None
  unfolding Alike after
  alike_ends = (refl, λ s stepped. refl)

  alike : IsSound n.automaton → (u w : Option ℕ) → IsUnit u → IsUnit w → class_of (classes_of n o) u ≡ class_of (classes_of n o) w →
      Alike (dfa_of n o) u w
  alike sound None None l k e = alike_ends
  alike sound None (Some c) l k e = let rise = class_rises c k in absurd (omega (arith, rise, e))
  alike sound (Some b) None l k e = let rise = class_rises b l in absurd (omega (arith, rise, e))
  alike sound (Some b) (Some c) l k e =
      alike_bytes b c sound l k (one_class (classes_on o) marks b c (sym (class_there n o b l) ∙ (e ∙ class_there n o c k)))

-- ---- capacities, and what is rejected

room_for : (skips : Bool) (least given : ℕ) → (not skips && nat_lt given least) ≡ false → least ≤ (if skips then max least given else given)
room_for true least given e = le-max_left least given
room_for false least given e = ⊎_elim
    (λ (less : given < least). let never : true ≡ false = sym (lt-ltb given least less) ∙ e in absurd (grind (arith, never)))
    (λ (most : least ≤ given). most)
    (cases_lt given least)

pub is_dfa : (n : Nfa) (o : DfaOptions) → IsSound n.automaton → is_unsupported n.automaton (word_boundary_of o) (by_hand o) ≡ false →
    is_too_small n o ≡ false → IsDfa (dfa_of n o)
is_dfa n o sound fine large = record {
  sound = sound;
  quit = refl;
  supported = fine;
  measured = refl;
  effective = refl;
  narrow = is_narrow n o;
  classed = classed n o;
  alike = alike n o sound;
  enough = room_for (skips_check o) (least_capacity (measures_with n o)) (capacity_of o) large;
}

-- ---- what is built, part by part

abbrev pub made_dfa : Nfa → DfaOptions → List ℕ → List Bool → Measures → ℕ → Dfa
made_dfa n o cs qs m cap = record { nfa = n; options = o; classes = cs; quits = qs; measures = m; capacity = cap }

by_range : (f : ℕ → ℕ) (n : ℕ) (xs : List ℕ) → length xs ≡ n → ((k : ℕ) → k < n → get_or xs k 0 ≡ f k) → xs ≡ map f (range_with_len 0 n)
by_range f n xs len h = fill_by_all f xs n 0 len h

pub plain_classes : (n : Nfa) (o : DfaOptions) (cs : List ℕ) → length cs ≡ 256 → ((b : ℕ) → b < 256 → get_or cs b 0 ≡ b) →
    classes_on o ≡ false → cs ≡ classes_of n o
unfolding classes_of
plain_classes n o cs len own off =
    by_range (class_in n o) 256 cs len (λ b l. own b l ∙ sym (ap (λ (t : Bool). if t then marks_below (marks n o) b else b) off))

pub marked_classes : (n : Nfa) (o : DfaOptions) (cs : List ℕ) (m : List Bool) → length cs ≡ 256 →
    ((b : ℕ) → b < 256 → get_or cs b 0 ≡ marks_below m b) →
    m ≡ recorded (marks_of n.terminator n.automaton.states) (ranges_from (quits_of n o) 0) → classes_on o ≡ true → cs ≡ classes_of n o
unfolding classes_of
marked_classes n o cs m len numbered is on =
    by_range (class_in n o) 256 cs len (λ b l. numbered b l
    ∙ (ap (λ (w : List Bool). marks_below w b) is ∙ sym (ap (λ (t : Bool). if t then marks_below (marks n o) b else b) on)))

pub dfa_is : (n : Nfa) (o : DfaOptions) (cs : List ℕ) (qs : List Bool) (m : Measures) (cap : ℕ) → cs ≡ classes_of n o → qs ≡ quits_of n o →
    m ≡ measures_with n o →
    cap ≡ effective_capacity (measures_with n o) (skips_check o) (capacity_of o) → made_dfa n o cs qs m cap ≡ dfa_of n o
dfa_is n o cs qs m cap p q r s = λ i. made_dfa n o (p i) (q i) (r i) (s i)

pub made_is_dfa : (n : Nfa) (o : DfaOptions) (cs : List ℕ) (qs : List Bool) (m : Measures) (cap : ℕ) →
    made_dfa n o cs qs m cap ≡ dfa_of n o →
    IsSound n.automaton → is_unsupported n.automaton (word_boundary_of o) (by_hand o) ≡ false → is_too_small n o ≡ false →
    IsDfa (made_dfa n o cs qs m cap)
made_is_dfa n o cs qs m cap e sound fine large = subst IsDfa (sym e) (is_dfa n o sound fine large)

-- what the test in the code says about the capacity
pub too_small_is : (n : Nfa) (o : DfaOptions) (skips : Bool) (given least : ℕ) (t : Bool) → skips ≡ skips_check o → given ≡ capacity_of o →
    least ≡ least_capacity (measures_with n o) → t ≡ (not skips && nat_lt given least) → t ≡ is_too_small n o
too_small_is n o skips given least t p q r e = e ∙ (λ i. not (p i) && nat_lt (q i) (r i))

pub capacity_is : (n : Nfa) (o : DfaOptions) (skips : Bool) (given least cap : ℕ) → skips ≡ skips_check o → given ≡ capacity_of o →
    least ≡ least_capacity (measures_with n o) → cap ≡ (if skips then max least given else given) →
    cap ≡ effective_capacity (measures_with n o) (skips_check o) (capacity_of o)
capacity_is n o skips given least cap p q r e = e ∙ (λ i. if p i then max (r i) (q i) else q i)
