-- The depth-first search with a stack over the states of an automaton, where some looks are known to hold.
use Rattle.std.proofs.Common.{◌≡◌, ℕ, zero, suc, ◌+◌, ◌<◌, ◌≤◌, true, false, Bool, List, ◌∷◌, ◌++◌, []}
use Rattle.std.proofs.Common.{length, drop, refl, sym, ap, ◌∙◌, arith, subst}
use Rattle.std.proofs.Common.{cond, Some, None, append_assoc, append-nil, length-append, not, get_or, length-drop, ◌-◌, ⊎_elim, take}
use Rattle.std.proofs.lemmas.Bool.{cases_Bool}
use Rattle.std.proofs.lemmas.List.Sums.{sum_by_push, sum_by-append}
use Rattle.std.proofs.Math.Seq.{drop-append_seam, take-length}
use Rattle.std.specs.Bool.{nat_eq}
use Rattle.look_core.specs.LookSets.{has_look}
use Rattle.nfa_core.specs.Walks.{has, Has, Visits, done, held, fresh}
use Rattle.nfa_core.specs.Places.{StaysBelow}
use Rattle.nfa_core.specs.Nfa.{Node, byte_range, sparse_node, dense_node, look_node, union_node, binary_union, capture_node, fail_node}
use Rattle.nfa_core.specs.Nfa.{match_node, Automaton, node_at, leads_to, IsWellFormed}
use Rattle.nfa_core.specs.States.{is_epsilon}
use Rattle.nfa_core.specs.Ways.{on_nothing}
use Rattle.nfa_core.specs.Reached.{AreBelow, Meets}
use Rattle.nfa_core.proofs.ForCallers.{none_in, of_cons, of_append, names_equal, nothing_led, has_first, has_later}
use Rattle.determinize_core.specs.Closing.{AddsLeaves, VisitsLeaves, GoesPast}
use Rattle.determinize_core.specs.Steps.{known_steps}
use Rattle.determinize_core.specs.Costs.{known_ways}
use Rattle.determinize_core.proofs.AddedLemmas.{next_left}

pub known_below : (a : Automaton) (looks : ℕ) → IsWellFormed a → StaysBelow (length a.states) (known_steps a looks)
known_below a looks formed = λ q low r way. formed q r (nothing_led (node_at a q) (has_look looks) r way)

-- each member of what is left of a list is a member of the list
part_below : (n k : ℕ) (qs : List ℕ) → AreBelow n qs → AreBelow n (drop k qs)
part_below n zero qs below = below
part_below n (suc k) [] below = below
part_below n (suc k) (q ∷ qs) below = part_below n k qs (λ p h. below p (has_later nat_eq p q qs h))

pub behind_below : (a : Automaton) (looks : ℕ) → IsWellFormed a → (q : ℕ) → q < length a.states → (later : List ℕ) →
    AreBelow (length a.states) later → (next : List ℕ) (k : ℕ) → next ≡ drop k (known_steps a looks q) ++ later →
    AreBelow (length a.states) next
behind_below a looks formed q low later below next k e r h =
    of_append nat_eq names_equal (λ p. p < length a.states) (drop k (known_steps a looks q)) later
    (part_below (length a.states) k (known_steps a looks q) (λ p way. known_below a looks formed q low p way)) below r (rw e at h)

-- ---- leaves, which lead nowhere without a byte

no_ways : (node : Node) (looks : ℕ) → is_epsilon node ≡ false → on_nothing node (has_look looks) ≡ []
no_ways (byte_range low high next) looks e = refl
no_ways (sparse_node ranges) looks e = refl
no_ways (dense_node names) looks e = refl
no_ways (look_node l next) looks e = cc
no_ways (union_node names) looks e = cc
no_ways (binary_union first second) looks e = cc
no_ways (capture_node next pattern group slot) looks e = cc
no_ways fail_node looks e = refl
no_ways (match_node pattern) looks e = refl

module _ (a : Automaton) (looks : ℕ) (qs seen : List ℕ) where
  -- one more was put into the set, or was in it already
  pub passes_one : (k q : ℕ) (met new : List ℕ) (b : Bool) → VisitsLeaves a looks qs k seen met → k < length qs → q ≡ get_or qs k 0 →
      is_epsilon (node_at a q) ≡ false → b ≡ not (has nat_eq q met) → new ≡ cond b (met ++ q ∷ []) met →
      VisitsLeaves a looks qs (k + 1) seen new
  passes_one k q met new b of within is leaf reported e = ⊎_elim
      (λ (h : has nat_eq q met ≡ true).
      let same : new ≡ met = e ∙ ap (λ (c : Bool). cond c (met ++ q ∷ []) met) (reported ∙ ap not h) in
      subst (λ (l : List ℕ). VisitsLeaves a looks qs (k + 1) seen l) (sym same) (record {
        walk = λ later after v. of.walk later after (subst (λ (l : List ℕ). Visits nat_eq (known_steps a looks) (l ++ later) met after)
            (sym left) (held q (drop (k + 1) qs ++ later) met after h v));
        grown = of.grown;
      }))
      (λ (h : has nat_eq q met ≡ false).
      let more : new ≡ met ++ q ∷ [] = e ∙ ap (λ (c : Bool). cond c (met ++ q ∷ []) met) (reported ∙ ap not h) in
      subst (λ (l : List ℕ). VisitsLeaves a looks qs (k + 1) seen l) (sym more) (record {
        walk = λ later after v. of.walk later after (subst (λ (l : List ℕ). Visits nat_eq (known_steps a looks) (l ++ later) met after)
            (sym left) (fresh q (drop (k + 1) qs ++ later) met (met ++ q ∷ []) after h
            (subst (λ (l : List ℕ). Visits nat_eq (known_steps a looks) l (met ++ q ∷ []) (met ++ q ∷ [])) (sym none)
            (done (met ++ q ∷ []) (met ++ q ∷ []) refl)) v));
        grown = (
          of.grown.0 ++ q ∷ [],
          ap (λ (l : List ℕ). l ++ q ∷ []) of.grown.1 ∙ append_assoc seen of.grown.0 (q ∷ []),
          omega (arith, sum_by_push (λ p. length (known_steps a looks p)) of.grown.0 q, of.grown.2, len),
        );
      }))
      (cases_Bool (has nat_eq q met))
    where
      none : known_steps a looks q ≡ []
      none = no_ways (node_at a q) looks leaf

      len : length (known_steps a looks q) ≡ 0
      len = ap length none

      left : drop k qs ≡ q ∷ drop (k + 1) qs
      left = next_left qs k q within is

-- a member of a list, and that it is below a bound if all members are
pub item_at : (xs : List ℕ) (k x : ℕ) → k < length xs → x ≡ get_or xs k x → x ≡ get_or xs k 0
item_at [] k x within e = absurd (omega (arith, within))
item_at (y ∷ ys) zero x within e = e
item_at (y ∷ ys) (suc k) x within e = item_at ys k x (omega (arith, within)) e

pub item_below : (n : ℕ) (xs : List ℕ) (k x : ℕ) → AreBelow n xs → k < length xs → x ≡ get_or xs k 0 → x < n
item_below n [] k x below within e = absurd (omega (arith, within))
item_below n (y ∷ ys) zero x below within e = below x (subst (λ (z : ℕ). Has nat_eq x (z ∷ ys)) e (has_first nat_eq names_equal x ys))
item_below n (y ∷ ys) (suc k) x below within e =
    item_below n ys k x (λ p h. below p (has_later nat_eq p y ys h)) (omega (arith, within)) e

pub passes_all : (a : Automaton) (qs seen met : List ℕ) (k n : ℕ) → ((looks : ℕ) → VisitsLeaves a looks qs k seen met) → k ≡ n →
    (looks : ℕ) → VisitsLeaves a looks qs n seen met
passes_all a qs seen met k n of e looks = subst (λ (i : ℕ). VisitsLeaves a looks qs i seen met) e (of looks)

-- the names of a union are states, and are where it leads
pub union_below : (a : Automaton) → IsWellFormed a → (q : ℕ) (node : Node) (names slice : List ℕ) → node ≡ node_at a q →
    node ≡ union_node names → slice ≡ names → AreBelow (length a.states) slice
union_below a formed q node names slice is union same r h =
    formed q r (subst (λ (w : Node). Has nat_eq r (leads_to w)) (sym union ∙ is) (subst (λ (l : List ℕ). Has nat_eq r l) same h))

pub union_ways : (a : Automaton) (looks q : ℕ) (node : Node) (names slice : List ℕ) → node ≡ node_at a q → node ≡ union_node names →
    slice ≡ names → known_steps a looks q ≡ slice
union_ways a looks q node names slice is union same = ap (λ w. on_nothing w (has_look looks)) (sym is ∙ union) ∙ sym same

pub adds_none : (a : Automaton) (looks : ℕ) (seen : List ℕ) → AddsLeaves a looks seen seen
adds_none a looks seen = ([], sym (append-nil seen), omega arith)

-- ---- after a state

module _ (a : Automaton) (looks q : ℕ) (stack seen : List ℕ) (before : ℕ) where
  -- the states to which it leads were put on the stack
  pub goes_by_stack : (node : Node) (later : List ℕ) → node ≡ node_at a q → later ≡ on_nothing node (has_look looks) ++ stack →
      GoesPast a looks q stack seen before later seen before
  goes_by_stack node later is e =
      let all : later ≡ known_steps a looks q ++ stack = e ∙ ap (λ w. on_nothing w (has_look looks) ++ stack) is in
      let len : length later ≡ length (known_steps a looks q) + length stack =
      ap length all ∙ length-append (known_steps a looks q) stack in
      record {
        walk = λ after v. subst (λ (l : List ℕ). Visits nat_eq (known_steps a looks) l seen after) all v;
        grown = ([], sym (append-nil seen), omega arith);
        below = (0, all);
        count = omega (arith, len);
      }

  -- the states to which a union leads were met up to one, and the others were put on the stack
  pub goes_by_leaves : (names : List ℕ) (k : ℕ) (met rest later : List ℕ) (now : ℕ) → known_steps a looks q ≡ names → k ≤ length names →
      VisitsLeaves a looks names k seen met → rest ≡ take (length names - k) (drop k names) → later ≡ rest ++ stack → now ≡ before + k →
      GoesPast a looks q stack seen before later met now
  goes_by_leaves names k met rest later now ways within passes slice e cost =
      let cut : length (drop k names) ≡ length names - k = length-drop k names in
      let left : rest ≡ drop k names = slice ∙ (ap (λ (n : ℕ). take n (drop k names)) (sym cut) ∙ take-length (drop k names)) in
      let all : later ≡ drop k names ++ stack = e ∙ ap (λ (l : List ℕ). l ++ stack) left in
      let len : length later ≡ length (drop k names) + length stack = ap length all ∙ length-append (drop k names) stack in
      let whole : length (known_steps a looks q) ≡ length names = ap length ways in
      record {
        walk = λ after v. subst (λ (l : List ℕ). Visits nat_eq (known_steps a looks) (l ++ stack) seen after) (sym ways)
            (passes.walk stack after (subst (λ (l : List ℕ). Visits nat_eq (known_steps a looks) l met after) all v));
        grown = passes.grown;
        below = (k, all ∙ ap (λ (l : List ℕ). drop k l ++ stack) (sym ways));
        count = omega (arith, len, cut, whole, within, cost);
      }

-- The search is at a stack and at what was met. To go on from there is to go on from its start, and what is on the stack was counted.
pub record StandsAt (a : Automaton) (looks start : ℕ) (seen : List ℕ) (before : ℕ) (stack met : List ℕ) (now : ℕ) : Type 0 where
  pub below : AreBelow (length a.states) stack
  pub walk : (after : List ℕ) → Visits nat_eq (known_steps a looks) stack met after →
      Visits nat_eq (known_steps a looks) (start ∷ []) seen after
  pub grown : (more : List ℕ) × (met ≡ seen ++ more) × (now + length stack ≡ before + 1 + known_ways a looks more)

module _ (a : Automaton) (looks start : ℕ) (seen : List ℕ) (before : ℕ) where
  pub begins : (stack : List ℕ) → start < length a.states → stack ≡ start ∷ [] → StandsAt a looks start seen before stack seen before
  begins stack inside e = record {
    below = λ q h. of_cons nat_eq names_equal (λ r. r < length a.states) start [] inside (λ r g. none_in nat_eq r _ g) q (rw e at h);
    walk = λ after v. subst (λ (stack : List ℕ). Visits nat_eq (known_steps a looks) stack seen after) e v;
    grown = ([], sym (append-nil seen), ap (λ (stack : List ℕ). before + length stack) e ∙ omega arith);
  }

  module _ (stack met later new : List ℕ) (now then : ℕ) (stands : StandsAt a looks start seen before stack met now) where
    pub goes_on : (q : ℕ) → IsWellFormed a → q < length a.states → AreBelow (length a.states) later → Meets stack met later new (Some q) →
        then + length later ≡ now + length stack → (next last : List ℕ) (end : ℕ) → GoesPast a looks q later new then next last end →
        StandsAt a looks start seen before next last end
    goes_on q formed low below m cost next last end goes =
        let sum : known_ways a looks (stands.grown.0 ++ q ∷ []) ≡ known_ways a looks stands.grown.0 + length (known_steps a looks q) =
        sum_by_push (λ p. length (known_steps a looks p)) stands.grown.0 q in
        let all : known_ways a looks ((stands.grown.0 ++ q ∷ []) ++ goes.grown.0) ≡ known_ways a looks (stands.grown.0 ++ q ∷ [])
        + known_ways a looks goes.grown.0 =
        sum_by-append (λ p. length (known_steps a looks p)) (stands.grown.0 ++ q ∷ []) goes.grown.0 in
        record {
          below = behind_below a looks formed q low later below next goes.below.0 goes.below.1;
          walk = λ after v. stands.walk after (m.1 (known_steps a looks) after (goes.walk after v));
          grown = (
            (stands.grown.0 ++ q ∷ []) ++ goes.grown.0,
            goes.grown.1 ∙ (ap (λ (l : List ℕ). l ++ goes.grown.0) (met_with q m)
                ∙ append_assoc seen (stands.grown.0 ++ q ∷ []) goes.grown.0),
            omega (arith, cost, goes.count, goes.grown.2, sum, all, stands.grown.2),
          );
        }
      where
        met_with : (q : ℕ) → Meets stack met later new (Some q) → new ≡ seen ++ (stands.grown.0 ++ q ∷ [])
        met_with q m = m.0 ∙ (ap (λ (l : List ℕ). l ++ q ∷ []) stands.grown.1 ∙ append_assoc seen stands.grown.0 (q ∷ []))

    pub ends : Meets stack met later new None → Visits nat_eq (known_steps a looks) (start ∷ []) seen new
    ends m = stands.walk new (m.2 (known_steps a looks) new (subst (λ (l : List ℕ). Visits nat_eq (known_steps a looks) l new new) (sym m.0)
        (done new new refl)))

    pub counts : Meets stack met later new None → then + length later ≡ now + length stack →
        then ≤ before + 1 + known_ways a looks (drop (length seen) new)
    counts m cost =
        let all : new ≡ seen ++ stands.grown.0 = m.1 ∙ stands.grown.1 in
        let rest : drop (length seen) new ≡ stands.grown.0 = ap (drop (length seen)) all ∙ drop-append_seam seen stands.grown.0 in
        let none : length later ≡ 0 = ap length m.0 in
        let sum : known_ways a looks (drop (length seen) new) ≡ known_ways a looks stands.grown.0 = ap (known_ways a looks) rest in
        omega (arith, cost, none, sum, stands.grown.2)

    -- what was met so far begins with what the set held
    pub has_grown : Meets stack met later new None → (more : List ℕ) × (new ≡ seen ++ more)
    has_grown m = (stands.grown.0, m.1 ∙ stands.grown.1)

    -- also if the search is cut off after a state that was met and leaves after it: what was met begins with what the set held, and the
    -- cost stays within its bound
    module _ (q : ℕ) (m : Meets stack met later new (Some q)) (last : List ℕ) (leaves : AddsLeaves a looks new last) where
      abbrev cut_more : List ℕ
      cut_more = (stands.grown.0 ++ q ∷ []) ++ leaves.0

      pub cut_grown : (more : List ℕ) × (last ≡ seen ++ more)
      cut_grown = (
        cut_more,
        leaves.1 ∙ (ap (λ (l : List ℕ). l ++ leaves.0) (m.0 ∙ (ap (λ (l : List ℕ). l ++ q ∷ []) stands.grown.1
            ∙ append_assoc seen stands.grown.0 (q ∷ []))) ∙ append_assoc seen (stands.grown.0 ++ q ∷ []) leaves.0),
      )

      pub cut_counts : (end : ℕ) → then + length later ≡ now + length stack → end ≤ then + length (known_steps a looks q) →
          end ≤ before + 1 + known_ways a looks (drop (length seen) last)
      unfolding cut_grown
      cut_counts end cost few =
          let rest : drop (length seen) last ≡ cut_more = ap (drop (length seen)) cut_grown.1 ∙ drop-append_seam seen cut_more in
          let ways : known_ways a looks (drop (length seen) last) ≡ known_ways a looks cut_more = ap (known_ways a looks) rest in
          let sum : known_ways a looks (stands.grown.0 ++ q ∷ []) ≡ known_ways a looks stands.grown.0 + length (known_steps a looks q) =
          sum_by_push (λ p. length (known_steps a looks p)) stands.grown.0 q in
          let all : known_ways a looks cut_more ≡ known_ways a looks (stands.grown.0 ++ q ∷ []) + known_ways a looks leaves.0 =
          sum_by-append (λ p. length (known_steps a looks p)) (stands.grown.0 ++ q ∷ []) leaves.0 in
          omega (arith, cost, few, ways, sum, all, stands.grown.2)
