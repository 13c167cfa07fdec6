-- Which state comes past each state, and how many steps away it is. A state that stands for another is one step further away than that one.
use Rattle.std.proofs.Common.{◌≡◌, ◌≢◌, ℕ, zero, suc, ◌+◌, ◌<◌, ◌≤◌, false, true, List, length, set, get_or, Option, Some, None, refl, sym}
use Rattle.std.proofs.Common.{ap, ◌∙◌, arith, get_or-set_other, get_or-set_same, ⊎_elim, subst}
use Rattle.std.specs.Prelude.{is_some, cond}
use Rattle.std.specs.Option.{unwrap_or}
use Rattle.std.proofs.lemmas.Bool.{cases_eq}
use Rattle.std.proofs.lemmas.List.{length-set}
use Rattle.std.proofs.lemmas.List.Sums.{sum_by-set}
use Rattle.nfa_core.specs.BuilderStates.{DraftNode, draft_at}
use Rattle.nfa_core.specs.Renaming.{stands_for, past_within, going_on, past}
use Rattle.nfa_core.specs.Pasts.{HasPasts, is_settled, IsPastTable, IsOpen, EndsWay, settled_count}
use Rattle.nfa_core.proofs.RenamingLemmas.{past_itself}

-- how many steps are made from the state on, up to a limit
abbrev pub one_more : (ℕ → ℕ) → Option ℕ → ℕ
one_more go None = 0
one_more go (Some next) = suc (go next)

abbrev pub steps_within : List DraftNode → ℕ → ℕ → ℕ
steps_within drafts zero q = 0
steps_within drafts (suc n) q = one_more (steps_within drafts n) (stands_for (draft_at drafts q))

abbrev pub steps_from : List DraftNode → ℕ → ℕ
steps_from drafts q = steps_within drafts (length drafts) q

abbrev Reaches : List DraftNode → ℕ → ℕ → Type 0
Reaches drafts n q = stands_for (draft_at drafts (past_within drafts n q)) ≡ None

-- more steps change nothing once a state is reached that stands for itself
more_by : (drafts : List DraftNode) (n q : ℕ) (o : Option ℕ) → stands_for (draft_at drafts q) ≡ o → Reaches drafts (suc n) q →
    ((next : ℕ) → Reaches drafts n next → (past_within drafts (suc n) next ≡ past_within drafts n next) ×
    (steps_within drafts (suc n) next ≡ steps_within drafts n next)) →
    (going_on q (past_within drafts (suc n)) o ≡ going_on q (past_within drafts n) o) ×
    (one_more (steps_within drafts (suc n)) o ≡ one_more (steps_within drafts n) o)
more_by drafts n q None e there fewer = (refl, refl)
more_by drafts n q (Some next) e there fewer =
    let same : past_within drafts (suc n) q ≡ past_within drafts n next = ap (going_on q (past_within drafts n)) e in
    let h = fewer next (ap (λ p. stands_for (draft_at drafts p)) (sym same) ∙ there) in
    (h.0, ap suc h.1)

more_same : (drafts : List DraftNode) (n q : ℕ) → Reaches drafts n q → (past_within drafts (suc n) q ≡ past_within drafts n q) ×
    (steps_within drafts (suc n) q ≡ steps_within drafts n q)
more_same drafts zero q there = (ap (going_on q (past_within drafts zero)) there, ap (one_more (steps_within drafts zero)) there)
more_same drafts (suc n) q there = more_by drafts n q (stands_for (draft_at drafts q)) refl there (more_same drafts n)

step_by : (drafts : List DraftNode) (n q next : ℕ) → stands_for (draft_at drafts q) ≡ Some next → Reaches drafts (suc n) q →
    (past_within drafts (suc n) q ≡ past_within drafts (suc n) next) ×
    (steps_within drafts (suc n) q ≡ suc (steps_within drafts (suc n) next))
step_by drafts n q next e there =
    let same : past_within drafts (suc n) q ≡ past_within drafts n next = ap (going_on q (past_within drafts n)) e in
    let more = more_same drafts n next (ap (λ p. stands_for (draft_at drafts p)) (sym same) ∙ there) in
    (same ∙ sym more.0, ap (one_more (steps_within drafts n)) e ∙ ap suc (sym more.1))

step_at : (drafts : List DraftNode) (len q next : ℕ) → q < len → stands_for (draft_at drafts q) ≡ Some next → Reaches drafts len q →
    (past_within drafts len q ≡ past_within drafts len next) × (steps_within drafts len q ≡ suc (steps_within drafts len next))
step_at drafts zero q next inside e there = absurd (omega (arith, inside))
step_at drafts (suc n) q next inside e there = step_by drafts n q next e there

pub past_next : (drafts : List DraftNode) (q next : ℕ) → HasPasts drafts → q < length drafts → stands_for (draft_at drafts q) ≡ Some next →
    past drafts q ≡ past drafts next
past_next drafts q next reached inside e = (step_at drafts (length drafts) q next inside e (reached.ends q inside)).0

pub steps_fall : (drafts : List DraftNode) (q next : ℕ) → HasPasts drafts → q < length drafts →
    stands_for (draft_at drafts q) ≡ Some next → steps_from drafts q ≡ suc (steps_from drafts next)
steps_fall drafts q next reached inside e = (step_at drafts (length drafts) q next inside e (reached.ends q inside)).1

-- An entry for one state leaves another state without an entry, if it had none. A state that is nearer to its end is another state.
settled_other : (table : List (Option ℕ)) (at q : ℕ) (p : ℕ) → q ≢ at → is_settled table q ≡ false →
    is_settled (set table at (Some p)) q ≡ false
settled_other table at q p other e = ap is_some (get_or-set_other table at q (Some p) None other) ∙ e

open_other : (drafts : List DraftNode) (table : List (Option ℕ)) (n q at p : ℕ) → HasPasts drafts → q < length drafts →
    steps_from drafts q < steps_from drafts at →
    IsOpen drafts table n q → IsOpen drafts (set table at (Some p)) n q
open_other drafts table zero q at p reached inside nearer opened = tt
open_other drafts table (suc n) q at p reached inside nearer opened =
    let falls = steps_fall drafts q opened.1.0 reached inside opened.1.1 in
    let other : q ≢ at = λ (same : q ≡ at). absurd (omega (arith, nearer, ap (steps_from drafts) same)) in (
      settled_other table at q p other opened.0,
      (
        opened.1.0,
        opened.1.1,
        open_other drafts table n opened.1.0 at p reached (reached.stays q opened.1.0 inside opened.1.1)
            (omega (arith, nearer, falls)) opened.1.2,
      ),
    )

-- the states after the first still have no entry when the first one has got its own
pub open_behind : (drafts : List DraftNode) (table : List (Option ℕ)) (n q next p : ℕ) → HasPasts drafts → q < length drafts →
    stands_for (draft_at drafts q) ≡ Some next →
    IsOpen drafts table n next → IsOpen drafts (set table q (Some p)) n next
open_behind drafts table n q next p reached inside e opened =
    let falls = steps_fall drafts q next reached inside e in
    open_other drafts table n next q p reached (reached.stays q next inside e) (omega (arith, falls)) opened

-- where the path stops, the table or the state itself gives its end
known_by : (drafts : List DraftNode) (at : ℕ) (o : Option ℕ) → ((p : ℕ) → o ≡ Some p → p ≡ past drafts at) →
    (is_some o ≡ true → unwrap_or o at ≡ past drafts at) × (stands_for (draft_at drafts at) ≡ None → unwrap_or o at ≡ past drafts at)
known_by drafts at None right = (λ (e : false ≡ true). cc, λ e. sym (past_itself drafts (length drafts) at e))
known_by drafts at (Some p) right = (λ e. right p refl, λ e. right p refl)

pub known_end : (drafts : List DraftNode) (table : List (Option ℕ)) (at : ℕ) → IsPastTable drafts table → EndsWay drafts table at →
    unwrap_or (get_or table at None) at ≡ past drafts at
known_end drafts table at reported end = let cases = known_by drafts at (get_or table at None) (λ p e. reported.right at p e) in
    ⊎_elim cases.0 cases.1 end

-- no path has more steps than there are states
steps_bound_by : (drafts : List DraftNode) (n : ℕ) (o : Option ℕ) → ((next : ℕ) → steps_within drafts n next ≤ n) →
    one_more (steps_within drafts n) o ≤ suc n
steps_bound_by drafts n None fewer = omega arith
steps_bound_by drafts n (Some next) fewer = let h = fewer next in omega (arith, h)

steps_bound : (drafts : List DraftNode) (n q : ℕ) → steps_within drafts n q ≤ n
steps_bound drafts zero q = omega arith
steps_bound drafts (suc n) q = steps_bound_by drafts n (stands_for (draft_at drafts q)) (steps_bound drafts n)

pub way_bound : (drafts : List DraftNode) (q : ℕ) → steps_from drafts q ≤ length drafts
way_bound drafts q = steps_bound drafts (length drafts) q

-- a path from q that has come to `at`, past so many states
pub record IsUnderway (drafts : List DraftNode) (table : List (Option ℕ)) (q at len : ℕ) : Type 0 where
  pub inside : at < length drafts
  pub same : past drafts at ≡ past drafts q
  pub far : len + steps_from drafts at ≡ steps_from drafts q
  pub opened : (m : ℕ) → IsOpen drafts table m at → IsOpen drafts table (len + m) q

pub underway_start : (drafts : List DraftNode) (table : List (Option ℕ)) (q : ℕ) → q < length drafts → IsUnderway drafts table q q 0
underway_start drafts table q inside = record {
  inside = inside;
  same = refl;
  far = omega arith;
  opened = λ m behind. let none : m ≡ 0 + m = omega arith in subst (λ (k : ℕ). IsOpen drafts table k q) none behind;
}

pub underway_next : (drafts : List DraftNode) (table : List (Option ℕ)) (q at next len : ℕ) → HasPasts drafts →
    is_settled table at ≡ false → stands_for (draft_at drafts at) ≡ Some next →
    IsUnderway drafts table q at len → IsUnderway drafts table q next (len + 1)
underway_next drafts table q at next len reached free e way = record {
  inside = reached.stays at next way.inside e;
  same = sym (past_next drafts at next reached way.inside e) ∙ way.same;
  far = let falls = steps_fall drafts at next reached way.inside e in omega (arith, falls, way.far);
  opened = λ m behind. let more : len + suc m ≡ len + 1 + m = omega arith in
      subst (λ (k : ℕ). IsOpen drafts table k q) more (way.opened (suc m) (free, (next, e, behind)));
}

-- 1 if there is an entry, and 0 if there is none
abbrev pub mark : Option ℕ → ℕ
mark o = cond (is_some o) 1 0

marked_none : (o : Option ℕ) → is_some o ≡ false → mark o ≡ 0
marked_none None e = refl
marked_none (Some p) e = cc

pub settled_more : (table : List (Option ℕ)) (q p : ℕ) → q < length table → is_settled table q ≡ false →
    settled_count (set table q (Some p)) ≡ settled_count table + 1
settled_more table q p inside e =
    let sums = sum_by-set mark table q (Some p) None inside in
    let none = marked_none (get_or table q None) e in
    omega (arith, sums, none)

-- the table with one more entry
pub told_more : (drafts : List DraftNode) (table : List (Option ℕ)) (q p : ℕ) → q < length drafts → IsPastTable drafts table →
    p ≡ past drafts q → IsPastTable drafts (set table q (Some p))
told_more drafts table q p inside reported e = record {
  len = length-set table q (Some p) ∙ reported.len;
  right = λ r x is. ⊎_elim
      (λ (same : r ≡ q). let there : get_or (set table q (Some p)) q None ≡ Some p =
      get_or-set_same table q (Some p) None (omega (arith, inside, reported.len)) in cc)
      (λ (other : r ≢ q). reported.right r x (sym (get_or-set_other table q r (Some p) None other) ∙ is)) (cases_eq r q);
}

-- a state that had an entry still has one
pub settled_kept : (table : List (Option ℕ)) (q p r : ℕ) → q < length table → is_settled table r ≡ true →
    is_settled (set table q (Some p)) r ≡ true
settled_kept table q p r inside e = ⊎_elim
    (λ (same : r ≡ q). ap (λ k. is_settled (set table q (Some p)) k) same ∙ ap is_some (get_or-set_same table q (Some p) None inside))
    (λ (other : r ≢ q). ap is_some (get_or-set_other table q r (Some p) None other) ∙ e) (cases_eq r q)

pub settled_there : (table : List (Option ℕ)) (q p : ℕ) → q < length table → is_settled (set table q (Some p)) q ≡ true
settled_there table q p inside = ap is_some (get_or-set_same table q (Some p) None inside)

-- the count doesn't fall
mark_bound : (o : Option ℕ) → mark o ≤ 1
mark_bound None = omega arith
mark_bound (Some p) = omega arith

pub settled_grows : (table : List (Option ℕ)) (q p : ℕ) → q < length table → settled_count table ≤ settled_count (set table q (Some p))
settled_grows table q p inside =
    let sums = sum_by-set mark table q (Some p) None inside in
    let most = mark_bound (get_or table q None) in
    omega (arith, sums, most)

-- a table with `done` more entries than at first, where `left` states from `at` on still have no entry
pub record IsSettling (drafts : List DraftNode) (first table : List (Option ℕ)) (end at done left : ℕ) : Type 0 where
  pub inside : at < length drafts
  pub same : past drafts at ≡ end
  pub reported : IsPastTable drafts table
  pub opened : IsOpen drafts table left at
  pub count : settled_count table ≡ settled_count first + done
  pub kept : (r : ℕ) → is_settled first r ≡ true → is_settled table r ≡ true

pub settling_start : (drafts : List DraftNode) (table : List (Option ℕ)) (end q len left : ℕ) → q < length drafts → end ≡ past drafts q →
    IsPastTable drafts table → IsOpen drafts table len q → len ≡ left →
    IsSettling drafts table table end q 0 left
settling_start drafts table end q len left inside e reported opened all = record {
  inside = inside;
  same = sym e;
  reported = reported;
  opened = subst (λ (k : ℕ). IsOpen drafts table k q) all opened;
  count = omega arith;
  kept = λ r there. there;
}

pub settling_next : (drafts : List DraftNode) (first table new : List (Option ℕ)) (end at next done left rest : ℕ) → HasPasts drafts →
    new ≡ set table at (Some end) → stands_for (draft_at drafts at) ≡ Some next → left ≡ suc rest →
    IsSettling drafts first table end at done left → IsSettling drafts first new end next (done + 1) rest
settling_next drafts first table new end at next done left rest reached is_new e more way =
    let opened : IsOpen drafts table (suc rest) at = subst (λ (k : ℕ). IsOpen drafts table k at) more way.opened in
    let there : at < length table = omega (arith, way.inside, way.reported.len) in
    let one : opened.1.0 ≡ next = cc (e, opened.1.1) in
    let behind : IsOpen drafts table rest next = subst (λ (k : ℕ). IsOpen drafts table rest k) one opened.1.2 in
    let moved : IsSettling drafts first (set table at (Some end)) end next (done + 1) rest = record {
      inside = reached.stays at next way.inside e;
      same = sym (past_next drafts at next reached way.inside e) ∙ way.same;
      reported = told_more drafts table at end way.inside way.reported (sym way.same);
      opened = open_behind drafts table rest at next end reached way.inside e behind;
      count = let counted = settled_more table at end there opened.0 in omega (arith, counted, way.count);
      kept = λ r old. settled_kept table at end r there (way.kept r old);
    } in
    subst (λ (t : List (Option ℕ)). IsSettling drafts first t end next (done + 1) rest) (sym is_new) moved

-- while some states still have no entry, the state stands for another
pub settling_stands : (drafts : List DraftNode) (first table : List (Option ℕ)) (end at done left : ℕ) →
    IsSettling drafts first table end at done left → 0 < left → stands_for (draft_at drafts at) ≢ None
settling_stands drafts first table end at done zero way more e = omega (arith, more)
settling_stands drafts first table end at done (suc rest) way more e = let some = way.opened.1.1 in cc
