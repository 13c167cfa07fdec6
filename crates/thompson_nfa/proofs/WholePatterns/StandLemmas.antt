-- How the states of a pattern lead out without leading to states below them.
use Rattle.std.proofs.Common.{◌≡◌, ℕ, zero, suc, ◌<◌, ◌≤◌, nat_lt, Option, Some, None, if◌then◌else◌, refl, sym, ap, ◌∙◌, arith, ⊎_elim}
use Rattle.std.proofs.lemmas.Bool.{cases_lt, cond-true, cond-false, lt-ltb, le-ltb}
use Rattle.nfa_core.specs.BuilderStates.{DraftNode, empty_draft}
use Rattle.nfa_core.specs.Renaming.{stands_for, going_on}
use Rattle.nfa_core.specs.Drafted.{Table}
use Rattle.thompson_nfa.specs.Compiled.{ComesOut, past_in}
use Rattle.thompson_nfa.specs.Patterns.{ComesToKept}

-- the table in which each state below `low` stands for itself, so that a path of such steps ends there
abbrev pub fenced : ℕ → Table → Table
fenced low table q = if nat_lt q low then empty_draft q else table q

pub fenced_above : (low : ℕ) (table : Table) (q : ℕ) → low ≤ q → fenced low table q ≡ table q
fenced_above low table q l = cond-false (nat_lt q low) _ _ (le-ltb q low l)

fenced_below : (low : ℕ) (table : Table) (q : ℕ) → q < low → fenced low table q ≡ empty_draft q
fenced_below low table q l = cond-true (nat_lt q low) _ _ (lt-ltb q low l)

stays_below : (low : ℕ) (table : Table) (n q : ℕ) → q < low → past_in (fenced low table) n q ≡ q
stays_below low table zero q l = refl
stays_below low table (suc n) q l =
    ap (λ (draft : DraftNode). going_on q (past_in (fenced low table) n) (stands_for draft)) (fenced_below low table q l)
    ∙ stays_below low table n q l

on_alike : (low : ℕ) (table : Table) (n q : ℕ) (next : Option ℕ) → ((r : ℕ) → low ≤ past_in (fenced low table) n r →
    past_in table n r ≡ past_in (fenced low table) n r) →
    low ≤ going_on q (past_in (fenced low table) n) next → going_on q (past_in table n) next ≡ going_on q
    (past_in (fenced low table) n) next
on_alike low table n q None alike l = refl
on_alike low table n q (Some r) alike l = alike r l

walks_alike : (low : ℕ) (table : Table) (n q : ℕ) → low ≤ past_in (fenced low table) n q →
    past_in table n q ≡ past_in (fenced low table) n q
walks_alike low table zero q l = refl
walks_alike low table (suc n) q l = ⊎_elim
    (λ (below : q < low). absurd (omega (arith, stays_below low table (suc n) q below)))
    (λ (above : low ≤ q).
    let same : past_in (fenced low table) (suc n) q ≡ going_on q (past_in (fenced low table) n) (stands_for (table q)) =
    ap (λ (draft : DraftNode). going_on q (past_in (fenced low table) n) (stands_for draft)) (fenced_above low table q above) in
    on_alike low table n q (stands_for (table q)) (walks_alike low table n) (omega (arith, l, same)) ∙ sym same)
    (cases_lt q low)

stands_at : (low : ℕ) (table : Table) (n q : ℕ) → low ≤ past_in (fenced low table) n q →
    stands_for (table (past_in (fenced low table) n q)) ≡ None → ComesToKept low table q
stands_at low table n q above none =
    let same = walks_alike low table n q above in
    (n, ap (λ (k : ℕ). stands_for (table k)) same ∙ none, omega (arith, same, above))

not_below : (low : ℕ) (table : Table) (q : ℕ) → stands_for (fenced low table q) ≡ None → low ≤ q
not_below low table q none = ⊎_elim
    (λ (below : q < low). let some : stands_for (fenced low table q) ≡ Some q = ap stands_for (fenced_below low table q below) in
    absurd (cc))
    (λ (above : low ≤ q). above)
    (cases_lt q low)

-- the path through the fenced table ends at a state that stands for itself, or at one that does so in the table
pub stands_from : (low : ℕ) (table : Table) (m q : ℕ) → low ≤ m → stands_for (table m) ≡ None → ComesOut (fenced low table) m q →
    ComesToKept low table q
stands_from low table m q above none o =
    let end = past_in (fenced low table) o.0 q in
    ⊎_elim
    (λ (e : stands_for (fenced low table end) ≡ None).
    let inside = not_below low table end e in
    stands_at low table o.0 q inside (ap stands_for (sym (fenced_above low table end inside)) ∙ e))
    (λ (e : end ≡ m). stands_at low table o.0 q (omega arith) (ap (λ (k : ℕ). stands_for (table k)) e ∙ none))
    o.1
