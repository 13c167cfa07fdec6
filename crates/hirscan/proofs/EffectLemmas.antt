-- A line that is taken has no fault and one effect, and doesn't end the query.
use Rattle.std.proofs.Common.{◌≡◌, ◌⊎◌, ℕ, List, [], ◌∷◌, length, Option, Some, None, nat_lt, refl, sym, ◌∙◌, ap, inl, inr, arith}
use Rattle.std.proofs.lemmas.Bool.{le-ltb}
use Rattle.hirscan.specs.declared.words.LineWord.{LineWord}
use Rattle.hirscan.specs.declared.words.LineWord.TheVariants.{Find}
use Rattle.hirscan.specs.declared.line.Step.TheVariants.{Next, End}
use Rattle.hirscan.specs.Readers.{spelling, line_word}
use Rattle.hirscan.specs.Takes.{QueryValue, Takes, EndsQuery}
use Rattle.hirscan.specs.LineFault.{known_fault, fault_by_word, fault, after_line}
use Rattle.hirscan.specs.QueryReports.{step_after}
use Rattle.hirscan.proofs.SaysLemmas.{line_word_spelled, line_word-spelling}
use Rattle.hirscan.proofs.TakesLemmas.{no_fault_parts, no_fault_from_parts, takes_after, ends_head}
use Rattle.hirscan.proofs.DoneLemmas.{takes_done}

known_fault_of : (ws args : List (List ℕ)) (k : LineWord) (p : QueryValue) → ws ≡ spelling k ∷ args → fault ws p ≡ known_fault k args p
known_fault_of ws args k p e = rw (e, line_word-spelling k) refl

pub takes_no_fault : (ws : List (List ℕ)) (p q : QueryValue) → Takes ws p q → fault ws p ≡ None
takes_no_fault ws p q h =
    let d = takes_done ws p q h in
    known_fault_of ws d.args d.word p d.says ∙ no_fault_from_parts d.word d.args p d.no_fault

pub ends_no_fault : (ws : List (List ℕ)) (p : QueryValue) → EndsQuery ws p → fault ws p ≡ None
ends_no_fault ws p h =
    known_fault_of ws [] Find p h.says_find
    ∙ no_fault_from_parts Find [] p (record {
      settable = refl;
      counted = refl;
      words_fit = refl;
      in_order = refl;
      enough = le-ltb (length p.stack) 0 (omega arith);
      flat = refl;
      one_tree = refl;
      none_left = ap (λ s. nat_lt 0 (length s)) h.nothing_left;
    })

step_cases : (k : LineWord) → (step_after k ≡ Next) ⊎ (k ≡ Find)
step_cases Find = inr refl
step_cases k = inl refl

known_taken : (w : List ℕ) (args : List (List ℕ)) (p : QueryValue) (o : Option LineWord) → line_word w ≡ o → fault_by_word o args p ≡ None
    → ((q : QueryValue) × Takes (w ∷ args) p q) ⊎ EndsQuery (w ∷ args) p
known_taken w args p None e h = absurd cc
known_taken w args p (Some k) e h =
    let parts = no_fault_parts k args p h in
    rw (line_word_spelled w k e)
    (elim (step_cases k) [
      | inl n ↦ inl (after_line k args p, takes_after k args p n parts)
      | inr f ↦ inr (let g = rw f at parts in rw f (ends_head args p g))
    ])

pub taken_or_ends : (ws : List (List ℕ)) (p : QueryValue) → fault ws p ≡ None → ((q : QueryValue) × Takes ws p q) ⊎ EndsQuery ws p
taken_or_ends [] p h = absurd cc
taken_or_ends (w ∷ args) p h = known_taken w args p (line_word w) refl h

spelled_once : (j k : LineWord) → spelling j ≡ spelling k → j ≡ k
spelled_once j k e =
    let f : Some j ≡ Some k = sym (line_word-spelling j) ∙ (ap line_word e ∙ line_word-spelling k) in cc

pub one_effect : (ws : List (List ℕ)) (p q r : QueryValue) → Takes ws p q → Takes ws p r → q ≡ r
one_effect ws p q r g h =
    let d = takes_done ws p q g in
    let e = takes_done ws p r h in
    let same : spelling d.word ∷ d.args ≡ spelling e.word ∷ e.args = sym d.says ∙ e.says in
    let first : spelling d.word ≡ spelling e.word = cc in
    let word = spelled_once d.word e.word first in
    let args : d.args ≡ e.args = cc in
    d.is ∙ (ap (λ k. after_line k d.args p) word ∙ (ap (λ a. after_line e.word a p) args ∙ sym e.is))

pub taken_goes_on : (ws : List (List ℕ)) (p q : QueryValue) → Takes ws p q → EndsQuery ws p → ⊥
taken_goes_on ws p q g h =
    let d = takes_done ws p q g in
    let same : spelling d.word ∷ d.args ≡ spelling Find ∷ [] = sym d.says ∙ h.says_find in
    let first : spelling d.word ≡ spelling Find = cc in
    let word = spelled_once d.word Find first in
    let n : step_after d.word ≡ End = ap step_after word in
    let m = d.goes_on in
    cc (m, n)
