-- Lines of a block that are skipped, or one that is looked at.
use Rattle.std.proofs.Common.{◌≡◌, ◌≢◌, ◌≤◌, ◌<◌, inl, inr, ℕ, zero, suc, ◌+◌, ◌-◌, Bool, true, false, cond, List, [], ◌∷◌, ◌++◌, length}
use Rattle.std.proofs.Common.{take, drop, slice_get, slice_range, Some, None, nat_lt}
use Rattle.std.proofs.Common.{refl, sym, ap, ◌∙◌, subst, arith, append_assoc, take-append-drop, length-append, length-drop}
use Rattle.std.proofs.lemmas.Bool.{cases_lt, ltb-true}
use Rattle.std.proofs.lemmas.List.{length-take-le}
use Rattle.std.proofs.lemmas.List.Folds.{drop_split}
use Rattle.std.proofs.lemmas.Option.{none-some}
use Rattle.std.specs.List.{position, position_or_len}
use Rattle.line_trees.specs.LineTrees.{HasNoFeedFrom}
use Rattle.line_trees.proofs.ForCallers.{get_dropped}
use Rattle.line_search.specs.Candidates.{IsLineStart}
use Rattle.line_search.specs.Lines.{SplitLine, ended, split_lines}
use Rattle.grep_core.specs.Skipping.{AreWhole}
use Rattle.line_search.proofs.ForCallers.{is_feed, before_start, feed_first}
use Rattle.grep_core.proofs.BlockLemmas.{turn, turn_counted}
use Rattle.grep_core.proofs.WholeLemmas.{whole_behind, whole_none}

none_by : (text : List ℕ) → ((i : ℕ) → slice_get text i ≡ Some 10 → ⊥) → (v : Bool) →
    nat_lt (position_or_len is_feed text) (length text) ≡ v →
    position is_feed text ≡ None
none_by text none true e =
    absurd (none (position_or_len is_feed text) (feed_first text (ltb-true (position_or_len is_feed text) (length text) e)))
none_by text none false e = ap (λ b. cond b (Some (position_or_len is_feed text)) None) e

pub no_feed : (text : List ℕ) → ((i : ℕ) → slice_get text i ≡ Some 10 → ⊥) → position is_feed text ≡ None
no_feed text none = none_by text none (nat_lt (position_or_len is_feed text) (length text)) refl

-- an offset that holds a byte is below the end
pub got_within : (xs : List ℕ) (i b : ℕ) → slice_get xs i ≡ Some b → i < length xs
got_within [] i b e = absurd (none-some b e)
got_within (x ∷ xs) zero b e = omega arith
got_within (x ∷ xs) (suc i) b e = let less = got_within xs i b e in omega (arith, less)

-- ---- whole lines
-- up to where a line starts
pub whole_start : (block : List ℕ) (r : ℕ) → IsLineStart block r → AreWhole (take r block)
whole_start block r starts = before_start block r starts

-- after the last one
pub rest_without : (block : List ℕ) (r : ℕ) → HasNoFeedFrom block r (length block) → position is_feed (drop r block) ≡ None
rest_without block r last =
    no_feed (drop r block) (λ i e.
    let here : slice_get block (r + i) ≡ Some 10 = sym (get_dropped r block i) ∙ e in
    last (r + i) (omega arith) (got_within block (r + i) 10 here) here)

last_at : (first : List ℕ) → slice_get (first ++ 10 ∷ []) (length first) ≡ Some 10
last_at [] = refl
last_at (x ∷ xs) = last_at xs

ends_line : (first : List ℕ) → IsLineStart (first ++ 10 ∷ []) (length (first ++ 10 ∷ []))
ends_line first some =
    let last : length (first ++ 10 ∷ []) - 1 ≡ length first = omega (arith, length-append first (10 ∷ [])) in
    ap (slice_get (first ++ 10 ∷ [])) last ∙ last_at first

pub whole_ends : (block : List ℕ) → AreWhole block → IsLineStart block (length block)
whole_ends block (inl none) some = absurd (omega (arith, some, ap length none))
whole_ends block (inr it) some = subst (λ (t : List ℕ). IsLineStart t (length t)) (sym it.1) (ends_line it.0) some

-- at the end of whole lines another one may start
pub starts_all : (block : List ℕ) (next : ℕ) → AreWhole block → next ≤ length block → (next < length block → IsLineStart block next) →
    IsLineStart block next
starts_all block next whole high starts = elim (cases_lt next (length block)) [
  | inl less ↦ starts less
  | inr over ↦ let last : length block ≡ next = omega (arith, over, high) in
      subst (λ (n : ℕ). IsLineStart block n) last (whole_ends block whole)
]

-- from the start of a line to that of another one
pub whole_range : (block : List ℕ) (at next : ℕ) → at ≤ next → IsLineStart block next → AreWhole (slice_range block at next)
whole_range block at next low starts =
    before_start (drop at block) (next - at) (λ some.
    let place : at + (next - at - 1) ≡ next - 1 = omega (arith, some, low) in
    get_dropped at block (next - at - 1) ∙ ap (slice_get block) place ∙ starts (omega (arith, some)))

-- ---- one line
pub here_told : {P : Type 0} (reports : P → List SplitLine → List ℕ) (p q : P) (block more text piece out new : List ℕ) (at len next : ℕ) →
    text ≡ drop at block → position is_feed text ≡ Some len → piece ≡ take len text → next ≡ at + (len + 1) →
    ((lines : List SplitLine) → out ++ reports p (ended piece ∷ lines) ≡ new ++ reports q lines) →
    out ++ reports p (split_lines (drop at block ++ more)) ≡ new ++ reports q (split_lines (drop next block ++ more))
here_told reports p q block more text piece out new at len next rest found cut is goes_on =
    turn reports p q block more text piece (out ++ reports p (split_lines (drop at block ++ more))) out new at len rest found cut refl
    goes_on
    ∙ sym (ap (λ n. new ++ reports q (split_lines (drop n block ++ more))) is)

pub here_counted : {P : Type 0} (counts : P → List SplitLine → ℕ) (p q : P) (block more text piece : List ℕ) (at len next : ℕ) →
    text ≡ drop at block → position is_feed text ≡ Some len → piece ≡ take len text → next ≡ at + (len + 1) →
    ((lines : List SplitLine) → counts q lines ≡ counts p (ended piece ∷ lines)) →
    counts q (split_lines (drop next block ++ more)) ≡ counts p (split_lines (drop at block ++ more))
here_counted counts p q block more text piece at len next rest found cut is goes_on =
    ap (λ n. counts q (split_lines (drop n block ++ more))) is
    ∙ turn_counted counts p q block more text piece (counts p (split_lines (drop at block ++ more))) at len rest found cut refl goes_on

-- ---- lines that are skipped
parted : (block more : List ℕ) (at next : ℕ) → at ≤ next → drop at block ++ more ≡ slice_range block at next ++ (drop next block ++ more)
parted block more at next low =
    ap (λ (t : List ℕ). t ++ more) (drop_split block at next low) ∙ append_assoc (slice_range block at next) (drop next block) more

pub passed_told : {P : Type 0} (reports : P → List SplitLine → List ℕ) (p q : P) (block more out new : List ℕ) (at next : ℕ) → at ≤ next →
    ((m : List ℕ) → out ++ reports p (split_lines (slice_range block at next ++ m)) ≡ new ++ reports q (split_lines m)) →
    out ++ reports p (split_lines (drop at block ++ more)) ≡ new ++ reports q (split_lines (drop next block ++ more))
passed_told reports p q block more out new at next low passed =
    ap (λ t. out ++ reports p (split_lines t)) (parted block more at next low) ∙ passed (drop next block ++ more)

pub passed_counted : {P : Type 0} (counts : P → List SplitLine → ℕ) (p q : P) (block more : List ℕ) (at next : ℕ) → at ≤ next →
    ((m : List ℕ) → counts q (split_lines m) ≡ counts p (split_lines (slice_range block at next ++ m))) →
    counts q (split_lines (drop next block ++ more)) ≡ counts p (split_lines (drop at block ++ more))
passed_counted counts p q block more at next low passed =
    passed (drop next block ++ more) ∙ sym (ap (λ t. counts p (split_lines t)) (parted block more at next low))

-- ---- or the next one
-- where a line starts in whole lines, a line feed ends it
pub moves_on : (block : List ℕ) (at behind : ℕ) → AreWhole block → at < length block →
    (position is_feed (drop at block) ≢ None → at < behind) → at < behind
moves_on block at behind whole below on =
    on (λ none. let over = whole_none (drop at block) (whole_behind block at whole) none in
    absurd (omega (arith, over, below, length-drop at block)))

-- after lines that were skipped, or none, and perhaps one more
pub moves_past : (block : List ℕ) (at start behind : ℕ) → AreWhole block → at < length block → at ≤ start → start ≤ behind →
    (position is_feed (drop start block) ≢ None → start < behind) → at < behind
moves_past block at start behind whole below from past on = elim (cases_lt at start) [
  | inl less ↦ omega (arith, less, past)
  | inr over ↦
      let same : start ≡ at = omega (arith, from, over) in
      moves_on block at behind whole below
      (λ some. subst (λ (n : ℕ). n < behind) same (on (λ none. some (sym (ap (λ (n : ℕ). position is_feed (drop n block)) same) ∙ none))))
]

-- ---- the whole lines of a block, and what comes after them
rejoin : (block more : List ℕ) (whole done : ℕ) → done ≤ whole →
    drop done (take whole block) ++ (drop whole block ++ more) ≡ drop done block ++ more
rejoin block more whole zero less =
    sym (append_assoc (take whole block) (drop whole block) more) ∙ ap (λ (t : List ℕ). t ++ more) (take-append-drop whole block)
rejoin block more zero (suc d) less = absurd (omega (arith, less))
rejoin [] more (suc w) (suc d) less = refl
rejoin (x ∷ xs) more (suc w) (suc d) less = rejoin xs more w d (omega (arith, less))

pub block_told : {P : Type 0} (reports : P → List SplitLine → List ℕ) (p q : P) (block more all out new : List ℕ) (whole done next : ℕ) →
    done ≤ whole → next ≤ whole →
    all ≡ out ++ reports p (split_lines (drop done block ++ more)) →
    ((m : List ℕ) → out ++ reports p (split_lines (drop done (take whole block) ++ m)) ≡
    new ++ reports q (split_lines (drop next (take whole block) ++ m))) →
    all ≡ new ++ reports q (split_lines (drop next block ++ more))
block_told reports p q block more all out new whole done next low high so_far goes_on =
    so_far
    ∙ sym (ap (λ t. out ++ reports p (split_lines t)) (rejoin block more whole done low))
    ∙ goes_on (drop whole block ++ more)
    ∙ ap (λ t. new ++ reports q (split_lines t)) (rejoin block more whole next high)

pub block_counted : {P : Type 0} (counts : P → List SplitLine → ℕ) (p q : P) (block more : List ℕ) (all whole done next : ℕ) →
    done ≤ whole → next ≤ whole →
    counts p (split_lines (drop done block ++ more)) ≡ all →
    ((m : List ℕ) → counts q (split_lines (drop next (take whole block) ++ m)) ≡
    counts p (split_lines (drop done (take whole block) ++ m))) →
    counts q (split_lines (drop next block ++ more)) ≡ all
block_counted counts p q block more all whole done next low high so_far goes_on =
    sym (ap (λ t. counts q (split_lines t)) (rejoin block more whole next high))
    ∙ goes_on (drop whole block ++ more)
    ∙ ap (λ t. counts p (split_lines t)) (rejoin block more whole done low)
    ∙ so_far

pub taken_bound : (block : List ℕ) (whole done : ℕ) → whole ≤ length block → done ≤ length (take whole block) → done ≤ whole
taken_bound block whole done high within = omega (arith, within, length-take-le whole block high)

pub taken_below : (block : List ℕ) (whole done : ℕ) → whole ≤ length block → done < whole → done < length (take whole block)
taken_below block whole done high less = omega (arith, less, length-take-le whole block high)

pub none_behind : (block : List ℕ) (whole done : ℕ) → done ≤ whole → whole ≤ done → position is_feed (drop whole block) ≡ None →
    position is_feed (drop done block) ≡ None
none_behind block whole done low high none =
    let same : whole ≡ done = omega (arith, low, high) in
    subst (λ (n : ℕ). position is_feed (drop n block) ≡ None) same none
