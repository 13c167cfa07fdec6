-- What is still to be printed of a text as JSON events, step by step.
use Rattle.std.proofs.Common.{◌≡◌, ◌≤◌, ◌<◌, ℕ, zero, suc, ◌+◌, ◌-◌, Bool, true, false, not, ◌&&◌, List, [], ◌∷◌, ◌++◌, length, map, take, drop, Option, Some, None, nat_lt, cond}
use Rattle.std.proofs.Common.{if◌then◌else◌, refl, sym, ap, ap₂, ◌∙◌, subst, append_assoc, append-nil, arith, drop_of_length-le, length-drop}
use Rattle.std.proofs.lemmas.Bool.{lt-ltb, ltb-false}
use Rattle.std.proofs.lemmas.Option.{none-some, same_Some}
use Rattle.std.specs.List.{position}
use Rattle.json_events.specs.Events.{as_line, lines_event}
use Rattle.line_search.specs.LineMatchers.{LineMatcher}
use Rattle.line_search.specs.Lines.{SplitLine, TextLine, numbered}
use Rattle.grep_core.proofs.ForCallers.{left_none, limited_step}
use Rattle.grep_core.specs.Report.{after_of, before_of, is_wanted, roles_of, selected}
use Rattle.grep_core.specs.Reporting.{left_of, may_select}
use Rattle.grep_core.specs.Selecting.{any, limited, roles_from}
use Rattle.grep_core.specs.declared.output_options.OutputOptions.{OutputOptions}
use Rattle.grep_core.specs.declared.role.Role.{Role}
use Rattle.grep_core.specs.declared.role.Role.TheVariants.{Beside, Hidden, Selected}
use Rattle.text_report.specs.EventCourse.{flags_of, gap, selects}
use Rattle.text_report.specs.Events.{EventItem, Printed, event_of, event_kind, shown_found, with_events}
use Rattle.text_report.specs.LineSpans.{split_at}
use Rattle.text_report.specs.Records.{records_of}

-- ---- which lines are selected
abbrev wants : OutputOptions → LineMatcher → SplitLine → Bool
wants w f it = if w.invert then not (f.has_match it) else f.has_match it

wanted_numbered : (w : OutputOptions) (f : LineMatcher) (k at : ℕ) (ls : List SplitLine) →
    map (is_wanted w f) (numbered k at ls) ≡ map (wants w f) ls
wanted_numbered w f k at [] = refl
wanted_numbered w f k at (l ∷ ls) = ap (λ t. wants w f l ∷ t) (wanted_numbered w f (k + 1) (at + length l.bytes + 1) ls)

-- before the first line
pub flags_first : (w : OutputOptions) (f : LineMatcher) (text : List ℕ) →
    flags_of w f 0 (split_at w.terminator text) ≡ selected w f (records_of w text)
flags_first w f text =
    ap₂ (λ most ts. limited most ts) (left_none w.most) (sym (wanted_numbered w f 1 0 (split_at w.terminator text)))

-- after a line
pub flags_line : (w : OutputOptions) (f : LineMatcher) (n m : ℕ) (sel : Bool) (line : SplitLine) (ls : List SplitLine) →
    sel ≡ selects w n (f.has_match line) → m ≡ n + (if sel then 1 else 0) → flags_of w f n (line ∷ ls) ≡ sel ∷ flags_of w f m ls
flags_line w f n m sel line ls is more =
    limited_step w.most n (wants w f line) (map (wants w f) ls)
    ∙ ap (λ t. t ∷ limited (left_of w.most (n + (if t then 1 else 0))) (map (wants w f) ls)) (sym is)
    ∙ ap (λ k. sel ∷ limited (left_of w.most k) (map (wants w f) ls)) (sym more)

pub flags_push : (w : OutputOptions) (f : LineMatcher) (n m : ℕ) (sel : Bool) (line : SplitLine) (ls all : List SplitLine) (old new : List Bool) →
    all ≡ line ∷ ls → new ≡ old ++ sel ∷ [] →
    sel ≡ selects w n (f.has_match line) → m ≡ n + (if sel then 1 else 0) →
    old ++ flags_of w f n all ≡ new ++ flags_of w f m ls
flags_push w f n m sel line ls all old new cut pushed is more =
    ap (λ it. old ++ flags_of w f n it) cut
    ∙ ap (λ t. old ++ t) (flags_line w f n m sel line ls is more)
    ∙ sym (append_assoc old (sel ∷ []) (flags_of w f m ls))
    ∙ ap (λ t. t ++ flags_of w f m ls) (sym pushed)

none_limited : (most : Option ℕ) → limited most [] ≡ []
none_limited None = refl
none_limited (Some zero) = refl
none_limited (Some (suc n)) = refl

-- after the last line
pub flags_end : (w : OutputOptions) (f : LineMatcher) (n : ℕ) (rest : List ℕ) → rest ≡ [] → flags_of w f n (split_at w.terminator rest) ≡ []
flags_end w f n rest none =
    ap (λ it. flags_of w f n (split_at w.terminator it)) none ∙ none_limited (left_of w.most n)

-- ---- roles
lt_more : (a b : ℕ) → nat_lt (1 + a) (suc b) ≡ nat_lt a b
lt_more a b = grind arith

some_lt : (k : ℕ) → nat_lt 0 (suc k) ≡ true
some_lt k = grind arith

and_no : (x y : Bool) → y ≡ false → (x && y) ≡ false
and_no true y e = e
and_no false y e = refl

some_at : (b : Bool) (k n : ℕ) → cond b (Some k) None ≡ Some n → n ≡ k
some_at true k n e = sym (same_Some k n e)
some_at false k n e = absurd (none-some n e)

none_at : (b : Bool) (k : ℕ) → cond b (Some k) None ≡ None → b ≡ false
none_at true k e = absurd (none-some k (sym e))
none_at false k e = refl

gap_within : (flags : List Bool) → gap flags ≤ length flags
gap_within [] = omega arith
gap_within (true ∷ bs) = omega arith
gap_within (false ∷ bs) = omega (arith, gap_within bs)

pub gap_found : (flags : List Bool) (n : ℕ) → position (λ flag. flag) flags ≡ Some n → n ≡ gap flags
gap_found flags n e = some_at (nat_lt (gap flags) (length flags)) (gap flags) n e

pub gap_whole : (flags : List Bool) → position (λ flag. flag) flags ≡ None → gap flags ≡ length flags
gap_whole flags e =
    let past : length flags ≤ gap flags =
    ltb-false (gap flags) (length flags) (none_at (nat_lt (gap flags) (length flags)) (gap flags) e) in
    omega (arith, past, gap_within flags)

-- whether one of the next n lines is selected
pub near : (flags : List Bool) (n : ℕ) → any (take n flags) ≡ (nat_lt (gap flags) (length flags) && nat_lt (gap flags) n)
near [] zero = refl
near [] (suc n) = refl
near (b ∷ bs) zero = sym (and_no (nat_lt (gap (b ∷ bs)) (length (b ∷ bs))) (nat_lt (gap (b ∷ bs)) 0) (grind arith))
near (true ∷ bs) (suc n) = sym (ap₂ (λ x y. x && y) (some_lt (length bs)) (some_lt n))
near (false ∷ bs) (suc n) =
    near bs n ∙ sym (ap₂ (λ x y. x && y) (lt_more (gap bs) (length bs)) (lt_more (gap bs) n))

pub near_is : (flags : List Bool) (index next before : ℕ) → index < length flags →
    next ≡ index + 1 + gap (drop (index + 1) flags) → next < length flags → next - index - 1 < before →
    any (take before (drop (index + 1) flags)) ≡ true
near_is flags index next before below known found few =
    let rest : List Bool = drop (index + 1) flags in
    let size : length rest ≡ length flags - (index + 1) = length-drop (index + 1) flags in
    near rest before
    ∙ ap₂ (λ x y. x && y) (lt-ltb (gap rest) (length rest) (omega (arith, size, known, found)))
    (lt-ltb (gap rest) before (omega (arith, known, few)))

no_lt : (a b : ℕ) → b ≤ a → nat_lt a b ≡ false
no_lt a b e = grind (arith, e)

no_and : (x y : Bool) → x ≡ false → (x && y) ≡ false
no_and x y e = ap (λ t. t && y) e

pub near_none : (flags : List Bool) (index next before : ℕ) → index < length flags →
    next ≡ index + 1 + gap (drop (index + 1) flags) → length flags ≤ next →
    any (take before (drop (index + 1) flags)) ≡ false
near_none flags index next before below known none =
    let rest : List Bool = drop (index + 1) flags in
    let size : length rest ≡ length flags - (index + 1) = length-drop (index + 1) flags in
    near rest before
    ∙ no_and (nat_lt (gap rest) (length rest)) (nat_lt (gap rest) before)
    (no_lt (gap rest) (length rest) (omega (arith, size, known, none, below)))

pub near_far : (flags : List Bool) (index next before : ℕ) →
    next ≡ index + 1 + gap (drop (index + 1) flags) → before ≤ next - index - 1 →
    any (take before (drop (index + 1) flags)) ≡ false
near_far flags index next before known far =
    let rest : List Bool = drop (index + 1) flags in
    near rest before
    ∙ and_no (nat_lt (gap rest) (length rest)) (nat_lt (gap rest) before)
    (no_lt (gap rest) before (omega (arith, known, far)))

-- ---- items
by_four : {X Y : Type 0} (F : ℕ → ℕ → X → Y → List ℕ) (n m p q : ℕ) (x y : X) (s t : Y) →
    n ≡ m → p ≡ q → x ≡ y → s ≡ t → F n p x s ≡ F m q y t
by_four F n m p q x y s t e1 e2 e3 e4 =
    ap (λ k. F k p x s) e1 ∙ ap (λ k. F m k x s) e2 ∙ ap (λ k. F m q k s) e3 ∙ ap (λ k. F m q y k) e4

pub event_is : (w : OutputOptions) (name : List ℕ) (role : Role) (it : EventItem) (number place : ℕ) (bytes : List ℕ)
    (found : List (ℕ × ℕ)) → number ≡ it.number → place ≡ it.place → bytes ≡ it.bytes → found ≡ shown_found w role it.found →
    as_line (lines_event name (event_kind role) (if w.numbers then Some number else None) place bytes found) ≡ event_of w name role it
event_is w name role it number place bytes found e1 e2 e3 e4 =
    by_four (λ n p bs fs. as_line (lines_event name (event_kind role) (if w.numbers then Some n else None) p bs fs)) number it.number place
    it.place bytes it.bytes found (shown_found w role it.found) e1 e2 e3 e4

pub flags_all : (w : OutputOptions) (f : LineMatcher) (text : List ℕ) (flags : List Bool) (n at : ℕ) → length text ≤ at →
    flags_of w f 0 (split_at w.terminator text) ≡ flags ++ flags_of w f n (split_at w.terminator (drop at text)) →
    flags ≡ selected w f (records_of w text)
flags_all w f text flags n at past kept =
    sym (append-nil flags)
    ∙ sym (ap (λ t. flags ++ t) (flags_end w f n (drop at text) (drop_of_length-le text past)))
    ∙ sym kept
    ∙ flags_first w f text
