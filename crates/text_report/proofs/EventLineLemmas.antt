-- Lines that are one event.
use Rattle.std.proofs.Common.{◌≡◌, ◌≤◌, ◌<◌, ℕ, zero, suc, ◌+◌, Bool, true, false, ◌&&◌, List, [], ◌∷◌, ◌++◌, length, map, drop, get_or}
use Rattle.std.proofs.Common.{if◌then◌else◌, refl, sym, ap, ap₂, ◌∙◌, subst, arith, drop_of_length-le}
use Rattle.std.proofs.Math.Seq.{drop-cons}
use Rattle.std.proofs.lemmas.Bool.{true≢false}
use Rattle.line_search.specs.LineMatchers.{LineMatcher}
use Rattle.line_search.specs.Lines.{TextLine}
use Rattle.grep_core.specs.Selecting.{any, roles_from}
use Rattle.grep_core.specs.declared.output_options.OutputOptions.{OutputOptions}
use Rattle.grep_core.specs.declared.role.Role.{Role}
use Rattle.grep_core.specs.declared.role.Role.TheVariants.{Beside, Hidden, Selected}
use Rattle.text_report.specs.EventCourse.{IsGroup, group_of, item_by}
use Rattle.text_report.specs.Events.{EventItem, Printed, line_item, with_event, with_events}
use Rattle.text_report.specs.LineSpans.{line_of, lines_from, whole_end}
use Rattle.text_report.specs.TextEvents.{EventLines, event_lines, is_selected, lines_item, one_line, put_lines, starts_selected, with_all_lines, with_lines_after}
use Rattle.text_report.specs.declared.event_lines.Group.{Group}
use Rattle.text_report.specs.declared.lines.LineSpan.{LineSpan}
use Rattle.text_report.proofs.LineLemmas.{none_from}
use Rattle.std.specs.Prelude.{Option, Some, None, take}

-- ---- three conditions
first_two : (x y z : Bool) → (x && y) ≡ false → (x && (y && z)) ≡ false
first_two true true z e = absurd (true≢false e)
first_two true false z e = refl
first_two false y z e = refl

last_one : (x y z : Bool) → z ≡ false → (x && (y && z)) ≡ false
last_one true true z e = e
last_one true false z e = refl
last_one false y z e = refl

all_three : (x y z : Bool) → (x && y) ≡ true → (x && (y && z)) ≡ z
all_three true true z e = refl
all_three true false z e = absurd (true≢false (sym e))
all_three false y z e = absurd (true≢false (sym e))

first_of_two : (x y : Bool) → (x && y) ≡ true → x ≡ true
first_of_two true y e = refl
first_of_two false y e = e

both : (x y : Bool) → x ≡ true → y ≡ true → (x && y) ≡ true
both x y e d = ap₂ (λ a b. a && b) e d

-- ---- lines before other ones
abbrev put_by : Bool → EventLines → EventLines → List EventLines → List EventLines
put_by joins a b bs = if joins then with_lines_after a b ∷ bs else a ∷ (b ∷ bs)

pub put_alone : (joins : Bool) (a : EventLines) (bs : List EventLines) → (joins && is_selected a.role) ≡ false → put_lines joins a bs ≡ a ∷ bs
put_alone joins a [] e = refl
put_alone joins a (b ∷ bs) e = ap (λ t. put_by t a b bs) (first_two joins (is_selected a.role) (is_selected b.role) e)

abbrev starts_group : List EventLines → Bool
starts_group [] = false
starts_group (b ∷ bs) = is_selected b.role

put_apart : (joins : Bool) (a : EventLines) (bs : List EventLines) → starts_group bs ≡ false → put_lines joins a bs ≡ a ∷ bs
put_apart joins a [] e = refl
put_apart joins a (b ∷ bs) e = ap (λ t. put_by t a b bs) (last_one joins (is_selected a.role) (is_selected b.role) e)

by_role : (t : Bool) (a b : EventLines) (bs : List EventLines) → starts_group (put_by t a b bs) ≡ is_selected a.role
by_role true a b bs = refl
by_role false a b bs = refl

group_role : (joins : Bool) (a : EventLines) (bs : List EventLines) → starts_group (put_lines joins a bs) ≡ is_selected a.role
group_role joins a [] = refl
group_role joins a (b ∷ bs) = by_role (joins && (is_selected a.role && is_selected b.role)) a b bs

not_starting : (joins : Bool) (rs : List Role) (ls : List TextLine) → starts_selected rs ≡ false → starts_group (event_lines joins rs ls) ≡ false
not_starting joins [] ls e = refl
not_starting joins (r ∷ rs) [] e = refl
not_starting joins (r ∷ rs) (l ∷ ls) e = group_role joins (one_line r l) (event_lines joins rs ls) ∙ e

-- the next line isn't selected
pub put_before_as : (joins own : Bool) (a : EventLines) (rs : List Role) (ls : List TextLine) → starts_selected rs ≡ false →
    put_lines joins a (event_lines own rs ls) ≡ a ∷ event_lines own rs ls
put_before_as joins own a rs ls e = put_apart joins a (event_lines own rs ls) (not_starting own rs ls e)

no_lines : (joins : Bool) (rs : List Role) (ls : List TextLine) → ls ≡ [] → event_lines joins rs ls ≡ []
no_lines joins [] ls e = refl
no_lines joins (r ∷ rs) ls e = ap (event_lines joins (r ∷ rs)) e

-- no line is left
pub none_grouped : (joins : Bool) (rs : List Role) (t : ℕ) (text : List ℕ) (n at : ℕ) → length text ≤ at →
    event_lines joins rs (lines_from t text n at) ≡ []
none_grouped joins rs t text n at past =
    no_lines joins rs (lines_from t text n at) (none_from t text n at (drop_of_length-le text past))

pub put_last_as : (joins own : Bool) (a : EventLines) (rs : List Role) (t : ℕ) (text : List ℕ) (n at : ℕ) → length text ≤ at →
    put_lines joins a (event_lines own rs (lines_from t text n at)) ≡ a ∷ event_lines own rs (lines_from t text n at)
put_last_as joins own a rs t text n at past =
    let none : event_lines own rs (lines_from t text n at) ≡ [] = none_grouped own rs t text n at past in
    ap (put_lines joins a) none ∙ ap (λ bs. a ∷ bs) (sym none)

sums : (a b c : ℕ) → a + (b + c) ≡ (a + b) + c
sums a b c = omega arith

put_both_by : (joins : Bool) (a b c : EventLines) (cs : List EventLines) → (joins && is_selected a.role) ≡ true → is_selected b.role ≡ true →
    (s : Bool) → is_selected c.role ≡ s → put_lines joins a (put_lines joins b (c ∷ cs)) ≡ put_lines joins (with_lines_after a b) (c ∷ cs)
put_both_by joins a b c cs e sel true is =
    let outer : (joins && (is_selected a.role && is_selected b.role)) ≡ true = all_three joins (is_selected a.role) (is_selected b.role) e ∙ sel in
    ap (λ t. put_lines joins a (put_by t b c cs))
    (all_three joins (is_selected b.role) (is_selected c.role) (both joins (is_selected b.role) (first_of_two joins (is_selected a.role) e) sel) ∙ is)
    ∙ ap (λ t. put_by t a (with_lines_after b c) cs) outer
    ∙ ap (λ n. record { role = a.role; first = a.first; last = c.last; lines = n } ∷ cs) (sums a.lines b.lines c.lines)
    ∙ sym (ap (λ t. put_by t (with_lines_after a b) c cs) (all_three joins (is_selected a.role) (is_selected c.role) e ∙ is))
put_both_by joins a b c cs e sel false is =
    let outer : (joins && (is_selected a.role && is_selected b.role)) ≡ true = all_three joins (is_selected a.role) (is_selected b.role) e ∙ sel in
    ap (λ t. put_lines joins a (put_by t b c cs)) (last_one joins (is_selected b.role) (is_selected c.role) is)
    ∙ ap (λ t. put_by t a b (c ∷ cs)) outer
    ∙ sym (ap (λ t. put_by t (with_lines_after a b) c cs) (last_one joins (is_selected a.role) (is_selected c.role) is))

-- selected lines that are joined with the next ones
pub put_both : (joins : Bool) (a b : EventLines) (bs : List EventLines) → (joins && is_selected a.role) ≡ true → is_selected b.role ≡ true →
    put_lines joins a (put_lines joins b bs) ≡ put_lines joins (with_lines_after a b) bs
put_both joins a b [] e sel =
    ap (λ t. put_by t a b []) (all_three joins (is_selected a.role) (is_selected b.role) e ∙ sel)
put_both joins a b (c ∷ cs) e sel = put_both_by joins a b c cs e sel (is_selected c.role) refl

-- ---- lines that are joined
abbrev joined_of : Group → Group → Group
joined_of g n = record { role = g.role; first = g.first; last = n.last; lines = g.lines + n.lines }

pub joined_lies : (text : List ℕ) (g n a : Group) → a ≡ joined_of g n → IsGroup text g → IsGroup text n → n.first.start ≡ whole_end g.last →
    IsGroup text a
joined_lies text g n a is one other next =
    subst (IsGroup text) (sym is) (record {
      first_ordered = one.first_ordered;
      first_inside = one.first_inside;
      ordered = other.ordered;
      inside = other.inside;
      forward = omega (arith, one.forward, other.forward, next);
      within = other.within;
    })

pub joined_step : (joins : Bool) (text : List ℕ) (g n a : Group) (left : ℕ → List EventLines) (old : List EventLines) → a ≡ joined_of g n →
    old ≡ put_lines joins (group_of text n) (left (whole_end n.last)) → (joins && is_selected g.role) ≡ true → is_selected n.role ≡ true →
    put_lines joins (group_of text g) old ≡ put_lines joins (group_of text a) (left (whole_end a.last))
joined_step joins text g n a left old is first may sel =
    ap (put_lines joins (group_of text g)) first
    ∙ put_both joins (group_of text g) (group_of text n) (left (whole_end n.last)) may sel
    ∙ ap (λ (x : Group). put_lines joins (group_of text x) (left (whole_end x.last))) (sym is)

-- ---- lines that are searched by themselves
no_join : (a : EventLines) (bs : List EventLines) → put_lines false a bs ≡ a ∷ bs
no_join a bs = put_alone false a bs refl

pub lines_alone : (w : OutputOptions) (name : List ℕ) (f : LineMatcher) (text : List ℕ) (rs : List Role) (ls : List TextLine) (p : Printed) →
    with_all_lines w name (item_by None f text) (event_lines false rs ls) p ≡ with_events w name rs (map (line_item f text) ls) p
lines_alone w name f text [] ls p = refl
lines_alone w name f text (r ∷ rs) [] p = refl
lines_alone w name f text (r ∷ rs) (l ∷ ls) p =
    ap (λ gs. with_all_lines w name (item_by None f text) gs p) (no_join (one_line r l) (event_lines false rs ls))
    ∙ lines_alone w name f text rs ls (with_event w name r (line_item f text l) p)
