-- The events of a text, one after the other.
use Rattle.std.proofs.Common.{◌≡◌, ◌≤◌, ◌<◌, ℕ, ◌+◌, ◌-◌, Bool, true, not, List, [], ◌∷◌, ◌++◌, length, map, take, drop, slice_range, Option, Some, None}
use Rattle.std.proofs.Common.{refl, sym, ap, ap₂, ◌∙◌, subst, arith, length-drop, length-take-le}
use Rattle.std.specs.Borrow.{Bor}
use Rattle.std.specs.Prelude.{IfSome, option_map}
use Rattle.std.specs.Io.KnownBytes.{Appends}
use Rattle.json_events.specs.Events.{as_line, begin_event}
use Rattle.json_events.specs.declared.elapsed.Elapsed.{Elapsed}
use Rattle.search_types.specs.declared.span.Span.{Span}
use Rattle.line_search.specs.LineMatchers.{LineMatcher, span_pair}
use Rattle.line_search.specs.Searchers.{SearchesFor, Sought, found_by}
use Rattle.grep_core.specs.Report.{first_of, roles_of, selected}
use Rattle.grep_core.specs.declared.output_options.OutputOptions.{OutputOptions}
use Rattle.grep_core.specs.declared.role.Role.{Role}
use Rattle.text_report.specs.EventCourse.{AreOrdered, ArePrinted, IsCutOff, IsEventItem, IsHeld, WritesSome, found_in, gap, group_of, groups_left, item_by, item_of, joins_lines, printed_all, printed_left, roles_left, task_with}
use Rattle.text_report.specs.Events.{EventItem, Printed, ended_events, line_item, line_past, printed, printed_lines, shown_found, tally, with_events}
use Rattle.text_report.specs.LineSpans.{line_of, whole_end}
use Rattle.text_report.specs.Records.{records_of}
use Rattle.text_report.specs.TextEvents.{EventLines, event_lines, lines_item, parts_between, printed_text, touched_lines, with_all_lines}
use Rattle.text_report.specs.Touching.{AreBefore, content_end}
use Rattle.text_report.specs.declared.event_lines.EventProgress.{EventProgress}
use Rattle.text_report.specs.declared.event_lines.EventTask.{EventTask}
use Rattle.text_report.specs.declared.event_lines.Group.{Group}
use Rattle.text_report.specs.declared.events.Item.{Item}
use Rattle.text_report.specs.declared.lines.LineSpan.{LineSpan}
use Rattle.text_report.proofs.EventLineLemmas.{lines_alone, none_grouped}
use Rattle.text_report.proofs.EventPieceLemmas.{IsLate, cut_by, cut_none, late_from}
use Rattle.text_report.proofs.EventReportLemmas.{past_is}
use Rattle.text_report.proofs.SeenLemmas.{ends_there, still_before}

-- ---- one event
number_by : (o : Option (List (ℕ × ℕ))) (f : LineMatcher) (text : List ℕ) (a : EventLines) → a.first.number ≡ (item_by o f text a).number
number_by None f text a = refl
number_by (Some found) f text a = refl

place_by : (o : Option (List (ℕ × ℕ))) (f : LineMatcher) (text : List ℕ) (a : EventLines) → a.first.place ≡ (item_by o f text a).place
place_by None f text a = refl
place_by (Some found) f text a = refl

bytes_by : (o : Option (List (ℕ × ℕ))) (f : LineMatcher) (text : List ℕ) (a : EventLines) →
    slice_range text a.first.place (line_past a.last) ≡ (item_by o f text a).bytes
bytes_by None f text a = refl
bytes_by (Some found) f text a = refl

lines_by : (o : Option (List (ℕ × ℕ))) (f : LineMatcher) (text : List ℕ) (a : EventLines) → a.lines ≡ (item_by o f text a).lines
lines_by None f text a = refl
lines_by (Some found) f text a = refl

pub group_is_item : (w : OutputOptions) (role : Role) (o : Option (List (ℕ × ℕ))) (f : LineMatcher) (text : List ℕ) (a : Group) (item : Item) →
    a.last.start ≤ a.last.end → a.last.end ≤ length text → item.number ≡ a.first.number → item.place ≡ a.first.start →
    item.bytes.now ≡ slice_range text a.first.start (whole_end a.last) →
    map span_pair item.found.now ≡ shown_found w role (item_by o f text (group_of text a)).found → item.lines ≡ a.lines →
    IsEventItem w role item (item_by o f text (group_of text a))
group_is_item w role o f text a item ordered inside number place bytes found lines = record {
  number = number ∙ number_by o f text (group_of text a);
  place = place ∙ place_by o f text (group_of text a);
  bytes = bytes ∙ ap (slice_range text a.first.start) (sym (past_is text a.last ordered inside)) ∙ bytes_by o f text (group_of text a);
  found = found;
  lines = lines ∙ lines_by o f text (group_of text a);
}

pub some_bytes_of : (text : List ℕ) (start end : ℕ) (bytes : List ℕ) → bytes ≡ slice_range text start end → start < end → end ≤ length text →
    0 < length bytes
some_bytes_of text start end bytes is forward within =
    let size : length (slice_range text start end) ≡ end - start =
    length-take-le (end - start) (drop start text) (omega (arith, length-drop start text, within)) in
    omega (arith, ap length is, size, forward)

-- ---- the matches of some lines
pub given : {A : Type 0} (P : A → Type 0) (o : Option A) (x : A) → o ≡ Some x → IfSome o P → P x
given P o x is h = subst (λ it. IfSome it P) is h

pub past_still : (o : Option (Bor (List Span))) (first at next : ℕ) → at ≤ next → IfSome o (λ found. AreBefore found.now first at) →
    IfSome o (λ found. AreBefore found.now first next)
past_still None first at next low past = tt
past_still (Some found) first at next low past = still_before found.now first at next low past

pub some_by_text : (t : EventTask) (f : LineMatcher) (a : Group) (found : Bor (List Span)) (parts : List (ℕ × ℕ)) → t.found ≡ Some found →
    a.last.start ≤ a.last.end → a.last.end ≤ length t.text.now →
    parts ≡ parts_between (map span_pair found.now) a.first.start a.last.end (whole_end a.last) →
    parts ≡ (item_of t f (group_of t.text.now a)).found
some_by_text t f a found parts is ordered inside are =
    subst (λ (o : Option (Bor (List Span))). parts
    ≡ (item_by (option_map (λ x. map span_pair x.now) o) f t.text.now (group_of t.text.now a)).found) (sym is)
    (are ∙ sym (ap₂ (λ e p. parts_between (map span_pair found.now) a.first.start e p) (ends_there t.text.now a.last ordered inside)
    (past_is t.text.now a.last ordered inside)))

-- ---- what was written after an error
module _ (t : EventTask) (f : LineMatcher) where
  late_left : (p : EventProgress) → 0 < p.at → IsLate t.what.now t.name.now (item_of t f) (groups_left t p.turn p.at)
  late_left p some =
      late_from t.what.now t.name.now (item_of t f) (λ a. sym (place_by (found_in t) f t.text.now a)) (joins_lines t)
      (roles_left t.what.now t.flags.now p.turn) t.what.now.terminator t.text.now (p.turn.index + 1) p.at some

  pub cut_short : (time : Elapsed) (o p : EventProgress) (begun all : List ℕ) (start now : Option (List ℕ)) → (0 < p.counts.end → 0 < p.at) →
      printed_left t f o (printed begun o.counts) ≡ printed_left t f p (printed all p.counts) → IsCutOff start now all p.counts.end →
      WritesSome t f time o begun start now
  cut_short time o p begun all start now far goes_on cut =
      let part =
      cut_by t.what.now t.name.now (item_of t f) time (length t.text.now) (groups_left t p.turn p.at) (printed all p.counts)
      (λ some. late_left p (far some)) start now p.counts.end refl cut in (
        part.0,
        subst (λ (x : Printed). Appends start now (take part.0 (ended_events t.what.now t.name.now time (length t.text.now) x))) (sym goes_on) part.1,
      )

-- ---- one event after others
module _ (t : EventTask) (s : Sought) (start a b : Option (List ℕ)) (begun held more left : List ℕ) (o p q r : EventProgress) where
  pub held_more : (pr : ArePrinted t s start a begun held o p) → q.written ≡ p.written → (q.counts.end ≡ 0 → p.counts.end ≡ 0) →
      IsHeld start a (pr.are_held.done ++ more) more q.written q.counts.end
  held_more pr same kept = record {
    done = pr.are_held.done;
    appended = pr.are_held.appended;
    counted = same ∙ pr.are_held.counted;
    late = λ none. pr.are_held.late (kept none);
    are = refl;
  }

  pub then_printed : (pr : ArePrinted t s start a begun held o p) →
      IsHeld start b (pr.are_held.done ++ more) left r.written r.counts.end → p.at < q.at → r.at ≡ q.at → r.turn ≡ q.turn → r.counts ≡ q.counts →
      ((by : SearchesFor s true) → AreOrdered t → (before : List ℕ) →
      printed_left t (found_by by) p (printed (before ++ held) p.counts) ≡ printed_left t (found_by by) q (printed (before ++ more) q.counts)) →
      ArePrinted t s start b begun left o r
  then_printed pr h on at turn counts goes_on = record {
    all = pr.are_held.done ++ more;
    are_held = h;
    far = λ some. omega (arith, on, at);
    goes_on = λ by order.
        pr.goes_on by order
        ∙ ap (λ (l : List ℕ). printed_left t (found_by by) p (printed l p.counts)) pr.are_held.are
        ∙ goes_on by order pr.are_held.done
        ∙ sym (ap (λ c. printed_left t (found_by by) r (printed (pr.are_held.done ++ more) c)) counts
        ∙ ap₂ (λ u n. printed_left t (found_by by) (record q { turn = u; at = n }) (printed (pr.are_held.done ++ more) q.counts)) turn at);
  }

-- ---- before the first line, and after the last one
abbrev pub first_of_task : EventTask → EventProgress
first_of_task t = record {
  at = 0;
  first = 0;
  turn = record { index = 0; left = first_of t.what.now.context; next = gap t.flags.now };
  counts = tally 0 0 0;
  written = 0;
}

pub begun_all : (t : EventTask) (f : LineMatcher) (p : EventProgress) (none out : List ℕ) → p ≡ first_of_task t → none ≡ [] →
    out ≡ none ++ as_line (begin_event t.name.now) → printed_left t f p (printed out p.counts) ≡ printed_all t f
begun_all t f p none out first empty begun =
    ap₂ (λ (q : EventProgress) (bs : List ℕ). printed_left t f q (printed bs q.counts)) first
    (begun ∙ ap (λ (l : List ℕ). l ++ as_line (begin_event t.name.now)) empty)

pub ended_all : (t : EventTask) (f : LineMatcher) (p : EventProgress) (x : Printed) → length t.text.now ≤ p.at → printed_left t f p x ≡ x
ended_all t f p x past =
    ap (λ gs. with_all_lines t.what.now t.name.now (item_of t f) gs x)
    (none_grouped (joins_lines t) (roles_left t.what.now t.flags.now p.turn) t.what.now.terminator t.text.now (p.turn.index + 1) p.at past)

-- ---- the reports
pub lines_report : (w : Bor OutputOptions) (name text : Bor (List ℕ)) (flags : Bor (List Bool)) (f : LineMatcher) →
    flags.now ≡ selected w.now f (records_of w.now text.now) →
    printed_all (task_with w name text flags None) f ≡ printed_lines w.now f name.now text.now
lines_report w name text flags f are =
    lines_alone w.now name.now f text.now (roles_of w.now flags.now) (records_of w.now text.now)
    (printed (as_line (begin_event name.now)) (tally 0 0 0))
    ∙ ap (λ (fs : List Bool). with_events w.now name.now (roles_of w.now fs) (map (line_item f text.now) (records_of w.now text.now))
    (printed (as_line (begin_event name.now)) (tally 0 0 0))) are

pub text_report : (w : Bor OutputOptions) (name text : Bor (List ℕ)) (flags : Bor (List Bool)) (found : Bor (List Span)) (f : LineMatcher)
    (spans : List (ℕ × ℕ)) → map span_pair found.now ≡ spans → flags.now ≡ touched_lines w.now (map span_pair found.now) text.now →
    printed_all (task_with w name text flags (Some found)) f ≡ printed_text w.now spans name.now text.now
text_report w name text flags found f spans same are =
    ap (λ (fs : List Bool). with_all_lines w.now name.now (lines_item (map span_pair found.now) text.now)
    (event_lines (not w.now.invert) (roles_of w.now fs) (records_of w.now text.now)) (printed (as_line (begin_event name.now)) (tally 0 0 0))) are
    ∙ ap (λ l. printed_text w.now l name.now text.now) same
