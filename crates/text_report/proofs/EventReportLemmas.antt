-- The events of a text and its statistics.
use Rattle.std.proofs.Common.{◌≡◌, ◌≤◌, ◌<◌, ℕ, zero, suc, ◌+◌, ◌-◌, Bool, true, false, List, [], ◌∷◌, ◌++◌, length, map, take, drop, slice_range, Option, Some, None}
use Rattle.std.proofs.Common.{nat_lt, if◌then◌else◌, refl, sym, ap, ap₂, ◌∙◌, subst, arith, drop_of_length-le, length-drop, length-take-le}
use Rattle.std.proofs.Math.Seq.{take-length}
use Rattle.std.proofs.KnownBytes.{Appends-nil}
use Rattle.std.proofs.lemmas.Bool.{lt-ltb}
use Rattle.std.specs.Io.KnownBytes.{Appends, Keeps}
use Rattle.json_events.specs.Events.{as_line, begin_event, end_event, lines_event}
use Rattle.json_events.specs.declared.elapsed.Elapsed.{Elapsed}
use Rattle.json_events.specs.declared.events.Kind.TheVariants.{Context, Match}
use Rattle.json_events.specs.declared.stats.Stats.{Stats}
use Rattle.line_search.specs.LineMatchers.{LineMatcher, span_pair}
use Rattle.line_search.specs.Lines.{TextLine}
use Rattle.grep_core.proofs.ForCallers.{appends_kept}
use Rattle.grep_core.specs.Report.{after_of, before_of, first_of, roles_of, selected}
use Rattle.grep_core.specs.Selecting.{roles_from}
use Rattle.grep_core.specs.declared.output_options.OutputOptions.{OutputOptions}
use Rattle.grep_core.specs.declared.role.Role.{Role}
use Rattle.grep_core.specs.declared.role.Role.TheVariants.{Beside, Hidden, Selected}
use Rattle.text_report.specs.EventCourse.{IsEventItem}
use Rattle.text_report.specs.Events.{EventItem, Printed, tally, ended_events, event_of, full_stats, line_item, line_past, no_stats, printed, printed_lines, shown_found, stats_of, with_event, with_events}
use Rattle.text_report.specs.LineSpans.{line_of, lines_from, whole_end}
use Rattle.text_report.specs.Records.{records_of}
use Rattle.text_report.specs.declared.events.Counts.{Counts}
use Rattle.text_report.specs.declared.events.Item.{Item}
use Rattle.text_report.specs.declared.lines.LineSpan.{LineSpan}
use Rattle.text_report.proofs.EventLemmas.{event_is}
use Rattle.text_report.proofs.LineLemmas.{none_from}

-- ---- one item
module _ (w : OutputOptions) (name : List ℕ) (it : EventItem) (item : Item) (c : Counts) (old new : List ℕ) (end : ℕ) where
  ends_at : (role : Role) → IsEventItem w role item it → end ≡ item.place + length item.bytes.now → end ≡ it.place + length it.bytes
  ends_at role is e = e ∙ ap₂ (λ p bs. p + length bs) is.place is.bytes

  pub context_item : IsEventItem w Beside item it →
      new ≡ old ++ as_line (lines_event name Context (if w.numbers then Some item.number else None) item.place item.bytes.now
      (map span_pair item.found.now)) → end ≡ item.place + length item.bytes.now →
      printed new (tally c.lines c.matches end) ≡ with_event w name Beside it (printed old c)
  context_item is e ends =
      ap₂ (λ bs n. printed bs (tally c.lines c.matches n))
      (e ∙ ap (λ bs. old ++ bs) (event_is w name Beside it item.number item.place item.bytes.now (map span_pair item.found.now) is.number
      is.place is.bytes is.found))
      (ends_at Beside is ends)

  pub selected_item : (lines matches : ℕ) → IsEventItem w Selected item it →
      new ≡ old ++ as_line (lines_event name Match (if w.numbers then Some item.number else None) item.place item.bytes.now
      (map span_pair item.found.now)) → end ≡ item.place + length item.bytes.now → lines ≡ c.lines + item.lines →
      matches ≡ c.matches + length (map span_pair item.found.now) →
      printed new (tally lines matches end) ≡ with_event w name Selected it (printed old c)
  selected_item lines matches is e ends more found =
      ap₂ (λ bs n. printed bs (tally lines matches n))
      (e ∙ ap (λ bs. old ++ bs) (event_is w name Selected it item.number item.place item.bytes.now (map span_pair item.found.now) is.number
      is.place is.bytes is.found))
      (ends_at Selected is ends)
      ∙ ap₂ (λ n m. printed (old ++ event_of w name Selected it) (tally n m (it.place + length it.bytes)))
      (more ∙ ap (λ n. c.lines + n) is.lines) (found ∙ ap (λ fs. c.matches + length fs) is.found)

-- ---- one line
past_by : (b : Bool) (s n e : ℕ) → s + n ≡ e → s + n + (if b then 1 else 0) ≡ (if b then e + 1 else e)
past_by true s n e is = ap (λ k. k + 1) is
past_by false s n e is = omega (arith, is)

pub past_is : (text : List ℕ) (line : LineSpan) → line.start ≤ line.end → line.end ≤ length text →
    line_past (line_of text line) ≡ whole_end line
past_is text line ordered inside =
    past_by line.is_ended line.start (length (slice_range text line.start line.end)) line.end
    (let size : length (slice_range text line.start line.end) ≡ line.end - line.start =
    length-take-le (line.end - line.start) (drop line.start text) (omega (arith, length-drop line.start text, inside)) in
    omega (arith, size, ordered))

-- ---- the end of a text
module _ (w : OutputOptions) (name : List ℕ) (time : Elapsed) (size : ℕ) (out : List ℕ) (c : Counts) (p : Printed) (is : printed out c ≡ p) where
  some_printed : 0 < c.end → nat_lt 0 p.counts.end ≡ true
  some_printed some = ap (λ (q : Printed). nat_lt 0 q.counts.end) (sym is) ∙ lt-ltb 0 c.end some

  pub some_ended : (s : Stats) (new : List ℕ) → 0 < c.end → s ≡ full_stats w time size (printed out c) →
      new ≡ out ++ as_line (end_event name s) → new ≡ ended_events w name time size p
  some_ended s new some e pushed =
      pushed
      ∙ ap (λ t. out ++ as_line (end_event name t)) e
      ∙ ap (λ (q : Printed). q.bytes ++ as_line (end_event name (full_stats w time size q))) is
      ∙ sym (ap (λ b. if b then p.bytes ++ as_line (end_event name (full_stats w time size p)) else []) (some_printed some))

-- ---- what is written
pub whole_part : (a b c : Option (List ℕ)) (out : List ℕ) → Appends a b out → Keeps b c → (n : ℕ) × Appends a c (take n out)
whole_part a b c out written kept = (length out, subst (Appends a c) (sym (take-length out)) (appends_kept a b c out written kept))
