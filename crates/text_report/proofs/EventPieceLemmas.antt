-- Events that are written piece by piece.
use Rattle.std.proofs.Common.{◌≡◌, ◌≤◌, ◌<◌, ℕ, zero, suc, ◌+◌, Bool, true, false, ◌&&◌, List, [], ◌∷◌, ◌++◌, length, map, take, Option, nat_lt}
use Rattle.std.proofs.Common.{if◌then◌else◌, refl, sym, ap, ap₂, ◌∙◌, subst, arith, append_assoc, append-nil, length-append}
use Rattle.std.proofs.KnownBytes.{Appends-nil, Appends-trans}
use Rattle.std.proofs.Math.Seq.{take-append_seam, take-append-add}
use Rattle.std.proofs.lemmas.Bool.{lt-ltb}
use Rattle.std.specs.Io.KnownBytes.{Appends}
use Rattle.json_events.specs.Events.{as_line, end_event}
use Rattle.json_events.specs.declared.elapsed.Elapsed.{Elapsed}
use Rattle.json_events.specs.declared.stats.Stats.{Stats}
use Rattle.grep_core.proofs.ForCallers.{taken_before}
use Rattle.grep_core.specs.declared.output_options.OutputOptions.{OutputOptions}
use Rattle.grep_core.specs.declared.role.Role.{Role}
use Rattle.grep_core.specs.declared.role.Role.TheVariants.{Beside, Hidden, Selected}
use Rattle.line_search.specs.Lines.{SplitLine, TextLine, numbered}
use Rattle.text_report.specs.EventCourse.{IsCutOff, IsHeld}
use Rattle.text_report.specs.Events.{EventItem, Printed, ended_events, event_of, full_stats, printed, tally, with_event}
use Rattle.text_report.specs.LineSpans.{lines_from, split_at}
use Rattle.text_report.specs.TextEvents.{EventLines, event_lines, is_selected, one_line, put_lines, with_all_lines, with_lines_after}
use Rattle.text_report.specs.declared.events.Counts.{Counts}
use Rattle.std.specs.Prelude.{drop, ⊤}
use Rattle.text_report.proofs.EventReportLemmas.{some_ended}

-- ---- bytes before what is held
abbrev pub prefixed : List ℕ → Printed → Printed
prefixed before p = printed (before ++ p.bytes) p.counts

event_after : (w : OutputOptions) (name : List ℕ) (role : Role) (it : EventItem) (before : List ℕ) (p : Printed) →
    with_event w name role it (prefixed before p) ≡ prefixed before (with_event w name role it p)
event_after w name Hidden it before p = refl
event_after w name Beside it before p =
    ap (λ bs. printed bs (tally p.counts.lines p.counts.matches (it.place + length it.bytes)))
    (append_assoc before p.bytes (event_of w name Beside it))
event_after w name Selected it before p =
    ap (λ bs. printed bs (with_event w name Selected it p).counts) (append_assoc before p.bytes (event_of w name Selected it))

pub one_event : (w : OutputOptions) (name : List ℕ) (item : EventLines → EventItem) (all : List EventLines) (a : EventLines)
    (rest : List EventLines) (old new : List ℕ) (c d : Counts) → all ≡ a ∷ rest →
    printed new d ≡ with_event w name a.role (item a) (printed old c) → (before : List ℕ) →
    with_all_lines w name item all (printed (before ++ old) c) ≡ with_all_lines w name item rest (printed (before ++ new) d)
one_event w name item all a rest old new c d first is before =
    ap (λ gs. with_all_lines w name item gs (printed (before ++ old) c)) first
    ∙ ap (with_all_lines w name item rest) (event_after w name a.role (item a) before (printed old c) ∙ ap (prefixed before) (sym is))

-- ---- what is written and what is held
pub held_all : (a b : Option (List ℕ)) (all held bytes : List ℕ) (start : Option (List ℕ)) (written more end : ℕ) → 0 < end → bytes ≡ held →
    more ≡ written + length held → Appends a b bytes → (left : List ℕ) → left ≡ [] → IsHeld start a all held written end → IsHeld start b all left more end
held_all a b all held bytes start written more end some same sum put left none h = record {
  done = h.done ++ held;
  appended = Appends-trans start a b h.done held h.appended (subst (Appends a b) same put);
  counted = sum ∙ ap (λ n. n + length held) h.counted ∙ sym (length-append h.done held);
  late = λ e. absurd (omega (arith, some, e));
  are = h.are ∙ sym (append-nil (h.done ++ held)) ∙ ap (λ l. (h.done ++ held) ++ l) (sym none);
}

pub cut_none : (start now : Option (List ℕ)) (all held : List ℕ) (written end : ℕ) → IsHeld start now all held written end → IsCutOff start now all end
cut_none start now all held written end h = record {
  size = length h.done;
  appended = subst (Appends start now) (sym (take-append_seam h.done held) ∙ ap (take (length h.done)) (sym h.are)) h.appended;
  late = λ e. ap length (h.late e);
}

pub cut_some : (a b : Option (List ℕ)) (all held bytes : List ℕ) (start : Option (List ℕ)) (written end : ℕ) → 0 < end → bytes ≡ held →
    (n : ℕ) × Appends a b (take n bytes) → IsHeld start a all held written end → IsCutOff start b all end
cut_some a b all held bytes start written end some same part h = record {
  size = length h.done + part.0;
  appended = subst (Appends start b) (sym (take-append-add h.done held part.0) ∙ ap (take (length h.done + part.0)) (sym h.are))
      (Appends-trans start a b h.done (take part.0 held) h.appended (subst (λ l. Appends a b (take part.0 l)) same part.1));
  late = λ e. absurd (omega (arith, some, e));
}

-- ---- events are only added
module _ (w : OutputOptions) (name : List ℕ) (item : EventLines → EventItem) where
  one_added : (role : Role) (it : EventItem) (p : Printed) → (more : List ℕ) × ((with_event w name role it p).bytes ≡ p.bytes ++ more)
  one_added Hidden it p = ([], sym (append-nil p.bytes))
  one_added Beside it p = (event_of w name Beside it, refl)
  one_added Selected it p = (event_of w name Selected it, refl)

  pub added : (gs : List EventLines) (p : Printed) → (more : List ℕ) × ((with_all_lines w name item gs p).bytes ≡ p.bytes ++ more)
  added [] p = ([], sym (append-nil p.bytes))
  added (a ∷ gs) p =
      let own = one_added a.role (item a) p in
      let rest = added gs (with_event w name a.role (item a) p) in
      (own.0 ++ rest.0, rest.1 ∙ ap (λ l. l ++ rest.0) own.1 ∙ append_assoc p.bytes own.0 rest.0)

  -- of lines after the first offset
  abbrev pub IsLate : List EventLines → Type 0
  IsLate [] = ⊤
  IsLate (a ∷ gs) = (0 < (item a).place) × IsLate gs

  still_some : (role : Role) (it : EventItem) (p : Printed) → 0 < it.place → 0 < p.counts.end → 0 < (with_event w name role it p).counts.end
  still_some Hidden it p late some = some
  still_some Beside it p late some = omega (arith, late)
  still_some Selected it p late some = omega (arith, late)

  some_all : (gs : List EventLines) (p : Printed) → IsLate gs → 0 < p.counts.end → 0 < (with_all_lines w name item gs p).counts.end
  some_all [] p late some = some
  some_all (a ∷ gs) p late some =
      some_all gs (with_event w name a.role (item a) p) late.1 (still_some a.role (item a) p late.0 some)

  -- a prefix of what is printed is one of the report
  module _ (time : Elapsed) (size : ℕ) (gs : List EventLines) (p : Printed) (late : 0 < p.counts.end → IsLate gs) where
    abbrev last : Printed
    last = with_all_lines w name item gs p

    abbrev report : List ℕ
    report = ended_events w name time size last

    shown_all : 0 < p.counts.end → report ≡ last.bytes ++ as_line (end_event name (full_stats w time size last))
    shown_all some =
        ap (λ b. if b then last.bytes ++ as_line (end_event name (full_stats w time size last)) else [])
        (lt-ltb 0 last.counts.end (some_all gs p (late some) some))

    pub cut_by : (start now : Option (List ℕ)) (end : ℕ) → p.counts.end ≡ end → IsCutOff start now p.bytes end → (n : ℕ) × Appends start now (take n report)
    cut_by start now zero is cut =
        (0, subst (Appends start now) (ap (λ n. take n p.bytes) (cut.late refl)) cut.appended)
    cut_by start now (suc end) is cut =
        let some : 0 < p.counts.end = omega (arith, is) in
        let more = added gs p in
        let tail : List ℕ = as_line (end_event name (full_stats w time size last)) in
        let whole : report ≡ p.bytes ++ (more.0 ++ tail) = shown_all some ∙ ap (λ l. l ++ tail) more.1 ∙ append_assoc p.bytes more.0 tail in (
          length (take cut.size p.bytes),
          subst (Appends start now)
              (taken_before cut.size p.bytes (more.0 ++ tail) ∙ ap (take (length (take cut.size p.bytes))) (sym whole)) cut.appended,
        )

-- ---- lines after the first offset
abbrev AreLate : List TextLine → Type 0
AreLate [] = ⊤
AreLate (l ∷ ls) = (0 < l.place) × AreLate ls

late_lines : (n at : ℕ) (contents : List SplitLine) → 0 < at → AreLate (numbered n at contents)
late_lines n at [] some = tt
late_lines n at (c ∷ cs) some = (some, late_lines (n + 1) (at + length c.bytes + 1) cs (omega (arith, some)))

module _ (w : OutputOptions) (name : List ℕ) (item : EventLines → EventItem) (place : (a : EventLines) → (item a).place ≡ a.first.place) where
  late_by : (t : Bool) (a b : EventLines) (bs : List EventLines) → 0 < a.first.place → IsLate w name item (b ∷ bs) →
      IsLate w name item (if t then with_lines_after a b ∷ bs else a ∷ (b ∷ bs))
  late_by true a b bs some rest = (subst (λ n. 0 < n) (sym (place (with_lines_after a b))) some, rest.1)
  late_by false a b bs some rest = (subst (λ n. 0 < n) (sym (place a)) some, rest)

  put_late : (joins : Bool) (a : EventLines) (bs : List EventLines) → 0 < a.first.place → IsLate w name item bs →
      IsLate w name item (put_lines joins a bs)
  put_late joins a [] some rest = (subst (λ n. 0 < n) (sym (place a)) some, tt)
  put_late joins a (b ∷ bs) some rest = late_by (joins && (is_selected a.role && is_selected b.role)) a b bs some rest

  late_groups : (joins : Bool) (rs : List Role) (ls : List TextLine) → AreLate ls → IsLate w name item (event_lines joins rs ls)
  late_groups joins [] ls late = tt
  late_groups joins (r ∷ rs) [] late = tt
  late_groups joins (r ∷ rs) (l ∷ ls) late = put_late joins (one_line r l) (event_lines joins rs ls) late.0 (late_groups joins rs ls late.1)

  pub late_from : (joins : Bool) (rs : List Role) (t : ℕ) (text : List ℕ) (n at : ℕ) → 0 < at →
      IsLate w name item (event_lines joins rs (lines_from t text n at))
  late_from joins rs t text n at some = late_groups joins rs (lines_from t text n at) (late_lines n at (split_at t (drop at text)) some)

-- ---- the end of a text
no_item : EventLines → EventItem
no_item a = record { number = 0; place = 0; bytes = []; found = []; lines = 0 }

pub size_all : (start now : Option (List ℕ)) (all held : List ℕ) (written end n : ℕ) → n ≡ written + length held →
    IsHeld start now all held written end → n ≡ length all
size_all start now all held written end n is h =
    is ∙ ap (λ k. k + length held) h.counted ∙ sym (length-append h.done held) ∙ sym (ap length h.are)

module _ (w : OutputOptions) (name : List ℕ) (time : Elapsed) (size : ℕ) (all : List ℕ) (c : Counts) (start a : Option (List ℕ)) (held : List ℕ)
    (written : ℕ) (h : IsHeld start a all held written c.end) where
  pub end_cut : (n : ℕ) × Appends start a (take n (ended_events w name time size (printed all c)))
  end_cut = cut_by w name no_item time size [] (printed all c) (λ _. tt) start a c.end refl (cut_none start a all held written c.end h)

  module _ (some : 0 < c.end) (stats : Stats) (is : stats ≡ full_stats w time size (printed all c)) (out bytes : List ℕ)
      (put : out ≡ held ++ as_line (end_event name stats)) (same : bytes ≡ out) where
    whole : h.done ++ bytes ≡ ended_events w name time size (printed all c)
    whole =
        ap (λ l. h.done ++ l) (same ∙ put)
        ∙ sym (append_assoc h.done held (as_line (end_event name stats)))
        ∙ ap (λ l. l ++ as_line (end_event name stats)) (sym h.are)
        ∙ some_ended w name time size all c (printed all c) refl stats (all ++ as_line (end_event name stats)) some is refl

    pub end_written : (b : Option (List ℕ)) → Appends a b bytes → Appends start b (ended_events w name time size (printed all c))
    end_written b put_all = subst (Appends start b) whole (Appends-trans start a b h.done bytes h.appended put_all)

    pub end_part : (b : Option (List ℕ)) → (n : ℕ) × Appends a b (take n bytes) →
        (n : ℕ) × Appends start b (take n (ended_events w name time size (printed all c)))
    end_part b part = (
      length h.done + part.0,
      subst (Appends start b) (sym (take-append-add h.done bytes part.0) ∙ ap (take (length h.done + part.0)) whole)
          (Appends-trans start a b h.done (take part.0 bytes) h.appended part.1),
    )
