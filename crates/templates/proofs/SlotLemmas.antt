-- The text of a group by the slots of a match is the text that the match gives it.
use Rattle.std.proofs.Common.{max, Option, chars, ◌⊎◌, IsSomeAnd, ◌≡◌, ℕ, zero, suc, ◌+◌, ◌*◌, ◌^◌, ◌<◌, ◌≤◌, All, List, length, Some, None, slice_range, sym, ap, ap₂, ◌∙◌, subst, ⊎_elim, arith, ne_eqb}
use Rattle.std.proofs.lemmas.Bool.{cases_lt, cond-false}
use Rattle.std.proofs.lemmas.List.Elements.{All-weaker}
use Rattle.std.proofs.lemmas.List.FromFn.{get_or-map-range_with_len, length-map-range_with_len}
use Rattle.std.proofs.lemmas.Option.{same_Some}
use Rattle.regex_hir.specs.Re.{Re, Trace, accept, attempt}
use Rattle.regex_hir.specs.Find.{Match, last_write, slot_of}
use Rattle.regex_hir.specs.Matches.{Matches}
use Rattle.regex_hir.proofs.AttemptLemmas.{attempt_sound}
use Rattle.regex_hir.proofs.MatchesLemmas.{Matches-IsSpan}
use Rattle.regex_vm.specs.Found.{span}
use Rattle.regex.specs.Writes.{both, group_of}
use Rattle.regex.specs.Replace.{bytes_of, group_bytes}
use Rattle.regex.proofs.WritesLemmas.{last_write_has, writes_are_tidy}
use Rattle.regex_syntax.specs.Brackets.{Nested}
use Rattle.regex_syntax.specs.Grammar.{Names, group_count, names_below, read}
use Rattle.regex_syntax.specs.declared.Config.{Config}
use Rattle.regex_syntax.proofs.Always.{Always, walk}
use Rattle.regex_syntax.proofs.GroupLemmas.{length-names_below}
use Rattle.group_finder.specs.Patterns.{IsParsedAs}
use Rattle.templates.specs.Expansion.{names_in, names_of_read}
use Rattle.group_finder.specs.Slots.{no_offset, offset_or_none, slot_value, slots_of}
use Rattle.group_finder.proofs.ForCallers.{never_written, slot_after_ends, writes_within}
use Rattle.templates.specs.Slots.{slot_in, group_in}
use Rattle.templates.proofs.TextLemmas.{both_slots, no_slots, no_start}

slot_here : (m : Match) (w k : ℕ) → k < w → slot_in (slots_of m w) k ≡ slot_value m k
unfolding slots_of
slot_here m w k below = get_or-map-range_with_len (slot_value m) 0 w k k no_offset below (omega arith)

slot_is_last : (m : Match) (k : ℕ) → 2 ≤ k → slot_of m k ≡ last_write m.trace.writes k
slot_is_last m zero high = absurd (omega (arith, high))
slot_is_last m (suc zero) high = absurd (omega (arith, high))
slot_is_last m (suc (suc k)) high =
    let here : k + 2 ≡ suc (suc k) = omega arith in
    ap (slot_of m) (sym here) ∙ slot_after_ends m k ∙ ap (last_write m.trace.writes) here

slot_from_two : (m : Match) (k : ℕ) → 2 ≤ k → slot_value m k ≡ offset_or_none (last_write m.trace.writes k)
slot_from_two m zero high = absurd (omega (arith, high))
slot_from_two m (suc zero) high = absurd (omega (arith, high))
slot_from_two m (suc (suc k)) high =
    let here : k + 2 ≡ suc (suc k) = omega arith in
    ap offset_or_none (slot_after_ends m k ∙ ap (last_write m.trace.writes) here)

fits : (h : List ℕ) (re : Re) (i : ℕ) (t : Trace) → attempt h re accept i ≡ Some t → i ≤ length h → (i ≤ t.end) × (t.end ≤ length h)
fits h re i t e inside =
    let c = attempt_sound h re accept i t e in
    let matched : Matches h re i t.end = subst (Matches h re i) (ap (λ (u : Trace). u.end) (same_Some _ _ c.gave) ∙ sym c.same_end) c.leads in
    let all = Matches-IsSpan h re i t.end matched in
    (omega (arith, all, inside), omega (arith, all, inside))

-- a group of a match, from group 1 on
abbrev group_bytes_of : List ℕ → Match → ℕ → List ℕ
group_bytes_of h m n = bytes_of h (both (last_write m.trace.writes (2 * n)) (last_write m.trace.writes (2 * n + 1)))

by_writes : (h : List ℕ) (m : Match) (n : ℕ) → 1 ≤ n → group_bytes h m n ≡ group_bytes_of h m n
by_writes h m n high =
    ap (bytes_of h) (cond-false _ (Some (span m)) (group_of m n) (ne_eqb n 0 (omega arith))
    ∙ ap₂ both (slot_is_last m (2 * n) (omega (arith, high))) (slot_is_last m (2 * n + 1) (omega (arith, high))))

module _ (h : List ℕ) (re : Re) (m : Match) (w : ℕ) (there : attempt h re accept m.start ≡ Some m.trace) (inside : m.start ≤ length h)
    (short : length h < 2 ^ 63) where
  whole : 2 ≤ w → group_in h (slots_of m w) 0 ≡ group_bytes h m 0
  whole room =
      let span_fits = fits h re m.start m.trace there inside in
      let first : slot_in (slots_of m w) 0 ≡ m.start = slot_here m w 0 (omega arith) in
      let last : slot_in (slots_of m w) 1 ≡ m.trace.end = slot_here m w 1 (omega arith) in
      both_slots h (slots_of m w) 0
      (λ e. absurd (omega (arith, sym first ∙ e, span_fits, short)))
      (λ e. absurd (omega (arith, sym last ∙ e, span_fits, short)))
      ∙ ap₂ (λ i j. slice_range h i j) first last

  part : (n : ℕ) → 1 ≤ n → 2 * n + 1 < w → group_in h (slots_of m w) n ≡ group_bytes h m n
  part n high room =
      let ws = m.trace.writes in
      let span_fits = fits h re m.start m.trace there inside in
      let tidy = writes_are_tidy h re m.start m.trace there in
      let first : slot_in (slots_of m w) (2 * n) ≡ offset_or_none (last_write ws (2 * n)) =
      slot_here m w (2 * n) (omega arith) ∙ slot_from_two m (2 * n) (omega (arith, high)) in
      let last : slot_in (slots_of m w) (2 * n + 1) ≡ offset_or_none (last_write ws (2 * n + 1)) =
      slot_here m w (2 * n + 1) (omega arith) ∙ slot_from_two m (2 * n + 1) (omega (arith, high)) in
      ⊎_elim
      (λ (none : (last_write ws (2 * n) ≡ None) × (last_write ws (2 * n + 1) ≡ None)).
      no_start h (slots_of m w) n (first ∙ ap offset_or_none none.0)
      ∙ sym (ap (bytes_of h) (ap₂ both none.0 none.1)))
      (λ (set : (i : ℕ) × (j : ℕ) × (last_write ws (2 * n) ≡ Some i) × (last_write ws (2 * n + 1) ≡ Some j) × (i ≤ j)).
      let low = first ∙ ap offset_or_none set.2 in
      let high_end = last ∙ ap offset_or_none set.3 in
      let end_fits = last_write_has (λ x. (m.start ≤ x) × (x ≤ m.trace.end) × Unit {0}) ws (2 * n + 1) set.1 tidy.placed set.3 in
      both_slots h (slots_of m w) n
      (λ e. absurd (omega (arith, sym low ∙ e, set.4, end_fits.1, span_fits.1, short)))
      (λ e. absurd (omega (arith, sym high_end ∙ e, end_fits.1, span_fits.1, short)))
      ∙ ap₂ (λ i j. slice_range h i j) low high_end
      ∙ sym (ap (bytes_of h) (ap₂ both set.2 set.3)))
      (tidy.paired n)
      ∙ sym (by_writes h m n high)

  -- a group that the slots have room for
  pub group_text_in : (n : ℕ) → 2 * n + 1 < w → group_in h (slots_of m w) n ≡ group_bytes h m n
  group_text_in zero room = whole (omega arith)
  group_text_in (suc n) room = part (suc n) (omega arith) room

  -- a group that isn't in the pattern
  pub no_group_text : (n count : ℕ) → 1 ≤ count → count ≤ n → w ≤ 2 * n + 1 → All (λ (x : ℕ × ℕ). x.0 < 2 * count) m.trace.writes →
      group_in h (slots_of m w) n ≡ group_bytes h m n
  unfolding slots_of
  no_group_text n count some past narrow all =
      no_slots h (slots_of m w) n (omega (arith, length-map-range_with_len (slot_value m) 0 w))
      ∙ sym (by_writes h m n (omega arith) ∙ ap (bytes_of h) (ap (λ o. both o (last_write m.trace.writes (2 * n + 1)))
      (never_written m.trace.writes (2 * n) (weaker all))))
    where
      weaker : All (λ (x : ℕ × ℕ). x.0 < 2 * count) m.trace.writes → All (λ (x : ℕ × ℕ). x.0 < 2 * n) m.trace.writes
      weaker below = All-weaker (λ (x : ℕ × ℕ). x.0 < 2 * count) (λ (x : ℕ × ℕ). x.0 < 2 * n) (λ x lt. omega (arith, lt, past)) m.trace.writes below

-- ---- the groups of a pattern
record IsCounted (found : Nested Re × Names) : Type 0 where
  few : group_count found.0.value ≤ length found.1
  some : 1 ≤ length found.1

counted_below : (re : Re) (names : Names) → (group_count re ≤ length (names_below re names (max 1 (group_count re))))
    × (1 ≤ length (names_below re names (max 1 (group_count re))))
counted_below re names =
    let all = length-names_below re names (max 1 (group_count re)) in
    (omega (arith, all), omega (arith, all))

both_counted : (nested : Nested Re) (names : Names) → IsCounted (nested, names_below nested.value names (max 1 (group_count nested.value)))
both_counted nested names =
    let c = counted_below nested.value names in
    record { few = c.0; some = c.1 }

read_counted : (config : Config) (t : List ℕ) → Always IsCounted (read config t)
unfolding read
read_counted config t = search (walk, both_counted) depth 12

counted_as : (r : Option (Nested Re × Names)) (a : Re) (P : Nested Re × Names → Type 0) → Always IsCounted r →
    IsSomeAnd r (λ (re, names). P (re, names) × (re.value ≡ a)) →
    (group_count a ≤ length (names_of_read r)) × (1 ≤ length (names_of_read r))
counted_as None a P c parsed = absurd parsed
counted_as (Some found) a P c parsed =
    let it = c.holds in
    (subst (λ (re : Re). group_count re ≤ length found.1) parsed.1 it.few, it.some)

groups_counted : (config : Config) (text : List ℕ) (a : Re) → IsParsedAs config text a →
    (group_count a ≤ length (names_in config text)) × (1 ≤ length (names_in config text))
groups_counted config text a parsed =
    counted_as (read config (chars text)) a (λ found. found.0.depth ≤ config.nest_limit) (read_counted config (chars text)) parsed

-- The text of a group of a match of a pattern, by slots for some groups: either there are slots for this group, or the pattern doesn't have it.
pub group_text_of : (config : Config) (text : List ℕ) (a : Re) → IsParsedAs config text a → (h : List ℕ) (m : Match) (groups n : ℕ) →
    attempt h a accept m.start ≡ Some m.trace → m.start ≤ length h → length h < 2 ^ 63 →
    (n < groups) ⊎ (length (names_in config text) ≤ n) → group_in h (slots_of m (2 * groups)) n ≡ group_bytes h m n
group_text_of config text a parsed h m groups n there inside short reads =
    let c = groups_counted config text a parsed in
    ⊎_elim
    (λ (below : n < groups). group_text_in h a m (2 * groups) there inside short n (omega (arith, below)))
    (λ (above : groups ≤ n).
    let past : length (names_in config text) ≤ n = ⊎_elim (λ (lt : n < groups). absurd (omega (arith, lt, above))) (λ le. le) reads in
    no_group_text h a m (2 * groups) there inside short n (length (names_in config text)) c.1 past (omega (arith, above))
    (writes_within h a (length (names_in config text)) c.0 m.start m.trace there))
    (cases_lt n groups)
