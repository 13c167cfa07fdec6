-- Captures: which pattern matched, and in slots the ends of the spans of its groups.
use Rattle.std.specs.Prelude.{ℕ, zero, suc, ◌+◌, ◌*◌, ◌&&◌, ◌==◌, nat_le, List, [], ◌∷◌, length, map, filter_map, slice_index_or}
use Rattle.std.specs.Prelude.{slice_range, Option, Some, None, Bool, if◌then◌else◌}
use Rattle.std.specs.Option.{option_map, option_and_then}
use Rattle.std.specs.List.{range_with_len}
use Rattle.search_core.specs.Utf8.{is_boundary}
use Rattle.search_types.specs.declared.span.Span.{Span}
use Rattle.search_types.specs.Found.{Found}
use Rattle.search_types.specs.Groups.{Name, Groups, groups_of, slot, to_index}

-- the groups, the pattern that matched, if one did, and the slots that are kept, each of them set or unset
pub record CapturesValue : Type 0 where
  pub groups : Groups
  pub pattern : Option ℕ
  pub slots : List (Option ℕ)

-- the slot of the start of the span of group g; if there is only one pattern, it is the matched one, whichever p is
abbrev pub first_slot : Groups → ℕ → ℕ → Option ℕ
first_slot gs p g = if length gs == 1 then Some (g * 2) else slot gs p g

-- the value of a slot; `None` if it is unset or isn't kept
abbrev pub slot_value : List (Option ℕ) → ℕ → Option ℕ
slot_value slots i = slice_index_or slots i None

-- the span, if both of its ends are known
abbrev pub span_between : Option ℕ → Option ℕ → Option Span
span_between None end = None
span_between (Some s) None = None
span_between (Some s) (Some e) = Some (record { start = s; end = e })

-- the span in the slots i and i + 1
abbrev pub span_at : List (Option ℕ) → ℕ → Option Span
span_at slots i = span_between (slot_value slots i) (slot_value slots (i + 1))

-- the span of group g of the matched pattern
abbrev pub group_span : CapturesValue → ℕ → Option Span
group_span c g = option_and_then (λ p. option_and_then (span_at c.slots) (first_slot c.groups p g)) c.pattern

-- the span of the group with this name
abbrev pub named_span : CapturesValue → Name → Option Span
named_span c name = option_and_then (λ p. option_and_then (group_span c) (to_index c.groups p name)) c.pattern

-- the match of the pattern p over this span
abbrev pub found_over : ℕ → Span → Found
found_over p s = record { pattern = p; start = s.start; end = s.end }

-- the matched pattern, over the span of its first group
abbrev pub whole_match : CapturesValue → Option Found
whole_match c = option_and_then (λ p. option_map (found_over p) (group_span c 0)) c.pattern

-- how many groups the matched pattern has
abbrev pub matched_group_len : Groups → Option ℕ → ℕ
matched_group_len gs None = 0
matched_group_len gs (Some p) = length (groups_of gs p)

-- the spans of n groups of the matched pattern, from group g on
abbrev pub spans_from : CapturesValue → ℕ → ℕ → List (Option Span)
spans_from c g n = map (group_span c) (range_with_len g n)

-- the spans of all groups of the matched pattern
abbrev pub group_spans : CapturesValue → List (Option Span)
group_spans c = spans_from c 0 (matched_group_len c.groups c.pattern)

-- the spans of those groups that took part in the match
abbrev pub known_spans : List (Option Span) → List Span
known_spans spans = filter_map (λ span. span) spans

-- the overall span, followed by those of the other groups that took part; empty if there is no overall span
abbrev pub match_spans : List (Option Span) → List Span
match_spans [] = []
match_spans (None ∷ spans) = []
match_spans (Some whole ∷ spans) = whole ∷ known_spans spans

-- whether a span cuts bytes out of a haystack, and whether it cuts UTF-8 out of UTF-8
abbrev pub cuts_bytes : List ℕ → Span → Bool
cuts_bytes h s = nat_le s.start s.end && nat_le s.end (length h)

abbrev pub cuts_text : List ℕ → Span → Bool
cuts_text h s = cuts_bytes h s && is_boundary h s.start && is_boundary h s.end

-- what a span cuts out, if it does
abbrev pub cut_span : (Span → Bool) → List ℕ → Span → Option (List ℕ)
cut_span cuts h s = if cuts s then Some (slice_range h s.start s.end) else None

-- what the first n of these spans cut out, if there are so many and each of them cuts
abbrev pub cut_spans : (Span → Bool) → List ℕ → ℕ → List Span → Option (List (List ℕ))
cut_spans cuts h zero spans = Some []
cut_spans cuts h (suc n) [] = None
cut_spans cuts h (suc n) (s ∷ spans) =
    option_and_then (λ part. option_map (λ parts. part ∷ parts) (cut_spans cuts h n spans)) (cut_span cuts h s)
