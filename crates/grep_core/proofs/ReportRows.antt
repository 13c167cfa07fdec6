-- The definition of a report, run on a small haystack. What is expected is what GNU grep 3.8 prints for the pattern `a`.
use Rattle.std.proofs.Common.{◌≡◌, ℕ, ◌+◌, ◌-◌, ◌==◌, Bool, true, false, List, [], ◌∷◌, ◌++◌, codes, decimal, length, replicate, slice_range}
use Rattle.std.proofs.Common.{Option, Some, None, if◌then◌else◌}
use Rattle.std.specs.Borrow.{Bor}
use Rattle.std.proofs.Common.{refl, rules}
use Rattle.std.proofs.lemmas.Grind.{common_steps}
use Rattle.grep_core.specs.declared.separator_state.SeparatorState.TheVariants.{NonePrinted, EarlierPrinted}
use Rattle.grep_core.specs.declared.output_options.Context.{Context}
use Rattle.grep_core.specs.declared.output_options.Print.TheVariants.{Lines, Matches, Count, NameIfAny, NameIfNone}
use Rattle.grep_core.specs.declared.output_options.GroupSeparator.TheVariants.{Hyphens, Given, Omitted}
use Rattle.grep_core.specs.declared.output_options.OutputOptions.{OutputOptions}
use Rattle.line_search.specs.Lines.{ended, searched, unended}
use Rattle.line_search.specs.LineMatchers.{LineMatcher}
use Rattle.grep_core.specs.Report.{as_it_is, report}

-- each `a` is a match
abbrev spans_from : ℕ → List ℕ → List (ℕ × ℕ)
spans_from at [] = []
spans_from at (b ∷ bs) = if b == 97 then (at, at + 1) ∷ spans_from (at + 1) bs else spans_from (at + 1) bs

abbrev has_a : List ℕ → Bool
has_a [] = false
has_a (b ∷ bs) = if b == 97 then true else has_a bs

-- each `a` is replaced by these bytes, and where they are then
abbrev with_each : List ℕ → List ℕ → List ℕ
with_each text [] = []
with_each text (b ∷ bs) = if b == 97 then text ++ with_each text bs else b ∷ with_each text bs

abbrev written_from : ℕ → ℕ → List ℕ → List (ℕ × ℕ)
written_from len at [] = []
written_from len at (b ∷ bs) =
    if b == 97 then (at, at + len) ∷ written_from len (at + len) bs else written_from len (at + 1) bs

abbrev letters : LineMatcher
letters = record {
  has_match = λ line. has_a line.bytes;
  spans = λ line. spans_from 0 line.bytes;
  replaced = λ template line. record {
    content = record { bytes = with_each template line.bytes; is_ended = line.is_ended };
    spans = written_from (length template) 0 line.bytes;
  };
}

-- a line, with text after it
abbrev line : List ℕ → List ℕ → List ℕ
line text rest = text ++ 10 ∷ rest

-- a number before what comes after it
abbrev numbered : ℕ → List ℕ → List ℕ
numbered n text = decimal n ++ text

-- a number in two columns, before what comes after it
abbrev spaced : ℕ → List ℕ → List ℕ
spaced n text = replicate (2 - length (decimal n)) 32 ++ numbered n text

-- its last line has no line feed
abbrev text : List ℕ
text = line (codes "a1") (line (codes "b") (line (codes "c") (line (codes "d") (line (codes "a2 a3") (line [] (codes "b"))))))

abbrev plain : OutputOptions
plain = record {
  invert = false;
  print = Lines;
  numbers = false;
  columns = false;
  each_match = false;
  offsets = false;
  context = None;
  most = None;
  color = None;
  match_separator = None;
  context_separator = None;
  zero_names = false;
  initial_tab = false;
  trim = false;
  most_bytes = None;
  preview = false;
  width = 0;
  groups = Hyphens;
  replacement = None;
  terminator = 10;
}

abbrev beside : ℕ → ℕ → Option Context
beside before after = Some (record { before = before; after = after; first = 0 })

whole_lines : report plain letters (codes "t") false NonePrinted text ≡ line (codes "a1") (line (codes "a2 a3") [])
whole_lines = refl

-- -nb -A1
with_context : report (record plain { numbers = true; offsets = true; context = beside 0 1 }) letters (codes "t") false NonePrinted text
    ≡ line (numbered 1 (codes ":" ++ numbered 0 (codes ":a1")))
    (line (numbered 2 (codes "-" ++ numbered 3 (codes "-b")))
    (line (codes "--") (line (numbered 5 (codes ":" ++ numbered 9 (codes ":a2 a3")))
    (line (numbered 6 (codes "-" ++ numbered 15 (codes "-"))) []))))
with_context = Prim.search (rules, common_steps)

-- -n -v -B1 -m1
inverted : report (record plain { invert = true; numbers = true; context = beside 1 0; most = Some 1 }) letters
    (codes "t") false NonePrinted text
    ≡ line (numbered 1 (codes "-a1")) (line (numbered 2 (codes ":b")) [])
inverted = Prim.search (rules, common_steps)

-- -o -b
matches_alone : report (record plain { print = Matches; offsets = true }) letters (codes "t") false NonePrinted text
    ≡ line (numbered 0 (codes ":a")) (line (numbered 9 (codes ":a")) (line (numbered 12 (codes ":a")) []))
matches_alone = Prim.search (rules, common_steps)

-- -o -n -A1
matches_parted : report (record plain { print = Matches; numbers = true; context = beside 0 1 }) letters (codes "t") false NonePrinted text
    ≡ line (numbered 1 (codes ":a")) (line (codes "--") (line (numbered 5 (codes ":a")) (line (numbered 5 (codes ":a")) [])))
matches_parted = Prim.search (rules, common_steps)

-- -o -n -C2: their context lines make one group of all
matches_joined : report (record plain { print = Matches; numbers = true; context = beside 2 2 }) letters (codes "t") false NonePrinted text
    ≡ line (numbered 1 (codes ":a")) (line (numbered 5 (codes ":a")) (line (numbered 5 (codes ":a")) []))
matches_joined = Prim.search (rules, common_steps)

-- -o -n -v -C1: no selected line has a match, and their context lines have some
matches_beside : report (record plain { invert = true; print = Matches; numbers = true; context = beside 1 1 }) letters
    (codes "t") false NonePrinted text
    ≡ line (numbered 1 (codes "-a")) (line (numbered 5 (codes "-a")) (line (numbered 5 (codes "-a")) []))
matches_beside = Prim.search (rules, common_steps)

-- -n -A0, after another file of which a line was printed
of_a_later_text : report (record plain { numbers = true; context = beside 0 0 }) letters (codes "t") false EarlierPrinted text
    ≡ line (codes "--") (line (numbered 1 (codes ":a1")) (line (codes "--") (line (numbered 5 (codes ":a2 a3")) [])))
of_a_later_text = Prim.search (rules, common_steps)

-- -T -n -b -H, of a file whose offsets have two digits
aligned : report (record plain { numbers = true; offsets = true; initial_tab = true; width = 2 }) letters
    (codes "t") true NonePrinted (line (codes "a1") [])
    ≡ codes "t:" ++ spaced 1 (codes ":" ++ spaced 0 (58 ∷ 9 ∷ line (codes "a1") []))
aligned = Prim.search (rules, common_steps)

-- -T -H -v: no tab comes before an empty line
empty_aligned : report (record plain { invert = true; initial_tab = true }) letters
    (codes "t") true NonePrinted (line [] (line (codes "b") []))
    ≡ line (codes "t:") (line (codes "t:" ++ 9 ∷ codes "b") [])
empty_aligned = Prim.search (rules, common_steps)

-- -T alone changes nothing
unaligned : report (record plain { initial_tab = true }) letters (codes "t") false NonePrinted text
    ≡ line (codes "a1") (line (codes "a2 a3") [])
unaligned = refl

-- -Z -H -n, -Z -l, -Z -c -H
ended_by_zero : report (record plain { numbers = true; zero_names = true; most = Some 1 }) letters (codes "t") true NonePrinted text
    ≡ line (codes "t" ++ 0 ∷ numbered 1 (codes ":a1")) []
ended_by_zero = Prim.search (rules, common_steps)

named_by_zero : report (record plain { print = NameIfAny; zero_names = true }) letters (codes "t") false NonePrinted text ≡ codes "t" ++ 0 ∷ []
named_by_zero = refl

counted_by_zero : report (record plain { print = Count; zero_names = true }) letters (codes "t") true NonePrinted text
    ≡ line (codes "t" ++ 0 ∷ decimal 2) []
counted_by_zero = refl

-- -A0 --no-group-separator
never_parted : report (record plain { context = beside 0 0; groups = Omitted }) letters (codes "t") false NonePrinted text
    ≡ line (codes "a1") (line (codes "a2 a3") [])
never_parted = refl

-- -A0 --group-separator=.., in any bytes
parted_as_given : (given : Bor (List ℕ)) → report (record plain { context = beside 0 0; groups = Given given }) letters
    (codes "t") false NonePrinted text
    ≡ line (codes "a1") (line given.now (line (codes "a2 a3") []))
parted_as_given given = Prim.search (rules, common_steps)

-- -c
counted : report (record plain { print = Count }) letters (codes "t") false NonePrinted text ≡ line (decimal 2) []
counted = refl

-- -H -m1 -n -A2
stopped : report (record plain { numbers = true; context = beside 0 2; most = Some 1 }) letters (codes "t") true NonePrinted text
    ≡ line (codes "t:" ++ numbered 1 (codes ":a1")) (line (codes "t-" ++ numbered 2 (codes "-b"))
    (line (codes "t-" ++ numbered 3 (codes "-c")) []))
stopped = Prim.search (rules, common_steps)

-- -c -H -v
counted_without : report (record plain { invert = true; print = Count }) letters (codes "t") true NonePrinted text
    ≡ line (codes "t:" ++ decimal 5) []
counted_without = refl

-- -l, -L
named : report (record plain { print = NameIfAny }) letters (codes "t") false NonePrinted text ≡ line (codes "t") []
named = refl

not_named : report (record plain { print = NameIfNone }) letters (codes "t") false NonePrinted text ≡ []
not_named = refl

-- ---- what ripgrep 13 prints
-- --column
columns_of_lines : report (record plain { numbers = true; columns = true }) letters (codes "t") false NonePrinted text
    ≡ line (numbered 1 (58 ∷ numbered 1 (codes ":a1"))) (line (numbered 5 (58 ∷ numbered 1 (codes ":a2 a3"))) [])
columns_of_lines = Prim.search (rules, common_steps)

-- --column -A1: context lines have no columns
columns_of_context : report (record plain { columns = true; context = beside 0 1 }) letters (codes "t") false NonePrinted (line (codes "za")
    (line (codes "b") []))
    ≡ line (numbered 2 (codes ":za")) (line (codes "b") [])
columns_of_context = Prim.search (rules, common_steps)

-- --column -o
columns_of_matches : report (record plain { print = Matches; columns = true }) letters (codes "t") false NonePrinted text
    ≡ line (numbered 1 (codes ":a")) (line (numbered 1 (codes ":a")) (line (numbered 4 (codes ":a")) []))
columns_of_matches = Prim.search (rules, common_steps)

-- --vimgrep
a_line_for_each : report (record plain { numbers = true; columns = true; each_match = true }) letters (codes "t") true NonePrinted text
    ≡ line (codes "t:" ++ numbered 1 (58 ∷ numbered 1 (codes ":a1")))
    (line (codes "t:" ++ numbered 5 (58 ∷ numbered 1 (codes ":a2 a3")))
    (line (codes "t:" ++ numbered 5 (58 ∷ numbered 4 (codes ":a2 a3"))) []))
a_line_for_each = Prim.search (rules, common_steps)

-- --trim
without_blanks : report (record plain { trim = true }) letters (codes "t") false NonePrinted (line (9 ∷ codes " a b") (line (codes "a ") []))
    ≡ line (codes "a b") (line (codes "a ") [])
without_blanks = refl

-- -M3, and with --column
without_long_lines : report (record plain { most_bytes = Some 3 }) letters (codes "t") false NonePrinted text
    ≡ line (codes "a1") (line (codes "[Omitted long matching line]") [])
without_long_lines = refl

counting_in_long_lines : report (record plain { most_bytes = Some 3; columns = true }) letters (codes "t") false NonePrinted text
    ≡ line (numbered 1 (codes ":a1"))
    (line (numbered 1 (codes ":[Omitted long line with " ++ numbered 2 (codes " matches]"))) [])
counting_in_long_lines = Prim.search (rules, common_steps)

-- --passthru
all_lines : report (record plain { context = Some (record { before = 0; after = 9; first = 9 }) }) letters (codes "t") false NonePrinted text
    ≡ line (codes "a1") (line (codes "b") (line (codes "c") (line (codes "d") (line (codes "a2 a3") (line [] (line (codes "b") []))))))
all_lines = refl

-- ---- lines whose matches are replaced; what is expected is what ripgrep 13 prints
-- -r, with any template that writes its own bytes
replaced_lines : (given : Bor (List ℕ)) → report (record plain { replacement = Some given }) letters (codes "t") false NonePrinted text
    ≡ line (given.now ++ codes "1") (line (given.now ++ (codes "2 " ++ (given.now ++ codes "3"))) [])
replaced_lines given = Prim.search (rules, common_steps)

-- -o -r: only what replaces the matches, each as a line, also if it is empty
replaced_alone : (given : Bor (List ℕ)) → report (record plain { print = Matches; replacement = Some given }) letters (codes "t") false NonePrinted
    (codes "bab") ≡ line (slice_range (98 ∷ given.now ++ codes "b") 1 (1 + length given.now)) []
replaced_alone given = Prim.search (rules, common_steps)

-- ---- lines that end with a carriage return and a line feed; what is expected is what ripgrep 13 prints with --crlf
abbrev is_empty : List ℕ → Bool
is_empty [] = true
is_empty (b ∷ bs) = false

-- `^$`, in the bytes for which a line is searched
abbrev empty_lines : Bool → LineMatcher
empty_lines crlf = record { has_match = λ line. is_empty (searched crlf line); spans = λ line. (0, 0) ∷ []; replaced = λ template line. as_it_is line [] }

abbrev returns : List ℕ → List ℕ → List ℕ
returns text rest = text ++ 13 ∷ 10 ∷ rest

abbrev with_returns : List ℕ
with_returns = returns (codes "one") (returns [] (returns (codes "two") (codes "last")))

-- -n '^$'
empty_lines_alone : report (record plain { numbers = true }) (empty_lines true) (codes "t") false NonePrinted with_returns
    ≡ numbered 2 (codes ":" ++ returns [] [])
empty_lines_alone = Prim.search (rules, common_steps)

-- without --crlf no line is empty
none_is_empty : report (record plain { print = Count }) (empty_lines false) (codes "t") false NonePrinted with_returns ≡ line (decimal 0) []
none_is_empty = refl

cut_before_the_return : searched true (ended (codes "a" ++ 13 ∷ [])) ≡ codes "a"
cut_before_the_return = refl

cut_once : searched true (ended (codes "a" ++ 13 ∷ 13 ∷ [])) ≡ codes "a" ++ 13 ∷ []
cut_once = refl

inside_kept : searched true (ended (codes "a" ++ 13 ∷ codes "b")) ≡ codes "a" ++ 13 ∷ codes "b"
inside_kept = refl

last_line_kept : searched true (unended (codes "a" ++ 13 ∷ [])) ≡ codes "a" ++ 13 ∷ []
last_line_kept = refl

kept_unasked : searched false (ended (codes "a" ++ 13 ∷ [])) ≡ codes "a" ++ 13 ∷ []
kept_unasked = refl

-- -M3 --max-columns-preview
previewed : report (record plain { most_bytes = Some 3; preview = true }) letters (codes "t") false NonePrinted text
    ≡ line (codes "a1") (line (codes "a2  [... omitted end of long line]") [])
previewed = refl

-- -H -m1 --field-match-separator=.., in any bytes
separated_as_given : (given : Bor (List ℕ)) → report (record plain { match_separator = Some given; most = Some 1 }) letters
    (codes "t") true NonePrinted text
    ≡ line (codes "t" ++ (given.now ++ codes "a1")) []
separated_as_given given = Prim.search (rules, common_steps)
