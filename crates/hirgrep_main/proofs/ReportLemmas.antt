-- The report of one input, by its first bytes and the others.
use Rattle.grep_core.specs.Headings.{under}
use Rattle.std.proofs.Common.{◌≡◌, ◌∙◌, ℕ, Bool, true, false, not, ◌&&◌, List, [], ◌∷◌, ◌++◌, take, ap, sym, subst, refl, if◌then◌else◌}
use Rattle.std.specs.Prelude.{Option, Some, None, IfErr, IfOk, IfSome, OnOk, Result, Ok, Err}
use Rattle.std.specs.Io.KnownBytes.{Appends, Consumes}
use lib.Seq.{take-nil}
use Rattle.std.proofs.KnownBytes.{Appends-nil}
use Rattle.std.specs.Fmt.{option_append}
use Rattle.line_search.specs.declared.fault.Fault.{Fault}
use Rattle.grep_core.specs.declared.output_options.OutputOptions.{OutputOptions}
use Rattle.grep_core.specs.declared.output_options.Print.TheVariants.{Nothing}
use Rattle.grep_core.specs.Reporting.{needs_spans, prints_lines}
use Rattle.line_search.specs.Searchers.{SearchesFor, Sought}
use Rattle.grep_cli.specs.declared.inputs.binary.Binary.{Binary}
use Rattle.grep_cli.specs.declared.inputs.binary.Binary.TheVariants.{AsText, Notice, NoMatch}
use Rattle.grep_cli.specs.Inputs.{first_len, has_zero, is_binary, notices, read_ahead, remaining_of, searched_bytes}
use Rattle.hirgrep_main.specs.Binaries.{options_by}
use Rattle.grep_cli.specs.Inputs.{is_by_lines}
use Rattle.hirgrep_main.specs.Readings.{lists_in}
use Rattle.hirgrep_main.specs.Tasks.{IsInputReported, ReadPatterns, patterns_by}
use Rattle.grep_cli.specs.declared.inputs.reading.Reading.{Reading}
use Rattle.grep_cli.specs.declared.inputs.reading.Reading.TheVariants.{Lines, Records, Text, Events, TextEvents}

noticed : (c : Bool) (w : OutputOptions) → needs_spans (if c then record w { print = Nothing } else w) ≡ true → needs_spans w ≡ true
noticed true w e = cc
noticed false w e = e

listed : (r : Reading) (c : Bool) (w : OutputOptions) → lists_in r (if c then record w { print = Nothing } else w) ≡ true → lists_in r w ≡ true
listed Lines c w e = noticed c w e
listed Records c w e = noticed c w e
listed Text c w e = refl
listed Events c w e = refl
listed TextEvents c w e = refl

pub searches_by : (r : Reading) (b : Binary) (zero : Bool) (w : OutputOptions) (s : Sought) → SearchesFor s (lists_in r w)
    → SearchesFor s (lists_in r (options_by b zero w))
searches_by r b zero w s by = record {
  may = λ e. by.may (listed r ((notices b && zero) && prints_lines w.print) w e);
  how = by.how;
  same = by.same;
  patterns = by.patterns;
  are_read = by.are_read;
  names = by.names;
  named = by.named;
}

-- What the search of an input returned, as one record.
gathered : (o old new : Option (List ℕ)) (r : Result ℕ Fault) (all whole : List ℕ → List ℕ) (count : List ℕ → ℕ)
    → OnOk r (IfSome o (λ text. Appends old new (all text)))
    → IfOk r (λ n. IfSome o (λ text. n ≡ count text))
    → IfErr r (λ _. IfSome o (λ text. (n : ℕ) × Appends old new (take n (whole text))))
    → IfSome o (λ text. IsInputReported old new r (all text) (whole text) (count text))
gathered None old new r all whole count written counted part = _
gathered (Some text) old new (Ok n) all whole count written counted part = record { written = written; counted = counted; part = _ }
gathered (Some text) old new (Err fault) all whole count written counted part = record { written = _; counted = _; part = part }

with_by : {A : Type 0} (r : Result ℕ Fault) (P : A → Type 0) → OnOk r ((by : A) → P by) → (by : A) → OnOk r (P by)
with_by (Ok n) P h by = h by
with_by (Err fault) P h by = _

ok_by : {A : Type 0} (r : Result ℕ Fault) (P : ℕ → A → Type 0) → IfOk r (λ n. (by : A) → P n by) → (by : A) → IfOk r (λ n. P n by)
ok_by (Ok n) P h by = h by
ok_by (Err fault) P h by = _

err_by : {A : Type 0} (r : Result ℕ Fault) (P : A → Type 0) → IfErr r (λ _. (by : A) → P by) → (by : A) → IfErr r (λ _. P by)
err_by (Ok n) P h by = _
err_by (Err fault) P h by = h by

reported_as : {S : Type 0} (o old new : Option (List ℕ)) (r : Result ℕ Fault) (all whole : S → List ℕ → List ℕ) (count : S → List ℕ → ℕ)
    → OnOk r ((by : S) → IfSome o (λ text. Appends old new (all by text)))
    → IfOk r (λ n. (by : S) → IfSome o (λ text. n ≡ count by text))
    → IfErr r (λ _. (by : S) → IfSome o (λ text. (n : ℕ) × Appends old new (take n (whole by text))))
    → (by : S) → IfSome o (λ text. IsInputReported old new r (all by text) (whole by text) (count by text))
reported_as o old new r all whole count written counted part by =
    gathered o old new r (all by) (whole by) (count by)
    (with_by r (λ b. IfSome o (λ text. Appends old new (all b text))) written by)
    (ok_by r (λ n b. IfSome o (λ text. n ≡ count b text)) counted by)
    (err_by r (λ b. IfSome o (λ text. (n : ℕ) × Appends old new (take n (whole b text)))) part by)

-- That record for an input that was read as a whole.
pub whole_reported : {S : Type 0} (known : Option (List ℕ)) (items : List ℕ) (old new : Option (List ℕ)) (r : Result ℕ Fault)
    (all whole : S → List ℕ → List ℕ) (count : S → List ℕ → ℕ) → IfSome known (λ bytes. items ≡ bytes)
    → OnOk r ((by : S) → Appends old new (all by items)) → IfOk r (λ n. (by : S) → n ≡ count by items)
    → IfErr r (λ _. (by : S) → (n : ℕ) × Appends old new (take n (whole by items)))
    → (by : S) → IfSome known (λ text. IsInputReported old new r (all by text) (whole by text) (count by text))
whole_reported None items old new r all whole count same written counted part by = _
whole_reported (Some text) items old new r all whole count same written counted part by =
    subst (λ (xs : List ℕ). IsInputReported old new r (all by xs) (whole by xs) (count by xs)) same
    (gathered (Some items) old new r (all by) (whole by) (count by)
    (with_by r (λ b. Appends old new (all b items)) written by) (ok_by r (λ n b. n ≡ count b items) counted by)
    (err_by r (λ b. (n : ℕ) × Appends old new (take n (whole b items))) part by))

-- What is equal to the whole is, by another name.
pub same_as : (known : Option (List ℕ)) (a b : List ℕ) → a ≡ b → IfSome known (λ xs. b ≡ xs) → IfSome known (λ xs. a ≡ xs)
same_as None a b e h = _
same_as (Some xs) a b e h = e ∙ h

-- A beginning of a text under a heading is one of the heading and the text.
pub part_under : (old new : Option (List ℕ)) (head text : List ℕ) → ((n : ℕ) × Appends old new (take n (under head text)))
    → (n : ℕ) × Appends old new (take n (head ++ text))
part_under old new head [] (n, h) = (0, subst (Appends old new) (take-nil n) h)
part_under old new head (b ∷ text) (n, h) = (n, h)

-- That record for the options that an input has, and its name.
reported_for : (s : Sought) (reading : Reading) (b : Binary) (zero : Bool) (w v : OutputOptions) (o old new : Option (List ℕ)) (r : Result ℕ Fault)
    (given name : List ℕ) (all whole : List ℕ → OutputOptions → ReadPatterns → List ℕ → List ℕ)
    (count : List ℕ → OutputOptions → ReadPatterns → List ℕ → ℕ) → v ≡ options_by b zero w → given ≡ name
    → ((by : SearchesFor s (lists_in reading v)) → IfSome o (λ text. IsInputReported old new r (all given v (patterns_by by) text)
    (whole given v (patterns_by by) text) (count given v (patterns_by by) text)))
    → (by : SearchesFor s (lists_in reading w)) → IfSome o (λ text. IsInputReported old new r (all name (options_by b zero w) (patterns_by by) text)
    (whole name (options_by b zero w) (patterns_by by) text) (count name (options_by b zero w) (patterns_by by) text))
unfolding searches_by
reported_for s reading b zero w v o old new r given name all whole count same named h by =
    subst (λ (m : List ℕ). IfSome o (λ text. IsInputReported old new r (all m (options_by b zero w) (patterns_by by) text)
    (whole m (options_by b zero w) (patterns_by by) text) (count m (options_by b zero w) (patterns_by by) text))) named
    (subst (λ (u : OutputOptions). (it : SearchesFor s (lists_in reading u)) → IfSome o (λ text. IsInputReported old new r
    (all given u (patterns_by it) text) (whole given u (patterns_by it) text) (count given u (patterns_by it) text))) same h
    (searches_by reading b zero w s by))

-- That record for an input that is read line by line, with a heading or without one.
pub lines_reported : (s : Sought) (v : OutputOptions) (reading : Reading) (has headed : Bool) (o old new : Option (List ℕ)) (r : Result ℕ Fault)
    (all whole : Reading → Bool → ReadPatterns → List ℕ → List ℕ) (count : Reading → ReadPatterns → List ℕ → ℕ)
    → is_by_lines reading ≡ true → has ≡ headed
    → OnOk r ((by : SearchesFor s (lists_in Lines v)) → IfSome o (λ text. Appends old new (all Lines headed (patterns_by by) text)))
    → IfOk r (λ n. (by : SearchesFor s (lists_in Lines v)) → IfSome o (λ text. n ≡ count Lines (patterns_by by) text))
    → IfErr r (λ _. (by : SearchesFor s (lists_in Lines v)) → IfSome o (λ text. (n : ℕ) × Appends old new (take n (whole Lines headed (patterns_by by) text))))
    → (by : SearchesFor s (lists_in reading v)) → IfSome o (λ text. IsInputReported old new r (all reading has (patterns_by by) text)
    (whole reading has (patterns_by by) text) (count reading (patterns_by by) text))
lines_reported s v Lines has headed o old new r all whole count e is written counted part by =
    subst (λ (h : Bool). IfSome o (λ text. IsInputReported old new r (all Lines h (patterns_by by) text) (whole Lines h (patterns_by by) text)
    (count Lines (patterns_by by) text))) (sym is)
    (reported_as o old new r (λ it. all Lines headed (patterns_by it)) (λ it. whole Lines headed (patterns_by it)) (λ it. count Lines (patterns_by it))
    written counted part by)
lines_reported s v Records has headed o old new r all whole count e is written counted part by = cc
lines_reported s v Text has headed o old new r all whole count e is written counted part by = cc
lines_reported s v Events has headed o old new r all whole count e is written counted part by = cc
lines_reported s v TextEvents has headed o old new r all whole count e is written counted part by = cc

-- What isn't plain, and is read line by line, has a heading.
pub has_heading : (lines headed : Bool) → (lines && not headed) ≡ false → lines ≡ true → headed ≡ true
has_heading true true e is = refl
has_heading true false e is = cc
has_heading false headed e is = cc

pub is_plainly : (lines headed : Bool) → (lines && not headed) ≡ true → (lines ≡ true) × (headed ≡ false)
is_plainly true false e = (refl, refl)
is_plainly true true e = cc
is_plainly false headed e = cc

-- What holds of all that is searched of an input holds by its first bytes and the others.
if_searched : (P : Bool → List ℕ → Type 0) (b given : Binary) (zero made : Bool) (first : List ℕ) (rest whole : Option (List ℕ))
    → given ≡ b → made ≡ zero → zero ≡ has_zero first → IfSome (remaining_of given made whole) (P zero) → whole ≡ option_append (Some first) rest
    → IfSome rest (λ text. P (has_zero first) (searched_bytes b (has_zero first) (first ++ text)))
if_searched P b given zero made first None whole same kept is h e = _
if_searched P b given zero made first (Some text) whole same kept is h e =
    subst (λ (z : Bool). P z (searched_bytes b z (first ++ text))) is
    (subst (λ (z : Bool). P zero (searched_bytes b z (first ++ text))) kept
    (subst (λ (x : Binary). P zero (searched_bytes x made (first ++ text))) same
    (subst (λ (o : Option (List ℕ)). IfSome (remaining_of given made o) (P zero)) e h)))

-- What holds by the first bytes and the others holds by all of them.
if_read : (P : Bool → List ℕ → Type 0) (old mid : Option (List ℕ)) (first shown : List ℕ) → shown ≡ first → Consumes old mid first
    → IfSome old (λ text. first ≡ take first_len text) → IfSome mid (λ rest. P (has_zero shown) (shown ++ rest))
    → IfSome old (λ text. P (is_binary text) text)
if_read P None mid first shown same read is h = _
if_read P (Some text) None first shown same read is h = absurd read
if_read P (Some text) (Some rest) first shown same read is h =
    subst (P (is_binary text)) (sym read) (subst (λ (z : Bool). P z (first ++ rest)) (ap has_zero is)
    (subst (λ (xs : List ℕ). P (has_zero xs) (xs ++ rest)) same h))

-- What holds of what is searched by the first bytes and the others holds by all of them, also if there are no first bytes since every input is
-- text.
if_first : (P : OutputOptions → List ℕ → Type 0) (b : Binary) (w : OutputOptions) (old mid : Option (List ℕ)) (first shown : List ℕ)
    → shown ≡ first → Consumes old mid first → IfSome old (λ text. first ≡ read_ahead b text)
    → IfSome mid (λ rest. P (options_by b (has_zero shown) w) (searched_bytes b (has_zero shown) (shown ++ rest)))
    → IfSome old (λ text. P (options_by b (is_binary text) w) (searched_bytes b (is_binary text) text))
if_first P AsText w None mid first shown same read is h = _
if_first P AsText w (Some text) None first shown same read is h = absurd read
if_first P AsText w (Some text) (Some rest) first shown same read is h =
    subst (P w) (sym read) (subst (λ (xs : List ℕ). P w (xs ++ rest)) same h)
if_first P Notice w old mid first shown same read is h =
    if_read (λ z text. P (options_by Notice z w) (searched_bytes Notice z text)) old mid first shown same read is h
if_first P NoMatch w old mid first shown same read is h =
    if_read (λ z text. P (options_by NoMatch z w) (searched_bytes NoMatch z text)) old mid first shown same read is h

-- The report of an input is that of what is searched by its first bytes and the others.
pub input_reported : (s : Sought) (reading : Reading) (b : Binary) (w v : OutputOptions) (old mid inner before after : Option (List ℕ))
    (said r : Result ℕ Fault) (first shown : List ℕ) (given : Binary) (zero made : Bool) (name printed : List ℕ)
    (all whole : List ℕ → OutputOptions → ReadPatterns → List ℕ → List ℕ) (count : List ℕ → OutputOptions → ReadPatterns → List ℕ → ℕ)
    → said ≡ r → v ≡ options_by b zero w → printed ≡ name → given ≡ b → made ≡ zero → zero ≡ has_zero shown → shown ≡ first
    → Consumes old mid first → IfSome old (λ text. first ≡ read_ahead b text) → inner ≡ option_append (Some shown) mid
    → ((by : SearchesFor s (lists_in reading v)) → IfSome (remaining_of given made inner) (λ text. IsInputReported before after r
    (all printed v (patterns_by by) text) (whole printed v (patterns_by by) text) (count printed v (patterns_by by) text)))
    → (by : SearchesFor s (lists_in reading w)) → IfSome old (λ text. IsInputReported before after said
    (all name (options_by b (is_binary text) w) (patterns_by by) (searched_bytes b (is_binary text) text))
    (whole name (options_by b (is_binary text) w) (patterns_by by) (searched_bytes b (is_binary text) text))
    (count name (options_by b (is_binary text) w) (patterns_by by) (searched_bytes b (is_binary text) text)))
input_reported s reading b w v old mid inner before after said r first shown given zero made name printed all whole count result options names kept put is
    same read of joined h by =
    subst (λ (it : Result ℕ Fault). IfSome old (λ text. IsInputReported before after it
    (all name (options_by b (is_binary text) w) (patterns_by by) (searched_bytes b (is_binary text) text))
    (whole name (options_by b (is_binary text) w) (patterns_by by) (searched_bytes b (is_binary text) text))
    (count name (options_by b (is_binary text) w) (patterns_by by) (searched_bytes b (is_binary text) text)))) (sym result)
    (if_first (λ u text. IsInputReported before after r (all name u (patterns_by by) text) (whole name u (patterns_by by) text)
    (count name u (patterns_by by) text)) b w old mid first shown same read of
    (if_searched (λ z text. IsInputReported before after r (all name (options_by b z w) (patterns_by by) text)
    (whole name (options_by b z w) (patterns_by by) text) (count name (options_by b z w) (patterns_by by) text))
    b given zero made shown mid inner kept put is
    (reported_for s reading b zero w v (remaining_of given made inner) before after r printed name all whole count options names h by) joined))

pub if_any : (P : List ℕ → Type 0) → ((text : List ℕ) → P text) → (o : Option (List ℕ)) → IfSome o P
if_any P h None = _
if_any P h (Some text) = h text

pub nothing_written : (a : Option (List ℕ)) (all : List ℕ) → (n : ℕ) × Appends a a (take n all)
nothing_written a all = (0, Appends-nil a)

-- ---- the count alone

count_of_some : (o old new : Option (List ℕ)) (n : ℕ) (all whole : List ℕ → List ℕ) (count : List ℕ → ℕ)
    → IfSome o (λ text. IsInputReported old new (Ok n) (all text) (whole text) (count text)) → IfSome o (λ text. n ≡ count text)
count_of_some None old new n all whole count h = _
count_of_some (Some text) old new n all whole count h = h.counted

pub counted_known : {S : Type 0} (o given old new : Option (List ℕ)) (r : Result ℕ Fault) (all whole : S → List ℕ → List ℕ)
    (count : S → List ℕ → ℕ) → given ≡ o
    → ((by : S) → IfSome given (λ text. IsInputReported old new r (all by text) (whole by text) (count by text)))
    → IfOk r (λ n. (by : S) → IfSome o (λ text. n ≡ count by text))
counted_known o given old new (Ok n) all whole count same h = λ by.
    subst (λ (it : Option (List ℕ)). IfSome it (λ text. n ≡ count by text)) same
    (count_of_some given old new n (all by) (whole by) (count by) (h by))
counted_known o given old new (Err fault) all whole count same h = _
