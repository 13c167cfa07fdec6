-- The match of several patterns is that of the first one that matches at its start.
use Rattle.std.proofs.Common.{◌≡◌, ℕ, zero, suc, ◌<◌, ◌≤◌, Bool, true, false, List, ◌∷◌, length, slice_get, Option, Some, None, IsSome, option_map, refl, sym, ap, ap₂, ◌∙◌, subst, arith, []}
use Rattle.std.proofs.lemmas.Option.{none-some, same_Some}
use Rattle.regex_hir.specs.Re.{Re, Trace, accept, attempt}
use Rattle.regex_hir.specs.Matches.{Matches}
use Rattle.regex_hir.specs.Meaning.{alt_all}
use Rattle.regex_hir.specs.Text.{is_boundary}
use Rattle.regex_hir.specs.Find.{Match, find, find_str}
use Rattle.regex_hir.proofs.AttemptLemmas.{attempt_sound, attempt_complete, cond_some}
use Rattle.regex_hir.proofs.FindLemmas.{IsFirst-of_first_between}
use Rattle.regex_hir.proofs.MatchesLemmas.{Matches-IsSpan}
use Rattle.regex_hir.proofs.OptionLemmas.{option_or_first, option_or_second, none_of_no_value, value_of_IsSome}
use Rattle.regex_syntax.specs.Grammar.{read}
use Rattle.regex_syntax.specs.declared.Config.{Config}
use Rattle.pattern_search.specs.Searches.{found_from, span_of_match, IsOfFirstPattern}
use Rattle.pattern_search.specs.Texts.{AreReadAs}
use Rattle.meta_regex.specs.declared.found_match.FoundMatch.{FoundMatch}
use Rattle.meta_regex.specs.Regexes.{HasFoundStart, HasFoundSpan, HasPattern, as_found, span_of_row}
use Rattle.group_finder.specs.Slots.{slots_of}
use Rattle.group_finder.specs.Patterns.{IsParsedAs}
use Rattle.group_finder.specs.Groups.{HasSlots}
use Rattle.captures.specs.Captures.{HasCaptures, slots_of_found}

-- ---- one pattern of several
pub read_at : (config : Config) (ts : List (List ℕ)) (res : List Re) (p : ℕ) (a : Re) → AreReadAs config ts res → slice_get res p ≡ Some a →
    (t : List ℕ) × (slice_get ts p ≡ Some t) × IsParsedAs config t a
read_at config [] [] p a rs listed = absurd (none-some a listed)
read_at config [] (b ∷ res) p a rs listed = absurd rs
read_at config (t ∷ ts) [] p a rs listed = absurd rs
read_at config (t ∷ ts) (b ∷ res) zero a rs listed = (t, refl, subst (IsParsedAs config t) (same_Some b a listed) rs.0)
read_at config (t ∷ ts) (b ∷ res) (suc p) a rs listed = read_at config ts res p a rs.1 listed

alt_first : (h : List ℕ) (res : List Re) (p i : ℕ) (a : Re) → slice_get res p ≡ Some a →
    ((q : ℕ) (b : Re) → q < p → slice_get res q ≡ Some b → attempt h b accept i ≡ None) → IsSome (attempt h a accept i) →
    attempt h (alt_all res) accept i ≡ attempt h a accept i
unfolding attempt
alt_first h [] p i a listed none some = absurd (none-some a listed)
alt_first h (x ∷ res) zero i a listed none some =
    let v = value_of_IsSome (attempt h a accept i) some in
    let same : x ≡ a = same_Some x a listed in
    let here : attempt h x accept i ≡ Some v.0 = ap (λ (y : Re). attempt h y accept i) same ∙ v.1 in
    option_or_first (attempt h x accept i) (attempt h (alt_all res) accept i) v.0 here ∙ sym v.1
alt_first h (x ∷ res) (suc p) i a listed none some =
    option_or_second (attempt h x accept i) (attempt h (alt_all res) accept i) (none 0 x (omega arith) refl)
    ∙ alt_first h res p i a listed (λ q b below is. none (suc q) b (omega (arith, below)) is) some

pub matches_of : (h : List ℕ) (b : Re) (i : ℕ) (t : Trace) → attempt h b accept i ≡ Some t → Matches h b i t.end
matches_of h b i t e =
    let c = attempt_sound h b accept i t e in
    subst (Matches h b i) (ap (λ (u : Trace). u.end) (same_Some _ _ c.gave) ∙ sym c.same_end) c.leads

-- the match at an offset, if it is of this pattern first
pub of_pattern : (h : List ℕ) (res : List Re) (f : FoundMatch) (first : IsOfFirstPattern res h (as_found f)) →
    attempt h (alt_all res) accept f.start ≡ attempt h first.matches.pattern accept f.start
of_pattern h res f first =
    alt_first h res f.pattern f.start first.matches.pattern first.matches.listed
    (λ q b below is. none_of_no_value (attempt h b accept f.start)
    (λ t e. first.none_before q t.end below (record { pattern = b; listed = is; matches = matches_of h b f.start t e })))
    (attempt_complete h first.matches.pattern accept f.start f.end first.matches.matches refl)

-- ---- what is found
pub found_there : (utf8 : Bool) (a : Re) (h : List ℕ) (at : ℕ) (m : Match) → found_from utf8 a h at ≡ Some m →
    (m.start ≤ length h) × (attempt h a accept m.start ≡ Some m.trace)
unfolding find find_str
found_there true a h at m e =
    let first = IsFirst-of_first_between _ at (length h) m e in
    (first.to, (cond_some (is_boundary h m.start) _ m.trace first.here).1)
found_there false a h at m e = let first = IsFirst-of_first_between _ at (length h) m e in (first.to, first.here)

started : (o : Option Match) (start : ℕ) → option_map (λ m. m.start) o ≡ Some start → (m : Match) × (o ≡ Some m) × (m.start ≡ start)
started None start e = absurd (none-some start e)
started (Some m) start e = (m, refl, same_Some m.start start e)

pub fits : (h : List ℕ) (b : Re) (i : ℕ) (t : Trace) → i ≤ length h → attempt h b accept i ≡ Some t → (i ≤ t.end) × (t.end ≤ length h)
fits h b i t inside e =
    let span = Matches-IsSpan h b i t.end (matches_of h b i t e) in
    (omega (arith, span, inside), omega (arith, span, inside))

-- what a finder of a pattern has to find
abbrev pub Finds : Config → List (List ℕ) → List ℕ → ℕ → ℕ → ℕ → Option ℕ → List ℕ → Type 0
Finds config ts h p start stop o slots = (t : List ℕ) (a : Re) → slice_get ts p ≡ Some t → IsParsedAs config t a → (u : Trace) →
    attempt h a accept start ≡ Some u → start ≤ u.end → u.end ≤ stop → HasSlots start u o slots

-- what a finder of a pattern has to write between two offsets
abbrev pub Writes : Config → List (List ℕ) → List ℕ → ℕ → ℕ → ℕ → ℕ → List ℕ → Type 0
Writes config ts h p start end n slots = (t : List ℕ) (a : Re) → slice_get ts p ≡ Some t → IsParsedAs config t a → (u : Trace) →
    attempt h a accept start ≡ Some u → start ≤ u.end → u.end ≡ end → slots ≡ slots_of (record { start = start; trace = u }) n

module _ (config : Config) (ts : List (List ℕ)) (h : List ℕ) (f : FoundMatch) (o : Option ℕ) (slots : List ℕ) where
  -- the match is one of its pattern
  own_of : (res : List Re) → AreReadAs config ts res → (first : IsOfFirstPattern res h (as_found f)) → (m : Match) → m.start ≡ f.start →
      m.start ≤ length h → attempt h (alt_all res) accept m.start ≡ Some m.trace →
      (attempt h first.matches.pattern accept f.start ≡ Some m.trace) × (f.start ≤ m.trace.end)
  own_of res read first m same inside there =
      let here : attempt h (alt_all res) accept f.start ≡ Some m.trace =
      subst (λ i. attempt h (alt_all res) accept i ≡ Some m.trace) same there in
      let own : attempt h first.matches.pattern accept f.start ≡ Some m.trace = sym (of_pattern h res f first) ∙ here in
      (own, (fits h first.matches.pattern f.start m.trace (omega (arith, inside, same)) own).0)

  -- a finder that reads far enough finds the match
  match_of : (res : List Re) → AreReadAs config ts res → IsOfFirstPattern res h (as_found f) → (m : Match) → m.start ≡ f.start →
      m.start ≤ length h → attempt h (alt_all res) accept m.start ≡ Some m.trace → (stop : ℕ) → m.trace.end ≤ stop →
      Finds config ts h f.pattern f.start stop o slots → HasSlots f.start m.trace o slots
  match_of res read first m same inside there stop within finds =
      let it = read_at config ts res f.pattern first.matches.pattern read first.matches.listed in
      let own = own_of res read first m same inside there in
      finds it.0 first.matches.pattern it.1 it.2 m.trace own.0 own.1 within

  -- whatever its end is said to be, it ends in the haystack
  pub end_of : (at : ℕ) → HasFoundStart config ts h at (Some f) → Finds config ts h f.pattern f.start (length h) o slots →
      (res : List Re) → AreReadAs config ts res → (m : Match) × (found_from config.utf8 (alt_all res) h at ≡ Some m) ×
      (m.start ≡ f.start) × (o ≡ Some m.trace.end)
  end_of at found finds res read =
      let s = started (found_from config.utf8 (alt_all res) h at) f.start (found.start res read) in
      let there = found_there config.utf8 (alt_all res) h at s.0 s.1 in
      let span = fits h (alt_all res) s.0.start s.0.trace there.0 there.1 in
      let it = match_of res read (found.pattern res read) s.0 s.2 there.0 there.1 (length h) span.1 finds in
      (s.0, s.1, s.2, it.end_is)

  -- the slots of a match whose span is known
  pub slots_known : (res : List Re) → AreReadAs config ts res → IsOfFirstPattern res h (as_found f) → (m : Match) →
      span_of_match m ≡ span_of_row f → m.start ≤ length h → attempt h (alt_all res) accept m.start ≡ Some m.trace → (n : ℕ) →
      Writes config ts h f.pattern f.start f.end n slots → slots ≡ slots_of m n
  slots_known res read first m span inside there n writes =
      let same : m.start ≡ f.start = ap (λ (s : ℕ × ℕ). s.0) span in
      let ends : m.trace.end ≡ f.end = ap (λ (s : ℕ × ℕ). s.1) span in
      let it = read_at config ts res f.pattern first.matches.pattern read first.matches.listed in
      let own = own_of res read first m same inside there in
      writes it.0 first.matches.pattern it.1 it.2 m.trace own.0 own.1 ends
      ∙ ap (λ i. slots_of (record { start = i; trace = m.trace }) n) (sym same)

-- a match with its true end
pub span_found : (config : Config) (ts : List (List ℕ)) (h : List ℕ) (at : ℕ) (f : FoundMatch) (end : ℕ) (slots : List ℕ) →
    HasFoundStart config ts h at (Some f) → Finds config ts h f.pattern f.start (length h) (Some end) slots →
    HasFoundSpan config ts h at (Some (record { pattern = f.pattern; start = f.start; end = end }))
span_found config ts h at f end slots found finds res read =
    let it = end_of config ts h f (Some end) slots at found finds res read in
    ap (option_map span_of_match) it.1
    ∙ ap₂ (λ (i j : ℕ). Some (i, j)) it.2 (same_Some it.0.trace.end end (sym it.3))

first_longer : (res : List Re) (h : List ℕ) (f : FoundMatch) (m : Match) → IsOfFirstPattern res h (as_found f) → m.start ≡ f.start →
    attempt h (alt_all res) accept m.start ≡ Some m.trace → (end : ℕ) → m.trace.end ≡ end →
    IsOfFirstPattern res h (as_found (record { pattern = f.pattern; start = f.start; end = end }))
first_longer res h f m first same there end ends = record {
  matches = record {
    pattern = first.matches.pattern;
    listed = first.matches.listed;
    matches = subst (Matches h first.matches.pattern f.start) ends (matches_of h first.matches.pattern f.start m.trace
        (sym (of_pattern h res f first) ∙ subst (λ i. attempt h (alt_all res) accept i ≡ Some m.trace) same there));
  };
  none_before = first.none_before;
}

pub pattern_found : (config : Config) (ts : List (List ℕ)) (h : List ℕ) (at : ℕ) (f : FoundMatch) (end : ℕ) (slots : List ℕ) →
    HasFoundStart config ts h at (Some f) → Finds config ts h f.pattern f.start (length h) (Some end) slots →
    HasPattern config ts h (Some (record { pattern = f.pattern; start = f.start; end = end }))
pattern_found config ts h at f end slots found finds res read =
    let it = end_of config ts h f (Some end) slots at found finds res read in
    let there = found_there config.utf8 (alt_all res) h at it.0 it.1 in
    first_longer res h f it.0 (found.pattern res read) it.2 there.1 end (same_Some it.0.trace.end end (sym it.3))

-- if there is a start, an end is found
pub some_end : {A : Type 0} (config : Config) (ts : List (List ℕ)) (h : List ℕ) (at : ℕ) (f : FoundMatch) (slots : List ℕ) →
    HasFoundStart config ts h at (Some f) → Finds config ts h f.pattern f.start (length h) None slots →
    (res : List Re) → AreReadAs config ts res → A
some_end config ts h at f slots found finds res read =
    let it = end_of config ts h f None slots at found finds res read in
    absurd (none-some it.0.trace.end it.3)

-- ---- with the slots
pub spanned : (o : Option Match) (f : FoundMatch) → option_map span_of_match o ≡ Some (span_of_row f) →
    (m : Match) × (o ≡ Some m) × (span_of_match m ≡ span_of_row f)
spanned None f e = absurd (none-some (span_of_row f) e)
spanned (Some m) f e = (m, refl, same_Some (span_of_match m) (span_of_row f) e)

pub captured : (config : Config) (ts : List (List ℕ)) (h : List ℕ) (at n : ℕ) (f : FoundMatch) (slots : List ℕ) →
    HasFoundSpan config ts h at (Some f) → HasPattern config ts h (Some f) →
    ((res : List Re) → AreReadAs config ts res → IsOfFirstPattern res h (as_found f) → (m : Match) → span_of_match m ≡ span_of_row f →
    m.start ≤ length h → attempt h (alt_all res) accept m.start ≡ Some m.trace → slots ≡ slots_of m n) →
    HasCaptures config ts h at n (Some f) slots
captured config ts h at n f slots found pattern written res read =
    let it = spanned (found_from config.utf8 (alt_all res) h at) f (found res read) in
    let there = found_there config.utf8 (alt_all res) h at it.0 it.1 in
    record {
      span = found res read;
      pattern = pattern res read;
      slots_are = written res read (pattern res read) it.0 it.2 there.0 there.1
          ∙ ap (λ (o : Option Match). slots_of_found o n) (sym it.1);
    }

pub spanless : (o : Option Match) → option_map span_of_match o ≡ None → o ≡ None
spanless None e = refl
spanless (Some m) e = absurd (none-some (span_of_match m) (sym e))

pub ends_inside : (h : List ℕ) (res : List Re) (m : Match) → m.start ≤ length h → attempt h (alt_all res) accept m.start ≡ Some m.trace →
    m.trace.end ≤ length h
ends_inside h res m inside there = (fits h (alt_all res) m.start m.trace inside there).1
