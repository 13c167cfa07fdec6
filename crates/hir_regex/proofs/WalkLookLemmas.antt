-- The ends of the runs that an overlapping search over trees finds are those with any set of words, if it comes to no error. Wherever it
-- has states left, the bytes next to the offset are no quit bytes. So they are ASCII if a look asks for words by characters.
use Rattle.std.proofs.Common.{◌≡◌, ◌⊎◌, ◌↔◌, ℕ, zero, suc, ◌-◌, ◌<◌, ◌≤◌, Bool, true, false, List, [], Option, Some, None, All, refl, sym}
use Rattle.std.proofs.Common.{ap, ◌∙◌, subst, inl, inr, ⊎_elim}
use Rattle.std.specs.Prelude.{IfSome}
use Rattle.std.proofs.lemmas.Bool.{cases_Bool, cases_lt}
use Rattle.std.proofs.lemmas.Option.{slice_get_within, get_or_from_slice_get}
use Rattle.std.proofs.lemmas.List.Elements.{All-get_or}
use Rattle.search_core.specs.ByteSets.{has}
use Rattle.search_core.specs.Text.{byte_at, byte_before}
use Rattle.look_core.specs.declared.look.Look.{Look}
use Rattle.look_core.specs.Codes.{is_word_unicode, reversed}
use Rattle.look_core.specs.LookSets.{has_look}
use Rattle.look_core.specs.Looks.{holds, holds_ascii, by_characters, IsWordSet}
use Rattle.look_core.specs.Terminators.{Terminator}
use Rattle.look_core.proofs.ForCallers.{agree_on_ascii, reads_bytes}
use Rattle.search_types.specs.declared.match_kind.MatchKind.{MatchKind}
use Rattle.search_types.specs.declared.match_kind.MatchKind.TheVariants.{All as AllMatches}
use Rattle.search_types.specs.Inputs.{Search}
use Rattle.nfa_core.specs.Nfa.{Automaton}
use Rattle.nfa_core.specs.NfaValue.{looks_of}
use Rattle.nfa_core.specs.Places.{same_pair}
use Rattle.nfa_core.specs.Reaches.{read_by}
use Rattle.nfa_core.specs.Walks.{Has}
use Rattle.nfa_core.specs.Ways.{span, is_satisfied, bytes_left, offset_of, ends_from}
use Rattle.determinize_core.specs.Steps.{value_after, unit_at, unit_before}
use Rattle.lazy_dfa.specs.ConfigValue.{by_hand, word_boundary_of}
use Rattle.lazy_dfa.specs.Dfas.{Dfa, IsDfa, reader}
use Rattle.lazy_dfa.specs.Quits.{has_unicode_word}
use Rattle.lazy_dfa.specs.Readers.{is_quit}
use Rattle.lazy_dfa.specs.HalfSearches.{first_offset}
use Rattle.lazy_dfa.specs.HalfSearchLaws.{begins_at}
use Rattle.lazy_dfa.specs.Overlapping.{whole_rest}
use Rattle.lazy_dfa.specs.OverlappingLaws.{IsBegun}
use Rattle.lazy_dfa.proofs.ForCallers.{supported_quits, first_low}
use Rattle.hir_regex.proofs.BuiltPairLemmas.{turned_words}
use Rattle.hir_regex.proofs.WalkReadLemmas.{IsQuietBeside, walk_quiet_or_none}
use Rattle.hir_regex.proofs.WalkAnyhowLemmas.{AreAlikeAt, ends_same}
use Rattle.determinize_core.proofs.ForCallers.{has_family}

-- ---- looks and units, for one who reads forward or in reverse

-- the bytes before and after an offset
pub beside : (b : Bool) (quits : List Bool) (h : List ℕ) (j : ℕ) → is_quit quits (unit_at b h j) ≡ false →
    is_quit quits (unit_before b h j) ≡ false → (is_quit quits (byte_before h j) ≡ false) × (is_quit quits (byte_at h j) ≡ false)
beside false quits h j at behind = (behind, at)
beside true quits h j at behind = (at, behind)

left_few : (b : Bool) (t : Terminator) (h : List ℕ) (s e k : ℕ) → k ≤ bytes_left b (span t h s e) (first_offset b s e) → k ≤ e - s
left_few false t h s e k l = l
left_few true t h s e k l = l

-- ---- what is no quit byte is ASCII

module _ (d : Dfa) (dfa : IsDfa d) (h : List ℕ) (bytes : All (λ byte. byte < 256) h) where
  byte_in : (k c : ℕ) → byte_at h k ≡ Some c → c < 256
  byte_in k c is = subst (λ (n : ℕ). n < 256) (get_or_from_slice_get h k c 0 is)
      (All-get_or (λ n. n < 256) h k 0 (slice_get_within h k c is) bytes)

  high_quits : has_unicode_word d.nfa.automaton ≡ true → (c : ℕ) → 128 ≤ c → c < 256 → has d.quits c ≡ true
  high_quits some c low high =
      ap (λ quits. has quits c) dfa.quit
      ∙ supported_quits d.nfa.automaton (word_boundary_of d.options) (by_hand d.options) c dfa.supported some low high

  quiet_low : has_unicode_word d.nfa.automaton ≡ true → (k : ℕ) (o : Option ℕ) → byte_at h k ≡ o → is_quit d.quits o ≡ false →
      IfSome o (λ c. c < 128)
  quiet_low some k None is quiet = tt
  quiet_low some k (Some c) is quiet = elim (cases_lt c 128) [
    | inl low ↦ low
    | inr high ↦ let quits = high_quits some c high (byte_in k c is) in let differ : true ≡ false = sym quits ∙ quiet in cc
  ]

  before_low : has_unicode_word d.nfa.automaton ≡ true → (j : ℕ) → is_quit d.quits (byte_before h j) ≡ false →
      IfSome (byte_before h j) (λ c. c < 128)
  before_low some zero quiet = tt
  before_low some (suc j) quiet = quiet_low some j (byte_at h j) refl quiet

  module _ (t : Terminator) (words : ℕ → Bool) (set : IsWordSet words) where
    -- next to bytes that are no quit bytes a look is read alike, if it is one that makes bytes above 7F quit bytes
    pub read_alike : (j : ℕ) → is_quit d.quits (byte_before h j) ≡ false → is_quit d.quits (byte_at h j) ≡ false → (l : Look) →
        (is_word_unicode l ≡ true → has_unicode_word d.nfa.automaton ≡ true) → holds_ascii t h l j ≡ holds words t h l j
    read_alike j before after l some = ⊎_elim
        (λ (u : is_word_unicode l ≡ true).
        sym (agree_on_ascii words t h l j set (before_low (some u) j before) (quiet_low (some u) j (byte_at h j) refl after)))
        (λ (n : is_word_unicode l ≡ false). sym (reads_bytes (by_characters words) t h l j n))
        (cases_Bool (is_word_unicode l))

    pub asks_for_words : (l : Look) → has_look (looks_of d.nfa.automaton.states) l ≡ true → is_word_unicode l ≡ true →
        has_unicode_word d.nfa.automaton ≡ true
    asks_for_words l there unicode = has_family is_word_unicode (looks_of d.nfa.automaton.states) l there unicode

    passed_alike : (b : Bool) (s e j : ℕ) → is_quit d.quits (unit_at b h j) ≡ false → is_quit d.quits (unit_before b h j) ≡ false →
        (l : Look) → has_look (looks_of d.nfa.automaton.states) l ≡ true →
        is_satisfied b (span t h s e) l j ≡ is_satisfied b (read_by (holds words t h) h s e) l j
    passed_alike false s e j at behind l there = read_alike j behind at l (asks_for_words l there)
    passed_alike true s e j at behind l there =
        read_alike j at behind (reversed l) (λ u. asks_for_words l there (sym (turned_words l) ∙ u))

-- ---- what an overlapping search reads

module _ (d : Dfa) (dfa : IsDfa d) (all : (reader d).kind ≡ AllMatches) (q : Search) (bytes : All (λ byte. byte < 256) q.haystack)
    (name : ℕ) (begun : IsBegun (reader d) q name) (none : (whole_rest (reader d) q).rejection ≡ None)
    (words : ℕ → Bool) (set : IsWordSet words) where
  abbrev a : Automaton
  a = d.nfa.automaton

  abbrev t : Terminator
  t = d.nfa.terminator

  abbrev begin : ℕ
  begin = begins_at (reader d) q

  high : begin ≤ q.end
  high = first_low a.reverse q.start q.end begun.begun

  abbrev Alike : ℕ → Type 0
  Alike k = AreAlikeAt a t q.haystack q.start q.end begin name begun.formed high begun.within begun.inside (holds words t q.haystack) k

  quiet_alike : (k : ℕ) → IsQuietBeside (reader d) q.haystack begin name k → Alike k
  quiet_alike k quiet l there =
      passed_alike d dfa q.haystack bytes t words set a.reverse q.start q.end (offset_of a.reverse begin k) quiet.0 quiet.1 l there

  alike_or_none : (k : ℕ) → k ≤ bytes_left a.reverse (span t q.haystack q.start q.end) begin →
      Alike k ⊎ ((value_after a t AllMatches q.haystack begin name k).ids ≡ [])
  alike_or_none k l = ⊎_elim
      (λ (quiet : IsQuietBeside (reader d) q.haystack begin name k). inl (quiet_alike k quiet))
      (λ (over : (value_after a t (reader d).kind q.haystack begin name k).ids ≡ []).
      inr (subst (λ (kind : MatchKind). (value_after a t kind q.haystack begin name k).ids ≡ []) all over))
      (walk_quiet_or_none (reader d) q name begun none k (left_few a.reverse t q.haystack q.start q.end k l))

  pub runs_with_words : (x : ℕ × ℕ) → Has same_pair x (ends_from a (span t q.haystack q.start q.end) (begin, name)) ↔
      Has same_pair x (ends_from a (read_by (holds words t q.haystack) q.haystack q.start q.end) (begin, name))
  runs_with_words x =
      ends_same a t q.haystack q.start q.end begin name begun.formed high begun.within begun.inside (holds words t q.haystack)
      alike_or_none x
