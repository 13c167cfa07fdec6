-- What the program replies to an input, and how it ends.
use Rattle.std.specs.Prelude.{◌≡◌, ℕ, ◌^◌, ◌<◌, ◌≤◌, Bool, false, List, [], ◌∷◌, ◌++◌, length, drop, Option, Some, None, codes, decimal}
use Rattle.std.specs.List.{flat_map}
use Rattle.hex.specs.Hex.{encode_upper}
use Rattle.look_core.specs.Looks.{IsWordSet}
use Rattle.hir_core.specs.Tree.{Tree}
use Rattle.search_types.specs.Chains.{IsTakenList}
use Rattle.search_types.specs.Found.{Found}
use Rattle.search_types.specs.Inputs.{Search}
use Rattle.nfa_core.specs.declared.build_error.BuildError.TheVariants.{ExceededSizeLimit}
use Rattle.thompson_nfa.specs.RefusedTrees.{RejectsTrees}
use Rattle.lazy_dfa.specs.Dfas.{reader}
use Rattle.lazy_dfa.specs.Readers.{quit}
use Rattle.lazy_dfa.specs.HalfSearches.{half_search}
use Rattle.regex_pair.specs.Finding.{Finding, AnswersAt, IsAskedAt, search_at}
use Rattle.regex_pair.specs.Pairs.{Pair}
use Rattle.hirscan.specs.declared.fault.FaultKind.{FaultKind}
use Rattle.hirscan.specs.declared.line.Setup.{Setup}
use Rattle.hirscan.specs.declared.ending.Ending.{Ending}
use Rattle.hirscan.specs.declared.ending.Ending.TheVariants.{Listed, Quit, Refused}
use Rattle.hirscan.specs.Asks.{asked_search}
use Rattle.hir_regex.specs.Built.{IsBuilt, program_settings, compile_options, quit_bytes_for}
use Rattle.hir_regex.specs.Headline.{answers_to, IsQuitNextTo}
use Rattle.hirscan.specs.Reads.{Reads, IsFaultAt}
use Rattle.hirscan.specs.Rejections.{rejection}
use Rattle.hirscan.specs.Takes.{QueryValue, at_first}
use Rattle.hirscan.specs.QueryReports.{kind_text}

-- ---- lines

-- the line of one span: the pattern's number, the start and the end in decimal, separated by spaces (32), and ended by
-- a line feed (10)
abbrev pub span_line : Found → List ℕ
span_line f = decimal f.pattern ++ 32 ∷ (decimal f.start ++ 32 ∷ (decimal f.end ++ 10 ∷ []))

-- the lines of these spans, one after the other
abbrev pub span_lines : List Found → List ℕ
span_lines fs = flat_map span_line fs

-- the line that ends a list if a search gave up at the byte b, at the offset x
abbrev pub quit_line : ℕ → ℕ → List ℕ
quit_line b x = codes "quit: byte " ++ (encode_upper (b ∷ []) ++ (codes " at " ++ (decimal x ++ 10 ∷ [])))

-- the one line of an error with this cause
abbrev pub error_line : List ℕ → List ℕ
error_line cause = codes "refused: " ++ (cause ++ 10 ∷ [])

-- ---- what is searched

-- The input is rejected for this cause, which shows in it. Each cause applies only if none before it does.
pub data IsInputRejected (input cause : List ℕ) : Type 0 where
  too_long : 2 ^ 30 < length input → cause ≡ codes "input above 1073741824 bytes" → IsInputRejected input cause
  faulty : (k : ℕ) (kind : FaultKind) → length input ≤ 2 ^ 30 → IsFaultAt input at_first k kind →
      cause ≡ codes "line " ++ (decimal k ++ (codes ": " ++ kind_text kind)) → IsInputRejected input cause
  unfit : (at : QueryValue) (n : ℕ) → length input ≤ 2 ^ 30 → Reads input at_first at n →
      rejection at.setup at.patterns (drop n input) ≡ Some cause → IsInputRejected input cause

-- The input asks for these patterns, set up so, in this haystack, and nothing of it is rejected.
pub record Asks (input : List ℕ) (setup : Setup) (xs : List Tree) (h : List ℕ) : Type 0 where
  pub at : QueryValue
  pub len : ℕ
  pub short : length input ≤ 2 ^ 30
  pub reads : Reads input at_first at len
  pub setup_is : at.setup ≡ setup
  pub patterns_are : at.patterns ≡ xs
  pub haystack_is : drop len input ≡ h
  pub fits : rejection setup xs h ≡ None

-- One of the two automata is rejected for its size: what the patterns need at most exceeds the limit.
abbrev pub AreTooLarge : Setup → List Tree → Type 0
AreTooLarge setup xs = (reverse : Bool) × RejectsTrees (compile_options reverse (program_settings setup.settings)) xs
    (ExceededSizeLimit (2 ^ 26))

-- ---- quits

-- where a search for the next match goes on, after these matches
abbrev pub last_end : List Found → Option ℕ
last_end [] = None
last_end (f ∷ []) = Some f.end
last_end (f ∷ g ∷ fs) = last_end (g ∷ fs)

abbrev pub next_start : ℕ → Option ℕ → ℕ
next_start start None = start
next_start start (Some end) = end

abbrev pub finding_from : Search → Option ℕ → Finding
finding_from q last = record { search = search_at q (next_start q.start last); last = last; is_over = false }

abbrev pub finding_after : Search → List Found → Finding
finding_after q fs = finding_from q (last_end fs)

-- The search for the next match after these gives up at the byte b, at the offset x. The regex is one that is built of
-- the patterns, and the matches are those that it finds from the start on. The byte b is the first quit byte that the
-- regex reads forward. It reads from the end of the last match, or from one offset further on if what is found there is
-- a repeat. The byte is in the span or next to it.
pub record QuitsAfter (setup : Setup) (xs : List Tree) (h : List ℕ) (fs : List Found) (b x : ℕ) : Type 0 where
  pub regex : Pair
  pub built : IsBuilt xs (program_settings setup.settings) regex
  pub found : IsTakenList (AnswersAt regex (asked_search setup h)) None (asked_search setup h).start fs
  pub from : ℕ
  pub asked : IsAskedAt regex (finding_after (asked_search setup h) fs) from
  pub reads : half_search (reader regex.forward) (search_at (asked_search setup h) from) ≡ quit b x
  pub beside : IsQuitNextTo (quit_bytes_for xs (program_settings setup.settings).dfa) (asked_search setup h) b x

-- these are the first of all answers, for each set of words
abbrev pub BeginsAnswers : Setup → List Tree → List ℕ → List Found → Type 0
BeginsAnswers setup xs h fs = (words : ℕ → Bool) → IsWordSet words → (rest : List Found) ×
    (answers_to words xs setup.settings (asked_search setup h) ≡ fs ++ rest)

-- these are all answers, for each set of words
abbrev pub AreAnswers : Setup → List Tree → List ℕ → List Found → Type 0
AreAnswers setup xs h fs = (words : ℕ → Bool) → IsWordSet words → answers_to words xs setup.settings (asked_search setup h) ≡ fs

-- ---- the reply

-- the reply if these patterns, set up so, are searched for in the haystack
pub data IsSearchReply (setup : Setup) (xs : List Tree) (h : List ℕ) (ending : Ending) (text : List ℕ) : Type 0 where
  too_large : AreTooLarge setup xs → ending ≡ Refused → text ≡ error_line (codes "size limit") → IsSearchReply setup xs h ending text
  listed : (fs : List Found) → AreAnswers setup xs h fs → ending ≡ Listed → text ≡ span_lines fs → IsSearchReply setup xs h ending text
  quits : (fs : List Found) (b x : ℕ) → BeginsAnswers setup xs h fs → QuitsAfter setup xs h fs b x → ending ≡ Quit →
      text ≡ span_lines fs ++ quit_line b x → IsSearchReply setup xs h ending text

-- The reply to the input is this text, with this ending.
pub data IsReply (input : List ℕ) (ending : Ending) (text : List ℕ) : Type 0 where
  refused : (cause : List ℕ) → IsInputRejected input cause → ending ≡ Refused → text ≡ error_line cause → IsReply input ending text
  searched : (setup : Setup) (xs : List Tree) (h : List ℕ) → Asks input setup xs h → IsSearchReply setup xs h ending text →
      IsReply input ending text

-- the reply once a query was read: an error that shows in the query and its haystack, or the reply of a search
pub data AnswersQuery (setup : Setup) (xs : List Tree) (h : List ℕ) (ending : Ending) (text : List ℕ) : Type 0 where
  refuses : (cause : List ℕ) → rejection setup xs h ≡ Some cause → ending ≡ Refused → text ≡ error_line cause →
      AnswersQuery setup xs h ending text
  searches : rejection setup xs h ≡ None → IsSearchReply setup xs h ending text → AnswersQuery setup xs h ending text
