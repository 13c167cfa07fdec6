-- What replies to one input agree on: it is rejected for one cause and then asks for nothing, and all matches are one list.
use Rattle.std.proofs.Common.{◌≡◌, ℕ, Bool, true, false, List, ◌++◌, drop, Option, Some, None, codes, decimal, true≢false, refl, sym, ap}
use Rattle.std.proofs.Common.{◌∙◌, subst, arith}
use Rattle.look_core.specs.Words.{ascii_words}
use Rattle.hir_core.specs.Tree.{Tree}
use Rattle.search_types.specs.Found.{Found}
use Rattle.hirscan.specs.declared.line.Setup.{Setup}
use Rattle.hirscan.specs.declared.ending.Ending.{Ending}
use Rattle.hirscan.specs.declared.ending.Ending.TheVariants.{Listed, Quit, Refused}
use Rattle.hirscan.specs.Reads.{Reads}
use Rattle.hirscan.specs.Rejections.{rejection}
use Rattle.hirscan.specs.Reply.{IsInputRejected, too_long, faulty, unfit, Asks, AreAnswers, IsSearchReply, too_large, listed, quits}
use Rattle.hirscan.specs.Reply.{IsReply}
use Rattle.hirscan.specs.Reply.{refused, searched, error_line, span_lines}
use Rattle.hirscan.specs.Takes.{QueryValue, at_first}
use Rattle.hirscan.specs.QueryReports.{kind_text}
use Rattle.hirscan.proofs.ReadsLemmas.{reads_once, reads_no_fault, fault_once}

-- ---- rejected inputs
abbrev cause_at : List ℕ → QueryValue → ℕ → Option (List ℕ)
cause_at input at n = rejection at.setup at.patterns (drop n input)

same_cause : (o : Option (List ℕ)) (c d : List ℕ) → o ≡ Some c → o ≡ Some d → c ≡ d
same_cause o c d e f = let both : Some c ≡ Some d = sym e ∙ f in cc

no_cause : (o : Option (List ℕ)) (c : List ℕ) → o ≡ Some c → o ≡ None → ⊥
no_cause o c e f = let never : true ≡ false = cc in grind (arith, never)

cause_there : (input : List ℕ) (at there : QueryValue) (n m : ℕ) (o : Option (List ℕ)) → Reads input at_first at n →
    Reads input at_first there m →
    cause_at input there m ≡ o → cause_at input at n ≡ o
cause_there input at there n m o read again is =
    let same = reads_once input at_first at there n m read again in
    ap (λ s. cause_at input s n) same.0 ∙ ap (cause_at input there) same.1 ∙ is

module _ (input c d : List ℕ) where
  one_cause : IsInputRejected input c → IsInputRejected input d → c ≡ d
  one_cause (too_long long is) (too_long more also) = is ∙ sym also
  one_cause (too_long long is) (faulty k kind short fault also) = absurd (omega arith)
  one_cause (too_long long is) (unfit at n short read found) = absurd (omega arith)
  one_cause (faulty k kind short fault is) (too_long long also) = absurd (omega arith)
  one_cause (faulty k kind short fault is) (faulty l other less found also) =
      let same = fault_once input at_first k l kind other fault found in
      is ∙ ap (λ m. codes "line " ++ (decimal m ++ (codes ": " ++ kind_text kind))) same.0
      ∙ ap (λ m. codes "line " ++ (decimal l ++ (codes ": " ++ kind_text m))) same.1 ∙ sym also
  one_cause (faulty k kind short fault is) (unfit at n less read found) = absurd (reads_no_fault input at_first at n k kind read fault)
  one_cause (unfit at n short read found) (too_long long also) = absurd (omega arith)
  one_cause (unfit at n short read found) (faulty k kind less fault also) = absurd (reads_no_fault input at_first at n k kind read fault)
  one_cause (unfit at n short read found) (unfit there m less again also) =
      same_cause (cause_at input at n) c d found (cause_there input at there n m (Some d) read again also)

module _ (input cause : List ℕ) (setup : Setup) (xs : List Tree) (h : List ℕ) (asks : Asks input setup xs h) where
  none_there : cause_at input asks.at asks.len ≡ None
  none_there =
      ap (λ s. rejection s asks.at.patterns (drop asks.len input)) asks.setup_is
      ∙ ap (λ ys. rejection setup ys (drop asks.len input)) asks.patterns_are ∙ ap (rejection setup xs) asks.haystack_is ∙ asks.fits

  never_refused : IsInputRejected input cause → ⊥
  never_refused (too_long long is) = let short = asks.short in absurd (omega arith)
  never_refused (faulty k kind short fault is) = reads_no_fault input at_first asks.at asks.len k kind asks.reads fault
  never_refused (unfit at n short read found) =
      no_cause (cause_at input at n) cause found (cause_there input at asks.at n asks.len None read asks.reads none_there)

-- one that is rejected has that reply alone
pub refused_alone : (input cause : List ℕ) (e : Ending) (t : List ℕ) → IsInputRejected input cause → IsReply input e t → (e ≡ Refused) ×
    (t ≡ error_line cause)
refused_alone input cause e t is (refused other again ends text) = (ends, text ∙ ap error_line (one_cause input other cause again is))
refused_alone input cause e t is (searched setup xs h asks reply) = absurd (never_refused input cause setup xs h asks is)

-- ---- lists
abbrev is_listed : Ending → Bool
is_listed Listed = true
is_listed Quit = false
is_listed Refused = false

-- a reply that lists all matches, and of what search
record HasList (input : List ℕ) (t : List ℕ) : Type 0 where
  pub setup : Setup
  pub patterns : List Tree
  pub haystack : List ℕ
  pub asks : Asks input setup patterns haystack
  pub found : List Found
  pub all : AreAnswers setup patterns haystack found
  pub text_is : t ≡ span_lines found

list_of_search : (input : List ℕ) (setup : Setup) (xs : List Tree) (h : List ℕ) (e : Ending) (t : List ℕ) → Asks input setup xs h →
    e ≡ Listed →
    IsSearchReply setup xs h e t → HasList input t
list_of_search input setup xs h e t asks is (too_large large ends text) = absurd (true≢false (sym (ap is_listed is) ∙ ap is_listed ends))
list_of_search input setup xs h e t asks is (listed fs all ends text) =
    record { setup = setup; patterns = xs; haystack = h; asks = asks; found = fs; all = all; text_is = text }
list_of_search input setup xs h e t asks is (quits fs b x begins behind ends text) =
    absurd (true≢false (sym (ap is_listed is) ∙ ap is_listed ends))

list_of : (input : List ℕ) (e : Ending) (t : List ℕ) → e ≡ Listed → IsReply input e t → HasList input t
list_of input e t is (refused cause found ends text) = absurd (true≢false (sym (ap is_listed is) ∙ ap is_listed ends))
list_of input e t is (searched setup xs h asks reply) = list_of_search input setup xs h e t asks is reply

asked_once : (input : List ℕ) (s u : Setup) (xs ys : List Tree) (h g : List ℕ) → Asks input s xs h → Asks input u ys g → (s ≡ u) ×
    (xs ≡ ys) × (h ≡ g)
asked_once input s u xs ys h g a b =
    let same = reads_once input at_first a.at b.at a.len b.len a.reads b.reads in (
      sym a.setup_is ∙ ap (λ p. p.setup) same.0 ∙ b.setup_is,
      sym a.patterns_are ∙ ap (λ p. p.patterns) same.0 ∙ b.patterns_are,
      sym a.haystack_is ∙ ap (λ n. drop n input) same.1 ∙ b.haystack_is,
    )

same_list : (input s t : List ℕ) → HasList input s → HasList input t → s ≡ t
same_list input s t a b =
    let same = asked_once input a.setup b.setup a.patterns b.patterns a.haystack b.haystack a.asks b.asks in
    let there : AreAnswers b.setup b.patterns b.haystack a.found =
    subst (λ (h : List ℕ). AreAnswers b.setup b.patterns h a.found) same.2
    (subst (λ (xs : List Tree). AreAnswers b.setup xs a.haystack a.found) same.1
    (subst (λ (u : Setup). AreAnswers u a.patterns a.haystack a.found) same.0 a.all)) in
    a.text_is ∙ ap span_lines (sym (there ascii_words (λ c less. refl)) ∙ b.all ascii_words (λ c less. refl)) ∙ sym b.text_is

pub listed_once : (input s t : List ℕ) → IsReply input Listed s → IsReply input Listed t → s ≡ t
listed_once input s t a b = same_list input s t (list_of input Listed s refl a) (list_of input Listed t refl b)
