-- What is known of an answer: its pattern means its span, and where it lies.
use Rattle.std.proofs.Common.{◌≡◌, ℕ, zero, suc, if◌then◌else◌, ◌+◌, ◌-◌, ◌≤◌, Bool, true, false, cond, List, [], ◌∷◌, ◌++◌, map, length}
use Rattle.std.proofs.Common.{Option, Some, None, slice_get, nat_le, refl, sym, ap, ◌∙◌, subst, inl, inr, arith, leb-true}
use Rattle.std.specs.List.{All, filter}
use Rattle.std.proofs.lemmas.List.Elements.{All-cons}
use Rattle.std.proofs.lemmas.Bool.{and_parts}
use Rattle.hir_core.specs.Tree.{Tree}
use Rattle.hir_core.specs.Means.{Means}
use Rattle.hir_core.specs.PreferredEnds.{preferred_ends, Has}
use Rattle.hir_core.proofs.ForCallers.{preferred_ends_sound, span_forward}
use Rattle.search_types.specs.Found.{Found}
use Rattle.search_types.specs.Modes.{allowed}
use Rattle.search_types.specs.Places.{counts}
use Rattle.search_types.specs.LeftmostAnswer.{first_choice, IsLeftmost, IsAnswer}
use Rattle.search_types.proofs.ForCallers.{starts_at, computed_is_answer, ends_rise, spans_within}
use Rattle.hir_regex.specs.Choices.{Query, pattern_choices, choices, pattern_ends, may_end, choices_at, answer_from, answers_of}
use Rattle.search_types.specs.AllAnswers.{AnswersWithin, EndsRise, and_on, answers_from, is_repeat, next_answer}

found_is_leftmost : (q : Query) (s : ℕ) (o : Option Found) (f : Found) → o ≡ Some f → IsAnswer (choices_at q) q.mode s q.end o →
    IsLeftmost (choices_at q) q.mode s q.end f
found_is_leftmost q s None f is a = cc
found_is_leftmost q s (Some g) f is a =
    let same : g ≡ f = cc in let P : Found → Type 0 = λ x. IsLeftmost (choices_at q) q.mode s q.end x in subst P same a

pub answer_found : (q : Query) (s : ℕ) (f : Found) → answer_from q s ≡ Some f → IsLeftmost (choices_at q) q.mode s q.end f
answer_found q s f is = found_is_leftmost q s (answer_from q s) f is (computed_is_answer (choices_at q) q.mode s q.end)

-- a span that is first among the choices: which pattern has it
pub record IsChosen (kept : ℕ → Bool) (ends_of : Tree → List ℕ) (xs : List Tree) (p i : ℕ) (f : Found) : Type 0 where
  pub number : ℕ
  pub tree : Tree
  pub listed : slice_get xs number ≡ Some tree
  pub pattern_is : f.pattern ≡ p + number
  pub start_is : f.start ≡ i
  pub has_end : Has (ends_of tree) f.end
  pub end_kept : kept f.end ≡ true

Has-cond : (kept : ℕ → Bool) (x j : ℕ) (xs rest : List ℕ) (b : Bool) → kept x ≡ b → (Has rest j → Has xs j × (kept j ≡ true)) →
    Has (cond b (x ∷ rest) rest) j → Has (x ∷ xs) j × (kept j ≡ true)
Has-cond kept x j xs rest true is others (inl e) = (inl e, ap kept (sym e) ∙ is)
Has-cond kept x j xs rest true is others (inr has) = let r = others has in (inr r.0, r.1)
Has-cond kept x j xs rest false is others has = let r = others has in (inr r.0, r.1)

Has-filter : (kept : ℕ → Bool) (xs : List ℕ) (j : ℕ) → Has (filter kept xs) j → Has xs j × (kept j ≡ true)
Has-filter kept [] j has = elim has [ ]
Has-filter kept (x ∷ xs) j has = Has-cond kept x j xs (filter kept xs) (kept x) refl (Has-filter kept xs j) has

module _ (may_find kept : ℕ → Bool) (ends_of : Tree → List ℕ) where
  chosen_later : (x : Tree) (xs : List Tree) (p i : ℕ) (f : Found) → IsChosen kept ends_of xs (p + 1) i f →
      IsChosen kept ends_of (x ∷ xs) p i f
  chosen_later x xs p i f r = record {
    number = suc r.number;
    tree = r.tree;
    listed = r.listed;
    pattern_is = let s = r.pattern_is in omega arith;
    start_is = r.start_is;
    has_end = r.has_end;
    end_kept = r.end_kept;
  }

  chosen_in : (x : Tree) (xs : List Tree) (p i : ℕ) (f : Found) (ends : List ℕ) → filter kept (ends_of x) ≡ ends →
      (first_choice i (choices may_find kept (p + 1) (map ends_of xs)) ≡ Some f → IsChosen kept ends_of xs (p + 1) i f) →
      first_choice i (map (λ j. (p, j)) ends ++ choices may_find kept (p + 1) (map ends_of xs)) ≡ Some f →
      IsChosen kept ends_of (x ∷ xs) p i f
  chosen_in x xs p i f [] is others e = chosen_later x xs p i f (others e)
  chosen_in x xs p i f (j ∷ js) is others e =
      let pattern : p ≡ f.pattern = cc in
      let start : i ≡ f.start = cc in
      let end : j ≡ f.end = cc in
      let first : Has (filter kept (ends_of x)) f.end = (let P : List ℕ → Type 0 = λ l. Has l f.end in subst P (sym is) (inl end)) in
      let kept_end = Has-filter kept (ends_of x) f.end first in
      record {
        number = 0;
        tree = x;
        listed = refl;
        pattern_is = omega arith;
        start_is = sym start;
        has_end = kept_end.0;
        end_kept = kept_end.1;
      }

  chosen_of : (x : Tree) (xs : List Tree) (p i : ℕ) (f : Found) (b : Bool) →
      (first_choice i (choices may_find kept (p + 1) (map ends_of xs)) ≡ Some f → IsChosen kept ends_of xs (p + 1) i f) →
      first_choice i (pattern_choices b kept p (ends_of x) ++ choices may_find kept (p + 1) (map ends_of xs)) ≡ Some f →
      IsChosen kept ends_of (x ∷ xs) p i f
  chosen_of x xs p i f true others e = chosen_in x xs p i f (filter kept (ends_of x)) refl others e
  chosen_of x xs p i f false others e = chosen_later x xs p i f (others e)

  chosen_first : (xs : List Tree) (p i : ℕ) (f : Found) → first_choice i (choices may_find kept p (map ends_of xs)) ≡ Some f →
      IsChosen kept ends_of xs p i f
  chosen_first [] p i f e = cc
  chosen_first (x ∷ xs) p i f e = chosen_of x xs p i f (may_find p) (chosen_first xs (p + 1) i f) e

module _ (q : Query) where
  counted : (i : ℕ) (f : Found) (b : Bool) →
      first_choice i (cond b (choices (allowed q.mode (length q.patterns)) (may_end q) 0 (pattern_ends q i)) []) ≡ Some f →
      IsChosen (may_end q) (λ x. preferred_ends q.looks q.haystack x i) q.patterns 0 i f
  counted i f true e = chosen_first (allowed q.mode (length q.patterns)) (may_end q)
      (λ x. preferred_ends q.looks q.haystack x i) q.patterns 0 i f e
  counted i f false e = cc

  tree_chosen : (s : ℕ) (f : Found) → answer_from q s ≡ Some f →
      IsChosen (may_end q) (λ x. preferred_ends q.looks q.haystack x f.start) q.patterns 0 f.start f
  tree_chosen s f is = counted f.start f (counts q.utf8 q.haystack f.start) (answer_found q s f is).first

  -- the tree of an answer means its span
  pub answer_is_meant : (s : ℕ) (f : Found) → answer_from q s ≡ Some f →
      (x : Tree) × (slice_get q.patterns f.pattern ≡ Some x) × Means q.looks q.haystack x f.start f.end
  answer_is_meant s f is =
      let c = tree_chosen s f is in
      let number : c.number ≡ f.pattern = (let n = c.pattern_is in omega arith) in
      (c.tree, ap (slice_get q.patterns) (sym number) ∙ c.listed, preferred_ends_sound q.looks q.haystack c.tree f.start f.end c.has_end)

  -- answers stay within the span that is searched
  pub answers_within : AnswersWithin (answer_from q) q.end
  answers_within = record {
    starts = λ s f is. (starts_at q.mode s q.end f.start (answer_found q s f is).starts).from_s;
    ends = λ s f is.
        let c = tree_chosen s f is in
        span_forward q.looks q.haystack c.tree f.start f.end (preferred_ends_sound q.looks q.haystack c.tree f.start f.end c.has_end);
    within = λ s f is. leb-true f.end q.end (and_parts (nat_le f.end q.end) (counts q.utf8 q.haystack f.end)
        (tree_chosen s f is).end_kept).0;
  }

  start_counts : (i : ℕ) (f : Found) (b : Bool) → counts q.utf8 q.haystack i ≡ b →
      first_choice i (cond b (choices (allowed q.mode (length q.patterns)) (may_end q) 0 (pattern_ends q i)) []) ≡ Some f →
      counts q.utf8 q.haystack i ≡ true
  start_counts i f true is e = is
  start_counts i f false is e = cc

  -- in UTF-8 mode an answer starts and ends at offsets that count
  pub answer_counts : (s : ℕ) (f : Found) → answer_from q s ≡ Some f → (counts q.utf8 q.haystack f.start ≡ true) ×
      (counts q.utf8 q.haystack f.end ≡ true)
  answer_counts s f is = (
    start_counts f.start f (counts q.utf8 q.haystack f.start) refl (answer_found q s f is).first,
    (and_parts (nat_le f.end q.end) (counts q.utf8 q.haystack f.end) (tree_chosen s f is).end_kept).1,
  )

-- ---- all answers
abbrev Counts : Query → Found → Type 0
Counts q f = (counts q.utf8 q.haystack f.start ≡ true) × (counts q.utf8 q.haystack f.end ≡ true)

next_counts : (q : Query) (at : ℕ) (f : Found) (again : Bool) → (if again then answer_from q (at + 1) else answer_from q at) ≡ Some f →
    Counts q f
next_counts q at f true is = answer_counts q (at + 1) f is
next_counts q at f false is = answer_counts q at f is

more_count : (q : Query) (last : Option ℕ) (at : ℕ) (o : Option Found) (rest : Found → List Found) →
    next_answer (answer_from q) last at ≡ o →
    ((f : Found) → All (Counts q) (rest f)) → All (Counts q) (and_on o rest)
more_count q last at None rest is others = λ k f less. absurd (omega (arith, less))
more_count q last at (Some f) rest is others = All-cons (Counts q) f (rest f) (next_counts q at f (is_repeat last (answer_from q at)) is)
    (others f)

all_count : (q : Query) (n : ℕ) (last : Option ℕ) (at : ℕ) → All (Counts q) (answers_from (answer_from q) n last at)
all_count q zero last at = λ k f less. absurd (omega (arith, less))
all_count q (suc n) last at =
    more_count q last at (next_answer (answer_from q) last at) (λ f. answers_from (answer_from q) n (Some f.end) f.end) refl
    (λ f. all_count q n (Some f.end) f.end)

-- in UTF-8 mode they start and end at offsets that count
pub answers_count : (q : Query) (s : ℕ) → All (Counts q) (answers_of q s)
answers_count q s = all_count q (q.end + 2 - s) None s

-- their ends rise
pub answers_rise : (q : Query) (s : ℕ) → EndsRise None (answers_of q s)
answers_rise q s = ends_rise (answer_from q) q.end (answers_within q) s

few_behind : (last end : ℕ) (fs : List Found) → last ≤ end → EndsRise (Some last) fs → All (λ f. f.end ≤ end) fs → length fs ≤ end - last
few_behind last end [] within rises below = omega arith
few_behind last end (f ∷ fs) within rises below =
    let high : f.end ≤ end = below 0 f (omega arith) in
    let rest = few_behind f.end end fs high rises.1 (λ k d less. below (suc k) d (omega (arith, less))) in
    omega (arith, rises.0, high, rest)

few_within : (s end : ℕ) (fs : List Found) → EndsRise None fs → All (λ f. (s ≤ f.start) × (f.start ≤ f.end) × (f.end ≤ end)) fs →
    length fs ≤ end + 1 - s
few_within s end [] rises spans = omega arith
few_within s end (f ∷ fs) rises spans =
    let first = spans 0 f (omega arith) in
    let rest = few_behind f.end end fs first.2 rises (λ k d less. (spans (suc k) d (omega (arith, less))).2) in
    omega (arith, first.0, first.1, first.2, rest)

-- so there is at most one for each offset
pub few_answers : (q : Query) (s : ℕ) → length (answers_of q s) ≤ q.end + 1 - s
few_answers q s = few_within s q.end (answers_of q s) (answers_rise q s) (spans_within (answer_from q) q.end (answers_within q) s)
