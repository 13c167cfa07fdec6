-- The answer that trees define has the least start, the first pattern there, and an end that it means, whatever the bodies of repetitions
-- consume.
use Rattle.std.proofs.Common.{◌≡◌, ℕ, zero, suc, ◌+◌, ◌<◌, ◌≤◌, Bool, true, false, nat_le, List, [], ◌∷◌, ◌++◌, map, length, slice_get}
use Rattle.std.proofs.Common.{Option, Some, None, if◌then◌else◌, refl, sym, ap, ◌∙◌, subst, inl, inr, arith, le-leb, leb-true, true≢false}
use Rattle.std.specs.List.{filter}
use Rattle.std.proofs.lemmas.Bool.{and_parts, and_from}
use Rattle.std.proofs.lemmas.Option.{none-some, same_Some, slice_get_within}
use Rattle.search_types.specs.Found.{Found}
use Rattle.search_types.specs.Modes.{may_start, allowed}
use Rattle.search_types.specs.Places.{counts}
use Rattle.search_types.specs.LeftmostAnswer.{first_choice, IsAnswer}
use Rattle.search_types.proofs.ForCallers.{computed_is_answer}
use Rattle.hir_core.specs.Tree.{Tree}
use Rattle.hir_core.specs.Means.{Looks, Means}
use Rattle.hir_core.specs.PreferredEnds.{preferred_ends, Has}
use Rattle.hir_core.proofs.ForCallers.{preferred_ends_sound, preferred_ends_complete}
use Rattle.hir_regex.specs.Choices.{Query, pattern_choices, choices, pattern_ends, may_end, choices_at, answer_from}
use Rattle.hir_regex.specs.LooseAnswers.{IsCounted, IsLoose, IsLooseAnswer}

-- ---- the ends that are kept of one pattern
keeps_none : (kept : ℕ → Bool) (ends : List ℕ) → filter kept ends ≡ [] → (j : ℕ) → Has ends j → kept j ≡ true → ⊥
keeps_none kept [] none j has k = has
keeps_none kept (e ∷ ends) none j has k = by_test (kept e) refl none (λ later there. keeps_none kept ends later j there k) has
  where
    by_test : (b : Bool) → kept e ≡ b → (if b then e ∷ filter kept ends else filter kept ends) ≡ [] →
        (filter kept ends ≡ [] → Has ends j → ⊥) → Has (e ∷ ends) j → ⊥
    by_test true is none later has = cc
    by_test false is none later (inl same) = true≢false (sym k ∙ ap kept (sym same) ∙ is)
    by_test false is none later (inr there) = later none there

keeps_first : (kept : ℕ → Bool) (ends : List ℕ) (c : ℕ) (cs : List ℕ) → filter kept ends ≡ c ∷ cs → Has ends c × (kept c ≡ true)
keeps_first kept [] c cs some = cc
keeps_first kept (e ∷ ends) c cs some = by_test (kept e) refl some (λ later. keeps_first kept ends c cs later)
  where
    by_test : (b : Bool) → kept e ≡ b → (if b then e ∷ filter kept ends else filter kept ends) ≡ c ∷ cs →
        (filter kept ends ≡ c ∷ cs → Has ends c × (kept c ≡ true)) → Has (e ∷ ends) c × (kept c ≡ true)
    by_test true is some later = let same : e ≡ c = cc in (inl same, subst (λ k. kept k ≡ true) same is)
    by_test false is some later = let rest = later some in (inr rest.0, rest.1)

-- ---- the pairs of one pattern
abbrev pair : ℕ → ℕ → ℕ × ℕ
pair p j = (p, j)

unpaired : (p : ℕ) (js : List ℕ) → map (pair p) js ≡ [] → js ≡ []
unpaired p [] none = refl
unpaired p (j ∷ js) none = cc

pairs_none : (b : Bool) (kept : ℕ → Bool) (p : ℕ) (ends : List ℕ) → pattern_choices b kept p ends ≡ [] → b ≡ true → (j : ℕ) → Has ends j →
    kept j ≡ true → ⊥
pairs_none false kept p ends none on j has k = true≢false (sym on)
pairs_none true kept p ends none on j has k = keeps_none kept ends (unpaired p (filter kept ends) none) j has k

pairs_first : (b : Bool) (kept : ℕ → Bool) (p : ℕ) (ends : List ℕ) (c : ℕ × ℕ) (cs : List (ℕ × ℕ)) →
    pattern_choices b kept p ends ≡ c ∷ cs →
    (b ≡ true) × (c.0 ≡ p) × Has ends c.1 × (kept c.1 ≡ true)
pairs_first false kept p ends c cs some = cc
pairs_first true kept p ends c cs some = by_list (filter kept ends) refl some
  where
    by_list : (js : List ℕ) → filter kept ends ≡ js → map (pair p) js ≡ c ∷ cs →
        (true ≡ true) × (c.0 ≡ p) × Has ends c.1 × (kept c.1 ≡ true)
    by_list [] is some = cc
    by_list (e ∷ es) is some =
        let same : pair p e ≡ c = cc in
        let first = keeps_first kept ends e es is in (
          refl,
          sym (ap (λ (d : ℕ × ℕ). d.0) same),
          subst (Has ends) (ap (λ (d : ℕ × ℕ). d.1) same) first.0,
          subst (λ k. kept k ≡ true) (ap (λ (d : ℕ × ℕ). d.1) same) first.1,
        )

-- ---- the pairs of patterns in a row
left_nil : (a b : List (ℕ × ℕ)) → a ++ b ≡ [] → a ≡ []
left_nil [] b none = refl
left_nil (x ∷ a) b none = cc

right_nil : (a b : List (ℕ × ℕ)) → a ++ b ≡ [] → b ≡ []
right_nil [] b none = none
right_nil (x ∷ a) b none = cc

-- the pair c is of the pattern at k in the list, whose first number is p; it is allowed, meant and kept, and no earlier one is
record IsFirstPair (looks : Looks) (h : List ℕ) (i : ℕ) (may_find kept : ℕ → Bool) (p : ℕ) (xs : List Tree) (c : ℕ × ℕ) : Type 0 where
  k : ℕ
  tree : Tree
  number : c.0 ≡ p + k
  listed : slice_get xs k ≡ Some tree
  may : may_find c.0 ≡ true
  means : Means looks h tree i c.1
  kept_end : kept c.1 ≡ true
  before : (m n j : ℕ) (x : Tree) → m < k → n ≡ p + m → slice_get xs m ≡ Some x → may_find n ≡ true →
      Means looks h x i j → kept j ≡ true → ⊥

module _ (looks : Looks) (h : List ℕ) (i : ℕ) (may_find kept : ℕ → Bool) where
  abbrev ends : Tree → List ℕ
  ends x = preferred_ends looks h x i

  one_none : (p n j : ℕ) (y x : Tree) → n ≡ p + 0 → y ≡ x → pattern_choices (may_find p) kept p (ends y) ≡ [] → may_find n ≡ true →
      Means looks h x i j → kept j ≡ true → ⊥
  one_none p n j y x is same none may m k =
      let number : n ≡ p = omega arith in
      pairs_none (may_find p) kept p (ends y) none (subst (λ l. may_find l ≡ true) number may) j
      (preferred_ends_complete looks h y i j (subst (λ t. Means looks h t i j) (sym same) m)) k

  choices_none : (p : ℕ) (xs : List Tree) → choices may_find kept p (map ends xs) ≡ [] → (m n j : ℕ) (x : Tree) → n ≡ p + m →
      slice_get xs m ≡ Some x →
      may_find n ≡ true → Means looks h x i j → kept j ≡ true → ⊥
  choices_none p [] none m n j x is listed may means k = absurd (omega (arith, slice_get_within [] m x listed))
  choices_none p (y ∷ ys) none zero n j x is listed may means k =
      one_none p n j y x is (same_Some y x listed)
      (left_nil (pattern_choices (may_find p) kept p (ends y)) (choices may_find kept (p + 1) (map ends ys)) none) may means k
  choices_none p (y ∷ ys) none (suc m) n j x is listed may means k =
      choices_none (p + 1) ys (right_nil (pattern_choices (may_find p) kept p (ends y)) (choices may_find kept (p + 1) (map ends ys)) none)
      m n j x (omega arith) listed may means k

  later_pair : (p : ℕ) (y : Tree) (ys : List Tree) (c : ℕ × ℕ) → pattern_choices (may_find p) kept p (ends y) ≡ [] →
      IsFirstPair looks h i may_find kept (p + 1) ys c → IsFirstPair looks h i may_find kept p (y ∷ ys) c
  later_pair p y ys c none f = record {
    k = suc f.k;
    tree = f.tree;
    number = omega (arith, f.number);
    listed = f.listed;
    may = f.may;
    means = f.means;
    kept_end = f.kept_end;
    before = before;
  }
    where
      before : (m n j : ℕ) (x : Tree) → m < suc f.k → n ≡ p + m → slice_get (y ∷ ys) m ≡ Some x → may_find n ≡ true → Means looks h x i j →
          kept j ≡ true → ⊥
      before zero n j x less is listed may means k = one_none p n j y x is (same_Some y x listed) none may means k
      before (suc m) n j x less is listed may means k = f.before m n j x (omega arith) (omega arith) listed may means k

  this_pair : (p : ℕ) (y : Tree) (ys : List Tree) (c : ℕ × ℕ) (cs : List (ℕ × ℕ)) → pattern_choices (may_find p) kept p (ends y) ≡ c ∷ cs →
      IsFirstPair looks h i may_find kept p (y ∷ ys) c
  this_pair p y ys c cs some =
      let first = pairs_first (may_find p) kept p (ends y) c cs some in
      record {
        k = 0;
        tree = y;
        number = omega (arith, first.1);
        listed = refl;
        may = ap may_find first.1 ∙ first.0;
        means = preferred_ends_sound looks h y i c.1 first.2;
        kept_end = first.3;
        before = λ m n j x less. absurd (omega (arith, less));
      }

  first_or_later : (p : ℕ) (y : Tree) (ys : List Tree) (c : ℕ × ℕ) (cs pairs rest : List (ℕ × ℕ)) →
      pattern_choices (may_find p) kept p (ends y) ≡ pairs →
      pairs ++ rest ≡ c ∷ cs → (rest ≡ c ∷ cs → IsFirstPair looks h i may_find kept (p + 1) ys c) →
      IsFirstPair looks h i may_find kept p (y ∷ ys) c
  first_or_later p y ys c cs [] rest is some later = later_pair p y ys c is (later some)
  first_or_later p y ys c cs (d ∷ ds) rest is some later =
      let same : d ≡ c = cc in
      this_pair p y ys c ds (is ∙ ap (λ (e : ℕ × ℕ). e ∷ ds) same)

  choices_first : (p : ℕ) (xs : List Tree) (c : ℕ × ℕ) (cs : List (ℕ × ℕ)) → choices may_find kept p (map ends xs) ≡ c ∷ cs →
      IsFirstPair looks h i may_find kept p xs c
  choices_first p [] c cs some = cc
  choices_first p (y ∷ ys) c cs some =
      first_or_later p y ys c cs (pattern_choices (may_find p) kept p (ends y)) (choices may_find kept (p + 1) (map ends ys)) refl some
      (λ later. choices_first (p + 1) ys c cs later)

-- ---- the choices at an offset
module _ (q : Query) where
  abbrev listed_choices : ℕ → List (ℕ × ℕ)
  listed_choices i = choices (allowed q.mode (length q.patterns)) (may_end q) 0 (pattern_ends q i)

  ends_where : (j : ℕ) → j ≤ q.end → counts q.utf8 q.haystack j ≡ true → may_end q j ≡ true
  ends_where j within counted = and_from (nat_le j q.end) (counts q.utf8 q.haystack j) (le-leb j q.end within) counted

  none_at : (i : ℕ) → choices_at q i ≡ [] → (p j : ℕ) → IsCounted q i p j → ⊥
  none_at i none p j c =
      let here : choices_at q i ≡ listed_choices i = ap (λ b. if b then listed_choices i else []) c.start_counts in
      let span = c.findable.span in
      choices_none q.looks q.haystack i (allowed q.mode (length q.patterns)) (may_end q) 0 q.patterns (sym here ∙ none) p p j span.tree
      (omega arith) span.listed
      c.findable.may span.means (ends_where j c.findable.within c.end_counts)

  counted_first : (i : ℕ) (c : ℕ × ℕ) → counts q.utf8 q.haystack i ≡ true →
      IsFirstPair q.looks q.haystack i (allowed q.mode (length q.patterns)) (may_end q) 0 q.patterns c → IsCounted q i c.0 c.1
  counted_first i c starts f =
      let ends = and_parts (nat_le c.1 q.end) (counts q.utf8 q.haystack c.1) f.kept_end in
      let number : f.k ≡ c.0 = omega (arith, f.number) in
      record {
        findable = record {
          may = f.may;
          span = record { tree = f.tree; listed = subst (λ k. slice_get q.patterns k ≡ Some f.tree) number f.listed; means = f.means };
          within = leb-true c.1 q.end ends.0;
        };
        start_counts = starts;
        end_counts = ends.1;
      }

  first_at : (i : ℕ) (c : ℕ × ℕ) (cs : List (ℕ × ℕ)) (b : Bool) → counts q.utf8 q.haystack i ≡ b →
      (if b then listed_choices i else []) ≡ c ∷ cs →
      IsCounted q i c.0 c.1 × ((p j : ℕ) → p < c.0 → IsCounted q i p j → ⊥)
  first_at i c cs false is some = cc
  first_at i c cs true is some =
      let f = choices_first q.looks q.haystack i (allowed q.mode (length q.patterns)) (may_end q) 0 q.patterns c cs some in (
        counted_first i c is f,
        λ p j less d. let span = d.findable.span in
            f.before p p j span.tree (omega (arith, f.number, less)) (omega arith) span.listed d.findable.may span.means
            (ends_where j d.findable.within d.end_counts),
      )

  loose_at : (s : ℕ) (f : Found) (cs : List (ℕ × ℕ)) → choices_at q f.start ≡ cs → may_start q.mode s q.end f.start ≡ true →
      first_choice f.start cs ≡ Some f →
      ((i : ℕ) → may_start q.mode s q.end i ≡ true → i < f.start → choices_at q i ≡ []) → IsLoose q s f
  loose_at s f [] is starts first before = absurd (none-some f first)
  loose_at s f (c ∷ cs) is starts first before =
      let same : record { pattern = c.0; start = f.start; end = c.1 } ≡ f = same_Some _ f first in
      let number : c.0 ≡ f.pattern = ap (λ (g : Found). g.pattern) same in
      let ends : c.1 ≡ f.end = ap (λ (g : Found). g.end) same in
      let here = first_at f.start c cs (counts q.utf8 q.haystack f.start) refl is in
      record {
        starts = starts;
        counted = subst (IsCounted q f.start f.pattern) ends (subst (λ p. IsCounted q f.start p c.1) number here.0);
        none_before = λ i p j at less d. none_at i (before i at less) p j d;
        first_pattern = λ p j less d. here.1 p j (subst (λ n. p < n) (sym number) less) d;
      }

  loosely : (s : ℕ) (o : Option Found) → IsAnswer (choices_at q) q.mode s q.end o → IsLooseAnswer q s o
  loosely s None is = λ i p j at d. none_at i (is i at) p j d
  loosely s (Some f) is = loose_at s f (choices_at q f.start) refl is.starts is.first is.none_before

  pub answer_is_loose : (s : ℕ) → IsLooseAnswer q s (answer_from q s)
  answer_is_loose s = loosely s (answer_from q s) (computed_is_answer (choices_at q) q.mode s q.end)
