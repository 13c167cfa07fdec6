-- Trees joined with what reads nothing; joined parts of a concatenation and bytes of a literal. When reading forward the parts are taken
-- from the first on, and in reverse from the last.
use Rattle.std.proofs.Common.{◌≡◌, ℕ, Bool, true, false, List, [], ◌∷◌, ◌++◌, Option}
use Rattle.std.proofs.Common.{refl, sym, subst, append-nil}
use Rattle.std.proofs.Math.Bool.{or-false}
use Rattle.hir_core.specs.Tree.{Tree, empty, literal, byte_class, capture, cat, concat, alternation}
use Rattle.nfa_core.specs.BuilderStates.{range_draft, capture_start_draft, capture_end_draft}
use Rattle.nfa_core.specs.Drafted.{Table}
use Rattle.thompson_nfa.specs.Denotes.{IsMeant, Denotes}
use Rattle.thompson_nfa.proofs.Walks.MeantLemmas.{empty_meant, meant_empty}
use Rattle.thompson_nfa.specs.Compiled.{uses}
use Rattle.thompson_nfa.proofs.Walks.DenoteLemmas.{Joins, denotes_join, denotes_capture_start}
use Rattle.thompson_nfa.proofs.Walks.DenoteLemmas.{denotes_capture_end, denotes_range}
use Rattle.thompson_nfa.proofs.Walks.SameLemmas.{denotes_same, joins_same, joins_cat_forward, joins_cat_reverse, flat_map_each}
use Rattle.thompson_nfa.proofs.Walks.SameLemmas.{same_concat_one, same_alternation_one, same_concat_append, same_capture}
use Rattle.thompson_nfa.proofs.Walks.SameLemmas.{same_literal_one, same_literal_append}

-- the empty tree, read before a tree, adds nothing: it stands before the tree, or in reverse after it
pub joins_empty_then : (back : Bool) (x : Tree) → Joins back empty x x
joins_empty_then back x = record {
  parts = λ t i j m. (i, empty_meant back t i i refl, m);
  joined = λ t i j m. let P : ℕ → Type 0 = λ k. IsMeant back t x k j in subst P (sym (meant_empty back t i m.0 m.1)) m.2;
  reading = λ f. (tt, f);
  ends = λ up looks h i. append-nil _;
  met = λ l. refl;
}

pub joins_then_empty : (back : Bool) (x : Tree) → Joins back x empty x
joins_then_empty back x = record {
  parts = λ t i j m. (j, m, empty_meant back t j j refl);
  joined = λ t i j m. let P : ℕ → Type 0 = λ k. IsMeant back t x i k in subst P (meant_empty back t m.0 j m.2) m.1;
  reading = λ f. (f, tt);
  ends = λ up looks h i. flat_map_each _;
  met = λ l. sym (or-false (uses back x l));
}

-- one more part after the others, in reverse
pub joins_last_part : (x : Tree) (xs : List Tree) → Joins true (concat (x ∷ [])) (concat xs) (concat (xs ++ x ∷ []))
joins_last_part x xs =
    joins_same true (concat (x ∷ [])) (concat xs) (cat (concat xs) (concat (x ∷ []))) (concat (xs ++ x ∷ []))
    (same_concat_append xs (x ∷ []))
    (joins_cat_reverse (concat xs) (concat (x ∷ [])))

pub joins_first_byte : (b : ℕ) (bytes : List ℕ) → Joins false (literal (b ∷ [])) (literal bytes) (literal (b ∷ bytes))
joins_first_byte b bytes =
    joins_same false (literal (b ∷ [])) (literal bytes) (cat (literal (b ∷ [])) (literal bytes)) (literal (b ∷ bytes))
    (same_literal_append (b ∷ []) bytes)
    (joins_cat_forward (literal (b ∷ [])) (literal bytes))

pub joins_last_byte : (b : ℕ) (bytes : List ℕ) → Joins true (literal (b ∷ [])) (literal bytes) (literal (bytes ++ b ∷ []))
joins_last_byte b bytes =
    joins_same true (literal (b ∷ [])) (literal bytes) (cat (literal bytes) (literal (b ∷ []))) (literal (bytes ++ b ∷ []))
    (same_literal_append bytes (b ∷ []))
    (joins_cat_reverse (literal bytes) (literal (b ∷ [])))

module _ (back : Bool) (T : Table) where
  -- ---- lists of one part

  pub denotes_concat_one : (s e : ℕ) (x : Tree) → Denotes back T s e x → Denotes back T s e (concat (x ∷ []))
  denotes_concat_one s e x d = denotes_same back T s e x (concat (x ∷ [])) (same_concat_one x) d

  pub denotes_alternation_one : (s e : ℕ) (x : Tree) → Denotes back T s e x → Denotes back T s e (alternation (x ∷ []))
  denotes_alternation_one s e x d = denotes_same back T s e x (alternation (x ∷ [])) (same_alternation_one x) d

  -- ---- joined with what reads nothing

  pub denotes_empty_then : (s m e : ℕ) (x : Tree) → Denotes back T s m empty → Denotes back T m e x → Denotes back T s e x
  denotes_empty_then s m e x a b = denotes_join back T s m e empty x x (joins_empty_then back x) a b

  pub denotes_then_empty : (s m e : ℕ) (x : Tree) → Denotes back T s m x → Denotes back T m e empty → Denotes back T s e x
  denotes_then_empty s m e x a b = denotes_join back T s m e x empty x (joins_then_empty back x) a b

  -- a group with no states of its own, and one between the states of its start and its end
  pub denotes_capture_plain : (s e index : ℕ) (name : Option (List ℕ)) (x : Tree) → Denotes back T s e x →
      Denotes back T s e (capture index name x)
  denotes_capture_plain s e index name x d = denotes_same back T s e x (capture index name x) (same_capture index name x) d

  pub denotes_capture : (s m c e pattern group pattern_end group_end index : ℕ) (name : Option (List ℕ)) (x : Tree) →
      T s ≡ capture_start_draft pattern group m →
      Denotes back T m c x → T c ≡ capture_end_draft pattern_end group_end e → Denotes back T s e (capture index name x)
  denotes_capture s m c e pattern group pattern_end group_end index name x first d second =
      denotes_capture_plain s e index name x
      (denotes_empty_then s m e x (denotes_capture_start back T s pattern group m first)
      (denotes_then_empty m c e x d (denotes_capture_end back T c pattern_end group_end e second)))

  pub denotes_byte : (s e b : ℕ) → T s ≡ range_draft b b e → Denotes back T s e (literal (b ∷ []))
  denotes_byte s e b is = denotes_same back T s e (byte_class ((b, b) ∷ [])) (literal (b ∷ [])) (same_literal_one b)
      (denotes_range back T s e b b is)
