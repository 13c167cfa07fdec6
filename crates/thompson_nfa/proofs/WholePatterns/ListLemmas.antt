-- The bytes of all patterns, of what leads to them, and of what comes before them.
use Rattle.std.proofs.Common.{◌≡◌, ℕ, ◌+◌, ◌≤◌, Bool, List, [], ◌∷◌, length, refl, ap, ◌∙◌, arith}
use Rattle.std.specs.List.{list_all}
use Rattle.hir_core.specs.Tree.{Tree}
use Rattle.nfa_core.specs.BuilderStates.{Assembly, way_bytes, union_draft, fail_draft}
use Rattle.nfa_core.specs.declared.build_error.BuildError.{BuildError}
use Rattle.thompson_nfa.specs.Added.{AddsDraft, Led}
use Rattle.thompson_nfa.specs.ByteRoom.{Bound, at_least, at_most}
use Rattle.thompson_nfa.specs.Compilations.{is_anchored_tree, bytes_needed}
use Rattle.thompson_nfa.specs.Compiled.{TakesBytes, TakesInAll, sum_of_bytes, way_at}
use Rattle.thompson_nfa.specs.Configs.{Options, reverse_of, captures_of, is_shrunk}
use Rattle.thompson_nfa.specs.ListBytes.{bytes_of_pattern, bytes_for, patterns_bytes, start_bytes, compile_bytes}
use Rattle.thompson_nfa.specs.Patterns.{HasAll, HasStart, LeadsToPatterns, begun_with}
use Rattle.thompson_nfa.specs.Refusals.{ExceedsLimit, StaysAt}
use Rattle.thompson_nfa.specs.declared.compiling.How.{How}
use Rattle.thompson_nfa.specs.declared.which_captures.WhichCaptures.{WhichCaptures}
use Rattle.thompson_nfa.proofs.Fragments.TakeLemmas.{way_added}
use Rattle.thompson_nfa.proofs.WholePatterns.AssembleLemmas.{start_below}

-- a first pattern takes no more than all
first_of : (b : Bound) (which : WhichCaptures) (x : Tree) (xs : List Tree) → bytes_of_pattern b which x ≤ patterns_bytes b which (x ∷ xs)
first_of b which x [] = omega arith
first_of b which x (y ∷ xs) = omega arith

pub first_pattern : (b : Bound) (which : WhichCaptures) (zs xs : List Tree) (x : Tree) → zs ≡ x ∷ xs →
    bytes_of_pattern b which x ≤ patterns_bytes b which zs
first_pattern b which zs xs x is = omega (arith, first_of b which x xs, ap (patterns_bytes b which) is)

pub two_patterns : (b : Bound) (which : WhichCaptures) (zs ys xs : List Tree) (x y : Tree) → zs ≡ x ∷ ys → ys ≡ y ∷ xs →
    patterns_bytes b which zs ≡ bytes_of_pattern b which x + bytes_of_pattern b which y + 8 + bytes_for b which xs + 24
two_patterns b which zs ys xs x y is others =
    ap (patterns_bytes b which) is ∙ ap (λ rest. patterns_bytes b which (x ∷ rest)) others ∙ omega arith

module _ (t0 t1 t2 t3 : Assembly) (u s1 s2 : ℕ) (union : AddsDraft t0 t1 u (union_draft []) t0.groups) (first : Led t1 t2 u s1)
    (second : Led t2 t3 u s2) where
  pub union_way : way_at t3 u ≡ 4
  union_way = second.ways u ∙ first.ways u ∙ way_added union

  union_sum : sum_of_bytes t3 ≡ sum_of_bytes t0 + 32
  union_sum = omega (arith, union.bytes, first.takes, second.takes, way_added union, first.ways u)

pub several_take : (how : How) (a b t0 t1 t2 t3 c : Assembly) (u s1 s2 : ℕ) (zs ys xs : List Tree) (x y : Tree) → zs ≡ x ∷ ys →
    ys ≡ y ∷ xs → TakesInAll a b (bytes_of_pattern at_least how.which x) (bytes_of_pattern (at_most how.shrink) how.which x) →
    TakesInAll b t0 (bytes_of_pattern at_least how.which y) (bytes_of_pattern (at_most how.shrink) how.which y) →
    AddsDraft t0 t1 u (union_draft []) t0.groups → Led t1 t2 u s1 → Led t2 t3 u s2 →
    TakesInAll t3 c (bytes_for at_least how.which xs) (bytes_for (at_most how.shrink) how.which xs) →
    TakesInAll a c (patterns_bytes at_least how.which zs) (patterns_bytes (at_most how.shrink) how.which zs)
several_take how a b t0 t1 t2 t3 c u s1 s2 zs ys xs x y is others one two union first second rest =
    let sum = union_sum t0 t1 t2 t3 u s1 s2 union first second in
    record {
      least = omega (arith, one.least, two.least, sum, rest.least, two_patterns at_least how.which zs ys xs x y is others);
      most = omega (arith, one.most, two.most, sum, rest.most, two_patterns (at_most how.shrink) how.which zs ys xs x y is others);
    }

no_part : (zs : List Tree) → length zs ≡ 0 → zs ≡ []
no_part [] none = refl
no_part (x ∷ zs) none = absurd (omega arith)

pub no_patterns : (b : Bound) (which : WhichCaptures) (zs : List Tree) → length zs ≡ 0 → patterns_bytes b which zs ≡ 24
no_patterns b which zs none = ap (patterns_bytes b which) (no_part zs none)

pub none_take : (how : How) (a b : Assembly) (id : ℕ) (zs : List Tree) → length zs ≡ 0 → AddsDraft a b id fail_draft a.groups →
    TakesInAll a b (patterns_bytes at_least how.which zs) (patterns_bytes (at_most how.shrink) how.which zs)
none_take how a b id zs none added = record {
  least = omega (arith, added.bytes, no_patterns at_least how.which zs none);
  most = omega (arith, added.bytes, no_patterns (at_most how.shrink) how.which zs none);
}

pub one_takes : (how : How) (a b : Assembly) (zs ys : List Tree) (x : Tree) → zs ≡ x ∷ ys → length ys ≡ 0 →
    TakesInAll a b (bytes_of_pattern at_least how.which x) (bytes_of_pattern (at_most how.shrink) how.which x) →
    TakesInAll a b (patterns_bytes at_least how.which zs) (patterns_bytes (at_most how.shrink) how.which zs)
one_takes how a b zs ys x is none one =
    let single : zs ≡ x ∷ [] = is ∙ ap (λ rest. x ∷ rest) (no_part ys none) in
    record {
      least = omega (arith, one.least, ap (patterns_bytes at_least how.which) single);
      most = omega (arith, one.most, ap (patterns_bytes (at_most how.shrink) how.which) single);
    }

-- ---- what comes before them

module _ (o : Options) (xs : List Tree) (how : How) (anchored reverse : Bool) (kept : how.which ≡ captures_of o)
    (shrunk : how.shrink ≡ is_shrunk o) (turned : reverse ≡ reverse_of o)
    (is_anchored : anchored ≡ list_all (is_anchored_tree reverse) xs) where
  needed_is : (b : Bound) → start_bytes anchored + patterns_bytes b how.which xs ≡ bytes_needed b o xs
  needed_is b =
      ap (λ before. start_bytes before + patterns_bytes b how.which xs)
      (is_anchored ∙ ap (λ back. list_all (is_anchored_tree back) xs) turned)
      ∙ ap (λ which. compile_bytes b which (list_all (is_anchored_tree (reverse_of o)) xs) xs) kept

  needed_at_most : start_bytes anchored + patterns_bytes (at_most how.shrink) how.which xs ≡ bytes_needed (at_most (is_shrunk o)) o xs
  needed_at_most = needed_is (at_most how.shrink) ∙ ap (λ shrink. bytes_needed (at_most shrink) o xs) shrunk

  pub start_passed : (b : Assembly) (e : BuildError) → ExceedsLimit b (start_bytes anchored) e →
      ExceedsLimit b (bytes_needed (at_most (is_shrunk o)) o xs) e
  start_passed b e p = omega (arith, p, needed_at_most)

  module _ (b0 b1 : Assembly) (u : ℕ) (start : TakesBytes b0 b1 u (start_bytes anchored) (start_bytes anchored)) where
    -- the patterns are rejected
    pub patterns_passed : (e : BuildError) → ExceedsLimit b1 (patterns_bytes (at_most how.shrink) how.which xs) e →
        ExceedsLimit b0 (bytes_needed (at_most (is_shrunk o)) o xs) e
    patterns_passed e p = omega (arith, start.most, p, needed_at_most)

    module _ (b2 : Assembly) (c n : ℕ) (below : HasStart anchored b0 b1 u) (patterns : LeadsToPatterns how.which b1 b2 c xs n)
        (takes : TakesInAll b1 b2 (patterns_bytes at_least how.which xs) (patterns_bytes (at_most how.shrink) how.which xs)) where
      has : HasAll how.which b1 b2 patterns.0 xs n 0
      has = patterns.1

      start_kept : way_at b2 u ≡ way_at b1 u
      start_kept =
          let inside = start_below anchored b0 b1 u below in
          let longer = has.longer in
          ap way_bytes (has.same u inside (λ e. omega arith))

      -- adding the transition to them fails
      pub way_passed : (new : Assembly) (e : BuildError) → StaysAt b2 new u e →
          ExceedsLimit b0 (bytes_needed (at_most (is_shrunk o)) o xs) e
      way_passed new e r = omega (arith, start.most, takes.most, start_kept, r.passed, needed_at_most)

      pub all_needed : (b3 : Assembly) → b0 ≡ begun_with o → Led b2 b3 u c → bytes_needed at_least o xs ≤ sum_of_bytes b3
      all_needed b3 begun led =
          let none : sum_of_bytes b0 ≡ 0 = ap (λ (z : Assembly). sum_of_bytes z) begun in
          omega (arith, start.least, takes.least, start_kept, led.takes, none, needed_is at_least)
