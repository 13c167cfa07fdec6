-- Classes of scalars: the ranges of a sequence, errors within what is done, and the branches of all ranges.
use Rattle.std.proofs.Common.{◌≡◌, ℕ, ◌+◌, ◌*◌, ◌<◌, ◌≤◌, min, true, false, List, length, take, map, get_or}
use Rattle.std.proofs.Common.{refl, ap, ◌∙◌, subst, arith}
use Rattle.std.specs.Prelude.{All}
use Rattle.std.proofs.lemmas.List.{take_all, get_or-map, length-map}
use Rattle.hir_core.specs.BySequences.{sequence_tree, sequences_of, by_sequences}
use Rattle.hir_core.specs.Facts.{count, sequence_count, is_ascending}
use Rattle.hir_core.specs.Sequences.{bytes_of, utf8_sequences}
use Rattle.hir_core.specs.Tree.{char_class}
use Rattle.hir_core.specs.declared.utf8_sequences.Utf8Range.{Utf8Range}
use Rattle.nfa_core.specs.BuilderStates.{DraftNode, Assembly, patched, is_sparse, empty_draft, range_draft, sparse_draft}
use Rattle.nfa_core.specs.BuilderStates.{look_draft, capture_start_draft, capture_end_draft, union_draft, union_reverse_draft, fail_draft}
use Rattle.nfa_core.specs.BuilderStates.{match_draft}
use Rattle.nfa_core.specs.declared.build_error.BuildError.{BuildError}
use Rattle.thompson_nfa.specs.Added.{AddsDraft}
use Rattle.thompson_nfa.specs.Choice.{no_choice}
use Rattle.thompson_nfa.specs.Compiled.{Makes, Does, sum_of_bytes}
use Rattle.thompson_nfa.specs.Refusals.{Quits}
use Rattle.thompson_nfa.proofs.Classes.ScalarBranches.{Branched, branched_begun, branched_made, branched_does}
use Rattle.thompson_nfa.proofs.Fragments.DoesCases.{does_scalars}
use Rattle.thompson_nfa.proofs.Steps.ProgressLemmas.{Progress, step_later, made_capped}
use Rattle.thompson_nfa.proofs.Steps.RoomLemmas.{sequence_count_take, sequence_count_some, fits_char_class}

-- ---- the ranges of one sequence

pub rising_at : (rs : List Utf8Range) (k : ℕ) (d : Utf8Range) → All (λ r. r.0 ≤ r.1) (map bytes_of rs) → k < length rs →
    (get_or rs k d).start ≤ (get_or rs k d).end
rising_at rs k d all l =
    let same : get_or (map bytes_of rs) k (bytes_of d) ≡ bytes_of (get_or rs k d) = get_or-map bytes_of rs k d (bytes_of d) l in
    let P : ℕ × ℕ → Type 0 = λ r. r.0 ≤ r.1 in
    subst P same (all k (bytes_of d) (let e = length-map rs bytes_of in omega (arith, e)))

-- ---- errors within what is done so far

-- n states were added at most, and states that were there may have been led on
pub record Spent (old mid : Assembly) (n : ℕ) : Type 0 where
  pub settings : mid ≡ record old { drafts = mid.drafts; groups = mid.groups }
  pub longer : length old.drafts ≤ length mid.drafts
  pub states : length mid.drafts ≤ length old.drafts + n
  pub bytes : sum_of_bytes mid + 4096 * length old.drafts ≤ sum_of_bytes old + 4096 * length mid.drafts

pub quits_later : {old mid new : Assembly} {k n : ℕ} {e : BuildError} (m : ℕ) → Spent old mid k → Quits mid new n e → k + n ≤ m →
    Quits old new m e
quits_later {old} {mid} {new} {k} {n} {e} m p r le = record {
  settings = r.settings ∙ ap (λ (b : Assembly). record b { drafts = new.drafts; groups = new.groups }) p.settings;
  cause = let a = p.states in let b = p.bytes in let l = p.longer in
      step_later old mid n (4096 * n) m m e (ap (λ (b : Assembly). b.size_limit) p.settings) (omega arith) (omega arith)
      (omega arith) r.cause;
}

pub quits_capped : {old new : Assembly} {n : ℕ} {e : BuildError} (m : ℕ) → Quits old new n e → min n 18446744073709551615 ≤ m →
    Quits old new m e
quits_capped {old} {new} {n} {e} m r cap = record {
  settings = r.settings;
  cause = step_later old old n (4096 * n) n m e refl (omega arith) (omega arith) cap r.cause;
}

pub spent_of : {old mid : Assembly} {n s : ℕ} → Progress false old mid n s → Spent old mid n
spent_of p = let b = p.bytes in record {
  settings = p.partly.grows.settings;
  longer = p.partly.grows.longer;
  states = p.states;
  bytes = omega arith;
}

-- ---- branches one after the other

pub kind_patched : (to : ℕ) (draft : DraftNode) → is_sparse (patched to draft) ≡ is_sparse draft
kind_patched to (empty_draft next) = refl
kind_patched to (range_draft low high next) = refl
kind_patched to (sparse_draft ranges) = refl
kind_patched to (look_draft look next) = refl
kind_patched to (capture_start_draft pattern group next) = refl
kind_patched to (capture_end_draft pattern group next) = refl
kind_patched to (union_draft names) = refl
kind_patched to (union_reverse_draft names) = refl
kind_patched to fail_draft = refl
kind_patched to (match_draft pattern) = refl

-- ---- all ranges

-- branches for the sequences of the first i ranges
pub record RangesTo (a b : Assembly) (u m i : ℕ) (ranges : List (ℕ × ℕ)) : Type 0 where
  pub branched : Branched a b u m (2 + 4 * sequence_count (take i ranges)) (map sequence_tree (sequences_of (take i ranges)))
  pub groups : b.groups ≡ a.groups
  pub within : i ≤ length ranges

pub no_range : (a b c : Assembly) (u m : ℕ) (ranges : List (ℕ × ℕ)) → AddsDraft a b u (no_choice true) a.groups →
    AddsDraft b c m (empty_draft 0) b.groups → RangesTo a c u m 0 ranges
no_range a b c u m ranges x y = record { branched = branched_begun x y; groups = y.groups_are ∙ x.groups_are; within = omega arith }

module _ (a b : Assembly) (u m i : ℕ) (ranges : List (ℕ × ℕ)) (d : ℕ ×
    ℕ) (so_far : RangesTo a b u m i ranges) (less : i < length ranges) where
  abbrev here : ℕ × ℕ
  here = get_or ranges i d

  pub range_refused : (c : Assembly) (e : BuildError) → Quits b c (4 * length (utf8_sequences here.0 here.1)) e →
      Quits a c (count (char_class ranges)) e
  range_refused c e r =
      let sum = sequence_count_take ranges i d less in
      let draft = sequence_count_some ranges (i + 1) in
      quits_capped (count (char_class ranges)) (quits_later (2 + 4 * sequence_count ranges) (spent_of so_far.branched.progress) r
      (omega (arith, sum, draft)))
      (fits_char_class (2 + 4 * sequence_count ranges) ranges (omega arith))

module _ (a b : Assembly) (u m i : ℕ) (ranges : List (ℕ × ℕ)) (so_far : RangesTo a b u m i ranges) (past : length ranges ≤ i) where
  pub ranges_made : Makes a b u m (count (char_class ranges))
  ranges_made =
      let P : List (ℕ × ℕ) → Type 0 = λ rs. Makes a b u m (2 + 4 * sequence_count rs) in
      made_capped (count (char_class ranges))
      (subst P (take_all i ranges past) (branched_made a b u m (2 + 4 * sequence_count (take i ranges))
      (map sequence_tree (sequences_of (take i ranges))) so_far.branched))
      (fits_char_class (2 + 4 * sequence_count ranges) ranges (omega arith))

  pub ranges_do : is_ascending ranges ≡ true → Does a b u m (char_class ranges)
  ranges_do ascending =
      let P : List (ℕ × ℕ) → Type 0 = λ rs. Does a b u m (by_sequences rs) in
      does_scalars ascending (subst P (take_all i ranges past) (branched_does a b u m (2 + 4 * sequence_count (take i ranges))
      (map sequence_tree (sequences_of (take i ranges))) so_far.branched))
