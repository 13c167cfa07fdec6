-- Fragments of byte classes.
use Rattle.std.proofs.Common.{◌≡◌, ℕ, zero, suc, ◌+◌, ◌<◌, ◌≤◌, true, List, [], ◌∷◌, length, get_or, refl, sym, ap, ◌∙◌, subst}
use Rattle.std.proofs.Common.{arith, IsTrue, ◌*◌}
use Rattle.std.specs.Prelude.{All}
use Rattle.std.proofs.lemmas.List.{length-map}
use Rattle.hir_core.specs.Facts.{rises_from, is_ascending}
use Rattle.hir_core.specs.Tree.{byte_class}
use Rattle.nfa_core.specs.BuilderStates.{DraftNode, Assembly, draft_at, patched, draft_bytes, is_sparse, AscendsFrom, empty_draft}
use Rattle.nfa_core.specs.BuilderStates.{sparse_draft, way_bytes}
use Rattle.nfa_core.specs.Renaming.{stands_for}
use Rattle.nfa_core.specs.CanBuild.{names_of}
use Rattle.nfa_core.specs.declared.build_error.BuildError.{BuildError}
use Rattle.thompson_nfa.specs.Compiled.{AllComeOut, IsTame, Makes, Does, TakesBytes, way_at}
use Rattle.thompson_nfa.specs.Added.{AddsDraft}
use Rattle.thompson_nfa.specs.Refusals.{Stays, Quits}
use Rattle.thompson_nfa.proofs.Steps.LookLemmas.{quiet_added, adds_none}
use Rattle.thompson_nfa.proofs.Walks.WayLemmas.{to_one}
use Rattle.thompson_nfa.proofs.Walks.DenoteLemmas.{denotes_empty, denotes_sparse}
use Rattle.thompson_nfa.proofs.Walks.AheadLemmas.{denotes_then_empty}
use Rattle.thompson_nfa.proofs.Steps.OutLemmas.{out_here, out_next, out_at, all_here, all_join}
use Rattle.thompson_nfa.proofs.Steps.ProgressLemmas.{first_added, then_added, made, then_quits}
use Rattle.thompson_nfa.proofs.Fragments.LeafLemmas.{tame_one}
use Rattle.thompson_nfa.proofs.Classes.FollowLemmas.{rising}

ascends_from : (low next : ℕ) (ranges : List (ℕ × ℕ)) → rises_from low ranges ≡ true → AscendsFrom low (to_one next ranges)
ascends_from low next [] e = tt
ascends_from low next (r ∷ rs) e = let x = rising low r rs e in (x.0, x.1, ascends_from (r.1 + 1) next rs x.2)

few_from : (low : ℕ) (ranges : List (ℕ × ℕ)) → rises_from low ranges ≡ true → All (λ r. r.1 < 256) ranges → low ≤ 256 →
    length ranges + low ≤ 256
few_from low [] e all l = omega arith
few_from low (r ∷ rs) e all l =
    let x = rising low r rs e in
    let end : r.1 < 256 = all 0 r (omega arith) in
    let later : All (λ (s : ℕ × ℕ). s.1 < 256) rs = λ k d h. all (suc k) d (omega arith) in
    let more = few_from (r.1 + 1) rs x.2 later (omega arith) in
    let a = x.0 in let b = x.1 in
    omega arith

pub ascends : (next : ℕ) (ranges : List (ℕ × ℕ)) (transitions : List (ℕ × ℕ × ℕ)) → IsTrue (is_ascending ranges) →
    transitions ≡ to_one next ranges → AscendsFrom 0 transitions
ascends next ranges transitions e same = let P : List (ℕ × ℕ × ℕ) → Type 0 = λ l. AscendsFrom 0 l in
    subst P (sym same) (ascends_from 0 next ranges e)

pub few_ranges : (ranges : List (ℕ × ℕ)) → IsTrue (is_ascending ranges) → All (λ r. r.1 < 256) ranges → length ranges ≤ 256
few_ranges ranges e all = let few = few_from 0 ranges e all (omega arith) in omega arith

-- the state that reads a byte of the ranges names at most one state
names_to_one : (n next : ℕ) (ranges : List (ℕ × ℕ)) → next < n → (k d : ℕ) → k < length (names_of (sparse_draft (to_one next ranges))) →
    get_or (names_of (sparse_draft (to_one next ranges))) k d < n
names_to_one n next [] l k d h = absurd (omega arith)
names_to_one n next (r ∷ rs) l zero d h = l
names_to_one n next (r ∷ rs) l (suc k) d h = names_to_one n next rs l k d (omega arith)

pub bytes_to_one : (next : ℕ) (ranges : List (ℕ × ℕ)) → length ranges ≤ 256 → draft_bytes (sparse_draft (to_one next ranges)) ≤ 2072
bytes_to_one next ranges few = let e : length (to_one next ranges) ≡ length ranges = length-map ranges (λ r. (r.0, r.1, next)) in
    omega arith

module _ (a b c : Assembly) (end start : ℕ) (ranges : List (ℕ × ℕ)) (first : AddsDraft a b end (empty_draft 0) a.groups)
    (second : AddsDraft b c start (sparse_draft (to_one end ranges)) b.groups) (few : length ranges ≤ 256) where
  abbrev class_part : DraftNode
  class_part = sparse_draft (to_one end ranges)

  class_end : draft_at c.drafts end ≡ empty_draft 0
  class_end = second.grows.same end (omega arith) ∙ first.here

  pub class_made : Makes a c start end 2
  class_made =
      let bytes : draft_bytes class_part ≤ 2072 = bytes_to_one end ranges few in
      let tame : IsTame true c class_part =
      record { named = names_to_one (length c.drafts) end ranges (omega arith); known = refl; not_barred = refl } in
      made 2 (then_added 8 (first_added 8 first (tame_one b (empty_draft 0) 0 refl (omega arith) refl refl) (omega arith)) second tame
      (omega arith)) (omega arith) (omega arith)
      (omega arith) (omega arith) (omega arith) (omega arith) (ap is_sparse class_end)
      (λ table target fin.
      let last : table end ≡ empty_draft target = fin.led ∙ ap (patched target) class_end in
      let other : table start ≡ class_part = fin.states start (omega arith) (omega arith) (omega arith) ∙ second.here in
      let P : ℕ → Type 0 = λ n. AllComeOut table target n (length c.drafts) in
      subst P first.is (all_join table target end start (length c.drafts)
      (all_here table target end start (omega arith) (out_next table target end target (ap stands_for last) (out_at table target)))
      (all_here table target start (length c.drafts) (omega arith) (out_here table target start (ap stands_for other)))))

  pub class_takes : TakesBytes a c end (48 + 8 * length ranges) (48 + 8 * length ranges)
  class_takes =
      let long : length (to_one end ranges) ≡ length ranges = length-map ranges (λ r. (r.0, r.1, end)) in
      let way : way_at c end ≡ 0 = ap way_bytes class_end in
      record { least = omega (arith, first.bytes, second.bytes, long, way); most = omega (arith, first.bytes, second.bytes, long, way) }

  pub class_does : Does a c start end (byte_class ranges)
  class_does = record {
    denotes = λ table target fin.
        denotes_then_empty a.reverse table start end target (byte_class ranges)
        (denotes_sparse a.reverse table start end ranges (fin.states start (omega arith) (omega arith) (omega arith) ∙ second.here))
        (denotes_empty a.reverse table end target (fin.led ∙ ap (patched target) class_end));
    looks = adds_none a.reverse (byte_class ranges) a c (λ l. quiet_added second (λ k. refl) l ∙ quiet_added first (λ k. refl) l)
        (λ l. refl);
  }

pub class_quits : (a b c : Assembly) (end : ℕ) (e : BuildError) → AddsDraft a b end (empty_draft 0) a.groups → Stays b c 1 2072 e →
    Quits a c 2 e
class_quits a b c end e first r =
    then_quits 2 (first_added 8 first (tame_one {plain = true} b (empty_draft 0) 0 refl (omega arith) refl refl) (omega arith)) r
    (omega arith) (omega arith)

pub bytes_counted : (next : ℕ) (ranges : List (ℕ × ℕ)) (transitions : List (ℕ × ℕ × ℕ)) → transitions ≡ to_one next ranges →
    draft_bytes (sparse_draft transitions) ≤ 24 + 8 * length ranges
bytes_counted next ranges transitions same =
    let e : length transitions ≡ length ranges = ap length same ∙ length-map ranges (λ r. (r.0, r.1, next)) in
    omega arith

pub bytes_shown : (next : ℕ) (ranges : List (ℕ × ℕ)) (transitions : List (ℕ × ℕ × ℕ)) → transitions ≡ to_one next ranges →
    length ranges ≤ 256 → draft_bytes (sparse_draft transitions) ≤ 2072
bytes_shown next ranges transitions same few =
    let e : length transitions ≡ length ranges = ap length same ∙ length-map ranges (λ r. (r.0, r.1, next)) in
    omega arith
