-- Fragments of captures.
use Rattle.std.proofs.Common.{◌≡◌, ◌⊎◌, ℕ, ◌+◌, ◌≤◌}
use Rattle.std.proofs.Common.{Bool, true, false, length, Option, Some, None, nat_lt, if◌then◌else◌}
use Rattle.std.proofs.Common.{refl, sym, ap, ◌∙◌, subst, arith, ⊎_elim}
use Rattle.std.specs.Option.{option_or}
use Rattle.std.proofs.lemmas.Bool.{ltb-true}
use Rattle.search_core.specs.Index.{greatest_index}
use Rattle.search_types.specs.Groups.{Name, Groups}
use Rattle.search_types.specs.GroupFaults.{GroupFault, TooManyGroups}
use Rattle.search_types.specs.GroupRefusals as group
use Rattle.hir_core.specs.Tree.{Tree, capture}
use Rattle.nfa_core.specs.BuilderStates.{DraftNode, Assembly, draft_at, patched, draft_bytes, is_sparse, with_draft, with_group}
use Rattle.nfa_core.specs.BuilderStates.{capture_start_draft, capture_end_draft}
use Rattle.nfa_core.specs.BuilderFaults.{ReportsFaultOf, add_fault, index_fault, captures_refused, BuildFault}
use Rattle.nfa_core.specs.CanBuild.{is_known}
use Rattle.nfa_core.specs.Renaming.{stands_for}
use Rattle.nfa_core.specs.Drafted.{Table}
use Rattle.nfa_core.specs.declared.build_error.BuildError.{BuildError}
use Rattle.nfa_core.specs.declared.build_error.BuildError.TheVariants as error
use Rattle.thompson_nfa.specs.Compiled.{Finished, AllComeOut, IsTame, Makes, Does}
use Rattle.thompson_nfa.specs.Added.{AddsDraft, Led}
use Rattle.thompson_nfa.specs.Refusals.{FailsGroup, QuitsGroup, FailsStep}
use Rattle.thompson_nfa.proofs.Steps.LookLemmas.{quiet_led, quiet_added, adds_around}
use Rattle.thompson_nfa.proofs.Steps.SizeLemmas.{AddedAt, added_at, MadeAt, made_at, LedAt}
use Rattle.thompson_nfa.proofs.Steps.OutLemmas.{out_here, all_here, all_join, all_on}
use Rattle.thompson_nfa.proofs.Fragments.LeafLemmas.{tame_one}
use Rattle.thompson_nfa.proofs.Steps.StepLemmas.{added_of, added_group, refused_name}
use Rattle.thompson_nfa.proofs.Steps.NotedLemmas.{group_in, known_of_in, known_group}
use Rattle.thompson_nfa.proofs.Steps.ByteLemmas.{group_bytes}
use Rattle.thompson_nfa.proofs.Steps.ProgressLemmas.{Progress, first_added, then_added, then_made, then_led, made}
use Rattle.thompson_nfa.proofs.Fragments.RepeatLemmas.{reads_as}
use Rattle.thompson_nfa.proofs.Walks.AheadLemmas.{denotes_capture, denotes_capture_plain}
use Rattle.thompson_nfa.proofs.Steps.RoomLemmas.{numbered}

-- if both tests pass, the builder reports no error
both_none : (a b : Option BuildFault) → option_or a b ≡ None → b ≡ None
both_none None b e = e
both_none (Some x) b e = absurd (cc)

pub start_added : (old new : Assembly) (id index : ℕ) (name : Option Name) → id ≡ length old.drafts →
    new ≡ record (with_draft old (capture_start_draft (length old.starts) index 0)) {
      groups =
          with_group old.groups (length old.starts) index name;
    } →
    option_or (index_fault (length old.starts) index) (add_fault old (capture_start_draft (length old.starts) index 0)) ≡ None →
    AddsDraft old new id (capture_start_draft (length old.starts) index 0) (with_group old.groups (length old.starts) index name)
start_added old new id index name is e none =
    let draft = capture_start_draft (length old.starts) index 0 in
    added_group old new id draft (with_group old.groups (length old.starts) index name) is e
    (numbered old draft (both_none (index_fault (length old.starts) index) (add_fault old draft) none))
    (known_group old.groups (length old.starts) index name)

pub end_added : (old new : Assembly) (id index : ℕ) → id ≡ length old.drafts →
    new ≡ with_draft old (capture_end_draft (length old.starts) index 0) →
    option_or (index_fault (length old.starts) index) (add_fault old (capture_end_draft (length old.starts) index 0)) ≡ None →
    AddsDraft old new id (capture_end_draft (length old.starts) index 0) old.groups
end_added old new id index is e none =
    let draft = capture_end_draft (length old.starts) index 0 in
    added_of old new id draft draft is e (both_none (index_fault (length old.starts) index) (add_fault old draft) none) refl

-- an error of a state without a group is an error of one at the end of a group
group_step : (p index : ℕ) (old : Assembly) (e : BuildError) → FailsStep old 1 24 e → FailsGroup p index old e
group_step p index old error.TooManyPatterns r = r
group_step p index old error.TooManyStates r = r
group_step p index old (error.ExceededSizeLimit limit) r = r
group_step p index old error.UnsupportedCaptures r = r
group_step p index old (error.Captures err) r = absurd r
group_step p index old error.NoMemory r = r

same_fault : (p index : ℕ) (fault : GroupFault) → Some (captures_refused (TooManyGroups p index)) ≡ Some (captures_refused fault) →
    TooManyGroups p index ≡ fault
same_fault p index fault e = cc

group_refused : (b : Bool) (old : Assembly) (index : ℕ) (draft : DraftNode) (e : BuildError) → b ≡ nat_lt greatest_index index →
    draft_bytes draft ≤ 24 →
    ReportsFaultOf e (option_or (if b then Some (captures_refused (TooManyGroups (length old.starts) index)) else None) (add_fault old
    draft)) →
    FailsGroup (length old.starts) index old e
group_refused true old index draft error.TooManyPatterns test le reported = absurd (cc)
group_refused true old index draft error.TooManyStates test le reported = absurd (cc)
group_refused true old index draft (error.ExceededSizeLimit limit) test le reported = absurd (cc)
group_refused true old index draft error.UnsupportedCaptures test le reported = absurd (cc)
group_refused true old index draft (error.Captures err) test le reported =
    let P : GroupFault → Type 0 = λ fault. group.ReportsFaultOf err (Some fault) in
    (ltb-true greatest_index index (sym test), subst P (sym (same_fault (length old.starts) index reported.0 reported.1)) reported.2)
group_refused true old index draft error.NoMemory test le reported = tt
group_refused false old index draft e test le reported =
    group_step (length old.starts) index old e (refused_name (nat_lt greatest_index (length old.drafts)) old draft 24 e refl reported le)

pub end_refused : (old new : Assembly) (index : ℕ) (e : BuildError) → new ≡ old →
    ReportsFaultOf e (option_or (index_fault (length old.starts) index) (add_fault old (capture_end_draft (length old.starts) index 0))) →
    QuitsGroup old new index e
end_refused old new index e same reported = record {
  settings = same ∙ ap (λ (b : Assembly). record old { drafts = b.drafts; groups = b.groups }) (sym same);
  cause = end_cause;
  passed = group_bytes (length old.starts) index old e end_cause;
} where
  end_cause : FailsGroup (length old.starts) index old e
  end_cause = group_refused (nat_lt greatest_index index) old index (capture_end_draft (length old.starts) index 0) e refl (omega arith)
      reported

start_cause : (old : Assembly) (index : ℕ) (e : BuildError) →
    (e ≡ error.NoMemory) ⊎ ReportsFaultOf e (option_or (index_fault (length old.starts) index)
    (add_fault old (capture_start_draft (length old.starts) index 0))) → FailsGroup (length old.starts) index old e
start_cause old index e reported = ⊎_elim
    (λ (none : e ≡ error.NoMemory). let P : BuildError → Type 0 = λ one. FailsGroup (length old.starts) index old one in
    subst P (sym none) tt)
    (λ (t : ReportsFaultOf e (option_or (index_fault (length old.starts) index) (add_fault old (capture_start_draft (length old.starts)
    index 0)))).
    group_refused (nat_lt greatest_index index) old index (capture_start_draft (length old.starts) index 0) e refl (omega arith) t)
    reported

pub start_refused : (old new : Assembly) (index : ℕ) (e : BuildError) → new ≡ record old { groups = new.groups } →
    (e ≡ error.NoMemory) ⊎ ReportsFaultOf e (option_or (index_fault (length old.starts) index)
    (add_fault old (capture_start_draft (length old.starts) index 0))) → QuitsGroup old new index e
start_refused old new index e same reported = record {
  settings = same ∙ ap (λ (b : Assembly). record old { drafts = b.drafts; groups = new.groups }) (sym same);
  cause = start_cause old index e reported;
  passed = group_bytes (length old.starts) index old e (start_cause old index e reported);
}

pub plain_does : (old new : Assembly) (s e index : ℕ) (name : Option Name) (x : Tree) → Does old new s e x →
    Does old new s e (capture index name x)
plain_does old new s e index name x does =
    record {
      denotes =
          λ table target fin. denotes_capture_plain old.reverse table s target index name x (does.denotes table target fin);
      looks =
          does.looks;
    }

-- how far a capture has come, and that a step of it fails
module _ {t0 t1 : Assembly} {a index : ℕ} (name : Option Name)
    (first : AddsDraft t0 t1 a (capture_start_draft (length t0.starts) index 0) (with_group t0.groups (length t0.starts) index name)) where
  start_known : is_known t1.groups (capture_start_draft (length t0.starts) index 0) ≡ true
  start_known = ap (λ (gs : Groups). is_known gs (capture_start_draft (length t0.starts) index 0)) first.groups_are
      ∙ known_of_in (with_group t0.groups (length t0.starts) index name) (length t0.starts) index
      (group_in t0.groups (length t0.starts) index name)

  with_start : Progress false t0 t1 1 4000
  with_start = first_added 4000 first (tame_one t1 (capture_start_draft (length t0.starts) index 0) 0 refl (omega (
    arith,
    first.size,
  )) start_known refl) (omega arith)

  module _ {t2 : Assembly} {s e n : ℕ} (body : Makes t1 t2 s e n) where
    with_body : Progress false t0 t2 (1 + n) 4000
    with_body = then_made 4000 with_start body (omega arith)

    module _ {t3 : Assembly} {z pattern : ℕ} (last : AddsDraft t2 t3 z (capture_end_draft pattern index 0) t2.groups)
        (same_pattern : pattern ≡ length t0.starts) where
      end_tame : IsTame false t3 (capture_end_draft pattern index 0)
      end_tame =
          let P : ℕ → Type 0 = λ p. is_known t1.groups (capture_end_draft p index 0) ≡ true in
          tame_one t3 (capture_end_draft pattern index 0) 0 refl (omega (arith, last.size))
          (last.grows.known (capture_end_draft pattern index 0) (body.fragment.grows.known (capture_end_draft pattern index 0)
          (subst P (sym same_pattern) start_known))) refl

      with_end : Progress false t0 t3 (1 + n + 1) 4000
      with_end = then_added 4000 with_body last end_tame (omega arith)

      with_lead : {t4 : Assembly} → Led t3 t4 a s → Progress false t0 t4 (1 + n + 1) 3996
      with_lead led = then_led 3996 with_end led (omega (arith, first.is)) (omega (arith, body.fragment.start_there, last.size))
          (omega arith)

module _ (t0 t1 t2 t3 t4 t5 : Assembly) (a s e z n index pattern : ℕ) (name : Option Name)
    (first : AddsDraft t0 t1 a (capture_start_draft (length t0.starts) index 0) (with_group t0.groups (length t0.starts) index name))
    (body : Makes t1 t2 s e n) (last : AddsDraft t2 t3 z (capture_end_draft pattern index 0) t2.groups)
    (same_pattern : pattern ≡ length t0.starts) (p4 : Led t3 t4 a s) (p5 : Led t4 t5 e z) where
  capture_sizes : AddedAt t0 t1 a × MadeAt t1 t2 s e × AddedAt t2 t3 z × LedAt t3 t4 × LedAt t4 t5
  capture_sizes = (added_at first, made_at body, added_at last, p4.size, p5.size)

  capture_4 : Progress false t0 t4 (1 + n + 1) 3996
  capture_4 = with_lead name first body last same_pattern p4

  capture_z : draft_at t5.drafts z ≡ capture_end_draft pattern index 0
  capture_z = p5.same z (omega (arith, capture_sizes)) ∙ p4.same z (omega (arith, capture_sizes)) ∙ last.here

  capture_end : (target : ℕ) (table : Table) → Finished (length t0.drafts) t5.drafts z target table →
      table z ≡ capture_end_draft pattern index target
  capture_end target table fin = fin.led ∙ ap (patched target) capture_z

  capture_start : (target : ℕ) (table : Table) → Finished (length t0.drafts) t5.drafts z target table →
      table a ≡ capture_start_draft (length t0.starts) index s
  capture_start target table fin = fin.states a (omega (arith, capture_sizes)) (omega (arith, capture_sizes)) (omega (
    arith,
    capture_sizes,
  )) ∙ p5.same a (omega (arith, capture_sizes)) ∙ p4.here
      ∙ ap (patched s) (last.grows.same a (omega (arith, capture_sizes)) ∙ body.fragment.grows.same a (omega (arith, capture_sizes)) ∙
      first.here)

  capture_body : (target : ℕ) (table : Table) → Finished (length t0.drafts) t5.drafts z target table →
      Finished (length t1.drafts) t2.drafts e z table
  capture_body target table fin = record {
    states = λ i low high ne. fin.states i (omega (arith, capture_sizes)) (omega (arith, capture_sizes)) (omega (arith, capture_sizes)) ∙
        p5.same i ne ∙ p4.same i (omega (arith, capture_sizes))
        ∙ last.grows.same i (omega (arith, capture_sizes));
    led = fin.states e (omega (arith, capture_sizes)) (omega (arith, capture_sizes)) (omega (arith, capture_sizes)) ∙ p5.here
        ∙ ap (patched z) (p4.same e (omega (arith, capture_sizes)) ∙ last.grows.same e (omega (arith, capture_sizes)));
  }

  pub capture_made : Makes t0 t5 a z (n + 2)
  capture_made =
      made (n + 2) (then_led 3992 capture_4 p5 (omega (arith, capture_sizes)) (omega (arith, capture_sizes)) (omega (
        arith,
        capture_sizes,
      ))) (omega (arith, capture_sizes)) (omega (arith, capture_sizes)) (omega (arith, capture_sizes))
      (omega (arith, capture_sizes)) (omega (arith, capture_sizes)) (omega (arith, capture_sizes))
      (ap is_sparse capture_z)
      (λ table target fin.
      let real_a = out_here table target a (ap stands_for (capture_start target table fin)) in
      let real_z = out_here table target z (ap stands_for (capture_end target table fin)) in
      let P : ℕ → Type 0 = λ k. AllComeOut table target k (length t1.drafts) in
      let Q : ℕ → Type 0 = λ k. AllComeOut table target k (length t5.drafts) in
      all_join table target (length t0.drafts) (length t1.drafts) (length t5.drafts)
      (subst P first.is (all_here table target a (length t1.drafts) (omega (arith, capture_sizes)) real_a))
      (all_join table target (length t1.drafts) (length t2.drafts) (length t5.drafts)
      (all_on table target z (length t1.drafts) (length t2.drafts) (body.comes_out table z (capture_body target table fin)) real_z)
      (subst Q last.is (all_here table target z (length t5.drafts) (omega (arith, capture_sizes)) real_z))))

  pub capture_does : (shown : Option Name) (x : Tree) → Does t1 t2 s e x → Does t0 t5 a z (capture index shown x)
  capture_does shown x does = record {
    denotes = λ table target fin.
        denotes_capture t0.reverse table a s z target (length t0.starts) index pattern index index shown x (capture_start target table fin)
        (reads_as t0 t1 table s z x first.grows (does.denotes table z (capture_body target table fin))) (capture_end target table fin);
    looks = adds_around t0 t1 t2 t5 x (quiet_added first (λ k. refl)) (ap (λ (z : Assembly). z.reverse) first.grows.settings) does.looks
        (λ l. quiet_led p5 l ∙ quiet_led p4 l ∙ quiet_added last (λ k. refl) l);
  }
