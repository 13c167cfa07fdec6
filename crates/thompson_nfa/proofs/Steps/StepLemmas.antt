-- What the single steps of a compile do to a builder, and why they fail.
use Rattle.std.proofs.Common.{◌≡◌, ℕ, zero, suc, ◌+◌, ◌*◌, ◌<◌, ◌≤◌, min, Bool, true, false, List, [], ◌∷◌, ◌++◌, length, Option, Some}
use Rattle.std.proofs.Common.{None, nat_lt, if◌then◌else◌, ◌≢◌, ⊎_elim, refl, sym, ap, ◌∙◌, subst, arith, length-append}
use Rattle.std.specs.List.{sum_by}
use Rattle.std.specs.Option.{option_or}
use Rattle.std.proofs.lemmas.Bool.{ltb-true, cases_eq}
use Rattle.std.proofs.lemmas.List.{length-set, get_or-set_same, get_or-set_other}
use Rattle.std.proofs.lemmas.List.Sums.{sum_by_push, sum_by-set}
use Rattle.search_core.specs.Index.{greatest_index}
use Rattle.search_types.specs.Groups.{Groups}
use Rattle.nfa_core.specs.CanBuild.{is_known}
use Rattle.nfa_core.specs.BuilderStates.{DraftNode, Assembly, draft_at, patched, patched_at, draft_bytes, way_bytes}
use Rattle.nfa_core.specs.BuilderStates.{bytes_of_drafts, with_draft, fail_draft}
use Rattle.nfa_core.specs.BuilderStates.{union_draft, union_reverse_draft, empty_draft, range_draft, sparse_draft, look_draft}
use Rattle.nfa_core.specs.BuilderStates.{capture_start_draft, capture_end_draft, match_draft}
use Rattle.nfa_core.specs.BuilderFaults.{ReportsFaultOf, add_fault, patch_fault, limit_fault, BuildFault, exceeded_size_limit}
use Rattle.nfa_core.specs.BuilderFaults.{too_many_states}
use Rattle.nfa_core.specs.BuilderFaults.{unsupported_captures, too_many_patterns, captures_refused}
use Rattle.nfa_core.specs.declared.build_error.BuildError.{BuildError}
use Rattle.nfa_core.specs.declared.build_error.BuildError.TheVariants as error
use Rattle.thompson_nfa.specs.Compiled.{sum_of_bytes, way_at}
use Rattle.thompson_nfa.specs.Added.{AddsDraft, Led}
use Rattle.thompson_nfa.specs.Refusals.{FailsStep, Stays, StaysAt}
use Rattle.thompson_nfa.proofs.Steps.ByteLemmas.{step_bytes}
use Rattle.thompson_nfa.proofs.Steps.RoomLemmas.{numbered as room_for}

longer : (names : List ℕ) (to : ℕ) → 24 + 4 * length (names ++ to ∷ []) ≡ 24 + 4 * length names + 4
longer names to = omega (arith, length-append names (to ∷ []))

-- one more transition takes the bytes that `way_bytes` says
bytes_patched : (to : ℕ) (draft : DraftNode) → draft_bytes (patched to draft) ≡ draft_bytes draft + way_bytes draft
bytes_patched to (empty_draft next) = refl
bytes_patched to (range_draft low high next) = refl
bytes_patched to (sparse_draft ranges) = omega arith
bytes_patched to (look_draft look next) = refl
bytes_patched to (capture_start_draft pattern group next) = refl
bytes_patched to (capture_end_draft pattern group next) = refl
bytes_patched to (union_draft names) = longer names to
bytes_patched to (union_reverse_draft names) = longer names to
bytes_patched to fail_draft = refl
bytes_patched to (match_draft pattern) = refl

-- and the next one takes as many
ways_patched : (to : ℕ) (draft : DraftNode) → way_bytes (patched to draft) ≡ way_bytes draft
ways_patched to (empty_draft next) = refl
ways_patched to (range_draft low high next) = refl
ways_patched to (sparse_draft ranges) = refl
ways_patched to (look_draft look next) = refl
ways_patched to (capture_start_draft pattern group next) = refl
ways_patched to (capture_end_draft pattern group next) = refl
ways_patched to (union_draft names) = refl
ways_patched to (union_reverse_draft names) = refl
ways_patched to fail_draft = refl
ways_patched to (match_draft pattern) = refl

few_bytes : (draft : DraftNode) → way_bytes draft ≤ 4
few_bytes (empty_draft next) = omega arith
few_bytes (range_draft low high next) = omega arith
few_bytes (sparse_draft ranges) = omega arith
few_bytes (look_draft look next) = omega arith
few_bytes (capture_start_draft pattern group next) = omega arith
few_bytes (capture_end_draft pattern group next) = omega arith
few_bytes (union_draft names) = omega arith
few_bytes (union_reverse_draft names) = omega arith
few_bytes fail_draft = omega arith
few_bytes (match_draft pattern) = omega arith

pub way_small : (b : Assembly) (q : ℕ) → way_at b q ≤ 4
way_small b q = few_bytes (draft_at b.drafts q)

sum_patched : (drafts : List DraftNode) (from to : ℕ) → from < length drafts →
    sum_by draft_bytes (patched_at drafts from to) ≡ sum_by draft_bytes drafts + way_bytes (draft_at drafts from)
sum_patched drafts from to inside =
    let draft = draft_at drafts from in
    let sums = sum_by-set draft_bytes drafts from (patched to draft) fail_draft inside in
    omega (arith, sums, bytes_patched to draft)

pub led_of : (old new : Assembly) (from to : ℕ) → from < length old.drafts → new ≡ record old { drafts = patched_at old.drafts from to } →
    Led old new from to
led_of old new from to inside e =
    let small = way_small old from in
    let drafts_are : new.drafts ≡ patched_at old.drafts from to = ap (λ (b : Assembly). b.drafts) e in
    let to_draft = patched to (draft_at old.drafts from) in
    let takes : sum_of_bytes new ≡ sum_of_bytes old + way_at old from =
    ap (sum_by draft_bytes) drafts_are ∙ sum_patched old.drafts from to inside in
    let here : draft_at new.drafts from ≡ to_draft =
    ap (λ (ps : List DraftNode). draft_at ps from) drafts_are ∙ get_or-set_same old.drafts from to_draft fail_draft inside in
    let same : (q : ℕ) → q ≢ from → draft_at new.drafts q ≡ draft_at old.drafts q =
    λ q ne. ap (λ (ps : List DraftNode). draft_at ps q) drafts_are ∙ get_or-set_other old.drafts from q to_draft fail_draft ne in
    record {
      settings = e ∙ ap (λ (ps : List DraftNode). record old { drafts = ps }) (sym drafts_are);
      size = ap length drafts_are ∙ length-set old.drafts from to_draft;
      here = here;
      same = same;
      bytes = omega (arith, takes, small);
      takes = takes;
      ways = λ q. ⊎_elim
          (λ (is : q ≡ from). ap (way_at new) is ∙ ap way_bytes here ∙ ways_patched to (draft_at old.drafts from) ∙ ap (way_at old) (sym
          is))
          (λ (ne : q ≢ from). ap way_bytes (same q ne))
          (cases_eq q from);
    }

passed : (b : Bool) (given limit sum most : ℕ) → b ≡ nat_lt given (min sum 18446744073709551615) →
    (if b then Some (exceeded_size_limit given) else None) ≡ Some (exceeded_size_limit limit) →
    sum ≤ most → (Some given ≡ Some limit) × (limit < most) × (limit < 18446744073709551615)
passed true given limit sum most test e le =
    let same : given ≡ limit = cc in
    let less : given < min sum 18446744073709551615 = ltb-true given (min sum 18446744073709551615) (sym test) in
    (ap Some same, omega arith, omega arith)
passed false given limit sum most test e le = absurd (cc)

-- the limit that is exceeded
limit_passed : (size : Option ℕ) (limit sum most : ℕ) → limit_fault size (min sum 18446744073709551615) ≡ Some (exceeded_size_limit limit) →
    sum ≤ most →
    (size ≡ Some limit) × (limit < most) × (limit < 18446744073709551615)
limit_passed None limit sum most e le = absurd (cc)
limit_passed (Some given) limit sum most e le = passed (nat_lt given (min sum 18446744073709551615)) given limit sum most refl e le

abbrev IsOther : BuildFault → Type 0
IsOther (exceeded_size_limit limit) = ⊥
IsOther _ = Unit {0}

never : (b : Bool) (given : ℕ) (fault : BuildFault) → (if b then Some (exceeded_size_limit given) else None) ≡ Some fault → IsOther fault →
    ⊥
never true given fault e other = let P : BuildFault → Type 0 = IsOther in let same : exceeded_size_limit given ≡ fault = cc in
    subst P (sym same) other
never false given fault e other = cc

never_other : (size : Option ℕ) (bytes : ℕ) (fault : BuildFault) → limit_fault size bytes ≡ Some fault → IsOther fault → ⊥
never_other None bytes fault e other = cc
never_other (Some given) bytes fault e other = never (nat_lt given bytes) given fault e other

-- one more transition exceeds the limit
way_passed : (old : Assembly) (from to limit : ℕ) → from < length old.drafts →
    patch_fault old from to ≡ Some (exceeded_size_limit limit) →
    (old.size_limit ≡ Some limit) × (limit < sum_of_bytes old + way_at old from) × (limit < 18446744073709551615)
way_passed old from to limit inside reported =
    let sums = sum_patched old.drafts from to inside in
    limit_passed old.size_limit limit (sum_by draft_bytes (patched_at old.drafts from to)) (sum_of_bytes old + way_at old from) reported
    (omega (arith, sums))

pub lead_refused : (old new : Assembly) (from to : ℕ) (e : BuildError) → from < length old.drafts → new ≡ old →
    ReportsFaultOf e (patch_fault old from to) → StaysAt old new from e
lead_refused old new from to error.TooManyPatterns inside same reported = absurd
    (never_other old.size_limit (bytes_of_drafts (patched_at old.drafts from to)) too_many_patterns reported tt)
lead_refused old new from to error.TooManyStates inside same reported = absurd
    (never_other old.size_limit (bytes_of_drafts (patched_at old.drafts from to)) too_many_states reported tt)
lead_refused old new from to (error.ExceededSizeLimit limit) inside same reported =
    let most = way_passed old from to limit inside reported in
    let small = way_small old from in
    record {
      stays = record { same = same; cause = (most.0, omega (arith, most.1, small), most.2); passed = omega (arith, most.1, small) };
      passed = omega (arith, most.1);
    }
lead_refused old new from to error.UnsupportedCaptures inside same reported =
    absurd (never_other old.size_limit (bytes_of_drafts (patched_at old.drafts from to)) unsupported_captures reported tt)
lead_refused old new from to (error.Captures err) inside same reported = absurd
    (never_other old.size_limit (bytes_of_drafts (patched_at old.drafts from to)) (captures_refused reported.0) reported.1 tt)
lead_refused old new from to error.NoMemory inside same reported = record {
  stays = record { same = same; cause = tt; passed = omega arith };
  passed = omega arith;
}

draft_below : (xs : List DraftNode) (draft : DraftNode) (q : ℕ) → q < length xs → draft_at (xs ++ draft ∷ []) q ≡ draft_at xs q
draft_below [] draft q l = absurd (omega arith)
draft_below (x ∷ xs) draft zero l = refl
draft_below (x ∷ xs) draft (suc q) l = draft_below xs draft q (omega arith)

draft_last : (xs : List DraftNode) (draft : DraftNode) → draft_at (xs ++ draft ∷ []) (length xs) ≡ draft
draft_last [] draft = refl
draft_last (x ∷ xs) draft = draft_last xs draft

-- a state that was added after groups were noted
pub added_group : (old new : Assembly) (id : ℕ) (draft : DraftNode) (groups : Groups) → id ≡ length old.drafts →
    new ≡ record (with_draft old draft) { groups = groups } → length old.drafts ≤ greatest_index →
    ((one : DraftNode) → is_known old.groups one ≡ true → is_known groups one ≡ true) → AddsDraft old new id draft groups
added_group old new id draft groups is e room known =
    let drafts_are : new.drafts ≡ old.drafts ++ draft ∷ [] = ap (λ (b : Assembly). b.drafts) e in
    let groups_are : new.groups ≡ groups = ap (λ (b : Assembly). b.groups) e in
    let size : length new.drafts ≡ length old.drafts + 1 = ap length drafts_are ∙ length-append old.drafts (draft ∷ []) in
    record {
      is = is;
      size = size;
      grows = record {
        settings = e ∙ ap (λ (ps : List DraftNode). record old { drafts = ps; groups = groups }) (sym drafts_are)
            ∙ ap (λ (gs : Groups). record old { drafts = new.drafts; groups = gs }) (sym groups_are);
        longer = omega arith;
        same = λ q l. ap (λ (ps : List DraftNode). draft_at ps q) drafts_are ∙ draft_below old.drafts draft q l;
        known = λ one k. ap (λ (gs : Groups). is_known gs one) groups_are ∙ known one k;
      };
      here = ap (λ (ps : List DraftNode). draft_at ps id) drafts_are ∙ ap (λ n. draft_at (old.drafts ++ draft ∷ []) n) is
          ∙ draft_last old.drafts draft;
      bytes = ap (sum_by draft_bytes) drafts_are ∙ sum_by_push draft_bytes old.drafts draft;
      numbered = omega arith;
      groups_are = groups_are;
    }

pub added_of : (old new : Assembly) (id : ℕ) (draft shown : DraftNode) → id ≡ length old.drafts → new ≡ with_draft old draft →
    add_fault old draft ≡ None → draft ≡ shown → AddsDraft old new id shown old.groups
added_of old new id draft shown is e none same =
    added_group old new id shown old.groups is (e ∙ ap (λ one. with_draft old one) same) (room_for old draft none) (λ one k. k)

-- the errors of adding one more state
pub refused_name : (b : Bool) (old : Assembly) (draft : DraftNode) (bytes : ℕ) (e : BuildError) →
    b ≡ nat_lt greatest_index (length old.drafts) →
    ReportsFaultOf e (option_or (if b then Some too_many_states else None)
    (limit_fault old.size_limit (bytes_of_drafts (old.drafts ++ draft ∷ [])))) →
    draft_bytes draft ≤ bytes → FailsStep old 1 bytes e
refused_name true old draft bytes error.TooManyPatterns test reported le = absurd (cc)
refused_name true old draft bytes error.TooManyStates test reported le = let less : greatest_index < length old.drafts =
    ltb-true greatest_index (length old.drafts) (sym test) in omega arith
refused_name true old draft bytes (error.ExceededSizeLimit limit) test reported le = absurd (cc)
refused_name true old draft bytes error.UnsupportedCaptures test reported le = absurd (cc)
refused_name true old draft bytes (error.Captures err) test reported le = let same : Some too_many_states ≡
    Some (captures_refused reported.0) =
    reported.1 in absurd (cc)
refused_name true old draft bytes error.NoMemory test reported le = tt
refused_name false old draft bytes error.TooManyPatterns test reported le =
    never_other old.size_limit (bytes_of_drafts (old.drafts ++ draft ∷ [])) too_many_patterns reported tt
refused_name false old draft bytes error.TooManyStates test reported le = absurd
    (never_other old.size_limit (bytes_of_drafts (old.drafts ++ draft ∷ [])) too_many_states reported tt)
refused_name false old draft bytes (error.ExceededSizeLimit limit) test reported le =
    limit_passed old.size_limit limit (sum_by draft_bytes (old.drafts ++ draft ∷ [])) (sum_of_bytes old + bytes) reported (omega (
      arith,
      sum_by_push draft_bytes old.drafts draft,
    ))
refused_name false old draft bytes error.UnsupportedCaptures test reported le =
    never_other old.size_limit (bytes_of_drafts (old.drafts ++ draft ∷ [])) unsupported_captures reported tt
refused_name false old draft bytes (error.Captures err) test reported le =
    never_other old.size_limit (bytes_of_drafts (old.drafts ++ draft ∷ [])) (captures_refused reported.0) reported.1 tt
refused_name false old draft bytes error.NoMemory test reported le = tt

pub add_refused : (old new : Assembly) (draft : DraftNode) (bytes : ℕ) (e : BuildError) → new ≡ old →
    ReportsFaultOf e (add_fault old draft) →
    draft_bytes draft ≤ bytes → Stays old new 1 bytes e
add_refused old new draft bytes e same reported le =
    let cause = refused_name (nat_lt greatest_index (length old.drafts)) old draft bytes e refl reported le in
    record { same = same; cause = cause; passed = step_bytes old 1 bytes e (omega (arith, le)) cause }
