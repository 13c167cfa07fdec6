-- One pattern: the fragment of its tree, and the state in which it matches.
use Rattle.std.proofs.Common.{◌≡◌, ◌≢◌, ℕ, zero, suc, ◌+◌, ◌*◌, ◌<◌, ◌≤◌, Bool, true, false, List, [], ◌∷◌, ◌++◌, length, None, refl, sym}
use Rattle.std.proofs.Common.{ap, ◌∙◌, subst, arith, ⊎_elim, length-append, ◌||◌}
use Rattle.std.specs.Prelude.{All}
use Rattle.std.proofs.lemmas.Bool.{cases_lt, cases_eq}
use Rattle.std.proofs.lemmas.List.Elements.{All-weaker, All-nil}
use Rattle.std.proofs.Math.Bool.{or-false}
use Rattle.hir_core.specs.Tree.{Tree, capture}
use Rattle.nfa_core.specs.BuilderStates.{DraftNode, Assembly, match_draft, draft_at, patched}
use Rattle.nfa_core.specs.CanBuild.{names_of, is_known}
use Rattle.nfa_core.specs.Renaming.{stands_for}
use Rattle.nfa_core.specs.Drafted.{Table}
use Rattle.thompson_nfa.specs.Added.{AddsDraft, Led}
use Rattle.thompson_nfa.specs.Assembled.{AcceptAll}
use Rattle.thompson_nfa.specs.Compiled.{Finished, Makes, Does, IsTame, is_match_draft, sum_of_bytes}
use Rattle.thompson_nfa.specs.NotedGroups.{with_groups_of}
use Rattle.thompson_nfa.specs.Patterns.{Holds, ComesToKept, HasAll}
use Rattle.thompson_nfa.specs.Room.{room}
use Rattle.thompson_nfa.specs.declared.compiling.How.{How}
use Rattle.thompson_nfa.specs.Compiled.{looks_in, uses}
use Rattle.thompson_nfa.proofs.Steps.LookLemmas.{quiet_led, quiet_added}
use Rattle.thompson_nfa.proofs.Fragments.DoesLemmas.{turned_to}
use Rattle.thompson_nfa.proofs.Steps.GrowLemmas.{one_below, unmatched, names_patched, match_patched, known_patched}
use Rattle.thompson_nfa.proofs.Walks.SameLemmas.{IsSame, denotes_same}
use Rattle.thompson_nfa.proofs.WholePatterns.StandLemmas.{fenced, fenced_above, stands_from}

one_above : (n s : ℕ) → n ≤ s → All (λ k. n ≤ k) (s ∷ [])
one_above n s l zero d h = l
one_above n s l (suc i) d h = absurd (omega arith)

pub no_match_is : (draft : DraftNode) (p : ℕ) → is_match_draft draft ≡ false → draft ≡ match_draft p → ⊥
no_match_is draft p no_match e = let is : is_match_draft draft ≡ true = ap is_match_draft e in cc

same_number : (draft : DraftNode) (p r : ℕ) → draft ≡ match_draft p → draft ≡ match_draft r → p ≡ r
same_number draft p r e f = cc

capture_is : (x : Tree) → IsSame (capture 0 None x) x
capture_is x = record { reading = λ reads. reads; ends = λ looks h i. refl; met = λ back l. refl }

module _ (how : How) (b0 b1 b2 b3 b4 b5 : Assembly) (x : Tree) (s e m : ℕ) (closed : b0.is_open ≡ false)
    (begun : b1 ≡ record b0 { is_open = true })
    (made : Makes b1 b2 s e (room how.shrink x + 2)) (does : Does b1 b2 s e (capture 0 None x))
    (noted_here : b2.groups ≡ with_groups_of how.which (length b1.starts) (capture 0 None x) b1.groups)
    (added : AddsDraft b2 b3 m (match_draft (length b2.starts)) b2.groups) (led : Led b3 b4 e m)
    (done : b5 ≡ record b4 { starts = b4.starts ++ s ∷ []; is_open = false }) where
  parts_end : b5.drafts ≡ b4.drafts
  parts_end = ap (λ (z : Assembly). z.drafts) done

  starts_2 : b2.starts ≡ b0.starts
  starts_2 = ap (λ (z : Assembly). z.starts) made.fragment.grows.settings ∙ ap (λ (z : Assembly). z.starts) begun

  starts_4 : b4.starts ≡ b0.starts
  starts_4 = ap (λ (z : Assembly). z.starts) led.settings ∙ ap (λ (z : Assembly). z.starts) added.grows.settings ∙ starts_2

  groups_end : b5.groups ≡ b2.groups
  groups_end = ap (λ (z : Assembly). z.groups) done ∙ ap (λ (z : Assembly). z.groups) led.settings ∙ added.groups_are

  -- how the numbers of states succeed one another
  size_0 : length b1.drafts ≡ length b0.drafts
  size_0 = ap (λ (z : Assembly). length z.drafts) begun

  size_5 : length b5.drafts ≡ length b2.drafts + 1
  size_5 = ap length parts_end ∙ led.size ∙ added.size

  end_is : m ≡ length b2.drafts
  end_is = added.is

  grown : length b1.drafts ≤ length b2.drafts
  grown = made.fragment.grows.longer

  end_low : length b1.drafts ≤ e
  end_low = made.fragment.end_new

  end_high : e < length b2.drafts
  end_high = made.fragment.end_there

  at_all : (q : ℕ) → q < length b2.drafts → q ≢ e → draft_at b5.drafts q ≡ draft_at b2.drafts q
  at_all q l ne = ap (λ ps. draft_at ps q) parts_end ∙ led.same q ne ∙ added.grows.same q l

  at_end : draft_at b5.drafts e ≡ patched m (draft_at b2.drafts e)
  at_end = ap (λ ps. draft_at ps e) parts_end ∙ led.here ∙ ap (patched m) (added.grows.same e end_high)

  match_not_end : m ≢ e
  match_not_end same = let is = end_is in let l = end_high in absurd (omega arith)

  at_match : draft_at b5.drafts m ≡ match_draft (length b0.starts)
  at_match = ap (λ ps. draft_at ps m) parts_end ∙ led.same m match_not_end ∙ added.here
      ∙ ap (λ (ss : List ℕ). match_draft (length ss)) starts_2

  old_same : (q : ℕ) → q < length b0.drafts → draft_at b5.drafts q ≡ draft_at b0.drafts q
  old_same q l =
      let z = size_0 in let g = grown in let en = end_low in
      at_all q (omega arith) (λ same. omega arith) ∙ made.fragment.grows.same q (omega arith)
      ∙ ap (λ (z : Assembly). draft_at z.drafts q) begun

  begun_finished : (table : Table) → Holds (length b5.drafts) (length b0.drafts) b5.drafts table →
      Finished (length b1.drafts) b2.drafts e m table
  begun_finished table hold =
      let z = size_0 in let n = size_5 in let en = end_low in let et = end_high in
      record {
        states = λ q low high ne. hold q (omega arith) (omega arith) (λ same. omega arith) ∙ at_all q high ne;
        led = hold e (omega arith) (omega arith) (λ same. omega arith) ∙ at_end;
      }

  match_in : (table : Table) → Holds (length b5.drafts) (length b0.drafts) b5.drafts table → table m ≡ match_draft (length b0.starts)
  match_in table hold =
      let z = size_0 in let n = size_5 in let is = end_is in let g = grown in
      hold m (omega arith) (omega arith) (λ same. omega arith) ∙ at_match

  accepted : (table : Table) → Holds (length b5.drafts) (length b0.drafts) b5.drafts table →
      AcceptAll b0.reverse table (length b0.starts) (s ∷ []) (x ∷ [])
  accepted table hold = (
    record {
      end = m;
      matches = match_in table hold;
      denotes = turned_to (ap (λ (z : Assembly). z.reverse) begun) (denotes_same b1.reverse table s m (capture 0 None x) x (capture_is x)
          (does.denotes table m (begun_finished table hold)));
    },
    tt,
  )

  fenced_holds : (table : Table) → Holds (length b5.drafts) (length b0.drafts) b5.drafts table →
      Holds (length b5.drafts) (length b0.drafts) b5.drafts (fenced (length b0.drafts) table)
  fenced_holds table hold q low high ne = fenced_above (length b0.drafts) table q low ∙ hold q low high ne

  standing : (table : Table) → Holds (length b5.drafts) (length b0.drafts) b5.drafts table → (q : ℕ) → length b0.drafts ≤ q →
      q < length b5.drafts → ComesToKept (length b0.drafts) table q
  standing table hold q low high =
      let z = size_0 in let n = size_5 in let is = end_is in let g = grown in
      let none : stands_for (table m) ≡ None = ap stands_for (match_in table hold) in
      ⊎_elim
      (λ (l : q < length b2.drafts). stands_from (length b0.drafts) table m q (omega arith) none
      (made.comes_out (fenced (length b0.drafts) table) m (begun_finished (fenced (length b0.drafts) table) (fenced_holds table hold)) q
      (omega arith) l))
      (λ (l : length b2.drafts ≤ q). let P : ℕ → Type 0 = λ k. ComesToKept (length b0.drafts) table k in
      let same : m ≡ q = omega arith in subst P same (0, none, omega arith))
      (cases_lt q (length b2.drafts))

  -- what holds of each new state
  each : (P : DraftNode → Type 0) → ((draft : DraftNode) → IsTame false b2 draft → P draft) →
      (((draft : DraftNode) → IsTame false b2 draft → P (patched m draft))) → P (match_draft (length b0.starts)) →
      (q : ℕ) → length b0.drafts ≤ q → q < length b5.drafts → P (draft_at b5.drafts q)
  each P plain patched_one last q low high =
      let z = size_0 in let n = size_5 in let is = end_is in let en = end_low in let et = end_high in
      ⊎_elim
      (λ (l : q < length b2.drafts). ⊎_elim
      (λ (same : q ≡ e). subst P (sym (ap (draft_at b5.drafts) same ∙ at_end)) (patched_one (draft_at b2.drafts e) (made.tame e en et)))
      (λ (ne : q ≡ e → ⊥). subst P (sym (at_all q l ne)) (plain (draft_at b2.drafts q) (made.tame q (omega arith) l)))
      (cases_eq q e))
      (λ (l : length b2.drafts ≤ q). let same : q ≡ m = omega arith in subst P (sym (ap (draft_at b5.drafts) same ∙ at_match)) last)
      (cases_lt q (length b2.drafts))

  named_end : (q : ℕ) → length b0.drafts ≤ q → q < length b5.drafts → All (λ r. r < length b5.drafts) (names_of (draft_at b5.drafts q))
  named_end =
      let n = size_5 in let is = end_is in
      let wider : (draft : DraftNode) → IsTame false b2 draft → All (λ r. r < length b5.drafts) (names_of draft) =
      λ draft tame. All-weaker (λ r. r < length b2.drafts) (λ r. r < length b5.drafts) (λ r l. omega arith) (names_of draft) tame.named in
      each (λ draft. All (λ r. r < length b5.drafts) (names_of draft)) wider
      (λ draft tame. names_patched (length b5.drafts) m draft (omega arith) (wider draft tame)) (All-nil (λ r. r < length b5.drafts))

  known_end : (q : ℕ) → length b0.drafts ≤ q → q < length b5.drafts → is_known b5.groups (draft_at b5.drafts q) ≡ true
  known_end = each (λ draft. is_known b5.groups draft ≡ true) (λ draft tame. ap (λ gs. is_known gs draft) groups_end ∙ tame.known)
      (λ draft tame. ap (λ gs. is_known gs (patched m draft)) groups_end ∙ known_patched b2 m draft ∙ tame.known) refl

  -- no other new state is a match
  only_match : (q p : ℕ) → length b0.drafts ≤ q → q < length b5.drafts → draft_at b5.drafts q ≡ match_draft p → q ≡ m
  only_match q p low high found =
      let z = size_0 in let n = size_5 in let is = end_is in let en = end_low in let et = end_high in
      ⊎_elim
      (λ (l : q < length b2.drafts). ⊎_elim
      (λ (same : q ≡ e). absurd (no_match_is (patched m (draft_at b2.drafts e)) p
      (match_patched m (draft_at b2.drafts e) ∙ unmatched false (draft_at b2.drafts e) (made.tame e en et).not_barred)
      (sym at_end ∙ ap (draft_at b5.drafts) (sym same) ∙ found)))
      (λ (ne : q ≡ e → ⊥). absurd (no_match_is (draft_at b2.drafts q) p
      (unmatched false (draft_at b2.drafts q) (made.tame q (omega arith) l).not_barred) (sym (at_all q l ne) ∙ found)))
      (cases_eq q e))
      (λ (l : length b2.drafts ≤ q). omega arith)
      (cases_lt q (length b2.drafts))

  match_number : (q p : ℕ) → length b0.drafts ≤ q → q < length b5.drafts → draft_at b5.drafts q ≡ match_draft p → length b0.starts ≡ p
  match_number q p low high found = same_number (draft_at b5.drafts m) (length b0.starts) p at_match
      (ap (draft_at b5.drafts) (sym (only_match q p low high found)) ∙ found)

  settings_end : b5 ≡ record b0 { drafts = b5.drafts; groups = b5.groups; starts = b5.starts }
  settings_end =
      let F : Assembly → Assembly = λ z. record z { drafts = b5.drafts; groups = b5.groups; starts = b5.starts; is_open = false } in
      ap (λ (v : Bool). record b5 { is_open = v }) (ap (λ (z : Assembly). z.is_open) done) ∙ ap F done ∙ ap F led.settings
      ∙ ap F added.grows.settings
      ∙ ap F made.fragment.grows.settings ∙ ap F begun
      ∙ ap (λ (v : Bool). record b0 { drafts = b5.drafts; groups = b5.groups; starts = b5.starts; is_open = v }) (sym closed)

  starts_end : b5.starts ≡ b0.starts ++ s ∷ []
  starts_end = ap (λ (z : Assembly). z.starts) done ∙ ap (λ ss. ss ++ s ∷ []) starts_4

  one_more : length b5.starts ≡ length b0.starts + 1
  one_more = ap length starts_end ∙ length-append b0.starts (s ∷ [])

  bytes_end : sum_of_bytes b5 + 4 + 4096 * length b0.drafts ≤ sum_of_bytes b0 + 4096 * length b5.drafts
  bytes_end =
      let z = size_0 in let n = size_5 in
      let first : sum_of_bytes b1 ≡ sum_of_bytes b0 = ap (λ (z : Assembly). sum_of_bytes z) begun in
      let last : sum_of_bytes b5 ≡ sum_of_bytes b4 = ap (λ (z : Assembly). sum_of_bytes z) done in
      omega (arith, first, last, z, n, made.within.bytes, added.bytes, led.bytes)

  pub pattern_compiled : HasAll how.which b0 b5 (s ∷ []) (x ∷ []) (room how.shrink x + 3) 4
  pattern_compiled =
      let z = size_0 in let n = size_5 in let g = grown in
      let low = made.fragment.start_new in let high = made.fragment.start_there in
      record {
        settings = settings_end;
        starts_are = starts_end;
        as_many = refl;
        groups =
            groups_end ∙ noted_here ∙ ap (λ (z : Assembly). with_groups_of how.which (length z.starts) (capture 0 None x) z.groups) begun;
        known_more = λ draft k. ap (λ gs. is_known gs draft) groups_end
            ∙ made.fragment.grows.known draft (ap (λ (z : Assembly). is_known z.groups draft) begun ∙ k);
        longer = omega arith;
        same = λ q l ne. old_same q l;
        starts_new = one_above (length b0.drafts) s (omega arith);
        starts_there = one_below (length b5.drafts) s (omega arith);
        accept = accepted;
        stands = λ table hold q l h ne. standing table hold q l h;
        named = λ q l h ne. named_end q l h;
        known = λ q l h ne. known_end q l h;
        numbered = λ q p l h ne found. let e = match_number q p l h found in let o = one_more in (omega arith, omega arith);
        one_match = λ q r p l h ne l2 h2 ne2 found found2. only_match q p l h found ∙ sym (only_match r p l2 h2 found2);
        looks = λ l. ap (λ (w : Assembly). looks_in w.drafts l) done ∙ quiet_led led l ∙ quiet_added added (λ k. refl) l ∙ does.looks l
            ∙ ap (λ (w : Assembly). looks_in w.drafts l || uses w.reverse x l) begun
            ∙ ap (λ (k : Bool). looks_in b0.drafts l || k) (sym (or-false (uses b0.reverse x l)));
        states = omega (arith, made.within.states, z, n);
        bytes = bytes_end;
        last = λ le. omega (arith, added.numbered, added.size, n);
      }
