-- What a builder has when all patterns are compiled.
use Rattle.std.proofs.Common.{◌≡◌, ◌≢◌, inl, inr, ℕ, ◌+◌, ◌*◌, ◌<◌, ◌≤◌, min, Bool, true, false, ◌&&◌, List, [], ◌∷◌, ◌++◌, length, None}
use Rattle.std.proofs.Common.{sym, ap, ◌∙◌, subst, arith, ⊎_elim, ◌||◌, ◌⊎◌}
use Rattle.std.specs.Prelude.{All}
use Rattle.std.specs.List.{list_all}
use Rattle.std.proofs.lemmas.Bool.{cases_lt, cases_eq}
use Rattle.std.proofs.lemmas.List.{get_or_default}
use Rattle.std.proofs.lemmas.List.Elements.{All-weaker}
use Rattle.search_core.specs.Index.{greatest_index}
use Rattle.hir_core.specs.Tree.{Tree}
use Rattle.nfa_core.specs.BuilderStates.{DraftNode, Assembly, union_draft, fail_draft, match_draft, draft_at, patched}
use Rattle.nfa_core.specs.CanBuild.{names_of, is_known, CanBuild}
use Rattle.nfa_core.specs.Renaming.{stands_for, past, past_within, HasNoLoop}
use Rattle.nfa_core.specs.Drafted.{Table}
use Rattle.thompson_nfa.specs.Added.{Led}
use Rattle.thompson_nfa.specs.Assembled.{IsAssembled, AcceptAll, LeadsToAll, IsIndependent}
use Rattle.thompson_nfa.specs.Compilations.{is_anchored_tree}
use Rattle.thompson_nfa.specs.Compiled.{sum_of_bytes}
use Rattle.thompson_nfa.specs.Configs.{Options, reverse_of, captures_of, is_shrunk, is_any}
use Rattle.thompson_nfa.specs.NotedGroups.{noted_from}
use Rattle.thompson_nfa.specs.Patterns.{Holds, ComesToKept, HasAll, HasStart, LeadsToPatterns, room_for, begun_with}
use Rattle.thompson_nfa.specs.Room.{list_room}
use Rattle.thompson_nfa.specs.declared.compiling.How.{How}
use Rattle.thompson_nfa.specs.declared.which_captures.WhichCaptures.{WhichCaptures}
use Rattle.look_core.specs.declared.look.Look.{Look}
use Rattle.thompson_nfa.specs.Compiled.{is_look, looks_in, any_uses}
use Rattle.thompson_nfa.proofs.Steps.LookLemmas.{any_more, look_patched, plain_look, quiet_led}
use Rattle.thompson_nfa.proofs.Steps.GrowLemmas.{unmatched}
use Rattle.thompson_nfa.proofs.WholePatterns.PatternLemmas.{no_match_is}
use Rattle.thompson_nfa.proofs.WholePatterns.StartLemmas.{Out, IsBefore, before_all, past_in_list, past_found}
use Rattle.thompson_nfa.proofs.Assembled.AssembledDrafts.{match_inside}

pub list_fits : (shrink : Bool) (xs : List Tree) → min (room_for shrink xs + 4) 18446744073709551615 ≤ list_room shrink xs
list_fits shrink [] = omega arith
list_fits shrink (x ∷ xs) = let l = list_fits shrink xs in omega arith

-- every state of the list, at any default
each_part : (P : DraftNode → Type 0) (drafts : List DraftNode) → ((q : ℕ) → q < length drafts → P (draft_at drafts q)) → All P drafts
each_part P drafts at k d l = subst P (get_or_default drafts k fail_draft d l) (at k l)

leads_same : (table other : Table) (c : ℕ) (starts : List ℕ) → table c ≡ other c → LeadsToAll table c starts → LeadsToAll other c starts
leads_same table other c starts same l = ⊎_elim
    (λ (one : starts ≡ c ∷ []). inl one)
    (λ rest. ⊎_elim (λ (union : table c ≡ union_draft starts). inr (inl (sym same ∙ union)))
    (λ none. inr (inr (none.0, sym same ∙ none.1))) rest)
    l

module _ (o : Options) (xs : List Tree) (b0 b1 b2 b3 : Assembly) (u c : ℕ) (begun : b0 ≡ begun_with o)
    (captures : (reverse_of o && is_any (captures_of o)) ≡ false) (anchored : Bool)
    (is_anchored : anchored ≡ list_all (is_anchored_tree (reverse_of o)) xs) (start : HasStart anchored b0 b1 u)
    (below : u < length b1.drafts)
    (patterns : LeadsToPatterns (captures_of o) b1 b2 c xs (room_for (is_shrunk o) xs + 1)) (led : Led b2 b3 u c) where
  abbrev starts : List ℕ
  starts = patterns.0

  has : HasAll (captures_of o) b1 b2 patterns.0 xs (room_for (is_shrunk o) xs + 1) 0
  has = patterns.1

  no_part : length b0.drafts ≡ 0
  no_part = ap (λ (z : Assembly). length z.drafts) begun

  no_bytes : sum_of_bytes b0 ≡ 0
  no_bytes = ap (λ (z : Assembly). sum_of_bytes z) begun

  size : length b3.drafts ≡ length b2.drafts
  size = led.size

  longer : length b1.drafts ≤ length b2.drafts
  longer = has.longer

  inside : c < length b2.drafts
  inside = patterns.3

  above : length b1.drafts ≤ c
  above = patterns.4

  old_same : (q : ℕ) → q < length b1.drafts → q ≢ u → draft_at b3.drafts q ≡ draft_at b1.drafts q
  old_same q l ne = let l2 = longer in led.same q ne ∙ has.same q l (λ e. omega arith)

  led_on : draft_at b3.drafts u ≡ patched c (draft_at b1.drafts u)
  led_on = let l = below in let l2 = longer in led.here ∙ ap (patched c) (has.same u l (λ e. omega arith))

  -- the states of the patterns are as they were
  later_same : (q : ℕ) → length b1.drafts ≤ q → draft_at b3.drafts q ≡ draft_at b2.drafts q
  later_same q l = let k = below in led.same q (λ e. omega arith)

  holding : Holds (length b2.drafts) (length b1.drafts) b2.drafts (draft_at b3.drafts)
  holding q low high ne = later_same q low

  standing : (q : ℕ) → length b1.drafts ≤ q → q < length b2.drafts → ComesToKept (length b1.drafts) (draft_at b3.drafts) q
  standing q low high = has.stands (draft_at b3.drafts) holding q low high (λ e. omega arith)

  out : Out (draft_at b3.drafts) c
  out = let s = standing c above inside in (s.0, s.1)

  before : IsBefore (reverse_of o) xs b0 b1 b3 u c
  before = let z = size in let l = longer in let i = inside in
      before_all (reverse_of o) xs b0 b1 b3 u c no_part no_bytes (omega arith) (omega arith) old_same led_on out anchored is_anchored start

  settings : b3 ≡ record (begun_with o) { drafts = b3.drafts; groups = b3.groups; starts = b3.starts }
  settings =
      let F : Assembly → Assembly = λ z. record z { drafts = b3.drafts; groups = b3.groups; starts = b3.starts } in
      ap F led.settings ∙ ap F has.settings ∙ ap F before.settings ∙ ap F begun

  groups_0 : b1.groups ≡ []
  groups_0 = ap (λ (z : Assembly). z.groups) before.settings ∙ ap (λ (z : Assembly). z.groups) begun

  starts_0 : b1.starts ≡ []
  starts_0 = ap (λ (z : Assembly). z.starts) before.settings ∙ ap (λ (z : Assembly). z.starts) begun

  starts_are : b3.starts ≡ patterns.0
  starts_are = ap (λ (z : Assembly). z.starts) led.settings ∙ has.starts_are ∙ ap (λ (ss : List ℕ). ss ++ patterns.0) starts_0

  groups_same : b3.groups ≡ b2.groups
  groups_same = ap (λ (z : Assembly). z.groups) led.settings

  groups_are : b3.groups ≡ noted_from (captures_of o) 0 xs []
  groups_are = groups_same ∙ has.groups ∙ ap (λ (ss : List ℕ). noted_from (captures_of o) (length ss) xs b1.groups) starts_0
      ∙ ap (noted_from (captures_of o) 0 xs) groups_0

  named_at : (q : ℕ) → q < length b3.drafts → All (λ r. r < length b3.drafts) (names_of (draft_at b3.drafts q))
  named_at q l =
      let z = size in
      let P : DraftNode → Type 0 = λ draft. All (λ r. r < length b3.drafts) (names_of draft) in
      ⊎_elim (λ (low : q < length b1.drafts). (before.tame q low).named)
      (λ (high : length b1.drafts ≤ q). subst P (sym (later_same q high))
      (All-weaker (λ r. r < length b2.drafts) (λ r. r < length b3.drafts) (λ r k. omega arith) (names_of (draft_at b2.drafts q))
      (has.named q high (omega arith) (λ e. omega arith))))
      (cases_lt q (length b1.drafts))

  known_at : (q : ℕ) → q < length b3.drafts → is_known b3.groups (draft_at b3.drafts q) ≡ true
  known_at q l =
      let z = size in
      ⊎_elim (λ (low : q < length b1.drafts). (before.tame q low).known)
      (λ (high : length b1.drafts ≤ q). ap (is_known b3.groups) (later_same q high)
      ∙ ap (λ gs. is_known gs (draft_at b2.drafts q)) groups_same
      ∙ has.known q high (omega arith) (λ e. omega arith))
      (cases_lt q (length b1.drafts))

  out_at : (q : ℕ) → q < length b3.drafts → Out (draft_at b3.drafts) q
  out_at q l =
      let z = size in
      ⊎_elim (λ (low : q < length b1.drafts). before.stands q low)
      (λ (high : length b1.drafts ≤ q). let s = standing q high (omega arith) in (s.0, s.1))
      (cases_lt q (length b1.drafts))

  no_loop : HasNoLoop b3.drafts
  no_loop q l = let s = out_at q l in (s.0, ap (λ (k : ℕ). stands_for (draft_at b3.drafts k)) (sym (past_in_list b3.drafts s.0 q)) ∙ s.1)

  can_build : CanBuild b3 c u
  can_build =
      let z = size in let l = longer in let i = inside in let k = below in
      let P : List ℕ → Type 0 = λ ss. All (λ q. q < length b3.drafts) ss in
      record {
        closed = ap (λ (b : Assembly). b.is_open) settings;
        anchored_there = omega arith;
        unanchored_there = omega arith;
        starts_there = subst P (sym starts_are) (All-weaker (λ q. q < length b2.drafts) (λ q. q < length b3.drafts)
            (λ q m. omega arith) patterns.0 has.starts_there);
        named = each_part (λ draft. All (λ q. q < length b3.drafts) (names_of draft)) b3.drafts named_at;
        known = each_part (λ draft. is_known b3.groups draft ≡ true) b3.drafts known_at;
        no_loop = no_loop;
      }

  accepted : AcceptAll (reverse_of o) (draft_at b3.drafts) 0 b3.starts xs
  accepted =
      let P : Bool → Type 0 = λ back. AcceptAll back (draft_at b3.drafts) (length b1.starts) patterns.0 xs in
      let Q : List ℕ → Type 0 = λ ss. AcceptAll (reverse_of o) (draft_at b3.drafts) (length ss) patterns.0 xs in
      let R : List ℕ → Type 0 = λ ss. AcceptAll (reverse_of o) (draft_at b3.drafts) 0 ss xs in
      let turn : b1.reverse ≡ reverse_of o = ap (λ (z : Assembly). z.reverse) before.settings ∙ ap (λ (z : Assembly). z.reverse) begun in
      subst R (sym starts_are) (subst Q starts_0 (subst P turn (has.accept (draft_at b3.drafts) holding)))

  free : IsIndependent (reverse_of o) (length b1.drafts) 0 b3.drafts c b3.starts xs
  free =
      let f = patterns.5 in
      let z = size in
      let turn : b1.reverse ≡ reverse_of o = ap (λ (z : Assembly). z.reverse) before.settings ∙ ap (λ (z : Assembly). z.reverse) begun in
      let H : List ℕ → Type 0 = λ ss. (f.hole ≡ c) ⊎ (ss ≡ c ∷ []) in
      record {
        hole = f.hole;
        hole_is = subst H (sym starts_are) f.hole_is;
        accept = λ table hold.
            let P : Bool → Type 0 = λ back. AcceptAll back table (length b1.starts) patterns.0 xs in
            let Q : List ℕ → Type 0 = λ ss. AcceptAll (reverse_of o) table (length ss) patterns.0 xs in
            let R : List ℕ → Type 0 = λ ss. AcceptAll (reverse_of o) table 0 ss xs in
            subst R (sym starts_are) (subst Q starts_0
            (subst P turn (f.accept table (λ q l h ne. hold q l (omega arith) ne ∙ later_same q l))));
      }

  match_late : (q p : ℕ) → draft_at b3.drafts q ≡ match_draft p → length b1.drafts ≤ q
  match_late q p is =
      ⊎_elim (λ (low : q < length b1.drafts). absurd
      (no_match_is (draft_at b3.drafts q) p (unmatched true (draft_at b3.drafts q) (before.tame q low).not_barred) is))
      (λ (high : length b1.drafts ≤ q). high) (cases_lt q (length b1.drafts))

  one_match : (q r p : ℕ) → draft_at b3.drafts q ≡ match_draft p → draft_at b3.drafts r ≡ match_draft p → q ≡ r
  one_match q r p f g =
      let z = size in
      let i = match_inside b3.drafts q p f in let j = match_inside b3.drafts r p g in
      let k = match_late q p f in let l = match_late r p g in
      has.one_match q r p k (omega arith) (λ e. omega arith) l (omega arith) (λ e. omega arith) (sym (later_same q k)
      ∙ f) (sym (later_same r l) ∙ g)

  few : length b3.drafts ≤ list_room (is_shrunk o) xs
  few = let a = has.last (let b = before.few in omega arith) in omega (arith, size, has.states, before.few, a, list_fits (is_shrunk o) xs)

  small : sum_of_bytes b3 ≤ 4096 * list_room (is_shrunk o) xs
  small = let a = few in omega (arith, a, size, led.bytes, has.bytes, before.bytes)

  counted : sum_of_bytes b3 ≤ 4096 * (greatest_index + 1)
  counted = let a = has.last (let b = before.few in omega arith) in omega (arith, size, led.bytes, has.bytes, before.bytes, a)

  -- what comes before the patterns has no looks
  no_look_before : (l : Look) (q : ℕ) → q < length b1.drafts → is_look l (draft_at b1.drafts q) ≡ false
  no_look_before l q low = ⊎_elim
      (λ (same : q ≡ u). ap (λ (k : ℕ). is_look l (draft_at b1.drafts k)) same ∙ sym (look_patched l c (draft_at b1.drafts u))
      ∙ ap (is_look l) (sym led_on)
      ∙ plain_look l (draft_at b3.drafts u) (before.tame u below).not_barred)
      (λ (ne : q ≡ u → ⊥). ap (is_look l) (sym (old_same q low ne)) ∙ plain_look l (draft_at b3.drafts q) (before.tame q low).not_barred)
      (cases_eq q u)

  looks_all : (l : Look) → looks_in b3.drafts l ≡ any_uses (reverse_of o) xs l
  looks_all l =
      let turn : b1.reverse ≡ reverse_of o = ap (λ (z : Assembly). z.reverse) before.settings ∙ ap (λ (z : Assembly). z.reverse) begun in
      quiet_led led l ∙ has.looks l
      ∙ ap (λ (k : Bool). k || any_uses b1.reverse xs l)
      (any_more (is_look l) [] b1.drafts (omega arith) (λ q h. absurd (omega arith)) (λ q h k. no_look_before l q k))
      ∙ ap (λ (r : Bool). any_uses r xs l) turn

  pub all_assembled : IsAssembled o xs b3 c u
  all_assembled =
      let P : List ℕ → Type 0 = λ ss. LeadsToAll (draft_at b3.drafts) c ss in
      record {
        utf8 = ap (λ (b : Assembly). b.utf8) settings;
        reverse = ap (λ (b : Assembly). b.reverse) settings;
        terminator = ap (λ (b : Assembly). b.terminator) settings;
        size_limit = ap (λ (b : Assembly). b.size_limit) settings;
        captures = captures;
        can_build = can_build;
        accept = accepted;
        leads = subst P (sym starts_are) (leads_same (draft_at b2.drafts) (draft_at b3.drafts) c patterns.0
            (sym (later_same c above)) patterns.2);
        before = before.before;
        low = length b1.drafts;
        below = below;
        above = above;
        free = free;
        one_match = one_match;
        groups = groups_are;
        looks = looks_all;
        states = few;
        bytes = small;
        counted = counted;
      }

  -- the state past the anchored start is one of the patterns' states
  pub starts_apart : past b3.drafts c ≢ u
  starts_apart same =
      let s = standing c above inside in
      let list = past_in_list b3.drafts s.0 c in
      let stands : stands_for (draft_at b3.drafts (past_within b3.drafts s.0 c)) ≡ None =
      ap (λ (k : ℕ). stands_for (draft_at b3.drafts k)) (sym list) ∙ s.1 in
      let found = past_found b3.drafts no_loop s.0 c stands in
      let high = s.2 in let low = below in
      absurd (omega arith)

pub start_below : (anchored : Bool) (b0 b1 : Assembly) (u : ℕ) → HasStart anchored b0 b1 u → u < length b1.drafts
start_below true b0 b1 u x = let is = x.is in let size = x.size in omega arith
start_below false b0 b1 u x = let is = x.is in let size = x.size in omega arith

-- the lemmas above, from what each call ensures
module _ (o : Options) (xs : List Tree) (b0 b1 b2 b3 : Assembly) (u c : ℕ) (anchored reverse : Bool) (how : How) (begun : b0 ≡ begun_with o)
    (captures : (reverse_of o && is_any (captures_of o)) ≡ false) (turned : reverse ≡ reverse_of o) (kept : how.which ≡ captures_of o)
    (shrunk : how.shrink ≡ is_shrunk o) (is_anchored : anchored ≡ list_all (is_anchored_tree reverse) xs)
    (start : HasStart anchored b0 b1 u) (patterns : LeadsToPatterns how.which b1 b2 c xs (room_for how.shrink xs + 1))
    (led : Led b2 b3 u c) where
  kept_patterns : LeadsToPatterns (captures_of o) b1 b2 c xs (room_for (is_shrunk o) xs + 1)
  kept_patterns =
      let P : WhichCaptures → Type 0 = λ w. LeadsToPatterns w b1 b2 c xs (room_for (is_shrunk o) xs + 1) in
      let Q : Bool → Type 0 = λ shrink. LeadsToPatterns how.which b1 b2 c xs (room_for shrink xs + 1) in
      subst P kept (subst Q shrunk patterns)

  pub compiled_assembled : IsAssembled o xs b3 c u
  compiled_assembled = all_assembled o xs b0 b1 b2 b3 u c begun captures anchored (is_anchored
      ∙ ap (λ (r : Bool). list_all (is_anchored_tree r) xs) turned) start (start_below anchored b0 b1 u start) kept_patterns led

  pub compiled_apart : past b3.drafts c ≢ u
  compiled_apart = starts_apart o xs b0 b1 b2 b3 u c begun captures anchored (is_anchored
      ∙ ap (λ (r : Bool). list_all (is_anchored_tree r) xs) turned) start (start_below anchored b0 b1 u start) kept_patterns led
