-- Patterns one after the other, with the state that is led to their starts.
use Rattle.std.proofs.Common.{◌≡◌, ◌≢◌, ℕ, suc, ◌+◌, ◌<◌, ◌≤◌, Bool, true, List, [], ◌∷◌, ◌++◌, length, None, refl, sym, ap, ◌∙◌, subst}
use Rattle.std.proofs.Common.{arith, ⊎_elim, length-append, append-nil, ◌||◌, ap₂, false}
use Rattle.std.specs.Prelude.{All}
use Rattle.std.proofs.lemmas.Bool.{cases_lt, cases_eq}
use Rattle.std.proofs.lemmas.List.{append_assoc}
use Rattle.std.proofs.lemmas.List.Elements.{All-weaker, All-nil, All-append}
use Rattle.std.proofs.Math.Bool.{or-false}
use Rattle.search_types.specs.Groups.{Groups}
use Rattle.hir_core.specs.Tree.{Tree, capture}
use Rattle.nfa_core.specs.BuilderStates.{DraftNode, Assembly, match_draft, draft_at, draft_bytes}
use Rattle.nfa_core.specs.CanBuild.{names_of, is_known}
use Rattle.nfa_core.specs.Renaming.{stands_for}
use Rattle.nfa_core.specs.Drafted.{Table}
use Rattle.thompson_nfa.specs.Added.{AddsDraft, Led}
use Rattle.thompson_nfa.specs.Assembled.{AcceptAll}
use Rattle.thompson_nfa.specs.Compiled.{IsTame}
use Rattle.thompson_nfa.specs.NotedGroups.{with_groups_of, noted_from}
use Rattle.thompson_nfa.specs.Patterns.{Holds, ComesToKept, HasPatterns, HasAll, room_for}
use Rattle.thompson_nfa.specs.declared.which_captures.WhichCaptures.{WhichCaptures}
use Rattle.look_core.specs.declared.look.Look.{Look}
use Rattle.thompson_nfa.specs.Compiled.{is_look, looks_in, uses, any_uses}
use Rattle.thompson_nfa.proofs.Steps.LookLemmas.{quiet_led, quiet_added, or_grouped}
use Rattle.thompson_nfa.proofs.Steps.GrowLemmas.{unmatched}
use Rattle.thompson_nfa.proofs.WholePatterns.PatternLemmas.{no_match_is}

-- ---- lists of patterns, one after the other

noted_joined : (which : WhichCaptures) (p : ℕ) (xs ys : List Tree) (groups : Groups) →
    noted_from which p (xs ++ ys) groups ≡ noted_from which (p + length xs) ys (noted_from which p xs groups)
noted_joined which p [] ys groups = ap (λ (k : ℕ). noted_from which k ys groups) (omega arith)
noted_joined which p (x ∷ xs) ys groups =
    let e : suc p + length xs ≡ p + suc (length xs) = omega arith in
    noted_joined which (suc p) xs ys (with_groups_of which p (capture 0 None x) groups)
    ∙ ap (λ (k : ℕ). noted_from which k ys (noted_from which (suc p) xs (with_groups_of which p (capture 0 None x) groups))) e

accept_joined : (reverse : Bool) (table : Table) (p : ℕ) (ss ts : List ℕ) (xs ys : List Tree) → AcceptAll reverse table p ss xs →
    AcceptAll reverse table (p + length ss) ts ys →
    AcceptAll reverse table p (ss ++ ts) (xs ++ ys)
accept_joined reverse table p [] ts [] ys a b = let P : ℕ → Type 0 = λ k. AcceptAll reverse table k ts ys in let e : p + 0 ≡ p =
    omega arith in subst P e b
accept_joined reverse table p [] ts (x ∷ xs) ys a b = absurd a
accept_joined reverse table p (s ∷ ss) ts [] ys a b = absurd a
accept_joined reverse table p (s ∷ ss) ts (x ∷ xs) ys a b =
    let P : ℕ → Type 0 = λ k. AcceptAll reverse table k ts ys in
    let e : p + suc (length ss) ≡ suc p + length ss = omega arith in
    (a.0, accept_joined reverse table (suc p) ss ts xs ys a.1 (subst P e b))

pub room_joined : (shrink : Bool) (xs ys : List Tree) → room_for shrink (xs ++ ys) ≡ room_for shrink xs + room_for shrink ys
room_joined shrink [] ys = omega arith
room_joined shrink (x ∷ xs) ys = let e = room_joined shrink xs ys in omega arith

any_joined : (back : Bool) (xs ys : List Tree) (l : Look) → any_uses back (xs ++ ys) l ≡ (any_uses back xs l || any_uses back ys l)
any_joined back [] ys l = refl
any_joined back (x ∷ xs) ys l =
    ap (λ (k : Bool). uses back x l || k) (any_joined back xs ys l)
    ∙ sym (or_grouped (uses back x l) (any_uses back xs l) (any_uses back ys l))

-- ---- none, and one more state

pub patterns_none : (which : WhichCaptures) (hole : ℕ) (b : Assembly) → HasPatterns which hole b b [] [] 0 0
patterns_none which hole b = record {
  settings = refl;
  starts_are = sym (append-nil b.starts);
  as_many = refl;
  groups = refl;
  known_more = λ draft k. k;
  longer = omega arith;
  same = λ q l ne. refl;
  starts_new = All-nil (λ s. length b.drafts ≤ s);
  starts_there = All-nil (λ s. s < length b.drafts);
  accept = λ table hold. tt;
  stands = λ table hold q low high ne. absurd (omega arith);
  named = λ q low high ne. absurd (omega arith);
  known = λ q low high ne. absurd (omega arith);
  numbered = λ q p low high ne found. absurd (omega arith);
  one_match = λ q r p low high ne l h n f g. absurd (omega arith);
  looks = λ l. sym (or-false (looks_in b.drafts l));
  states = omega arith;
  bytes = omega arith;
  last = λ le. le;
}

-- the hole is moved to a number that no new state has
pub hole_moved : (which : WhichCaptures) (a b : Assembly) (ss : List ℕ) (xs : List Tree) (n spare hole : ℕ) →
    ((q : ℕ) → length a.drafts ≤ q → q < length b.drafts → q ≢ hole) → HasAll which a b ss xs n spare →
    HasPatterns which hole a b ss xs n spare
hole_moved which a b ss xs n spare hole out h =
    let longer = h.longer in
    let there : (table : Table) → Holds hole (length a.drafts) b.drafts table → Holds (length b.drafts) (length a.drafts) b.drafts table =
    λ table hold q low high ne. hold q low high (out q low high) in
    record {
      settings = h.settings;
      starts_are = h.starts_are;
      as_many = h.as_many;
      groups = h.groups;
      known_more = h.known_more;
      longer = h.longer;
      same = λ q l ne. h.same q l (λ e. omega arith);
      starts_new = h.starts_new;
      starts_there = h.starts_there;
      accept = λ table hold. h.accept table (there table hold);
      stands = λ table hold q low high ne. h.stands table (there table hold) q low high (λ e. omega arith);
      named = λ q low high ne. h.named q low high (λ e. omega arith);
      known = λ q low high ne. h.known q low high (λ e. omega arith);
      numbered = λ q p low high ne. h.numbered q p low high (λ e. omega arith);
      one_match = λ q r p l1 h1 n1 l2 h2 n2. h.one_match q r p l1 h1 (λ e. omega arith) l2 h2 (λ e. omega arith);
      states = h.states;
      bytes = h.bytes;
      looks = h.looks;
      last = h.last;
    }

-- a state is added, and becomes the hole
pub patterns_added : (which : WhichCaptures) (a b c : Assembly) (ss : List ℕ) (xs : List Tree) (n spare more id : ℕ) (draft : DraftNode) →
    HasAll which a b ss xs n spare → AddsDraft b c id draft b.groups →
    more + draft_bytes draft ≤ spare + 4096 → ((l : Look) → is_look l draft ≡ false) → HasPatterns which id a c ss xs (n + 1) more
patterns_added which a b c ss xs n spare more id draft h x le no_look =
    let longer = h.longer in let is = x.is in let size = x.size in
    let there : (table : Table) → Holds id (length a.drafts) c.drafts table → Holds (length b.drafts) (length a.drafts) b.drafts table =
    λ table hold q low high ne. hold q low (omega arith) (λ e. omega arith) ∙ x.grows.same q high in
    let starts : c.starts ≡ b.starts = ap (λ (z : Assembly). z.starts) x.grows.settings in
    let P : DraftNode → Type 0 = λ one. All (λ r. r < length c.drafts) (names_of one) in
    let below : (q : ℕ) → q < length c.drafts → q ≢ id → q < length b.drafts = λ q high ne. ⊎_elim (λ (l : q < length b.drafts). l)
    (λ (l : length b.drafts ≤ q). let same : q ≡ id = omega arith in absurd (ne same)) (cases_lt q (length b.drafts)) in
    record {
      settings = x.grows.settings ∙ ap (λ (z : Assembly). record z { drafts = c.drafts; groups = c.groups }) h.settings
          ∙ ap (λ (v : List ℕ). record a { drafts = c.drafts; groups = c.groups; starts = v }) (sym starts);
      starts_are = starts ∙ h.starts_are;
      as_many = h.as_many;
      groups = x.groups_are ∙ h.groups;
      known_more = λ draft k. x.grows.known draft (h.known_more draft k);
      longer = omega arith;
      same = λ q l ne. x.grows.same q (omega arith) ∙ h.same q l (λ e. omega arith);
      starts_new = h.starts_new;
      starts_there = All-weaker (λ s. s < length b.drafts) (λ s. s < length c.drafts) (λ s l. omega arith) ss h.starts_there;
      accept = λ table hold. h.accept table (there table hold);
      stands = λ table hold q low high ne. h.stands table (there table hold) q low (below q high ne) (λ e. let l = below q high ne in
          omega arith);
      named = λ q low high ne. let l = below q high ne in subst P (sym (x.grows.same q l))
          (All-weaker (λ r. r < length b.drafts) (λ r. r < length c.drafts) (λ r l. omega arith) (names_of (draft_at b.drafts q))
          (h.named q low l (λ e. omega arith)));
      known = λ q low high ne. let l = below q high ne in ap (is_known c.groups) (x.grows.same q l)
          ∙ x.grows.known (draft_at b.drafts q) (h.known q low l (λ e. omega arith));
      numbered = λ q p low high ne found. let l = below q high ne in let k =
          h.numbered q p low l (λ e. omega arith) (sym (x.grows.same q l) ∙ found) in
          (k.0, let m = k.1 in let len : length c.starts ≡ length b.starts = ap length starts in omega arith);
      one_match = λ q r p l1 h1 n1 l2 h2 n2 f1 f2. let i = below q h1 n1 in let j = below r h2 n2 in
          h.one_match q r p l1 i (λ e. omega arith) l2 j (λ e. omega arith) (sym (x.grows.same q i) ∙ f1) (sym (x.grows.same r j) ∙ f2);
      states = omega (arith, h.states, size);
      bytes = omega (arith, h.bytes, x.bytes, size, le);
      looks = λ l. quiet_added x no_look l ∙ h.looks l;
      last = λ l. x.numbered;
    }

-- the hole is led on
pub patterns_led : (which : WhichCaptures) (a b c : Assembly) (ss : List ℕ) (xs : List Tree) (n spare more hole to : ℕ) →
    HasPatterns which hole a b ss xs n spare → Led b c hole to →
    more + 4 ≤ spare → HasPatterns which hole a c ss xs n more
patterns_led which a b c ss xs n spare more hole to h x le =
    let size = x.size in
    let there : (table : Table) → Holds hole (length a.drafts) c.drafts table → Holds hole (length a.drafts) b.drafts table =
    λ table hold q low high ne. hold q low (omega arith) ne ∙ x.same q ne in
    let starts : c.starts ≡ b.starts = ap (λ (z : Assembly). z.starts) x.settings in
    let groups : c.groups ≡ b.groups = ap (λ (z : Assembly). z.groups) x.settings in
    let P : DraftNode → Type 0 = λ one. All (λ r. r < length c.drafts) (names_of one) in
    record {
      settings = x.settings ∙ ap (λ (z : Assembly). record z { drafts = c.drafts }) h.settings
          ∙ ap (λ (v : List ℕ). record a { drafts = c.drafts; groups = b.groups; starts = v }) (sym starts)
          ∙ ap (λ (v : Groups). record a { drafts = c.drafts; groups = v; starts = c.starts }) (sym groups);
      starts_are = starts ∙ h.starts_are;
      as_many = h.as_many;
      groups = groups ∙ h.groups;
      known_more = λ draft k. ap (λ gs. is_known gs draft) groups ∙ h.known_more draft k;
      longer = omega (arith, h.longer, size);
      same = λ q l ne. x.same q ne ∙ h.same q l ne;
      starts_new = h.starts_new;
      starts_there = All-weaker (λ s. s < length b.drafts) (λ s. s < length c.drafts) (λ s l. omega arith) ss h.starts_there;
      accept = λ table hold. h.accept table (there table hold);
      stands = λ table hold q low high ne. h.stands table (there table hold) q low (omega arith) ne;
      named = λ q low high ne. subst P (sym (x.same q ne))
          (All-weaker (λ r. r < length b.drafts) (λ r. r < length c.drafts) (λ r l. omega arith) (names_of (draft_at b.drafts q))
          (h.named q low (omega arith) ne));
      known = λ q low high ne. ap (is_known c.groups) (x.same q ne) ∙ ap (λ gs. is_known gs (draft_at b.drafts q)) groups
          ∙ h.known q low (omega arith) ne;
      numbered = λ q p low high ne found. let k = h.numbered q p low (omega arith) ne (sym (x.same q ne) ∙ found) in
          (k.0, let m = k.1 in let len : length c.starts ≡ length b.starts = ap length starts in omega arith);
      one_match = λ q r p l1 h1 n1 l2 h2 n2 f1 f2. h.one_match q r p l1 (omega arith) n1 l2 (omega arith) n2 (sym (x.same q n1)
          ∙ f1) (sym (x.same r n2) ∙ f2);
      states = omega (arith, h.states, size);
      bytes = omega (arith, h.bytes, x.bytes, size, le);
      looks = λ l. quiet_led x l ∙ h.looks l;
      last = λ l. let k = h.last l in omega arith;
    }

-- the hole is a state like the others
pub hole_closed : (which : WhichCaptures) (a b : Assembly) (ss : List ℕ) (xs : List Tree) (n spare hole : ℕ) →
    HasPatterns which hole a b ss xs n spare → length a.drafts ≤ hole →
    ((table : Table) → table hole ≡ draft_at b.drafts hole → stands_for (table hole) ≡ None) → IsTame true b (draft_at b.drafts hole) →
    HasAll which a b ss xs n spare
hole_closed which a b ss xs n spare hole h above none tame =
    let there : (table : Table) → Holds (length b.drafts) (length a.drafts) b.drafts table → Holds hole (length a.drafts) b.drafts table =
    λ table hold q low high ne. hold q low high (λ e. omega arith) in
    let other : (q p : ℕ) → draft_at b.drafts q ≡ match_draft p → q ≢ hole =
    λ q p found e. no_match_is (draft_at b.drafts hole) p (unmatched true (draft_at b.drafts hole) tame.not_barred)
    (ap (draft_at b.drafts) (sym e) ∙ found) in
    let N : ℕ → Type 0 = λ q. All (λ r. r < length b.drafts) (names_of (draft_at b.drafts q)) in
    record {
      settings = h.settings;
      starts_are = h.starts_are;
      as_many = h.as_many;
      groups = h.groups;
      known_more = h.known_more;
      longer = h.longer;
      same = λ q l ne. h.same q l (λ e. omega arith);
      starts_new = h.starts_new;
      starts_there = h.starts_there;
      accept = λ table hold. h.accept table (there table hold);
      stands = λ table hold q low high ne. ⊎_elim
          (λ (e : q ≡ hole). let is : table q ≡ draft_at b.drafts q = hold q low high ne in
          (0, ap (λ k. stands_for (table k)) e ∙ none table (ap table (sym e) ∙ is ∙ ap (draft_at b.drafts) e), omega arith))
          (λ (other : q ≡ hole → ⊥). h.stands table (there table hold) q low high other)
          (cases_eq q hole);
      named = λ q low high ne. ⊎_elim (λ (e : q ≡ hole). subst N (sym e) tame.named) (λ (other : q ≡ hole → ⊥). h.named q low high other)
          (cases_eq q hole);
      known = λ q low high ne. ⊎_elim (λ (e : q ≡ hole). ap (λ k. is_known b.groups (draft_at b.drafts k)) e
          ∙ tame.known) (λ (other : q ≡ hole → ⊥). h.known q low high other) (cases_eq q hole);
      numbered = λ q p low high ne found. h.numbered q p low high (other q p found) found;
      one_match = λ q r p l1 h1 n1 l2 h2 n2 f1 f2. h.one_match q r p l1 h1 (other q p f1) l2 h2 (other r p f2) f1 f2;
      states = h.states;
      bytes = h.bytes;
      looks = h.looks;
      last = h.last;
    }

-- ---- one list of patterns after another

module _ (which : WhichCaptures) (hole : ℕ) (a b c : Assembly) (ss ts : List ℕ) (xs ys : List Tree) (n m s1 s2 : ℕ)
    (first : HasPatterns which hole a b ss xs n s1) (second : HasPatterns which hole b c ts ys m s2) where
  starts_between : length b.starts ≡ length a.starts + length ss
  starts_between = ap length first.starts_are ∙ length-append a.starts ss

  starts_behind : length c.starts ≡ length b.starts + length ts
  starts_behind = ap length second.starts_are ∙ length-append b.starts ts

  groups_joined : c.groups ≡ noted_from which (length a.starts) (xs ++ ys) a.groups
  groups_joined =
      let as_many = first.as_many in let between = starts_between in
      let len : length b.starts ≡ length a.starts + length xs = omega arith in
      second.groups ∙ ap (λ (k : ℕ). noted_from which k ys b.groups) len
      ∙ ap (λ (gs : Groups). noted_from which (length a.starts + length xs) ys gs) first.groups
      ∙ sym (noted_joined which (length a.starts) xs ys a.groups)

  holds_first : (table : Table) → Holds hole (length a.drafts) c.drafts table → Holds hole (length a.drafts) b.drafts table
  holds_first table hold q low high ne = let l = second.longer in hold q low (omega arith) ne ∙ second.same q high ne

  holds_second : (table : Table) → Holds hole (length a.drafts) c.drafts table → Holds hole (length b.drafts) c.drafts table
  holds_second table hold q low high ne = let l = first.longer in hold q (omega arith) high ne

  accepts_both : (table : Table) → Holds hole (length a.drafts) c.drafts table →
      AcceptAll a.reverse table (length a.starts) (ss ++ ts) (xs ++ ys)
  accepts_both table hold =
      let P : Bool → Type 0 = λ back. AcceptAll back table (length b.starts) ts ys in
      let Q : ℕ → Type 0 = λ k. AcceptAll a.reverse table k ts ys in
      let turn : b.reverse ≡ a.reverse = ap (λ (z : Assembly). z.reverse) first.settings in
      accept_joined a.reverse table (length a.starts) ss ts xs ys (first.accept table (holds_first table hold))
      (subst Q starts_between (subst P turn (second.accept table (holds_second table hold))))

  stands_both : (table : Table) → Holds hole (length a.drafts) c.drafts table → (q : ℕ) → length a.drafts ≤ q → q < length c.drafts →
      q ≢ hole → ComesToKept (length a.drafts) table q
  stands_both table hold q low high ne =
      let longer = first.longer in
      ⊎_elim (λ (l : q < length b.drafts). first.stands table (holds_first table hold) q low l ne)
      (λ (l : length b.drafts ≤ q). let s = second.stands table (holds_second table hold) q l high ne in
      (s.0, s.1, let k = s.2 in omega arith))
      (cases_lt q (length b.drafts))

  names_both : (q : ℕ) → length a.drafts ≤ q → q < length c.drafts → q ≢ hole →
      All (λ r. r < length c.drafts) (names_of (draft_at c.drafts q))
  names_both q low high ne =
      let longer = second.longer in
      let P : DraftNode → Type 0 = λ one. All (λ r. r < length c.drafts) (names_of one) in
      ⊎_elim (λ (l : q < length b.drafts). subst P (sym (second.same q l ne))
      (All-weaker (λ r. r < length b.drafts) (λ r. r < length c.drafts) (λ r k. omega arith) (names_of (draft_at b.drafts q))
      (first.named q low l ne)))
      (λ (l : length b.drafts ≤ q). second.named q l high ne)
      (cases_lt q (length b.drafts))

  known_both : (q : ℕ) → length a.drafts ≤ q → q < length c.drafts → q ≢ hole → is_known c.groups (draft_at c.drafts q) ≡ true
  known_both q low high ne = ⊎_elim
      (λ (l : q < length b.drafts). ap (is_known c.groups) (second.same q l ne)
      ∙ second.known_more (draft_at b.drafts q) (first.known q low l ne))
      (λ (l : length b.drafts ≤ q). second.known q l high ne)
      (cases_lt q (length b.drafts))

  number_first : (q p : ℕ) → length a.drafts ≤ q → q < length b.drafts → q ≢ hole → draft_at c.drafts q ≡ match_draft p →
      (length a.starts ≤ p) × (p < length b.starts)
  number_first q p low high ne found = first.numbered q p low high ne (sym (second.same q high ne) ∙ found)

  numbered_both : (q p : ℕ) → length a.drafts ≤ q → q < length c.drafts → q ≢ hole → draft_at c.drafts q ≡ match_draft p →
      (length a.starts ≤ p) × (p < length c.starts)
  numbered_both q p low high ne found =
      let between = starts_between in let behind = starts_behind in
      ⊎_elim (λ (l : q < length b.drafts). let k = number_first q p low l ne found in (k.0, let j = k.1 in omega arith))
      (λ (l : length b.drafts ≤ q). let k = second.numbered q p l high ne found in (let j = k.0 in omega arith, k.1))
      (cases_lt q (length b.drafts))

  matches_once : (q r p : ℕ) → length a.drafts ≤ q → q < length c.drafts → q ≢ hole → length a.drafts ≤ r → r < length c.drafts → r ≢ hole →
      draft_at c.drafts q ≡ match_draft p → draft_at c.drafts r ≡ match_draft p → q ≡ r
  matches_once q r p l1 h1 n1 l2 h2 n2 f1 f2 = ⊎_elim
      (λ (l : q < length b.drafts). ⊎_elim
      (λ (k : r < length b.drafts). first.one_match q r p l1 l n1 l2 k n2 (sym (second.same q l n1) ∙ f1) (sym (second.same r k n2) ∙ f2))
      (λ (k : length b.drafts ≤ r). let i = (number_first q p l1 l n1 f1).1 in let j = (second.numbered r p k h2 n2 f2).0 in
      absurd (omega arith))
      (cases_lt r (length b.drafts)))
      (λ (l : length b.drafts ≤ q). ⊎_elim
      (λ (k : r < length b.drafts). let i = (number_first r p l2 k n2 f2).1 in let j = (second.numbered q p l h1 n1 f1).0 in
      absurd (omega arith))
      (λ (k : length b.drafts ≤ r). second.one_match q r p l h1 n1 k h2 n2 f1 f2)
      (cases_lt r (length b.drafts)))
      (cases_lt q (length b.drafts))

  looks_both : (l : Look) → looks_in c.drafts l ≡ (looks_in a.drafts l || any_uses a.reverse (xs ++ ys) l)
  looks_both l =
      let turn : b.reverse ≡ a.reverse = ap (λ (z : Assembly). z.reverse) first.settings in
      second.looks l ∙ ap₂ (λ (p q : Bool). p || q) (first.looks l) (ap (λ (r : Bool). any_uses r ys l) turn)
      ∙ or_grouped (looks_in a.drafts l) (any_uses a.reverse xs l) (any_uses a.reverse ys l)
      ∙ ap (λ (k : Bool). looks_in a.drafts l || k) (sym (any_joined a.reverse xs ys l))

  pub patterns_joined : HasPatterns which hole a c (ss ++ ts) (xs ++ ys) (n + m) (s1 + s2)
  patterns_joined =
      let longer = first.longer in let longer_2 = second.longer in
      record {
        settings = second.settings ∙ ap (λ (z : Assembly). record z {
          drafts = c.drafts;
          groups = c.groups;
          starts = c.starts;
        }) first.settings;
        starts_are = second.starts_are ∙ ap (λ (v : List ℕ). v ++ ts) first.starts_are ∙ append_assoc a.starts ss ts;
        as_many = omega (arith, length-append ss ts, length-append xs ys, first.as_many, second.as_many);
        groups = groups_joined;
        known_more = λ draft k. second.known_more draft (first.known_more draft k);
        longer = omega arith;
        same = λ q l ne. second.same q (omega arith) ne ∙ first.same q l ne;
        starts_new = All-append (λ s. length a.drafts ≤ s) ss ts first.starts_new
            (All-weaker (λ s. length b.drafts ≤ s) (λ s. length a.drafts ≤ s) (λ s l. omega arith) ts second.starts_new);
        starts_there = All-append (λ s. s < length c.drafts) ss ts (All-weaker (λ s. s < length b.drafts) (λ s. s < length c.drafts)
            (λ s l. omega arith) ss first.starts_there) second.starts_there;
        accept = accepts_both;
        stands = stands_both;
        named = names_both;
        known = known_both;
        numbered = numbered_both;
        one_match = matches_once;
        states = omega (arith, first.states, second.states);
        bytes = omega (arith, first.bytes, second.bytes);
        looks = looks_both;
        last = λ le. second.last (first.last le);
      }
