-- What shared suffixes do: branches of a choice whose states are kept for later branches.
use Rattle.std.proofs.Common.{◌≡◌, ◌≢◌, ◌⊎◌, inl, inr, ℕ, zero, suc, ◌+◌, ◌*◌, ◌<◌, ◌≤◌, Bool, true, false, List, [], ◌∷◌, ◌++◌, length}
use Rattle.std.proofs.Common.{map, get_or, set, replicate, Option, Some, None, refl, sym, ap, ◌∙◌, subst, arith, ⊎_elim, append_assoc}
use Rattle.std.proofs.Common.{append-nil, length-append, ◌||◌}
use Rattle.std.proofs.lemmas.Bool.{cases_lt}
use Rattle.std.proofs.lemmas.List.{map-append}
use Rattle.std.proofs.Math.Bool.{or-false}
use Rattle.hir_core.specs.BySequences.{range_tree, sequence_tree}
use Rattle.look_core.specs.declared.look.Look.{Look}
use Rattle.hir_core.specs.Tree.{Tree, concat, alternation}
use Rattle.nfa_core.specs.BuilderStates.{Assembly, draft_at, patched, range_draft}
use Rattle.nfa_core.specs.Drafted.{Table}
use Rattle.nfa_core.specs.Renaming.{stands_for}
use Rattle.thompson_nfa.specs.Added.{AddsDraft, Led}
use Rattle.thompson_nfa.specs.Denotes.{Denotes}
use Rattle.thompson_nfa.specs.SharedSuffixes.{key_of, AddsRange, SharesRange, finds_state, adds_state, SharesRanges, shares_none}
use Rattle.thompson_nfa.specs.SharedSuffixes.{shares_more, AddsSequence, AddsSequences, sequences_none, sequences_more}
use Rattle.thompson_nfa.specs.SlotTables.{SlotTable, held_at, empty_table, with_held}
use Rattle.thompson_nfa.specs.declared.class_fragments.utf8_suffix_map.Utf8SuffixKey.{Utf8SuffixKey}
use Rattle.thompson_nfa.specs.Compiled.{looks_in, uses}
use Rattle.thompson_nfa.proofs.Steps.LookLemmas.{quiet_led, quiet_added, uses_alternation, uses_sequence}
use Rattle.thompson_nfa.proofs.Walks.AheadLemmas.{joins_last_part, denotes_concat_one}
use Rattle.thompson_nfa.proofs.Fragments.CaseLemmas.{all_denote_push}
use Rattle.thompson_nfa.proofs.Walks.DenoteLemmas.{denotes_join, denotes_nothing_here, denotes_range}
use Rattle.thompson_nfa.proofs.Fragments.DoesCases.{Agrees}
use Rattle.thompson_nfa.proofs.Fragments.LeafLemmas.{tame_one}
use Rattle.thompson_nfa.proofs.Steps.OutLemmas.{out_here}
use Rattle.thompson_nfa.proofs.Steps.ProgressLemmas.{Progress, then_added, then_led}
use Rattle.thompson_nfa.proofs.Classes.ScalarBranches.{Branched, Others, one_more_way}

-- ---- what the map keeps

-- the state reads a byte of the key's range and leads to the key's state
pub record IsKept (low : ℕ) (b : Assembly) (u m : ℕ) (key : Utf8SuffixKey) (id : ℕ) : Type 0 where
  pub new : low ≤ id
  pub there : id < length b.drafts
  pub not_choice : id ≢ u
  pub not_end : id ≢ m
  pub is : draft_at b.drafts id ≡ range_draft key.start key.end key.from

abbrev pub Keeps : ℕ → Assembly → ℕ → ℕ → SlotTable Utf8SuffixKey → Type 0
Keeps low b u m table = (place id : ℕ) (key : Utf8SuffixKey) → held_at table place ≡ Some (key, id) → IsKept low b u m key id

none_held : {A : Type 0} (n i : ℕ) (a : A) → get_or (replicate n None) i None ≡ Some a → ⊥
none_held zero i a e = cc
none_held (suc n) zero a e = cc
none_held (suc n) (suc i) a e = none_held n i a e

pub keeps_none : (low : ℕ) (b : Assembly) (u m capacity : ℕ) → Keeps low b u m (empty_table capacity)
keeps_none low b u m capacity place id key e = absurd (none_held capacity place (key, id) e)

held_cases : {A : Type 0} (xs : List (Option A)) (i j : ℕ) (a b : A) → get_or (set xs i (Some a)) j None ≡ Some b → (a ≡ b) ⊎
    (get_or xs j None ≡ Some b)
held_cases [] i j a b e = inr e
held_cases (x ∷ xs) zero zero a b e = inl (cc)
held_cases (x ∷ xs) zero (suc j) a b e = inr e
held_cases (x ∷ xs) (suc i) zero a b e = inr e
held_cases (x ∷ xs) (suc i) (suc j) a b e = held_cases xs i j a b e

pub keeps_more : {low u m : ℕ} {b : Assembly} (table : SlotTable Utf8SuffixKey) (place id : ℕ) (key : Utf8SuffixKey) →
    Keeps low b u m table → IsKept low b u m key id →
    Keeps low b u m (with_held table place key id)
keeps_more {low} {u} {m} {b} table place id key keeps one at other k e =
    let P : Utf8SuffixKey × ℕ → Type 0 = λ p. IsKept low b u m p.0 p.1 in
    ⊎_elim (λ (same : (key, id) ≡ (k, other)). subst P same one) (λ h. keeps at other k h) (held_cases table.places place at (key, id) (
      k,
      other,
    ) e)

-- the state is as it was
pub keeps_later : {low u m : ℕ} {b c : Assembly} (table : SlotTable Utf8SuffixKey) → length b.drafts ≤ length c.drafts →
    ((q : ℕ) → q < length b.drafts → q ≢ u → draft_at c.drafts q ≡ draft_at b.drafts q) → Keeps low b u m table → Keeps low c u m table
keeps_later table longer same keeps place id key e =
    let k = keeps place id key e in
    let l = k.there in
    record { new = k.new; there = omega arith; not_choice = k.not_choice; not_end = k.not_end; is = same id l k.not_choice ∙ k.is }

-- ---- a range read in reverse, and then what was read before it

range_then : (back : Bool) (T : Table) (id s m : ℕ) (r : ℕ × ℕ) (rs : List (ℕ × ℕ)) → back ≡ true → T id ≡ range_draft r.0 r.1 s →
    Denotes back T s m (sequence_tree rs) → Denotes back T id m (sequence_tree (rs ++ r ∷ []))
range_then false T id s m r rs e is d = absurd (cc)
range_then true T id s m r rs e is d =
    let x : Tree = range_tree r in
    let P : List Tree → Type 0 = λ xs. Denotes true T id m (concat xs) in
    subst P (sym (map-append range_tree rs (r ∷ [])))
    (denotes_join true T id s m (concat (x ∷ [])) (concat (map range_tree rs)) (concat (map range_tree rs ++ x ∷ []))
    (joins_last_part x (map range_tree rs))
    (denotes_concat_one true T id s x (denotes_range true T id s r.0 r.1 is)) d)

-- ---- a state that is added to branches

module _ (b0 b c : Assembly) (u m n id lo hi q : ℕ) (xs : List Tree) (so_far : Branched b0 b u m n xs)
    (x : AddsDraft b c id (range_draft lo hi q) b.groups) (named : q < length b.drafts) where
  older : (T : Table) → Agrees b0 c u m T → Agrees b0 b u m T
  older T agrees p l h not_u not_m = let s = x.size in agrees p l (omega arith) not_u not_m ∙ x.grows.same p h

  others_added : Others b0 c u m
  others_added T target agrees out p l h not_u =
      let s = x.size in let is = x.is in let mt = so_far.end_there in let g = so_far.progress.partly.grows.longer in
      ⊎_elim (λ (less : p < length b.drafts). so_far.others T target (older T agrees) out p l less not_u)
      (λ (more : length b.drafts ≤ p).
      let same : id ≡ p = omega arith in
      let here : T p ≡ range_draft lo hi q = agrees p l h not_u (λ (e : p ≡ m). omega arith) ∙ ap (λ k. draft_at c.drafts k) (sym same)
      ∙ x.here in
      out_here T target p (ap stands_for here))
      (cases_lt p (length b.drafts))

  pub added_progress : (spare : ℕ) → spare ≤ 4000 → Progress false b0 c (n + 1) spare
  added_progress spare le =
      let s = x.size in
      then_added spare so_far.progress x (tame_one c (range_draft lo hi q) q refl (omega arith) refl refl) (omega arith)

  pub branched_added : Branched b0 c u m (n + 1) xs
  branched_added =
      let s = x.size in let ut = so_far.choice_there in let mt = so_far.end_there in
      record {
        ways = so_far.ways;
        progress = added_progress 8 (omega arith);
        choice_new = so_far.choice_new;
        choice_there = omega arith;
        end_new = so_far.end_new;
        end_there = omega arith;
        apart = so_far.apart;
        is_choice = x.grows.same u ut ∙ so_far.is_choice;
        is_end = x.grows.same m mt ∙ so_far.is_end;
        branches = record { all = λ T agrees. so_far.branches.all T (older T agrees) };
        looks = λ l. quiet_added x (λ k. refl) l ∙ so_far.looks l;
        others = others_added;
        one_way = λ k e. let o = so_far.one_way k e in let h = o.1 in (o.0, omega arith, o.2);
      }

module _ (b0 b c d : Assembly) (u m n id lo hi q : ℕ) (xs : List Tree) (so_far : Branched b0 b u m n xs)
    (x : AddsDraft b c id (range_draft lo hi q) b.groups) (named : q < length b.drafts) (led : Led c d u id) where
  -- the choice leads to the new state, too
  pub branched_way : (y : Tree) → ((l : Look) → uses b0.reverse y l ≡ false) →
      ((T : Table) → Agrees b0 c u m T → Denotes b0.reverse T id m y) → Branched b0 d u m (n + 1) (xs ++ y ∷ [])
  unfolding branched_added
  branched_way y none denotes =
      let w = branched_added b0 b c u m n id lo hi q xs so_far x named in
      let un = so_far.choice_new in let ut = so_far.choice_there in let s = x.size in let is = x.is in let t = led.size in let ct =
      w.choice_there in let et = w.end_there in
      let g = so_far.progress.partly.grows.longer in
      let old : (T : Table) → Agrees b0 d u m T → Agrees b0 c u m T = λ T agrees p l h not_u not_m. agrees p l (omega arith) not_u not_m
      ∙ led.same p not_u in
      record {
        ways = so_far.ways ++ id ∷ [];
        progress = then_led 8 (added_progress b0 b c u m n id lo hi q xs so_far x named 12 (omega arith)) led un (omega arith)
            (omega arith);
        choice_new = un;
        choice_there = omega arith;
        end_new = so_far.end_new;
        end_there = omega arith;
        apart = so_far.apart;
        is_choice = led.here ∙ ap (patched id) w.is_choice;
        is_end = led.same m (λ (e : m ≡ u). so_far.apart (sym e)) ∙ w.is_end;
        looks = λ l. quiet_led led l ∙ w.looks l
            ∙ ap (λ (k : Bool). looks_in b0.drafts l || k)
            (sym (uses_alternation b0.reverse xs y l ∙ ap (λ (k : Bool). uses b0.reverse (alternation xs) l || k) (none l)
            ∙ or-false (uses b0.reverse (alternation xs) l)));
        branches = record {
          all = λ T agrees. all_denote_push b0.reverse T m id y so_far.ways xs (w.branches.all T (old T agrees))
              (denotes T (old T agrees));
        };
        others = λ T target agrees out p l h not_u. w.others T target (old T agrees) out p l (omega arith) not_u;
        one_way = λ to same. one_more_way so_far.ways id to (length b0.drafts) (length d.drafts) u
            (λ k e. let o = w.one_way k e in let h = o.1 in (o.0, omega arith, o.2)) (omega arith) (omega arith)
            (λ (at_u : id ≡ u). omega arith) same;
      }

branched_wider : {b0 b : Assembly} {u m n : ℕ} {xs : List Tree} (k : ℕ) → n ≤ k → Branched b0 b u m n xs → Branched b0 b u m k xs
branched_wider k le s =
    let p = s.progress in let h = p.states in
    record {
      ways = s.ways;
      progress = record { partly = p.partly; states = omega arith; bytes = p.bytes; numbered = p.numbered };
      choice_new = s.choice_new;
      choice_there = s.choice_there;
      end_new = s.end_new;
      end_there = s.end_there;
      apart = s.apart;
      is_choice = s.is_choice;
      is_end = s.is_end;
      branches = s.branches;
      looks = s.looks;
      others = s.others;
      one_way = s.one_way;
    }

-- ---- the states of a sequence

-- from the state s the ranges are read down to the end
pub record Chained (b0 b : Assembly) (table : SlotTable Utf8SuffixKey) (u m n s : ℕ) (xs : List Tree) (rs : List (ℕ × ℕ)) : Type 0 where
  pub branched : Branched b0 b u m n xs
  pub keeps : Keeps (length b0.drafts) b u m table
  pub there : s < length b.drafts
  pub denotes : (T : Table) → Agrees b0 b u m T → Denotes b0.reverse T s m (sequence_tree rs)

chained_none : (b0 b : Assembly) (table : SlotTable Utf8SuffixKey) (u m n : ℕ) (xs : List Tree) → Branched b0 b u m n xs →
    Keeps (length b0.drafts) b u m table →
    Chained b0 b table u m n m xs []
chained_none b0 b table u m n xs branched keeps = record {
  branched = branched;
  keeps = keeps;
  there = branched.end_there;
  denotes = λ T agrees. denotes_nothing_here b0.reverse T m;
}

module _ (b0 b : Assembly) (table : SlotTable Utf8SuffixKey) (u m n s : ℕ) (xs : List Tree) (rs : List (ℕ × ℕ))
    (is_reverse : b0.reverse ≡ true) (so_far : Chained b0 b table u m n s xs rs) where
  chained_found : (place id : ℕ) (r : ℕ × ℕ) → held_at table place ≡ Some (key_of s r, id) →
      Chained b0 b table u m (n + 1) id xs (rs ++ r ∷ [])
  chained_found place id r at =
      let k = so_far.keeps place id (key_of s r) at in
      record {
        branched = branched_wider (n + 1) (omega arith) so_far.branched;
        keeps = so_far.keeps;
        there = k.there;
        denotes = λ T agrees. range_then b0.reverse T id s m r rs is_reverse (agrees id k.new k.there k.not_choice k.not_end
            ∙ k.is) (so_far.denotes T agrees);
      }

  module _ (c : Assembly) (changed : SlotTable Utf8SuffixKey) (id : ℕ) (r : ℕ × ℕ) (x : AddsRange b c table changed s r id) where
    new_kept : IsKept (length b0.drafts) c u m (key_of s r) id
    new_kept =
        let w = so_far.branched in let g = w.progress.partly.grows.longer in let ut = w.choice_there in let mt = w.end_there in let l =
        x.added.is in let t = x.added.size in
        record {
          new = omega arith;
          there = omega arith;
          not_choice = λ (e : id ≡ u). omega arith;
          not_end = λ (e : id ≡ m). omega arith;
          is = x.added.here;
        }

    pub kept_added : Keeps (length b0.drafts) c u m changed
    kept_added =
        let P : SlotTable Utf8SuffixKey → Type 0 = λ t. Keeps (length b0.drafts) c u m t in
        subst P (sym x.kept) (keeps_more table x.place id (key_of s r)
        (keeps_later table x.added.grows.longer (λ q h not_u. x.added.grows.same q h) so_far.keeps) new_kept)

    pub denotes_added : (T : Table) → Agrees b0 c u m T → Denotes b0.reverse T id m (sequence_tree (rs ++ r ∷ []))
    denotes_added T agrees =
        let k = new_kept in
        range_then b0.reverse T id s m r rs is_reverse (agrees id k.new k.there k.not_choice k.not_end ∙ k.is)
        (so_far.denotes T (older b0 b c u m n id r.0 r.1 s xs so_far.branched x.added so_far.there T agrees))

    chained_added : Chained b0 c changed u m (n + 1) id xs (rs ++ r ∷ [])
    chained_added = record {
      branched = branched_added b0 b c u m n id r.0 r.1 s xs so_far.branched x.added so_far.there;
      keeps = kept_added;
      there = new_kept.there;
      denotes = denotes_added;
    }

chained_more : (b0 b c : Assembly) (table changed : SlotTable Utf8SuffixKey) (u m n s id : ℕ) (xs : List Tree) (rs : List (ℕ × ℕ)) (r : ℕ ×
    ℕ) → b0.reverse ≡ true → Chained b0 b table u m n s xs rs →
    SharesRange b c table changed s r id → Chained b0 c changed u m (n + 1) id xs (rs ++ r ∷ [])
chained_more b0 b c table changed u m n s id xs rs r is_reverse so_far (finds_state place at same kept) =
    let P : Assembly → Type 0 = λ z. Chained b0 z changed u m (n + 1) id xs (rs ++ r ∷ []) in
    let Q : SlotTable Utf8SuffixKey → Type 0 = λ t. Chained b0 b t u m (n + 1) id xs (rs ++ r ∷ []) in
    subst P (sym same) (subst Q (sym kept) (chained_found b0 b table u m n s xs rs is_reverse so_far place id r at))
chained_more b0 b c table changed u m n s id xs rs r is_reverse so_far (adds_state x) =
    chained_added b0 b table u m n s xs rs is_reverse so_far c changed id r x

chained_all : (b0 a : Assembly) (table : SlotTable Utf8SuffixKey) (u m n : ℕ) (xs : List Tree) → b0.reverse ≡ true →
    Branched b0 a u m n xs → Keeps (length b0.drafts) a u m table →
    (b : Assembly) (changed : SlotTable Utf8SuffixKey) (id : ℕ) (rs : List (ℕ × ℕ)) → SharesRanges m a table b changed id rs →
    Chained b0 b changed u m (n + length rs) id xs rs
chained_all b0 a table u m n xs is_reverse branched keeps _ _ _ _ shares_none =
    let P : ℕ → Type 0 = λ k. Chained b0 a table u m k m xs [] in
    let none : n ≡ n + 0 = omega arith in
    subst P none (chained_none b0 a table u m n xs branched keeps)
chained_all b0 a table u m n xs is_reverse branched keeps _ _ _ _ (shares_more mid new kept changed next id rs r before step) =
    let P : ℕ → Type 0 = λ k. Chained b0 new changed u m k id xs (rs ++ r ∷ []) in
    let sum : n + length rs + 1 ≡ n + length (rs ++ r ∷ []) = omega (arith, length-append rs (r ∷ [])) in
    subst P sum (chained_more b0 mid new kept changed u m (n + length rs) next id xs rs r is_reverse
    (chained_all b0 a table u m n xs is_reverse branched keeps mid kept next rs before) step)

-- ---- sequences

-- branches for the trees, and what the map keeps
pub record Suffixed (b0 b : Assembly) (table : SlotTable Utf8SuffixKey) (u m n : ℕ) (xs : List Tree) : Type 0 where
  pub branched : Branched b0 b u m n xs
  pub keeps : Keeps (length b0.drafts) b u m table

module _ (b0 : Assembly) (u m : ℕ) (is_reverse : b0.reverse ≡ true) where
  suffixed_one : (a b : Assembly) (table changed : SlotTable Utf8SuffixKey) (n : ℕ) (xs : List Tree) (rs : List (ℕ × ℕ)) →
      Suffixed b0 a table u m n xs →
      AddsSequence a b table changed u m rs → Suffixed b0 b changed u m (n + 4) (xs ++ sequence_tree rs ∷ [])
  suffixed_one a b table changed n xs rs so_far one =
      let chain = chained_all b0 a table u m n xs is_reverse so_far.branched so_far.keeps one.shared one.kept one.next one.others
      one.shares in
      let k : ℕ = n + length one.others in
      let r = one.last in
      let x = one.adds in
      let led = one.leads in
      let size = led.size in
      let few = one.few in
      let sum : length one.others + 1 ≡ length rs = sym (length-append one.others (r ∷ [])) ∙ ap length one.split in
      let P : List (ℕ × ℕ) → Type 0 = λ qs. Branched b0 b u m (k + 1) (xs ++ sequence_tree qs ∷ []) in
      let way =
      branched_way b0 one.shared one.whole b u m k one.first r.0 r.1 one.next xs chain.branched x.added chain.there led
      (sequence_tree (one.others ++ r ∷ [])) (λ l. uses_sequence b0.reverse l (one.others ++ r ∷ []))
      (denotes_added b0 one.shared one.kept u m k one.next xs one.others is_reverse chain one.whole changed one.first r x) in
      record {
        branched = branched_wider (n + 4) (omega (arith, sum, few)) (subst P one.split way);
        keeps = keeps_later changed (omega arith) (λ q h not_u. led.same q not_u)
            (kept_added b0 one.shared one.kept u m k one.next xs one.others is_reverse chain one.whole changed one.first r x);
      }

  pub suffixed_all : (a : Assembly) (table : SlotTable Utf8SuffixKey) (n : ℕ) (xs : List Tree) → Suffixed b0 a table u m n xs →
      (b : Assembly) (changed : SlotTable Utf8SuffixKey) (qs : List (List (ℕ × ℕ))) → AddsSequences u m a table b changed qs →
      Suffixed b0 b changed u m (n + 4 * length qs) (xs ++ map sequence_tree qs)
  suffixed_all a table n xs so_far _ _ _ sequences_none =
      let P : ℕ → Type 0 = λ k. Suffixed b0 a table u m k (xs ++ []) in
      let Q : List Tree → Type 0 = λ ys. Suffixed b0 a table u m n ys in
      let none : n ≡ n + 4 * 0 = omega arith in
      subst P none (subst Q (sym (append-nil xs)) so_far)
  suffixed_all a table n xs so_far _ _ _ (sequences_more mid new kept changed qs rs before one) =
      let more = suffixed_one mid new kept changed (n + 4 * length qs) (xs
      ++ map sequence_tree qs) rs (suffixed_all a table n xs so_far mid kept qs before) one in
      let P : ℕ → Type 0 = λ k. Suffixed b0 new changed u m k ((xs ++ map sequence_tree qs) ++ sequence_tree rs ∷ []) in
      let Q : List Tree → Type 0 = λ ys. Suffixed b0 new changed u m (n + 4 * length (qs ++ rs ∷ [])) ys in
      let sum : n + 4 * length qs + 4 ≡ n + 4 * length (qs ++ rs ∷ []) = omega (arith, length-append qs (rs ∷ [])) in
      let trees : (xs ++ map sequence_tree qs) ++ sequence_tree rs ∷ [] ≡ xs ++ map sequence_tree (qs ++ rs ∷ []) =
      append_assoc xs (map sequence_tree qs) (sequence_tree rs ∷ []) ∙ ap (λ (ys : List Tree). xs
      ++ ys) (sym (map-append sequence_tree qs (rs ∷ []))) in
      subst Q trees (subst P sum more)
