-- What a builder's table lists and finds, the automaton that is built of it lists and finds too, whatever the answers at pairs are.
use Rattle.std.proofs.Common.{◌≡◌, ℕ, zero, suc, ◌<◌, ◌⊎◌, inl, inr, ⊎_elim, Bool, List, [], ◌∷◌, length, take, map, reverse, refl, sym, ap}
use Rattle.std.proofs.Common.{◌∙◌, subst, Option, Some, None}
use Rattle.std.specs.Prelude.{All}
use Rattle.std.specs.Bool.{nat_eq}
use Rattle.std.proofs.lemmas.List.Elements.{All-get_or, All-head, All-tail}
use Rattle.std.proofs.lemmas.List.Sorted.{IsPermutation-reverse, All-permutation}
use Rattle.look_core.specs.declared.look.Look.{Look}
use Rattle.nfa_core.specs.Nfa.{Node, leads_to}
use Rattle.nfa_core.specs.BuilderStates.{DraftNode, empty_draft, range_draft, sparse_draft, look_draft, capture_start_draft}
use Rattle.nfa_core.specs.BuilderStates.{capture_end_draft, union_draft, union_reverse_draft, fail_draft, match_draft, draft_at, Assembly}
use Rattle.nfa_core.specs.CanBuild.{names_of, CanBuild}
use Rattle.nfa_core.specs.Drafted.{drafted, table_ways}
use Rattle.nfa_core.specs.Places.{same_pair}
use Rattle.nfa_core.specs.Walks.{Has, Lists}
use Rattle.nfa_core.specs.Runs.{IsChain, last_or}
use Rattle.nfa_core.specs.Ways.{Text, reads, is_satisfied, on_read, on_nothing, offset_after, node_ways, ways}
use Rattle.nfa_core.specs.Renaming.{stands_for, kept, new_name, automaton_of}
use Rattle.nfa_core.proofs.MemberLemmas.{none_in, of_cons, of_append, has_first}
use Rattle.nfa_core.proofs.PairLemmas.{names_equal, pairs_equal, from_map}
use Rattle.nfa_core.proofs.AutomatonLemmas.{read_led, nothing_led}
use Rattle.nfa_core.proofs.PreferenceLemmas.{option_cases}
use Rattle.nfa_core.proofs.RenamingLemmas.{Comes, comes_to, past_next, next_inside}
use Rattle.nfa_core.proofs.RenamingNodes.{ways_of_stand}
use Rattle.nfa_core.proofs.RenamingAutomaton.{state_ways, renamed_pair}
use Rattle.nfa_core.proofs.RenamingWalks.{IsKept, StandsIn, Settled, lists_carried, carried_forth, carried_back}

-- ---- the names that a state leads to are those that it names

-- each member of the list has the property
abbrev pub Every : (ℕ → Type 0) → List ℕ → Type 0
Every P xs = (r : ℕ) → Has nat_eq r xs → P r

pub every_of_all : (P : ℕ → Type 0) (xs : List ℕ) → All P xs → Every P xs
every_of_all P [] all r h = none_in nat_eq r _ h
every_of_all P (x ∷ xs) all r h = of_cons nat_eq names_equal P x xs (All-head P x xs all) (every_of_all P xs (All-tail P x xs all)) r h

pub led_names : (P : ℕ → Type 0) (draft : DraftNode) → All P (names_of draft) → All P (leads_to (drafted draft))
led_names P (empty_draft next) all = all
led_names P (range_draft low high next) all = all
led_names P (sparse_draft ranges) all = all
led_names P (look_draft look next) all = all
led_names P (capture_start_draft pattern group next) all = all
led_names P (capture_end_draft pattern group next) all = all
led_names P (union_draft names) all = all
led_names P (union_reverse_draft names) all = All-permutation P names (reverse names) (IsPermutation-reverse names) all
led_names P fail_draft all = all
led_names P (match_draft pattern) all = all

node_ways_inside : (is_reverse : Bool) (t : Text) (node : Node) (n i : ℕ) → All (λ r. r < n) (leads_to node) → (p : ℕ × ℕ) →
    Has same_pair p (node_ways is_reverse t node i) → p.1 < n
node_ways_inside is_reverse t node n i all =
    let below : Every (λ r. r < n) (leads_to node) = every_of_all (λ r. r < n) (leads_to node) all in
    let read : Option (ℕ × ℕ) = reads is_reverse t i in
    let passed : Look → Bool = λ l. is_satisfied is_reverse t l i in
    let j : ℕ = offset_after i read in
    let I : ℕ × ℕ → Type 0 = λ p. p.1 < n in
    of_append same_pair pairs_equal I (map (λ q. (j, q)) (on_read node read)) (map (λ q. (i, q)) (on_nothing node passed))
    (λ p h. let o = from_map j p (on_read node read) h in let l : o.0 < n = below o.0 (read_led node read o.0 o.1) in rw o.2 l)
    (λ p h. let o = from_map i p (on_nothing node passed) h in let l : o.0 < n = below o.0 (nothing_led node passed o.0 o.1) in rw o.2 l)

-- ---- the table and the automaton

module _ (b : Assembly) (x y : ℕ) (can : CanBuild b x y) (t : Text) where
  abbrev IsInside : ℕ × ℕ → Type 0
  IsInside p = p.1 < length b.drafts

  abbrev from : ℕ × ℕ → List (ℕ × ℕ)
  from p = table_ways b.reverse t (draft_at b.drafts) p

  abbrev from_built : ℕ × ℕ → List (ℕ × ℕ)
  from_built p = ways (automaton_of b x y) t p

  pub stays : (p : ℕ × ℕ) → IsInside p → (q : ℕ × ℕ) → Has same_pair q (from p) → IsInside q
  stays p here q way =
      let named : All (λ r. r < length b.drafts) (names_of (draft_at b.drafts p.1)) =
      All-get_or (λ draft. All (λ r. r < length b.drafts) (names_of draft)) b.drafts p.1 fail_draft here can.named in
      node_ways_inside b.reverse t (drafted (draft_at b.drafts p.1)) (length b.drafts) p.0
      (led_names (λ r. r < length b.drafts) (draft_at b.drafts p.1) named) q way

  pub same_name : (q r : ℕ) → stands_for (draft_at b.drafts q) ≡ Some r → new_name b.drafts q ≡ new_name b.drafts r
  same_name q r e = ap (λ k. length (kept (take k b.drafts))) (past_next b.drafts can.no_loop q r e)

  -- the answers of pairs in the table and in the automaton: a kept state has the same answer, and one that stands for another has none
  pub record AnswerAlike {E : Type 0} (found found_built : ℕ × ℕ → Option E) : Type 0 where
    pub kept : (p : ℕ × ℕ) → IsInside p → stands_for (draft_at b.drafts p.1) ≡ None → found_built (renamed_pair b.drafts p) ≡ found p
    pub stands : (p : ℕ × ℕ) (r : ℕ) → stands_for (draft_at b.drafts p.1) ≡ Some r → found p ≡ None

  module _ {E : Type 0} (found found_built : ℕ × ℕ → Option E) (alike : AnswerAlike found found_built) where
    abbrev Kept : ℕ × ℕ → Type 0
    Kept p = IsKept same_pair pairs_equal same_pair pairs_equal (renamed_pair b.drafts) from found from_built found_built p

    abbrev IsLedOn : ℕ × ℕ → Type 0
    IsLedOn p = StandsIn same_pair pairs_equal same_pair pairs_equal (renamed_pair b.drafts) from found from_built found_built p

    is_kept : (p : ℕ × ℕ) → IsInside p → stands_for (draft_at b.drafts p.1) ≡ None → Kept p
    is_kept p here e = (state_ways b x y p.1 p.0 t here e, alike.kept p here e)

    stands_in : (p : ℕ × ℕ) (r : ℕ) → stands_for (draft_at b.drafts p.1) ≡ Some r → IsLedOn p
    stands_in p r e =
        ((p.0, r), ways_of_stand (draft_at b.drafts p.1) r e b.reverse t p.0, alike.stands p r e, ap (λ n. (p.0, n)) (same_name p.1 r e))

    either : (p : ℕ × ℕ) → IsInside p → Kept p ⊎ IsLedOn p
    either p here = ⊎_elim (λ (none : stands_for (draft_at b.drafts p.1) ≡ None). inl (is_kept p here none))
        (λ (some : (r : ℕ) × (stands_for (draft_at b.drafts p.1) ≡ Some r)). inr (stands_in p some.0 some.1))
        (option_cases (stands_for (draft_at b.drafts p.1)))

    abbrev IsSettled : ℕ × ℕ → Type 0
    IsSettled p = Settled same_pair pairs_equal same_pair pairs_equal (renamed_pair b.drafts) from found from_built found_built IsInside p

    settle_by : (m i q : ℕ) → q < length b.drafts → Comes b.drafts m q → IsSettled (i, q)
    settle_by zero i q here c = record { at = (i, q); inside = here; kept = is_kept (i, q) here c; named = refl; leads = λ e f. f }
    settle_by (suc m) i q here c =
        let k = settle_by m i c.0 (next_inside b.drafts can.named q c.0 c.1) c.2 in
        let way : from (i, q) ≡ (i, c.0) ∷ [] = ways_of_stand (draft_at b.drafts q) c.0 c.1 b.reverse t i in
        let W : List (ℕ × ℕ) → Type 0 = λ w. Has same_pair (i, c.0) w in
        let there : W (from (i, q)) = subst W (sym way) (has_first same_pair pairs_equal (i, c.0) []) in
        record {
          at = k.at;
          inside = k.inside;
          kept = k.kept;
          named = ap (λ n. (i, n)) (same_name q c.0 c.1) ∙ k.named;
          leads = λ e f. let g = k.leads e f in ((i, c.0) ∷ g.0, (there, g.1), g.2);
        }

    settle : (p : ℕ × ℕ) → IsInside p → IsSettled p
    settle p here = let c = comes_to b.drafts can.no_loop p.1 here in settle_by c.0 p.0 p.1 here c.1

    pub lists_renamed : (p : ℕ × ℕ) (l : List E) → IsInside p → Lists from found (p ∷ []) l →
        Lists from_built found_built (renamed_pair b.drafts p ∷ []) l
    lists_renamed p l here walk =
        lists_carried same_pair pairs_equal same_pair pairs_equal
        (renamed_pair b.drafts) from found from_built found_built IsInside stays either walk
        (of_cons same_pair pairs_equal IsInside p [] here (λ q h. none_in same_pair q _ h))

    pub renamed_forth : (p : ℕ × ℕ) (r : List (ℕ × ℕ)) (e : E) → IsInside p → IsChain same_pair from p r → found (last_or p r) ≡ Some e →
        (s : List (ℕ × ℕ)) × IsChain same_pair from_built (renamed_pair b.drafts p) s
        × (found_built (last_or (renamed_pair b.drafts p) s) ≡ Some e)
    renamed_forth p r e here chain is =
        carried_forth same_pair pairs_equal same_pair pairs_equal
        (renamed_pair b.drafts) from found from_built found_built IsInside stays either r p here e chain is

    pub renamed_back : (p : ℕ × ℕ) (s : List (ℕ × ℕ)) (e : E) → IsInside p → IsChain same_pair from_built (renamed_pair b.drafts p) s →
        found_built (last_or (renamed_pair b.drafts p) s) ≡ Some e →
        (r : List (ℕ × ℕ)) × IsChain same_pair from p r × (found (last_or p r) ≡ Some e)
    renamed_back p s e here chain is =
        carried_back same_pair pairs_equal same_pair pairs_equal
        (renamed_pair b.drafts) from found from_built found_built IsInside stays either settle s p here e chain is
