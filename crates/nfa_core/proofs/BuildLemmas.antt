-- The automaton that is built satisfies what holds of every NFA. It makes no difference which table gives its names.
use Rattle.std.proofs.Common.{◌≡◌, ℕ, ◌+◌, ◌<◌, ◌≤◌, true, Bool, List, [], ◌∷◌, length, map, take, get_or, Option, None, refl, sym, ap, ◌∙◌}
use Rattle.std.proofs.Common.{arith, subst, ⊎_elim, if◌then◌else◌}
use Rattle.std.specs.Prelude.{is_none, All, reverse, cond}
use Rattle.std.specs.Bool.{nat_eq}
use Rattle.std.proofs.lemmas.List.{length-map, get_or_past, reverse-append}
use Rattle.std.proofs.lemmas.List.Elements.{All-get_or, All-head, All-tail, All-map, All-filter, All-cons, All-weaker, All-push}
use Rattle.std.proofs.lemmas.List.Sums.{length-filter, sum_by-take-le, count_by-le-length}
use Rattle.std.proofs.lemmas.Bool.Decides.{leb_tells}
use Rattle.search_types.specs.Groups.{Groups}
use Rattle.nfa_core.specs.Walks.{Has}
use Rattle.nfa_core.specs.Nfa.{Node, byte_range, look_node, fail_node, leads_to}
use Rattle.nfa_core.specs.NfaValue.{Nfa, IsNodeOf, IsSound}
use Rattle.nfa_core.specs.NfaOf.{nfa_of}
use Rattle.look_core.specs.Terminators.{Terminator}
use Rattle.nfa_core.specs.BuilderStates.{DraftNode, empty_draft, range_draft, sparse_draft, look_draft, capture_start_draft}
use Rattle.nfa_core.specs.BuilderStates.{capture_end_draft, union_draft, union_reverse_draft, fail_draft, match_draft, draft_at, Assembly}
use Rattle.nfa_core.specs.BuilderStates.{AscendsFrom, pattern_count}
use Rattle.nfa_core.specs.InOrder.{IsDraftOf, IsInOrder}
use Rattle.nfa_core.specs.CanBuild.{CanBuild, names_of}
use Rattle.nfa_core.specs.Renaming.{stands_for, past, kept, new_name, renamed, ways_node, ranges_node, automaton_of}
use Rattle.nfa_core.specs.Pasts.{HasPasts, IsNaming, name_in}
use Rattle.nfa_core.proofs.MemberLemmas.{none_in, of_cons}
use Rattle.nfa_core.proofs.PairLemmas.{names_equal}
use Rattle.nfa_core.proofs.NamingLemmas.{is_kept, past_inside, kept_more}
use Rattle.nfa_core.proofs.KeptStateLemmas.{map_reversed}

abbrev pub range_named : (ℕ → ℕ) → ℕ × ℕ × ℕ → ℕ × ℕ × ℕ
range_named name r = (r.0, r.1, name r.2)

abbrev pub range_next : ℕ × ℕ × ℕ → ℕ
range_next r = r.2

abbrev pub ends_in_byte : ℕ × ℕ × ℕ → Type 0
ends_in_byte r = r.1 < 256

all_reversed : {A : Type 0} (P : A → Type 0) (xs : List A) → All P xs → All P (reverse xs)
all_reversed P [] all = all
all_reversed {A} P (x ∷ xs) all = subst (λ (ys : List A). All P ys) (sym (reverse-append (x ∷ []) xs))
    (All-push P (reverse xs) x (all_reversed P xs (All-tail P x xs all)) (All-head P x xs all))

-- functions that agree on all of a list
pub map_same : {A B : Type 0} (P : A → Type 0) (f g : A → B) → ((x : A) → P x → f x ≡ g x) → (xs : List A) → All P xs → map f xs ≡ map g xs
map_same P f g agree [] all = refl
map_same P f g agree (x ∷ xs) all =
    let head = agree x (All-head P x xs all) in
    ap (λ y. y ∷ map f xs) head ∙ ap (λ ys. g x ∷ ys) (map_same P f g agree xs (All-tail P x xs all))

module _ (f g : ℕ → ℕ) (n : ℕ) (agree : (q : ℕ) → q < n → f q ≡ g q) (groups : Groups) where
  names_same : (names : List ℕ) → All (λ q. q < n) names → map f names ≡ map g names
  names_same names all = map_same (λ q. q < n) f g agree names all

  ranges_same : (ranges : List (ℕ × ℕ × ℕ)) → All (λ q. q < n) (map range_next ranges) →
      map (range_named f) ranges ≡ map (range_named g) ranges
  ranges_same [] all = refl
  ranges_same (r ∷ rs) all =
      let head = agree r.2 (All-head (λ q. q < n) r.2 (map range_next rs) all) in
      ap (λ q. (r.0, r.1, q) ∷ map (range_named f) rs) head
      ∙ ap (λ ys. (r.0, r.1, g r.2) ∷ ys) (ranges_same rs (All-tail (λ q. q < n) r.2 (map range_next rs) all))

  -- the state is the same under names that agree
  renamed_same : (draft : DraftNode) → All (λ q. q < n) (names_of draft) → renamed f groups draft ≡ renamed g groups draft
  renamed_same (empty_draft next) all = refl
  renamed_same (range_draft low high next) all = ap (byte_range low high) (agree next (All-head (λ q. q < n) next [] all))
  renamed_same (sparse_draft ranges) all = ap ranges_node (ranges_same ranges all)
  renamed_same (look_draft look next) all = ap (look_node look) (agree next (All-head (λ q. q < n) next [] all))
  renamed_same (capture_start_draft pattern group next) all = ap (λ q. renamed (λ x. q) groups (capture_start_draft pattern group next))
      (agree next (All-head (λ q. q < n) next [] all))
  renamed_same (capture_end_draft pattern group next) all = ap (λ q. renamed (λ x. q) groups (capture_end_draft pattern group next))
      (agree next (All-head (λ q. q < n) next [] all))
  renamed_same (union_draft names) all = ap ways_node (names_same names all)
  renamed_same (union_reverse_draft names) all = ap ways_node (map_reversed f names ∙ ap reverse (names_same names all)
      ∙ sym (map_reversed g names))
  renamed_same fail_draft all = refl
  renamed_same (match_draft pattern) all = refl

  pub states_same : (drafts : List DraftNode) → All (λ draft. All (λ q. q < n) (names_of draft)) drafts →
      map (renamed f groups) (kept drafts) ≡ map (renamed g groups) (kept drafts)
  states_same drafts named = map_same (λ draft. All (λ q. q < n) (names_of draft)) (renamed f groups) (renamed g groups) renamed_same
      (kept drafts)
      (All-filter is_kept (λ draft. All (λ q. q < n) (names_of draft)) drafts named)

-- the name of a state is one of the automaton
kept_up_to : (drafts : List DraftNode) (i : ℕ) → length (kept (take i drafts)) ≤ length (kept drafts)
kept_up_to drafts i =
    let short = length-filter is_kept (take i drafts) in
    let all = length-filter is_kept drafts in
    let less = sum_by-take-le (λ draft. cond (is_kept draft) 1 0) drafts i in
    omega (arith, short, all, less)

kept_one : (o : Option ℕ) → o ≡ None → is_none o ≡ true
kept_one o e = ap is_none e

pub name_inside : (drafts : List DraftNode) (q : ℕ) → HasPasts drafts → q < length drafts → new_name drafts q < length (kept drafts)
name_inside drafts q reached inside =
    let there = past_inside drafts q reached inside in
    let more = kept_more drafts (past drafts q) fail_draft there in
    let stays : is_kept (draft_at drafts (past drafts q)) ≡ true = kept_one (stands_for (draft_at drafts (past drafts q)))
    (reached.ends q inside) in
    let one : length (kept (draft_at drafts (past drafts q) ∷ [])) ≡ 1 = rw stays in
    let most = kept_up_to drafts (past drafts q + 1) in
    omega (arith, more, one, most)

-- where renamed states lead
pub leads_ways : (names : List ℕ) → leads_to (ways_node names) ≡ names
leads_ways [] = refl
leads_ways (first ∷ []) = refl
leads_ways (first ∷ second ∷ []) = refl
leads_ways (first ∷ second ∷ third ∷ others) = refl

leads_ranges : (ranges : List (ℕ × ℕ × ℕ)) → leads_to (ranges_node ranges) ≡ map range_next ranges
leads_ranges [] = refl
leads_ranges (range ∷ []) = refl
leads_ranges (range ∷ other ∷ others) = refl

module _ (n m : ℕ) (name : ℕ → ℕ) (inside : (q : ℕ) → q < n → name q < m) (groups : Groups) where
  names_inside : (names : List ℕ) → All (λ q. q < n) names → All (λ q. q < m) (map name names)
  names_inside [] all = λ k d below. absurd (omega (arith, below))
  names_inside (q ∷ qs) all = All-cons (λ q. q < m) (name q) (map name qs) (inside q (All-head (λ q. q < n) q qs all))
      (names_inside qs (All-tail (λ q. q < n) q qs all))

  ranges_inside : (ranges : List (ℕ × ℕ × ℕ)) → All (λ q. q < n) (map range_next ranges) →
      All (λ q. q < m) (map range_next (map (range_named name) ranges))
  ranges_inside [] all = λ k d below. absurd (omega (arith, below))
  ranges_inside (r ∷ rs) all = All-cons (λ q. q < m) (name r.2) (map range_next (map (range_named name) rs))
      (inside r.2 (All-head (λ q. q < n) r.2 (map range_next rs) all))
      (ranges_inside rs (All-tail (λ q. q < n) r.2 (map range_next rs) all))

  -- a list of one name, or of none
  one_inside : (q : ℕ) → q < m → All (λ q. q < m) (q ∷ [])
  one_inside q below = All-cons (λ q. q < m) q [] below (λ k d none. absurd (omega (arith, none)))

  reverse_inside : (names : List ℕ) → All (λ q. q < m) names → All (λ q. q < m) (reverse names)
  reverse_inside names all = all_reversed (λ q. q < m) names all

  leads_inside : (draft : DraftNode) → All (λ q. q < n) (names_of draft) → All (λ q. q < m) (leads_to (renamed name groups draft))
  leads_inside (empty_draft next) all = λ k d none. absurd (omega (arith, none))
  leads_inside (range_draft low high next) all = one_inside (name next) (inside next (All-head (λ q. q < n) next [] all))
  leads_inside (sparse_draft ranges) all = subst (λ (names : List ℕ). All (λ q. q < m) names)
      (sym (leads_ranges (map (range_named name) ranges))) (ranges_inside ranges all)
  leads_inside (look_draft look next) all = one_inside (name next) (inside next (All-head (λ q. q < n) next [] all))
  leads_inside (capture_start_draft pattern group next) all = one_inside (name next) (inside next (All-head (λ q. q < n) next [] all))
  leads_inside (capture_end_draft pattern group next) all = one_inside (name next) (inside next (All-head (λ q. q < n) next [] all))
  leads_inside (union_draft names) all = subst (λ (names : List ℕ). All (λ q. q < m) names) (sym (leads_ways (map name names)))
      (names_inside names all)
  leads_inside (union_reverse_draft names) all = subst (λ (names : List ℕ). All (λ q. q < m) names)
      (sym (leads_ways (map name (reverse names)) ∙ map_reversed name names))
      (reverse_inside (map name names) (names_inside names all))
  leads_inside fail_draft all = λ k d none. absurd (omega (arith, none))
  leads_inside (match_draft pattern) all = λ k d none. absurd (omega (arith, none))

has_all : (P : ℕ → Type 0) (xs : List ℕ) → All P xs → (q : ℕ) → Has nat_eq q xs → P q
has_all P [] all q h = none_in nat_eq q _ h
has_all P (x ∷ xs) all q h = of_cons nat_eq names_equal P x xs (All-head P x xs all) (has_all P xs (All-tail P x xs all)) q h

-- the ranges stay in order
ascends_named : (name : ℕ → ℕ) (low : ℕ) (ranges : List (ℕ × ℕ × ℕ)) → AscendsFrom low ranges →
    AscendsFrom low (map (range_named name) ranges)
ascends_named name low [] rises = tt
ascends_named name low ((start, end, next) ∷ others) rises = (rises.0, rises.1, ascends_named name (end + 1) others rises.2)

bytes_named : (name : ℕ → ℕ) (ranges : List (ℕ × ℕ × ℕ)) → All ends_in_byte ranges → All ends_in_byte (map (range_named name) ranges)
bytes_named name ranges all = All-map ends_in_byte (range_named name) ranges all

ranges_of_node : (patterns : ℕ) (ranges : List (ℕ × ℕ × ℕ)) → AscendsFrom 0 ranges → All ends_in_byte ranges →
    IsNodeOf patterns (ranges_node ranges)
ranges_of_node patterns [] rises bytes = tt
ranges_of_node patterns (range ∷ []) rises bytes = (rises.1, All-head ends_in_byte range [] bytes)
ranges_of_node patterns (range ∷ other ∷ others) rises bytes = (rises, bytes)

ways_of_node : (patterns : ℕ) (names : List ℕ) → IsNodeOf patterns (ways_node names)
ways_of_node patterns [] = tt
ways_of_node patterns (first ∷ []) = tt
ways_of_node patterns (first ∷ second ∷ []) = tt
ways_of_node patterns (first ∷ second ∷ third ∷ others) = tt

node_of_draft : (name : ℕ → ℕ) (groups : Groups) (patterns : ℕ) (draft : DraftNode) → IsDraftOf patterns draft →
    IsNodeOf patterns (renamed name groups draft)
node_of_draft name groups patterns (empty_draft next) good = tt
node_of_draft name groups patterns (range_draft low high next) good = good
node_of_draft name groups patterns (sparse_draft ranges) good = ranges_of_node patterns (map (range_named name) ranges)
    (ascends_named name 0 ranges good.0) (bytes_named name ranges good.1)
node_of_draft name groups patterns (look_draft look next) good = tt
node_of_draft name groups patterns (capture_start_draft pattern group next) good = tt
node_of_draft name groups patterns (capture_end_draft pattern group next) good = tt
node_of_draft name groups patterns (union_draft names) good = ways_of_node patterns (map name names)
node_of_draft name groups patterns (union_reverse_draft names) good = ways_of_node patterns (map name (reverse names))
node_of_draft name groups patterns fail_draft good = tt
node_of_draft name groups patterns (match_draft pattern) good = good

-- the automaton is sound, as every NFA is
pub sound : (b : Assembly) (x y : ℕ) → CanBuild b x y → HasPasts b.drafts → IsInOrder b.drafts (pattern_count b) b.size_limit →
    IsSound (automaton_of b x y)
sound b x y can reached order =
    let name = new_name b.drafts in
    let nodes = map (renamed name b.groups) (kept b.drafts) in
    let len : length nodes ≡ length (kept b.drafts) = length-map (kept b.drafts) (renamed name b.groups) in
    let inside : (q : ℕ) → q < length b.drafts → name q < length nodes =
    λ q below. (let h = name_inside b.drafts q reached below in omega (arith, h, len)) in
    let named : All (λ node. All (λ q. q < length nodes) (leads_to node)) nodes =
    All-map (λ node. All (λ q. q < length nodes) (leads_to node)) (renamed name b.groups) (kept b.drafts)
    (All-weaker (λ draft. All (λ q. q < length b.drafts) (names_of draft))
    (λ draft. All (λ q. q < length nodes) (leads_to (renamed name b.groups draft)))
    (leads_inside (length b.drafts) (length nodes) name inside b.groups) (kept b.drafts)
    (All-filter is_kept (λ draft. All (λ q. q < length b.drafts) (names_of draft)) b.drafts can.named)) in
    let count : pattern_count b ≡ length b.starts = ap (λ is_open. if is_open then length b.starts + 1 else length b.starts) can.closed in
    let starts : length (map name b.starts) ≡ length b.starts = length-map b.starts name in
    let few : length (kept b.drafts) ≤ length b.drafts = (let e = length-filter is_kept b.drafts in
    let h = count_by-le-length is_kept b.drafts in omega (arith, e, h)) in
    let good : All (IsDraftOf (length (map name b.starts))) b.drafts =
    subst (λ (k : ℕ). All (IsDraftOf k) b.drafts) (count ∙ sym starts) order.parts_of in
    record {
      named = λ q r h. ⊎_elim
          (λ reported. let none : get_or nodes q fail_node ≡ fail_node = get_or_past nodes q fail_node reported.1 in
          none_in nat_eq r (r < length nodes) (subst (λ (node : Node). Has nat_eq r (leads_to node)) none h))
          (λ reported. has_all (λ q. q < length nodes) (leads_to (get_or nodes q fail_node))
          (All-get_or (λ node. All (λ q. q < length nodes) (leads_to node)) nodes q fail_node reported.1 named) r h)
          (leb_tells (length nodes) q);
      anchored = inside x can.anchored_there;
      unanchored = inside y can.unanchored_there;
      starts = All-map (λ q. q < length nodes) name b.starts (All-weaker (λ q. q < length b.drafts)
          (λ q. name q < length nodes) inside b.starts can.starts_there);
      states_numbered = omega (arith, len, few, order.states_numbered);
      patterns_numbered = omega (arith, count, starts, order.patterns_numbered);
      nodes = All-map (IsNodeOf (length (map name b.starts))) (renamed name b.groups) (kept b.drafts)
          (All-weaker (IsDraftOf (length (map name b.starts))) (λ draft. IsNodeOf (length (map name b.starts))
          (renamed name b.groups draft))
          (node_of_draft name b.groups (length (map name b.starts))) (kept b.drafts)
          (All-filter is_kept (IsDraftOf (length (map name b.starts))) b.drafts good));
    }

-- a table of the names gives the same states and starts
pub same_nfa : (b : Assembly) (x y : ℕ) (names : List ℕ) (states : List Node) (starts : List ℕ) → CanBuild b x y → IsNaming b.drafts names →
    states ≡ map (renamed (name_in names) b.groups) (kept b.drafts) → starts ≡ map (name_in names) b.starts →
    (states ≡ (automaton_of b x y).states) × (starts ≡ (automaton_of b x y).start_pattern) ×
    (name_in names x ≡ (automaton_of b x y).start_anchored) × (name_in names y ≡ (automaton_of b x y).start_unanchored)
same_nfa b x y names states starts can naming all_states all_starts = (
  all_states ∙ states_same (name_in names) (new_name b.drafts) (length b.drafts) naming.right b.groups b.drafts can.named,
  all_starts ∙ map_same (λ q. q < length b.drafts) (name_in names) (new_name b.drafts) naming.right b.starts can.starts_there,
  naming.right x can.anchored_there,
  naming.right y can.unanchored_there,
)

-- the NFA of these parts
abbrev pub nfa_with : List Node → ℕ → ℕ → List ℕ → Groups → Bool → Bool → Terminator → Nfa
nfa_with states anchored unanchored starts groups utf8 reverse terminator = record {
  automaton = record {
    states = states;
    start_anchored = anchored;
    start_unanchored = unanchored;
    start_pattern = starts;
    reverse = reverse;
  };
  groups = groups;
  utf8 = utf8;
  terminator = terminator;
}

pub nfa_made : (b : Assembly) (x y anchored unanchored : ℕ) (names : List ℕ) (states : List Node) (starts : List ℕ) (groups : Groups)
    (utf8 reverse : Bool) (t : Terminator) → CanBuild b x y → IsNaming b.drafts names →
    states ≡ map (renamed (name_in names) b.groups) (kept b.drafts) → starts ≡ map (name_in names) b.starts → anchored ≡ name_in names x →
    unanchored ≡ name_in names y →
    groups ≡ b.groups → utf8 ≡ b.utf8 → reverse ≡ b.reverse → t ≡ b.terminator →
    nfa_with states anchored unanchored starts groups utf8 reverse t ≡ nfa_of b x y
nfa_made b x y anchored unanchored names states starts groups utf8 reverse t can naming all_states all_starts a u g f r e =
    let h = same_nfa b x y names states starts can naming all_states all_starts in
    let target = automaton_of b x y in
    ap (λ s. nfa_with s anchored unanchored starts groups utf8 reverse t) h.0
    ∙ ap (λ s. nfa_with target.states s unanchored starts groups utf8 reverse t) (a ∙ h.2)
    ∙ ap (λ s. nfa_with target.states target.start_anchored s starts groups utf8 reverse t) (u ∙ h.3)
    ∙ ap (λ s. nfa_with target.states target.start_anchored target.start_unanchored s groups utf8 reverse t) h.1
    ∙ ap (λ s. nfa_with target.states target.start_anchored target.start_unanchored target.start_pattern s utf8 reverse t) g
    ∙ ap (λ s. nfa_with target.states target.start_anchored target.start_unanchored target.start_pattern b.groups s reverse t) f
    ∙ ap (λ s. nfa_with target.states target.start_anchored target.start_unanchored target.start_pattern b.groups b.utf8 s t) r
    ∙ ap (λ s. nfa_with target.states target.start_anchored target.start_unanchored target.start_pattern b.groups b.utf8 b.reverse s) e
