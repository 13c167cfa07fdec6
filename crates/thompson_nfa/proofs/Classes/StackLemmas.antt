-- The steps of a compiler of sequences: states that are kept, and the nodes of the path.
use Rattle.std.proofs.Common.{◌≡◌, ℕ, zero, suc, ◌+◌, ◌<◌, ◌≤◌, ◌⊎◌, List, [], ◌∷◌, ◌++◌, map, length, get_or, drop, refl, sym, ap, ◌∙◌}
use Rattle.std.proofs.Common.{subst, arith, length-append, append_assoc, ⊎_elim}
use Rattle.std.proofs.lemmas.List.{length-map, get_or-map}
use Rattle.hir_core.specs.Sequences.{bytes_of}
use Rattle.hir_core.specs.declared.utf8_sequences.Utf8Range.{Utf8Range}
use Rattle.nfa_core.specs.BuilderStates.{Assembly, draft_bytes, sparse_draft, AscendsFrom}
use Rattle.nfa_core.specs.declared.transition.Transition.{Transition}
use Rattle.nfa_core.specs.declared.build_error.BuildError.{BuildError}
use Rattle.thompson_nfa.specs.RangeTries.{IsBefore}
use Rattle.thompson_nfa.specs.Refusals.{Stays}
use Rattle.thompson_nfa.specs.SlotTables.{SlotTable}
use Rattle.thompson_nfa.proofs.Fragments.TurnLemmas.{first_left}
use Rattle.thompson_nfa.specs.Utf8Stacks.{Stage, frozen_with, fresh, advanced, path_of, RisesIn, StagesRise, Keeps, Compiles, MakesTop}
use Rattle.thompson_nfa.specs.Utf8Stacks.{Pops, pops_none, pops_more, Turns, PopsUntil, PartsAt}

-- ---- ranges that rise

rises_from : (low : ℕ) (trans : List (ℕ × ℕ × ℕ)) → RisesIn low trans → AscendsFrom low trans
rises_from low [] up = tt
rises_from low ((start, end, next) ∷ others) up = (up.0, up.1, rises_from (end + 1) others up.3)

pub rises_ascends : (trans : List (ℕ × ℕ × ℕ)) → RisesIn 0 trans → AscendsFrom 0 trans
rises_ascends trans up = rises_from 0 trans up

few_from : (low : ℕ) (trans : List (ℕ × ℕ × ℕ)) → RisesIn low trans → low ≤ 256 → length trans + low ≤ 256
few_from low [] up l = omega arith
few_from low ((start, end, next) ∷ others) up l =
    let a = up.0 in let b = up.1 in let c = up.2 in
    let more = few_from (end + 1) others up.3 (omega arith) in
    omega arith

pub few_bytes : (trans : List (ℕ × ℕ × ℕ)) → RisesIn 0 trans → draft_bytes (sparse_draft trans) ≤ 2072
few_bytes trans up = let few = few_from 0 trans up (omega arith) in omega arith

-- where the last range leads makes no difference
rises_next : (low : ℕ) (trans : List (ℕ × ℕ × ℕ)) (a b m n : ℕ) → RisesIn low (trans ++ (a, b, m) ∷ []) →
    RisesIn low (trans ++ (a, b, n) ∷ [])
rises_next low [] a b m n up = (up.0, up.1, up.2, tt)
rises_next low ((start, end, next) ∷ others) a b m n up = (up.0, up.1, up.2, rises_next (end + 1) others a b m n up.3)

-- a range after the last one
rises_behind : (low : ℕ) (trans : List (ℕ × ℕ × ℕ)) (a b m c d n : ℕ) → RisesIn low (trans ++ (a, b, m) ∷ []) → b < c → c ≤ d → d < 256 →
    RisesIn low ((trans ++ (a, b, m) ∷ []) ++ (c, d, n) ∷ [])
rises_behind low [] a b m c d n up l k h = (up.0, up.1, up.2, (omega arith, k, h, tt))
rises_behind low ((start, end, next) ∷ others) a b m c d n up l k h = (
  up.0,
  up.1,
  up.2,
  rises_behind (end + 1) others a b m c d n up.3 l k h,
)

-- the last range isn't empty
last_range : (low : ℕ) (trans : List (ℕ × ℕ × ℕ)) (a b m : ℕ) → RisesIn low (trans ++ (a, b, m) ∷ []) → a ≤ b
last_range low [] a b m up = up.1
last_range low ((start, end, next) ∷ others) a b m up = last_range (end + 1) others a b m up.3

pub stage_rises : (next : ℕ) (n : Stage) → RisesIn 0 (frozen_with 0 n) → RisesIn 0 (frozen_with next n)
stage_rises next n up = rises_next 0 n.frozen n.last.0 n.last.1 0 next up

pub advanced_rises : (next : ℕ) (r : ℕ × ℕ) (n : Stage) → RisesIn 0 (frozen_with 0 n) → n.last.1 < r.0 → r.0 ≤ r.1 → r.1 < 256 →
    RisesIn 0 (frozen_with 0 (advanced next r n))
advanced_rises next r n up l k h = rises_behind 0 n.frozen n.last.0 n.last.1 next r.0 r.1 0 (stage_rises next n up) l k h

pub rise_front : (ns ms : List Stage) → StagesRise (ns ++ ms) → StagesRise ns
rise_front [] ms up = tt
rise_front (n ∷ ns) ms up = (up.0, rise_front ns ms up.1)

pub rise_back : (ns ms : List Stage) → StagesRise (ns ++ ms) → StagesRise ms
rise_back [] ms up = up
rise_back (n ∷ ns) ms up = rise_back ns ms up.1

pub rise_both : (ns ms : List Stage) → StagesRise ns → StagesRise ms → StagesRise (ns ++ ms)
rise_both [] ms up more = more
rise_both (n ∷ ns) ms up more = (up.0, rise_both ns ms up.1 more)

-- ---- the path

pub top_made : (b c : Assembly) (end next id : ℕ) (ns ms : List Stage) (top : Stage) (trans : List (ℕ × ℕ × ℕ)) → ns ≡ ms ++ top ∷ [] →
    trans ≡ frozen_with next top → Compiles b c end trans id → MakesTop b c end ns ms next id
top_made b c end next id ns ms top trans split is x =
    let P : List (ℕ × ℕ × ℕ) → Type 0 = λ l. Compiles b c end l id in
    record { top = top; split = split; compiles = subst P is x }

pub top_rises : (next : ℕ) (ns ms : List Stage) (top : Stage) (trans : List (ℕ × ℕ × ℕ)) → ns ≡ ms ++ top ∷ [] →
    trans ≡ frozen_with next top → StagesRise ns → RisesIn 0 trans
top_rises next ns ms top trans split is up =
    let P : List Stage → Type 0 = λ l. StagesRise l in
    let Q : List (ℕ × ℕ × ℕ) → Type 0 = λ l. RisesIn 0 l in
    subst Q (sym is) (stage_rises next top (rise_back ms (top ∷ []) (subst P split up)).0)

pub rest_rises : (ns ms : List Stage) (top : Stage) → ns ≡ ms ++ top ∷ [] → StagesRise ns → StagesRise ms
rest_rises ns ms top split up = let P : List Stage → Type 0 = λ l. StagesRise l in rise_front ms (top ∷ []) (subst P split up)

pub one_shorter : (ns ms : List Stage) (top : Stage) → ns ≡ ms ++ top ∷ [] → length ns ≡ length ms + 1
one_shorter ns ms top split = ap length split ∙ length-append ms (top ∷ [])

-- the nodes of the path are made down to where i more were popped
pub record PopsTo (end : ℕ) (b0 b : Assembly) (ns0 ns : List Stage) (next from i : ℕ) (table : SlotTable (List Transition)) : Type 0 where
  pub pops : Pops end b0 ns0 b ns next
  pub left : length ns + i ≡ length ns0 + from
  pub rising : StagesRise ns
  pub keeps : Keeps b end table

pub none_popped : (end : ℕ) (b : Assembly) (ns : List Stage) (from : ℕ) (table : SlotTable (List Transition)) → StagesRise ns →
    Keeps b end table → PopsTo end b b ns ns end from from table
none_popped end b ns from table up k = record { pops = pops_none; left = refl; rising = up; keeps = k }

pub one_popped : (end same : ℕ) (b0 b c : Assembly) (ns0 ns ms : List Stage) (next id from i : ℕ)
    (table new : SlotTable (List Transition)) → same ≡ end → PopsTo end b0 b ns0 ns next from i table →
    MakesTop b c same ns ms next id → StagesRise ms → Keeps c same new → PopsTo end b0 c ns0 ms id from (i + 1) new
one_popped end same b0 b c ns0 ns ms next id from i table new e p top up k =
    let l = p.left in let s = one_shorter ns ms top.top top.split in
    let P : ℕ → Type 0 = λ n. MakesTop b c n ns ms next id in
    let Q : ℕ → Type 0 = λ n. Keeps c n new in
    record { pops = pops_more b c ns ms next id p.pops (subst P e top); left = omega arith; rising = up; keeps = subst Q e k }

pub pops_refused : (end : ℕ) (b0 b new : Assembly) (ns0 ns : List Stage) (next from i : ℕ) (table : SlotTable (List Transition))
    (e : BuildError) → PopsTo end b0 b ns0 ns next from i table → Stays b new 1 2072 e →
    PopsUntil end b0 new ns0 e
pops_refused end b0 b new ns0 ns next from i table e p r = record { middle = b; stack = ns; next = next; pops = p.pops; stays = r }

pub turned : (end : ℕ) (b0 b : Assembly) (ns0 ns ms new : List Stage) (top : Stage) (next from : ℕ) (range : ℕ × ℕ) →
    Pops end b0 ns0 b ns next → length ns ≡ from + 1 → StagesRise ns → ns ≡ ms ++ top ∷ [] →
    new ≡ ms ++ advanced next range top ∷ [] → Turns end b0 b ns0 new range from
turned end b0 b ns0 ns ms new top next from range p l up split is =
    let s = one_shorter ns ms top split in
    record { stack = ns; rest = ms; top = top; next = next; pops = p; split = split; place = omega arith; rising = up; is = is }

-- ---- where a sequence leaves the path

-- both are equal up to the position, and from there the first comes before the second
pub record Agree (p q : List (ℕ × ℕ)) (i : ℕ) : Type 0 where
  pub before : List (ℕ × ℕ)
  pub left : List (ℕ × ℕ)
  pub right : List (ℕ × ℕ)
  pub one_is : p ≡ before ++ left
  pub other_is : q ≡ before ++ right
  pub place : length before ≡ i
  pub behind : IsBefore left right

pub get_behind : (before : List (ℕ × ℕ)) (a : ℕ × ℕ) (rest : List (ℕ × ℕ)) (d : ℕ × ℕ) → get_or (before ++ a ∷ rest) (length before) d ≡ a
get_behind [] a rest d = refl
get_behind (b ∷ before) a rest d = get_behind before a rest d

-- the ranges at the position
pub record Next (p q : List (ℕ × ℕ)) (i : ℕ) : Type 0 where
  pub before : List (ℕ × ℕ)
  pub one : ℕ × ℕ
  pub other : ℕ × ℕ
  pub one_rest : List (ℕ × ℕ)
  pub other_rest : List (ℕ × ℕ)
  pub one_is : p ≡ before ++ one ∷ one_rest
  pub other_is : q ≡ before ++ other ∷ other_rest
  pub place : length before ≡ i
  pub behind : (one.1 < other.0) ⊎ ((one ≡ other) × IsBefore one_rest other_rest)

next_of : (p q before left right : List (ℕ × ℕ)) (i : ℕ) → p ≡ before ++ left → q ≡ before ++ right → length before ≡ i →
    IsBefore left right → Next p q i
next_of p q before [] right i e f l b = absurd b
next_of p q before (a ∷ left) [] i e f l b = absurd b
next_of p q before (a ∷ left) (c ∷ right) i e f l b = record {
  before = before;
  one = a;
  other = c;
  one_rest = left;
  other_rest = right;
  one_is = e;
  other_is = f;
  place = l;
  behind = b;
}

pub next_at : (p q : List (ℕ × ℕ)) (i : ℕ) → Agree p q i → Next p q i
next_at p q i a = next_of p q a.before a.left a.right i a.one_is a.other_is a.place a.behind

module _ (p q : List (ℕ × ℕ)) (i : ℕ) (a : Agree p q i) where
  next : Next p q i
  next = next_at p q i a

  pub other_inside : i < length q
  other_inside = let e = ap length next.other_is in let l = length-append next.before (next.other ∷ next.other_rest) in let k =
      next.place in omega (arith, e, l, k)

  one_got : (d : ℕ × ℕ) → get_or p i d ≡ next.one
  one_got d = ap (λ (l : List (ℕ × ℕ)). get_or l i d) next.one_is ∙ ap (λ k. get_or (next.before ++ next.one ∷ next.one_rest) k d)
      (sym next.place) ∙ get_behind next.before next.one next.one_rest d

  other_got : (d : ℕ × ℕ) → get_or q i d ≡ next.other
  other_got d = ap (λ (l : List (ℕ × ℕ)). get_or l i d) next.other_is ∙ ap (λ k. get_or (next.before ++ next.other ∷ next.other_rest) k d)
      (sym next.place) ∙ get_behind next.before next.other next.other_rest d

  -- if the ranges are equal, the rest agrees from the next position on
  pub agree_on : (d e : ℕ × ℕ) → get_or p i d ≡ get_or q i e → (get_or p i d).0 ≤ (get_or p i d).1 → Agree p q (i + 1)
  agree_on d e same some =
      let is : next.one ≡ next.other = sym (one_got d) ∙ same ∙ other_got e in
      let P : ℕ × ℕ → Type 0 = λ r. r.0 ≤ r.1 in
      let least : next.one.0 ≤ next.one.1 = subst P (one_got d) some in
      let start : next.one.0 ≡ next.other.0 = ap (λ (r : ℕ × ℕ). r.0) is in
      let place = next.place in
      let rest : IsBefore next.one_rest next.other_rest = ⊎_elim (λ (l : next.one.1 < next.other.0). absurd (omega arith))
      (λ (b : (next.one ≡ next.other) × IsBefore next.one_rest next.other_rest). b.1) next.behind in
      record {
        before = next.before ++ next.one ∷ [];
        left = next.one_rest;
        right = next.other_rest;
        one_is = next.one_is ∙ sym (append_assoc next.before (next.one ∷ []) next.one_rest);
        other_is = next.other_is ∙ ap (λ (r : ℕ × ℕ). next.before ++ r ∷ next.other_rest) (sym is)
            ∙ sym (append_assoc next.before (next.one ∷ []) next.other_rest);
        place = omega (arith, length-append next.before (next.one ∷ []));
        behind = rest;
      }

  -- if they differ, the one ends before the other begins
  pub parts_here : (d e : ℕ × ℕ) → (get_or p i d ≡ get_or q i e → ⊥) → PartsAt p q i
  parts_here d e other =
      let less : next.one.1 < next.other.0 = ⊎_elim (λ (l : next.one.1 < next.other.0). l)
      (λ (b : (next.one ≡ next.other) × IsBefore next.one_rest next.other_rest). absurd (other (one_got d ∙ b.0 ∙ sym (other_got e))))
      next.behind in
      record {
        before = next.before;
        one = next.one;
        other = next.other;
        one_rest = next.one_rest;
        other_rest = next.other_rest;
        one_is = next.one_is;
        other_is = next.other_is;
        place = next.place;
        behind = less;
      }

pub path_at : (ns : List Stage) (i : ℕ) (d : Stage) → i < length ns → get_or (path_of ns) i d.last ≡ (get_or ns i d).last
path_at [] i d l = absurd (omega arith)
path_at (n ∷ ns) zero d l = refl
path_at (n ∷ ns) (suc i) d l = path_at ns i d (omega arith)

-- ---- nodes above the path

pub push_more : (all new old : List Stage) (n : Stage) (rs : List Utf8Range) (i : ℕ) (r d : Utf8Range) → i < length rs → r ≡ get_or rs i d →
    n ≡ fresh (bytes_of r) → new ≡ old ++ n ∷ [] →
    old ++ map fresh (drop i (map bytes_of rs)) ≡ all → new ++ map fresh (drop (i + 1) (map bytes_of rs)) ≡ all
push_more all new old n rs i r d l is e f so_far =
    let long = length-map rs bytes_of in
    let here : bytes_of r ≡ get_or (map bytes_of rs) i (bytes_of d) = ap bytes_of is ∙ sym (get_or-map bytes_of rs i d (bytes_of d) l) in
    let split : drop i (map bytes_of rs) ≡ bytes_of r ∷ drop (i + 1) (map bytes_of rs) =
    first_left (map bytes_of rs) i (bytes_of r) (bytes_of d) (omega (arith, long)) here in
    let more : List Stage = map fresh (drop (i + 1) (map bytes_of rs)) in
    ap (λ (l : List Stage). l ++ more) (f ∙ ap (λ (s : Stage). old ++ s ∷ []) e) ∙ append_assoc old (fresh (bytes_of r) ∷ []) more
    ∙ sym (ap (λ (l : List (ℕ × ℕ)). old ++ map fresh l) split) ∙ so_far

node_rises : (ns : List Stage) (i : ℕ) (d : Stage) → StagesRise ns → i < length ns → RisesIn 0 (frozen_with 0 (get_or ns i d))
node_rises [] i d up l = absurd (omega arith)
node_rises (n ∷ ns) zero d up l = up.0
node_rises (n ∷ ns) (suc i) d up l = node_rises ns i d up.1 (omega arith)

module _ (ns : List Stage) (rs : List Utf8Range) (i : ℕ) (n d : Stage) (r e : Utf8Range) (a : Agree (path_of ns) (map bytes_of rs) i)
    (inside : i < length ns) (n_is : n ≡ get_or ns i d) (r_is : r ≡ get_or rs i e) where
  range_there : i < length rs
  range_there = let l = other_inside (path_of ns) (map bytes_of rs) i a in let long = length-map rs bytes_of in omega (arith, l, long)

  one_is : get_or (path_of ns) i d.last ≡ n.last
  one_is = path_at ns i d inside ∙ ap (λ (s : Stage). s.last) (sym n_is)

  other_is : get_or (map bytes_of rs) i (bytes_of e) ≡ bytes_of r
  other_is = get_or-map bytes_of rs i e (bytes_of e) range_there ∙ ap bytes_of (sym r_is)

  pub nodes_differ : (n.last ≡ bytes_of r → ⊥) → PartsAt (path_of ns) (map bytes_of rs) i
  nodes_differ other = parts_here (path_of ns) (map bytes_of rs) i a d.last (bytes_of e) (λ same. other (sym one_is ∙ same ∙ other_is))

  pub nodes_agree : StagesRise ns → n.last ≡ bytes_of r → Agree (path_of ns) (map bytes_of rs) (i + 1)
  nodes_agree up same =
      let P : ℕ × ℕ → Type 0 = λ x. x.0 ≤ x.1 in
      let node = get_or ns i d in
      agree_on (path_of ns) (map bytes_of rs) i a d.last (bytes_of e) (one_is ∙ same ∙ sym other_is)
      (subst P (sym (path_at ns i d inside)) (last_range 0 node.frozen node.last.0 node.last.1 0 (node_rises ns i d up inside)))
