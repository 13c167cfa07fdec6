-- The bytes of the states of sequences that are read forward: of those that were made, and of the path's nodes.
use Rattle.std.proofs.Common.{◌≡◌, ℕ, ◌+◌, ◌*◌, ◌<◌, ◌≤◌, List, [], ◌∷◌, ◌++◌, map, length, drop, refl, sym, ap, subst, arith}
use Rattle.std.proofs.Common.{length-append, length-drop, ⊎_elim}
use Rattle.std.proofs.lemmas.List.{length-map}
use Rattle.nfa_core.specs.BuilderStates.{Assembly, empty_draft, sparse_draft}
use Rattle.nfa_core.specs.declared.build_error.BuildError.{BuildError}
use Rattle.nfa_core.specs.declared.build_error.BuildError.TheVariants.{NoMemory}
use Rattle.thompson_nfa.specs.Added.{AddsDraft}
use Rattle.thompson_nfa.specs.Compiled.{Weighs, sum_of_bytes}
use Rattle.thompson_nfa.specs.Refusals.{ExceedsLimit}
use Rattle.thompson_nfa.specs.Utf8Stacks.{Stage, frozen_with, fresh, advanced, open_bytes, left_bytes, Compiles, MakesTop, Pops, pops_none}
use Rattle.thompson_nfa.specs.Utf8Stacks.{pops_more, Turns}

-- ---- the nodes of the path

pub open_append : (ns ms : List Stage) → open_bytes (ns ++ ms) ≡ open_bytes ns + open_bytes ms
open_append [] ms = omega arith
open_append (n ∷ ns) ms = omega (arith, open_append ns ms)

open_fresh : (q : List (ℕ × ℕ)) → open_bytes (map fresh q) ≡ 32 * length q
open_fresh [] = refl
open_fresh (r ∷ q) = omega (arith, open_fresh q)

pub left_least : (ns : List Stage) → open_bytes ns ≤ left_bytes ns
left_least [] = omega arith
left_least (n ∷ ns) = omega arith

left_some : (ns : List Stage) → 0 < length ns → left_bytes ns ≡ open_bytes ns
left_some [] some = absurd (omega arith)
left_some (n ∷ ns) some = refl

frozen_long : (next : ℕ) (n : Stage) → length (frozen_with next n) ≡ length n.frozen + 1
frozen_long next n = length-append n.frozen ((n.last.0, n.last.1, next) ∷ [])

-- ---- states that were made

pub compiles_weigh : (b c : Assembly) (end id : ℕ) (trans : List (ℕ × ℕ × ℕ)) → Compiles b c end trans id →
    Weighs b c (24 + 8 * length trans)
compiles_weigh b c end id trans x = ⊎_elim
    (λ (same : c ≡ b). let P : Assembly → Type 0 = λ z. Weighs b z (24 + 8 * length trans) in subst P (sym same) (omega arith))
    (λ (added : AddsDraft b c id (sparse_draft trans) b.groups). omega (arith, added.bytes))
    x.how

top_open : (next : ℕ) (ns ms : List Stage) (top : Stage) → ns ≡ ms ++ top ∷ [] →
    open_bytes ns ≡ open_bytes ms + (24 + 8 * length (frozen_with next top))
top_open next ns ms top split = omega (arith, ap open_bytes split, open_append ms (top ∷ []), frozen_long next top)

top_weighs : (b c : Assembly) (end next id : ℕ) (ns ms : List Stage) → MakesTop b c end ns ms next id →
    sum_of_bytes c + open_bytes ms ≤ sum_of_bytes b + open_bytes ns
top_weighs b c end next id ns ms x =
    omega (arith, top_open next ns ms x.top x.split, compiles_weigh b c end id (frozen_with next x.top) x.compiles)

pub pops_weigh : (end : ℕ) (b0 : Assembly) (ns0 : List Stage) (b : Assembly) (ns : List Stage) (next : ℕ) → Pops end b0 ns0 b ns next →
    sum_of_bytes b + open_bytes ns ≤ sum_of_bytes b0 + open_bytes ns0
pops_weigh end b0 ns0 _ _ _ pops_none = omega arith
pops_weigh end b0 ns0 _ _ _ (pops_more b c ns ms next id before top) =
    omega (arith, pops_weigh end b0 ns0 b ns next before, top_weighs b c end next id ns ms top)

-- ---- the end alone

pub begun_weighs : (a b : Assembly) (end : ℕ) (ns : List Stage) → AddsDraft a b end (empty_draft 0) a.groups → ns ≡ [] →
    sum_of_bytes b + left_bytes ns ≤ sum_of_bytes a + 48
begun_weighs a b end ns x none = omega (arith, x.bytes, ap left_bytes none)

-- ---- one more sequence

module _ (end : ℕ) (b0 b1 : Assembly) (ns0 ns1 ns2 : List Stage) (range : ℕ × ℕ) (at : ℕ) (q : List (ℕ × ℕ))
    (t : Turns end b0 b1 ns0 ns1 range at) (few : length q ≤ 4) (pushed : ns2 ≡ ns1 ++ map fresh (drop (at + 1) q)) where
  turned_open : open_bytes ns1 ≡ open_bytes t.stack + 8
  turned_open = omega (
    arith,
    ap open_bytes t.is,
    open_append t.rest (advanced t.next range t.top ∷ []),
    frozen_long t.next t.top,
    ap open_bytes t.split,
    open_append t.rest (t.top ∷ []),
  )

  some_nodes : 0 < length ns2
  some_nodes = omega (
    arith,
    ap length pushed,
    length-append ns1 (map fresh (drop (at + 1) q)),
    ap length t.is,
    length-append t.rest (advanced t.next range t.top ∷ []),
  )

  pub turned_weighs : sum_of_bytes b1 + left_bytes ns2 ≤ sum_of_bytes b0 + left_bytes ns0 + (24 * length q + 8)
  turned_weighs = omega (
    arith,
    pops_weigh end b0 ns0 b1 t.stack t.next t.pops,
    turned_open,
    left_some ns2 some_nodes,
    ap open_bytes pushed,
    open_append ns1 (map fresh (drop (at + 1) q)),
    open_fresh (drop (at + 1) q),
    length-drop (at + 1) q,
    left_least ns0,
    few,
  )

-- the first sequence
pub first_weighs : (ns0 ns : List Stage) (q : List (ℕ × ℕ)) → length ns0 ≡ 0 → 1 ≤ length q → length q ≤ 4 →
    ns ≡ ns0 ++ map fresh (drop 0 q) → left_bytes ns ≤ left_bytes ns0 + (24 * length q + 8)
first_weighs [] ns q none some few pushed = omega (
  arith,
  ap left_bytes pushed,
  open_fresh q,
  left_some (map fresh q) (omega (arith, length-map q fresh)),
)
first_weighs (n ∷ ns0) ns q none some few pushed = absurd (omega arith)

-- ---- errors

pub no_memory : (b : Assembly) (n : ℕ) (e : BuildError) → e ≡ NoMemory → ExceedsLimit b n e
no_memory b n e is = let P : BuildError → Type 0 = λ x. ExceedsLimit b n x in subst P (sym is) (omega arith)

pub top_passed : (b : Assembly) (next : ℕ) (ns ms : List Stage) (top : Stage) (trans : List (ℕ × ℕ × ℕ)) (e : BuildError) →
    ns ≡ ms ++ top ∷ [] → trans ≡ frozen_with next top → ExceedsLimit b (24 + 8 * length trans) e → ExceedsLimit b (open_bytes ns) e
top_passed b next ns ms top trans e split is p = omega (arith, top_open next ns ms top split, ap length is, p)

pub none_left : (ns : List Stage) → length ns ≡ 0 → left_bytes ns ≡ 24
none_left [] none = refl
none_left (n ∷ ns) none = absurd (omega arith)
