-- The invariants of the table, the list and the map.
use Rattle.std.proofs.Common.{◌≡◌, ℕ, zero, suc, ◌+◌, ◌*◌, ◌<◌, ◌≤◌, Bool, true, false, cond, List, [], ◌∷◌, ◌++◌, length, get_or}
use Rattle.std.proofs.Common.{take, replicate, refl, sym, ap, ◌∙◌, subst, ⊎_elim, arith, length-append, Option, Some, None}
use Rattle.std.proofs.lemmas.Bool.Decides.{same_from_decides, Decides-like}
use Rattle.std.proofs.lemmas.Slice.Eq.{bytes_eq-Decides}
use Rattle.std.specs.Map.{lookup}
use Rattle.std.specs.List.{position_from}
use Rattle.std.specs.HashMap.{HashMap, get_by}
use Rattle.std.specs.Str.{bytes_eq}
use lib.ListN.{length-replicate}
use Rattle.determinize_core.specs.States.{StateValue, dead, IsState}
use Rattle.determinize_core.specs.StateBytes.{encoded, is_match}
use Rattle.lazy_dfa.specs.Dfas.{cost}
use Rattle.lazy_dfa.specs.Accounting.{states_cost}
use Rattle.lazy_dfa.specs.Ids.{tagged, tag, unknown_id}
use Rattle.lazy_dfa.specs.declared.cache.progress.Progress.{Progress}
use Rattle.lazy_dfa.specs.Caches.{CacheValue, IsShaped, IsKept, Agrees, same, row_holding, state_at, new_id, with_state, cleared}
use Rattle.lazy_dfa.specs.Caches.{empty_cache}
use Rattle.lazy_dfa.specs.Caches.{sentinel_rows}
use Rattle.lazy_dfa.proofs.CacheChanges.ListLemmas.{or_last, or_last-false, pf-append, none_at, one_longer, below_or_last, at_old, at_last}

pub Agrees-place : {S : Type 0} (states : List StateValue) (m : HashMap StateValue ℕ S) (q : StateValue) → Agrees states m →
    get_by (same q) m ≡ row_holding q states
unfolding Agrees row_holding
Agrees-place states m q a = a q

pub Agrees-empty : {S : Type 0} (m : HashMap StateValue ℕ S) → m.entries ≡ [] → Agrees [] m
unfolding Agrees
Agrees-empty m e q = ap (lookup (same q)) e

pub Agrees-same : {S : Type 0} (states : List StateValue) (m n : HashMap StateValue ℕ S) → Agrees states m → n.entries ≡ m.entries →
    Agrees states n
unfolding Agrees
Agrees-same states m n a e q = ap (lookup (same q)) e ∙ a q

-- a state that is equal to the last one is found there, and any other state where it was found before
find_after : {S : Type 0} (states : List StateValue) (m : HashMap StateValue ℕ S) (s q : StateValue) (b : Bool) →
    get_by (same q) m ≡ position_from (same q) 0 states →
    position_from (same s) 0 states ≡ None → same s q ≡ b → same q s ≡ b →
    cond b (Some (length states)) (get_by (same q) m) ≡ position_from (same q) 0 (states ++ s ∷ [])
find_after states m s q true a fresh here there =
    let bytes : encoded s ≡ encoded q = (bytes_eq-Decides (encoded s) (encoded q)).0 here in
    let none : position_from (same q) 0 states ≡ None = sym (ap (λ (x : List ℕ). position_from
    (λ (y : StateValue). bytes_eq x (encoded y)) 0 states) bytes) ∙ fresh in
    let n : length states ≡ 0 + length states = omega arith in
    ap Some n ∙ sym (pf-append (same q) 0 states s
    ∙ (ap (λ (o : Option ℕ). or_last o (same q s) (0 + length states)) none ∙ ap (λ (b : Bool). or_last None b (0 + length states)) there))
find_after states m s q false a fresh here there =
    a ∙ (or_last-false (position_from (same q) 0 states) (0 + length states)
    ∙ sym (pf-append (same q) 0 states s ∙ ap (λ (b : Bool). or_last (position_from (same q) 0 states) b (0 + length states)) there))

pub Agrees-add : {S : Type 0} (states : List StateValue) (m n : HashMap StateValue ℕ S) (s : StateValue) (k : ℕ) →
    Agrees states m → row_holding s states ≡ None → k ≡ length states →
    ((q : StateValue) → get_by (same q) n ≡ cond (same s q) (Some k) (get_by (same q) m)) →
    Agrees (states ++ s ∷ []) n
unfolding Agrees row_holding
Agrees-add states m n s k a fresh e put q =
    let there : same q s ≡ same s q =
    same_from_decides _ _ (bytes_eq-Decides (encoded q) (encoded s))
    (Decides-like _ (λ e. sym e) (λ e. sym e) (bytes_eq-Decides (encoded s) (encoded q))) in
    put q ∙ ap (λ (j : ℕ). cond (same s q) (Some j) (get_by (same q) m)) e ∙ find_after states m s q (same s q) (a q) fresh refl there

pub states_cost-append : (stride : ℕ) (states : List StateValue) (s : StateValue) →
    states_cost stride (states ++ s ∷ []) ≡ states_cost stride states + cost stride s
states_cost-append stride [] s = omega arith
states_cost-append stride (x ∷ states) s = let e = states_cost-append stride states s in omega (arith, e)

pub fresh_at : (s : StateValue) (states : List StateValue) (j : ℕ) → row_holding s states ≡ None → j < length states →
    same s (get_or states j dead) ≡ false
unfolding row_holding
fresh_at s states j e l = none_at (same s) dead 0 states j e l

pub grown : (cells : List ℕ) (stride : ℕ) → length (cells ++ replicate stride unknown_id) ≡ length cells + stride
grown cells stride = length-append cells (replicate stride unknown_id) ∙ ap (λ (n : ℕ). length cells + n) (length-replicate _ _)

row_more : (n stride : ℕ) → (n + 1 + 3) * stride ≡ (n + 3) * stride + stride
row_more n stride = omega arith

pub IsShaped-added : (v : CacheValue) (b : Bool) (s : StateValue) → IsShaped v → IsState s → row_holding s v.states ≡ None →
    length v.cells + v.stride ≤ tag →
    IsShaped (with_state b s v)
IsShaped-added v b s i real fresh room =
    let long = one_longer v.states s in
    record {
      positive = i.positive;
      narrow = i.narrow;
      sized = grown v.cells v.stride ∙ (ap (λ (n : ℕ). n + v.stride) i.sized
          ∙ (sym (row_more (length v.states) v.stride) ∙ ap (λ (n : ℕ). (n + 3) * v.stride) (sym long)));
      small = rw (grown v.cells v.stride) room;
      named = one_longer v.ids _ ∙ (ap (λ (n : ℕ). n + 1) i.named ∙ sym long);
      tags = λ k l. ⊎_elim
          (λ (o : k < length v.states).
          rw (at_old v.states s dead k o, at_old v.ids (new_id v b s) 0 k (rw i.named o)) (i.tags k o))
          (λ (e : k ≡ length v.states). (
            b,
            at_last v.ids (new_id v b s) 0 k (e ∙ sym i.named)
                ∙ (ap (λ (n : ℕ). tagged b (is_match s.matches) n) (i.sized ∙ ap (λ (n : ℕ). (n + 3) * v.stride) (sym e))
                ∙ ap (λ (x : StateValue). tagged b (is_match x.matches) ((k + 3) * v.stride)) (sym (at_last v.states s dead k e))),
          ))
          (below_or_last k (length v.states) (rw long at l));
      real = λ k l. ⊎_elim
          (λ (o : k < length v.states). rw (at_old v.states s dead k o) (i.real k o))
          (λ (e : k ≡ length v.states). subst IsState (sym (at_last v.states s dead k e)) real)
          (below_or_last k (length v.states) (rw long at l));
      apart = λ j k less l. ⊎_elim
          (λ (o : k < length v.states).
          let p : j < length v.states = omega (arith, less, o) in
          rw (at_old v.states s dead k o, at_old v.states s dead j p) (i.apart j k less o))
          (λ (e : k ≡ length v.states).
          let p : j < length v.states = omega (arith, less, e) in
          rw (at_last v.states s dead k e, at_old v.states s dead j p) (fresh_at s v.states j fresh p))
          (below_or_last k (length v.states) (rw long at l));
    }

pub IsShaped-cleared : (v : CacheValue) (n : ℕ) → IsShaped v → IsShaped (record (cleared v) { clears = n })
IsShaped-cleared v n i =
    let few : length (take (3 * v.stride) v.cells) ≡ 3 * v.stride = cut (3 * v.stride) v.cells (omega (arith, i.sized)) in
    record {
      positive = i.positive;
      narrow = i.narrow;
      sized = few;
      small = omega (arith, few, i.narrow);
      named = refl;
      tags = λ k l. absurd (omega (arith, l));
      real = λ k l. absurd (omega (arith, l));
      apart = λ j k less l. absurd (omega (arith, l));
    }
  where
    cut : (n : ℕ) (xs : List ℕ) → n ≤ length xs → length (take n xs) ≡ n
    cut zero xs l = refl
    cut (suc n) [] l = absurd (omega (arith, l))
    cut (suc n) (x ∷ xs) l = ap suc (cut n xs (omega (arith, l)))

-- ---- the whole invariant

pub IsKept-same : {S : Type 0} (v : CacheValue) (m n : HashMap StateValue ℕ S) (used : ℕ) → IsKept v m used → n.entries ≡ m.entries →
    IsKept v n used
IsKept-same v m n used i e = record { shape = i.shape; agree = Agrees-same v.states m n i.agree e; counted = i.counted }

pub IsKept-cleared : {S : Type 0} (v : CacheValue) (m n : HashMap StateValue ℕ S) (used clears : ℕ) (starts : List ℕ)
    (progress : Option Progress) →
    IsKept v m used → n.entries ≡ [] → IsKept (record (cleared v) { clears = clears; starts = starts; progress = progress }) n v.fresh
IsKept-cleared v m n used clears starts progress k e =
    let i = IsShaped-cleared v clears k.shape in
    record {
      shape = record {
        positive = i.positive;
        narrow = i.narrow;
        sized = i.sized;
        small = i.small;
        named = i.named;
        tags = i.tags;
        real = i.real;
        apart = i.apart;
      };
      agree = Agrees-empty n e;
      counted = omega arith;
    }

pub IsKept-added : {S : Type 0} (v : CacheValue) (m n : HashMap StateValue ℕ S) (used k add : ℕ) (b : Bool) (s : StateValue) →
    IsKept v m used → IsState s → row_holding s v.states ≡ None → length v.cells + v.stride ≤ tag → k ≡ length v.states →
    add ≡ cost v.stride s →
    ((q : StateValue) → get_by (same q) n ≡ cond (same s q) (Some k) (get_by (same q) m)) →
    IsKept (with_state b s v) n (used + add)
IsKept-added v m n used k add b s i real fresh room e is put = record {
  shape = IsShaped-added v b s i.shape real fresh room;
  agree = Agrees-add v.states m n s k i.agree fresh e put;
  counted = omega (arith, i.counted, is, states_cost-append v.stride v.states s);
}

-- the parts of a cache with one more state
pub added_parts : (v : CacheValue) (b : Bool) (s copy : StateValue) (id : ℕ) (states : List StateValue) (ids cells : List ℕ) →
    states ≡ v.states ++ copy ∷ [] → copy ≡ s → ids ≡ v.ids ++ id ∷ [] → id ≡ new_id v b s →
    cells ≡ v.cells ++ replicate v.stride unknown_id →
    record v { states = states; ids = ids; cells = cells } ≡ with_state b s v
added_parts v b s copy id states ids cells e c f g h =
    ap (λ (x : List StateValue). record v { states = x; ids = ids; cells = cells }) (e ∙ ap (λ (y : StateValue). v.states ++ y ∷ []) c)
    ∙ (ap (λ (x : List ℕ). record v { states = v.states ++ s ∷ []; ids = x; cells = cells }) (f ∙ ap (λ (y : ℕ). v.ids ++ y ∷ []) g)
    ∙ ap (λ (x : List ℕ). record v { states = v.states ++ s ∷ []; ids = v.ids ++ new_id v b s ∷ []; cells = x }) h)

-- ---- no states

rows_more : (n stride : ℕ) (cells : List ℕ) (x : ℕ) → length cells ≡ n * stride → length (cells ++ replicate stride x) ≡ (n + 1) * stride
rows_more n stride cells x e = length-append cells (replicate stride x)
    ∙ (ap (λ (m : ℕ). length cells + m) (length-replicate _ _) ∙ omega (arith, e))

pub sentinels_sized : (stride : ℕ) → length (sentinel_rows stride) ≡ 3 * stride
sentinels_sized stride =
    rows_more 2 stride (replicate stride 0x8000_0000 ++ replicate stride (0x4000_0000 + stride)) (0x2000_0000 + 2 * stride)
    (rows_more 1 stride (replicate stride 0x8000_0000) (0x4000_0000 + stride) (length-replicate _ _ ∙ omega arith))

pub IsShaped-empty : (stride fresh starts bound : ℕ) (classes : List ℕ) → 0 < stride → stride ≤ 512 →
    IsShaped (empty_cache stride fresh starts bound classes)
IsShaped-empty stride fresh starts bound classes positive narrow =
    let long = sentinels_sized stride in
    record {
      positive = positive;
      narrow = narrow;
      sized = long;
      small = omega (arith, long, narrow);
      named = refl;
      tags = λ k l. absurd (omega (arith, l));
      real = λ k l. absurd (omega (arith, l));
      apart = λ j k less l. absurd (omega (arith, l));
    }

pub IsKept-empty : {S : Type 0} (stride fresh starts bound : ℕ) (classes : List ℕ) (n : HashMap StateValue ℕ S) → 0 < stride →
    stride ≤ 512 → n.entries ≡ [] →
    IsKept (empty_cache stride fresh starts bound classes) n fresh
IsKept-empty stride fresh starts bound classes n positive narrow e = record {
  shape = IsShaped-empty stride fresh starts bound classes positive narrow;
  agree = Agrees-empty n e;
  counted = omega arith;
}

-- the invariant of an empty cache whose parts were just made
pub IsKept-made : {S : Type 0} (stride fresh starts bound one : ℕ) (classes : List ℕ) (states : List StateValue) (ids cells known : List ℕ)
    (n : HashMap StateValue ℕ S) →
    0 < stride → stride ≤ 512 → states ≡ [] → ids ≡ [] → cells ≡ sentinel_rows stride → known ≡ replicate starts unknown_id →
    n.entries ≡ [] → one ≡ bound →
    IsKept (record (empty_cache stride fresh starts bound classes) {
      states = states;
      ids = ids;
      cells = cells;
      starts = known;
      bound = one;
    }) n fresh
IsKept-made stride fresh starts bound one classes states ids cells known n positive narrow a b c d e f =
    rw (a, b, c, d, f) (IsKept-empty stride fresh starts bound classes n positive narrow e)

-- ---- states that are found, and states that aren't

pub place_in_none : (s : StateValue) (states : List StateValue) → states ≡ [] → row_holding s states ≡ None
unfolding row_holding
place_in_none s states e = ap (position_from (same s) 0) e

pub place_in_one : (s x : StateValue) → same s x ≡ false → row_holding s (x ∷ []) ≡ None
unfolding row_holding
place_in_one s x e = ap (λ (b : Bool). cond b (Some 0) None) e

-- what is read at a row is the state of the row
pub read_state : (items : List StateValue) (v : CacheValue) (k : ℕ) (r : StateValue) → items ≡ v.states → r ≡ get_or items k r →
    k < length v.states → r ≡ state_at v k
read_state items v k r e f l = f ∙ (ap (λ (xs : List StateValue). get_or xs k r) e ∙ any_default v.states k r dead l)
  where
    any_default : (xs : List StateValue) (k : ℕ) (d e : StateValue) → k < length xs → get_or xs k d ≡ get_or xs k e
    any_default [] k d e l = absurd (omega (arith, l))
    any_default (x ∷ xs) zero d e l = refl
    any_default (x ∷ xs) (suc k) d e l = any_default xs k d e (omega (arith, l))

-- equal lists make the same value
pub with_lists : (v : CacheValue) (states : List StateValue) (ids cells : List ℕ) → states ≡ v.states → ids ≡ v.ids → cells ≡ v.cells →
    record v { states = states; ids = ids; cells = cells } ≡ v
with_lists v states ids cells e f g = λ k. record v { states = e k; ids = f k; cells = g k }

pub IsKept-lists : {S : Type 0} (v : CacheValue) (rows : HashMap StateValue ℕ S) (used : ℕ) (states : List StateValue)
    (ids cells : List ℕ) →
    states ≡ v.states → ids ≡ v.ids → cells ≡ v.cells → IsKept v rows used →
    IsKept (record v { states = states; ids = ids; cells = cells }) rows used
IsKept-lists v rows used states ids cells e f g =
    subst (λ (w : CacheValue). IsKept w rows used) (sym (with_lists v states ids cells e f g))
