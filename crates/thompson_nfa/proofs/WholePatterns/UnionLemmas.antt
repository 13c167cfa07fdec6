-- The union that leads to further patterns, and why they are rejected.
use Rattle.std.proofs.Common.{◌≡◌, ℕ, zero, suc, ◌+◌, ◌*◌, ◌<◌, ◌≤◌, Bool, false, List, [], ◌∷◌, ◌++◌, length, get_or, take, slice_get}
use Rattle.std.proofs.Common.{Some, refl, sym, ap, ◌∙◌, subst, arith, length-append}
use Rattle.std.proofs.lemmas.List.{append_assoc, append-nil, take_more, take_all, length-take-le}
use Rattle.std.proofs.lemmas.Option.{slice_get-get_or}
use Rattle.hir_core.specs.Tree.{Tree}
use Rattle.nfa_core.specs.BuilderStates.{Assembly}
use Rattle.nfa_core.specs.BuilderStates.{union_draft, draft_at, patched}
use Rattle.nfa_core.specs.BuilderStates.{is_sparse, way_bytes}
use Rattle.nfa_core.specs.declared.build_error.BuildError.{BuildError}
use Rattle.nfa_core.specs.declared.build_error.BuildError.TheVariants as error
use Rattle.thompson_nfa.specs.Added.{Led}
use Rattle.thompson_nfa.specs.Compiled.{sum_of_bytes, TakesInAll, way_at}
use Rattle.thompson_nfa.specs.Patterns.{HasPatterns, HasAll, FailsPatterns, room_for}
use Rattle.thompson_nfa.specs.Refusals.{FailsStep, FailsIndex, ExceedsLimit, Stays}
use Rattle.thompson_nfa.specs.Room.{room}
use Rattle.thompson_nfa.specs.ByteRoom.{Bound, at_least, at_most}
use Rattle.thompson_nfa.specs.ListBytes.{bytes_of_pattern, bytes_for}
use Rattle.thompson_nfa.specs.declared.compiling.How.{How}
use Rattle.thompson_nfa.specs.declared.which_captures.WhichCaptures.{WhichCaptures}
use Rattle.thompson_nfa.proofs.WholePatterns.FurtherLemmas.{patterns_none, hole_moved, patterns_led, patterns_joined, room_joined}
use Rattle.thompson_nfa.proofs.Classes.ScalarLemmas.{kind_patched}

-- ---- errors

-- an error of a step is an error of the patterns
pub step_refuses : (which : WhichCaptures) (a b : Assembly) (n bytes whole : ℕ) (xs : List Tree) (e : BuildError) →
    b.size_limit ≡ a.size_limit → length b.drafts + n ≤ length a.drafts + whole →
    sum_of_bytes b + bytes ≤ sum_of_bytes a + 4096 * whole → FailsStep b n bytes e → FailsPatterns which a whole xs e
step_refuses which a b n bytes whole xs error.TooManyPatterns size states room r = r
step_refuses which a b n bytes whole xs error.TooManyStates size states room r = omega arith
step_refuses which a b n bytes whole xs (error.ExceededSizeLimit limit) size states room r = let x = r.1 in
    (sym size ∙ r.0, omega arith, r.2)
step_refuses which a b n bytes whole xs error.UnsupportedCaptures size states room r = r
step_refuses which a b n bytes whole xs (error.Captures err) size states room r = absurd r
step_refuses which a b n bytes whole xs error.NoMemory size states room r = r

-- an error of the patterns from number k on is an error of all of them
pub patterns_refuse : (which : WhichCaptures) (a b : Assembly) (k n whole : ℕ) (xs ys : List Tree) (e : BuildError) →
    b.size_limit ≡ a.size_limit → length b.starts ≡ length a.starts + k →
    length b.drafts + n ≤ length a.drafts + whole → sum_of_bytes b + 4096 * n ≤ sum_of_bytes a + 4096 * whole →
    ((i : ℕ) (x : Tree) → slice_get xs i ≡ Some x → slice_get ys (k + i) ≡ Some x) → FailsPatterns which b n xs e →
    FailsPatterns which a whole ys e
patterns_refuse which a b k n whole xs ys error.TooManyPatterns size starts states room inside r = r
patterns_refuse which a b k n whole xs ys error.TooManyStates size starts states room inside r =
    step_refuses which a b n (4096 * n) whole ys error.TooManyStates size states room r
patterns_refuse which a b k n whole xs ys (error.ExceededSizeLimit limit) size starts states room inside r =
    step_refuses which a b n (4096 * n) whole ys (error.ExceededSizeLimit limit) size states room r
patterns_refuse which a b k n whole xs ys error.UnsupportedCaptures size starts states room inside r = r
patterns_refuse which a b k n whole xs ys (error.Captures err) size starts states room inside r =
    let P : ℕ → Type 0 = λ p. FailsIndex p r.1 err in
    let number : length b.starts + r.0 ≡ length a.starts + (k + r.0) = omega (arith, starts) in
    (k + r.0, r.1, r.2, inside r.0 r.2 r.3, r.4, subst P number r.5)
patterns_refuse which a b k n whole xs ys error.NoMemory size starts states room inside r = r

size_after : {which : WhichCaptures} {hole : ℕ} {a b : Assembly} {ss : List ℕ} {xs : List Tree} {n spare : ℕ} →
    HasPatterns which hole a b ss xs n spare → b.size_limit ≡ a.size_limit
size_after h = ap (λ (z : Assembly). z.size_limit) h.settings

starts_after : {which : WhichCaptures} {hole : ℕ} {a b : Assembly} {ss : List ℕ} {xs : List Tree} {n spare : ℕ} →
    HasPatterns which hole a b ss xs n spare → length b.starts ≡ length a.starts + length xs
starts_after {which} {hole} {a} {b} {ss} {xs} h = omega (arith, ap length h.starts_are, length-append a.starts ss, h.as_many)

-- an error of patterns that come after others
pub later_refuse : {which : WhichCaptures} {hole : ℕ} {a b : Assembly} {ss : List ℕ} {xs : List Tree} {n spare : ℕ} (more whole : ℕ)
    (ys zs : List Tree) (e : BuildError) → HasPatterns which hole a b ss xs n spare →
    n + more ≤ whole → ((i : ℕ) (x : Tree) → slice_get ys i ≡ Some x → slice_get zs (length xs + i) ≡ Some x) →
    FailsPatterns which b more ys e → FailsPatterns which a whole zs e
later_refuse {which} {hole} {a} {b} {ss} {xs} {n} {spare} more whole ys zs e h le inside r =
    patterns_refuse which a b (length xs) more whole ys zs e (size_after h) (starts_after h) (omega (arith, h.states, le)) (omega (
      arith,
      h.states,
      h.bytes,
      le,
    )) inside r

-- an error of a step that comes after patterns
pub later_stays : {which : WhichCaptures} {hole : ℕ} {a b c : Assembly} {ss : List ℕ} {xs : List Tree} {n spare : ℕ} (more bytes whole : ℕ)
    (zs : List Tree) (e : BuildError) → HasPatterns which hole a b ss xs n spare →
    n + more ≤ whole → bytes ≤ spare + 4096 * more → Stays b c more bytes e → FailsPatterns which a whole zs e
later_stays {which} {hole} {a} {b} {c} {ss} {xs} {n} {spare} more bytes whole zs e h le room r =
    step_refuses which a b more bytes whole zs e (size_after h) (omega (arith, h.states, le)) (omega (
      arith,
      h.states,
      h.bytes,
      le,
      room,
    )) r.cause

-- ---- the union

-- some of the further patterns were compiled
pub record IsFurther (how : How) (union : ℕ) (a b : Assembly) (xs : List Tree) : Type 0 where
  pub ways : List ℕ
  pub has : HasPatterns how.which union a b ways xs (room_for how.shrink xs) 0
  pub leads : (first : List ℕ) → draft_at a.drafts union ≡ union_draft first → draft_at b.drafts union ≡ union_draft (first ++ ways)
  pub kind : is_sparse (draft_at b.drafts union) ≡ false
  pub weighs : TakesInAll a b (bytes_for at_least how.which xs) (bytes_for (at_most how.shrink) how.which xs)
  pub way : way_at b union ≡ 4

pub further_none : (how : How) (union : ℕ) (a : Assembly) → is_sparse (draft_at a.drafts union) ≡ false → way_at a union ≡ 4 →
    IsFurther how union a a []
further_none how union a kind way = record {
  ways = [];
  has = patterns_none how.which union a;
  leads = λ first e. e ∙ ap union_draft (sym (append-nil first));
  kind = kind;
  weighs = record { least = omega arith; most = omega arith };
  way = way;
}

bytes_joined : (b : Bound) (which : WhichCaptures) (xs : List Tree) (x : Tree) →
    bytes_for b which (xs ++ x ∷ []) ≡ bytes_for b which xs + (bytes_of_pattern b which x + 4)
bytes_joined b which [] x = omega arith
bytes_joined b which (y ∷ xs) x = omega (arith, bytes_joined b which xs x)

module _ (how : How) (union : ℕ) (a b c : Assembly) (xs : List Tree) (x : Tree) (s : ℕ) (there : union < length a.drafts)
    (so_far : IsFurther how union a b xs)
    (next : HasAll how.which b c (s ∷ []) (x ∷ []) (room how.shrink x + 3) 4)
    (weighs : TakesInAll b c (bytes_of_pattern at_least how.which x) (bytes_of_pattern (at_most how.shrink) how.which x)) where
  kept_union : draft_at c.drafts union ≡ draft_at b.drafts union
  kept_union = let l = so_far.has.longer in let m = next.longer in next.same union (omega arith) (λ e. omega arith)

  way_there : way_at c union ≡ 4
  way_there = ap way_bytes kept_union ∙ so_far.way

  pub union_kind : is_sparse (draft_at c.drafts union) ≡ false
  union_kind = ap is_sparse kept_union ∙ so_far.kind

  both : HasPatterns how.which union a c (so_far.ways ++ s ∷ []) (xs ++ x ∷ []) (room_for how.shrink xs + (room how.shrink x + 3)) 4
  both = let l = so_far.has.longer in
      patterns_joined how.which union a b c so_far.ways (s ∷ []) xs (x ∷ []) (room_for how.shrink xs) (room how.shrink x + 3) 0 4 so_far.has
      (hole_moved how.which b c (s ∷ []) (x ∷ []) (room how.shrink x + 3) 4 union (λ q low high e. omega arith) next)

  pub further_one : (d : Assembly) → Led c d union s → IsFurther how union a d (xs ++ x ∷ [])
  further_one d led =
      let P : ℕ → Type 0 = λ n. HasPatterns how.which union a d (so_far.ways ++ s ∷ []) (xs ++ x ∷ []) n 0 in
      let fits : room_for how.shrink xs + (room how.shrink x + 3) ≡ room_for how.shrink (xs ++ x ∷ []) =
      omega (arith, room_joined how.shrink xs (x ∷ [])) in
      record {
        ways = so_far.ways ++ s ∷ [];
        has = subst P fits (patterns_led how.which a c d (so_far.ways ++ s ∷ []) (xs
            ++ x ∷ []) (room_for how.shrink xs + (room how.shrink x + 3)) 4 0 union s both led (omega arith));
        leads = λ first e. led.here ∙ ap (patched s) (kept_union ∙ so_far.leads first e)
            ∙ ap union_draft (append_assoc first so_far.ways (s ∷ []));
        kind = ap is_sparse led.here ∙ kind_patched s (draft_at c.drafts union) ∙ union_kind;
        weighs = record {
          least = omega (arith, so_far.weighs.least, weighs.least, led.takes, way_there, bytes_joined at_least how.which xs x);
          most = omega (arith, so_far.weighs.most, weighs.most, led.takes, way_there, bytes_joined (at_most how.shrink) how.which xs x);
        };
        way = led.ways union ∙ way_there;
      }

  -- adding the transition to it fails
  pub way_refused : (d : Assembly) (whole : ℕ) (zs : List Tree) (e : BuildError) →
      room_for how.shrink xs + (room how.shrink x + 3) ≤ whole → Stays c d 0 4 e → FailsPatterns how.which a whole zs e
  way_refused d whole zs e le r = later_stays 0 4 whole zs e both (omega arith) (omega arith) r

-- the first of the patterns that are left is rejected
only_one : (xs zs : List Tree) (i : ℕ) (y : Tree) → slice_get zs i ≡ Some y → length xs ≡ i → (k : ℕ) (x : Tree) →
    slice_get (y ∷ []) k ≡ Some x → slice_get zs (length xs + k) ≡ Some x
only_one xs zs i y here same zero x e =
    let is : length xs + 0 ≡ i = omega arith in ap (slice_get zs) is ∙ here ∙ e
only_one xs zs i y here same (suc k) x e = absurd (cc)

pub first_left_refused : (how : How) (union : ℕ) (a b : Assembly) (xs zs : List Tree) (x : Tree) (e : BuildError) →
    IsFurther how union a b xs → slice_get zs (length xs) ≡ Some x →
    room_for how.shrink xs + (room how.shrink x + 3) ≤ room_for how.shrink zs →
    FailsPatterns how.which b (room how.shrink x + 3) (x ∷ []) e → FailsPatterns how.which a (room_for how.shrink zs) zs e
first_left_refused how union a b xs zs x e f here le r =
    later_refuse (room how.shrink x + 3) (room_for how.shrink zs) (x ∷ []) zs e f.has le (only_one xs zs (length xs) x here refl) r

-- ---- positions in the list

pub room_at : (shrink : Bool) (zs : List Tree) (i : ℕ) (d : Tree) → i < length zs →
    room_for shrink (take i zs) + (room shrink (get_or zs i d) + 3) ≤ room_for shrink zs
room_at shrink [] i d l = absurd (omega arith)
room_at shrink (z ∷ zs) zero d l = omega arith
room_at shrink (z ∷ zs) (suc i) d l = omega (arith, room_at shrink zs i d (omega arith))

bytes_at : (b : Bound) (which : WhichCaptures) (zs : List Tree) (i : ℕ) (d : Tree) → i < length zs →
    bytes_for b which (take i zs) + (bytes_of_pattern b which (get_or zs i d) + 4) ≤ bytes_for b which zs
bytes_at b which [] i d l = absurd (omega arith)
bytes_at b which (z ∷ zs) zero d l = omega arith
bytes_at b which (z ∷ zs) (suc i) d l = omega (arith, bytes_at b which zs i d (omega arith))

module _ (how : How) (union : ℕ) (a b c : Assembly) (zs : List Tree) (i : ℕ) (x : Tree) (inside : i < length zs) (is : x ≡ get_or zs i x)
    (there : union < length a.drafts)
    (so_far : IsFurther how union a b (take i zs)) where
  taken : length (take i zs) ≡ i
  taken = length-take-le i zs (omega arith)

  fits : room_for how.shrink (take i zs) + (room how.shrink x + 3) ≤ room_for how.shrink zs
  fits = omega (arith, room_at how.shrink zs i x inside, ap (room how.shrink) is)

  fits_bytes : bytes_for (at_most how.shrink) how.which (take i zs) + (bytes_of_pattern (at_most how.shrink) how.which x + 4)
      ≤ bytes_for (at_most how.shrink) how.which zs
  fits_bytes = omega (
    arith,
    bytes_at (at_most how.shrink) how.which zs i x inside,
    ap (bytes_of_pattern (at_most how.shrink) how.which) is,
  )

  pub pattern_passed : (e : BuildError) → ExceedsLimit b (bytes_of_pattern (at_most how.shrink) how.which x) e →
      ExceedsLimit a (bytes_for (at_most how.shrink) how.which zs) e
  pattern_passed e p = omega (arith, p, so_far.weighs.most, fits_bytes)

  pub union_passed : (e : BuildError) →
      TakesInAll b c (bytes_of_pattern at_least how.which x) (bytes_of_pattern (at_most how.shrink) how.which x) → ExceedsLimit c 4 e →
      ExceedsLimit a (bytes_for (at_most how.shrink) how.which zs) e
  union_passed e w p = omega (arith, w.most, p, so_far.weighs.most, fits_bytes)

  pub pattern_refused : (e : BuildError) → FailsPatterns how.which b (room how.shrink x + 3) (x ∷ []) e →
      FailsPatterns how.which a (room_for how.shrink zs) zs e
  pattern_refused e r =
      first_left_refused how union a b (take i zs) zs x e so_far (ap (slice_get zs) taken ∙ slice_get-get_or zs i x inside
      ∙ ap Some (sym is)) fits r

  pub union_refused : (d : Assembly) (s : ℕ) (e : BuildError) → HasAll how.which b c (s ∷ []) (x ∷ []) (room how.shrink x + 3) 4 →
      TakesInAll b c (bytes_of_pattern at_least how.which x) (bytes_of_pattern (at_most how.shrink) how.which x) → Stays c d 0 4 e →
      FailsPatterns how.which a (room_for how.shrink zs) zs e
  union_refused d s e next w r = way_refused how union a b c (take i zs) x s there so_far next w d (room_for how.shrink zs) zs e fits r

  pub further_next : (d : Assembly) (s : ℕ) → HasAll how.which b c (s ∷ []) (x ∷ []) (room how.shrink x + 3) 4 →
      TakesInAll b c (bytes_of_pattern at_least how.which x) (bytes_of_pattern (at_most how.shrink) how.which x) → Led c d union s →
      IsFurther how union a d (take (i + 1) zs)
  further_next d s next w led =
      let P : List Tree → Type 0 = λ xs. IsFurther how union a d xs in
      let more : take (i + 1) zs ≡ take i zs ++ x ∷ [] = take_more zs i x inside ∙ ap (λ (y : Tree). take i zs ++ y ∷ []) (sym is) in
      subst P (sym more) (further_one how union a b c (take i zs) x s there so_far next w d led)

pub further_weighs : (how : How) (union : ℕ) (a b : Assembly) (zs : List Tree) (i : ℕ) → length zs ≤ i →
    IsFurther how union a b (take i zs) →
    TakesInAll a b (bytes_for at_least how.which zs) (bytes_for (at_most how.shrink) how.which zs)
further_weighs how union a b zs i over f =
    let P : List Tree → Type 0 =
    λ xs. TakesInAll a b (bytes_for at_least how.which xs) (bytes_for (at_most how.shrink) how.which xs) in
    subst P (take_all i zs over) f.weighs
