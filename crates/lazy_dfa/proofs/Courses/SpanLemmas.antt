-- Runs and turns of a scan in its span, and what they report to a cache.
use Rattle.std.proofs.Common.{◌≡◌, ◌⊎◌, ℕ, zero, suc, ◌-◌, ◌<◌, ◌≤◌, Bool, true, false, ◌&&◌, not, List, [], ◌∷◌, Option, Some, None, refl}
use Rattle.std.proofs.Common.{sym, ap, subst, ⊎_elim, arith}
use Rattle.std.specs.Option.{option_or}
use Rattle.nfa_core.specs.Ways.{offset_of}
use Rattle.nfa_core.specs.Places.{first}
use Rattle.determinize_core.specs.States.{StateValue}
use Rattle.determinize_core.specs.Walked.{end_at}
use Rattle.search_types.specs.Inputs.{Search}
use Rattle.lazy_dfa.specs.Caches.{CacheValue, IsCacheOf, IsRow, names_held}
use Rattle.lazy_dfa.specs.Courses.{state_after, best_after, HasNoStop}
use Rattle.lazy_dfa.specs.Dfas.{Dfa, reader}
use Rattle.lazy_dfa.specs.Scans.{is_empty}
use Rattle.lazy_dfa.specs.Points.{GoesTo, point}
use Rattle.lazy_dfa.specs.Readers.{Reader}
use Rattle.lazy_dfa.specs.ScanOffsets.{left_at, GoesBetween}
use Rattle.lazy_dfa.proofs.Courses.PointLemmas.{runs_none}

-- ---- runs that have no stop

neither : (x y : Option (ℕ × ℕ)) → None ≡ option_or x y → (None ≡ x) × (None ≡ y)
neither None y e = (refl, e)
neither (Some p) y e = (cc, cc)

none_listed : (i : ℕ) (ms : List ℕ) → None ≡ end_at i (first ms) → is_empty ms ≡ true
none_listed i [] e = refl
none_listed i (m ∷ ms) e = cc

never_wanted : (earliest empty : Bool) → empty ≡ true → earliest && not empty ≡ false
never_wanted false empty e = refl
never_wanted true empty e = ap not e

module _ (r : Reader) (h : List ℕ) (i : ℕ) (s : StateValue) where
  -- if nothing was recorded on the path, no state on it lists a match
  none_there : (n : ℕ) → None ≡ best_after r h i s None n → (k : ℕ) → k < n → is_empty (state_after r h i s (suc k)).matches ≡ true
  none_there zero e k l = absurd (omega (arith, l))
  none_there (suc n) e k l =
      let both = neither (end_at (offset_of r.automaton.reverse i n) (first (state_after r h i s (suc n)).matches))
      (best_after r h i s None n) e in
      ⊎_elim
      (λ (less : k < n). none_there n both.1 k less)
      (λ (same : k ≡ n). subst (λ (j : ℕ). is_empty (state_after r h i s (suc j)).matches ≡ true) (sym same)
      (none_listed (offset_of r.automaton.reverse i n) (state_after r h i s (suc n)).matches both.0))
      (below k n l)
    where
      below : (k n : ℕ) → k < suc n → (k < n) ⊎ (k ≡ n)
      below k n l = grind (arith, l)

  no_stop : (earliest : Bool) (n : ℕ) → None ≡ best_after r h i s None n → HasNoStop r earliest h i s n
  no_stop earliest n e k l = never_wanted earliest (is_empty (state_after r h i s (suc k)).matches) (none_there n e k l)

-- a path on which nothing is recorded, whatever was recorded before, has no stop
between : (d : Dfa) (v : CacheValue) (h : List ℕ) (from at id to k j : ℕ) (best : Option (ℕ × ℕ)) → j ≡ k →
    ((m n : ℕ) (best : Option (ℕ × ℕ)) → GoesTo d h (point v m n from id best) (point v m n at to best) k) →
    (earliest : Bool) (m n : ℕ) → GoesBetween d earliest h (point v m n from id best) (point v m n at to best) j
between d v h from at id to k j best e goes earliest m n =
    subst (λ (x : ℕ). GoesBetween d earliest h (point v m n from id best) (point v m n at to best) x) (sym e)
    (goes m n best, λ s held. no_stop (reader d) h from s earliest k ((goes m n None).best s (names_held held)))

pub stays_between : (d : Dfa) (v : CacheValue) (q : Search) (is_reverse : Bool) (at id : ℕ) (best : Option (ℕ × ℕ)) → IsCacheOf d v →
    IsRow v id →
    (earliest : Bool) (m n : ℕ) → GoesBetween d earliest q.haystack (point v m n at id best) (point v m n at id best)
    (left_at is_reverse q at - left_at is_reverse q at)
stays_between d v q is_reverse at id best own row =
    between d v q.haystack at at id id 0 (left_at is_reverse q at - left_at is_reverse q at) best (omega arith)
    (runs_none d v q.haystack at id 0 own row refl)

-- a forward run: the haystack that it was passed, its end, and the paths up to there
pub forward_between : (d : Dfa) (v : CacheValue) (q : Search) (h : List ℕ) (is_reverse : Bool) (from at id to end : ℕ) (best : Option (ℕ ×
    ℕ)) → h ≡ q.haystack → end ≡ q.end → is_reverse ≡ false → from ≤ at → at ≤ end →
    ((m n : ℕ) (best : Option (ℕ × ℕ)) → GoesTo d h (point v m n from id best) (point v m n at to best) (at - from)) →
    (earliest : Bool) (m n : ℕ) → GoesBetween d earliest q.haystack (point v m n from id best) (point v m n at to best)
    (left_at is_reverse q from - left_at is_reverse q at)
forward_between d v q h true from at id to end best same last up past within goes = absurd cc
forward_between d v q h false from at id to end best same last up past within goes =
    between d v q.haystack from at id to (at - from) (left_at false q from - left_at false q at) best (omega (arith, past, within, last))
    (λ m n b. subst (λ (x : List ℕ). GoesTo d x (point v m n from id b) (point v m n at to b) (at - from)) same (goes m n b))

pub reverse_between : (d : Dfa) (v : CacheValue) (q : Search) (h : List ℕ) (is_reverse : Bool) (from at id to end : ℕ) (best : Option (ℕ ×
    ℕ)) → h ≡ q.haystack → end ≡ q.start → is_reverse ≡ true → at ≤ from → end ≤ at →
    ((m n : ℕ) (best : Option (ℕ × ℕ)) → GoesTo d h (point v m n from id best) (point v m n at to best) (from - at)) →
    (earliest : Bool) (m n : ℕ) → GoesBetween d earliest q.haystack (point v m n from id best) (point v m n at to best)
    (left_at is_reverse q from - left_at is_reverse q at)
reverse_between d v q h false from at id to end best same last is_reverse past within goes = absurd cc
reverse_between d v q h true from at id to end best same last is_reverse past within goes =
    between d v q.haystack from at id to (from - at) (left_at true q from - left_at true q at) best (omega (arith, past, within, last))
    (λ m n b. subst (λ (x : List ℕ). GoesTo d x (point v m n from id b) (point v m n at to b) (from - at)) same (goes m n b))
