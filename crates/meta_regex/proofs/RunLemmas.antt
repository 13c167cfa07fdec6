-- A run of bytes of a class is the preferred span of rounds of that class, and no span starts where a run is too short.
use Rattle.std.proofs.Common.{◌≡◌, ℕ, zero, suc, ◌+◌, ◌-◌, ◌<◌, ◌≤◌, inl, inr, Bool, true, false, nat_le, nat_lt, not, List, [], ◌∷◌, ◌++◌, length, All}
use Rattle.std.proofs.Common.{slice_get, Some, Option, refl, sym, ap, subst, ◌∙◌, arith, true≢false, get_or, if◌then◌else◌}
use Rattle.std.specs.List.{flat_map}
use Rattle.std.specs.Option.{option_or}
use Rattle.std.proofs.lemmas.Bool.{and_from, and_parts, cases_lt, cond-true, le-leb, lt-ltb, ltb-true}
use Rattle.std.proofs.lemmas.Option.{slice_get_within, slice_get-get_or, get_or_from_slice_get}
use Rattle.search_core.specs.ByteSets.{has}
use Rattle.search_core.specs.Characters.{character_at, four_bytes, spelling_len, three_bytes, two_bytes}
use Rattle.hir_core.specs.Tree.{Tree, byte_class, char_class, empty, literal, look, repetition, capture, nothing, cat, never, alt}
use Rattle.hir_core.specs.Means.{Looks, Means, is_member}
use Rattle.hir_core.specs.PreferredEnds.{Ends, Has, at_least, class_end, character_end, preferred_ends, up_to}
use Rattle.hir_core.proofs.ForCallers.{nil_from_none, preferred_ends_complete, preferred_ends_sound}
use Rattle.literal_search.specs.Searches.{IsNextStart, StartsFrom, StartsNowhere}
use Rattle.meta_regex.specs.Runs.{AreMembers, AreRoundsOf, IsRunOf, PrefersEnd, has_byte}
use Rattle.meta_regex.specs.declared.runs.Run.{Run}
use Rattle.meta_regex.proofs.FirstByteLemmas.{byte_below}

-- ---- rounds that are a byte each, up to an offset where none begins
-- a list of ends, and the first of them
pub record Led (ends : List ℕ) (j : ℕ) : Type 0 where
  pub others : List ℕ
  pub is : ends ≡ j ∷ others

module _ (f : Ends) (a e : ℕ) (one : (k : ℕ) → a ≤ k → k < e → f k ≡ (k + 1) ∷ []) (stop : f e ≡ []) where
  up_to_led : (n k : ℕ) → a ≤ k → k ≤ e → e ≤ k + n → Led (up_to true f n k) e
  up_to_led zero k low high room = record { others = []; is = ap (λ (m : ℕ). m ∷ []) (omega (arith, high, room)) }
  up_to_led (suc n) k low high room = elim (cases_lt k e) [
    | inl less ↦
        let rest = up_to_led n (k + 1) (omega (arith, low)) (omega (arith, less)) (omega (arith, room)) in
        record {
          others = (rest.others ++ []) ++ k ∷ [];
          is = ap (λ (l : List ℕ). flat_map (up_to true f n) l ++ k ∷ []) (one k low less) ∙ ap (λ (l : List ℕ). (l ++ []) ++ k ∷ []) rest.is;
        }
    | inr above ↦
        let here : k ≡ e = omega (arith, high, above) in
        record {
          others = [];
          is = ap (λ (m : ℕ). flat_map (up_to true f n) (f m) ++ k ∷ []) here
              ∙ ap (λ (l : List ℕ). flat_map (up_to true f n) l ++ k ∷ []) stop ∙ ap (λ (m : ℕ). m ∷ []) here;
        }
  ]

  enough_led : (h : List ℕ) → e ≤ length h → (least k : ℕ) → a ≤ k → k + least ≤ e → Led (at_least h true f least k) e
  enough_led h within zero k low room = up_to_led (length h - k) k low (omega (arith, room)) (omega (arith, within, room))
  enough_led h within (suc least) k low room =
      let rest = enough_led h within least (k + 1) (omega (arith, low)) (omega (arith, room)) in
      record {
        others = rest.others ++ [];
        is = ap (λ (l : List ℕ). flat_map (at_least h true f least) l) (one k low (omega (arith, room))) ∙ ap (λ (l : List ℕ). l ++ []) rest.is;
      }

  pub too_few : (h : List ℕ) (least k : ℕ) → a ≤ k → k ≤ e → e < k + least → at_least h true f least k ≡ []
  too_few h zero k low high short = absurd (omega (arith, high, short))
  too_few h (suc least) k low high short = elim (cases_lt k e) [
    | inl less ↦
        ap (λ (l : List ℕ). flat_map (at_least h true f least) l) (one k low less)
        ∙ ap (λ (l : List ℕ). l ++ []) (too_few h least (k + 1) (omega (arith, low)) (omega (arith, less)) (omega (arith, short)))
    | inr above ↦
        let here : k ≡ e = omega (arith, high, above) in
        ap (λ (m : ℕ). flat_map (at_least h true f least) (f m)) here ∙ ap (λ (l : List ℕ). flat_map (at_least h true f least) l) stop
  ]

-- ---- a class, byte by byte
one_if : (b : Bool) (j : ℕ) → b ≡ true → (if b then j ∷ [] else []) ≡ j ∷ []
one_if true j is = refl
one_if false j is = cc

byte_ends : (ranges : List (ℕ × ℕ)) (o : Option ℕ) (i b : ℕ) → o ≡ Some b → is_member ranges b ≡ true → class_end ranges o i ≡ (i + 1) ∷ []
byte_ends ranges o i b is member =
    ap (λ (o : Option ℕ). class_end ranges o i) is ∙ one_if (is_member ranges b) (i + 1) member

-- ---- rounds of a class
module _ (r : Run) (body : Tree) (it : AreRoundsOf r body) (h : List ℕ) (bytes : All (λ b. b < 256) h) (looks : Looks) where
  -- no round begins where no byte is, or one with which none begins
  pub no_round : (s : ℕ) → (s < length h → has r.first (get_or h s 0) ≡ false) → preferred_ends looks h body s ≡ []
  no_round s outside = nil_from_none (preferred_ends looks h body s) (λ k ends.
      let m = it.first.begun looks h s k bytes (preferred_ends_sound looks h body s k ends) in
      true≢false (sym m.2 ∙ ap (has r.first) (sym (get_or_from_slice_get h s m.0 0 m.1)) ∙ outside (slice_get_within h s m.0 m.1)))

  pub one_round : (k : ℕ) → k < length h → has r.members (get_or h k 0) ≡ true → preferred_ends looks h body k ≡ (k + 1) ∷ []
  one_round k within member =
      it.members.one looks h k (get_or h k 0) bytes (slice_get-get_or h k 0 within) member

-- ---- runs
module _ (r : Run) (x : Tree) (it : IsRunOf r x) (h : List ℕ) (bytes : All (λ b. b < 256) h) (looks : Looks) where
  abbrev round : Ends
  round = preferred_ends looks h it.body

  none_from : (s : ℕ) → (s < length h → has r.first (get_or h s 0) ≡ false) → round s ≡ []
  none_from s outside = no_round r it.body it.rounds h bytes looks s outside

  pub none_starts : (s : ℕ) → preferred_ends looks h x s ≡ [] → (j : ℕ) → Means looks h x s j → ⊥
  none_starts s none j m = subst (λ (l : List ℕ). Has l j) none (preferred_ends_complete looks h x s j m)

  pub some_rounds : (s least : ℕ) → 0 < least → round s ≡ [] → at_least h true round least s ≡ []
  some_rounds s zero some none = absurd (omega (arith, some))
  some_rounds s (suc least) some none = ap (λ (l : List ℕ). flat_map (at_least h true round least) l) none

  none_outside : (s : ℕ) → (s < length h → has r.first (get_or h s 0) ≡ false) → (j : ℕ) → Means looks h x s j → ⊥
  none_outside s outside = none_starts s (it.ends looks h s ∙ some_rounds s r.least it.some (none_from s outside))

  -- between these offsets each byte is a round
  module _ (s e : ℕ) (within : e ≤ length h) (members : (k : ℕ) → s ≤ k → k < e → has r.members (get_or h k 0) ≡ true)
      (outside : e < length h → has r.first (get_or h e 0) ≡ false) where
    one_each : (k : ℕ) → s ≤ k → k < e → round k ≡ (k + 1) ∷ []
    one_each k low high = one_round r it.body it.rounds h bytes looks k (omega (arith, high, within)) (members k low high)

    run_led : s + r.least ≤ e → Led (preferred_ends looks h x s) e
    run_led room =
        let led = enough_led round s e one_each (none_from e outside) h within r.least s (omega arith) room in
        record { others = led.others; is = it.ends looks h s ∙ led.is }

    run_short : (k : ℕ) → s ≤ k → k ≤ e → e < k + r.least → (j : ℕ) → Means looks h x k j → ⊥
    run_short k low high short =
        none_starts k (it.ends looks h k ∙ too_few round s e one_each (none_from e outside) h r.least k low high short)

-- ---- what a search for a run has found so far
module _ (r : Run) (h : List ℕ) (bytes : All (λ b. b < 256) h) (from at start : ℕ) (within : start ≤ length h) (reached : at ≤ start)
    (skipped : (k : ℕ) → at ≤ k → k < start → has r.starts (get_or h k 0) ≡ false) (x : Tree) (it : IsRunOf r x)
    (low : from ≤ at) (so : StartsFrom x h from at) where
  none_between : (k : ℕ) → at ≤ k → k < start → has r.first (get_or h k 0) ≡ false
  none_between k after before =
      sym (it.rounds.starts (get_or h k 0) (bytes k 0 (omega (arith, before, within)))) ∙ skipped k after before

  none_to_start : StartsFrom x h from start
  none_to_start = record {
    starts = λ looks s j above inside m. elim (cases_lt s start) [
      | inl less ↦ absurd (none_outside r x it h bytes looks s (λ inner. none_between s (so.starts looks s j above inside m) less) j m)
      | inr after ↦ after
    ];
  }

  pub stops_before : IsNextStart x h from (Some start)
  stops_before = (omega (arith, low, reached), within, none_to_start)

  module _ (end : ℕ) (high : end ≤ length h) (members : (k : ℕ) → start ≤ k → k < end → has r.members (get_or h k 0) ≡ true)
      (outside : end < length h → has r.first (get_or h end 0) ≡ false) where
    pub finds_run : start + r.least ≤ end → IsNextStart x h from (Some start) × (start < end) × (end ≤ length h) × PrefersEnd x h start end
    finds_run room = (
      stops_before,
      omega (arith, room, it.some),
      high,
      record {
        others = λ looks. (run_led r x it h bytes looks start end high members outside room).others;
        first = λ looks. (run_led r x it h bytes looks start end high members outside room).is;
      },
    )

    -- no span starts in a run that is too short, nor at the byte after it
    pub skips_run : start ≤ end → end < start + r.least → (to : ℕ) → to ≤ end + 1 → StartsFrom x h from to
    skips_run order short to most = record {
      starts = λ looks s j above inside m. elim (cases_lt s (end + 1)) [
        | inl less ↦ elim (cases_lt s start) [
          | inl before ↦ absurd (omega (arith, before, none_to_start.starts looks s j above inside m))
          | inr after ↦ absurd (run_short r x it h bytes looks start end high members outside s after (omega (arith, less)) (omega (arith, after, short)) j m)
        ]
        | inr later ↦ omega (arith, later, most)
      ];
    }

-- no span starts at the end
pub none_left : (r : Run) (x : Tree) → IsRunOf r x → (h : List ℕ) → All (λ b. b < 256) h → (from at : ℕ) → length h ≤ at →
    StartsFrom x h from at → StartsNowhere x h from
none_left r x it h bytes from at done so = record {
  none = λ looks s j low within m.
      none_outside r x it h bytes looks s (λ inside. absurd (omega (arith, inside, done, so.starts looks s j low within m))) j m;
}

-- ---- what a class is, byte by byte
pub character_of : (h : List ℕ) (i b : ℕ) → slice_get h i ≡ Some b → nat_lt b 0x80 ≡ true → character_at h i ≡ Some b
character_of h i b at low =
    let same = get_or_from_slice_get h i b 0 at in
    ap (λ (o : Option ℕ). option_or o (option_or (two_bytes h i) (option_or (three_bytes h i) (four_bytes h i))))
    (cond-true _ _ _ (and_from _ _ (lt-ltb i (length h) (slice_get_within h i b at)) (le-leb _ _ (omega (arith, same, ltb-true b 0x80 low))))
    ∙ ap (λ (n : ℕ). Some n) same)

character_ends : (ranges : List (ℕ × ℕ)) (o : Option ℕ) (i b : ℕ) → o ≡ Some b → nat_lt b 0x80 ≡ true → is_member ranges b ≡ true →
    character_end ranges o i ≡ (i + 1) ∷ []
character_ends ranges o i b is low member =
    ap (λ (o : Option ℕ). character_end ranges o i) is ∙ one_if (is_member ranges b) (i + spelling_len b) member
    ∙ ap (λ (n : ℕ). (i + n) ∷ []) (one_byte_long b low)
  where
    one_byte_long : (b : ℕ) → nat_lt b 0x80 ≡ true → spelling_len b ≡ 1
    one_byte_long b low = ap (λ (t : Bool). if t then 1 else if nat_le b 0x7FF then 2 else if nat_le b 0xFFFF then 3 else 4)
        (le-leb b 0x7F (omega (arith, ltb-true b 0x80 low)))

byte_is_span : (x : Tree) (looks : Looks) (h : List ℕ) (i b : ℕ) → slice_get h i ≡ Some b → has_byte x b ≡ true →
    preferred_ends looks h x i ≡ (i + 1) ∷ []
byte_is_span (byte_class ranges) looks h i b at member = byte_ends ranges (slice_get h i) i b at member
byte_is_span (char_class ranges) looks h i b at member =
    let both = and_parts (nat_lt b 0x80) (is_member ranges b) member in
    character_ends ranges (character_at h i) i b (character_of h i b at both.0) both.0 both.1
byte_is_span empty looks h i b at member = cc
byte_is_span (literal bytes) looks h i b at member = cc
byte_is_span (look l) looks h i b at member = cc
byte_is_span (repetition n m g y) looks h i b at member = cc
byte_is_span (capture n m y) looks h i b at member = cc
byte_is_span nothing looks h i b at member = cc
byte_is_span (cat y z) looks h i b at member = cc
byte_is_span never looks h i b at member = cc
byte_is_span (alt y z) looks h i b at member = cc

pub members_by : (set : List Bool) (x : Tree) → ((b : ℕ) → b < 256 → has set b ≡ true → has_byte x b ≡ true) → AreMembers set x
members_by set x all = record {
  one = λ looks h i b bytes at member. byte_is_span x looks h i b at (all b (byte_below h i b bytes at) member);
}

-- what isn't so at an offset
pub not_in : (set : List Bool) (b : ℕ) → (has set b ≡ true → ⊥) → has set b ≡ false
not_in set b none = by_test (has set b) none
  where
    by_test : (t : Bool) → (t ≡ true → ⊥) → t ≡ false
    by_test true none = absurd (none refl)
    by_test false none = refl

-- ---- the end of a run, which is found in two steps
pub members_between : (r : Run) (body : Tree) → AreRoundsOf r body → (h : List ℕ) → All (λ b. b < 256) h → (from at to : ℕ) → to ≤ length h →
    ((k : ℕ) → from ≤ k → k < at → has r.members (get_or h k 0) ≡ true) → ((k : ℕ) → at ≤ k → k < to → has r.ends (get_or h k 0) ≡ false) →
    (k : ℕ) → from ≤ k → k < to → has r.members (get_or h k 0) ≡ true
members_between r body it h bytes from at to within before after k low high = elim (cases_lt k at) [
  | inl less ↦ before k low less
  | inr above ↦ by_test (has r.members (get_or h k 0)) (sym (it.others (get_or h k 0) (bytes k 0 (omega (arith, high, within)))) ∙ after k above high)
]
  where
    by_test : (t : Bool) → not t ≡ false → t ≡ true
    by_test true none = refl
    by_test false none = cc
