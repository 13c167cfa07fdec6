-- A sequence of states over bytes is a sequence over a haystack that has them.
use Rattle.std.proofs.Common.{◌≡◌, ℕ, zero, suc, ◌+◌, ◌-◌, ◌<◌, ◌≤◌, Bool, true, false, List, [], ◌∷◌, ◌++◌, map, reverse, length, Option}
use Rattle.std.proofs.Common.{Some, None, refl, sym, ap, ◌∙◌, arith, append_assoc, append-nil}
use Rattle.std.specs.Bool.{nat_eq}
use Rattle.std.specs.List.{slice_get, filter}
use Rattle.std.specs.Option.{option_to_list}
use Rattle.std.proofs.lemmas.List.{reverse-append, length-reverse, length-append}
use Rattle.std.proofs.lemmas.Option.{slice_get_past, slice_get_within}
use Rattle.search_core.specs.Text.{byte_at, byte_before}
use Rattle.look_core.specs.Terminators.{Terminator}
use Rattle.search_types.specs.declared.match_kind.MatchKind.{MatchKind}
use Rattle.search_types.specs.declared.match_kind.MatchKind.TheVariants.{All as AllMatches, LeftmostFirst}
use Rattle.nfa_core.specs.Places.{first}
use Rattle.nfa_core.specs.Nfa.{Automaton, IsWellFormed}
use Rattle.nfa_core.specs.Ways.{Text, bytes_left, offset_of, ends_from}
use Rattle.nfa_core.proofs.ForCallers.{one_value, no_value}
use Rattle.determinize_core.specs.States.{StateValue}
use Rattle.determinize_core.specs.Starts.{start_of}
use Rattle.determinize_core.specs.Steps.{start_value, step_value, unit_at, unit_before, value_after}
use Rattle.determinize_core.specs.WalkLists.{walked, units_of, haystack_of, starting_index, low_edge, high_edge, text_of}
use Rattle.determinize_core.proofs.ListedLemmas.{all_listed, one_listed, some_listed, never_listed}

-- ---- units

unit_there : (bytes : List ℕ) (k : ℕ) (u : Option ℕ) → slice_get (units_of bytes) k ≡ Some u → slice_get bytes k ≡ u
unit_there [] zero u e = one_value (Some None) None u refl e
unit_there [] (suc k) u e = no_value None u _ refl e
unit_there (b ∷ bytes) zero u e = one_value (Some (Some b)) (Some b) u refl e
unit_there (b ∷ bytes) (suc k) u e = unit_there bytes k u e

units_len : (bytes : List ℕ) → length (units_of bytes) ≡ suc (length bytes)
units_len [] = refl
units_len (b ∷ bytes) = ap suc (units_len bytes)

-- ---- what is read of the haystack

next_to : (xs : List ℕ) (y : ℕ) (ys : List ℕ) → slice_get (xs ++ y ∷ ys) (length xs) ≡ Some y
next_to [] y ys = refl
next_to (x ∷ xs) y ys = next_to xs y ys

next_to_turned : (xs : List ℕ) (y : ℕ) (ys : List ℕ) → slice_get (reverse xs ++ y ∷ ys) (length xs) ≡ Some y
next_to_turned xs y ys = ap (slice_get (reverse xs ++ y ∷ ys)) (sym (length-reverse xs)) ∙ next_to (reverse xs) y ys

before_same : (h g : List ℕ) (m n : ℕ) → h ≡ g → m ≡ n → byte_before h m ≡ byte_before g n
before_same h g m n p r = λ i. byte_before (p i) (r i)

turned : (b : ℕ) (bytes more : List ℕ) → reverse (b ∷ bytes) ++ more ≡ reverse bytes ++ b ∷ more
turned b bytes more = ap (λ (l : List ℕ). l ++ more) (reverse-append (b ∷ []) bytes) ∙ append_assoc (reverse bytes) (b ∷ []) more

-- the bytes of a reversed list, taken in reverse from its end, are those of the list
reads_reverse : (bytes more : List ℕ) (k : ℕ) → byte_before (reverse bytes ++ more) (length bytes - k) ≡ slice_get bytes k
reads_reverse [] more k = let none : 0 - k ≡ 0 = omega arith in ap (byte_before more) none
reads_reverse (b ∷ bytes) more zero =
    let all : suc (length bytes) - 0 ≡ suc (length bytes) = omega arith in
    before_same _ (reverse bytes ++ b ∷ more) _ (suc (length bytes)) (turned b bytes more) all ∙ next_to_turned bytes b more
reads_reverse (b ∷ bytes) more (suc k) =
    let less : suc (length bytes) - suc k ≡ length bytes - k = omega arith in
    before_same _ (reverse bytes ++ b ∷ more) _ (length bytes - k) (turned b bytes more) less ∙ reads_reverse bytes (b ∷ more) k

reads_forward : (behind : Option ℕ) (bytes : List ℕ) (k : ℕ) → byte_at (option_to_list behind
    ++ bytes) (length (option_to_list behind) + k) ≡ slice_get bytes k
reads_forward None bytes k = let is : 0 + k ≡ k = omega arith in ap (byte_at bytes) is
reads_forward (Some b) bytes k = let is : 1 + k ≡ suc k = omega arith in ap (byte_at (b ∷ bytes)) is

reads_bytes : (r : Bool) (behind : Option ℕ) (bytes : List ℕ) (k : ℕ) →
    unit_at r (haystack_of r behind bytes) (offset_of r (starting_index r behind bytes) k) ≡ slice_get bytes k
reads_bytes false behind bytes k = reads_forward behind bytes k
reads_bytes true behind bytes k = reads_reverse bytes (option_to_list behind) k

stands_behind : (r : Bool) (behind : Option ℕ) (bytes : List ℕ) → unit_before r (haystack_of r behind bytes)
    (starting_index r behind bytes) ≡ behind
stands_behind false None bytes = refl
stands_behind false (Some b) bytes = refl
stands_behind true None bytes =
    let e : length (reverse bytes ++ []) ≡ length bytes = ap length (append-nil (reverse bytes)) ∙ length-reverse bytes in
    slice_get_past (reverse bytes ++ []) (length bytes) (omega (arith, e))
stands_behind true (Some b) bytes = next_to_turned bytes b []

-- ---- the bytes as a span of the haystack

first_is_inside : (r : Bool) (behind : Option ℕ) (bytes : List ℕ) → starting_index r behind bytes ≤ high_edge r behind bytes
first_is_inside false behind bytes = let e = length-append (option_to_list behind) bytes in omega (arith, e)
first_is_inside true behind bytes = omega arith

edge_is_inside : (r : Bool) (behind : Option ℕ) (bytes : List ℕ) → high_edge r behind bytes ≤ length (haystack_of r behind bytes)
edge_is_inside false behind bytes = omega arith
edge_is_inside true behind bytes =
    let e = length-append (reverse bytes) (option_to_list behind) in
    let f = length-reverse bytes in omega (arith, e, f)

all_are_left : (r : Bool) (t : Terminator) (behind : Option ℕ) (bytes : List ℕ) →
    bytes_left r (text_of r t behind bytes) (starting_index r behind bytes) ≡ length bytes
all_are_left false t behind bytes = let e = length-append (option_to_list behind) bytes in omega (arith, e)
all_are_left true t behind bytes = omega arith

-- ---- states

module _ (a : Automaton) (t : Terminator) (kind : MatchKind) where
  walked_there : (us : List (Option ℕ)) (states : ℕ → StateValue) → ((k : ℕ) (u : Option ℕ) → slice_get us k ≡ Some u →
      states (suc k) ≡ step_value a t kind (states k) u) →
      (k : ℕ) → k ≤ length us → slice_get (walked a t kind (states zero) us) k ≡ Some (states k)
  walked_there [] states steps zero l = refl
  walked_there [] states steps (suc k) l = absurd (omega (arith, l))
  walked_there (u ∷ us) states steps zero l = refl
  walked_there (u ∷ us) states steps (suc k) l =
      ap (λ (v : StateValue). slice_get (walked a t kind v us) k) (sym (steps zero u refl))
      ∙ walked_there us (λ m. states (suc m)) (λ m w e. steps (suc m) w e) k (omega (arith, l))

  walked_len : (us : List (Option ℕ)) (v : StateValue) → length (walked a t kind v us) ≡ suc (length us)
  walked_len [] v = refl
  walked_len (u ∷ us) v = ap suc (walked_len us (step_value a t kind v u))

  module _ (q : ℕ) (behind : Option ℕ) (bytes : List ℕ) where
    abbrev state : ℕ → StateValue
    state k = value_after a t kind (haystack_of a.reverse behind bytes) (starting_index a.reverse behind bytes) q k

    pub state_there : (k : ℕ) → k ≤ length bytes + 1 → slice_get (walked a t kind (start_value a t (start_of t behind) q) (units_of bytes))
        k ≡ Some (state k)
    state_there k l =
        let len = units_len bytes in
        ap (λ (o : Option ℕ). slice_get (walked a t kind (start_value a t (start_of t o) q) (units_of bytes)) k)
        (sym (stands_behind a.reverse behind bytes))
        ∙ walked_there (units_of bytes) state (λ m u e. ap (step_value a t kind (state m)) (reads_bytes a.reverse behind bytes m
        ∙ unit_there bytes m u e)) k (omega (arith, l, len))

    pub states_len : length (walked a t kind (start_value a t (start_of t behind) q) (units_of bytes)) ≡ length bytes + 2
    states_len =
        let all = walked_len (units_of bytes) (start_value a t (start_of t behind) q) in
        let len = units_len bytes in omega (arith, all, len)

    module _ (states : List StateValue) (are : states ≡ walked a t kind (start_value a t (start_of t behind) q) (units_of bytes)) where
      is_within : (k : ℕ) (v : StateValue) → slice_get states k ≡ Some v → k ≤ length bytes + 1
      is_within k v there =
          let within = slice_get_within states k v there in
          let len : length states ≡ length bytes + 2 = ap length are ∙ states_len in omega (arith, within, len)

      pub found : (k : ℕ) → k ≤ length bytes + 1 → slice_get states k ≡ Some (state k)
      found k l = ap (λ (l : List StateValue). slice_get l k) are ∙ state_there k l

      pub is_state : (k : ℕ) (v : StateValue) → slice_get states k ≡ Some v → v ≡ state k
      is_state k v there = one_value (slice_get states k) v (state k) there (found k (is_within k v there))

      pub is_left : (k : ℕ) (v : StateValue) → slice_get states (suc k) ≡ Some v →
          k ≤ bytes_left a.reverse (text_of a.reverse t behind bytes) (starting_index a.reverse behind bytes)
      is_left k v there =
          let within = is_within (suc k) v there in
          let left = all_are_left a.reverse t behind bytes in omega (arith, within, left)

-- ---- what the states list

module _ (a : Automaton) (t : Terminator) (q : ℕ) (behind : Option ℕ) (bytes : List ℕ) (states : List StateValue) where
  abbrev h : List ℕ
  h = haystack_of a.reverse behind bytes

  abbrev i : ℕ
  i = starting_index a.reverse behind bytes

  abbrev s : ℕ
  s = low_edge a.reverse behind bytes

  abbrev e : ℕ
  e = high_edge a.reverse behind bytes

  abbrev text : Text
  text = text_of a.reverse t behind bytes

  abbrev inside : i ≤ e
  inside = first_is_inside a.reverse behind bytes

  abbrev within : e ≤ length h
  within = edge_is_inside a.reverse behind bytes

  pub all_are_listed : IsWellFormed a → q < length a.states → states ≡ walked a t AllMatches (start_value a t (start_of t behind) q)
      (units_of bytes) →
      (k : ℕ) (v : StateValue) → slice_get states (suc k) ≡ Some v →
      v.matches ≡ map (λ (x : ℕ × ℕ). x.1) (filter (λ x. nat_eq x.0 (offset_of a.reverse i k)) (ends_from a text (i, q)))
  all_are_listed formed low are k v there =
      ap (λ (w : StateValue). w.matches) (is_state a t AllMatches q behind bytes states are (suc k) v there)
      ∙ all_listed a t h s e i q formed inside within low k (is_left a t AllMatches q behind bytes states are k v there)

  module _ (are : states ≡ walked a t LeftmostFirst (start_value a t (start_of t behind) q) (units_of bytes)) where
    abbrev state_at : ℕ → StateValue
    state_at k = value_after a t LeftmostFirst h i q k

    same_state : (k : ℕ) (v : StateValue) → slice_get states k ≡ Some v → v ≡ state_at k
    same_state k v there = is_state a t LeftmostFirst q behind bytes states are k v there

    pub one_is_listed : (k : ℕ) (v : StateValue) → slice_get states k ≡ Some v → length v.matches ≤ 1
    one_is_listed k v there =
        let same : length v.matches ≡ length (state_at k).matches = ap (λ (w : StateValue). length w.matches) (same_state k v there) in
        let one : length (state_at k).matches ≤ 1 = one_listed a t h i q k in omega (arith, same, one)

    module _ (formed : IsWellFormed a) (low : q < length a.states) where
      -- the state with the number shows that it lists no match
      silent : (k : ℕ) (v : StateValue) → slice_get states (suc k) ≡ Some v →
          (k ≤ bytes_left a.reverse text i → (state_at (suc k)).matches ≡ []) → v.matches ≡ []
      silent k v there none = ap (λ (w : StateValue). w.matches) (same_state (suc k) v there)
          ∙ none (is_left a t LeftmostFirst q behind bytes states are k v there)

      pub end_is_told : (j p : ℕ) → first (ends_from a text (i, q)) ≡ Some (j, p) →
          (k : ℕ) × (v : StateValue) × (j ≡ offset_of a.reverse i k) × (slice_get states (suc k) ≡ Some v) × (v.matches ≡ p ∷ []) ×
          ((m : ℕ) (w : StateValue) → k < m → slice_get states (suc m) ≡ Some w → w.matches ≡ [])
      end_is_told j p is =
          let r = some_listed a t h s e i q formed inside within low j p is in
          let to = r.1 in
          let left = all_are_left a.reverse t behind bytes in (
            r.0,
            state_at (suc r.0),
            r.2,
            found a t LeftmostFirst q behind bytes states are (suc r.0) (omega (arith, to, left)),
            r.3,
            (λ m w past there. silent m w there (r.4 m past)),
          )

      pub none_is_told : first (ends_from a text (i, q)) ≡ None → (k : ℕ) (v : StateValue) → slice_get states (suc k) ≡ Some v →
          v.matches ≡ []
      none_is_told none k v there = silent k v there (never_listed a t h s e i q formed inside within low none k)
