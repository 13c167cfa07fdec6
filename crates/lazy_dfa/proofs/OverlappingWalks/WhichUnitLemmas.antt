-- At which unit an overlapping search reports an end, what is left from there, and how many units one scan would still read.
use Rattle.std.proofs.Common.{◌≡◌, ◌⊎◌, ℕ, zero, suc, ◌+◌, ◌<◌, ◌≤◌, Bool, true, false, ◌&&◌, not, List, [], ◌∷◌, ◌++◌, length, map, Option}
use Rattle.std.proofs.Common.{Some, None, refl, sym, ap, ◌∙◌, inl, inr, ⊎_elim, subst, arith, length-append, if◌then◌else◌, true≢false}
use Rattle.std.proofs.lemmas.Bool.{cases_Bool}
use Rattle.search_core.specs.ByteSets.{has}
use Rattle.search_types.specs.declared.match_error.MatchErrorKind.TheVariants.{Quit}
use Rattle.search_types.specs.Places.{counts}
use Rattle.nfa_core.specs.Places.{first}
use Rattle.nfa_core.specs.Ways.{offset_of}
use Rattle.determinize_core.specs.States.{StateValue}
use Rattle.determinize_core.specs.Steps.{unit_at}
use Rattle.lazy_dfa.specs.Scans.{index_at, is_empty, is_dead, next_value, next_offset}
use Rattle.lazy_dfa.specs.ScanLaws.{units_read}
use Rattle.lazy_dfa.specs.Readers.{Reader}
use Rattle.lazy_dfa.specs.Overlapping.{Rest, nothing_left, refused, onto, unless_quit_at, end_of, listed, rest_from}
use Rattle.lazy_dfa.specs.OverlappingAnswers.{units_met}
use Rattle.lazy_dfa.proofs.HalfSearches.PassLemmas.{dead_stays}
use Rattle.lazy_dfa.proofs.HalfSearches.TurnLemmas.{place_next, dead_is}
use Rattle.lazy_dfa.proofs.OverlappingWalks.WalkRestLemmas.{none_listed}

-- ---- lists

abbrev IsAmong : (ℕ × ℕ) → List (ℕ × ℕ) → Type 0
IsAmong x xs = (before behind : List (ℕ × ℕ)) × (xs ≡ before ++ x ∷ behind)

-- if an end of two lists is in the second one, what comes after it stays the same
abbrev IsBefore : (ℕ × ℕ) → List (ℕ × ℕ) → List (ℕ × ℕ) → Type 0
IsBefore x left xs = (before : List (ℕ × ℕ)) × (xs ≡ before ++ x ∷ left)

pub no_head : (y : ℕ × ℕ) (ys : List (ℕ × ℕ)) → [] ≡ y ∷ ys → ⊥
no_head y ys e = let none : 0 ≡ suc (length ys) = ap length e in absurd (omega (arith, none))

pub no_middle : (before behind : List (ℕ × ℕ)) (x : ℕ × ℕ) → [] ≡ before ++ x ∷ behind → ⊥
no_middle [] behind x e = no_head x behind e
no_middle (y ∷ before) behind x e = no_head y (before ++ x ∷ behind) e

in_parts : (front back done left : List (ℕ × ℕ)) (x : ℕ × ℕ) → front ++ back ≡ done ++ x ∷ left → IsAmong x front ⊎ IsBefore x left back
in_parts [] back done left x e = inr (done, e)
in_parts (y ∷ front) back [] left x e = let same : y ≡ x = cc in inl ([], front, ap (λ (z : ℕ × ℕ). z ∷ front) same)
in_parts (y ∷ front) back (z ∷ done) left x e =
    let head : y ≡ z = cc in
    let tail : front ++ back ≡ done ++ x ∷ left = cc in
    one_more (in_parts front back done left x tail)
  where
    one_more : IsAmong x front ⊎ IsBefore x left back → IsAmong x (y ∷ front) ⊎ IsBefore x left back
    one_more (inl a) = inl (y ∷ a.0, a.1, ap (λ (l : List (ℕ × ℕ)). y ∷ l) a.2)
    one_more (inr b) = inr b

-- all ends of a list at an offset have this offset
among_place : (i : ℕ) (ps : List ℕ) (before behind : List (ℕ × ℕ)) (x : ℕ × ℕ) → map (end_of i) ps ≡ before ++ x ∷ behind → x.0 ≡ i
among_place i [] before behind x e = absurd (no_middle before behind x e)
among_place i (p ∷ ps) [] behind x e = let same : end_of i p ≡ x = cc in sym (ap (λ (z : ℕ × ℕ). z.0) same)
among_place i (p ∷ ps) (y ∷ before) behind x e =
    let tail : map (end_of i) ps ≡ before ++ x ∷ behind = cc in among_place i ps before behind x tail

listed_if : (b : Bool) (i : ℕ) (ps : List ℕ) (x : ℕ × ℕ) → IsAmong x (if b then map (end_of i) ps else []) → x.0 ≡ i
listed_if true i ps x a = among_place i ps a.0 a.1 x a.2
listed_if false i ps x a = absurd (no_middle a.0 a.1 x a.2)

pub listed_place : (counted : ℕ → Bool) (i : ℕ) (ps : List ℕ) (x : ℕ × ℕ) → IsAmong x (listed counted i ps) → x.0 ≡ i
listed_place counted i ps x a = listed_if (counted i) i ps x a

some_if : (b : Bool) (i : ℕ) (ps : List ℕ) (back : List (ℕ × ℕ)) (x : ℕ × ℕ) → (b && not (is_empty ps)) ≡ true →
    first ((if b then map (end_of i) ps else []) ++ back) ≡ Some x → x.0 ≡ i
some_if false i ps back x t e = absurd (true≢false (sym t))
some_if true i [] back x t e = absurd (true≢false (sym t))
some_if true i (p ∷ ps) back x t e = let same : end_of i p ≡ x = cc in sym (ap (λ (z : ℕ × ℕ). z.0) same)

pub no_first : (x : ℕ × ℕ) → None ≡ Some x → ⊥
no_first x e = let never : true ≡ false = cc in absurd (grind (arith, never))

-- ---- turns

abbrev TurnsTo : Bool → Rest → Rest → Type 0
TurnsTo dies whole rest = (whole.ends ≡ []) ⊎ ((dies ≡ false) × (whole ≡ rest))

past_byte : (is : Bool) (b index : ℕ) (rest : Rest) → TurnsTo false (if is then refused (Quit b index) else rest) rest
past_byte true b index rest = inl refl
past_byte false b index rest = inr (refl, refl)

past_unit : (quits : List Bool) (u : Option ℕ) (index : ℕ) (rest : Rest) → TurnsTo false (unless_quit_at quits u index rest) rest
past_unit quits None index rest = inr (refl, refl)
past_unit quits (Some b) index rest = past_byte (has quits b) b index rest

past_turn : (dies : Bool) (quits : List Bool) (u : Option ℕ) (index : ℕ) (rest : Rest) →
    TurnsTo dies (if dies then nothing_left else unless_quit_at quits u index rest) rest
past_turn true quits u index rest = inl refl
past_turn false quits u index rest = past_unit quits u index rest

-- states that follow each other from offset i on
module _ (r : Reader) (h : List ℕ) (i : ℕ) (state : ℕ → StateValue)
    (steps : (k : ℕ) → state (suc k) ≡ next_value r h (offset_of r.automaton.reverse i k) (state k)) where
  abbrev place : ℕ → ℕ
  place k = offset_of r.automaton.reverse i k

  abbrev rest : ℕ → ℕ → Rest
  rest n k = rest_from r h n (place k) (state k)

  abbrev here : ℕ → List (ℕ × ℕ)
  here k = listed (counts r.between_characters h) (place k) (state (suc k)).matches

  abbrev met : ℕ → ℕ → ℕ
  met n k = units_met r h n (place k) (state k)

  abbrev read : ℕ → ℕ → ℕ
  read n k = units_read r false h n (place k) (state k)

  rest_none : (k : ℕ) → rest zero k ≡ nothing_left
  unfolding rest_from
  rest_none k = refl

  abbrev turn : ℕ → ℕ → StateValue → ℕ → Rest
  turn n k v j =
      if is_dead (state k) then nothing_left else
      unless_quit_at r.quits (unit_at r.automaton.reverse h (place k)) (index_at r.automaton.reverse (place k))
      (onto (listed (counts r.between_characters h) (place k) v.matches) (rest_from r h n j v))

  rest_turn : (n k : ℕ) → rest (suc n) k ≡ turn n k (state (suc k)) (place (suc k))
  unfolding rest_from
  rest_turn n k = ap (λ (v : StateValue). turn n k v (next_offset r (place k))) (sym (steps k))
      ∙ ap (λ (j : ℕ). turn n k (state (suc k)) j) (place_next r.automaton.reverse i k)

  turns : (n k : ℕ) → TurnsTo (is_dead (state k)) (rest (suc n) k) (onto (here k) (rest n (suc k)))
  turns n k =
      subst (λ (w : Rest). TurnsTo (is_dead (state k)) w (onto (here k) (rest n (suc k)))) (sym (rest_turn n k))
      (past_turn (is_dead (state k)) r.quits (unit_at r.automaton.reverse h (place k)) (index_at r.automaton.reverse (place k))
      (onto (here k) (rest n (suc k))))

  -- ---- where an end is reported

  -- from each offset up to that of an end, more ends are left than after that end
  abbrev HasMore : List (ℕ × ℕ) → ℕ → ℕ → ℕ → Type 0
  HasMore left n k u = (l m a : ℕ) → l ≤ u → n ≡ m + l → a ≡ k + l → length left < length (rest m a).ends

  abbrev IsToldAt : (ℕ × ℕ) → List (ℕ × ℕ) → ℕ → ℕ → Type 0
  IsToldAt x left n k = (u : ℕ) × (u < n) × (x.0 ≡ place (k + u)) × HasMore left n k u

  longer : (all done left : List (ℕ × ℕ)) (x : ℕ × ℕ) → all ≡ done ++ x ∷ left → length left < length all
  longer all done left x e =
      let sum : length all ≡ length done + suc (length left) = ap length e ∙ length-append done (x ∷ left) in omega (arith, sum)

  more_here : (n k : ℕ) (done left : List (ℕ × ℕ)) (x : ℕ × ℕ) → (rest n k).ends ≡ done ++ x ∷ left → HasMore left n k 0
  more_here n k done left x e l m a le en ea =
      let same_m : n ≡ m = omega (arith, le, en) in
      let same_a : k ≡ a = omega (arith, le, ea) in
      subst (λ (b : ℕ). length left < length (rest m b).ends) same_a
      (subst (λ (b : ℕ). length left < length (rest b k).ends) same_m (longer (rest n k).ends done left x e))

  more_behind : (n k u : ℕ) (done left : List (ℕ × ℕ)) (x : ℕ × ℕ) → (rest (suc n) k).ends ≡ done ++ x ∷ left → HasMore left n (suc k) u →
      HasMore left (suc n) k (suc u)
  more_behind n k u done left x e later zero m a le en ea = more_here (suc n) k done left x e zero m a (omega arith) en ea
  more_behind n k u done left x e later (suc l) m a le en ea = later l m a (omega (arith, le)) (omega (arith, en)) (omega (arith, ea))

  pub progress_reached : (n k : ℕ) (done left : List (ℕ × ℕ)) (x : ℕ × ℕ) → (rest n k).ends ≡ done ++ x ∷ left → IsToldAt x left n k
  progress_reached zero k done left x e = absurd (no_middle done left x (sym (ap (λ (w : Rest). w.ends) (rest_none k)) ∙ e))
  progress_reached (suc n) k done left x e = ⊎_elim
      (λ (none : (rest (suc n) k).ends ≡ []). absurd (no_middle done left x (sym none ∙ e)))
      (λ (on : (is_dead (state k) ≡ false) × (rest (suc n) k ≡ onto (here k) (rest n (suc k)))).
      by_part (in_parts (here k) (rest n (suc k)).ends done left x (sym (ap (λ (w : Rest). w.ends) on.1) ∙ e))
      (λ before is. progress_reached n (suc k) before left x is))
      (turns n k)
    where
      by_part : IsAmong x (here k) ⊎ IsBefore x left (rest n (suc k)).ends →
          ((before : List (ℕ × ℕ)) → (rest n (suc k)).ends ≡ before ++ x ∷ left → IsToldAt x left n (suc k)) → IsToldAt x left (suc n) k
      by_part (inl a) later =
          let same : k ≡ k + 0 = omega arith in (
            0,
            omega arith,
            listed_place (counts r.between_characters h) (place k) (state (suc k)).matches x a
                ∙ ap place same,
            more_here (suc n) k done left x e,
          )
      by_part (inr b) later =
          let t = later b.0 b.1 in
          let same : suc k + t.0 ≡ k + suc t.0 = omega arith in
          let less = t.1 in
          (suc t.0, omega (arith, less), t.2 ∙ ap place same, more_behind n k t.0 done left x e t.3)

  -- ---- units of a call

  abbrev stops : ℕ → Bool
  stops k = counts r.between_characters h (place k) && not (is_empty (state (suc k)).matches)

  abbrev met_by : ℕ → ℕ → StateValue → ℕ → ℕ
  met_by n k v j =
      if is_dead (state k) then 0 else
      if counts r.between_characters h (place k) && not (is_empty v.matches) then 1 else
      suc (units_met r h n j v)

  met_turn : (n k : ℕ) → met (suc n) k ≡ met_by n k (state (suc k)) (place (suc k))
  met_turn n k = ap (λ (v : StateValue). met_by n k v (next_offset r (place k))) (sym (steps k))
      ∙ ap (λ (j : ℕ). met_by n k (state (suc k)) j) (place_next r.automaton.reverse i k)

  met_dead : (n k : ℕ) → is_dead (state k) ≡ true → met (suc n) k ≡ 0
  met_dead n k dies = met_turn n k ∙ ap (λ (b : Bool). if b then 0 else if stops k then 1 else suc (met n (suc k))) dies

  met_lives : (n k : ℕ) → is_dead (state k) ≡ false → met (suc n) k ≡ (if stops k then 1 else suc (met n (suc k)))
  met_lives n k lives = met_turn n k ∙ ap (λ (b : Bool). if b then 0 else if stops k then 1 else suc (met n (suc k))) lives

  met_one : (n k : ℕ) → is_dead (state k) ≡ false → stops k ≡ true → met (suc n) k ≡ 1
  met_one n k lives here = met_lives n k lives ∙ ap (λ (b : Bool). if b then 1 else suc (met n (suc k))) here

  met_more : (n k : ℕ) → is_dead (state k) ≡ false → stops k ≡ false → met (suc n) k ≡ suc (met n (suc k))
  met_more n k lives on = met_lives n k lives ∙ ap (λ (b : Bool). if b then 1 else suc (met n (suc k))) on

  abbrev IsMetAt : (ℕ × ℕ) → ℕ → ℕ → Type 0
  IsMetAt x n k = (u : ℕ) × (u < n) × (met n k ≡ suc u) × (x.0 ≡ place (k + u))

  -- the first end that is left is reported at the last unit that a call meets
  pub first_met : (n k : ℕ) (x : ℕ × ℕ) → first (rest n k).ends ≡ Some x → IsMetAt x n k
  first_met zero k x e = absurd (no_first x (sym (ap first (ap (λ (w : Rest). w.ends) (rest_none k))) ∙ e))
  first_met (suc n) k x e = ⊎_elim
      (λ (none : (rest (suc n) k).ends ≡ []). absurd (no_first x (sym (ap first none) ∙ e)))
      (λ (on : (is_dead (state k) ≡ false) × (rest (suc n) k ≡ onto (here k) (rest n (suc k)))).
      let split : first (here k ++ (rest n (suc k)).ends) ≡ Some x = sym (ap (λ (w : Rest). first w.ends) on.1) ∙ e in
      ⊎_elim
      (λ (reported : stops k ≡ true).
      let same : k ≡ k + 0 = omega arith in (
        0,
        omega arith,
        met_one n k on.0 reported,
        some_if (counts r.between_characters h (place k)) (place k) (state (suc k)).matches (rest n (suc k)).ends x reported split
            ∙ ap place same,
      ))
      (λ (goes : stops k ≡ false).
      let none : here k ≡ [] = none_listed (counts r.between_characters h (place k)) (place k) (state (suc k)).matches goes in
      let t = first_met n (suc k) x (sym (ap (λ (l : List (ℕ × ℕ)). first (l ++ (rest n (suc k)).ends)) none) ∙ split) in
      let same : suc k + t.0 ≡ k + suc t.0 = omega arith in
      let less = t.1 in
      (suc t.0, omega (arith, less), met_more n k on.0 goes ∙ ap suc t.2, t.3 ∙ ap place same))
      (cases_Bool (stops k)))
      (turns n k)

  -- ---- units of a scan

  abbrev read_by : ℕ → ℕ → StateValue → ℕ → ℕ
  read_by n k v j = if is_dead (state k) then 0 else suc (units_read r false h n j v)

  read_turn : (n k : ℕ) → read (suc n) k ≡ read_by n k (state (suc k)) (place (suc k))
  read_turn n k = ap (λ (v : StateValue). read_by n k v (next_offset r (place k))) (sym (steps k))
      ∙ ap (λ (j : ℕ). read_by n k (state (suc k)) j) (place_next r.automaton.reverse i k)

  read_dead : (n k : ℕ) → is_dead (state k) ≡ true → read n k ≡ 0
  read_dead zero k dies = refl
  read_dead (suc n) k dies = read_turn n k ∙ ap (λ (b : Bool). if b then 0 else suc (read n (suc k))) dies

  read_lives : (n k : ℕ) → is_dead (state k) ≡ false → read (suc n) k ≡ suc (read n (suc k))
  read_lives n k lives = read_turn n k ∙ ap (λ (b : Bool). if b then 0 else suc (read n (suc k))) lives

  dead_next : (k : ℕ) → is_dead (state k) ≡ true → is_dead (state (suc k)) ≡ true
  dead_next k dies = ap is_dead (steps k ∙ ap (next_value r h (place k)) (dead_is (state k) dies) ∙ dead_stays r h (place k))

  -- what is read from a later offset is also read from an earlier one
  pub read_behind : (gap n m k l u : ℕ) → m ≡ n + gap → l ≡ k + gap → u < read n l → gap + u < read m k
  read_behind zero n m k l u em el less =
      let same_m : n ≡ m = omega (arith, em) in
      let same_l : l ≡ k = omega (arith, el) in
      let there : u < read m k = subst (λ (b : ℕ). u < read b k) same_m (subst (λ (b : ℕ). u < read n b) same_l less) in
      omega (arith, there)
  read_behind (suc gap) n zero k l u em el less = absurd (omega (arith, em))
  read_behind (suc gap) n (suc m) k l u em el less =
      let later = read_behind gap n m (suc k) l u (omega (arith, em)) (omega (arith, el)) less in
      ⊎_elim
      (λ (dies : is_dead (state k) ≡ true). let none = read_dead m (suc k) (dead_next k dies) in absurd (omega (arith, later, none)))
      (λ (lives : is_dead (state k) ≡ false). let more = read_lives m k lives in omega (arith, later, more))
      (cases_Bool (is_dead (state k)))

  pub read_few : (n k : ℕ) → read n k ≤ n
  read_few zero k = omega arith
  read_few (suc n) k = ⊎_elim
      (λ (dies : is_dead (state k) ≡ true). let none = read_dead (suc n) k dies in omega (arith, none))
      (λ (lives : is_dead (state k) ≡ false). let more = read_lives n k lives in let later = read_few n (suc k) in
      omega (arith, more, later))
      (cases_Bool (is_dead (state k)))

  pub met_is_read : (n k : ℕ) → met n k ≤ read n k
  met_is_read zero k = omega arith
  met_is_read (suc n) k = ⊎_elim
      (λ (dies : is_dead (state k) ≡ true). let none = met_dead n k dies in omega (arith, none))
      (λ (lives : is_dead (state k) ≡ false).
      let all = read_lives n k lives in
      ⊎_elim
      (λ (here : stops k ≡ true). let one = met_one n k lives here in omega (arith, one, all))
      (λ (on : stops k ≡ false). let more = met_more n k lives on in let later = met_is_read n (suc k) in omega (arith, more, all, later))
      (cases_Bool (stops k)))
      (cases_Bool (is_dead (state k)))
