-- Strings in groups: what one more string adds, and which edges lead to the groups.
use Rattle.std.proofs.Common.{◌≡◌, ℕ, zero, suc, ◌+◌, ◌<◌, ◌≤◌, Bool, true, false, List, [], ◌∷◌, ◌++◌, length, get_or, set, take, drop}
use Rattle.std.proofs.Common.{nat_eq, nat_lt, if◌then◌else◌, refl, sym, ap, ◌∙◌, subst, arith, length-append, append_assoc, append-nil, ⊎_elim}
use Rattle.std.proofs.lemmas.Bool.{cases_eq, cases_lt}
use Rattle.std.proofs.lemmas.Grind.{common_steps}
use Rattle.std.proofs.lemmas.List.{drop-map, get_or-map, get_or_at, length-drop, length-map, length-set, length-take, map-append, map-set}
use Rattle.std.proofs.lemmas.List.{nil_from_length, take-map}
use Rattle.thompson_nfa.specs.declared.literals.literal_groups.Edge.{Edge}
use denote.Ref.{Bor}
use Rattle.thompson_nfa.specs.LiteralGroups.{texts, strings_of_groups, with_tail, tails, place_of, each_after, chunk_strings, edges_by}
use Rattle.thompson_nfa.specs.LiteralGroups.{grouped_strings, bytes_in, bytes_in_all, strings_in_all, Ascends, LeadWithin, BytesAscend, AllSome}
use Rattle.thompson_nfa.specs.LiteralGroups.{AddsGroups, AreGroups, IsChunk}

other_byte : (a b : ℕ) → (a ≡ b → ⊥) → nat_eq a b ≡ false
other_byte a b ne = grind (arith, common_steps)

tail_other : (a b : ℕ) (w : List ℕ) (rest : List (List ℕ)) → (a ≡ b → ⊥) → with_tail b (a ∷ w) rest ≡ rest
tail_other a b w rest ne = ap (λ (t : Bool). if t then w ∷ rest else rest) (other_byte a b ne)

-- ---- lists joined

tail_append : (b : ℕ) (w : List ℕ) (xs ys : List (List ℕ)) → with_tail b w (xs ++ ys) ≡ with_tail b w xs ++ ys
tail_append b [] xs ys = refl
tail_append b (a ∷ w) xs ys = elim (nat_eq a b) as (λ t. (if t then w ∷ (xs ++ ys) else (xs ++ ys)) ≡ (if t then w ∷ xs else xs)
    ++ ys) [ true ↦ refl | false ↦ refl ]

pub tails_append : (b : ℕ) (us vs : List (List ℕ)) → tails b (us ++ vs) ≡ tails b us ++ tails b vs
tails_append b [] vs = refl
tails_append b (w ∷ us) vs = ap (with_tail b w) (tails_append b us vs) ∙ tail_append b w (tails b us) (tails b vs)

tails_behind_other : (a b : ℕ) (ws : List (List ℕ)) → (a ≡ b → ⊥) → tails b (each_after a ws) ≡ []
tails_behind_other a b [] ne = refl
tails_behind_other a b (w ∷ ws) ne = tail_other a b w (tails b (each_after a ws)) ne ∙ tails_behind_other a b ws ne

pub inside_wider : (first end less more : ℕ) (es : List Edge) → LeadWithin first end es → less ≤ first →
    end ≤ more → LeadWithin less more es
inside_wider first end less more [] a le l = tt
inside_wider first end less more (e ∷ es) a le l = let x = a.0 in let y = a.1 in
    (omega arith, omega arith, inside_wider first end less more es a.2 le l)

get_before : (A : Type 0) (xs ys : List A) (k : ℕ) (d : A) → k < length xs → get_or (xs ++ ys) k d ≡ get_or xs k d
get_before A [] ys k d l = absurd (omega arith)
get_before A (x ∷ xs) ys zero d l = refl
get_before A (x ∷ xs) ys (suc k) d l = get_before A xs ys k d (omega arith)

-- groups that are added later change no strings
pub chunk_kept : (groups more : List (List (List ℕ))) (first end : ℕ) (es : List Edge) → LeadWithin first end es → end ≤ length groups →
    chunk_strings (groups ++ more) es ≡ chunk_strings groups es
chunk_kept groups more first end [] a le = refl
chunk_kept groups more first end (e ∷ es) a le =
    let x = a.1 in
    ap (λ (g : List (List ℕ)). each_after e.byte g ++ chunk_strings (groups ++ more) es)
    (get_before (List (List ℕ)) groups more e.next [] (omega arith))
    ∙ ap (λ (r : List (List ℕ)). each_after e.byte (get_or groups e.next []) ++ r) (chunk_kept groups more first end es a.2 le)

-- ---- bytes

pub all_bytes_append : (gs hs : List (List (List ℕ))) → bytes_in_all (gs ++ hs) ≡ bytes_in_all gs + bytes_in_all hs
all_bytes_append [] hs = omega arith
all_bytes_append (x ∷ gs) hs = omega (arith, all_bytes_append gs hs)

pub all_strings_append : (gs hs : List (List (List ℕ))) → strings_in_all (gs ++ hs) ≡ strings_in_all gs + strings_in_all hs
all_strings_append [] hs = omega arith
all_strings_append (x ∷ gs) hs = omega (arith, all_strings_append gs hs)

pub all_some_append : (gs hs : List (List (List ℕ))) → AllSome gs → AllSome hs → AllSome (gs ++ hs)
all_some_append [] hs a b = b
all_some_append (g ∷ gs) hs a b = (a.0, all_some_append gs hs a.1 b)

-- ---- the position of a byte

-- The first n of these bytes are less than b, and the one after them isn't.
abbrev IsPlace : ℕ → ℕ → List ℕ → Type 0
IsPlace b zero [] = Unit {0}
IsPlace b zero (a ∷ bs) = b ≤ a
IsPlace b (suc n) [] = ⊥
IsPlace b (suc n) (a ∷ bs) = (a < b) × IsPlace b n bs

place_after : (b a : ℕ) (bs : List ℕ) → a < b → place_of b (a ∷ bs) ≡ suc (place_of b bs)
place_after b a bs l =
    let t : nat_lt a b ≡ true = grind (arith, common_steps) in
    ap (λ (t : Bool). if t then suc (place_of b bs) else 0) t

place_here : (b a : ℕ) (bs : List ℕ) → b ≤ a → place_of b (a ∷ bs) ≡ 0
place_here b a bs l =
    let t : nat_lt a b ≡ false = grind (arith, common_steps) in
    ap (λ (t : Bool). if t then suc (place_of b bs) else 0) t

place_is : (b : ℕ) (bs : List ℕ) → IsPlace b (place_of b bs) bs
place_is b [] = tt
place_is b (a ∷ bs) =
    let P : ℕ → Type 0 = λ n. IsPlace b n (a ∷ bs) in
    ⊎_elim
    (λ (l : a < b). subst P (sym (place_after b a bs l)) (l, place_is b bs))
    (λ (l : b ≤ a). subst P (sym (place_here b a bs l)) l)
    (cases_lt a b)

-- ---- groups of strings, each after its byte

none_below : (c low : ℕ) (bs : List ℕ) (gs : List (List (List ℕ))) → BytesAscend low bs → c < low → tails c (grouped_strings bs gs) ≡ []
none_below c low [] gs a l = refl
none_below c low (b ∷ bs) [] a l = refl
none_below c low (b ∷ bs) (g ∷ gs) a l =
    let le = a.0 in
    tails_append c (each_after b g) (grouped_strings bs gs)
    ∙ ap (λ (r : List (List ℕ)). r ++ tails c (grouped_strings bs gs)) (tails_behind_other b c g (λ e. omega (arith, le, l, e)))
    ∙ none_below c (b + 1) bs gs a.2 (omega (arith, le, l))

each_push : (b : ℕ) (g : List (List ℕ)) (w : List ℕ) → each_after b (g ++ w ∷ []) ≡ each_after b g ++ (b ∷ w) ∷ []
each_push b [] w = refl
each_push b (v ∷ g) w = ap (λ (r : List (List ℕ)). (b ∷ v) ∷ r) (each_push b g w)

above : (a b : ℕ) → b ≤ a → (a ≡ b → ⊥) → b < a
above a b le ne = ⊎_elim (λ (l : b < a). l) (λ (k : a ≤ b). absurd (ne (omega (arith, le, k)))) (cases_lt b a)

module _ (b : ℕ) (w : List ℕ) where
  -- what the string adds to the tails of c
  abbrev extra : ℕ → List (List ℕ)
  extra c = with_tail c (b ∷ w) []

  swapped : (c : ℕ) (rest : List (List ℕ)) → (b ≡ c → rest ≡ []) → extra c ++ rest ≡ rest ++ extra c
  swapped c rest none = ⊎_elim
      (λ (e : b ≡ c). ap (λ (r : List (List ℕ)). extra c ++ r) (none e) ∙ append-nil (extra c) ∙ ap (λ (r : List (List ℕ)). r ++ extra c)
      (sym (none e)))
      (λ (ne : b ≡ c → ⊥). ap (λ (r : List (List ℕ)). r ++ rest) (tail_other b c w [] ne) ∙ sym (append-nil rest)
      ∙ ap (λ (r : List (List ℕ)). rest ++ r) (sym (tail_other b c w [] ne)))
      (cases_eq b c)

  -- a group before the one that is changed
  later : (c a : ℕ) (g rest new : List (List ℕ)) → tails c new ≡ tails c rest ++ extra c →
      tails c (each_after a g ++ new) ≡ tails c (each_after a g ++ rest) ++ extra c
  later c a g rest new is =
      tails_append c (each_after a g) new ∙ ap (λ (r : List (List ℕ)). tails c (each_after a g) ++ r) is
      ∙ sym (append_assoc (tails c (each_after a g)) (tails c rest) (extra c))
      ∙ ap (λ (r : List (List ℕ)). r ++ extra c) (sym (tails_append c (each_after a g) rest))

  pushed_tails : (c n low : ℕ) (bs : List ℕ) (gs : List (List (List ℕ))) → n < length bs → length bs ≡ length gs → get_or bs n 0 ≡ b →
      BytesAscend low bs → tails c (grouped_strings bs (set gs n (get_or gs n [] ++ w ∷ []))) ≡ tails c (grouped_strings bs gs) ++ extra c
  pushed_tails c n low [] gs within many at up = absurd (omega (arith, within))
  pushed_tails c n low (a ∷ bs) [] within many at up = absurd (omega (arith, many))
  pushed_tails c zero low (a ∷ bs) (g ∷ gs) within many at up =
      let rest = tails c (grouped_strings bs gs) in
      let none : b ≡ c → rest ≡ [] = λ e. none_below c (a + 1) bs gs up.2 (omega (arith, at, e)) in
      tails_append c (each_after a (g ++ w ∷ [])) (grouped_strings bs gs)
      ∙ ap (λ (r : List (List ℕ)). tails c r ++ rest) (each_push a g w)
      ∙ ap (λ (r : List (List ℕ)). r ++ rest) (tails_append c (each_after a g) ((a ∷ w) ∷ []))
      ∙ ap (λ (k : ℕ). (tails c (each_after a g) ++ with_tail c (k ∷ w) []) ++ rest) at
      ∙ append_assoc (tails c (each_after a g)) (extra c) rest
      ∙ ap (λ (r : List (List ℕ)). tails c (each_after a g) ++ r) (swapped c rest none)
      ∙ sym (append_assoc (tails c (each_after a g)) rest (extra c))
      ∙ ap (λ (r : List (List ℕ)). r ++ extra c) (sym (tails_append c (each_after a g) (grouped_strings bs gs)))
  pushed_tails c (suc n) low (a ∷ bs) (g ∷ gs) within many at up =
      later c a g (grouped_strings bs gs) (grouped_strings bs (set gs n (get_or gs n [] ++ w ∷ [])))
      (pushed_tails c n (a + 1) bs gs (omega (arith, within)) (omega (arith, many)) at up.2)

  inserted_tails : (c n low : ℕ) (bs : List ℕ) (gs : List (List (List ℕ))) → IsPlace b n bs → length bs ≡ length gs →
      (n < length bs → get_or bs n 0 ≡ b → ⊥) → BytesAscend low bs →
      tails c (grouped_strings (take n bs ++ b ∷ drop n bs) (take n gs ++ (w ∷ []) ∷ drop n gs)) ≡ tails c (grouped_strings bs gs) ++ extra c
  inserted_tails c zero low [] gs place many absent up = refl
  inserted_tails c zero low (a ∷ bs) gs place many absent up =
      let more = above a b place (absent (omega arith)) in
      let rest = tails c (grouped_strings (a ∷ bs) gs) in
      let none : b ≡ c → rest ≡ [] = λ e. none_below c a (a ∷ bs) gs (omega arith, up.1, up.2) (omega (arith, more, e)) in
      tail_append c (b ∷ w) [] rest ∙ swapped c rest none
  inserted_tails c (suc n) low [] gs place many absent up = absurd place
  inserted_tails c (suc n) low (a ∷ bs) [] place many absent up = absurd (omega (arith, many))
  inserted_tails c (suc n) low (a ∷ bs) (g ∷ gs) place many absent up =
      later c a g (grouped_strings bs gs) (grouped_strings (take n bs ++ b ∷ drop n bs) (take n gs ++ (w ∷ []) ∷ drop n gs))
      (inserted_tails c n (a + 1) bs gs place.1 (omega (arith, many)) (λ l e. absent (omega (arith, l)) e) up.2)

  inserted_ascend : (n low : ℕ) (bs : List ℕ) → IsPlace b n bs → (n < length bs → get_or bs n 0 ≡ b → ⊥) → BytesAscend low bs → low ≤ b →
      b < 256 → BytesAscend low (take n bs ++ b ∷ drop n bs)
  inserted_ascend zero low [] place absent up le byte = (le, byte, omega (arith, byte))
  inserted_ascend zero low (a ∷ bs) place absent up le byte =
      let more = above a b place (absent (omega arith)) in (le, byte, (omega (arith, more), up.1, up.2))
  inserted_ascend (suc n) low [] place absent up le byte = absurd place
  inserted_ascend (suc n) low (a ∷ bs) place absent up le byte =
      let less = place.0 in
      (up.0, up.1, inserted_ascend n (a + 1) bs place.1 (λ l e. absent (omega (arith, l)) e) up.2 (omega (arith, less)) byte)

  -- ---- how many there are

  bytes_push : (ws : List (List ℕ)) → bytes_in (ws ++ w ∷ []) ≡ bytes_in ws + length w
  bytes_push [] = omega arith
  bytes_push (v ∷ ws) = omega (arith, bytes_push ws)

  -- after a group was made longer by one string, or one with one string was added
  abbrev Counted : List (List (List ℕ)) → List (List (List ℕ)) → Type 0
  Counted gs new = (bytes_in_all new ≡ bytes_in_all gs + length w) × (strings_in_all new ≡ strings_in_all gs + 1) × (AllSome gs → AllSome new)

  pushed_count : (n : ℕ) (gs : List (List (List ℕ))) → n < length gs → Counted gs (set gs n (get_or gs n [] ++ w ∷ []))
  pushed_count n [] l = absurd (omega (arith, l))
  pushed_count zero (g ∷ gs) l =
      let long = length-append g (w ∷ []) in
      (omega (arith, bytes_push g), omega (arith, long), λ some. (omega (arith, long), some.1))
  pushed_count (suc n) (g ∷ gs) l =
      let more = pushed_count n gs (omega (arith, l)) in
      let bytes = more.0 in
      let strings = more.1 in
      (omega (arith, bytes), omega (arith, strings), λ some. (some.0, more.2 some.1))

  inserted_count : (n : ℕ) (gs : List (List (List ℕ))) → n ≤ length gs → Counted gs (take n gs ++ (w ∷ []) ∷ drop n gs)
  inserted_count zero gs l = (omega arith, omega arith, λ some. (omega arith, some))
  inserted_count (suc n) [] l = absurd (omega (arith, l))
  inserted_count (suc n) (g ∷ gs) l =
      let more = inserted_count n gs (omega (arith, l)) in
      let bytes = more.0 in
      let strings = more.1 in
      (omega (arith, bytes), omega (arith, strings), λ some. (some.0, more.2 some.1))

  inserted_long : {A : Type 0} (n : ℕ) (xs : List A) (x : A) → n ≤ length xs → length (take n xs ++ x ∷ drop n xs) ≡ length xs + 1
  inserted_long n xs x l = omega (arith, length-append (take n xs) (x ∷ drop n xs), length-take n xs, length-drop n xs, l)

-- ---- one more string

bytes_more : (before : List (List ℕ)) (w : List ℕ) → bytes_in (before ++ w ∷ []) ≡ bytes_in before + length w
bytes_more before w = bytes_push 0 w before

empty_string : (bs : List ℕ) (gs : List (List (List ℕ))) (before : List (List ℕ)) → AreGroups bs gs before → AreGroups bs gs (before ++ [] ∷ [])
empty_string bs gs before are = record {
  as_many = are.as_many;
  ascend = are.ascend;
  same_tails = λ c. are.same_tails c ∙ sym (tails_append c before ([] ∷ []) ∙ append-nil (tails c before));
  some = are.some;
  room = omega (arith, are.room, bytes_more before []);
  no_more = omega (arith, are.no_more, length-append before ([] ∷ []));
}

module _ (b : ℕ) (w : List ℕ) (bs : List ℕ) (gs : List (List (List ℕ))) (before : List (List ℕ)) (are : AreGroups bs gs before) where
  tails_more : (c : ℕ) (new : List (List ℕ)) → tails c new ≡ tails c (grouped_strings bs gs) ++ with_tail c (b ∷ w) [] →
      tails c new ≡ tails c (before ++ (b ∷ w) ∷ [])
  tails_more c new is = is ∙ ap (λ (r : List (List ℕ)). r ++ with_tail c (b ∷ w) []) (are.same_tails c)
      ∙ sym (tails_append c before ((b ∷ w) ∷ []))

  tail_pushed : (n : ℕ) → n < length bs → get_or bs n 0 ≡ b → AreGroups bs (set gs n (get_or gs n [] ++ w ∷ [])) (before ++ (b ∷ w) ∷ [])
  tail_pushed n within at =
      let long = length-set gs n (get_or gs n [] ++ w ∷ []) in
      let many = are.as_many in
      let counted = pushed_count b w n gs (omega (arith, within, many)) in
      let bytes = counted.0 in
      let strings = counted.1 in
      record {
        as_many = omega (arith, many, long);
        ascend = are.ascend;
        same_tails = λ c. tails_more c (grouped_strings bs (set gs n (get_or gs n [] ++ w ∷ [])))
            (pushed_tails b w c n 0 bs gs within many at are.ascend);
        some = counted.2 are.some;
        room = omega (arith, are.room, long, bytes, bytes_more before (b ∷ w));
        no_more = omega (arith, are.no_more, strings, length-append before ((b ∷ w) ∷ []));
      }

  tail_inserted : (n : ℕ) → IsPlace b n bs → n ≤ length bs → (n < length bs → get_or bs n 0 ≡ b → ⊥) → b < 256 →
      AreGroups (take n bs ++ b ∷ drop n bs) (take n gs ++ (w ∷ []) ∷ drop n gs) (before ++ (b ∷ w) ∷ [])
  tail_inserted n place within absent byte =
      let many = are.as_many in
      let groups_within : n ≤ length gs = omega (arith, within, many) in
      let long = inserted_long b w n gs (w ∷ []) groups_within in
      let long_bytes = inserted_long b w n bs b within in
      let counted = inserted_count b w n gs groups_within in
      let bytes = counted.0 in
      let strings = counted.1 in
      record {
        as_many = omega (arith, many, long, long_bytes);
        ascend = inserted_ascend b w n 0 bs place absent are.ascend (omega arith) byte;
        same_tails = λ c. tails_more c (grouped_strings (take n bs ++ b ∷ drop n bs) (take n gs ++ (w ∷ []) ∷ drop n gs))
            (inserted_tails b w c n 0 bs gs place many absent are.ascend);
        some = counted.2 are.some;
        room = omega (arith, are.room, long, bytes, bytes_more before (b ∷ w));
        no_more = omega (arith, are.no_more, strings, length-append before ((b ∷ w) ∷ []));
      }

-- ---- edges by the bytes

edges_long : (next : ℕ) (bs : List ℕ) → length (edges_by next bs) ≡ length bs
edges_long next [] = refl
edges_long next (b ∷ bs) = ap suc (edges_long (next + 1) bs)

edges_ascend : (low next : ℕ) (bs : List ℕ) → BytesAscend low bs → Ascends low (edges_by next bs) 256
edges_ascend low next [] a = a
edges_ascend low next (b ∷ bs) a = (a.0, a.1, edges_ascend (b + 1) (next + 1) bs a.2)

edges_inside : (first end next : ℕ) (bs : List ℕ) → first ≤ next → next + length bs ≤ end → LeadWithin first end (edges_by next bs)
edges_inside first end next [] l h = tt
edges_inside first end next (b ∷ bs) l h = (l, omega (arith, h), edges_inside first end (next + 1) bs (omega (arith, l)) (omega (arith, h)))

edges_strings : (before groups : List (List (List ℕ))) (bs : List ℕ) (next : ℕ) → length before ≡ next → length bs ≡ length groups →
    chunk_strings (before ++ groups) (edges_by next bs) ≡ grouped_strings bs groups
edges_strings before groups [] next e many = refl
edges_strings before [] (b ∷ bs) next e many = absurd (omega (arith, many))
edges_strings before (g ∷ groups) (b ∷ bs) next e many =
    ap (λ (x : List (List ℕ)). each_after b x ++ chunk_strings (before ++ g ∷ groups) (edges_by (next + 1) bs))
    (get_or_at before g groups [] next e)
    ∙ ap (λ (r : List (List (List ℕ))). each_after b g ++ chunk_strings r (edges_by (next + 1) bs)) (sym (append_assoc before (g ∷ []) groups))
    ∙ ap (λ (r : List (List ℕ)). each_after b g ++ r)
    (edges_strings (before ++ g ∷ []) groups bs (next + 1) (omega (arith, e, length-append before (g ∷ []))) (omega (arith, many)))

module _ (bs : List ℕ) (old fresh new : List (List (List ℕ))) (edges : List Edge) (strings : List (List ℕ)) (next : ℕ)
    (are : AreGroups bs fresh strings) (is : new ≡ old ++ fresh) (by : edges ≡ edges_by next bs) where
  long : length edges ≡ length fresh
  long = ap length by ∙ edges_long next bs ∙ are.as_many

  pub chunk_adds : AddsGroups old new (length edges) strings
  chunk_adds = record {
    added = fresh;
    is = is;
    one_each = sym long;
    some = are.some;
    room = omega (arith, are.room, ap length is, length-append old fresh, ap bytes_in_all is, all_bytes_append old fresh);
    no_more = omega (arith, are.no_more, ap strings_in_all is, all_strings_append old fresh);
  }

  pub chunk_holds : (first : ℕ) → next ≡ first + length old → (before : List (List (List ℕ))) → length before ≡ first →
      IsChunk first (before ++ new) edges strings
  chunk_holds first at before len =
      let all : before ++ new ≡ (before ++ old) ++ fresh = ap (λ r. before ++ r) is ∙ sym (append_assoc before old fresh) in
      let start : length (before ++ old) ≡ next = omega (arith, at, len, length-append before old) in
      let end : length (before ++ new) ≡ next + length fresh = ap length all ∙ length-append (before ++ old) fresh
      ∙ ap (λ k. k + length fresh) start in
      let many = are.as_many in
      record {
        ascends = subst (λ (es : List Edge). Ascends 0 es 256) (sym by) (edges_ascend 0 next bs are.ascend);
        inside = subst (λ (es : List Edge). LeadWithin first (length (before ++ new)) es) (sym by)
            (edges_inside first (length (before ++ new)) next bs (omega (arith, at)) (omega (arith, end, many)));
        same_tails = λ c. ap (tails c) (ap (chunk_strings (before ++ new)) by ∙ ap (λ r. chunk_strings r (edges_by next bs)) all
            ∙ edges_strings (before ++ old) fresh bs next start many) ∙ are.same_tails c;
      }

-- ---- groups that hold references

pub group_count : {V : Type 0} (items : V → List (Bor (List ℕ))) (gs : List V) → length (strings_of_groups items gs) ≡ length gs
group_count {V} items gs = length-map gs (λ (v : V). texts (items v))

pub group_longer : {V : Type 0} (items : V → List (Bor (List ℕ))) (gs : List V) (at : ℕ) (old new : V) (string : Bor (List ℕ)) →
    at < length gs → old ≡ get_or gs at old → items new ≡ items old ++ string ∷ [] →
    strings_of_groups items (set gs at new) ≡ set (strings_of_groups items gs) at (get_or (strings_of_groups items gs) at [] ++ string.now ∷ [])
group_longer {V} items gs at old new string within is more =
    let here : texts (items old) ≡ get_or (strings_of_groups items gs) at [] = ap (λ (v : V). texts (items v)) is
    ∙ sym (get_or-map (λ (v : V). texts (items v)) gs at old [] within) in
    map-set (λ (v : V). texts (items v)) gs at new
    ∙ ap (set (strings_of_groups items gs) at) (ap texts more ∙ map-append (λ (s : Bor (List ℕ)). s.now) (items old) (string ∷ [])
    ∙ ap (λ (r : List (List ℕ)). r ++ string.now ∷ []) here)

pub group_inserted : {V : Type 0} (items : V → List (Bor (List ℕ))) (gs news : List V) (at : ℕ) (g : V) (strings : List (List ℕ)) →
    news ≡ take at gs ++ g ∷ drop at gs → texts (items g) ≡ strings →
    strings_of_groups items news ≡ take at (strings_of_groups items gs) ++ strings ∷ drop at (strings_of_groups items gs)
group_inserted {V} items gs news at g strings e same =
    ap (strings_of_groups items) e ∙ map-append (λ (v : V). texts (items v)) (take at gs) (g ∷ drop at gs)
    ∙ ap (λ (l : List (List (List ℕ))). l ++ texts (items g) ∷ strings_of_groups items (drop at gs))
    (sym (take-map (λ (v : V). texts (items v)) at gs))
    ∙ ap (λ (l : List (List (List ℕ))). take at (strings_of_groups items gs) ++ texts (items g) ∷ l)
    (sym (drop-map (λ (v : V). texts (items v)) at gs))
    ∙ ap (λ (s : List (List ℕ)). take at (strings_of_groups items gs) ++ s ∷ drop at (strings_of_groups items gs)) same

pub groups_joined : {V : Type 0} (items : V → List (Bor (List ℕ))) (olds fresh news : List V) → news ≡ olds ++ fresh →
    strings_of_groups items news ≡ strings_of_groups items olds ++ strings_of_groups items fresh
groups_joined {V} items olds fresh news e = ap (strings_of_groups items) e ∙ map-append (λ (v : V). texts (items v)) olds fresh

-- a string was added, as the code sees it: the bytes are also those of slices
pub pushed_at : (b : ℕ) (w bs : List ℕ) (gs new : List (List (List ℕ))) (before : List (List ℕ)) (n : ℕ) (slice : List ℕ) → slice ≡ bs →
    (n < length slice) × (get_or slice n 0 ≡ b) → new ≡ set gs n (get_or gs n [] ++ w ∷ []) → AreGroups bs gs before →
    AreGroups bs new (before ++ (b ∷ w) ∷ [])
pushed_at b w bs gs new before n slice same found is are =
    let at = subst (λ (l : List ℕ). (n < length l) × (get_or l n 0 ≡ b)) same found in
    subst (λ (l : List (List (List ℕ))). AreGroups bs l (before ++ (b ∷ w) ∷ [])) (sym is) (tail_pushed b w bs gs before are n at.0 at.1)

pub inserted_at : (b : ℕ) (w bs new_bs : List ℕ) (gs new : List (List (List ℕ))) (before : List (List ℕ)) (n : ℕ) (slice other : List ℕ) →
    slice ≡ bs → other ≡ bs → n ≡ place_of b slice → n ≤ length slice → b < 256 → (n < length other → get_or other n 0 ≡ b → ⊥) →
    new_bs ≡ take n bs ++ b ∷ drop n bs → new ≡ take n gs ++ (w ∷ []) ∷ drop n gs → AreGroups bs gs before →
    AreGroups new_bs new (before ++ (b ∷ w) ∷ [])
inserted_at b w bs new_bs gs new before n slice other same also at within byte absent bytes is are =
    let place : IsPlace b n bs = subst (λ (k : ℕ). IsPlace b k bs) (sym (at ∙ ap (place_of b) same)) (place_is b bs) in
    let inside : n ≤ length bs = subst (λ (l : List ℕ). n ≤ length l) same within in
    let none = subst (λ (l : List ℕ). n < length l → get_or l n 0 ≡ b → ⊥) also absent in
    subst (λ (l : List ℕ). AreGroups l new (before ++ (b ∷ w) ∷ [])) (sym bytes)
    (subst (λ (l : List (List (List ℕ))). AreGroups (take n bs ++ b ∷ drop n bs) l (before ++ (b ∷ w) ∷ [])) (sym is)
    (tail_inserted b w bs gs before are n place inside none byte))

pub empty_at : (bs : List ℕ) (gs : List (List (List ℕ))) (before : List (List ℕ)) (string : List ℕ) → length string ≡ 0 →
    AreGroups bs gs before → AreGroups bs gs (before ++ string ∷ [])
empty_at bs gs before string none are =
    subst (λ (s : List ℕ). AreGroups bs gs (before ++ s ∷ [])) (sym (nil_from_length string none)) (empty_string bs gs before are)
