-- Unicode looks in a haystack whose characters are reversed.
use Rattle.std.proofs.Common.{◌≡◌, ℕ, ◌-◌, ◌<◌, ◌≤◌, true, Bool, List, [], ◌∷◌, ◌++◌, length, get_or, Option, Some, None, refl, sym, ap}
use Rattle.std.proofs.Common.{ap₂, subst, ◌∙◌, arith, length-append, take, drop, append-nil, reverse, length-drop}
use Rattle.std.proofs.lemmas.Bool.{and_parts, and_from}
use Rattle.std.proofs.lemmas.List.{take-append-drop, reverse-append, reverse-reverse, length-reverse}
use Rattle.std.proofs.lemmas.Option.{slice_get-get_or, slice_get_past}
use Rattle.std.proofs.lemmas.Str.{encodes-append}
use Rattle.std.proofs.Math.Seq.{take-append_seam, drop-append_seam}
use Rattle.std.specs.Char.{encode_utf8}
use Rattle.std.specs.Str.{encode_utf8_all, all_scalars}
use Rattle.search_core.specs.Utf8.{Spells, SpellsFirst, SpellsLast}
use Rattle.search_core.proofs.ForCallers.{begun_character, ended_character, spelling_some, encoded_spells}
use Rattle.look_core.specs.Looks.{Side, no_word, word_if, character_side, by_characters, holds}
use Rattle.look_core.specs.Terminators.{Terminator}
use Rattle.look_core.specs.Codes.{reversed, is_word_unicode}
use Rattle.look_core.specs.declared.look.Look.{Look}
use Rattle.look_core.proofs.InsideLemmas.{before_some}
use Rattle.look_core.proofs.MirrorLemmas.{unicode_turns}

-- ---- scalars of parts
scalars_left : (xs ys : List ℕ) → all_scalars (xs ++ ys) ≡ true → all_scalars xs ≡ true
scalars_left [] ys h = refl
scalars_left (x ∷ xs) ys h = let p = and_parts _ _ h in and_from _ _ p.0 (scalars_left xs ys p.1)

scalars_right : (xs ys : List ℕ) → all_scalars (xs ++ ys) ≡ true → all_scalars ys ≡ true
scalars_right [] ys h = h
scalars_right (x ∷ xs) ys h = scalars_right xs ys (and_parts _ _ h).1

scalars_join : (xs ys : List ℕ) → all_scalars xs ≡ true → all_scalars ys ≡ true → all_scalars (xs ++ ys) ≡ true
scalars_join [] ys h k = k
scalars_join (x ∷ xs) ys h k = let p = and_parts _ _ h in and_from _ _ p.0 (scalars_join xs ys p.1 k)

scalars_reverse : (xs : List ℕ) → all_scalars xs ≡ true → all_scalars (reverse xs) ≡ true
scalars_reverse [] h = refl
scalars_reverse (x ∷ xs) h =
    let p = and_parts _ _ h in
    let last : all_scalars (x ∷ []) ≡ true = and_from _ _ p.0 refl in
    subst (λ (l : List ℕ). all_scalars l ≡ true) (sym (reverse-append (x ∷ []) xs))
    (scalars_join (reverse xs) (x ∷ []) (scalars_reverse xs p.1) last)

-- ---- the sides of an offset between characters
abbrev head_side : (ℕ → Bool) → List ℕ → Side
head_side words [] = no_word
head_side words (c ∷ cs) = word_if (words c)

side_is : (words : ℕ → Bool) (o p : Option ℕ) (b c : ℕ) → o ≡ Some b → p ≡ Some c → character_side words o p ≡ word_if (words c)
side_is words o p b c e f = rw (e, f)

no_side : (words : ℕ → Bool) (o p : Option ℕ) → o ≡ None → character_side words o p ≡ no_word
no_side words o p e = rw e

first_side : (words : ℕ → Bool) (front s rest : List ℕ) (c : ℕ) → Spells c s →
    (by_characters words).after (front ++ (s ++ rest)) (length front) ≡ word_if (words c)
first_side words front s rest c k =
    let h : List ℕ = front ++ (s ++ rest) in
    let first : SpellsFirst c (drop (length front) h) = record {
      spelling = s;
      rest = rest;
      spells = k;
      joined = drop-append_seam front (s ++ rest);
    } in
    let some = spelling_some c s k in
    let low : length front < length h = omega (arith, length-append front (s ++ rest), length-append s rest) in
    side_is words _ _ (get_or h (length front) 0) c (slice_get-get_or h (length front) 0 low) (begun_character h (length front) c first)

last_side : (words : ℕ → Bool) (front s rest : List ℕ) (c : ℕ) → Spells c s →
    (by_characters words).before ((front ++ s) ++ rest) (length (front ++ s)) ≡ word_if (words c)
last_side words front s rest c k =
    let h : List ℕ = (front ++ s) ++ rest in
    let n : ℕ = length (front ++ s) in
    let last : SpellsLast c (take n h) = record { front = front; spelling = s; spells = k; joined = take-append_seam (front ++ s) rest } in
    let some = spelling_some c s k in
    let fits : n ≤ length h = omega (arith, length-append (front ++ s) rest) in
    side_is words _ _ (get_or h (n - 1) 0) c (before_some h n (omega (arith, length-append front s)) fits) (ended_character h n c fits last)

after_side : (words : ℕ → Bool) (front ys : List ℕ) → all_scalars ys ≡ true →
    (by_characters words).after (front ++ encode_utf8_all ys) (length front) ≡ head_side words ys
after_side words front [] h = no_side words _ _ (slice_get_past (front ++ []) (length front) (omega (arith, length-append front [])))
after_side words front (c ∷ ys) h = first_side words front (encode_utf8 c) (encode_utf8_all ys) c
    (encoded_spells c _ (and_parts _ _ h).0 refl)

before_side : (words : ℕ → Bool) (rs rest : List ℕ) → all_scalars rs ≡ true →
    (by_characters words).before (encode_utf8_all (reverse rs) ++ rest) (length (encode_utf8_all (reverse rs))) ≡ head_side words rs
before_side words [] rest h = refl
before_side words (c ∷ rs) rest h =
    let e : encode_utf8_all (reverse rs) ++ encode_utf8 c ≡ encode_utf8_all (reverse (c ∷ rs)) =
    sym (ap encode_utf8_all (reverse-append (c ∷ []) rs) ∙ encodes-append (reverse rs) (c ∷ [])
    ∙ ap (λ (l : List ℕ). encode_utf8_all (reverse rs) ++ l) (append-nil (encode_utf8 c))) in
    subst (λ (a : List ℕ). (by_characters words).before (a ++ rest) (length a) ≡ head_side words (c ∷ rs)) e
    (last_side words (encode_utf8_all (reverse rs)) (encode_utf8 c) rest c (encoded_spells c _ (and_parts _ _ h).0 refl))

-- ---- a haystack cut in two, and the reversed one
text_of_two : (xs ys : List ℕ) → encode_utf8_all xs ++ encode_utf8_all ys ≡ encode_utf8_all (xs ++ ys)
text_of_two xs ys = sym (encodes-append xs ys)

sides_of_two : (words : ℕ → Bool) (rs ys : List ℕ) → all_scalars rs ≡ true → all_scalars ys ≡ true →
    ((by_characters words).before (encode_utf8_all (reverse rs ++ ys)) (length (encode_utf8_all (reverse rs))) ≡ head_side words rs)
    × ((by_characters words).after (encode_utf8_all (reverse rs ++ ys)) (length (encode_utf8_all (reverse rs))) ≡ head_side words ys)
sides_of_two words rs ys p q =
    let n : ℕ = length (encode_utf8_all (reverse rs)) in (
      subst (λ (h : List ℕ). (by_characters words).before h n ≡ head_side words rs) (text_of_two (reverse rs) ys)
          (before_side words rs (encode_utf8_all ys) p),
      subst (λ (h : List ℕ). (by_characters words).after h n ≡ head_side words ys) (text_of_two (reverse rs) ys)
          (after_side words (encode_utf8_all (reverse rs)) ys q),
    )

turned_by : (words : ℕ → Bool) (t : Terminator) (rs ys : List ℕ) (l : Look) → all_scalars rs ≡ true → all_scalars ys ≡ true →
    is_word_unicode l ≡ true →
    holds words t (encode_utf8_all (reverse rs ++ ys)) l (length (encode_utf8_all (reverse rs)))
    ≡ holds words t (encode_utf8_all (reverse ys ++ rs)) (reversed l) (length (encode_utf8_all (reverse ys)))
turned_by words t rs ys l p q u =
    let a = sides_of_two words rs ys p q in
    let b = sides_of_two words ys rs q p in
    unicode_turns (by_characters words) t _ _ _ _ (a.0 ∙ sym b.1) (a.1 ∙ sym b.0) l u

take_reversed : (xs ys : List ℕ) (n : ℕ) → n ≡ length ys → take n (reverse (xs ++ ys)) ≡ reverse ys
take_reversed xs ys n e =
    ap₂ (λ (k : ℕ) (l : List ℕ). take k l) (e ∙ sym (length-reverse ys)) (reverse-append xs ys) ∙ take-append_seam (reverse ys) (reverse xs)

turned_cut : (words : ℕ → Bool) (t : Terminator) (xs ys : List ℕ) (l : Look) → all_scalars xs ≡ true → all_scalars ys ≡ true →
    is_word_unicode l ≡ true →
    holds words t (encode_utf8_all (xs ++ ys)) l (length (encode_utf8_all xs))
    ≡ holds words t (encode_utf8_all (reverse (xs ++ ys))) (reversed l) (length (encode_utf8_all (reverse ys)))
turned_cut words t xs ys l p q u =
    let r = turned_by words t (reverse xs) ys l (scalars_reverse xs p) q u in
    let e = reverse-reverse xs in
    let f = reverse-append xs ys in
    ap₂ (λ (a b : List ℕ). holds words t (encode_utf8_all (a ++ ys)) l (length (encode_utf8_all b))) (sym e) (sym e)
    ∙ r ∙ ap (λ (a : List ℕ). holds words t (encode_utf8_all a) (reversed l) (length (encode_utf8_all (reverse ys)))) (sym f)

pub mirror_characters : (words : ℕ → Bool) (t : Terminator) (cs : List ℕ) (l : Look) (k : ℕ) → all_scalars cs ≡ true → k ≤ length cs →
    is_word_unicode l ≡ true →
    holds words t (encode_utf8_all cs) l (length (encode_utf8_all (take k cs)))
    ≡ holds words t (encode_utf8_all (reverse cs)) (reversed l) (length (encode_utf8_all (take (length cs - k) (reverse cs))))
mirror_characters words t cs l k s fits u =
    let xs : List ℕ = take k cs in
    let ys : List ℕ = drop k cs in
    let e : xs ++ ys ≡ cs = take-append-drop k cs in
    let both : all_scalars (xs ++ ys) ≡ true = subst (λ (a : List ℕ). all_scalars a ≡ true) (sym e) s in
    let r = turned_cut words t xs ys l (scalars_left xs ys both) (scalars_right xs ys both) u in
    let n : length cs - k ≡ length ys = sym (length-drop k cs) in
    let w : take (length cs - k) (reverse cs) ≡ reverse ys = ap (λ (a : List ℕ). take (length cs - k) (reverse a)) (sym e)
    ∙ take_reversed xs ys (length cs - k) n in
    ap (λ (a : List ℕ). holds words t (encode_utf8_all a) l (length (encode_utf8_all xs))) (sym e) ∙ r
    ∙ ap₂ (λ (a b : List ℕ). holds words t (encode_utf8_all (reverse a)) (reversed l) (length (encode_utf8_all b))) e (sym w)
