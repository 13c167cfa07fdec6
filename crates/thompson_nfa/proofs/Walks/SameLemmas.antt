-- Trees that are the same to a table: they mean the same and prefer the same ends.
use Rattle.std.proofs.Common.{◌≡◌, ℕ, ◌+◌, Bool, true, false, List, [], ◌∷◌, ◌++◌, length, drop, Option, if◌then◌else◌, ◌&&◌, slice_get}
use Rattle.std.proofs.Common.{nat_eq, inl, inr, refl, sym, ap, ◌∙◌, subst, arith, append-nil, drop-drop, drop-cons, drop_of_length-le}
use Rattle.std.proofs.lemmas.Grind.{common_steps}
use Rattle.std.proofs.lemmas.Option.{slice_get_cases}
use Rattle.std.proofs.Math.Bool.{and_assoc, or-false}
use Rattle.std.specs.List.{flat_map, starts_with}
use Rattle.hir_core.specs.Tree.{Tree, empty, literal, byte_class, capture, nothing, cat, concat, alternation}
use Rattle.hir_core.specs.Means.{Looks, Means, stands, is_member}
use Rattle.hir_core.specs.PreferredEnds.{preferred_ends, class_end, Has as HasEnd}
use Rattle.hir_core.specs.Facts.{LoopsRead}
use Rattle.hir_core.proofs.ForCallers.{flat_map-flat_map, flat_map_same, preferred_ends_sound, preferred_ends_complete}
use Rattle.nfa_core.specs.Drafted.{Table}
use Rattle.thompson_nfa.specs.Denotes.{Denotes}
use Rattle.thompson_nfa.proofs.Steps.LookLemmas.{or_turned, uses_concat}
use Rattle.thompson_nfa.proofs.Walks.MeantLemmas.{meant_map, meant_cat_reverse, cat_meant_reverse}
use Rattle.look_core.specs.declared.look.Look.{Look}
use Rattle.thompson_nfa.specs.Compiled.{uses}
use Rattle.thompson_nfa.proofs.Walks.DenoteLemmas.{Joins, denotes_like}

-- if the bodies of unbounded repetitions in z consume at least one byte, so do those in y; and both trees prefer the same ends
pub record IsSame (y z : Tree) : Type 0 where
  pub reading : LoopsRead z → LoopsRead y
  pub ends : (looks : Looks) (h : List ℕ) (i : ℕ) → preferred_ends looks h y i ≡ preferred_ends looks h z i
  pub met : (back : Bool) (l : Look) → uses back y l ≡ uses back z l

pub same_narrow : (y z : Tree) → IsSame y z → (looks : Looks) (h : List ℕ) (i j : ℕ) → Means looks h z i j → Means looks h y i j
same_narrow y z s looks h i j m =
    let P : List ℕ → Type 0 = λ l. HasEnd l j in
    preferred_ends_sound looks h y i j (subst P (sym (s.ends looks h i)) (preferred_ends_complete looks h z i j m))

pub same_wide : (y z : Tree) → IsSame y z → (looks : Looks) (h : List ℕ) (i j : ℕ) → Means looks h y i j → Means looks h z i j
same_wide y z s looks h i j m =
    let P : List ℕ → Type 0 = λ l. HasEnd l j in
    preferred_ends_sound looks h z i j (subst P (s.ends looks h i) (preferred_ends_complete looks h y i j m))

pub denotes_same : (back : Bool) (T : Table) (s e : ℕ) (y z : Tree) → IsSame y z → Denotes back T s e y → Denotes back T s e z
denotes_same back T s e y z same d = denotes_like back T s e y z same.reading same.ends d

pub joins_same : (back : Bool) (x1 x2 y z : Tree) → IsSame y z → Joins back x1 x2 y → Joins back x1 x2 z
joins_same back x1 x2 y z same j = record {
  parts = λ t i k m. j.parts t i k (meant_map z y (same_narrow y z same) back t i k m);
  joined = λ t i k m. meant_map y z (same_wide y z same) back t i k (j.joined t i k m);
  reading = λ f. j.reading (same.reading f);
  ends = λ up looks h i. j.ends up looks h i ∙ same.ends looks h i;
  met = λ l. sym (same.met back l) ∙ j.met l;
}

-- two parts: the first is done first forward, the second in reverse
pub joins_cat_forward : (x y : Tree) → Joins false x y (cat x y)
joins_cat_forward x y = record {
  parts = λ t i j m. m;
  joined = λ t i j m. m;
  reading = λ f. f;
  ends = λ up looks h i. refl;
  met = λ l. refl;
}

pub joins_cat_reverse : (x y : Tree) → Joins true y x (cat x y)
joins_cat_reverse x y = record {
  parts = λ t i j m. meant_cat_reverse t x y i j m;
  joined = λ t i j m. cat_meant_reverse t x y i j m.0 m.1 m.2;
  reading = λ f. (f.1, f.0);
  ends = λ up looks h i. cc;
  met = λ l. or_turned (uses true x l) (uses true y l);
}

-- ---- concatenations and alternations of few parts, groups

pub flat_map_each : (xs : List ℕ) → flat_map (λ k. k ∷ []) xs ≡ xs
flat_map_each [] = refl
flat_map_each (x ∷ xs) = ap (λ (l : List ℕ). x ∷ l) (flat_map_each xs)

pub same_concat_none : IsSame empty nothing
same_concat_none = record { reading = λ f. tt; ends = λ looks h i. refl; met = λ back l. refl }

pub same_concat_one : (x : Tree) → IsSame x (concat (x ∷ []))
same_concat_one x =
    record {
      reading = λ f. f.0;
      ends = λ looks h i. sym (flat_map_each (preferred_ends looks h x i));
      met =
          λ back l. sym (or-false (uses back x l));
    }

pub same_alternation_one : (x : Tree) → IsSame x (alternation (x ∷ []))
same_alternation_one x =
    record {
      reading = λ f. f.0;
      ends = λ looks h i. sym (append-nil (preferred_ends looks h x i));
      met =
          λ back l. sym (or-false (uses back x l));
    }

pub same_capture : (index : ℕ) (name : Option (List ℕ)) (x : Tree) → IsSame x (capture index name x)
same_capture index name x = record { reading = λ f. f; ends = λ looks h i. refl; met = λ back l. refl }

concat_reading : (xs ys : List Tree) → LoopsRead (concat (xs ++ ys)) → LoopsRead (concat xs) × LoopsRead (concat ys)
concat_reading [] ys f = (tt, f)
concat_reading (x ∷ xs) ys f = let r = concat_reading xs ys f.1 in ((f.0, r.0), r.1)

concat_ends : (looks : Looks) (h : List ℕ) (xs ys : List Tree) (i : ℕ) →
    flat_map (preferred_ends looks h (concat ys)) (preferred_ends looks h (concat xs) i) ≡ preferred_ends looks h (concat (xs ++ ys)) i
concat_ends looks h [] ys i = append-nil (preferred_ends looks h (concat ys) i)
concat_ends looks h (x ∷ xs) ys i =
    flat_map-flat_map (preferred_ends looks h (concat ys)) (preferred_ends looks h (concat xs)) (preferred_ends looks h x i)
    ∙ flat_map_same (λ k. flat_map (preferred_ends looks h (concat ys)) (preferred_ends looks h (concat xs) k))
    (preferred_ends looks h (concat (xs ++ ys)))
    (preferred_ends looks h x i) (λ k m. concat_ends looks h xs ys k)

pub same_concat_append : (xs ys : List Tree) → IsSame (cat (concat xs) (concat ys)) (concat (xs ++ ys))
same_concat_append xs ys =
    record {
      reading = λ f. concat_reading xs ys f;
      ends = λ looks h i. concat_ends looks h xs ys i;
      met =
          λ back l. sym (uses_concat back xs ys l);
    }

-- ---- bytes

starts_append : (us vs xs : List ℕ) → starts_with nat_eq xs (us ++ vs) ≡ (starts_with nat_eq xs us
    && starts_with nat_eq (drop (length us) xs) vs)
starts_append [] vs xs = refl
starts_append (a ∷ us) vs [] = refl
starts_append (a ∷ us) vs (x ∷ xs) =
    ap (λ (c : Bool). nat_eq a x && c) (starts_append us vs xs)
    ∙ sym (and_assoc (nat_eq a x) (starts_with nat_eq xs us) (starts_with nat_eq (drop (length us) xs) vs))

stands_append : (h : List ℕ) (i : ℕ) (us vs : List ℕ) → stands h i (us ++ vs) ≡ (stands h i us && stands h (i + length us) vs)
stands_append h i us vs =
    starts_append us vs (drop i h) ∙ ap (λ (rest : List ℕ). starts_with nat_eq (drop i h) us
    && starts_with nat_eq rest vs) (drop-drop (length us) i h)

two_stands : (c : Bool) (d : ℕ → Bool) (i n m k : ℕ) → i + n + m ≡ i + k →
    flat_map (λ p. if d p then (p + m) ∷ [] else []) (if c then (i + n) ∷ [] else []) ≡ (if c && d (i + n) then (i + k) ∷ [] else [])
two_stands true d i n m k e = append-nil (if d (i + n) then (i + n + m) ∷ [] else []) ∙ ap (λ (p : ℕ). if d (i + n) then p ∷ [] else []) e
two_stands false d i n m k e = refl

pub length_joined : (us vs : List ℕ) → length (us ++ vs) ≡ length us + length vs
length_joined [] vs = omega arith
length_joined (a ∷ us) vs = let e = length_joined us vs in omega arith

literal_ends : (looks : Looks) (h : List ℕ) (us vs : List ℕ) (i : ℕ) →
    flat_map (preferred_ends looks h (literal vs)) (preferred_ends looks h (literal us) i) ≡ preferred_ends looks h (literal (us ++ vs)) i
literal_ends looks h us vs i =
    two_stands (stands h i us) (λ p. stands h p vs) i (length us) (length vs) (length (us ++ vs)) (let e = length_joined us vs in
    omega arith)
    ∙ ap (λ (c : Bool). if c then (i + length (us ++ vs)) ∷ [] else []) (sym (stands_append h i us vs))

pub same_literal_append : (us vs : List ℕ) → IsSame (cat (literal us) (literal vs)) (literal (us ++ vs))
same_literal_append us vs = record { reading = λ f. (tt, tt); ends = λ looks h i. literal_ends looks h us vs i; met = λ back l. refl }

none_stands : (h : List ℕ) (i : ℕ) → i ∷ [] ≡ (if stands h i [] then (i + 0) ∷ [] else [])
none_stands h i = ap (λ (k : ℕ). k ∷ []) (let e : i ≡ i + 0 = omega arith in e)

pub same_literal_none : IsSame empty (literal [])
same_literal_none = record { reading = λ f. tt; ends = λ looks h i. none_stands h i; met = λ back l. refl }

-- a byte between b and b
one_between : (b c : ℕ) → is_member ((b, b) ∷ []) c ≡ (nat_eq b c && true)
one_between b c = grind (arith, common_steps)

byte_ends_stand : (h : List ℕ) (i b : ℕ) → class_end ((b, b) ∷ []) (slice_get h i) i ≡ (if stands h i (b ∷ []) then (i + 1) ∷ [] else [])
byte_ends_stand h i b = elim (slice_get_cases h i).1 [
  | inl x ↦
      ap (λ (o : Option ℕ). class_end ((b, b) ∷ []) o i) x.2
      ∙ ap (λ (c : Bool). if c then (i + 1) ∷ [] else []) (one_between b x.0)
      ∙ ap (λ (c : ℕ). if nat_eq b c && true then (i + 1) ∷ [] else []) (sym x.3)
      ∙ ap (λ (rest : List ℕ). if starts_with nat_eq rest (b ∷ []) then (i + 1) ∷ [] else []) (sym (drop-cons h i x.0 x.1))
  | inr o ↦
      ap (λ (c : Option ℕ). class_end ((b, b) ∷ []) c i) o.1
      ∙ ap (λ (rest : List ℕ). if starts_with nat_eq rest (b ∷ []) then (i + 1) ∷ [] else []) (sym (drop_of_length-le h o.0))
]

pub same_literal_one : (b : ℕ) → IsSame (byte_class ((b, b) ∷ [])) (literal (b ∷ []))
same_literal_one b = record { reading = λ f. tt; ends = λ looks h i. byte_ends_stand h i b; met = λ back l. refl }
