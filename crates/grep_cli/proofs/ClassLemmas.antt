-- Names of classes: a pattern that is read part by part is read byte by byte.
use Rattle.std.proofs.Common.{◌≡◌, ◌⊎◌, inl, inr, ◌<◌, ◌≤◌, ◌∙◌, ◌==◌, ℕ, ◌+◌, ◌-◌, Bool, true, false, ◌&&◌, nat_lt, nat_eq, List, [], ◌∷◌, length, take, drop, get_or, ap, cond, sym, refl, subst, arith, add-zero, zero-add, add-one, one-add, drop-cons, drop-drop, take_all}
use Rattle.std.specs.Prelude.{Option, Some, None, min, not}
use Rattle.std.specs.Option.{option_or}
use Rattle.std.proofs.lemmas.Bool.{cases_lt}
use Rattle.std.proofs.lemmas.Bool.Decides.{nat_tests}
use Rattle.std.proofs.lemmas.List.{drop_all, length-drop}
use Rattle.std.specs.List.{starts_with}
use Rattle.std.specs.Char.{is_ascii_lowercase}
use Rattle.globs.specs.Rules.{begins, without_first}
use Rattle.grep_cli.specs.ClassNames.{Last, Bracket, Caret, Other, fault_at, fault_from, has_flags, has_name, is_bracket, is_class_name, letters_len, class_name_in, name_len, open_after, last_by}
use Rattle.grep_cli.specs.ClassParts.{Reads, one_if, opening_len}
use Rattle.grep_cli.specs.declared.class_names.Misnamed.{Misnamed}
use Rattle.grep_cli.specs.declared.class_names.Misnamed.TheVariants.{Outside, Unknown}
use Rattle.grep_cli.specs.declared.class_names.Part.TheVariants.{Read, Unnamed}

-- ---- tests

same_byte : (a b : ℕ) → (a == b) ≡ true → a ≡ b
same_byte a b e = grind (arith, nat_tests)

is_apart : (c k : ℕ) → k < c → (c == k) ≡ false
is_apart c k h = grind (arith, nat_tests)

is_above : (c : ℕ) → is_ascii_lowercase c ≡ true → 96 < c
is_above c e = grind (arith, nat_tests)

is_some : (n : ℕ) → 0 < n → nat_lt 0 n ≡ true
is_some n h = grind (arith, nat_tests)

both : (x y : Bool) → (x && y) ≡ true → (x ≡ true) × (y ≡ true)
both true true e = (refl, refl)
both true false e = cc
both false y e = cc

-- ---- the offset further on

shifted : (last : Last) (depth at n c : ℕ) (cs : List ℕ)
    → fault_from last depth (at + 1 + n) (drop n cs) ≡ fault_from last depth (at + (1 + n)) (drop (1 + n) (c ∷ cs))
shifted last depth at n c cs =
    let on : at + 1 + n ≡ at + (1 + n) = omega arith in
    ap (λ k. fault_from last depth k (drop n cs)) on
    ∙ ap (λ k. fault_from last depth (at + (1 + n)) (drop k (c ∷ cs))) (sym (one-add n))

-- ---- the beginning of a class

closing_first : (depth at d : ℕ) (ds : List ℕ) → d ≡ 93
    → fault_from Caret depth at (d ∷ ds) ≡ fault_from Other depth (at + one_if (d == 93)) (drop (one_if (d == 93)) (d ∷ ds))
closing_first depth at d ds e =
    subst (λ (d : ℕ). fault_from Caret depth at (d ∷ ds) ≡ fault_from Other depth (at + one_if (d == 93)) (drop (one_if (d == 93)) (d ∷ ds)))
    (sym e)
    refl

same_open : (depth d : ℕ) → (d == 93) ≡ false → open_after Caret depth d ≡ open_after Other depth d
same_open depth d e = ap (λ t. cond (is_bracket (last_by d)) (depth + 1) (cond t (depth - 1) depth)) (sym e)

after_caret : (depth at : ℕ) (cs : List ℕ)
    → fault_from Caret depth at cs ≡ fault_from Other depth (at + one_if (begins 93 cs)) (drop (one_if (begins 93 cs)) cs)
after_caret depth at [] = refl
after_caret depth at (d ∷ ds) = go (d == 93) refl
  where
    go : (t : Bool) → (d == 93) ≡ t
        → fault_from Caret depth at (d ∷ ds) ≡ fault_from Other depth (at + one_if (d == 93)) (drop (one_if (d == 93)) (d ∷ ds))
    go true e = closing_first depth at d ds (same_byte d 93 e)
    go false e =
        ap (λ o. option_or (cond (is_bracket (last_by d)) (fault_at depth at ds) None) (fault_from (last_by d) o (at + 1) ds))
        (same_open depth d e)
        ∙ (ap (λ k. fault_from Other depth k (d ∷ ds)) (sym (add-zero at))
        ∙ ap (λ t. fault_from Other depth (at + one_if t) (drop (one_if t) (d ∷ ds))) (sym e))

caret_first : (depth at c : ℕ) (cs : List ℕ) → c ≡ 94
    → fault_from Bracket depth at (c ∷ cs) ≡ fault_from Other depth (at + opening_len (c ∷ cs)) (drop (opening_len (c ∷ cs)) (c ∷ cs))
caret_first depth at c cs e =
    subst (λ (c : ℕ). fault_from Bracket depth at (c ∷ cs) ≡ fault_from Other depth (at + opening_len (c ∷ cs)) (drop (opening_len (c ∷ cs)) (c ∷ cs)))
    (sym e)
    (after_caret depth (at + 1) cs ∙ shifted Other depth at (one_if (begins 93 cs)) 94 cs)

no_caret : (depth at c : ℕ) (cs : List ℕ) → (c == 94) ≡ false → fault_from Bracket depth at (c ∷ cs) ≡ fault_from Caret depth at (c ∷ cs)
no_caret depth at c cs e =
    ap (λ t. option_or (cond (is_bracket (cond t Caret (last_by c))) (fault_at depth at cs) None)
    (fault_from (cond t Caret (last_by c)) (cond (is_bracket (cond t Caret (last_by c))) (depth + 1) depth) (at + 1) cs))
    e

opened : (depth at : ℕ) (rest : List ℕ)
    → fault_from Bracket depth at rest ≡ fault_from Other depth (at + opening_len rest) (drop (opening_len rest) rest)
opened depth at [] = refl
opened depth at (c ∷ cs) = go (c == 94) refl
  where
    go : (t : Bool) → (c == 94) ≡ t
        → fault_from Bracket depth at (c ∷ cs) ≡ fault_from Other depth (at + opening_len (c ∷ cs)) (drop (opening_len (c ∷ cs)) (c ∷ cs))
    go true e = caret_first depth at c cs (same_byte c 94 e)
    go false e =
        let len : one_if (c == 93) ≡ opening_len (c ∷ cs) =
        sym (zero-add (one_if (c == 93))) ∙ ap (λ t. one_if t + one_if (begins 93 (cond t cs (c ∷ cs)))) (sym e) in
        no_caret depth at c cs e
        ∙ (after_caret depth at (c ∷ cs) ∙ ap (λ k. fault_from Other depth (at + k) (drop k (c ∷ cs))) len)

class_begins : (depth now n : ℕ) (rest : List ℕ) → n ≡ opening_len rest → now ≡ depth + 1 → ((at : ℕ) → fault_at depth at rest ≡ None)
    → Reads (Read (1 + n) now) depth (91 ∷ rest)
class_begins depth now n rest is_len is_now none = (
  omega arith,
  (
    omega arith,
    λ at.
        ap (λ o. option_or o (fault_from Bracket (depth + 1) (at + 1) rest)) (none at)
        ∙ (opened (depth + 1) (at + 1) rest ∙ (shifted Other (depth + 1) at (opening_len rest) 91 rest
        ∙ (ap (λ m. fault_from Other (depth + 1) (at + (1 + m)) (drop (1 + m) (91 ∷ rest))) (sym is_len)
        ∙ ap (λ d. fault_from Other d (at + (1 + n)) (drop (1 + n) (91 ∷ rest))) (sym is_now)))),
  ),
)

-- ---- brackets outside of classes

pub outer_class : (n len : ℕ) (rest text : List ℕ) → text ≡ without_first 94 rest → n ≡ name_len text → n ≤ 0 → len ≡ opening_len rest
    → Reads (Read (1 + len) 1) 0 (91 ∷ rest)
outer_class n len rest text cut is_len none is_opening =
    let zero_len : name_len (without_first 94 rest) ≡ 0 = ap name_len (sym cut) ∙ (sym is_len ∙ omega arith) in
    class_begins 0 1 len rest is_opening refl (λ at. rw zero_len refl)

-- ---- names in classes

plain_step : (depth at c : ℕ) (cs : List ℕ) → 96 < c → fault_from Other depth at (c ∷ cs) ≡ fault_from Other depth (at + 1) cs
plain_step depth at c cs h =
    let a : (c == 91) ≡ false = is_apart c 91 (omega arith) in
    let b : (c == 92) ≡ false = is_apart c 92 (omega arith) in
    let d : (c == 93) ≡ false = is_apart c 93 (omega arith) in
    rw (a, b, d) refl

letters_on : (depth at : ℕ) (cs : List ℕ) → fault_from Other depth at cs ≡ fault_from Other depth (at + letters_len cs) (drop (letters_len cs) cs)
letters_on depth at [] = refl
letters_on depth at (c ∷ cs) = go (is_ascii_lowercase c) refl (letters_on depth (at + 1) cs)
  where
    go : (t : Bool) → is_ascii_lowercase c ≡ t
        → fault_from Other depth (at + 1) cs ≡ fault_from Other depth (at + 1 + letters_len cs) (drop (letters_len cs) cs)
        → fault_from Other depth at (c ∷ cs)
        ≡ fault_from Other depth (at + cond t (1 + letters_len cs) 0) (drop (cond t (1 + letters_len cs) 0) (c ∷ cs))
    go true e more = plain_step depth at c cs (is_above c e) ∙ (more ∙ shifted Other depth at (letters_len cs) c cs)
    go false e more = ap (λ k. fault_from Other depth k (c ∷ cs)) (sym (add-zero at))

end_on : (depth at : ℕ) (cs : List ℕ) → starts_with nat_eq cs (58 ∷ 93 ∷ []) ≡ true
    → fault_from Other depth at cs ≡ fault_from Other (depth - 1) (at + 2) (drop 2 cs)
end_on depth at [] e = cc
end_on depth at (a ∷ []) e = let no = both (nat_eq 58 a) false e in cc
end_on depth at (a ∷ b ∷ more) e =
    let first = both (nat_eq 58 a) (nat_eq 93 b && true) e in
    let second = both (nat_eq 93 b) true first.1 in
    let on : at + 1 + 1 ≡ at + 2 = omega arith in
    subst (λ (a : ℕ). fault_from Other depth at (a ∷ b ∷ more) ≡ fault_from Other (depth - 1) (at + 2) more) (same_byte 58 a first.0)
    (subst (λ (b : ℕ). fault_from Other depth at (58 ∷ b ∷ more) ≡ fault_from Other (depth - 1) (at + 2) more) (same_byte 93 b second.0)
    (ap (λ k. fault_from Other (depth - 1) k more) on))

record IsNamed (n : ℕ) (rest : List ℕ) : Type 0 where
  cs : List ℕ
  whole : rest ≡ 58 ∷ cs
  long : n ≡ letters_len cs
  ended : starts_with nat_eq (drop (letters_len cs) cs) (58 ∷ 93 ∷ []) ≡ true

is_named : (n : ℕ) (rest : List ℕ) → n ≡ name_len rest → 0 < n → IsNamed n rest
is_named n [] e h = absurd (omega arith)
is_named n (c ∷ cs) e h = go (c == 58 && starts_with nat_eq (drop (letters_len cs) cs) (58 ∷ 93 ∷ [])) refl e
  where
    go : (t : Bool) → (c == 58 && starts_with nat_eq (drop (letters_len cs) cs) (58 ∷ 93 ∷ [])) ≡ t → n ≡ cond t (letters_len cs) 0
        → IsNamed n (c ∷ cs)
    go true t f =
        let tests = both (c == 58) (starts_with nat_eq (drop (letters_len cs) cs) (58 ∷ 93 ∷ [])) t in
        record { cs = cs; whole = ap (λ b. b ∷ cs) (same_byte c 58 tests.0); long = f; ended = tests.1 }
    go false t f = absurd (omega arith)

name_on : (depth at n : ℕ) (rest : List ℕ) → IsNamed n rest
    → fault_from Bracket (depth + 1) (at + 1) rest ≡ fault_from Other depth (at + (n + 4)) (drop (n + 4) (91 ∷ rest))
name_on depth at n rest named =
    let on : at + 1 + 1 + letters_len named.cs + 2 ≡ at + (n + 4) = omega (arith, named.long) in
    let off : depth + 1 - 1 ≡ depth = omega arith in
    let past : letters_len named.cs + 2 + 2 ≡ n + 4 = omega (arith, named.long) in
    let far : drop 2 (drop (letters_len named.cs) named.cs) ≡ drop (n + 4) (91 ∷ rest) =
    drop-drop 2 (letters_len named.cs) named.cs
    ∙ (drop-drop (letters_len named.cs + 2) 2 (91 ∷ 58 ∷ named.cs) ∙ (ap (λ k. drop k (91 ∷ 58 ∷ named.cs)) (omega arith)
    ∙ ap (λ xs. drop (n + 4) (91 ∷ xs)) (sym named.whole))) in
    ap (fault_from Bracket (depth + 1) (at + 1)) named.whole
    ∙ (letters_on (depth + 1) (at + 1 + 1) named.cs
    ∙ (end_on (depth + 1) (at + 1 + 1 + letters_len named.cs) (drop (letters_len named.cs) named.cs) named.ended
    ∙ (λ i. fault_from Other (off i) (on i) (far i))))

-- What is found at a bracket in a class.
fault_in : (depth at : ℕ) (rest : List ℕ) (named known : Bool) → 0 < depth → has_name rest ≡ named → is_class_name (class_name_in rest) ≡ known
    → fault_at depth at rest ≡ cond (named && not known) (Some (Unknown at)) None
fault_in depth at rest named known h e f =
    ap (λ t. cond t (cond (has_name (without_first 94 rest)) (Some Outside) None)
    (cond (has_name rest && not (is_class_name (class_name_in rest))) (Some (Unknown at)) None))
    (is_apart depth 0 h)
    ∙ (ap (λ t. cond (t && not (is_class_name (class_name_in rest))) (Some (Unknown at)) None) e ∙ ap (λ t. cond (named && not t) (Some (Unknown at)) None) f)

pub inner_class : (depth now n len : ℕ) (rest : List ℕ) → 0 < depth → n ≡ name_len rest → n ≡ 0 → len ≡ opening_len rest → now ≡ depth + 1
    → Reads (Read (1 + len) now) depth (91 ∷ rest)
inner_class depth now n len rest inside is_len none is_opening is_now =
    let no_name : has_name rest ≡ false = ap (λ m. nat_lt 0 m) (sym is_len ∙ none) in
    class_begins depth now len rest is_opening is_now (λ at. fault_in depth at rest false _ inside no_name refl)

known_in : (n : ℕ) (rest name : List ℕ) (known : Bool) → n ≡ name_len rest → name ≡ take n (drop 1 rest) → known ≡ is_class_name name
    → is_class_name (class_name_in rest) ≡ known
known_in n rest name known is_len is_name e =
    ap (λ m. is_class_name (take m (drop 1 rest))) (sym is_len) ∙ (ap is_class_name (sym is_name) ∙ sym e)

some_name : (n : ℕ) (rest : List ℕ) → n ≡ name_len rest → 0 < n → has_name rest ≡ true
some_name n rest is_len some = ap (λ m. nat_lt 0 m) (sym is_len) ∙ is_some n some

pub inner_known : (depth n : ℕ) (rest name : List ℕ) → 0 < depth → n ≡ name_len rest → 0 < n → name ≡ take n (drop 1 rest)
    → true ≡ is_class_name name
    → Reads (Read (n + 4) depth) depth (91 ∷ rest)
inner_known depth n rest name inside is_len some is_name known =
    let named = is_named n rest is_len some in (
      omega arith,
      (
        omega arith,
        λ at.
            ap (λ o. option_or o (fault_from Bracket (depth + 1) (at + 1) rest))
            (fault_in depth at rest true true inside (some_name n rest is_len some) (known_in n rest name true is_len is_name known))
            ∙ name_on depth at n rest named,
      ),
    )

pub inner_unknown : (depth n : ℕ) (rest name : List ℕ) → 0 < depth → n ≡ name_len rest → 0 < n → name ≡ take n (drop 1 rest)
    → false ≡ is_class_name name
    → Reads Unnamed depth (91 ∷ rest)
inner_unknown depth n rest name inside is_len some is_name unknown at =
    ap (λ o. option_or o (fault_from Bracket (depth + 1) (at + 1) rest))
    (fault_in depth at rest true false inside (some_name n rest is_len some) (known_in n rest name false is_len is_name unknown))

-- ---- from part to part

saturated : (depth at n most : ℕ) (text : List ℕ) → length text ≤ most
    → fault_from Other depth (at + n) (drop n (drop at text)) ≡ fault_from Other depth (min (at + n) most) (drop (min (at + n) most) text)
saturated depth at n most text few = go (cases_lt most (at + n))
  where
    go : ((most < at + n) ⊎ (at + n ≤ most))
        → fault_from Other depth (at + n) (drop n (drop at text)) ≡ fault_from Other depth (min (at + n) most) (drop (min (at + n) most) text)
    go (inr le) =
        let same : min (at + n) most ≡ at + n = omega arith in
        ap (fault_from Other depth (at + n)) (drop-drop n at text)
        ∙ ap (λ k. fault_from Other depth k (drop k text)) (sym same)
    go (inl more) =
        let none = drop_all (min (at + n) most) text (omega arith) in
        let all = drop-drop n at text ∙ drop_all (at + n) text (omega arith) in
        ap (fault_from Other depth (at + n)) all ∙ ap (fault_from Other depth (min (at + n) most)) (sym none)

pub read_on : (depth now at n most : ℕ) (text left : List ℕ) (found : Option Misnamed) → left ≡ drop at text → Reads (Read n now) depth left
    → length text ≤ most → fault_from Other depth at (drop at text) ≡ found
    → fault_from Other now (min (at + n) most) (drop (min (at + n) most) text) ≡ found
read_on depth now at n most text left found cut reads few before =
    sym (saturated now at n most text few)
    ∙ (ap (λ xs. fault_from Other now (at + n) (drop n xs)) (sym cut) ∙ (sym (reads.1.1 at) ∙ (ap (fault_from Other depth at) cut ∙ before)))

-- ---- flags

pub flags_on : (text : List ℕ) (at : ℕ) → at < length text → starts_with nat_eq (take (length text - at) (drop at text)) (40 ∷ 63 ∷ []) ≡ false
    → has_flags (drop at text) ≡ has_flags (drop (at + 1) text)
flags_on text at less unlike =
    let whole = take_all (length text - at) (drop at text) (omega (arith, length-drop at text)) in
    let cut = drop-cons text at 0 less in
    let test : starts_with nat_eq (get_or text at 0 ∷ drop (at + 1) text) (40 ∷ 63 ∷ []) ≡ false =
    ap (λ xs. starts_with nat_eq xs (40 ∷ 63 ∷ [])) (ap (λ k. get_or text at 0 ∷ drop k text) (add-one at) ∙ (sym cut ∙ sym whole)) ∙ unlike in
    ap has_flags (cut ∙ ap (λ k. get_or text at 0 ∷ drop k text) (sym (add-one at))) ∙ rw test refl

-- ---- the rest of a pattern

pub rest_from : (at : ℕ) (text left rest : List ℕ) (first : ℕ) → left ≡ take (length text - at) (drop at text) → left ≡ first ∷ rest
    → first ∷ rest ≡ drop at text
rest_from at text left rest first cut whole =
    sym whole ∙ (cut ∙ take_all (length text - at) (drop at text) (omega (arith, length-drop at text)))
