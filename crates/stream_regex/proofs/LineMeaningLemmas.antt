-- Streams that read line by line report what the patterns match in each line.
use Rattle.std.proofs.Common.{◌≡◌, ◌⊎◌, ◌↔◌, ◌∙◌, ◌+◌, ◌<◌, ◌||◌, ◌++◌, ◌==◌, ◌∷◌, ℕ, zero, suc, Bool, true, false, List, All, Option, Some, None, []}
use Rattle.std.proofs.Common.{length, map, option_map, slice_get, refl, sym, ap, subst, inl, inr, arith}
use Rattle.std.specs.Prelude.{⊤}
use Rattle.std.specs.List.{list_any}
use Rattle.std.proofs.lemmas.List.Folds.{list_any-append}
use Rattle.std.proofs.lemmas.Option.{none-some, same_Some}
use Rattle.regex_hir.specs.Re.{Re}
use Rattle.search_core.specs.Utf8.{IsValidText}
use Rattle.search_types.specs.declared.match_error.MatchErrorKind.{MatchErrorKind}
use Rattle.nfa_core.specs.Places.{same_pair}
use Rattle.nfa_core.specs.Walks.{Has}
use Rattle.nfa_core.proofs.ForCallers.{has_cons, has_first, has_later, none_in, of_append, pairs_equal}
use Rattle.lazy_dfa.specs.Dfas.{Dfa}
use Rattle.lazy_dfa.specs.Overlapping.{Rest, nothing_left, onto}
use Rattle.streams.specs.Lines.{lines_from, lines_in, moved_end, moved_error, rest_of_each, unless_rejected}
use Rattle.streams.specs.Overlapping.{rest_of_stream}
use Rattle.streams.specs.Streams.{fresh_stream}
use Rattle.stream_regex.specs.Meaning.{IsEndOf, IsEndOfLine}

-- ---- pairs in lists

or_true : (b : Bool) → (b || true) ≡ true
or_true true = refl
or_true false = refl

in_first : (q : ℕ × ℕ) (xs ys : List (ℕ × ℕ)) → Has same_pair q xs → Has same_pair q (xs ++ ys)
in_first q xs ys h = list_any-append (same_pair q) xs ys ∙ ap (λ (b : Bool). b || list_any (same_pair q) ys) h

in_rest : (q : ℕ × ℕ) (xs ys : List (ℕ × ℕ)) → Has same_pair q ys → Has same_pair q (xs ++ ys)
in_rest q xs ys h =
    list_any-append (same_pair q) xs ys
    ∙ ap (λ (b : Bool). list_any (same_pair q) xs || b) h
    ∙ or_true (list_any (same_pair q) xs)

-- an end in a line, as one that was moved by the offset of the line
record IsMoved (i : ℕ) (es : List (ℕ × ℕ)) (end pattern : ℕ) : Type 0 where
  pub at : ℕ
  pub end_is : end ≡ i + at
  pub has : Has same_pair (at, pattern) es

from_moved : (i : ℕ) (es : List (ℕ × ℕ)) (end pattern : ℕ) → Has same_pair (end, pattern) (map (moved_end i) es) → IsMoved i es end pattern
from_moved i [] end pattern h = none_in same_pair (end, pattern) (IsMoved i [] end pattern) h
from_moved i (e ∷ es) end pattern h =
    by (λ later. from_moved i es end pattern later) (has_cons same_pair pairs_equal (end, pattern) (moved_end i e) (map (moved_end i) es) h)
  where
    by : (Has same_pair (end, pattern) (map (moved_end i) es) → IsMoved i es end pattern) →
        ((end, pattern) ≡ moved_end i e) ⊎ Has same_pair (end, pattern) (map (moved_end i) es) → IsMoved i (e ∷ es) end pattern
    by rest (inl is) = record {
      at = e.0;
      end_is = ap (λ (q : ℕ × ℕ). q.0) is;
      has = subst (λ (p : ℕ). Has same_pair (e.0, p) (e ∷ es)) (sym (ap (λ (q : ℕ × ℕ). q.1) is)) (has_first same_pair pairs_equal e es);
    }
    by rest (inr later) =
        let m = rest later in
        record { at = m.at; end_is = m.end_is; has = has_later same_pair (m.at, pattern) e es m.has }

into_moved : (i : ℕ) (es : List (ℕ × ℕ)) (at pattern : ℕ) → Has same_pair (at, pattern) es →
    Has same_pair (i + at, pattern) (map (moved_end i) es)
into_moved i [] at pattern h = none_in same_pair (at, pattern) (Has same_pair (i + at, pattern) []) h
into_moved i (e ∷ es) at pattern h =
    by (λ later. into_moved i es at pattern later) (has_cons same_pair pairs_equal (at, pattern) e es h)
  where
    by : (Has same_pair (at, pattern) es → Has same_pair (i + at, pattern) (map (moved_end i) es)) →
        ((at, pattern) ≡ e) ⊎ Has same_pair (at, pattern) es → Has same_pair (i + at, pattern) (map (moved_end i) (e ∷ es))
    by rest (inl is) =
        subst (λ (q : ℕ × ℕ). Has same_pair (moved_end i q) (map (moved_end i) (e ∷ es))) (sym is)
        (has_first same_pair pairs_equal (moved_end i e) (map (moved_end i) es))
    by rest (inr later) = has_later same_pair (i + at, pattern) (moved_end i e) (map (moved_end i) es) (rest later)

-- ---- lines

-- what holds of each element, by the elements one after the other
abbrev Each : {A : Type 0} → (A → Type 0) → List A → Type 0
Each P [] = ⊤
Each P (x ∷ xs) = P x × Each P xs

module _ {A : Type 0} (P : A → Type 0) where
  of_all : (xs : List A) → All P xs → Each P xs
  of_all [] all = tt
  of_all (x ∷ xs) all = (all 0 x (omega arith), of_all xs (λ k d l. all (suc k) d (omega (arith, l))))

  to_all : (xs : List A) → Each P xs → All P xs
  to_all [] each k d l = absurd (omega (arith, l))
  to_all (x ∷ xs) each zero d l = each.0
  to_all (x ∷ xs) each (suc k) d l = to_all xs each.1 k d (omega (arith, l))

  one_of_each : (xs : List A) (n : ℕ) (x : A) → Each P xs → slice_get xs n ≡ Some x → P x
  one_of_each [] n x each e = absurd (none-some x e)
  one_of_each (y ∷ xs) zero x each e = subst P (same_Some y x e) each.0
  one_of_each (y ∷ xs) (suc n) x each e = one_of_each xs n x each.1 e

  each_pushed : (xs : List A) (x : A) → Each P xs → P x → Each P (xs ++ x ∷ [])
  each_pushed [] x each p = (p, tt)
  each_pushed (y ∷ xs) x each p = (each.0, each_pushed xs x each.1 p)

ended : (t i b : ℕ) (read bs : List ℕ) → (b == t) ≡ true →
    lines_from t i read (b ∷ bs) ≡ (i, read) ∷ lines_from t (i + length read + 1) [] bs
unfolding lines_from
ended t i b read bs e = rw e refl

goes_on : (t i b : ℕ) (read bs : List ℕ) → (b == t) ≡ false → lines_from t i read (b ∷ bs) ≡ lines_from t i (read ++ b ∷ []) bs
unfolding lines_from
goes_on t i b read bs e = rw e refl

abbrev HasInLines : (ℕ → Type 0) → List (ℕ × List ℕ) → Type 0
HasInLines P ls = Each (λ (l : ℕ × List ℕ). Each P l.1) ls

lines_by : (P : ℕ → Type 0) (t i b : ℕ) (read bs : List ℕ) (v : Bool) → (b == t) ≡ v → Each P read →
    HasInLines P (lines_from t (i + length read + 1) [] bs) → HasInLines P (lines_from t i (read ++ b ∷ []) bs) →
    HasInLines P (lines_from t i read (b ∷ bs))
lines_by P t i b read bs true e each next more =
    subst (λ (ls : List (ℕ × List ℕ)). HasInLines P ls) (sym (ended t i b read bs e)) (each, next)
lines_by P t i b read bs false e each next more =
    subst (λ (ls : List (ℕ × List ℕ)). HasInLines P ls) (sym (goes_on t i b read bs e)) more

-- what holds of all bytes of an input holds of those of each line
in_lines : (P : ℕ → Type 0) (t i : ℕ) (read bs : List ℕ) → Each P read → Each P bs → HasInLines P (lines_from t i read bs)
unfolding lines_from
in_lines P t i [] [] each rest = tt
in_lines P t i (c ∷ read) [] each rest = (each, tt)
in_lines P t i read (b ∷ bs) each rest =
    lines_by P t i b read bs (b == t) refl each (in_lines P t (i + length read + 1) [] bs tt rest.1)
    (in_lines P t i (read ++ b ∷ []) bs (each_pushed P read b each rest.0) rest.1)

-- ---- what searches of each line report

-- the pair is an end of this line
record IsInLine (d : Dfa) (ls : List (ℕ × List ℕ)) (end pattern : ℕ) : Type 0 where
  pub number : ℕ
  pub line : ℕ × List ℕ
  pub is : slice_get ls number ≡ Some line
  pub at : ℕ
  pub end_is : end ≡ line.0 + at
  pub has : Has same_pair (at, pattern) (rest_of_stream d fresh_stream line.1).ends

module _ (d : Dfa) (quiet : (l : List ℕ) → (rest_of_stream d fresh_stream l).rejection ≡ None) where
  abbrev ends_of : ℕ × List ℕ → List (ℕ × ℕ)
  ends_of l = map (moved_end l.0) (rest_of_stream d fresh_stream l.1).ends

  one_line : (l : ℕ × List ℕ) (ls : List (ℕ × List ℕ)) → rest_of_each d (l ∷ ls) ≡ onto (ends_of l) (rest_of_each d ls)
  unfolding rest_of_each
  one_line l ls =
      ap (λ (o : Option MatchErrorKind). unless_rejected (ends_of l) (option_map (moved_error l.0) o) (rest_of_each d ls)) (quiet l.1)

  no_line : rest_of_each d [] ≡ nothing_left
  unfolding rest_of_each
  no_line = refl

  pub quiet_each : (ls : List (ℕ × List ℕ)) → (rest_of_each d ls).rejection ≡ None
  quiet_each [] = ap (λ (r : Rest). r.rejection) no_line
  quiet_each (l ∷ ls) = ap (λ (r : Rest). r.rejection) (one_line l ls) ∙ quiet_each ls

  split : (end pattern : ℕ) (xs ys : List (ℕ × ℕ)) → Has same_pair (end, pattern) (xs ++ ys) →
      Has same_pair (end, pattern) xs ⊎ Has same_pair (end, pattern) ys
  split end pattern xs ys h =
      of_append same_pair pairs_equal (λ (q : ℕ × ℕ). Has same_pair q xs ⊎ Has same_pair q ys) xs ys (λ q g. inl g) (λ q g. inr g)
      (end, pattern) h

  from_one : (l : ℕ × List ℕ) (ls : List (ℕ × List ℕ)) (end pattern : ℕ) →
      (Has same_pair (end, pattern) (rest_of_each d ls).ends → IsInLine d ls end pattern) →
      Has same_pair (end, pattern) (ends_of l) ⊎ Has same_pair (end, pattern) (rest_of_each d ls).ends → IsInLine d (l ∷ ls) end pattern
  from_one l ls end pattern rest (inl here) =
      let m = from_moved l.0 (rest_of_stream d fresh_stream l.1).ends end pattern here in
      record { number = 0; line = l; is = refl; at = m.at; end_is = m.end_is; has = m.has }
  from_one l ls end pattern rest (inr later) =
      let m = rest later in
      record { number = suc m.number; line = m.line; is = m.is; at = m.at; end_is = m.end_is; has = m.has }

  from_each : (ls : List (ℕ × List ℕ)) (end pattern : ℕ) → Has same_pair (end, pattern) (rest_of_each d ls).ends → IsInLine d ls end pattern
  from_each [] end pattern h =
      none_in same_pair (end, pattern) (IsInLine d [] end pattern) (subst (λ (r : Rest). Has same_pair (end, pattern) r.ends) no_line h)
  from_each (l ∷ ls) end pattern h =
      from_one l ls end pattern (λ later. from_each ls end pattern later)
      (split end pattern (ends_of l) (rest_of_each d ls).ends
      (subst (λ (r : Rest). Has same_pair (end, pattern) r.ends) (one_line l ls) h))

  into_each : (ls : List (ℕ × List ℕ)) (n : ℕ) (l : ℕ × List ℕ) (at pattern : ℕ) → slice_get ls n ≡ Some l →
      Has same_pair (at, pattern) (rest_of_stream d fresh_stream l.1).ends → Has same_pair (l.0 + at, pattern) (rest_of_each d ls).ends
  into_each [] n l at pattern e h = absurd (none-some l e)
  into_each (x ∷ ls) zero l at pattern e h =
      subst (λ (r : Rest). Has same_pair (l.0 + at, pattern) r.ends) (sym (one_line x ls))
      (in_first (l.0 + at, pattern) (ends_of x) (rest_of_each d ls).ends
      (subst (λ (y : ℕ × List ℕ). Has same_pair (l.0 + at, pattern) (ends_of y)) (sym (same_Some x l e))
      (into_moved l.0 (rest_of_stream d fresh_stream l.1).ends at pattern h)))
  into_each (x ∷ ls) (suc n) l at pattern e h =
      subst (λ (r : Rest). Has same_pair (l.0 + at, pattern) r.ends) (sym (one_line x ls))
      (in_rest (l.0 + at, pattern) (ends_of x) (rest_of_each d ls).ends (into_each ls n l at pattern e h))

  module _ (utf8 : Bool) (res : List Re) (h : List ℕ) (bytes : All (λ b. b < 256) h)
      (valid : utf8 ≡ true → All (λ (l : ℕ × List ℕ). IsValidText l.1) (lines_in 10 h))
      (exactly : (l : List ℕ) → All (λ b. b < 256) l → (utf8 ≡ true → IsValidText l) → (at pattern : ℕ) →
      Has same_pair (at, pattern) (rest_of_stream d fresh_stream l).ends ↔ IsEndOf utf8 res l at pattern)
      (end pattern : ℕ) where
    module _ (n : ℕ) (l : ℕ × List ℕ) (is : slice_get (lines_in 10 h) n ≡ Some l) where
      bytes_of : All (λ b. b < 256) l.1
      bytes_of =
          to_all (λ b. b < 256) l.1
          (one_of_each (λ (x : ℕ × List ℕ). Each (λ b. b < 256) x.1) (lines_in 10 h) n l
          (in_lines (λ b. b < 256) 10 0 [] h tt (of_all (λ b. b < 256) h bytes)) is)

      valid_of : utf8 ≡ true → IsValidText l.1
      valid_of u =
          one_of_each (λ (x : ℕ × List ℕ). IsValidText x.1) (lines_in 10 h) n l
          (of_all (λ (x : ℕ × List ℕ). IsValidText x.1) (lines_in 10 h) (valid u)) is

    reported : Has same_pair (end, pattern) (rest_of_each d (lines_in 10 h)).ends → IsEndOfLine utf8 res h end pattern
    reported has =
        let m = from_each (lines_in 10 h) end pattern has in
        record {
          number = m.number;
          line = m.line;
          is = m.is;
          at = m.at;
          end_is = m.end_is;
          ends = (exactly m.line.1 (bytes_of m.number m.line m.is) (valid_of m.number m.line m.is) m.at pattern).0 m.has;
        }

    matched : IsEndOfLine utf8 res h end pattern → Has same_pair (end, pattern) (rest_of_each d (lines_in 10 h)).ends
    matched e =
        subst (λ (x : ℕ). Has same_pair (x, pattern) (rest_of_each d (lines_in 10 h)).ends) (sym e.end_is)
        (into_each (lines_in 10 h) e.number e.line e.at pattern e.is
        ((exactly e.line.1 (bytes_of e.number e.line e.is) (valid_of e.number e.line e.is) e.at pattern).1 e.ends))

    pub lines_exactly : Has same_pair (end, pattern) (rest_of_each d (lines_in 10 h)).ends ↔ IsEndOfLine utf8 res h end pattern
    lines_exactly = (reported, matched)
