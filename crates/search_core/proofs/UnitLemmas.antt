-- What is left of an iterator over units before and after a call.
use Rattle.std.proofs.Common.{◌≡◌, ℕ, suc, ◌+◌, ◌-◌, ◌<◌, ◌≤◌, cond, leb, eqb, get_or, List, [], ◌∷◌, ◌++◌, map, refl, sym, ap, ◌∙◌, subst}
use Rattle.std.proofs.Common.{Option, Some, None, arith}
use Rattle.std.specs.List.{range_with_len}
use Rattle.std.proofs.lemmas.Bool.{le-leb, lt-leb}
use Rattle.search_core.specs.declared.unit.Unit.{Unit as InputUnit}
use Rattle.search_core.specs.declared.unit.Unit.TheVariants.{Byte, End}
use Rattle.search_core.specs.ByteSets.{bytes_where, IsFirstWhere}
use Rattle.search_core.specs.Classes.{units_from, elements_from, is_first, range_limit, end_left, first_units}
use Rattle.search_core.proofs.ByteSetLemmas.{bytes_where-none, bytes_where-first, bytes_where-some, bytes_where-ended}

-- ---- all classes
units_cut : (n next k : ℕ) → n - next ≡ k → units_from n next ≡ map Byte (range_with_len next k) ++ cond (leb next n) (End n ∷ []) []
units_cut n next k e = ap (λ i. map Byte (range_with_len next i) ++ cond (leb next n) (End n ∷ []) []) e

pub units_byte : (n next : ℕ) → next < n → units_from n next ≡ Byte next ∷ units_from n (next + 1)
units_byte n next h =
    units_cut n next (suc (n - (next + 1))) (omega arith)
    ∙ ap (λ t. Byte next ∷ (map Byte (range_with_len (next + 1) (n - (next + 1))) ++ cond t (End n ∷ []) []))
    (le-leb next n (omega arith) ∙ sym (le-leb (next + 1) n (omega arith)))

-- ---- the elements of a class
pub elements_byte : (classes : List ℕ) (unit : InputUnit) (c from b : ℕ) (r : Option ℕ) → unit ≡ Byte c → r ≡ Some b →
    IsFirstWhere (λ x. eqb (get_or classes x 0) c) from 256 r → elements_from classes unit from ≡ Byte b ∷ elements_from classes unit
    (b + 1)
elements_byte classes unit c from b r e s h =
    subst (λ (u : InputUnit). elements_from classes u from ≡ Byte b ∷ elements_from classes u (b + 1)) (sym e)
    (ap (map Byte) (bytes_where-some (λ x. eqb (get_or classes x 0) c) from 256 r b s h))

pub elements_ended : (classes : List ℕ) (unit : InputUnit) (c from : ℕ) (r : Option ℕ) → unit ≡ Byte c → r ≡ None →
    IsFirstWhere (λ x. eqb (get_or classes x 0) c) from 256 r → elements_from classes unit from ≡ []
elements_ended classes unit c from r e s h =
    subst (λ (u : InputUnit). elements_from classes u from ≡ []) (sym e)
    (ap (map Byte) (bytes_where-ended (λ x. eqb (get_or classes x 0) c) from 256 r s h))

-- ---- the first units
end_same : (classes : List ℕ) (hi : Option ℕ) (from b : ℕ) → from ≤ b → b < range_limit hi →
    end_left classes hi from ≡ end_left classes hi (b + 1)
end_same classes None from b p q =
    ap (λ t. cond t (End (get_or classes 255 0 + 1) ∷ []) []) (le-leb from 256 (omega arith) ∙ sym (le-leb (b + 1) 256 (omega arith)))
end_same classes (Some h) from b p q = refl

pub first_byte : (classes : List ℕ) (lo : ℕ) (hi : Option ℕ) (from b : ℕ) (r : Option ℕ) → r ≡ Some b →
    IsFirstWhere (is_first classes lo) from (range_limit hi) r → first_units classes lo hi from ≡ Byte b ∷ first_units classes lo hi (b + 1)
first_byte classes lo hi from b r e h =
    let g = subst (λ (o : Option ℕ). IsFirstWhere (is_first classes lo) from (range_limit hi) o) e h in
    ap (λ bs. map Byte bs ++ end_left classes hi from) (bytes_where-first (is_first classes lo) from (range_limit hi) b g.0 g.1 g.2 g.3)
    ∙ ap (λ us. Byte b ∷ (map Byte (bytes_where (is_first classes lo) (b + 1) (range_limit hi)) ++ us)) (end_same classes hi from b g.0 g.1)

first_none : (classes : List ℕ) (lo : ℕ) (hi : Option ℕ) (from : ℕ) (r : Option ℕ) → r ≡ None →
    IsFirstWhere (is_first classes lo) from (range_limit hi) r → first_units classes lo hi from ≡ end_left classes hi from
first_none classes lo hi from r e h = ap (λ bs. map Byte bs ++ end_left classes hi from)
    (bytes_where-ended (is_first classes lo) from (range_limit hi) r e h)

pub first_bounded : (classes : List ℕ) (lo : ℕ) (hi : Option ℕ) (from top : ℕ) (r : Option ℕ) → r ≡ None → hi ≡ Some top →
    IsFirstWhere (is_first classes lo) from (range_limit hi) r → first_units classes lo hi from ≡ []
first_bounded classes lo hi from top r e f h = first_none classes lo hi from r e h ∙ ap (λ o. end_left classes o from) f

pub first_past : (classes : List ℕ) (lo : ℕ) (hi : Option ℕ) (from : ℕ) (r : Option ℕ) → r ≡ None → hi ≡ None → 256 < from →
    IsFirstWhere (is_first classes lo) from (range_limit hi) r → first_units classes lo hi from ≡ []
first_past classes lo hi from r e f p h =
    first_none classes lo hi from r e h
    ∙ ap (λ o. end_left classes o from) f
    ∙ ap (λ t. cond t (End (get_or classes 255 0 + 1) ∷ []) []) (lt-leb from 256 p)

first_after : (classes : List ℕ) (lo from : ℕ) → 256 < from → first_units classes lo None from ≡ []
first_after classes lo from p =
    ap (λ bs. map Byte bs ++ end_left classes None from) (bytes_where-none (is_first classes lo) from 256 (λ k q s. absurd (omega arith)))
    ∙ ap (λ t. cond t (End (get_or classes 255 0 + 1) ∷ []) []) (lt-leb from 256 p)

pub first_end : (classes : List ℕ) (lo : ℕ) (hi : Option ℕ) (from : ℕ) (r : Option ℕ) → r ≡ None → hi ≡ None → from ≤ 256 →
    IsFirstWhere (is_first classes lo) from (range_limit hi) r → first_units classes lo hi from ≡ End
    (get_or classes 255 0 + 1) ∷ first_units classes lo hi 257
first_end classes lo hi from r e f p h =
    first_none classes lo hi from r e h
    ∙ ap (λ o. end_left classes o from) f
    ∙ ap (λ t. cond t (End (get_or classes 255 0 + 1) ∷ []) []) (le-leb from 256 p)
    ∙ ap (λ us. End (get_or classes 255 0 + 1) ∷ us) (sym (first_after classes lo 257 (omega arith))
    ∙ ap (λ o. first_units classes lo o 257) (sym f))
