-- One turn of a scan, by its result.
use Rattle.std.proofs.Common.{◌≡◌, ℕ, suc, Bool, true, false, ◌&&◌, not, ◌==◌, List, [], ◌∷◌, Option, Some, None, if◌then◌else◌, refl, sym}
use Rattle.std.proofs.Common.{ap, ◌∙◌, ◌⊎◌, inl, inr, arith}
use Rattle.std.proofs.lemmas.Bool.{and_parts, eqb-true, not-true}
use Rattle.search_core.specs.ByteSets.{has}
use Rattle.std.specs.Prelude.{Result, Err}
use Rattle.search_types.specs.declared.anchored.Anchored.{Anchored}
use Rattle.search_types.specs.declared.match_error.MatchErrorKind.{MatchErrorKind}
use Rattle.search_types.specs.Found.{HalfFound}
use Rattle.nfa_core.specs.Ways.{offset_of}
use Rattle.determinize_core.specs.States.{StateValue, dead}
use Rattle.lazy_dfa.specs.Readers.{is_quit, HalfAnswer, found, quit, unsupported}
use Rattle.lazy_dfa.specs.Scans.{is_empty, is_dead, unless_quit, if_supported}
use Rattle.lazy_dfa.specs.ScanLaws.{IsQuitAt}

-- ---- offsets

pub place_next : (is_reverse : Bool) (i k : ℕ) → offset_of is_reverse (offset_of is_reverse i k) 1 ≡ offset_of is_reverse i (suc k)
place_next false i k = omega arith
place_next true i k = omega arith

pub place_later : (is_reverse : Bool) (i k : ℕ) → offset_of is_reverse (offset_of is_reverse i 1) k ≡ offset_of is_reverse i (suc k)
place_later false i k = omega arith
place_later true i k = omega arith

-- ---- the dead state

pub empty_is : (xs : List ℕ) → is_empty xs ≡ true → xs ≡ []
empty_is [] e = refl
empty_is (x ∷ xs) e = let never : false ≡ true = e in cc

pub dead_is : (v : StateValue) → is_dead v ≡ true → v ≡ dead
dead_is v e =
    let a = and_parts (is_empty v.ids && is_empty v.matches && v.look_have == 0 && v.look_need == 0 && not v.is_from_word)
    (not v.is_half_crlf) e in
    let b = and_parts (is_empty v.ids && is_empty v.matches && v.look_have == 0 && v.look_need == 0) (not v.is_from_word) a.0 in
    let c = and_parts (is_empty v.ids && is_empty v.matches && v.look_have == 0) (v.look_need == 0) b.0 in
    let d = and_parts (is_empty v.ids && is_empty v.matches) (v.look_have == 0) c.0 in
    let f = and_parts (is_empty v.ids) (is_empty v.matches) d.0 in
    same_parts v dead (not-true v.is_from_word b.1) (not-true v.is_half_crlf a.1) (eqb-true v.look_have 0 d.1)
    (eqb-true v.look_need 0 c.1) (empty_is v.matches f.1) (empty_is v.ids f.0)
  where
    same_parts : (v w : StateValue) → v.is_from_word ≡ w.is_from_word → v.is_half_crlf ≡ w.is_half_crlf →
        v.look_have ≡ w.look_have → v.look_need ≡ w.look_need → v.matches ≡ w.matches → v.ids ≡ w.ids → v ≡ w
    same_parts v w p q r s t u =
        λ n. record { is_from_word = p n; is_half_crlf = q n; look_have = r n; look_need = s n; matches = t n; ids = u n }

-- ---- turns

pub found_no_quit : (o : Option (ℕ × ℕ)) (c x : ℕ) → found o ≡ quit c x → ⊥
found_no_quit o c x e = let never : true ≡ false = cc in absurd (grind (arith, never))

pub found_no_mode : (o : Option (ℕ × ℕ)) (mode : Anchored) → found o ≡ unsupported mode → ⊥
found_no_mode o mode e = let never : true ≡ false = cc in absurd (grind (arith, never))

pub quit_no_mode : (b x : ℕ) (mode : Anchored) → quit b x ≡ unsupported mode → ⊥
quit_no_mode b x mode e = let never : true ≡ false = cc in absurd (grind (arith, never))

-- an error instead of what a search finds
abbrev pub failed : MatchErrorKind → Result (Option HalfFound) MatchErrorKind
failed e = Err e

pub one_failed : (x y : MatchErrorKind) → failed x ≡ failed y → x ≡ y
one_failed x y e = cc

pub one_found : (x y : Option (ℕ × ℕ)) → found x ≡ found y → x ≡ y
one_found x y e = cc

past_quit : (is : Bool) (b index : ℕ) (o : Option (ℕ × ℕ)) (rest : HalfAnswer) → (if is then quit b index else rest) ≡ found o →
    (is ≡ false) × (rest ≡ found o)
past_quit true b index o rest e = let never : quit b index ≡ found o = e in (cc, cc)
past_quit false b index o rest e = (refl, e)

pub no_quit_found : (quits : List Bool) (u : Option ℕ) (index : ℕ) (o : Option (ℕ × ℕ)) (rest : HalfAnswer) →
    unless_quit quits u index rest ≡ found o → (is_quit quits u ≡ false) × (rest ≡ found o)
no_quit_found quits None index o rest e = (refl, e)
no_quit_found quits (Some b) index o rest e = past_quit (has quits b) b index o rest e

pub turn_found : (end : Bool) (quits : List Bool) (u : Option ℕ) (index : ℕ) (best o : Option (ℕ × ℕ)) (rest : HalfAnswer) →
    (if end then found best else unless_quit quits u index rest) ≡ found o →
    ((end ≡ true) × (best ≡ o)) ⊎ ((end ≡ false) × (is_quit quits u ≡ false) × (rest ≡ found o))
turn_found true quits u index best o rest e = inl (refl, one_found best o e)
turn_found false quits u index best o rest e = let r = no_quit_found quits u index o rest e in inr (refl, r.0, r.1)

quit_here : (is : Bool) (quits : List Bool) (b index c x : ℕ) (rest : HalfAnswer) → has quits b ≡ is →
    (if is then quit b index else rest) ≡ quit c x →
    IsQuitAt quits (Some b) index c x ⊎ ((is ≡ false) × (rest ≡ quit c x))
quit_here true quits b index c x rest was e =
    let byte : b ≡ c = cc in
    let place : x ≡ index = cc in
    inl (ap Some byte, sym (ap (has quits) byte) ∙ was, place)
quit_here false quits b index c x rest was e = inr (refl, e)

pub quit_or_on : (quits : List Bool) (u : Option ℕ) (index c x : ℕ) (rest : HalfAnswer) →
    unless_quit quits u index rest ≡ quit c x →
    IsQuitAt quits u index c x ⊎ ((is_quit quits u ≡ false) × (rest ≡ quit c x))
quit_or_on quits None index c x rest e = inr (refl, e)
quit_or_on quits (Some b) index c x rest e = quit_here (has quits b) quits b index c x rest refl e

pub turn_quit : (end : Bool) (quits : List Bool) (u : Option ℕ) (index : ℕ) (best : Option (ℕ × ℕ)) (c x : ℕ) (rest : HalfAnswer) →
    (if end then found best else unless_quit quits u index rest) ≡ quit c x →
    (end ≡ false) × (IsQuitAt quits u index c x ⊎ ((is_quit quits u ≡ false) × (rest ≡ quit c x)))
turn_quit true quits u index best c x rest e = absurd (found_no_quit best c x e)
turn_quit false quits u index best c x rest e = (refl, quit_or_on quits u index c x rest e)

-- if the unit is no quit byte, the scan goes on
pub goes_on : (quits : List Bool) (u : Option ℕ) (index : ℕ) (rest : HalfAnswer) → is_quit quits u ≡ false →
    unless_quit quits u index rest ≡ rest
goes_on quits None index rest e = refl
goes_on quits (Some b) index rest e = rw e refl

-- ---- modes

byte_no_mode : (is : Bool) (b index : ℕ) (m : Anchored) (rest : HalfAnswer) → (if is then quit b index else rest) ≡ unsupported m →
    (is ≡ false) × (rest ≡ unsupported m)
byte_no_mode true b index m rest e = absurd (quit_no_mode b index m e)
byte_no_mode false b index m rest e = (refl, e)

pub unless_no_mode : (quits : List Bool) (u : Option ℕ) (index : ℕ) (m : Anchored) (rest : HalfAnswer) →
    unless_quit quits u index rest ≡ unsupported m →
    (is_quit quits u ≡ false) × (rest ≡ unsupported m)
unless_no_mode quits None index m rest e = (refl, e)
unless_no_mode quits (Some b) index m rest e = byte_no_mode (has quits b) b index m rest e

pub mode_found : (is : Bool) (mode : Anchored) (o : Option (ℕ × ℕ)) (rest : HalfAnswer) → if_supported is mode rest ≡ found o →
    (is ≡ true) × (rest ≡ found o)
mode_found true mode o rest e = (refl, e)
mode_found false mode o rest e = absurd (found_no_mode o mode (sym e))

pub mode_quit : (is : Bool) (mode : Anchored) (b x : ℕ) (rest : HalfAnswer) → if_supported is mode rest ≡ quit b x →
    (is ≡ true) × (rest ≡ quit b x)
mode_quit true mode b x rest e = (refl, e)
mode_quit false mode b x rest e = absurd (quit_no_mode b x mode (sym e))

pub goes_in_mode : (is : Bool) (mode : Anchored) (rest : HalfAnswer) → is ≡ true → if_supported is mode rest ≡ rest
goes_in_mode true mode rest e = refl
goes_in_mode false mode rest e = let never : false ≡ true = e in absurd (grind (arith, never))
