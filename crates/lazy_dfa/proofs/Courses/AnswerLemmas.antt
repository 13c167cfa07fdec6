-- What a result in the code says about the value that it stands for.
use Rattle.std.proofs.Common.{◌≡◌, ℕ, Bool, true, false, List, [], ◌∷◌, ◌++◌, Option, Some, None, refl, sym, ap, ◌∙◌, ◌⊎◌, inl, inr, arith}
use Rattle.std.specs.Prelude.{Result, Ok, Err}
use Rattle.search_types.specs.declared.match_error.MatchErrorKind.{MatchErrorKind}
use Rattle.search_types.specs.declared.match_error.MatchErrorKind.TheVariants.{Quit, GaveUp, UnsupportedAnchored, NoMemory}
use Rattle.search_types.specs.Found.{HalfFound}
use Rattle.search_types.specs.Inputs.{Search}
use Rattle.lazy_dfa.specs.Caches.{CacheValue}
use Rattle.lazy_dfa.specs.Dfas.{Dfa}
use Rattle.lazy_dfa.specs.ScanLaws.{splits}
use Rattle.lazy_dfa.specs.Readers.{HalfAnswer, found, quit, unsupported}
use Rattle.lazy_dfa.specs.SearchAnswers.{half_of, pair_of, reported, GivesUpIn, GivesUpAmong}

-- a result of the code, with its type
abbrev pub answer : Option HalfFound → Result (Option HalfFound) MatchErrorKind
answer f = Ok f

abbrev pub error : MatchErrorKind → Result (Option HalfFound) MatchErrorKind
error x = Err x

pair_of_half : (o : Option (ℕ × ℕ)) → pair_of (half_of o) ≡ o
pair_of_half None = refl
pair_of_half (Some e) = refl

pub ok_is_no_error : (f : Option HalfFound) (x : MatchErrorKind) (P : Type 0) → Ok f ≡ Err x → P
ok_is_no_error f x P e = let never : true ≡ false = cc in absurd (grind (arith, never))

one_ok : (f o : Option HalfFound) → answer f ≡ answer o → f ≡ o
one_ok f o e = cc

-- an `Ok` value is what was found
pub ok_is_found : (a : HalfAnswer) (f : Option HalfFound) → Ok f ≡ reported a → a ≡ found (pair_of f)
ok_is_found (found o) f e = ap found (sym (ap pair_of (one_ok f (half_of o) e) ∙ pair_of_half o))
ok_is_found (quit b x) f e = ok_is_no_error f (Quit b x) (quit b x ≡ found (pair_of f)) e
ok_is_found (unsupported mode) f e = ok_is_no_error f (UnsupportedAnchored mode) (unsupported mode ≡ found (pair_of f)) e

-- an error isn't an end that doesn't count
pub error_is_whole : (counted : ℕ → Bool) (a : HalfAnswer) (x : MatchErrorKind) → Err x ≡ reported a → splits counted a ≡ false
error_is_whole counted (found o) x e = ok_is_no_error (half_of o) x (splits counted (found o) ≡ false) (sym e)
error_is_whole counted (quit b y) x e = refl
error_is_whole counted (unsupported mode) x e = refl

-- if a call that may fail returns an `Ok` value, that value is the one that is reported
pub ok_is_told : (f : Option HalfFound) (t : Result (Option HalfFound) MatchErrorKind) (P : ℕ → Type 0) →
    (Ok f ≡ t) ⊎ (Ok f ≡ Err NoMemory) ⊎ ((x : ℕ) × (Ok f ≡ Err (GaveUp x)) × P x) → Ok f ≡ t
ok_is_told f t P (inl e) = e
ok_is_told f t P (inr (inl e)) = ok_is_no_error f NoMemory (Ok f ≡ t) e
ok_is_told f t P (inr (inr g)) = ok_is_no_error f (GaveUp g.0) (Ok f ≡ t) g.1

-- one of several scans gave up
pub gave_up_among : (d : Dfa) (v : CacheValue) (q : Search) (x : ℕ) (ps tail : List (ℕ × ℕ)) (p : ℕ × ℕ) →
    GivesUpIn d v q.anchored q.earliest q.haystack p.0 p.1 x → GivesUpAmong d v q x (ps ++ p ∷ tail)
gave_up_among d v q x [] tail p here = inl here
gave_up_among d v q x (o ∷ ps) tail p here = inr (gave_up_among d v q x ps tail p here)
