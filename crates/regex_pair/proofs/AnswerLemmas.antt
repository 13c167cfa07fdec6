-- What answers of code say about the answers of values that they stand for.
use Rattle.std.proofs.Common.{◌≡◌, ℕ, ◌≤◌, true, false, Option, Some, None, sym, ap, subst, ◌∙◌, inl, inr, arith}
use Rattle.std.specs.Prelude.{Result, Ok, Err}
use Rattle.search_types.specs.declared.match_error.MatchErrorKind.{MatchErrorKind}
use Rattle.search_types.specs.declared.match_error.MatchErrorKind.TheVariants.{Quit, GaveUp, UnsupportedAnchored, NoMemory}
use Rattle.search_types.specs.Found.{Found, HalfFound}
use Rattle.search_types.specs.Inputs.{Search}
use Rattle.lazy_dfa.specs.Caches.{CacheValue}
use Rattle.lazy_dfa.specs.Dfas.{Dfa, reader}
use Rattle.lazy_dfa.specs.Readers.{HalfAnswer, found, quit, unsupported}
use Rattle.lazy_dfa.specs.HalfSearches.{half_search}
use Rattle.lazy_dfa.specs.SearchAnswers.{reported, Answers}
use Rattle.regex_pair.specs.Joined.{back_from}
use Rattle.lazy_dfa.proofs.ForCallers.{scan_in_span}

-- what a half search and a whole one answer
abbrev pub Half : Type 0
Half = Result (Option HalfFound) MatchErrorKind

abbrev pub Whole : Type 0
Whole = Result (Option Found) MatchErrorKind

-- of code, with its type
abbrev pub answer : Option HalfFound → Result (Option HalfFound) MatchErrorKind
answer f = Ok f

abbrev pub error : MatchErrorKind → Result (Option HalfFound) MatchErrorKind
error x = Err x

pub ok_is_no_error : (f : Option HalfFound) (x : MatchErrorKind) (P : Type 0) → answer f ≡ error x → P
ok_is_no_error f x P e = let never : true ≡ false = cc in absurd (grind (arith, never))

pub some_is_not_none : (e : HalfFound) (P : Type 0) → answer (Some e) ≡ answer None → P
some_is_not_none e P is = let never : true ≡ false = cc in absurd (grind (arith, never))

-- the offset and the pattern of an end
abbrev pub pair : HalfFound → ℕ × ℕ
pair e = (e.offset, e.pattern)

abbrev half : ℕ × ℕ → HalfFound
half e = record { pattern = e.1; offset = e.0 }

same_half : (e x : HalfFound) → answer (Some e) ≡ answer (Some x) → pair e ≡ pair x
same_half e x is = let same : e ≡ x = cc in ap (λ (y : HalfFound). (y.offset, y.pattern)) same

-- what code finds, is found
pub some_is_found : (a : HalfAnswer) (e : HalfFound) → answer (Some e) ≡ reported a → a ≡ found (Some (pair e))
some_is_found (found (Some x)) e is = ap (λ (y : ℕ × ℕ). found (Some y)) (sym (same_half e (half x) is))
some_is_found (found None) e is = some_is_not_none e (found None ≡ found (Some (pair e))) is
some_is_found (quit b x) e is = ok_is_no_error (Some e) (Quit b x) (quit b x ≡ found (Some (pair e))) is
some_is_found (unsupported mode) e is = ok_is_no_error (Some e) (UnsupportedAnchored mode) (unsupported mode ≡ found (Some (pair e))) is

-- if a call that may fail answers with a value, it is the value that is reported
pub ok_is_told : (d : Dfa) (v : CacheValue) (q : Search) (f : Option HalfFound) → Answers d v q (Ok f) →
    Ok f ≡ reported (half_search (reader d) q)
ok_is_told d v q f (inl e) = e
ok_is_told d v q f (inr (inl e)) = ok_is_no_error f NoMemory (Ok f ≡ reported (half_search (reader d) q)) e
ok_is_told d v q f (inr (inr g)) = ok_is_no_error f (GaveUp g.0) (Ok f ≡ reported (half_search (reader d) q)) g.1

-- what is found lies in the span
pub finds_in_span : (d : Dfa) (v : CacheValue) (q : Search) (e : HalfFound) → Answers d v q (Ok (Some e)) → (q.start ≤ e.offset) ×
    (e.offset ≤ q.end)
finds_in_span d v q e a = scan_in_span (reader d) q (pair e) (some_is_found (half_search (reader d) q) e (ok_is_told d v q (Some e) a))

-- a start that is found by the search back from an end is before it
pub starts_before : (d : Dfa) (v : CacheValue) (q back : Search) (at end : ℕ) (r : Result (Option HalfFound) MatchErrorKind)
    (f : Option HalfFound) (s : HalfFound) (start : ℕ) →
    back ≡ back_from q at → at ≡ end → r ≡ Ok f → f ≡ Some s → start ≡ s.offset → Answers d v back r → start ≤ end
starts_before d v q back at end r f s start is same ok some here a =
    let found_there : r ≡ answer (Some s) = ok ∙ ap answer some in
    subst (λ (k : ℕ). start ≤ k) same (subst (λ (k : ℕ). k ≤ at) (sym here)
    (finds_in_span d v (back_from q at) s (subst (λ (x : Search). Answers d v x (Ok (Some s))) is
    (subst (λ (x : Result (Option HalfFound) MatchErrorKind). Answers d v back x) found_there a))).1)
