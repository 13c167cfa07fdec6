-- Lists that are laid over others, one by one.
use Rattle.std.proofs.Common.{◌≡◌, ℕ, zero, suc, ◌+◌, ◌<◌, ◌≤◌, List, [], ◌∷◌, ◌++◌, All, length, map, take, slice_set}
use Rattle.std.proofs.Common.{slice_index_or, refl, sym, ap, ◌∙◌, arith, length-append, length-take-le, take-suc, take_all}
use Rattle.std.proofs.lemmas.List.Elements.{All-nil, All-cons, All-head, All-tail}
use Rattle.meta_regex.specs.declared.found_match.FoundMatch.{FoundMatch}
use Rattle.meta_regex.specs.Regexes.{overlaid}

pub one_more_laid : {A : Type 0} (xs ys : List A) (x : A) → overlaid (xs ++ x ∷ []) ys ≡ slice_set (overlaid xs ys) (length xs) x
unfolding overlaid
one_more_laid [] [] x = refl
one_more_laid [] (y ∷ ys) x = refl
one_more_laid (a ∷ xs) [] x = refl
one_more_laid (a ∷ xs) (y ∷ ys) x = ap (λ (zs : List _). a ∷ zs) (one_more_laid xs ys x)

pub none_laid : {A : Type 0} (ys : List A) → overlaid [] ys ≡ ys
unfolding overlaid
none_laid ys = refl

pub map_laid : {A B : Type 0} (f : A → B) (xs ys : List A) → map f (overlaid xs ys) ≡ overlaid (map f xs) (map f ys)
unfolding overlaid
map_laid f [] ys = refl
map_laid f (x ∷ xs) [] = refl
map_laid f (x ∷ xs) (y ∷ ys) = ap (λ (zs : List _). f x ∷ zs) (map_laid f xs ys)

-- as many as there are elements cover all of them
pub whole_laid : {A : Type 0} (xs ys : List A) → length xs ≡ length ys → overlaid xs ys ≡ xs
unfolding overlaid
whole_laid [] [] e = refl
whole_laid [] (y ∷ ys) e = absurd (omega (arith, e))
whole_laid (x ∷ xs) [] e = absurd (omega (arith, e))
whole_laid (x ∷ xs) (y ∷ ys) e = ap (λ (zs : List _). x ∷ zs) (whole_laid xs ys (omega (arith, e)))

pub map_more : {A B : Type 0} (f : A → B) (xs : List A) (x : A) → map f (xs ++ x ∷ []) ≡ map f xs ++ f x ∷ []
map_more f [] x = refl
map_more f (a ∷ xs) x = ap (λ (zs : List _). f a ∷ zs) (map_more f xs x)

pub mapped_at : {A B : Type 0} (f : A → B) (xs : List A) (n : ℕ) (d : A) (e : B) → n < length xs →
    slice_index_or (map f xs) n e ≡ f (slice_index_or xs n d)
mapped_at f [] n d e below = absurd (omega arith)
mapped_at f (x ∷ xs) zero d e below = refl
mapped_at f (x ∷ xs) (suc n) d e below = mapped_at f xs n d e (omega (arith, below))

-- one more match was taken, and lies in its row
pub one_more_row : (fs : List FoundMatch) (f : FoundMatch) (n : ℕ) (old rows now : List FoundMatch) → n ≡ length fs →
    rows ≡ overlaid fs old →
    now ≡ slice_set rows n f → now ≡ overlaid (fs ++ f ∷ []) old
one_more_row fs f n old rows now count is put =
    put
    ∙ ap (λ (rs : List FoundMatch). slice_set rs n f) is
    ∙ ap (λ (k : ℕ). slice_set (overlaid fs old) k f) count
    ∙ sym (one_more_laid fs old f)

pub one_more_counted : (fs : List FoundMatch) (f : FoundMatch) (n : ℕ) → n ≡ length fs → n + 1 ≡ length (fs ++ f ∷ [])
one_more_counted fs f n count = ap (λ (k : ℕ). k + 1) count ∙ sym (length-append fs (f ∷ []))

-- one more byte lies at its index
pub one_more_byte : (bytes : List ℕ) (at d : ℕ) (old room now : List ℕ) → at < length bytes → room ≡ overlaid (take at bytes) old →
    now ≡ slice_set room at (slice_index_or bytes at d) → now ≡ overlaid (take (at + 1) bytes) old
one_more_byte bytes at d old room now below is put =
    let step : suc at ≡ at + 1 = omega arith in
    put
    ∙ ap (λ (rs : List ℕ). slice_set rs at (slice_index_or bytes at d)) is
    ∙ ap (λ (k : ℕ). slice_set (overlaid (take at bytes) old) k (slice_index_or bytes at d))
    (sym (length-take-le at bytes (omega (arith, below))))
    ∙ sym (one_more_laid (take at bytes) old (slice_index_or bytes at d))
    ∙ ap (λ (bs : List ℕ). overlaid bs old) (sym (take-suc bytes at d below) ∙ ap (λ (k : ℕ). take k bytes) step)

pub all_bytes : (bytes : List ℕ) (at : ℕ) (old room : List ℕ) → length bytes ≤ at → room ≡ overlaid (take at bytes) old →
    room ≡ overlaid bytes old
all_bytes bytes at old room above is = is ∙ ap (λ (bs : List ℕ). overlaid bs old) (take_all at bytes above)

-- what holds of each in the first list holds of as many elements of what it is laid over
pub all_laid : {A : Type 0} (P : A → Type 0) (xs ys : List A) → All P xs → All P (take (length xs) (overlaid xs ys))
unfolding overlaid
all_laid P [] ys each = All-nil P
all_laid P (x ∷ xs) [] each = All-nil P
all_laid P (x ∷ xs) (y ∷ ys) each =
    All-cons P x (take (length xs) (overlaid xs ys)) (All-head P x xs each) (all_laid P xs ys (All-tail P x xs each))
