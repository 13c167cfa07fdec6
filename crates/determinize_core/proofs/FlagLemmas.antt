-- What setting and reading one of a state's flags does. Each is tried over all values of the four bits.
use Rattle.std.proofs.Common.{◌≡◌, Bool, true, false, ◌&&◌, ◌==◌, not, refl, sym, if◌then◌else◌}
use Rattle.std.specs.Int.Bits.{bit_or}
use Rattle.std.proofs.lemmas.Bool.{and_parts, eqb-true, not-true}
use Rattle.determinize_core.specs.StateBytes.{has_flag, flag_byte}

-- whether a test holds for both values of a bit
abbrev of_both : (Bool → Bool) → Bool
of_both f = f true && f false

-- what holds for both values holds for each
of_each : (f : Bool → Bool) → of_both f ≡ true → (b : Bool) → f b ≡ true
of_each f e true = (and_parts (f true) (f false) e).0
of_each f e false = (and_parts (f true) (f false) e).1

-- whether a test holds of all values of four bits
abbrev of_all : (Bool → Bool → Bool → Bool → Bool) → Bool
of_all f = of_both (λ m. of_both (λ l. of_both (λ w. of_both (λ h. f m l w h))))

of_four : (f : Bool → Bool → Bool → Bool → Bool) → of_all f ≡ true → (m l w h : Bool) → f m l w h ≡ true
of_four f e m l w h =
    of_each (λ h. f m l w h)
    (of_each (λ w. of_both (λ h. f m l w h))
    (of_each (λ l. of_both (λ w. of_both (λ h. f m l w h)))
    (of_each (λ m. of_both (λ l. of_both (λ w. of_both (λ h. f m l w h)))) e m) l) w) h

-- whether two bits are equal
abbrev is_same : Bool → Bool → Bool
is_same b c = if b then c else not c

same_bit : (b c : Bool) → is_same b c ≡ true → b ≡ c
same_bit true c e = sym e
same_bit false c e = sym (not-true c e)

-- each flag is read back
pub match_back : (m l w h : Bool) → has_flag (flag_byte m l w h) 1 ≡ m
match_back m l w h = same_bit _ _ (of_four (λ m l w h. is_same (has_flag (flag_byte m l w h) 1) m) refl m l w h)

pub listed_back : (m l w h : Bool) → has_flag (flag_byte m l w h) 2 ≡ l
listed_back m l w h = same_bit _ _ (of_four (λ m l w h. is_same (has_flag (flag_byte m l w h) 2) l) refl m l w h)

pub word_back : (m l w h : Bool) → has_flag (flag_byte m l w h) 4 ≡ w
word_back m l w h = same_bit _ _ (of_four (λ m l w h. is_same (has_flag (flag_byte m l w h) 4) w) refl m l w h)

pub half_back : (m l w h : Bool) → has_flag (flag_byte m l w h) 8 ≡ h
half_back m l w h = same_bit _ _ (of_four (λ m l w h. is_same (has_flag (flag_byte m l w h) 8) h) refl m l w h)

-- setting a flag sets it, and no other
pub set_match : (m l w h : Bool) → bit_or (flag_byte m l w h) 1 ≡ flag_byte true l w h
set_match m l w h = eqb-true _ _ (of_four (λ m l w h. bit_or (flag_byte m l w h) 1 == flag_byte true l w h) refl m l w h)

pub set_listed : (m l w h : Bool) → bit_or (flag_byte m l w h) 2 ≡ flag_byte m true w h
set_listed m l w h = eqb-true _ _ (of_four (λ m l w h. bit_or (flag_byte m l w h) 2 == flag_byte m true w h) refl m l w h)

pub set_both : (m l w h : Bool) → bit_or (flag_byte m l w h) 3 ≡ flag_byte true true w h
set_both m l w h = eqb-true _ _ (of_four (λ m l w h. bit_or (flag_byte m l w h) 3 == flag_byte true true w h) refl m l w h)

pub set_word : (m l w h : Bool) → bit_or (flag_byte m l w h) 4 ≡ flag_byte m l true h
set_word m l w h = eqb-true _ _ (of_four (λ m l w h. bit_or (flag_byte m l w h) 4 == flag_byte m l true h) refl m l w h)

pub set_half : (m l w h : Bool) → bit_or (flag_byte m l w h) 8 ≡ flag_byte m l w true
set_half m l w h = eqb-true _ _ (of_four (λ m l w h. bit_or (flag_byte m l w h) 8 == flag_byte m l w true) refl m l w h)
