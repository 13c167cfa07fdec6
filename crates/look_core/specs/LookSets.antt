-- Sets of looks. A set is a number: each member has its bit there.
use Rattle.std.specs.Prelude.{◌≡◌, ◌<◌, ◌&&◌, ◌==◌, ℕ, Bool, List, [], ◌∷◌, Option, MatchOption}
use Rattle.std.specs.List.{filter, list_any}
use Rattle.std.specs.Int.{bit_at, bit_not, w32}
use Rattle.std.specs.Int.Bits.{bit_and, bit_or}
use Rattle.look_core.specs.declared.look.Look.{Look}
use Rattle.look_core.specs.Codes.{bit_of, repr, all_looks}

-- no bit above those of the eighteen looks
abbrev pub IsLookSet : ℕ → Type 0
IsLookSet s = s < 262144

-- whether the look is in the set
abbrev pub has_look : ℕ → Look → Bool
has_look s l = bit_at s (bit_of l) == 1

-- the set of all eighteen looks
abbrev pub full_set : ℕ
full_set = 262143

-- the members of two sets together, and those that both have
abbrev pub union_of : ℕ → ℕ → ℕ
union_of s t = bit_or s t

abbrev pub shared_by : ℕ → ℕ → ℕ
shared_by s t = bit_and s t

-- the members of the first set that the second doesn't have
abbrev pub without : ℕ → ℕ → ℕ
without s t = bit_and s (bit_not w32 t)

-- the set with this look, and without it
abbrev pub with_look : ℕ → Look → ℕ
with_look s l = bit_or s (repr l)

abbrev pub without_look : ℕ → Look → ℕ
without_look s l = without s (repr l)

-- the members, by their bits
abbrev pub members : ℕ → List Look
members s = filter (has_look s) all_looks

-- whether a member passes the test
abbrev pub has_any : (Look → Bool) → ℕ → Bool
has_any test s = list_any (λ l. has_look s l && test l) all_looks

-- r is the member with the least bit, or `None` if the set has no member
abbrev pub IsFirstLook : ℕ → Option Look → Type 0
IsFirstLook s r = MatchOption r
    (members s ≡ [])
    (λ l. members s ≡ l ∷ members (without_look s l))
