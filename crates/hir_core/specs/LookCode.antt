-- Looks as ghost values, one to one: by the numbers of their bits.
use Rattle.std.specs.Prelude.{◌≡◌}
use Rattle.std.specs.Coded.{Coded, coded_ℕ}
use Rattle.look_core.specs.declared.look.Look.{Look}
use Rattle.look_core.specs.Codes.{bit_of}
use Rattle.look_core.proofs.ForCallers.{same_from_bit}

-- looks with one bit are one look
pub look_one : (k l : Look) → coded_ℕ.code (bit_of k) ≡ coded_ℕ.code (bit_of l) → k ≡ l
look_one k l e = same_from_bit k l (coded_ℕ.inj (bit_of k) (bit_of l) e)

-- the code of looks
abbrev pub look_code : Coded Look
look_code = record { code = λ l. coded_ℕ.code (bit_of l); inj = look_one }
