-- Why no finder of groups is made.
use Rattle.std.specs.Prelude.{◌≡◌, ◌≢◌, ℕ, ◌^◌, List, min, ⊤}
use Rattle.regex_syntax.specs.declared.Config.{Config}
use Rattle.regex_syntax.specs.Verdict.{Refuses}
use Rattle.regex_syntax.specs.declared.error.ErrorKind.TheVariants.{OutOfMemory}
use Rattle.group_finder.specs.Patterns.{IsPattern}
use Rattle.group_finder.specs.declared.errors.NewError.{NewError}
use Rattle.group_finder.specs.declared.errors.NewError.TheVariants.{NoMemory, Syntax, TooLarge}

-- The bytes that a limit allows. A limit above 16 GiB counts as 16 GiB.
abbrev pub bytes_allowed : ℕ → ℕ
bytes_allowed limit = min limit (2 ^ 34)

-- Why no finder is made of a pattern under these options and this limit on bytes. With `NoMemory`, memory ran out. With `Syntax`, it didn't,
-- and the grammar doesn't read the pattern, or it nests too deep. With `TooLarge`, the grammar reads it, and the error has the limit.
abbrev pub IsNewError : Config → List ℕ → ℕ → NewError → Type 0
IsNewError config text limit NoMemory = ⊤
IsNewError config text limit (Syntax e) = Refuses config text e.kind × (e.kind ≢ OutOfMemory)
IsNewError config text limit (TooLarge n) = (n ≡ bytes_allowed limit) × IsPattern config text
