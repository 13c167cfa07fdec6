-- What an error reports in addition to its kind.
use Rattle.std.specs.Prelude.{ℕ, Option, Some, None}
use Rattle.nfa_core.specs.declared.build_error.BuildError.{BuildError}
use Rattle.nfa_core.specs.declared.build_error.BuildError.TheVariants.{ExceededSizeLimit}

-- the limit in bytes, if the error is that the states exceed it
abbrev pub size_limit_of : BuildError → Option ℕ
size_limit_of (ExceededSizeLimit limit) = Some limit
size_limit_of _ = None
