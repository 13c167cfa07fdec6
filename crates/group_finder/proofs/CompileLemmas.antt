-- Each pattern that the grammar reads can be compiled, but for the bytes that this takes.
use Rattle.std.proofs.Common.{◌≡◌, ℕ, ◌^◌, ◌≤◌, List, length, subst, sym, ◌∙◌, arith}
use Rattle.std.specs.Bool.{⊤}
use Rattle.regex_hir.specs.Meaning.{meaning}
use Rattle.regex_hir.specs.declared.hir.Hir.{Hir}
use Rattle.regex_syntax.specs.declared.Config.{Config}
use Rattle.regex_syntax.specs.Grammar.{Names}
use Rattle.regex_syntax.specs.Verdict.{Reads}
use Rattle.regex_syntax.specs.WellFormed.{IsWellFormed}
use Rattle.regex_compile.specs.Compilable.{IsCompilable}
use Rattle.regex_nfa.specs.declared.build.BuildError.{BuildError}
use Rattle.regex_nfa.specs.declared.build.BuildError.TheVariants.{Malformed, OutOfMemory}
use Rattle.regex.proofs.CompilableLemmas.{compilable, groups_named}
use Rattle.group_finder.specs.Errors.{bytes_allowed}

pub may_compile : (config : Config) (text : List ℕ) (hir : Hir) (names : Names) (groups : ℕ) → Reads config text hir names →
    IsWellFormed config.utf8 hir → length names ≡ groups → IsCompilable groups (meaning hir)
may_compile config text hir names groups reads formed all =
    compilable config.utf8 groups hir formed (omega (arith, groups_named config text hir names reads, all))

pub few_bytes : (limit most : ℕ) → most ≡ bytes_allowed limit → most ≤ 2 ^ 34
few_bytes limit most is = omega (arith, is)

abbrev is_malformed : BuildError → Type 0
is_malformed Malformed = ⊤
is_malformed OutOfMemory = ⊥

pub not_both : {A : Type 0} (e : BuildError) → e ≡ Malformed → e ≡ OutOfMemory → A
not_both e is other = absurd (subst is_malformed (sym is ∙ other) tt)
