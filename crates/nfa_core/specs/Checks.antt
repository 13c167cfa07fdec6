-- What is tested of a builder before an automaton is built of it, but for loops.
use Rattle.std.specs.Prelude.{ℕ, nat_lt, Bool, not, ◌&&◌, length}
use Rattle.std.specs.List.{list_all}
use Rattle.nfa_core.specs.BuilderStates.{Assembly}
use Rattle.nfa_core.specs.CanBuild.{names_of, is_known}

abbrev pub has_all : Assembly → ℕ → ℕ → Bool
has_all b anchored unanchored = not b.is_open && (nat_lt anchored (length b.drafts) && (nat_lt unanchored (length b.drafts)
    && (list_all (λ q. nat_lt q (length b.drafts)) b.starts
    && (list_all (λ draft. list_all (λ q. nat_lt q (length b.drafts)) (names_of draft)) b.drafts
    && list_all (is_known b.groups) b.drafts))))
