-- Which lines are selected, and which are printed as context lines.
use Rattle.std.specs.Prelude.{ℕ, zero, suc, Bool, true, false, List, [], ◌∷◌, take, map, length, Option, Some, None, if◌then◌else◌}
use Rattle.std.specs.List.{filter}
use Rattle.grep_core.specs.declared.role.Role.{Role}
use Rattle.grep_core.specs.declared.role.Role.TheVariants.{Selected, Beside, Hidden}

-- Each line is given by whether it is wanted, in the order of the lines. At most this many wanted lines are selected: the first ones.
abbrev pub limited : Option ℕ → List Bool → List Bool
limited None wanted = wanted
limited (Some zero) wanted = map (λ _. false) wanted
limited (Some (suc n)) [] = []
limited (Some (suc n)) (true ∷ wanted) = true ∷ limited (Some n) wanted
limited (Some (suc n)) (false ∷ wanted) = false ∷ limited (Some (suc n)) wanted

abbrev pub count_selected : List Bool → ℕ
count_selected selected = length (filter (λ it. it) selected)

-- Whether at least one line is selected.
abbrev pub any : List Bool → Bool
any [] = false
any (true ∷ selected) = true
any (false ∷ selected) = any selected

-- The roles of lines. The context lines of a selected line are up to `before` lines before it and up to `after` lines after it. Of the
-- lines before the first selected one, the first `left` are context lines in any case.
abbrev pub roles_from : ℕ → ℕ → ℕ → List Bool → List Role
roles_from before after left [] = []
roles_from before after left (true ∷ selected) = Selected ∷ roles_from before after after selected
roles_from before after (suc left) (false ∷ selected) = Beside ∷ roles_from before after left selected
roles_from before after zero (false ∷ selected) = (if any (take before selected) then Beside else Hidden) ∷ roles_from before after zero
    selected

abbrev pub roles : ℕ → ℕ → ℕ → List Bool → List Role
roles before after first selected = roles_from before after first selected
