-- Patterns as text, with the parsed patterns and the trees at the same indices.
use Rattle.std.specs.Prelude.{◌≡◌, ℕ, ◌≤◌, List, [], ◌∷◌, chars, take, slice_get, Some, IsSomeAnd, ⊤}
use Rattle.regex_hir.specs.Re.{Re}
use Rattle.regex_syntax.specs.declared.Config.{Config}
use Rattle.regex_syntax.specs.Grammar.{read}
use Rattle.hir_core.specs.Tree.{Tree}
use Rattle.pattern_text.specs.declared.parse_error.ParseError.{ParseError}
use Rattle.pattern_text.specs.Patterns.{MeansText, IsFault}

-- each text is a pattern within the limit on nesting, the one at its index
abbrev pub AreReadAs : Config → List (List ℕ) → List Re → Type 0
AreReadAs config [] [] = ⊤
AreReadAs config (t ∷ ts) (a ∷ bs) =
    IsSomeAnd (read config (chars t)) (λ (re, names). (re.depth ≤ config.nest_limit) × (re.value ≡ a)) × AreReadAs config ts bs
AreReadAs config _ _ = ⊥

-- each tree means the text at its index
abbrev pub AllMean : Config → List (List ℕ) → List Tree → Type 0
AllMean config [] [] = ⊤
AllMean config (t ∷ ts) (x ∷ xs) = MeansText config t x × AllMean config ts xs
AllMean config _ _ = ⊥

-- the text of this number, counted from 0, is rejected for this fault, and each text before it has a tree
pub record IsFirstFault (config : Config) (texts : List (List ℕ)) (number : ℕ) (error : ParseError) : Type 0 where
  pub text : List ℕ
  pub listed : slice_get texts number ≡ Some text
  pub fault : IsFault config text error
  pub trees : List Tree
  pub before : AllMean config (take number texts) trees
