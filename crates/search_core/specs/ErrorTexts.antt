-- The messages of errors for a number that isn't an index.
use Rattle.std.specs.Prelude.{ℕ, List, ◌++◌, codes}
use Rattle.std.specs.Fmt.{decimal}
use Rattle.search_core.specs.Index.{greatest_index}

-- of a small index, of a pattern and of a state
abbrev pub small_index_text : ℕ → List ℕ
small_index_text n = codes "failed to create small index from " ++ (decimal n
    ++ (codes ", which exceeds SmallIndex(" ++ (decimal greatest_index ++ codes ")")))

abbrev pub pattern_id_text : ℕ → List ℕ
pattern_id_text n = codes "failed to create PatternID from " ++ (decimal n
    ++ (codes ", which exceeds PatternID(" ++ (decimal greatest_index ++ codes ")")))

abbrev pub state_id_text : ℕ → List ℕ
state_id_text n = codes "failed to create StateID from " ++ (decimal n
    ++ (codes ", which exceeds StateID(" ++ (decimal greatest_index ++ codes ")")))
