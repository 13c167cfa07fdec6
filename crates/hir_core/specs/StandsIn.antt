-- Which looks are in a tree.
use Rattle.std.specs.Prelude.{◌≡◌, ◌⊎◌}
use Rattle.look_core.specs.declared.look.Look.{Look}
use Rattle.hir_core.specs.Tree.{Tree, empty, literal, byte_class, char_class, look, repetition, capture, nothing, cat, never, alt}

-- the look is in the tree, even if no round of a repetition ever reaches it
abbrev pub StandsIn : Look → Tree → Type 0
StandsIn l empty = ⊥
StandsIn l (literal bytes) = ⊥
StandsIn l (byte_class ranges) = ⊥
StandsIn l (char_class ranges) = ⊥
StandsIn l (look k) = l ≡ k
StandsIn l (repetition min most greedy x) = StandsIn l x
StandsIn l (capture index name x) = StandsIn l x
StandsIn l nothing = ⊥
StandsIn l (cat x y) = StandsIn l x ⊎ StandsIn l y
StandsIn l never = ⊥
StandsIn l (alt x y) = StandsIn l x ⊎ StandsIn l y
