-- When two readings of looks are alike, and the reading under which each look holds.
use Rattle.std.specs.Prelude.{◌≡◌, ℕ, ◌≤◌, true}
use Rattle.look_core.specs.declared.look.Look.{Look}
use Rattle.look_core.specs.LookSets.{has_look}
use Rattle.hir_core.specs.Tree.{Tree}
use Rattle.hir_core.specs.Means.{Looks}
use Rattle.hir_core.specs.Facts.{looks_used}

-- two readings agree at the offsets from s to e on the looks that the tree uses
abbrev pub AgreeFrom : Looks → Looks → ℕ → ℕ → Tree → Type 0
AgreeFrom f g s e x = (l : Look) → has_look (looks_used x) l ≡ true → (i : ℕ) → s ≤ i → i ≤ e → f l i ≡ g l i

-- each look holds everywhere
abbrev pub all_hold : Looks
all_hold l i = true
