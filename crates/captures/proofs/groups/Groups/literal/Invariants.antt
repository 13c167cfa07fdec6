use Rattle.std.proofs.Common.{ℕ, List, take}
use Rattle.meta_regex.specs.declared.options.Options.{Options}
use Rattle.captures.specs.Groups.{AreGroupsOf}
use Rattle.captures.specs.Replacing.{AreTemplatesFor, as_literal}
use Rattle.captures.proofs.groups.Groups.literal.Given as goal

abbrev pub invariant-loop-pattern : goal.invariant-loop-pattern
invariant-loop-pattern l =
    (o : Options) (texts : List (List ℕ)) → AreGroupsOf o texts l.self →
    AreTemplatesFor o.syntax (as_literal l.bytes) 1 (take l._pattern-index texts) l.templates.items
