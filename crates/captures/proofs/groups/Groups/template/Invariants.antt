use Rattle.std.proofs.Common.{◌≤◌, ℕ, List, take}
use Rattle.meta_regex.specs.declared.options.Options.{Options}
use Rattle.captures.specs.Groups.{AreGroupsOf}
use Rattle.captures.specs.Replacing.{AreTemplatesFor, by_template}
use Rattle.captures.proofs.groups.Groups.template.Given as goal

abbrev pub invariant-loop-pattern : goal.invariant-loop-pattern
invariant-loop-pattern l =
    (1 ≤ l.groups)
    × ((o : Options) (texts : List (List ℕ)) → AreGroupsOf o texts l.self →
    AreTemplatesFor o.syntax (by_template o.syntax l.replacement) l.groups (take l.pattern-index texts) l.templates.items)
