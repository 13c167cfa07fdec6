use Rattle.std.proofs.Common.{◌≡◌, map}
use Rattle.std.specs.List.{list_any}
use Rattle.hirgrep_main.specs.GrepColors.{after_items, codes_of, is_broken}
use Rattle.hirgrep_main.proofs.options.grep_colors.colors_by.Given as goal

abbrev pub invariant-loop-item : goal.invariant-loop-item
invariant-loop-item l =
    (codes_of l.colors ≡ after_items (codes_of l.initial.colors) (map (λ x. x.now) l.yielded))
    × (l.is_over ≡ list_any is_broken (map (λ x. x.now) l.yielded))
