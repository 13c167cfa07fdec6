use Rattle.std.proofs.Common.{◌≡◌, map, string_bytes}
use Rattle.hirgrep_main.specs.Texts.{joined_parts}
use Rattle.hirgrep_main.proofs.NameLemmas.{is_none}
use Rattle.hirgrep_main.proofs.options.texts.separated_name.Given as goal

abbrev pub invariant-loop-part : goal.invariant-loop-part
invariant-loop-part l =
    (string_bytes l.out ≡ joined_parts l.separator (map (λ x. x.now) l.yielded)) × (l.is_first ≡ is_none (map (λ x. x.now) l.yielded))
