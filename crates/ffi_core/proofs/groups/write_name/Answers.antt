use Rattle.std.proofs.Common.{Bor, List, Option, ap, option_map, sym, ℕ, ◌∙◌}
use Rattle.meta_regex.specs.Regexes.{overlaid}
use Rattle.meta_regex.proofs.ForCallers.{none_laid}
use Rattle.ffi_core.specs.Groups.{bytes_of_name}
use Rattle.ffi_core.proofs.groups.write_name.Goals as goal

pub returns-in_default-clause-written : goal.returns-in_default-clause-written
returns-in_default-clause-written c =
    sym (ap (λ (o : Option (Bor (List ℕ))). overlaid (bytes_of_name (option_map (λ t. t.now) o)) c.args.room.now) c.in_default.is
    ∙ none_laid c.args.room.now)
