use Rattle.std.proofs.Common.{ap, length, replicate, subst, ◌∙◌, Option}
use Rattle.meta_regex.specs.declared.found_match.FoundMatch.{FoundMatch}
use Rattle.group_finder.specs.Slots.{no_offset}
use Rattle.captures.specs.Captures.{HasCaptures}
use Rattle.ffi_core.specs.Compiled.{config_by}
use Rattle.ffi_core.proofs.GroupLemmas.{none_cleared}
use Rattle.ffi_core.proofs.compiled.Compiled.captures_at.Goals as goal

pub returns-in-Ok-None-clause-finds : goal.returns-in-Ok-None-clause-finds
returns-in-Ok-None-clause-finds c = record {
  found = none_cleared (config_by c.args.self.now) c.args.self.now.texts c.args.haystack.now c.args.from (length c.args.slots.now)
      c.find_groups.new.slots c.clear.new.slots (c.clear.ensures ∙ ap (λ n. replicate n no_offset) c.find_groups.auto.slots)
      (subst (λ (o : Option FoundMatch). HasCaptures (config_by c.args.self.now) c.args.self.now.texts c.args.haystack.now c.args.from
      (length c.args.slots.now) o c.find_groups.new.slots) c.in-Ok-None.field-0-is c.in-Ok-None.ensures.finds.found);
  cleared = tt;
  refused = tt;
}
