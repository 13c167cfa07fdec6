use Rattle.std.proofs.Common.{◌≡◌, drop}
use Rattle.meta_regex.specs.Parts.{first_end}
use Rattle.meta_regex.proofs.parts.read_one_of.Given as goal

abbrev pub invariant-loop-text : goal.invariant-loop-text
invariant-loop-text l = first_end l.texts l.haystack l.at ≡ first_end (drop l.text-index l.texts) l.haystack l.at
