use Rattle.std.proofs.Common.{ℕ, List, subst}
use Rattle.captures.specs.Replacing.{IsReplaced}
use Rattle.ffi_core.specs.Compiled.{config_by}
use Rattle.ffi_core.proofs.replacing.replace_matches.Goals as goal

pub returns-clause-replaced : goal.returns-clause-replaced
returns-clause-replaced c = λ said it.
    subst (λ (before : List ℕ). IsReplaced (config_by c.args.compiled.now) c.args.compiled.now.texts c.args.haystack.now said c.args.limit
    before c.append_replaced.new.output.items c.in-Ok.count)
    c.new-bytes.ensures.items (c.in-Ok.ensures.replaced said it)
