use Rattle.std.proofs.Common.{subst, sym}
use Rattle.search_types.specs.declared.match_kind.MatchKind.TheVariants.{LeftmostFirst}
use Rattle.regex_pair.specs.Pairs.{Pair}
use Rattle.meta_regex.specs.Regexes.{config_by}
use Rattle.meta_regex.specs.Wordless.{AreWordlessOf}
use Rattle.meta_regex.proofs.CacheLemmas.{wordless_automata_of}
use Rattle.meta_regex.proofs.compiled.Regex.wordless_automata.Goals as goal

pub returns-in-Some-growing : goal.returns-in-Some-growing
returns-in-Some-growing c =
    let v = c.args.self.now in
    wordless_automata_of v LeftmostFirst c.in-Some-growing.automata
    (subst (λ (p : Pair). AreWordlessOf (config_by v) v.texts LeftmostFirst p) (sym c.in-Some-growing.ensures.same)
    (c.in-Some-wordless_pair.ensures (config_by v) v.texts c.in-Some.ensures))
    c.in-Some-growing.ensures.capacity
