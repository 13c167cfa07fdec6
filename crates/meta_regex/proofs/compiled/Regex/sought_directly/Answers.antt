use Rattle.std.proofs.Common.{subst, sym}
use Rattle.meta_regex.specs.declared.anchored.Sought.{Sought}
use Rattle.meta_regex.specs.Regexes.{config_by}
use Rattle.meta_regex.specs.Starts.{HasSoughtSpan, IsSought}
use Rattle.meta_regex.proofs.RunAnswerLemmas.{way_sought, way_sought_span}
use Rattle.meta_regex.proofs.compiled.Regex.sought_directly.Goals as goal

pub returns-clause-seeks : goal.returns-clause-seeks
returns-clause-seeks c =
    let v = c.args.self.now in
    let it = c.way.ensures in
    let h = c.args.haystack.now in
    let from = c.args.from in
    let next = c.next.ensures it.trees it.found_so it.described in
    record {
      sought = subst (λ (s : Sought). IsSought (config_by v) v.texts h from s) (sym c.sought_of.ensures)
          (way_sought (config_by v) v.texts v.loops it.trees it.searched h c.see_bytes.ensures c.requires.valid from c.requires.within
          c.next.result next);
      preferred = λ on. subst (λ (s : Sought). HasSoughtSpan (config_by v) v.texts h from s) (sym c.sought_of.ensures)
          (way_sought_span (config_by v) v.texts v.loops it.trees it.searched h c.see_bytes.ensures c.requires.valid from c.requires.within
          c.next.result on next);
    }
