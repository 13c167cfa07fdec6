use Rattle.std.proofs.Common.{List, arith, subst}
use Rattle.meta_regex.specs.declared.parts.Part.{Part}
use Rattle.meta_regex.specs.Parts.{AreDecided, AreParts}
use Rattle.meta_regex.proofs.PartLemmas.{all_there, missing_there, nowhere}
use Rattle.meta_regex.proofs.sequences.try_at.Goals as goal

pub returns-clause-found : goal.returns-clause-found
returns-clause-found c x parts apart k low high =
    nowhere c.in-Some.first.now c.in-Some.others.now x (subst (λ (l : List Part). AreParts l x) c.in-Some.ensures.cases.0 parts)
    (subst AreDecided c.in-Some.ensures.cases.0 apart) c.args.haystack.now c.see_bytes.ensures c.args.start c.in-To.end c.last_start.result
    c.in-To.ensures.read c.in-Missing-read_parts.ensures.read c.last_start.ensures k low high

pub returns-in-Missing-clause-found : goal.returns-in-Missing-clause-found
returns-in-Missing-clause-found c x parts apart k low high =
    missing_there c.in-Some.first.now c.in-Some.others.now x (subst (λ (l : List Part). AreParts l x) c.in-Some.ensures.cases.0 parts)
    (subst AreDecided c.in-Some.ensures.cases.0 apart) c.args.haystack.now c.see_bytes.ensures c.args.start c.in-Missing.read
    c.in-Missing.ensures.read k low high

pub returns-in-To-read_parts-clause-found : goal.returns-in-To-read_parts-clause-found
returns-in-To-read_parts-clause-found c x parts apart =
    c.match_to.ensures.ends x c.args.haystack.now (omega (arith, c.in-To.ensures.within.0, c.in-To-read_parts.ensures.within.0))
    c.in-To-read_parts.ensures.within.1
    (all_there c.in-Some.first.now c.in-Some.others.now x (subst (λ (l : List Part). AreParts l x) c.in-Some.ensures.cases.0 parts)
    (subst AreDecided c.in-Some.ensures.cases.0 apart) c.args.haystack.now c.see_bytes.ensures c.args.start c.in-To.end
    c.in-To.ensures.read c.in-To-read_parts.to c.in-To-read_parts.ensures.read)
