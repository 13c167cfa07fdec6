-- The sequences are those of the trie, which has the spellings of the class.
use Rattle.std.proofs.Common.{ap, ◌∙◌, arith}
use Rattle.thompson_nfa.specs.RangeWalks.{paths_of}
use Rattle.thompson_nfa.proofs.Steps.ErrorLemmas.{handed}
use Rattle.thompson_nfa.proofs.Classes.ShrunkLemmas.{paths_short, shrunk_made, shrunk_does, shrunk_quits}
use Rattle.thompson_nfa.proofs.Classes.ClassBytes.{shrunk_bytes}
use Rattle.thompson_nfa.proofs.class_fragments.scalar_shrunk.compile_scalars_shrunk.Goals as goal

pub compile_paths-requires-clause-short : goal.compile_paths-requires-clause-short
compile_paths-requires-clause-short c =
    paths_short c.args.ranges.now _ c.in_ok-paths.ensures.trie c.in_ok-insert_class.ensures.ok c.deref.result.now
    (ap paths_of c.deref.ensures.value ∙ c.in_ok-paths.ensures.paths)

pub returns-in_err-all-clause-refused : goal.returns-in_err-all-clause-refused
returns-in_err-all-clause-refused c = handed _ _ c.in_err-all.field-0.0 c.from_residual-in_err-all.ensures.1
    (shrunk_quits c.args.ranges.now _ c.in_ok-paths.ensures.trie c.in_ok-insert_class.ensures.ok c.deref.result.now
    (ap paths_of c.deref.ensures.value ∙ c.in_ok-paths.ensures.paths)
    c.in_err-all.ensures.refused)

pub returns-clause-made : goal.returns-clause-made
returns-clause-made c =
    shrunk_made c.args.ranges.now _ c.in_ok-paths.ensures.trie c.in_ok-insert_class.ensures.ok c.deref.result.now
    (ap paths_of c.deref.ensures.value ∙ c.in_ok-paths.ensures.paths)
    c.in_ok-all.ensures.made

pub returns-clause-does : goal.returns-clause-does
returns-clause-does c =
    shrunk_does c.args.ranges.now _ c.in_ok-paths.ensures.trie c.in_ok-insert_class.ensures.ok c.deref.result.now
    (ap paths_of c.deref.ensures.value ∙ c.in_ok-paths.ensures.paths)
    c.requires c.in_ok-all.ensures.does

pub returns-in_err-all-clause-passed : goal.returns-in_err-all-clause-passed
returns-in_err-all-clause-passed c = handed _ _ c.in_err-all.field-0.0 c.from_residual-in_err-all.ensures.1
    (omega (
      arith,
      shrunk_bytes c.args.ranges.now _ c.in_ok-paths.ensures.trie c.in_ok-insert_class.ensures.ok c.deref.result.now
          (ap paths_of c.deref.ensures.value ∙ c.in_ok-paths.ensures.paths),
      c.in_err-all.ensures.passed,
    ))

pub returns-clause-weighs : goal.returns-clause-weighs
returns-clause-weighs c = omega (
  arith,
  shrunk_bytes c.args.ranges.now _ c.in_ok-paths.ensures.trie c.in_ok-insert_class.ensures.ok c.deref.result.now
      (ap paths_of c.deref.ensures.value ∙ c.in_ok-paths.ensures.paths),
  c.in_ok-all.ensures.weighs,
)
