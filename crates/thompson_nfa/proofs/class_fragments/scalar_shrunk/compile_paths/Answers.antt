-- Each path comes after the one before it, and has one to four ranges of bytes.
use Rattle.std.proofs.Common.{sym, ◌+◌, ◌*◌, List, ℕ, subst, map, length, take, arith}
use Rattle.hir_core.specs.Sequences.{bytes_of}
use Rattle.thompson_nfa.specs.RangeWalks.{paths_of}
use Rattle.hir_core.specs.Tree.{alternation}
use Rattle.thompson_nfa.specs.Compiled.{Makes, Does}
use Rattle.thompson_nfa.specs.Shared.{read_tree}
use Rattle.thompson_nfa.specs.Utf8Compiles.{IsCompiling}
use Rattle.thompson_nfa.specs.Utf8Stacks.{ComesAfter}
use Rattle.thompson_nfa.proofs.Steps.ErrorLemmas.{handed}
use Rattle.thompson_nfa.proofs.Classes.TriePathLemmas.{path_some, path_few, path_bytes, path_after, paths_more, next_fits, paths_whole}
use Rattle.thompson_nfa.proofs.Classes.TriePathLemmas.{paths_counted}
use Rattle.thompson_nfa.proofs.Classes.ShrunkLemmas.{quits_more}
use Rattle.thompson_nfa.proofs.Classes.ClassBytes.{paths_left}
use Rattle.thompson_nfa.proofs.class_fragments.scalar_shrunk.compile_paths.Goals as goal

pub add-requires-clause-some : goal.add-requires-clause-some
add-requires-clause-some c = path_some c.args.paths.now c.loop-path.path-index c.path-item.result c.deref.result.now c.loop-path-test.true
    c.path-item.is c.deref.ensures.value c.requires.short

pub add-requires-clause-few : goal.add-requires-clause-few
add-requires-clause-few c = path_few c.args.paths.now c.loop-path.path-index c.path-item.result c.deref.result.now c.loop-path-test.true
    c.path-item.is c.deref.ensures.value c.requires.short

pub add-requires-clause-bytes : goal.add-requires-clause-bytes
add-requires-clause-bytes c =
    path_bytes c.args.paths.now c.loop-path.path-index c.path-item.result c.deref.result.now c.loop-path-test.true c.path-item.is
    c.deref.ensures.value c.requires.ascending c.requires.short

pub add-requires-clause-after : goal.add-requires-clause-after
add-requires-clause-after c =
    subst (λ p. ComesAfter p (map bytes_of c.deref.result.now)) (sym c.loop-path.invariant.0.path)
    (path_after c.args.paths.now c.loop-path.path-index c.path-item.result c.deref.result.now c.loop-path-test.true c.path-item.is
    c.deref.ensures.value c.requires.ascending)

pub add-requires-clause-rising : goal.add-requires-clause-rising
add-requires-clause-rising c = c.loop-path.invariant.0.rising

pub add-requires-clause-keeps : goal.add-requires-clause-keeps
add-requires-clause-keeps c = c.loop-path.invariant.0.keeps

pub loop-path-preserved : goal.loop-path-preserved
loop-path-preserved c = (
  subst (IsCompiling c.args.builder.now c.add.new.builder c.add.new.state.end c.add.new.state.compiled c.add.new.state.nodes.items)
      (sym (paths_more c.args.paths.now c.loop-path.path-index c.path-item.result c.deref.result.now c.loop-path-test.true c.path-item.is
      c.deref.ensures.value))
      (c.in_ok-add.ensures.added c.args.builder.now _ c.loop-path.invariant.0),
  omega (
    arith,
    c.loop-path.invariant.1,
    paths_left c.args.paths.now c.loop-path.path-index c.path-item.result c.deref.result.now c.loop-path-test.true c.path-item.is
        c.deref.ensures.value,
    c.in_ok-add.ensures.weighs,
  ),
)

pub returns-in_err-add-clause-refused : goal.returns-in_err-add-clause-refused
returns-in_err-add-clause-refused c =
    let fits = next_fits c.args.paths.now c.loop-path.path-index c.path-item.result c.deref.result.now c.loop-path-test.true c.path-item.is
    c.deref.ensures.value in
    handed _ _ c.in_err-add.field-0.0 c.from_residual-in_err-add.ensures.1
    (quits_more (2 + 4 * length (take c.loop-path.path-index (paths_of c.args.paths.now))) (2 + 4 * length c.args.paths.now) (omega (
      arith,
      fits,
    ))
    (c.in_err-add.ensures.refused c.args.builder.now _ c.loop-path.invariant.0))

pub returns-in_err-add-clause-passed : goal.returns-in_err-add-clause-passed
returns-in_err-add-clause-passed c =
    handed _ _ c.in_err-add.field-0.0 c.from_residual-in_err-add.ensures.1
    (omega (arith, c.loop-path.invariant.1, c.in_err-add.ensures.passed))

pub finish-requires-clause-rising : goal.finish-requires-clause-rising
finish-requires-clause-rising c = c.loop-path.invariant.0.rising

pub finish-requires-clause-keeps : goal.finish-requires-clause-keeps
finish-requires-clause-keeps c = c.loop-path.invariant.0.keeps

pub returns-in_err-all-clause-refused : goal.returns-in_err-all-clause-refused
returns-in_err-all-clause-refused c =
    let count = paths_counted c.args.paths.now c.loop-path.path-index c.loop-path-test.false in
    handed _ _ c.in_err-all.field-0.0 c.from_residual-in_err-all.ensures.1
    (quits_more (2 + 4 * length (take c.loop-path.path-index (paths_of c.args.paths.now))) (2 + 4 * length c.args.paths.now) (omega (
      arith,
      count,
    ))
    (c.in_err-all.ensures.refused c.args.builder.now _ c.loop-path.invariant.0))

pub returns-in_err-all-clause-passed : goal.returns-in_err-all-clause-passed
returns-in_err-all-clause-passed c =
    handed _ _ c.in_err-all.field-0.0 c.from_residual-in_err-all.ensures.1
    (omega (arith, c.loop-path.invariant.1, c.in_err-all.ensures.passed))

pub returns-clause-weighs : goal.returns-clause-weighs
returns-clause-weighs c = omega (arith, c.loop-path.invariant.1, c.in_ok-all.ensures.weighs)

pub loop-path-init : goal.loop-path-init
loop-path-init c = (c.in_ok-begin.ensures.begun, omega (arith, c.in_ok-begin.ensures.weighs))

pub returns-clause-made : goal.returns-clause-made
returns-clause-made c =
    subst (λ (n : ℕ). Makes c.args.builder.now c.finish.new.builder c.in_ok-all.all.start c.in_ok-all.all.end (2 + 4 * n))
    (paths_counted c.args.paths.now c.loop-path.path-index c.loop-path-test.false)
    (c.in_ok-all.ensures.closed c.args.builder.now _ c.loop-path.invariant.0).0

pub returns-clause-does : goal.returns-clause-does
returns-clause-does c =
    subst (λ (qs : List (List (ℕ × ℕ))). Does c.args.builder.now c.finish.new.builder c.in_ok-all.all.start c.in_ok-all.all.end
    (alternation (map (read_tree c.args.builder.now.reverse) qs)))
    (paths_whole c.args.paths.now c.loop-path.path-index c.loop-path-test.false)
    (c.in_ok-all.ensures.closed c.args.builder.now _ c.loop-path.invariant.0).1

pub returns-clause-groups : goal.returns-clause-groups
returns-clause-groups c = (c.in_ok-all.ensures.closed c.args.builder.now _ c.loop-path.invariant.0).2
