use Rattle.line_search.proofs.FewerWordLemmas.{fewer_of}
use Rattle.line_search.proofs.fewer_words.fewest_tree.Goals as goal

pub returns-in-Ok-tree_of : goal.returns-in-Ok-tree_of
returns-in-Ok-tree_of c =
    fewer_of c.args.words.items c.in-Ok.kept.items c.deref.result.now c.in-Ok-tree_of.tree c.in-Ok.ensures c.deref.ensures.value
    c.in-Ok-tree_of.ensures
