use Rattle.std.proofs.Common.{◌≡◌, ◌∙◌, ltb, false, get_or}
use Rattle.std.proofs.lemmas.Bool.{le-ltb}
use Rattle.nfa_core.proofs.PairedLemmas.{held_inside, held_outside}
use Rattle.nfa_core.proofs.name_sets.pair_set.is_held.Goals as goal

pub returns-then-place-len : goal.returns-then-place-len
returns-then-place-len c =
    let at : c.as_usize-place.result ≡ get_or c.args.places.now c.args.name c.index-places-as_usize.result = cc in
    c.eq.ensures ∙ held_inside _ _ _ c.args.name c.as_usize-place.result _ _ _ c.requires.paired c.requires.inside at c.if-place-len.true
    c.index-dense-place.is

pub returns-else-place-len : goal.returns-else-place-len
returns-else-place-len c =
    let at : c.as_usize-place.result ≡ get_or c.args.places.now c.args.name c.index-places-as_usize.result = cc in
    let past : ltb c.as_usize-place.result c.args.len ≡ false = le-ltb _ _ c.if-place-len.false in
    past ∙ held_outside _ _ _ c.args.name c.as_usize-place.result _ c.requires.paired c.requires.inside at c.if-place-len.false
