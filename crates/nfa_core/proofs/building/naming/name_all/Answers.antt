use Rattle.std.proofs.Common.{◌<◌, length, map, List, ℕ, subst, sym, arith}
use Rattle.std.proofs.lemmas.List.{length-map}
use Rattle.nfa_core.specs.Drafts.{draft_of}
use Rattle.nfa_core.specs.Pasts.{IsRanking}
use Rattle.nfa_core.proofs.NamingLemmas.{past_is_inside, naming_done}
use Rattle.nfa_core.proofs.building.naming.name_all.Goals as goal

pub rank_pasts-requires-clause-inside : goal.rank_pasts-requires-clause-inside
rank_pasts-requires-clause-inside g c q inside =
    let len = length-map c.args.drafts.now draft_of in
    let ranked : IsRanking (map draft_of c.args.drafts.now) c.deref.result.now =
    subst (λ (ranks : List ℕ). IsRanking (map draft_of c.args.drafts.now) ranks) (sym c.deref.ensures.value) c.in_ok-ranks.ensures in
    let below : q < length (map draft_of c.args.drafts.now) = omega (arith, inside, ranked.len) in
    let h = past_is_inside (map draft_of c.args.drafts.now) c.in_ok-pasts.pasts.table.items q c.requires.reached c.in_ok-pasts.ensures.table
    (c.in_ok-pasts.ensures.there q (omega (arith, below, len))) below in
    omega (arith, h, ranked.len)

pub returns-clause-names : goal.returns-clause-names
returns-clause-names g c =
    let len = length-map c.args.drafts.now draft_of in
    let ranked : IsRanking (map draft_of c.args.drafts.now) c.deref.result.now =
    subst (λ (ranks : List ℕ). IsRanking (map draft_of c.args.drafts.now) ranks) (sym c.deref.ensures.value) c.in_ok-ranks.ensures in
    naming_done (map draft_of c.args.drafts.now) c.in_ok-pasts.pasts.table.items c.deref.result.now c.in_ok-names.names.items
    c.requires.reached c.in_ok-pasts.ensures.table
    (λ q below. c.in_ok-pasts.ensures.there q (omega (arith, below, len))) ranked c.in_ok-names.ensures.len c.in_ok-names.ensures.right
