use Rattle.std.proofs.Common.{◌≡◌, ◌++◌, ◌∷◌, [], ◌+◌, ◌<◌, ◌≤◌, ℕ, List, map, length, ap, sym, subst, arith, ◌∙◌}
use Rattle.std.proofs.lemmas.List.{length-map}
use Rattle.search_core.specs.Index.{greatest_index}
use Rattle.nfa_core.specs.Drafts.{draft_of}
use Rattle.nfa_core.proofs.NamingLemmas.{IsRankingTo, ranking_start, ranking_more, ranking_done}
use Rattle.search_types.proofs.ForCallers.{failed}
use Rattle.nfa_core.proofs.building.naming.rank_all.Goals as goal

pub loop-draft-preserved : goal.loop-draft-preserved
loop-draft-preserved c =
    let pushed : c.push.new.self.items ≡ c.loop-draft.ranks.items ++ c.loop-draft.count ∷ [] =
    c.in_ok-push.ensures.items ∙ ap (λ (n : ℕ). c.loop-draft.ranks.items ++ n ∷ []) c.must.ensures in
    ranking_more draft_of c.args.drafts.now c.loop-draft.ranks.items c.push.new.self.items c.loop-draft.draft-index c.loop-draft.count
    c.kept_len-count.result c.draft-item.result
    c.loop-draft-test.true c.draft-item.is pushed c.kept_len-count.ensures.value c.kept_len-count.ensures.most c.loop-draft.invariant

room : (count i n most : ℕ) → count ≤ i → i < n → n ≤ most + 1 → count ≤ most
room count i n most few below numbered = omega arith

pub loop-draft-init : goal.loop-draft-init
loop-draft-init c =
    subst (λ (ranks : List ℕ). IsRankingTo (map draft_of c.args.drafts.now) ranks 0 0) (sym c.new-ranks.ensures.items)
    (ranking_start (map draft_of c.args.drafts.now))

pub must-requires : goal.must-requires
must-requires c =
    room c.loop-draft.count c.loop-draft.draft-index (length c.args.drafts.now) greatest_index c.loop-draft.invariant.most
    c.loop-draft-test.true c.requires

pub returns-in_err-push : goal.returns-in_err-push
returns-in_err-push c = failed _ _ c.from_residual.result c.from_residual.ensures.1

pub returns : goal.returns
returns c =
    let len = sym (length-map c.args.drafts.now draft_of) in
    ranking_done (map draft_of c.args.drafts.now) c.loop-draft.ranks.items c.loop-draft.draft-index c.loop-draft.count
    (subst (λ (n : ℕ). n ≤ c.loop-draft.draft-index) len c.loop-draft-test.false)
    (subst (λ (n : ℕ). c.loop-draft.draft-index ≤ n) len c.loop-draft.auto.draft-index-end) c.loop-draft.invariant
