use Rattle.std.proofs.Common.{◌≡◌, ◌<◌, ◌≤◌, ◌+◌, ◌*◌, ℕ, List, Option, true, map, length, arith, ap, sym, subst, ◌∙◌}
use Rattle.std.specs.Prelude.{is_some}
use Rattle.std.proofs.lemmas.List.{length-map}
use Rattle.std.proofs.lemmas.List.Sums.{count_by-le-length}
use borrow.Author.Count.{below_more}
use Rattle.search_core.specs.Index.{greatest_index}
use Rattle.nfa_core.specs.Drafts.{draft_of}
use Rattle.nfa_core.specs.Pasts.{IsPastTable, is_settled, settled_count}
use Rattle.nfa_core.specs.declared.building.draft.Draft.{Draft}
use Rattle.search_types.proofs.ForCallers.{failed}
use Rattle.nfa_core.proofs.building.pasts.settle_all.Goals as goal

-- what one more state has cost
moved : (first was now old new : ℕ) → was ≤ first + 2 * old → now + 2 * old ≤ was + 2 * new → now ≤ first + 2 * new
moved first was now old new so_far more = omega arith

before : (q len index : ℕ) → q < len → len ≤ index → q < index
before q len index inside past = omega arith

-- no more states are settled than there are
spent : (ds : List Draft) (table : List (Option ℕ)) (first now : ℕ) → IsPastTable (map draft_of ds) table →
    now ≤ first + 2 * settled_count table → now ≤ first + 2 * length ds
spent ds table first now reported so_far =
    let few : settled_count table ≤ length table = count_by-le-length is_some table in
    let len : length table ≡ length ds = reported.len ∙ length-map ds draft_of in
    omega (arith, few, len, so_far)

pub loop-index-preserved : goal.loop-index-preserved
loop-index-preserved g c = record {
  reported = c.settle_from.ensures.table;
  there = below_more (λ (q : ℕ). is_settled c.settle_from.new.self.table.items q ≡ true) c.loop-index.index
      (λ q h. c.settle_from.ensures.kept q (c.loop-index.invariant.there q h))
      (ap (λ (q : ℕ). is_settled c.settle_from.new.self.table.items q) (sym c.must.ensures) ∙ c.settle_from.ensures.there);
  moves = moved c.args.steps.now c.loop-index.steps c.settle_from.new.steps (settled_count c.loop-index.pasts.table.items)
      (settled_count c.settle_from.new.self.table.items) c.loop-index.invariant.moves c.settle_from.ensures.moves;
}

pub returns-clause-there : goal.returns-clause-there
returns-clause-there g c = λ q h. c.loop-index.invariant.there q (before q _ c.loop-index.index h c.loop-index-test.false)

pub returns-clause-moves : goal.returns-clause-moves
returns-clause-moves g c = spent c.args.drafts.now c.loop-index.pasts.table.items c.args.steps.now c.loop-index.steps
    c.loop-index.invariant.reported c.loop-index.invariant.moves

room : (i n most : ℕ) → i < n → n ≤ most + 1 → i ≤ most
room i n most below few = omega arith

none_spent : (n more : ℕ) → n ≤ n + more
none_spent n more = omega arith

pub must-requires : goal.must-requires
must-requires g c = room c.loop-index.index (length c.args.drafts.now) greatest_index c.loop-index-test.true c.requires.numbered

pub settle_from-requires-clause-table : goal.settle_from-requires-clause-table
settle_from-requires-clause-table g c = c.loop-index.invariant.reported

pub settle_from-requires-clause-inside : goal.settle_from-requires-clause-inside
settle_from-requires-clause-inside g c = subst (λ (q : ℕ). q < length c.args.drafts.now) (sym c.must.ensures) c.loop-index-test.true

pub returns-in_err-pasts-clause-table : goal.returns-in_err-pasts-clause-table
returns-in_err-pasts-clause-table g c = failed _ _ c.from_residual.result c.from_residual.ensures.1

pub returns-in_err-pasts-clause-there : goal.returns-in_err-pasts-clause-there
returns-in_err-pasts-clause-there g c = failed _ _ c.from_residual.result c.from_residual.ensures.1

pub returns-in_err-pasts-clause-moves : goal.returns-in_err-pasts-clause-moves
returns-in_err-pasts-clause-moves g c = none_spent c.args.steps.now (2 * length c.args.drafts.now)

pub returns-clause-table : goal.returns-clause-table
returns-clause-table g c = c.loop-index.invariant.reported
