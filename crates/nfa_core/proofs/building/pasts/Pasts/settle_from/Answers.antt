use Rattle.std.proofs.Common.{◌<◌, arith, List, ℕ, Option, map, length, ap, sym, ◌∙◌, subst}
use Rattle.std.proofs.lemmas.List.{length-map}
use Rattle.nfa_core.specs.Drafts.{draft_of}
use Rattle.nfa_core.specs.Pasts.{settled_count, is_settled, IsPastTable}
use Rattle.nfa_core.specs.declared.building.draft.Draft.{Draft}
use Rattle.nfa_core.proofs.PastLemmas.{settled_grows, settled_kept, settled_there, told_more}
use Rattle.nfa_core.proofs.building.pasts.Pasts.settle_from.Goals as goal

-- a state has an entry in the table
placed : (ds : List Draft) (table : List (Option ℕ)) (q : ℕ) → q < length ds → IsPastTable (map draft_of ds) table → q < length table
placed ds table q inside reported = subst (λ (n : ℕ). q < n) (sym (reported.len ∙ length-map ds draft_of)) inside

pub settle-requires : goal.settle-requires
settle-requires g c =
    placed c.args.drafts.now c.settle_path.new.self.table.items c.args.q c.requires.inside c.settle_path.ensures.table

pub returns-clause-table : goal.returns-clause-table
returns-clause-table g c =
    subst (λ (t : List (Option ℕ)). IsPastTable (map draft_of c.args.drafts.now) t) (sym c.settle.ensures)
    (told_more (map draft_of c.args.drafts.now) c.settle_path.new.self.table.items c.args.q c.find_end-way.result.end
    (subst (λ (n : ℕ). c.args.q < n) (sym (length-map c.args.drafts.now draft_of)) c.requires.inside)
    c.settle_path.ensures.table c.find_end-way.ensures.end)

pub returns-clause-there : goal.returns-clause-there
returns-clause-there g c =
    ap (λ (t : List (Option ℕ)). is_settled t c.args.q) c.settle.ensures
    ∙ settled_there c.settle_path.new.self.table.items c.args.q c.find_end-way.result.end
    (placed c.args.drafts.now c.settle_path.new.self.table.items c.args.q c.requires.inside c.settle_path.ensures.table)

pub returns-clause-kept : goal.returns-clause-kept
returns-clause-kept g c = λ r old.
    ap (λ (t : List (Option ℕ)). is_settled t r) c.settle.ensures
    ∙ settled_kept c.settle_path.new.self.table.items c.args.q c.find_end-way.result.end r
    (placed c.args.drafts.now c.settle_path.new.self.table.items c.args.q c.requires.inside c.settle_path.ensures.table)
    (c.settle_path.ensures.kept r old)

pub returns-clause-moves : goal.returns-clause-moves
returns-clause-moves g c =
    let grows = settled_grows c.settle_path.new.self.table.items c.args.q c.find_end-way.result.end
    (placed c.args.drafts.now c.settle_path.new.self.table.items c.args.q c.requires.inside c.settle_path.ensures.table) in
    let same = ap settled_count c.settle.ensures in
    omega (arith, c.find_end-way.ensures.moves, c.settle_path.ensures.count, c.settle_path.ensures.moves, grows, same)
