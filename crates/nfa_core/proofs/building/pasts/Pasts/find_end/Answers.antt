use Rattle.std.proofs.Common.{◌≡◌, ◌+◌, ◌<◌, map, arith, sym, subst, ℕ, ◌∙◌}
use Rattle.std.proofs.lemmas.List.{length-map}
use Rattle.nfa_core.specs.Drafts.{draft_of}
use Rattle.nfa_core.specs.Pasts.{IsOpen}
use Rattle.nfa_core.proofs.PastLemmas.{underway_start, underway_next, steps_fall, way_bound}
use Rattle.nfa_core.proofs.building.pasts.Pasts.find_end.Goals as goal

one_more : (first len was now : ℕ) → was ≡ first + len → now ≡ was + 1 → now ≡ first + (len + 1)
one_more first len was now so_far one = omega arith

none_more : (n : ℕ) → n ≡ n + 0
none_more n = omega arith

pub loop-next-init : goal.loop-next-init
loop-next-init g c = record {
  way = underway_start (map draft_of c.args.drafts.now) c.args.self.now.table.items c.args.q
      (subst (λ (n : ℕ). c.args.q < n) (sym (length-map c.args.drafts.now draft_of)) c.requires.inside);
  moves = none_more c.args.steps.now;
}

pub next_open-requires-clause-table : goal.next_open-requires-clause-table
next_open-requires-clause-table g c =
    subst (λ (n : ℕ). c.loop-next.at < n) (sym c.requires.table.len) c.loop-next.invariant.way.inside

pub next_open-requires-clause-inside : goal.next_open-requires-clause-inside
next_open-requires-clause-inside g c =
    subst (λ (n : ℕ). c.loop-next.at < n) (length-map c.args.drafts.now draft_of) c.loop-next.invariant.way.inside

pub overflow_add-len : goal.overflow_add-len
overflow_add-len g c =
    let bound = way_bound (map draft_of c.args.drafts.now) c.args.q in
    let len = length-map c.args.drafts.now draft_of in
    omega (arith, bound, len, c.loop-next.invariant.way.far, c.requires.numbered)

pub loop-next-smaller : goal.loop-next-smaller
loop-next-smaller g c =
    let falls = steps_fall (map draft_of c.args.drafts.now) c.loop-next.at c.in-Some.next c.requires.reached
    c.loop-next.invariant.way.inside c.in-Some.ensures.value.1 in
    omega (arith, falls)

pub loop-next-preserved : goal.loop-next-preserved
loop-next-preserved g c = record {
  way = underway_next (map draft_of c.args.drafts.now) c.args.self.now.table.items c.args.q c.loop-next.at c.in-Some.next c.loop-next.len
      c.requires.reached c.in-Some.ensures.value.0 c.in-Some.ensures.value.1 c.loop-next.invariant.way;
  moves =
      one_more c.args.steps.now c.loop-next.len c.loop-next.steps c.next_open.new.steps c.loop-next.invariant.moves c.in-Some.ensures.moves;
}

pub returns-clause-opened : goal.returns-clause-opened
returns-clause-opened g c =
    let same : c.loop-next.len + 0 ≡ c.loop-next.len = omega arith in
    subst (λ (k : ℕ). IsOpen (map draft_of c.args.drafts.now) c.args.self.now.table.items k c.args.q) same
    (c.loop-next.invariant.way.opened 0 tt)

pub returns-clause-moves : goal.returns-clause-moves
returns-clause-moves g c = c.in_default.ensures.moves ∙ c.loop-next.invariant.moves
