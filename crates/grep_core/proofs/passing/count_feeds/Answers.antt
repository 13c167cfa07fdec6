use Rattle.std.proofs.Common.{◌≡◌, ◌≤◌, ◌+◌, ◌-◌, ◌∙◌, ℕ, List, count_by, drop, length-take, take, sym, ap, ap₂, arith}
use Rattle.std.proofs.lemmas.List.Sums.{count_by-le-length}
use Rattle.line_search.proofs.ForCallers.{is_feed}
use Rattle.grep_core.proofs.WholeLemmas.{feeds_on}
use Rattle.grep_core.proofs.passing.count_feeds.Goals as goal

pub loop-done-preserved : goal.loop-done-preserved
loop-done-preserved c =
    let text : List ℕ = c.args.text.now in
    let done : ℕ = c.loop-done.done in
    let len : ℕ = c.min-len.result in
    let part : List ℕ = take len (drop done text) in
    let short : done + len - done ≡ len = omega arith in
    let is : c.count_few.result ≡ count_by is_feed part = c.count_few.ensures
    ∙ ap (λ n. count_by is_feed (take n (drop done text))) short in
    let few : c.count_few.result ≤ len = omega (arith, is, count_by-le-length is_feed part, length-take len (drop done text)) in
    record {
      in_text = omega (arith, c.min-len.ensures, c.loop-done-test.true);
      few = omega (arith, few, c.loop-done.invariant.few);
      counted = ap₂ (λ a b. a + b) c.loop-done.invariant.counted is ∙ sym (feeds_on text done len);
    }
