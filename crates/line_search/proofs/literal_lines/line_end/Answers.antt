use Rattle.std.proofs.Common.{◌≡◌, ◌+◌, ◌-◌, ◌∙◌, ◌==◌, ℕ, List, Some, length, take, drop, sym, arith}
use Rattle.std.proofs.lemmas.List.{take_rest}
use Rattle.std.specs.List.{position}
use Rattle.line_search.proofs.FeedPlaceLemmas.{starts_behind}
use Rattle.line_search.proofs.literal_lines.line_end.Goals as goal

pub returns-in-Some-clause-starts : goal.returns-in-Some-clause-starts
returns-in-Some-clause-starts c below =
    let block : List ℕ = c.args.block.now in
    let at : ℕ = c.args.at in
    let len : ℕ = c.in-Some.len in
    let text : List ℕ = take (length block - at) (drop at block) in
    let found : position (λ b. b == 10) text ≡ Some len = sym c.feed_at.ensures ∙ c.in-Some.is in
    let is : at + len + 1 ≡ at + (len + 1) = omega arith in
    starts_behind block text at len (at + len + 1) (take_rest block at) found is
