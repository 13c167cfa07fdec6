use Rattle.std.proofs.Common.{◌≡◌, ◌≤◌, ◌∙◌, ℕ, List, length, length-drop, take, drop, arith}
use Rattle.std.proofs.lemmas.List.{length-take-le}
use Rattle.grep_core.proofs.HeldLemmas.{read_behind}
use Rattle.grep_core.proofs.line_buffer.LineBuffer.read_some.Goals as goal

pub returns : goal.returns
returns g c =
    let len : ℕ = c.self.inside.len in
    let n : ℕ = c.in_ok-n.n in
    let now : List ℕ = c.read_into.new.buffer.items in
    let fits : len ≤ length c.self.inside.buffer.items = c.self.invariant in
    let same : take len now ≡ c.args.self.now =
    c.in_ok-n.ensures.before ∙ c.make_room.ensures.kept len fits ∙ c.self.view_is in
    let few : n ≤ length (drop len now) =
    omega (arith, c.in_ok-n.ensures.some, c.in_ok-n.ensures.long, c.in_ok-make_room.ensures.room, length-drop len now) in
    record {
      bytes = take n (drop len now);
      taken = c.in_ok-n.ensures.read;
      appended = read_behind len n now c.args.self.now same;
      counted = length-take-le n (drop len now) few;
      end = c.in_ok-n.ensures.end;
    }
