use Rattle.std.proofs.Common.{◌≡◌, ◌≤◌, ◌<◌, ◌+◌, ◌-◌, ◌^◌, length, arith, rules}
use Rattle.hirscan.proofs.RunLemmas.{read_on, within}
use Rattle.hirscan.proofs.program.read_input.Goals as goal

pub loop-input-preserved : goal.loop-input-preserved
loop-input-preserved g c =
    let small : c.min-room.result ≤ 2 ^ 30 + 1 - c.len-in-loop-input.result = search rules in
    let is : c.len-in-loop-input.result ≡ length c.loop-input.input.items = search rules in
    record {
      in_limit =
          within (g.R.Read.remaining c.loop-input.reader) (g.R.Read.remaining c.read_some.new.reader) c.loop-input.input.items
          c.read_some.new.input.items c.in_ok-taken.taken c.min-room.result c.len-in-loop-input.result c.loop-input.buffer
          c.in_ok-taken.ensures.ok
          c.in_ok-taken.ensures.room small is c.loop-input.invariant.in_limit;
      read = read_on _ _ _ _ _ _ c.loop-input.invariant.read c.in_ok-taken.ensures.ok;
    }

pub returns-then-taken-eq0 : goal.returns-then-taken-eq0
returns-then-taken-eq0 g c =
    let small : c.min-room.result ≤ 2 ^ 30 + 1 - c.len-in-loop-input.result = search rules in
    let is : c.len-in-loop-input.result ≡ length c.loop-input.input.items = search rules in
    record {
      read = read_on _ _ _ _ _ _ c.loop-input.invariant.read c.in_ok-taken.ensures.ok;
      whole = λ _. c.in_ok-taken.ensures.ok.end c.if-taken-eq0.true;
      limit =
          within (g.R.Read.remaining c.loop-input.reader) (g.R.Read.remaining c.read_some.new.reader) c.loop-input.input.items
          c.read_some.new.input.items c.in_ok-taken.taken c.min-room.result c.len-in-loop-input.result c.loop-input.buffer
          c.in_ok-taken.ensures.ok
          c.in_ok-taken.ensures.room small is c.loop-input.invariant.in_limit;
      fault = tt;
    }

pub returns : goal.returns
returns g c =
    let is : c.len.result ≡ length c.loop-input.input.items = search rules in
    let long : 2 ^ 30 < c.len.result = c.loop-input-test.false in
    record {
      read = c.loop-input.invariant.read;
      whole = λ short. absurd (omega (arith, is, long, short));
      limit = c.loop-input.invariant.in_limit;
      fault = tt;
    }
