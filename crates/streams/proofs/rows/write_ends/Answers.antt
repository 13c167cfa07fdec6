use Rattle.std.proofs.Common.{◌≡◌, ◌∙◌, ◌+◌, ◌++◌, ℕ, List, ap, arith, length, length-set, map, take, take_all}
use Rattle.std.proofs.lemmas.List.{length-map}
use Rattle.streams.specs.Streams.{stream_end}
use Rattle.streams.proofs.ReadLemmas.{row_more}
use Rattle.streams.proofs.rows.write_ends.Goals as goal

pub loop-k-preserved : goal.loop-k-preserved
loop-k-preserved c = record {
  len = length-set c.loop-k.rows (c.args.count + c.loop-k.k) (stream_end c.args.end c.as_usize-pattern.result) ∙ c.loop-k.invariant.len;
  rows = λ s h.
      let len : c.match_len-n.result ≡ length s.matches = c.match_len-n.ensures s h in
      row_more c.args.rows.now c.loop-k.rows c.args.count c.loop-k.k c.args.end c.as_usize-pattern.result s.matches
      (c.loop-k.invariant.rows s h)
      (omega (arith, c.loop-k.invariant.len, c.requires.count, c.if-rows-count.false, c.loop-k-test.true))
      (omega (arith, c.loop-k-test.true, len))
      (c.as_usize-pattern.ensures.value ∙ c.match_pattern.ensures s h);
}

pub returns-clause-fits : goal.returns-clause-fits
returns-clause-fits c = λ s h.
    let len : c.match_len-n.result ≡ length s.matches = c.match_len-n.ensures s h in
    let sizes : length (map (stream_end c.args.end) s.matches) ≡ length s.matches = length-map s.matches (stream_end c.args.end) in
    record {
      count_is = omega (arith, len, sizes);
      fits = omega (arith, c.requires.count, c.if-rows-count.false);
      rows =
          let whole : c.match_len-n.result ≡ c.loop-k.k = omega (arith, c.loop-k-test.false, c.loop-k.auto.k-end) in
          ap (λ (m : ℕ). take (c.args.count + m) c.loop-k.rows) whole
          ∙ (c.loop-k.invariant.rows s h
          ∙ ap (λ (l : List ℕ). take c.args.count c.args.rows.now ++ map (stream_end c.args.end) l)
          (take_all c.loop-k.k s.matches (omega (arith, len, c.loop-k-test.false))));
    }
