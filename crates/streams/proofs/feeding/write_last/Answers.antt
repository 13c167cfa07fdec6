use Rattle.std.proofs.Common.{◌≡◌, ◌+◌, ◌<◌, ℕ, List, Option, arith, length, map, subst, sym, ap}
use Rattle.std.proofs.lemmas.List.{length-map}
use Rattle.streams.specs.Feeding.{IsLast}
use Rattle.streams.specs.Reading.{Appends}
use Rattle.streams.specs.Streams.{stream_end, last_at}
use Rattle.streams.proofs.CallLemmas.{last_of}
use Rattle.streams.proofs.feeding.write_last.Goals as goal

pub returns-in-Some-clause-ends : goal.returns-in-Some-clause-ends
returns-in-Some-clause-ends g c =
    let here = last_of c.args.dfa.now c.last.new.cache c.in-Ok-Some.id c.args.point.now
    (subst (λ (o : Option ℕ). IsLast c.args.dfa.now c.last.new.cache c.args.point.now o) c.in-Ok-Some.field-0-is c.in-Ok-Some.ensures.last) in
    subst (λ (l : List ℕ). Appends c.args.rows.now c.write_ends.new.rows 0 c.in-Some.count (map (stream_end c.args.offset) l)) (sym here.2)
    (c.in-Some.ensures.fits here.0 here.1)

pub returns-clause-err : goal.returns-clause-err
returns-clause-err g c =
    let here = last_of c.args.dfa.now c.last.new.cache c.in-Ok-Some.id c.args.point.now
    (subst (λ (o : Option ℕ). IsLast c.args.dfa.now c.last.new.cache c.args.point.now o) c.in-Ok-Some.field-0-is c.in-Ok-Some.ensures.last) in
    let sizes : length (map (stream_end c.args.offset) here.0.matches) ≡ length here.0.matches =
    length-map here.0.matches (stream_end c.args.offset) in
    let same : length (map (stream_end c.args.offset) (last_at c.args.dfa.now c.args.point.now)) ≡ length (map (stream_end c.args.offset) here.0.matches) =
    ap (λ (l : List ℕ). length (map (stream_end c.args.offset) l)) here.2 in
    let full : length c.args.rows.now < 0 + length (map (stream_end c.args.offset) here.0.matches) = c.in-None.ensures.full here.0 here.1 in
    let len : c.match_len.result ≡ length here.0.matches = c.match_len.ensures here.0 here.1 in
    (omega (arith, sizes, same, len), omega (arith, full, sizes, len))
