use Rattle.std.proofs.Common.{◌≡◌, ◌%◌, ◌++◌, length, get_or, get_or-take, length-take-le, take, refl, ◌∙◌, arith}
use Rattle.std.proofs.lemmas.List.{get_or_append_left}
use Rattle.std.proofs.lemmas.List.FromFn.{get_or-map-range_with_len}
use Rattle.lazy_dfa.proofs.accel.half_tables.twice.Goals as goal

pub returns : goal.returns
returns c =
    let items = take 16 c.args.table.now in
    let long : length items ≡ 16 = length-take-le 16 c.args.table.now (omega arith) in
    record {
      long = refl;
      each = λ k l.
          get_or-map-range_with_len (λ j. get_or (items ++ items) (j % 16) 0) 0 32 k k 0 l (omega arith)
          ∙ get_or_append_left items items 0 (k % 16) (omega arith) ∙ get_or-take 16 c.args.table.now (k % 16) 0 (omega arith);
    }
