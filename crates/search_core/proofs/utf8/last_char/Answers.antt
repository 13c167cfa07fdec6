use Rattle.std.proofs.Common.{arith}
use Rattle.search_core.proofs.DecodeLemmas.{put_one, put_two, put_three, none_last, read_last_four}
use Rattle.search_core.proofs.utf8.last_char.Goals as goal

pub returns-then-last-le127 : goal.returns-then-last-le127
returns-then-last-le127 c = rw c.from.ensures (put_one c.args.bytes.now (omega arith) (omega arith))

pub returns-in-Some : goal.returns-in-Some
returns-in-Some c = put_two c.args.bytes.now c.in-Some.found (omega arith) c.in-Some.ensures

pub returns-then-n-lt3 : goal.returns-then-n-lt3
returns-then-n-lt3 c =
    none_last c.args.bytes.now (omega arith) c.in_default.ensures (λ h. absurd (omega arith)) (λ h. absurd (omega arith))

pub returns-in-Some-three_bytes : goal.returns-in-Some-three_bytes
returns-in-Some-three_bytes c = put_three c.args.bytes.now c.in-Some-three_bytes.found (omega arith) c.in-Some-three_bytes.ensures

pub returns-then-n-lt4 : goal.returns-then-n-lt4
returns-then-n-lt4 c =
    none_last c.args.bytes.now (omega arith) c.in_default.ensures (λ _. c.in_default-three_bytes.ensures) (λ h. absurd (omega arith))

pub returns : goal.returns
returns c =
    read_last_four c.args.bytes.now c.four_bytes.result (omega arith) (omega arith) c.in_default.ensures c.in_default-three_bytes.ensures
    c.four_bytes.ensures
