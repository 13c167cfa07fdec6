use Rattle.std.proofs.Common.{arith}
use Rattle.search_core.proofs.DecodeLemmas.{read_one, read_two, read_three, read_four}
use Rattle.search_core.proofs.utf8.first_char.Goals as goal

pub returns-then-first-le127 : goal.returns-then-first-le127
returns-then-first-le127 c = rw c.from.ensures (read_one c.args.bytes.now (omega arith) (omega arith))

pub returns-else-bytes-lt2 : goal.returns-else-bytes-lt2
returns-else-bytes-lt2 c = read_two c.args.bytes.now c.two_bytes.result (omega arith) (omega arith) (omega arith) c.two_bytes.ensures

pub returns-else-bytes-lt3 : goal.returns-else-bytes-lt3
returns-else-bytes-lt3 c = read_three c.args.bytes.now c.three_bytes.result (omega arith) (omega arith) (omega arith) c.three_bytes.ensures

pub returns-else-bytes-lt4 : goal.returns-else-bytes-lt4
returns-else-bytes-lt4 c = read_four c.args.bytes.now c.four_bytes.result (omega arith) (omega arith) c.four_bytes.ensures
