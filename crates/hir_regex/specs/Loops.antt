-- Whether the body of every unbounded repetition of a tree consumes at least one byte: the test of `LoopsRead`.
use Rattle.std.specs.Prelude.{ℕ, Bool, true, ◌&&◌, List, Option, Some, None, not}
use Rattle.std.specs.List.{position}
use Rattle.hir_core.specs.Tree.{Tree, empty, literal, byte_class, char_class, look, repetition, capture, nothing, cat, never, alt}
use Rattle.hir_core.specs.Facts.{minimum_len}
use Rattle.thompson_nfa.specs.Compiled.{is_above_zero}

abbrev pub loops_read : Tree → Bool
loops_read empty = true
loops_read (literal bytes) = true
loops_read (byte_class ranges) = true
loops_read (char_class ranges) = true
loops_read (look l) = true
loops_read (repetition min None greedy x) = is_above_zero (minimum_len x) && loops_read x
loops_read (repetition min (Some most) greedy x) = loops_read x
loops_read (capture index name x) = loops_read x
loops_read nothing = true
loops_read (cat x y) = loops_read x && loops_read y
loops_read never = true
loops_read (alt x y) = loops_read x && loops_read y

-- the number of the first pattern with an unbounded repetition whose body may be empty
abbrev pub first_empty_loop : List Tree → Option ℕ
first_empty_loop xs = position (λ x. not (loops_read x)) xs
