-- Which bytes a line terminator holds.
use Rattle.std.proofs.Common.{◌≡◌, ℕ, ◌||◌, ◌==◌, Some, None, arith}
use Rattle.std.proofs.lemmas.Bool.Decides.{nat_tests}
use Rattle.look_core.specs.Terminators.{Terminator, ends_line, two_of, IsTerminator}

pub two_hold_both : (a b c : ℕ) → ends_line (two_of a b) c ≡ ((a == c) || (b == c))
two_hold_both a b c = grind (arith, nat_tests)

pub same_terminator : (s t : Terminator) → IsTerminator s → IsTerminator t → ((c : ℕ) → ends_line s c ≡ ends_line t c) → s ≡ t
same_terminator (a, None) (b, None) p q h = grind (arith, nat_tests, h a)
same_terminator (a, None) (b, Some d) p q h = grind (arith, nat_tests, h b, h d)
same_terminator (a, Some c) (b, None) p q h = grind (arith, nat_tests, h a, h c)
same_terminator (a, Some c) (b, Some d) p q h = grind (arith, nat_tests, h a, h b, h c, h d)
