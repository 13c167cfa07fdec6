-- Which trees read a line feed, and why the two looks of carriage returns are left out. After a carriage return at a line's end both hold
-- in the line, and neither in the line with its line feed.
use Rattle.std.proofs.Common.{◌≡◌, ℕ, Bool, true, false, [], ◌∷◌, refl}
use Rattle.look_core.specs.declared.look.Look.TheVariants.{StartCRLF, EndCRLF}
use Rattle.hir_core.specs.Tree.{literal, char_class}
use Rattle.line_trees.specs.LineTrees.{line_looks, reads_feed}

start_in_line : (words : ℕ → Bool) → line_looks words (0x0D ∷ []) StartCRLF 1 ≡ true
start_in_line words = refl

start_in_block : (words : ℕ → Bool) → line_looks words (0x0D ∷ 0x0A ∷ []) StartCRLF 1 ≡ false
start_in_block words = refl

end_in_line : (words : ℕ → Bool) → line_looks words (0x0D ∷ []) EndCRLF 1 ≡ true
end_in_line words = refl

end_in_block : (words : ℕ → Bool) → line_looks words (0x0D ∷ 0x0A ∷ []) EndCRLF 1 ≡ false
end_in_block words = refl

class_reads_one : reads_feed (char_class ((0x00, 0x7E) ∷ [])) ≡ true
class_reads_one = refl

class_reads_none : reads_feed (char_class ((0x00, 0x09) ∷ (0x0B, 0x7E) ∷ [])) ≡ false
class_reads_none = refl

literal_reads_none : reads_feed (literal (0x61 ∷ 0x62 ∷ [])) ≡ false
literal_reads_none = refl
