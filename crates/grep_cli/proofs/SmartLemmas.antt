-- Reading patterns character by character.
use Rattle.std.proofs.Common.{◌≡◌, ℕ, List, [], ◌∷◌, ◌++◌, refl}
use Rattle.grep_cli.specs.declared.options.smart_case.Scan.{Scan}
use Rattle.grep_cli.specs.SmartCase.{after_char, scan_chars}

pub scan_more : (s : Scan) (cs : List ℕ) (c : ℕ) → scan_chars s (cs ++ c ∷ []) ≡ after_char (scan_chars s cs) c
scan_more s [] c = refl
scan_more s (d ∷ cs) c = scan_more (after_char s d) cs c
