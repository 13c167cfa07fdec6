-- What follows if the options choose files whatever the system does.
use Rattle.std.proofs.Common.{◌≡◌, ◌&&◌, Bool, true, false, not, refl, sym, true≢false}

-- no file of rules is named
pub names_none : (s n g t : Bool) → s && (not n && (g && t)) ≡ true → n ≡ false
names_none true false g t e = refl
names_none true true g t e = absurd (true≢false (sym e))
names_none false n g t e = absurd (true≢false (sym e))

-- each glob can be read
pub reads_globs : (s n g t : Bool) → s && (not n && (g && t)) ≡ true → g ≡ true
reads_globs true false true t e = refl
reads_globs true false false t e = absurd (true≢false (sym e))
reads_globs true true g t e = absurd (true≢false (sym e))
reads_globs false n g t e = absurd (true≢false (sym e))
