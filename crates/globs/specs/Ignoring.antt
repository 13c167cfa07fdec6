-- The rules of ignore files, as gitignore(5) has them, and which of several files decides, as ripgrep has it.
use Rattle.std.specs.Prelude.{ℕ, ◌+◌, ◌-◌, ◌==◌, Bool, true, false, ◌&&◌, ◌||◌, not, nat_lt, List, [], ◌∷◌, ◌++◌, length, take, drop, slice_index, map, Option, Some, None, if◌then◌else◌}
use Rattle.std.specs.List.{flat_map, list_any, slice_split}
use Rattle.std.specs.Str.{chars}
use Rattle.globs.specs.Reading.{read}
use Rattle.globs.specs.Rules.{Rule, begins, decided, glob_body, rule_of, rule_with, without_first}
use Rattle.globs.specs.declared.ignoring.IgnoreKind.{IgnoreKind}
use Rattle.globs.specs.declared.ignoring.IgnoreKind.TheVariants.{Ripgrep, Plain, Git, Exclude}
use Rattle.globs.specs.declared.ignoring.IgnoreLevel.{IgnoreLevel}
use Rattle.globs.specs.declared.reading.Fault.{Fault}
use Rattle.globs.specs.declared.reading.Syntax.TheVariants.{Gitignore}

-- ---- a line of an ignore file

-- How many characters there are up to the last one that counts: spaces at the end don't, unless a backslash is before one. `escaped`: a
-- backslash is before the next character. `kept` is how many there were up to here, and `at` is how many come before these characters.
abbrev pub counted_len : Bool → ℕ → ℕ → List ℕ → ℕ
counted_len escaped kept at [] = kept
counted_len escaped kept at (c ∷ cs) =
    counted_len (not escaped && c == 92) (if not escaped && c == 32 then kept else at + 1) (at + 1) cs

abbrev pub without_end_spaces : List ℕ → List ℕ
without_end_spaces line = take (counted_len false 0 0 line) line

abbrev pub ends_in_return : List ℕ → Bool
ends_in_return line = nat_lt 0 (length line) && slice_index line (length line - 1) == 13

-- A line without the carriage return at its end.
abbrev pub without_end_return : List ℕ → List ℕ
without_end_return line = if ends_in_return line then take (length line - 1) line else line

-- What counts of a line: no byte order mark at its beginning, no carriage return and no spaces at its end.
abbrev pub line_text : List ℕ → List ℕ
line_text line = without_end_spaces (without_end_return (without_first 65279 line))

abbrev pub is_bare : List ℕ → Bool
is_bare [] = true
is_bare (c ∷ cs) = false

-- A rule, unless its glob has a fault: such a glob matches nothing.
abbrev pub sound_rule : Option Fault → Rule → List Rule
sound_rule None rule = rule ∷ []
sound_rule (Some fault) rule = []

-- The rule of what counts of a line, which selects what is to be ignored. `!` at the beginning selects what isn't; a slash at the end
-- means folders alone; another slash, or one at the beginning, means a path from the folder of the file on, and not a name at any depth.
abbrev pub ignore_rule : List ℕ → List Rule
ignore_rule text = sound_rule (read Gitignore (glob_body text)).fault (rule_with (read Gitignore (glob_body text)).sections text)

-- An empty line, and one that begins with `#`, has no rule.
abbrev pub text_rules : List ℕ → List Rule
text_rules text = if is_bare text || begins 35 text then [] else ignore_rule text

unfoldable pub line_rules : List ℕ → List Rule
line_rules line = text_rules (line_text line)

-- The rules of the text of an ignore file, in the order of its lines. The last one that matches decides.
abbrev pub ignore_rules : List ℕ → List Rule
ignore_rules text = flat_map (λ line. line_rules (chars line)) (slice_split (λ b. b == 10) text)

-- ---- the ignore files of folders

-- What the ignore files of a folder say.
pub record Level : Type 0 where
  -- how many characters of a path come before what is in the folder
  pub base : ℕ
  -- it is the root of a work tree of git
  pub is_root : Bool
  -- the rules of `.rgignore`, `.ignore`, `.gitignore` and `.git/info/exclude`
  pub ripgrep : List Rule
  pub plain : List Rule
  pub git : List Rule
  pub exclude : List Rule

abbrev pub no_rules : ℕ → Bool → Level
no_rules base is_root = record { base = base; is_root = is_root; ripgrep = []; plain = []; git = []; exclude = [] }

-- With the rules of one more text.
abbrev pub with_text : IgnoreKind → Level → List ℕ → Level
with_text Ripgrep l text = record l { ripgrep = l.ripgrep ++ ignore_rules text }
with_text Plain l text = record l { plain = l.plain ++ ignore_rules text }
with_text Git l text = record l { git = l.git ++ ignore_rules text }
with_text Exclude l text = record l { exclude = l.exclude ++ ignore_rules text }

abbrev pub level_rules : IgnoreKind → Level → List Rule
level_rules Ripgrep l = l.ripgrep
level_rules Plain l = l.plain
level_rules Git l = l.git
level_rules Exclude l = l.exclude

-- Whether the rules are git's, which count up to the root of a work tree.
abbrev pub is_of_git : IgnoreKind → Bool
is_of_git Ripgrep = false
is_of_git Plain = false
is_of_git Git = true
is_of_git Exclude = true

-- what is known before a folder: nothing for git's rules if it is the root of a work tree
abbrev pub known_at : IgnoreKind → Level → Option Bool → Option Bool
known_at kind l known = if l.is_root && is_of_git kind then None else known

-- What rules of this kind say of a path: those of the innermost folder decide, and then those of the folders above it. The list has the
-- outermost folder first.
abbrev pub said : IgnoreKind → Option Bool → List Level → Bool → List ℕ → Option Bool
said kind known [] is_folder path = known
said kind known (l ∷ ls) is_folder path =
    said kind (decided (known_at kind l known) (level_rules kind l) is_folder false (drop l.base path)) ls is_folder path

-- Git's rules count only in a work tree, unless none is required.
abbrev pub counts_git : Bool → List Level → Bool
counts_git requires levels = not requires || list_any (λ (l : Level). l.is_root) levels

abbrev pub or_else : Option Bool → Option Bool → Option Bool
or_else (Some is) other = Some is
or_else None other = other

abbrev pub git_said : Bool → List Level → Bool → List ℕ → Option Bool
git_said requires levels is_folder path =
    if counts_git requires levels then or_else (said Git None levels is_folder path) (said Exclude None levels is_folder path) else None

-- Whether what is at this path is to be ignored, if a rule says so: `.rgignore` decides before `.ignore`, and this before git's files.
unfoldable pub ignored : Bool → List Level → Bool → List ℕ → Option Bool
ignored requires levels is_folder path =
    or_else (said Ripgrep None levels is_folder path) (or_else (said Plain None levels is_folder path) (git_said requires levels is_folder path))

-- ---- what the code holds

abbrev pub level_of : IgnoreLevel → Level
level_of l = record {
  base = l.base;
  is_root = l.is_root;
  ripgrep = map rule_of l.ripgrep.items;
  plain = map rule_of l.plain.items;
  git = map rule_of l.git.items;
  exclude = map rule_of l.exclude.items;
}
