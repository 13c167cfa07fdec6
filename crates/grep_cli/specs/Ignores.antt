-- Which ignore files are read.
use Rattle.std.specs.Prelude.{not, codes}
use Rattle.clap.specs.declared.parser.matches.Found.{Found}
use Rattle.grep_options.specs.Options.{is_set}
use Rattle.grep_cli.specs.declared.files.selecting_files.Ignoring.{Ignoring}

-- What the options say of the ignore files of folders: whether any is read, whether `.ignore` and `.rgignore` are, and whether git's are,
-- with `.git/info/exclude`. Then, whether those of the folders above those that are searched are read, and whether git's count in its work
-- trees alone.
abbrev pub ignoring_given : Found → Ignoring
ignoring_given f = record {
  reads = is_set f (codes "ignore");
  plain = not (is_set f (codes "no-ignore-dot"));
  git = not (is_set f (codes "no-ignore-vcs"));
  exclude = not (is_set f (codes "no-ignore-exclude"));
  parents = not (is_set f (codes "no-ignore-parent"));
  needs_tree = not (is_set f (codes "no-require-git"));
}
