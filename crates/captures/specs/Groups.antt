-- The groups that go with a regex.
use Rattle.std.specs.Prelude.{◌≡◌, ◌^◌, ℕ, IfSome, List, is_some, slice_get, true}
use Rattle.std.specs.Option.{unwrap_or}
use Rattle.meta_regex.specs.declared.options.Options.{Options}
use Rattle.group_finder.specs.Errors.{bytes_allowed}
use Rattle.captures.specs.declared.groups.Groups.{Groups}
use Rattle.captures.specs.Patterns.{ArePatternGroups}

-- The limit on the bytes of the automaton of each pattern: that of the options, or 16 GiB if they have none or a larger one.
abbrev pub limit_of : Options → ℕ
limit_of o = bytes_allowed (unwrap_or o.size_limit (2 ^ 34))

-- These are the groups of these patterns, made under these options.
pub record AreGroupsOf (o : Options) (texts : List (List ℕ)) (g : Groups) : Type 0 where
  pub config_is : g.syntax ≡ o.syntax
  pub limit_is : bytes_allowed g.size_limit ≡ limit_of o
  pub patterns : ArePatternGroups o.syntax texts g.patterns.items

-- What finds the groups of the pattern with a number is made, if there is such a pattern.
abbrev pub IsPrepared : Groups → ℕ → Type 0
IsPrepared g n = IfSome (slice_get g.patterns.items n) (λ p. is_some p.finder ≡ true)
