-- What contracts see of a configuration: the options that were set.
use Rattle.std.specs.Prelude.{ℕ, Bool, true, false, ◌&&◌, Option, None}
use Rattle.std.specs.Option.{option_or, unwrap_or}
use Rattle.look_core.specs.Terminators.{Terminator, one_of}
use Rattle.thompson_nfa.specs.declared.which_captures.WhichCaptures.{WhichCaptures}
use Rattle.thompson_nfa.specs.declared.which_captures.WhichCaptures.TheVariants as which

pub record Options : Type 0 where
  pub utf8 : Option Bool
  pub reverse : Option Bool
  pub size_limit : Option (Option ℕ)  -- in bytes; None within: any size is allowed
  pub shrink : Option Bool
  pub captures : Option WhichCaptures
  pub terminator : Option Terminator

-- no option is set
abbrev pub no_options : Options
no_options = record { utf8 = None; reverse = None; size_limit = None; shrink = None; captures = None; terminator = None }

-- the options of the first, unless the second has set them
abbrev pub changed_by : Options → Options → Options
changed_by old new = record {
  utf8 = option_or new.utf8 old.utf8;
  reverse = option_or new.reverse old.reverse;
  size_limit = option_or new.size_limit old.size_limit;
  shrink = option_or new.shrink old.shrink;
  captures = option_or new.captures old.captures;
  terminator = option_or new.terminator old.terminator;
}

-- what holds if an option is not set
abbrev pub utf8_of : Options → Bool
utf8_of o = unwrap_or o.utf8 true

abbrev pub reverse_of : Options → Bool
reverse_of o = unwrap_or o.reverse false

abbrev pub limit_of : Options → Option ℕ
limit_of o = unwrap_or o.size_limit None

abbrev pub shrink_of : Options → Bool
shrink_of o = unwrap_or o.shrink false

-- whether classes of scalars are shrunk
abbrev pub is_shrunk : Options → Bool
is_shrunk o = reverse_of o && shrink_of o

abbrev pub captures_of : Options → WhichCaptures
captures_of o = unwrap_or o.captures which.All

abbrev pub terminator_of : Options → Terminator
terminator_of o = unwrap_or o.terminator (one_of 0x0A)

-- whether there are states for some group
abbrev pub is_any : WhichCaptures → Bool
is_any which.All = true
is_any which.Implicit = true
is_any which.None = false

-- all groups, or none
abbrev pub all_or_none : Bool → WhichCaptures
all_or_none true = which.All
all_or_none false = which.None
