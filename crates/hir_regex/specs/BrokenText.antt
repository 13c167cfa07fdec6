-- Where a haystack is no longer UTF-8.
use Rattle.std.specs.Prelude.{ℕ, nat_lt, List, length, Option, Some, None, if◌then◌else◌}
use Rattle.std.specs.Str.Lossy.{utf8_valid_len}

-- how many bytes of the haystack are UTF-8 from its start on, if that isn't all of it
abbrev pub first_broken : List ℕ → Option ℕ
first_broken h = if nat_lt (utf8_valid_len h) (length h) then Some (utf8_valid_len h) else None
