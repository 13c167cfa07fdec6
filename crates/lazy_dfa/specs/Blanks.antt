-- What a count of work is made of: a blank for each ledger.
use Rattle.std.specs.Prelude.{◌≡◌, ◌<◌, ℕ}

-- A blank of this name, cut into so many parts, can be opened as the ledger of that name and those parts. At least one part counts.
pub record FitsLedger (blank_name blank_parts ledger_name ledger_parts : ℕ) : Type 0 where
  pub name : blank_name ≡ ledger_name
  pub parts : blank_parts ≡ ledger_parts
  pub some : 0 < blank_parts
