-- How a run changes what is known of the bytes of its reader and its writer.
use Rattle.std.specs.Prelude.{◌≡◌, ◌+◌, ◌^◌, ◌≤◌, ℕ, List, ◌++◌, length, take, Option, IfSome}
use Rattle.std.specs.Io.KnownBytes.{Appends, Consumes, IsAtEnd, Keeps}
use Rattle.hirscan.specs.declared.ending.Ending.{Ending}
use Rattle.hirscan.specs.declared.program.RunError.{RunError}
use Rattle.hirscan.specs.declared.program.RunError.TheVariants.{Read, Write, NoMemory}
use Rattle.hirscan.specs.Reply.{IsReply}

-- a read appended the n bytes that it took; it takes none only at the end
pub record ReadsSome (before after : Option (List ℕ)) (old new : List ℕ) (n : ℕ) : Type 0 where
  pub bytes : List ℕ
  pub taken : Consumes before after bytes
  pub appended : new ≡ old ++ bytes
  pub counted : length bytes ≡ n
  pub end : n ≡ 0 → IsAtEnd after

-- if the reader had this input, the writer got the whole reply to it
abbrev pub WritesReply : Option (List ℕ) → Option (List ℕ) → Option (List ℕ) → Ending → Type 0
WritesReply input before after ending =
    IfSome input (λ bytes. (text : List ℕ) × IsReply bytes ending text × Appends before after text)

-- After a failed read or a failed allocation, nothing was written. After a failed write, the first n bytes of the reply
-- were.
abbrev pub WritesAtFault : Option (List ℕ) → Option (List ℕ) → Option (List ℕ) → RunError → Type 0
WritesAtFault input before after Read = Keeps before after
WritesAtFault input before after Write =
    IfSome input (λ bytes. (ending : Ending) × (text : List ℕ) × (n : ℕ) × IsReply bytes ending text × Appends before after (take n text))
WritesAtFault input before after NoMemory = Keeps before after

-- everything was read from the reader, or one byte more than an input may have
abbrev pub TakesInput : Option (List ℕ) → Option (List ℕ) → Type 0
TakesInput before after =
    (input : List ℕ) × Consumes before after input × (length input ≤ 2 ^ 30 + 1) × (length input ≤ 2 ^ 30 → IsAtEnd after)

-- A write comes only after the whole input was read. How far a read came that failed isn't specified, nor how far reads
-- came when an allocation failed.
abbrev pub TakesAtFault : Option (List ℕ) → Option (List ℕ) → RunError → Type 0
TakesAtFault before after Read = Unit {0}
TakesAtFault before after Write = TakesInput before after
TakesAtFault before after NoMemory = Unit {0}
