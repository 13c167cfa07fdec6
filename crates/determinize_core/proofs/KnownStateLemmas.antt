-- What is known by a start is a set of looks, and a state with this set is a state.
use Rattle.std.proofs.Common.{ℕ, Bool, true, false, not, arith}
use Rattle.look_core.specs.Codes.{repr}
use Rattle.look_core.specs.LookSets.{IsLookSet}
use Rattle.look_core.specs.Terminators.{Terminator, ends_line}
use Rattle.look_core.specs.declared.look.Look.{Look}
use Rattle.look_core.specs.declared.look.Look.TheVariants.{Start as AtStart, StartLF, StartCRLF, WordStartHalfAscii, WordStartHalfUnicode}
use Rattle.look_core.proofs.ForCallers.{union-lt, repr-lt}
use Rattle.determinize_core.specs.States.{StateValue, IsState}
use Rattle.determinize_core.specs.LookBehind.{with_if, starts_of, known_at_line, known_at_byte, behind_start, with_look_behind}
use Rattle.determinize_core.specs.declared.start.Start.{Start}
use Rattle.determinize_core.specs.declared.start.Start.TheVariants.{NonWordByte, WordByte, Text, LineLF, LineCR, CustomLineTerminator}
use Rattle.determinize_core.specs.declared.start.Start.TheVariants.{CustomWordLineTerminator}
use Rattle.determinize_core.specs.declared.lookbehind.Families.{Families}
use Rattle.determinize_core.specs.declared.lookbehind.LookBehind.{LookBehind}

with_if-lt : (b : Bool) (l : Look) (s : ℕ) → IsLookSet s → IsLookSet (with_if b l s)
with_if-lt true l s h = union-lt s (repr l) h (repr-lt l)
with_if-lt false l s h = h

pub starts_of-lt : (f : Families) → IsLookSet (starts_of f)
starts_of-lt f =
    with_if-lt f.words WordStartHalfUnicode _
    (with_if-lt f.words WordStartHalfAscii _
    (with_if-lt f.crlf StartCRLF _ (with_if-lt f.lines StartLF _ (with_if-lt f.haystack AtStart 0 (omega arith)))))

pub known-lt : (f : Families) (reverse : Bool) (t : Terminator) (s : Start) → IsLookSet (behind_start f reverse t s).look_have
known-lt f reverse t NonWordByte = starts_of-lt (known_at_byte f false false)
known-lt f reverse t WordByte = starts_of-lt (known_at_byte f false true)
known-lt f reverse t Text = starts_of-lt f
known-lt f reverse t LineLF = starts_of-lt (known_at_line f reverse (ends_line t 0x0A))
known-lt f reverse t LineCR = starts_of-lt (known_at_line f (not reverse) (ends_line t 0x0D))
known-lt f reverse t CustomLineTerminator = starts_of-lt (known_at_byte f true false)
known-lt f reverse t CustomWordLineTerminator = starts_of-lt (known_at_byte f true true)

pub state_with_known : (b : LookBehind) (v : StateValue) → IsLookSet b.look_have → IsState v → IsState (with_look_behind b v)
state_with_known b v known state = record {
  have = union-lt v.look_have b.look_have state.have known;
  need = state.need;
  patterns = state.patterns;
  states = state.states;
  once = state.once;
}
