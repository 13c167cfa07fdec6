-- Short names for a box of a compiled regex, for its parts and for a handle.
use mir.Syntax.{impl, tnil, dnil}
use mathlib.Core.List.{[]}
use denote.RattleType.{RattleType}
use denote.Signature.{Slot, plain}
use Rattle.std.proofs.BoxSteps.Form.{Bx}
use Rattle.std.specs.contracts.alloc.Global as heap
use Rattle.std.specs.contracts.impls.GlobalAllocator.TheImpl.{ghosts, dict}
use Rattle.std.proofs.alloc.Global.TheLaws as heap_laws
use Rattle.ffi_core.specs.contracts.compiled.Compiled as regex
use Rattle.ffi_core.proofs.compiled.Compiled.TheLaws as regex_laws
use Rattle.hanneddois.specs.contracts.apart.Apart as apart
use Rattle.hanneddois.specs.contracts.handle.Handle as handle

abbrev pub E : Bx
E = record {
  row = regex.the_row;
  laws = regex_laws.the_row_laws;
  al = record { row = heap.the_row; laws = heap_laws.the_row_laws; g = ghosts; d = dict; drops = impl [] tnil dnil };
}

abbrev pub Parts : RattleType
Parts = apart.the_row regex.the_row heap.the_row ghosts

abbrev pub FromParts : Slot 0
FromParts = plain (λ _. Parts)

abbrev pub FromHandle : Slot 0
FromHandle = plain (λ _. handle.the_row)

abbrev pub FromAlloc : Slot 0
FromAlloc = plain (λ _. heap.the_row)
