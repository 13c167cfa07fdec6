-- What a handle holds.
use Rattle.std.specs.Prelude.{◌≡◌, Option, Some, None}
use Rattle.std.specs.Coded.{Coded, coded_option}
use base.Fml.{Fml, ftrue, fex}
use denote.RawPtr.{Ptr, null_ptr}
use Rattle.std.specs.Box.Ownership.{box_owns}
use Rattle.std.specs.declared.alloc.Global.{Global}
use Rattle.std.specs.contracts.impls.GlobalAllocator.TheImpl.{ghosts}
use Rattle.ffi_core.specs.contracts.compiled.Compiled.{the_row}
use Rattle.stream_regex.specs.contracts.set.StreamSet.{the_row as the_set_row}

-- A null pointer holds nothing. Any other pointer holds what a box of a compiled regex owns.
abbrev pub held : Ptr → Option the_row.Denot → Fml
held p None = fex (p ≡ null_ptr) (λ _. ftrue)
held p (Some v) = fex Global (λ a. box_owns (ghosts.dealloc_token a) the_row p v)

abbrev pub coded_held : Coded (Option the_row.Denot)
coded_held = coded_option the_row.coded

-- A null pointer holds nothing. Any other pointer holds what a box of a set of streams owns.
abbrev pub held_set : Ptr → Option the_set_row.Denot → Fml
held_set p None = fex (p ≡ null_ptr) (λ _. ftrue)
held_set p (Some v) = fex Global (λ a. box_owns (ghosts.dealloc_token a) the_set_row p v)

abbrev pub coded_set : Coded (Option the_set_row.Denot)
coded_set = coded_option the_set_row.coded
