-- Calls of a closure at the sequences of a trie, in order, until one returns an error. A closure is known by its steps: what it
-- may return at a slice of ranges, and what it is then.
use Rattle.std.specs.Prelude.{◌≡◌, ◌⊎◌, ℕ, List, [], ◌∷◌, map, Result, Ok, Err}
use Rattle.std.specs.List.{FoldsTo}
use Rattle.hir_core.specs.declared.utf8_sequences.Utf8Range.{Utf8Range}
use Rattle.hir_core.specs.Sequences.{bytes_of}
use denote.Ref.{Bor}

-- the call at the sequence succeeds
abbrev pub GoesThrough : {F E : Type 0} → (F → Bor (List Utf8Range) → Result (Unit {0}) E → F → Type 0) → F → List (ℕ × ℕ) → F → Type 0
GoesThrough step f q g = (shown : Bor (List Utf8Range)) × (map bytes_of shown.now ≡ q) × step f shown (Ok tt) g

-- the call at the sequence returns this error
abbrev pub FailsCall : {F E : Type 0} → (F → Bor (List Utf8Range) → Result (Unit {0}) E → F → Type 0) → F → List (ℕ × ℕ) → E → Type 0
FailsCall {F} step f q e = (shown : Bor (List Utf8Range)) × (last : F) × (map bytes_of shown.now ≡ q) × step f shown (Err e) last

-- all calls succeed
abbrev pub CallsAll : {F E : Type 0} → (F → Bor (List Utf8Range) → Result (Unit {0}) E → F → Type 0) → F → List (List (ℕ × ℕ)) → Type 0
CallsAll {F} step f qs = (last : F) × FoldsTo (GoesThrough step) f qs last

-- the calls at the sequences before one succeed, and the call at that one returns this error
abbrev pub CallsUpTo : {F E : Type 0} → (F → Bor (List Utf8Range) → Result (Unit {0}) E → F → Type 0) → F → List (List (ℕ × ℕ)) → E → Type 0
CallsUpTo step f [] e = ⊥
CallsUpTo {F} step f (q ∷ qs) e = FailsCall step f q e ⊎ ((g : F) × GoesThrough step f q g × CallsUpTo step g qs e)
