-- Answers one after the other, if all that is known of a search is a relation between the offset from which it is asked and
-- its answer. The next search is from the end of the last answer. An empty answer there is a repeat, and the answer from the
-- next offset is taken instead.
use Rattle.std.specs.Prelude.{◌≡◌, ℕ, ◌+◌, ◌≤◌, Bool, true, false, List, [], ◌∷◌, Option, Some, None}
use Rattle.search_types.specs.Found.{Found}
use Rattle.search_types.specs.AllAnswers.{is_repeat}

-- what is taken if the answer is o: o itself or, if o is a repeat, the answer from the next offset
abbrev pub IsTaken : (ℕ → Option Found → Type 0) → ℕ → Option Found → Bool → Option Found → Type 0
IsTaken answers at o false taken = taken ≡ o
IsTaken answers at o true taken = answers (at + 1) taken

-- what is taken at the current offset, with the end of the last answer, if there was one
abbrev pub IsNextTaken : (ℕ → Option Found → Type 0) → Option ℕ → ℕ → Option Found → Type 0
IsNextTaken answers last at taken = (o : Option Found) × answers at o × IsTaken answers at o (is_repeat last o) taken

-- these are taken one after the other
abbrev pub IsTakenList : (ℕ → Option Found → Type 0) → Option ℕ → ℕ → List Found → Type 0
IsTakenList answers last at [] = Unit {0}
IsTakenList answers last at (f ∷ fs) = IsNextTaken answers last at (Some f) × IsTakenList answers (Some f.end) f.end fs

-- and then nothing more
abbrev pub IsWholeTakenList : (ℕ → Option Found → Type 0) → Option ℕ → ℕ → List Found → Type 0
IsWholeTakenList answers last at [] = IsNextTaken answers last at None
IsWholeTakenList answers last at (f ∷ fs) = IsNextTaken answers last at (Some f) × IsWholeTakenList answers (Some f.end) f.end fs

-- the relation gives the function's answer, from each offset from which a search up to e may be asked, `low` being the first
abbrev pub ReportsResults : (ℕ → Option Found → Type 0) → (ℕ → Option Found) → ℕ → ℕ → Type 0
ReportsResults answers answer low e = (s : ℕ) (o : Option Found) → low ≤ s → s ≤ e + 1 → answers s o → o ≡ answer s
