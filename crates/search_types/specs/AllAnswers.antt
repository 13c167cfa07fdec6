-- The list of all answers, for any function that answers from an offset: what an iterator over a haystack's matches returns.
use Rattle.std.specs.Prelude.{◌≡◌, ℕ, zero, suc, ◌+◌, ◌-◌, ◌<◌, ◌≤◌, ◌&&◌, Bool, false, List, [], ◌∷◌, Option, Some, None, if◌then◌else◌}
use Rattle.std.specs.Prelude.{nat_eq}
use Rattle.search_types.specs.Found.{Found}

-- an answer that is empty at the end of the last one
abbrev pub is_repeat : Option ℕ → Option Found → Bool
is_repeat None f = false
is_repeat (Some last) None = false
is_repeat (Some last) (Some f) = nat_eq f.start f.end && nat_eq f.end last

-- the answer and what follows it, or nothing
abbrev pub and_on : Option Found → (Found → List Found) → List Found
and_on None on = []
and_on (Some f) on = f ∷ on f

-- the next answer from the current offset; if it is empty at the last end, the answer from the next offset instead
abbrev pub next_answer : (ℕ → Option Found) → Option ℕ → ℕ → Option Found
next_answer answer last at = if is_repeat last (answer at) then answer (at + 1) else answer at

-- at most n answers from the current offset; each end is the last end and the current offset for what follows
abbrev pub answers_from : (ℕ → Option Found) → ℕ → Option ℕ → ℕ → List Found
answers_from answer zero last at = []
answers_from answer (suc n) last at = and_on (next_answer answer last at) (λ f. answers_from answer n (Some f.end) f.end)

-- All answers from s to e. Since their ends rise, there are at most as many as offsets.
abbrev pub all_answers : (ℕ → Option Found) → ℕ → ℕ → List Found
all_answers answer s e = answers_from answer (e + 2 - s) None s

-- an answer function for offsets up to e: an answer starts at or after the offset that was asked, and ends between its start
-- and e
pub record AnswersWithin (answer : ℕ → Option Found) (e : ℕ) : Type 0 where
  pub starts : (s : ℕ) (f : Found) → answer s ≡ Some f → s ≤ f.start
  pub ends : (s : ℕ) (f : Found) → answer s ≡ Some f → f.start ≤ f.end
  pub within : (s : ℕ) (f : Found) → answer s ≡ Some f → f.end ≤ e

-- each end in the list is above the one before, and the first above the given offset if there is one
abbrev pub EndsRise : Option ℕ → List Found → Type 0
EndsRise last [] = Unit {0}
EndsRise None (f ∷ fs) = EndsRise (Some f.end) fs
EndsRise (Some last) (f ∷ fs) = (last < f.end) × EndsRise (Some f.end) fs
