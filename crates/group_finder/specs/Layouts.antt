-- Layouts: the offsets of the groups of a match whose span is known, with no search.
use Rattle.std.specs.Prelude.{◌≡◌, ℕ, zero, suc, ◌+◌, ◌-◌, ◌*◌, ◌<◌, ◌≤◌, ◌⊎◌, All, Bool, true, List, [], ◌∷◌, Option, Some, None, IfSome, IfNone, if◌then◌else◌, length, min, nat_lt, replicate, reverse, vec_len, slice_index, slice_set}
use Rattle.std.specs.declared.alloc.Global.{Global}
use Rattle.std.specs.declared.vec.Vec.{Vec}
use Rattle.regex_hir.specs.Re.{Re, Rest, Trace, accept, attempt}
use Rattle.regex_hir.specs.Find.{last_write}
use Rattle.regex_syntax.specs.declared.Config.{Config}
use Rattle.search_core.specs.ByteSets.{has}
use Rattle.group_finder.specs.Patterns.{IsParsedAs}
use Rattle.group_finder.specs.Slots.{no_offset}
use Rattle.group_finder.specs.declared.lengths.Lengths.{Lengths}
use Rattle.group_finder.specs.declared.layout.Ahead.{Ahead}
use Rattle.group_finder.specs.declared.steps.Step.{Step}
use Rattle.group_finder.specs.declared.steps.Step.TheVariants.{Skip, Run, Character, Rest as ToRest, Save}

-- ---- what steps write

-- The first of at most n offsets from this one on whose byte isn't in the set, or the offset after them.
unfoldable pub run_end : List Bool → List ℕ → ℕ → ℕ → ℕ
run_end set h zero at = at
run_end set h (suc n) at = if has set (slice_index h at) then run_end set h n (at + 1) else at

-- How many bytes a character has that starts with this byte.
abbrev pub width_by : ℕ → ℕ
width_by b = if nat_lt b 0x80 then 1 else if nat_lt b 0xE0 then 2 else if nat_lt b 0xF0 then 3 else 4

-- The offset after a step, from an offset on, in a match with this end.
abbrev pub after_step : List ℕ → ℕ → Step → ℕ → ℕ
after_step h end (Skip n) at = min (at + n) end
after_step h end (Run set) at = run_end set h (end - at) at
after_step h end Character at = min (at + width_by (slice_index h at)) end
after_step h end (ToRest n) at = end - n
after_step h end (Save slot) at = at

-- What a step writes: a slot and its offset.
abbrev pub step_writes : Step → ℕ → List (ℕ × ℕ) → List (ℕ × ℕ)
step_writes (Save slot) at ws = (slot, at) ∷ ws
step_writes (Skip n) at ws = ws
step_writes (Run set) at ws = ws
step_writes Character at ws = ws
step_writes (ToRest n) at ws = ws

-- The slot into which a step writes, if it does.
abbrev pub slot_of : Step → Option ℕ
slot_of (Save slot) = Some slot
slot_of (Skip n) = None
slot_of (Run set) = None
slot_of Character = None
slot_of (ToRest n) = None

-- What steps write, from an offset on, in a match with this end.
unfoldable pub steps_write : List ℕ → ℕ → List Step → ℕ → List (ℕ × ℕ)
steps_write h end [] at = []
steps_write h end (s ∷ steps) at = step_writes s at (steps_write h end steps (after_step h end s at))

-- Slots after these writes.
unfoldable pub written : List (ℕ × ℕ) → List ℕ → List ℕ
written [] slots = slots
written (w ∷ ws) slots = written ws (slice_set slots w.0 w.1)

-- The first n slots of a match of known span, by steps.
unfoldable pub slots_laid : List ℕ → List Step → ℕ → ℕ → ℕ → List ℕ
slots_laid h steps start end n = slice_set (slice_set (written (steps_write h end steps start) (replicate n no_offset)) 0 start) 1 end

-- In each match of the pattern, the steps write what the groups do.
pub record IsLayoutOf (a : Re) (steps : List Step) : Type 0 where
  pub writes : (h : List ℕ) → All (λ x. x < 256) h → (i : ℕ) (t : Trace) → attempt h a accept i ≡ Some t →
      last_write t.writes ≡ last_write (steps_write h t.end steps i)

-- These steps are a layout of a pattern, parsed under these options.
abbrev pub IsLaidBy : Config → List ℕ → List Step → Type 0
IsLaidBy config text steps = (a : Re) → IsParsedAs config text a → IsLayoutOf a steps

-- The bytes of a layout, if there is one: 264 for each step.
abbrev pub layout_bytes : Option (Vec Step Global) → ℕ
layout_bytes None = 0
layout_bytes (Some steps) = 264 * vec_len steps

-- ---- what a pattern without groups reads

-- What follows gives this trace from an offset. Up to there, bytes of the set were read, and as many as the lengths say.
pub record ReadsTo (h : List ℕ) (k : Rest) (i : ℕ) (t : Trace) (set : List Bool) (n : Lengths) : Type 0 where
  pub at : ℕ
  pub gave : k at ≡ Some t
  pub least : i + n.least ≤ at
  pub exact : n.fixed ≡ true → at ≡ i + n.least
  pub bytes : (x : ℕ) → i ≤ x → x < at → has set (slice_index h x) ≡ true

-- Whatever follows, the pattern reads bytes of the set alone, as many as the lengths say, and writes to no slot.
unfoldable pub Reads : Re → List Bool → Lengths → Type 0
Reads a set n = (h : List ℕ) → All (λ x. x < 256) h → (k : Rest) (i : ℕ) (t : Trace) → attempt h a k i ≡ Some t → ReadsTo h k i t set n

-- The pattern reads so, or it never matches.
abbrev pub MayRead : Re → List Bool → Option Lengths → Type 0
MayRead a set o = IfSome o (Reads a set) × IfNone o ((n : Lengths) → Reads a set n)

-- A set has all bytes of another one, and has marks for as many bytes.
pub record Widens (old new : List Bool) : Type 0 where
  pub same_length : length new ≡ length old
  pub stays : (b : ℕ) → has old b ≡ true → has new b ≡ true

-- No byte is in both sets.
abbrev pub AreApart : List Bool → List Bool → Type 0
AreApart a b = (x : ℕ) → x < 256 → has a x ≡ true → has b x ≡ true → ⊥

-- The first set is the second, or it has the first byte of each match.
abbrev pub Starts : Re → List Bool → List Bool → Type 0
Starts a first set = (first ≡ set) ⊎ ((h : List ℕ) → All (λ x. x < 256) h → (k : Rest) (i : ℕ) (t : Trace) →
    attempt h a k i ≡ Some t → has first (slice_index h i) ≡ true)

-- ---- how layouts are made

-- Each byte of the first set is in the second.
abbrev pub Covers : List Bool → List Bool → Type 0
Covers a b = (x : ℕ) → x < 256 → has a x ≡ true → has b x ≡ true

-- The set has the first byte, or it is the other set if there is none.
abbrev pub IsFirstByte : List ℕ → List Bool → List Bool → Type 0
IsFirstByte [] set first = first ≡ set
IsFirstByte (b ∷ bs) set first = b < 256 → has first b ≡ true

-- As many bytes as were known up to the end of the match, and so many more.
abbrev pub IsMore : Option ℕ → ℕ → Option ℕ → Type 0
IsMore old n new = IfSome new (λ m. (r : ℕ) × (old ≡ Some r) × (m ≡ r + n))

-- A step over what reads bytes of a set, as many as the lengths say, and how many bytes there are then up to the end of the match.
abbrev pub IsStepOver : Lengths → List Bool → Ahead → Step → Option ℕ → Type 0
IsStepOver n set a step rest =
    ((n.fixed ≡ true) × (step ≡ Skip n.least) × IsMore a.rest n.least rest)
    ⊎ (((c : ℕ) × (a.rest ≡ Some c) × (step ≡ ToRest c) × (rest ≡ None))
    ⊎ ((step ≡ Run set) × AreApart set a.follow × (rest ≡ None)))

-- What follows in a pattern fits what is known of it: it goes on to the end of the match, the steps write what it writes, and so on.
pub record Fits (h : List ℕ) (steps : List Step) (a : Ahead) (k : Rest) : Type 0 where
  pub forward : (j : ℕ) (u : Trace) → k j ≡ Some u → j ≤ u.end
  pub writes : (j : ℕ) (u : Trace) → k j ≡ Some u → u.writes ≡ steps_write h u.end steps j
  pub rest : (j : ℕ) (u : Trace) → k j ≡ Some u → (n : ℕ) → a.rest ≡ Some n → u.end ≡ j + n
  pub follow : (j : ℕ) (u : Trace) → k j ≡ Some u → j < u.end → has a.follow (slice_index h j) ≡ true

-- If what follows fits the old steps, which are listed from the last on, then the pattern and what follows fit the new ones.
unfoldable pub Lays : Re → List Step → Ahead → List Step → Ahead → Type 0
Lays a old ahead new next = (h : List ℕ) → All (λ x. x < 256) h → (k : Rest) → Fits h (reverse old) ahead k →
    Fits h (reverse new) next (attempt h a k)
