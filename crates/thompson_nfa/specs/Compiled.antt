-- What a call of the compiler adds to a builder's states: a fragment with a start, and an end that is led on later.
use Rattle.std.specs.Prelude.{◌≡◌, ◌≢◌, ◌⊎◌, ℕ, zero, suc, ◌+◌, ◌*◌, ◌<◌, ◌≤◌, nat_lt, Bool, true, false, ◌||◌, List, length, All, Option}
use Rattle.std.specs.Prelude.{Some, None}
use Rattle.std.specs.List.{sum_by, list_any}
use Rattle.search_core.specs.Index.{greatest_index}
use Rattle.look_core.specs.declared.look.Look.{Look}
use Rattle.look_core.specs.Codes.{repr, reversed}
use Rattle.look_core.specs.LookSets.{has_look}
use Rattle.hir_core.specs.Tree.{Tree, empty, literal, byte_class, char_class, look, repetition, capture, nothing, cat, never, alt}
use Rattle.nfa_core.specs.BuilderStates.{DraftNode, look_draft, match_draft, Assembly, draft_at, patched, draft_bytes, way_bytes, is_sparse}
use Rattle.nfa_core.specs.Renaming.{stands_for, going_on}
use Rattle.nfa_core.specs.CanBuild.{names_of, is_known}
use Rattle.nfa_core.specs.Drafted.{Table}
use Rattle.thompson_nfa.specs.Denotes.{Denotes}
use Rattle.thompson_nfa.specs.declared.which_captures.WhichCaptures.{WhichCaptures}
use Rattle.thompson_nfa.specs.declared.which_captures.WhichCaptures.TheVariants as which

-- a pattern was begun, and if the automaton reads in reverse, no groups are kept
pub record IsReady (kept : WhichCaptures) (b : Assembly) : Type 0 where
  pub in_pattern : b.is_open ≡ true
  pub forward : b.reverse ≡ true → kept ≡ which.None

-- states and groups were added, and all else is as it was; groups that were there are still
pub record Grows (old new : Assembly) : Type 0 where
  pub settings : new ≡ record old { drafts = new.drafts; groups = new.groups }
  pub longer : length old.drafts ≤ length new.drafts
  pub same : (q : ℕ) → q < length old.drafts → draft_at new.drafts q ≡ draft_at old.drafts q
  pub known : (draft : DraftNode) → is_known old.groups draft ≡ true → is_known new.groups draft ≡ true

-- the finished table has the states from `low` on as they are, but for the one that is led on later
abbrev pub Finishes : ℕ → List DraftNode → ℕ → Table → Type 0
Finishes low drafts end table = (q : ℕ) → low ≤ q → q < length drafts → q ≢ end → table q ≡ draft_at drafts q

-- the state that is met after so many states that stand for others
abbrev pub past_in : Table → ℕ → ℕ → ℕ
past_in table zero q = q
past_in table (suc n) q = going_on q (past_in table n) (stands_for (table q))

-- from state q, states that stand for others lead to a state that stands for itself, or to the target
abbrev pub ComesOut : Table → ℕ → ℕ → Type 0
ComesOut table target q = (n : ℕ) × ((stands_for (table (past_in table n q)) ≡ None) ⊎ (past_in table n q ≡ target))

-- `ComesOut` holds for each state from `low` on and below `high`
abbrev pub AllComeOut : Table → ℕ → ℕ → ℕ → Type 0
AllComeOut table target low high = (q : ℕ) → low ≤ q → q < high → ComesOut table target q

abbrev pub is_match_draft : DraftNode → Bool
is_match_draft (match_draft pattern) = true
is_match_draft _ = false

-- a match is barred, and so is a look if states are plain
abbrev pub is_barred : Bool → DraftNode → Bool
is_barred plain (match_draft pattern) = true
is_barred plain (look_draft l next) = plain
is_barred plain _ = false

-- the state names states that are there, its group is noted, and it is no match, nor a look if states are plain
pub record IsTame (plain : Bool) (b : Assembly) (draft : DraftNode) : Type 0 where
  pub named : All (λ q. q < length b.drafts) (names_of draft)
  pub known : is_known b.groups draft ≡ true
  pub not_barred : is_barred plain draft ≡ false

-- `IsTame` holds for each state from `low` on
abbrev pub AllTame : Bool → ℕ → Assembly → Type 0
AllTame plain low b = (q : ℕ) → low ≤ q → q < length b.drafts → IsTame plain b (draft_at b.drafts q)

-- whether a length is known, and above 0
abbrev pub is_above_zero : Option ℕ → Bool
is_above_zero None = false
is_above_zero (Some n) = nat_lt 0 n

-- whether the state has the look
abbrev pub is_look : Look → DraftNode → Bool
is_look l (look_draft m next) = has_look (repr m) l
is_look l _ = false

-- whether one of the states has it
abbrev pub looks_in : List DraftNode → Look → Bool
looks_in drafts l = list_any (is_look l) drafts

-- the look that holds where this one does, when reading forward or in reverse
abbrev pub turned : Bool → Look → Look
turned false l = l
turned true l = reversed l

-- whether the look is met in the tree when reading forward or in reverse; repetitions of no rounds have none
abbrev pub uses : Bool → Tree → Look → Bool
uses back empty l = false
uses back (literal bytes) l = false
uses back (byte_class ranges) l = false
uses back (char_class ranges) l = false
uses back (look m) l = has_look (repr (turned back m)) l
uses back (repetition min (Some zero) greedy x) l = false
uses back (repetition min most greedy x) l = uses back x l
uses back (capture index name x) l = uses back x l
uses back nothing l = false
uses back (cat x y) l = uses back x l || uses back y l
uses back never l = false
uses back (alt x y) l = uses back x l || uses back y l

-- whether one of the trees does
abbrev pub any_uses : Bool → List Tree → Look → Bool
any_uses back xs l = list_any (λ x. uses back x l) xs

abbrev pub sum_of_bytes : Assembly → ℕ
sum_of_bytes b = sum_by draft_bytes b.drafts

-- the states that were added, and the ways that they lead, take so many bytes at most
abbrev pub Weighs : Assembly → Assembly → ℕ → Type 0
Weighs old new bytes = sum_of_bytes new ≤ sum_of_bytes old + bytes

-- the bytes that one more way of the state takes
abbrev pub way_at : Assembly → ℕ → ℕ
way_at b q = way_bytes (draft_at b.drafts q)

-- What was added takes so many bytes at least and at most, with the way by which its end is led on.
pub record TakesBytes (old new : Assembly) (end low high : ℕ) : Type 0 where
  pub least : sum_of_bytes old + low ≤ sum_of_bytes new + way_at new end
  pub most : sum_of_bytes new + way_at new end ≤ sum_of_bytes old + high

-- What was added and isn't led on takes so many bytes at least and at most.
pub record TakesInAll (old new : Assembly) (low high : ℕ) : Type 0 where
  pub least : sum_of_bytes old + low ≤ sum_of_bytes new
  pub most : sum_of_bytes new ≤ sum_of_bytes old + high

-- where the fragment is
pub record IsFragment (old new : Assembly) (start end : ℕ) : Type 0 where
  pub grows : Grows old new
  pub start_new : length old.drafts ≤ start
  pub start_there : start < length new.drafts
  pub end_new : length old.drafts ≤ end
  pub end_there : end < length new.drafts
  pub can_be_led_on : is_sparse (draft_at new.drafts end) ≡ false

-- At most n states were added, with 4096 bytes for each and eight less for all; there are names for all states.
pub record TakesAtMost (old new : Assembly) (n : ℕ) : Type 0 where
  pub states : length new.drafts ≤ length old.drafts + n
  pub bytes : sum_of_bytes new + 8 + 4096 * length old.drafts ≤ sum_of_bytes old + 4096 * length new.drafts
  pub numbered : length new.drafts ≤ greatest_index + 1

-- The finished table has the fragment's states from `low` on, with its end led on to the target.
pub record Finished (low : ℕ) (drafts : List DraftNode) (end target : ℕ) (table : Table) : Type 0 where
  pub states : Finishes low drafts end table
  pub led : table end ≡ patched target (draft_at drafts end)

-- A fragment of n states at most. Once its end is led on to a target, no states that stand for others go round in it.
pub record Makes (old new : Assembly) (start end n : ℕ) : Type 0 where
  pub fragment : IsFragment old new start end
  pub comes_out : (table : Table) (target : ℕ) → Finished (length old.drafts) new.drafts end target table →
      AllComeOut table target (length old.drafts) (length new.drafts)
  pub tame : AllTame false (length old.drafts) new
  pub within : TakesAtMost old new n

-- Once its end is led on to a target, the fragment does what the tree means on the way from its start to there.
pub record Does (old new : Assembly) (start end : ℕ) (x : Tree) : Type 0 where
  pub denotes : (table : Table) (target : ℕ) → Finished (length old.drafts) new.drafts end target table →
      Denotes old.reverse table start target x
  pub looks : (l : Look) → looks_in new.drafts l ≡ (looks_in old.drafts l || uses old.reverse x l)

-- What the fragment does if something is still to do after it: once `rest` is done from the target, `whole` is done from the
-- start.
pub record DoesFirst (old new : Assembly) (start end : ℕ) (rest whole : Tree) : Type 0 where
  pub before : (table : Table) (target : ℕ) → Finished (length old.drafts) new.drafts end target table → (last : ℕ) →
      Denotes old.reverse table target last rest →
      Denotes old.reverse table start last whole
  pub looks : (l : Look) → (looks_in new.drafts l || uses old.reverse rest l) ≡ (looks_in old.drafts l || uses old.reverse whole l)

-- the bound with n more rounds
abbrev pub raised : ℕ → Option ℕ → Option ℕ
raised n None = None
raised n (Some most) = Some (n + most)

-- n rounds of the tree are done before the others of a repetition
pub record DoesCopies (old new : Assembly) (start end n : ℕ) (x : Tree) : Type 0 where
  pub before : (min : ℕ) (most : Option ℕ) (greedy : Bool) → DoesFirst old new start end (repetition min most greedy x)
      (repetition (n + min) (raised n most) greedy x)

-- one more round of the tree may come before the others, or all of them are skipped on the way to the exit
pub record DoesOption (old new : Assembly) (start end exit : ℕ) (greedy : Bool) (x : Tree) : Type 0 where
  pub before : (table : Table) (target : ℕ) → Finished (length old.drafts) new.drafts end target table → (left : ℕ) →
      Denotes old.reverse table target exit (repetition 0 (Some left) greedy x) →
      Denotes old.reverse table start exit (repetition 0 (Some (suc left)) greedy x)
  pub looks : (l : Look) (left : ℕ) →
      (looks_in new.drafts l || uses old.reverse (repetition 0 (Some left) greedy x) l) ≡ (looks_in old.drafts l || uses old.reverse x l)
