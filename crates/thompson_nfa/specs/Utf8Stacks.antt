-- A compiler of sequences of byte ranges: the path of the last sequence, whose states aren't made yet, and the states that
-- were made.
use Rattle.std.specs.Prelude.{◌≡◌, ◌⊎◌, ℕ, ◌+◌, ◌*◌, ◌<◌, ◌≤◌, List, [], ◌∷◌, ◌++◌, length, map, Option, Some, None, IsTrue}
use Rattle.nfa_core.specs.BuilderStates.{Assembly, draft_at, sparse_draft}
use Rattle.nfa_core.specs.Transitions.{range_of}
use Rattle.nfa_core.specs.declared.transition.Transition.{Transition}
use Rattle.nfa_core.specs.declared.build_error.BuildError.{BuildError}
use Rattle.thompson_nfa.specs.Added.{AddsDraft}
use Rattle.thompson_nfa.specs.RangeTries.{IsBefore}
use Rattle.thompson_nfa.specs.Refusals.{Stays}
use Rattle.thompson_nfa.specs.SlotTables.{SlotTable, held_at, is_ready}

-- a state of the path: its ranges that lead to states, and the last range, which leads on along the path, or to the end
pub record Stage : Type 0 where
  pub frozen : List (ℕ × ℕ × ℕ)
  pub last : ℕ × ℕ

-- all its ranges, with the last one leading to this state
abbrev pub frozen_with : ℕ → Stage → List (ℕ × ℕ × ℕ)
frozen_with next n = n.frozen ++ (n.last.0, n.last.1, next) ∷ []

-- a state that was never led on
abbrev pub fresh : ℕ × ℕ → Stage
fresh range = record { frozen = []; last = range }

-- it leads on, and another range is the last
abbrev pub advanced : ℕ → ℕ × ℕ → Stage → Stage
advanced next range n = record { frozen = frozen_with next n; last = range }

abbrev pub path_of : List Stage → List (ℕ × ℕ)
path_of ns = map (λ n. n.last) ns

-- each range starts after the one before it ends, and its bytes are below 256
abbrev pub RisesIn : ℕ → List (ℕ × ℕ × ℕ) → Type 0
RisesIn low [] = Unit {0}
RisesIn low ((start, end, next) ∷ others) = (low ≤ start) × (start ≤ end) × (end < 256) × RisesIn (end + 1) others

abbrev pub StagesRise : List Stage → Type 0
StagesRise [] = Unit {0}
StagesRise (n ∷ ns) = RisesIn 0 (frozen_with 0 n) × StagesRise ns

-- ranges of bytes, none of which is empty
abbrev pub AreBytes : List (ℕ × ℕ) → Type 0
AreBytes [] = Unit {0}
AreBytes (r ∷ rs) = (r.0 ≤ r.1) × (r.1 < 256) × AreBytes rs

-- the sequence comes after the path, if there is one
abbrev pub ComesAfter : List (ℕ × ℕ) → List (ℕ × ℕ) → Type 0
ComesAfter [] q = Unit {0}
ComesAfter (r ∷ p) q = IsBefore (r ∷ p) q

-- what the states of the nodes take, once they are made
abbrev pub open_bytes : List Stage → ℕ
open_bytes [] = 0
open_bytes (n ∷ ns) = 32 + 8 * length n.frozen + open_bytes ns

-- what is made at the end: a state without ranges if there is no node
abbrev pub left_bytes : List Stage → ℕ
left_bytes [] = 24
left_bytes (n ∷ ns) = open_bytes (n ∷ ns)

-- ---- states that were made

-- what a slot holds is a state after the end, with this content
abbrev pub HoldsState : Assembly → ℕ → Option (List Transition × ℕ) → Type 0
HoldsState b end None = Unit {0}
HoldsState b end (Some (key, id)) = (end < id) × (id < length b.drafts) × (draft_at b.drafts id ≡ sparse_draft (map range_of key))

-- the end is there, and all that the table keeps is too
pub record Keeps (b : Assembly) (end : ℕ) (table : SlotTable (List Transition)) : Type 0 where
  pub end_there : end < length b.drafts
  pub ready : IsTrue (is_ready table)
  pub kept : (at : ℕ) → HoldsState b end (held_at table at)

-- a state with this content is there: nothing was done, or it was added
pub record Compiles (old new : Assembly) (end : ℕ) (trans : List (ℕ × ℕ × ℕ)) (id : ℕ) : Type 0 where
  pub rises : RisesIn 0 trans
  pub behind : end < id
  pub there : id < length new.drafts
  pub here : draft_at new.drafts id ≡ sparse_draft trans
  pub how : (new ≡ old) ⊎ AddsDraft old new id (sparse_draft trans) old.groups

-- the state of the path's top node was made, whose last range leads to the next state
pub record MakesTop (old new : Assembly) (end : ℕ) (ns0 ns1 : List Stage) (next id : ℕ) : Type 0 where
  pub top : Stage
  pub split : ns0 ≡ ns1 ++ top ∷ []
  pub compiles : Compiles old new end (frozen_with next top) id

-- states were made for the last nodes of a path, from the top down; the last index is where the next one's last range leads
pub data Pops (end : ℕ) (b0 : Assembly) (ns0 : List Stage) : Assembly → List Stage → ℕ → Type 0 where
  pops_none : Pops end b0 ns0 b0 ns0 end
  pops_more : (b c : Assembly) (ns ms : List Stage) (next id : ℕ) → Pops end b0 ns0 b ns next → MakesTop b c end ns ms next id →
      Pops end b0 ns0 c ms id

-- the node at this index leads on, and has this last range now
pub record Turns (end : ℕ) (b0 b1 : Assembly) (ns0 ns1 : List Stage) (range : ℕ × ℕ) (at : ℕ) : Type 0 where
  pub stack : List Stage
  pub rest : List Stage
  pub top : Stage
  pub next : ℕ
  pub pops : Pops end b0 ns0 b1 stack next
  pub split : stack ≡ rest ++ top ∷ []
  pub place : length rest ≡ at
  pub rising : StagesRise stack
  pub is : ns1 ≡ rest ++ advanced next range top ∷ []

-- adding one more state fails, after those that were made
pub record PopsUntil (end : ℕ) (b0 new : Assembly) (ns0 : List Stage) (e : BuildError) : Type 0 where
  pub middle : Assembly
  pub stack : List Stage
  pub next : ℕ
  pub pops : Pops end b0 ns0 middle stack next
  pub stays : Stays middle new 1 2072 e

-- up to this index both are the same, and there the one ends before the other begins
pub record PartsAt (p q : List (ℕ × ℕ)) (at : ℕ) : Type 0 where
  pub before : List (ℕ × ℕ)
  pub one : ℕ × ℕ
  pub other : ℕ × ℕ
  pub one_rest : List (ℕ × ℕ)
  pub other_rest : List (ℕ × ℕ)
  pub one_is : p ≡ before ++ one ∷ one_rest
  pub other_is : q ≡ before ++ other ∷ other_rest
  pub place : length before ≡ at
  pub behind : one.1 < other.0
