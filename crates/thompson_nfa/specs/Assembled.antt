-- What a builder has when all patterns are compiled, before the automaton is built.
use Rattle.std.specs.Prelude.{◌≡◌, ◌≢◌, ◌⊎◌, ℕ, suc, ◌+◌, ◌*◌, ◌<◌, ◌≤◌, Bool, true, false, ◌&&◌, List, [], ◌∷◌, length, All}
use Rattle.search_core.specs.Index.{greatest_index}
use Rattle.look_core.specs.declared.look.Look.{Look}
use Rattle.hir_core.specs.Tree.{Tree}
use Rattle.nfa_core.specs.BuilderStates.{DraftNode, Assembly, empty_draft, sparse_draft, union_draft, union_reverse_draft, fail_draft}
use Rattle.nfa_core.specs.BuilderStates.{match_draft, draft_at}
use Rattle.nfa_core.specs.CanBuild.{CanBuild}
use Rattle.nfa_core.specs.Drafted.{Table}
use Rattle.thompson_nfa.specs.Configs.{Options, utf8_of, reverse_of, limit_of, captures_of, terminator_of, is_any, is_shrunk}
use Rattle.thompson_nfa.specs.Denotes.{Denotes}
use Rattle.thompson_nfa.specs.NotedGroups.{noted_from}
use Rattle.thompson_nfa.specs.Compiled.{sum_of_bytes, looks_in, any_uses}
use Rattle.thompson_nfa.specs.Compilations.{is_anchored_tree}
use Rattle.thompson_nfa.specs.Room.{list_room}

-- from state s the table does what the tree means on the way to a state in which pattern p matches
pub record Accepts (reverse : Bool) (table : Table) (s p : ℕ) (x : Tree) : Type 0 where
  pub end : ℕ
  pub matches : table end ≡ match_draft p
  pub denotes : Denotes reverse table s end x

-- each tree from pattern p on has its start
abbrev pub AcceptAll : Bool → Table → ℕ → List ℕ → List Tree → Type 0
AcceptAll reverse table p [] [] = Unit {0}
AcceptAll reverse table p (s ∷ starts) (x ∷ xs) = Accepts reverse table s p x × AcceptAll reverse table (suc p) starts xs
AcceptAll reverse table p [] (x ∷ xs) = ⊥
AcceptAll reverse table p (s ∷ starts) [] = ⊥

-- the state leads to all these starts, the first ones preferred: it is the only one, a union of them, or leads nowhere
abbrev pub LeadsToAll : Table → ℕ → List ℕ → Type 0
LeadsToAll table c starts = (starts ≡ c ∷ []) ⊎ ((table c ≡ union_draft starts) ⊎ ((starts ≡ []) × (table c ≡ fail_draft)))

-- the state u goes on to c at once, or else reads a byte, whichever it is, and comes back to itself
pub record TriesEachOffset (table : Table) (u c : ℕ) : Type 0 where
  pub byte : ℕ
  pub back : ℕ
  pub loop : table u ≡ union_reverse_draft (byte ∷ c ∷ [])
  pub any : table byte ≡ sparse_draft ((0, 255, back) ∷ [])
  pub again : table back ≡ empty_draft u

-- whether all trees are anchored
abbrev pub AllAnchored : Bool → List Tree → Type 0
AllAnchored reverse xs = All (λ x. is_anchored_tree reverse x ≡ true) xs

-- if all trees are anchored, the unanchored start comes to the anchored one as the state that stands for it, and otherwise at
-- each offset
abbrev pub ComesBefore : Bool → List Tree → Table → ℕ → ℕ → Type 0
ComesBefore reverse xs table u c = (AllAnchored reverse xs × (table u ≡ empty_draft c)) ⊎
    ((AllAnchored reverse xs → ⊥) × TriesEachOffset table u c)

-- what the patterns do depends neither on states below `low` nor on one hole: the state that leads to them, if it isn't the start
-- of the only one
pub record IsIndependent (reverse : Bool) (low first : ℕ) (drafts : List DraftNode) (c : ℕ) (starts : List ℕ)
    (xs : List Tree) : Type 0 where
  pub hole : ℕ
  pub hole_is : (hole ≡ c) ⊎ (starts ≡ c ∷ [])
  pub accept : (table : Table) → ((q : ℕ) → low ≤ q → q < length drafts → q ≢ hole → table q ≡ draft_at drafts q) →
      AcceptAll reverse table first starts xs

pub record IsAssembled (o : Options) (xs : List Tree) (b : Assembly) (anchored unanchored : ℕ) : Type 0 where
  pub utf8 : b.utf8 ≡ utf8_of o
  pub reverse : b.reverse ≡ reverse_of o
  pub terminator : b.terminator ≡ terminator_of o
  pub size_limit : b.size_limit ≡ limit_of o
  pub captures : (reverse_of o && is_any (captures_of o)) ≡ false
  pub can_build : CanBuild b anchored unanchored
  pub accept : AcceptAll (reverse_of o) (draft_at b.drafts) 0 b.starts xs
  pub leads : LeadsToAll (draft_at b.drafts) anchored b.starts
  pub before : ComesBefore (reverse_of o) xs (draft_at b.drafts) unanchored anchored
  -- what precedes the patterns is below `low`, and what leads to them isn't
  pub low : ℕ
  pub below : unanchored < low
  pub above : low ≤ anchored
  pub free : IsIndependent (reverse_of o) low 0 b.drafts anchored b.starts xs
  pub one_match : (q r p : ℕ) → draft_at b.drafts q ≡ match_draft p → draft_at b.drafts r ≡ match_draft p → q ≡ r
  pub groups : b.groups ≡ noted_from (captures_of o) 0 xs []
  pub looks : (l : Look) → looks_in b.drafts l ≡ any_uses (reverse_of o) xs l
  pub states : length b.drafts ≤ list_room (is_shrunk o) xs
  pub bytes : sum_of_bytes b ≤ 4096 * list_room (is_shrunk o) xs
  -- so the count of bytes doesn't stop at its largest number
  pub counted : sum_of_bytes b ≤ 4096 * (greatest_index + 1)
