-- The automaton that trees are compiled to: what its runs find, in which order, and how great it is.
use Rattle.std.specs.Prelude.{◌*◌, ◌≡◌, ◌↔◌, ℕ, suc, ◌-◌, ◌<◌, ◌≤◌, min, Bool, true, false, ◌&&◌, ◌==◌, List, [], ◌∷◌, ◌++◌, map}
use Rattle.std.specs.Prelude.{length, slice_get, get_or, All, Some, MatchOption, ⊤}
use Rattle.std.specs.List.{flat_map, list_any, list_all}
use Rattle.search_types.specs.FirstFound.{offsets_from}
use Rattle.look_core.specs.declared.look.Look.{Look}
use Rattle.look_core.specs.declared.look.Look.TheVariants.{Start, End}
use Rattle.look_core.specs.LookSets.{has_look}
use Rattle.hir_core.specs.Tree.{Tree}
use Rattle.hir_core.specs.Means.{Means}
use Rattle.hir_core.specs.PreferredEnds.{preferred_ends}
use Rattle.hir_core.specs.Facts.{LoopsRead, look_set_prefix, look_set_suffix, looks_used}
use Rattle.nfa_core.specs.Walks.{Has, HasNoneTwice, distinct}
use Rattle.nfa_core.specs.Runs.{IsChain}
use Rattle.nfa_core.specs.Places.{same_pair}
use Rattle.nfa_core.specs.Nfa.{match_node, Automaton, node_at}
use Rattle.nfa_core.specs.NfaValue.{Nfa, has_empty, is_capture, memory_of, looks_of}
use Rattle.nfa_core.specs.Ways.{Text, ways, ends_from}
use Rattle.thompson_nfa.specs.Configs.{Options, utf8_of, reverse_of, limit_of, captures_of, terminator_of, is_any, is_shrunk}
use Rattle.thompson_nfa.specs.Compiled.{turned}
use Rattle.thompson_nfa.specs.Denotes.{seen, IsMeant}
use Rattle.thompson_nfa.specs.NotedGroups.{noted_from}
use Rattle.thompson_nfa.specs.ByteRoom.{Bound, at_least}
use Rattle.thompson_nfa.specs.ListBytes.{compile_bytes}
use Rattle.thompson_nfa.specs.Room.{list_room}

-- pattern p, with the end e, is a choice at offset i: its tree is one that leads from i to e
abbrev pub IsChoice : Bool → List Tree → Text → ℕ → ℕ × ℕ → Type 0
IsChoice reverse xs t i e = (x : Tree) × (slice_get xs e.1 ≡ Some x) × IsMeant reverse t x i e.0

-- the choices at offset i, reading forward: patterns in order, from pattern p on, each one's ends in order
abbrev pub choices_from : ℕ → List Tree → Text → ℕ → List (ℕ × ℕ)
choices_from p [] t i = []
choices_from p (x ∷ xs) t i = map (λ j. (j, p)) (preferred_ends t.holds (seen t) x i) ++ choices_from (suc p) xs t i

-- reading from offset i may come to offset k
abbrev pub IsReadTo : Bool → Text → ℕ → ℕ → Type 0
IsReadTo false t i k = (i ≤ k) × (k ≤ t.end)
IsReadTo true t i k = (k ≤ i) × (min i t.start ≤ k)

-- each span of the tree begins, or in reverse ends, at the haystack's edge, as far as its looks show
abbrev pub is_anchored_tree : Bool → Tree → Bool
is_anchored_tree false x = has_look (look_set_prefix x) Start
is_anchored_tree true x = has_look (look_set_suffix x) End

abbrev pub pattern_start : Automaton → ℕ → ℕ
pattern_start a p = get_or a.start_pattern p 0

-- how many bytes the states of a compile of the trees take, at least or at most
abbrev pub bytes_needed : Bound → Options → List Tree → ℕ
bytes_needed b o xs = compile_bytes b (captures_of o) (list_all (is_anchored_tree (reverse_of o)) xs) xs

-- a text of bytes that ends in its haystack, and whose looks at the haystack's edges are read as they are
pub record IsPlainText (t : Text) : Type 0 where
  pub within : t.end ≤ length t.haystack
  pub bytes : All (λ byte. byte < 256) t.haystack
  pub at_start : (i : ℕ) → t.holds Start i ≡ (i == 0)
  pub at_end : (i : ℕ) → t.holds End i ≡ (i == length t.haystack)

-- What the runs of the automaton find, from each of its starts. From the unanchored one they may begin at each offset that is
-- read to; the text is then one of bytes whose edges are read as they are.
pub record FindsSpans (reverse : Bool) (xs : List Tree) (n : Nfa) : Type 0 where
  pub patterns : (p : ℕ) (x : Tree) → slice_get xs p ≡ Some x → (t : Text) (i : ℕ) (e : ℕ × ℕ) → i ≤ t.end →
      Has same_pair e (ends_from n.automaton t (i, pattern_start n.automaton p)) ↔ ((e.1 ≡ p) × IsMeant reverse t x i e.0)
  pub anchored : (t : Text) (i : ℕ) (e : ℕ × ℕ) → i ≤ t.end →
      Has same_pair e (ends_from n.automaton t (i, n.automaton.start_anchored)) ↔ IsChoice reverse xs t i e
  pub unanchored : (t : Text) (i : ℕ) (e : ℕ × ℕ) → IsPlainText t → t.start ≤ i → i ≤ t.end →
      Has same_pair e (ends_from n.automaton t (i, n.automaton.start_unanchored))
      ↔ ((k : ℕ) × IsReadTo reverse t i k × IsChoice reverse xs t k e)

-- In which order they find them when reading forward, if the body of every unbounded repetition in all trees consumes at least
-- one byte.
pub record FindsInOrder (xs : List Tree) (n : Nfa) : Type 0 where
  pub patterns : (p : ℕ) (x : Tree) → slice_get xs p ≡ Some x → LoopsRead x → (t : Text) (i : ℕ) → i ≤ t.end →
      ends_from n.automaton t (i, pattern_start n.automaton p) ≡
      distinct same_pair (map (λ j. (j, p)) (preferred_ends t.holds (seen t) x i))
  pub anchored : All LoopsRead xs → (t : Text) (i : ℕ) → i ≤ t.end →
      ends_from n.automaton t (i, n.automaton.start_anchored) ≡ distinct same_pair (choices_from 0 xs t i)
  pub unanchored : All LoopsRead xs → (t : Text) (i : ℕ) → IsPlainText t → t.start ≤ i → i ≤ t.end →
      ends_from n.automaton t (i, n.automaton.start_unanchored)
      ≡ distinct same_pair (flat_map (choices_from 0 xs t) (offsets_from i (suc t.end - i)))

-- No chain from the unanchored start comes to a pair twice, so there are no loops of states that consume nothing.
abbrev pub HasNoReturn : Nfa → Type 0
HasNoReturn n = (t : Text) (i : ℕ) (r : List (ℕ × ℕ)) → i ≤ t.end → IsChain same_pair (ways n.automaton t) (
  i,
  n.automaton.start_unanchored,
) r →
    HasNoneTwice same_pair ((i, n.automaton.start_unanchored) ∷ r)

-- Whatever bodies of repetitions consume, the anchored start leads to those of the patterns, one after the other. When reading
-- forward, the unanchored one leads to the anchored one at one offset after the other.
pub record HasStarts (reverse : Bool) (count : ℕ) (n : Nfa) : Type 0 where
  pub anchored : (t : Text) (i : ℕ) → i ≤ t.end → ends_from n.automaton t (i, n.automaton.start_anchored)
      ≡ distinct same_pair (flat_map (λ p. ends_from n.automaton t (i, pattern_start n.automaton p)) (offsets_from 0 count))
  pub unanchored : reverse ≡ false → (t : Text) (i : ℕ) → IsPlainText t → t.start ≤ i → i ≤ t.end →
      ends_from n.automaton t (i, n.automaton.start_unanchored)
      ≡ distinct same_pair (flat_map (λ k. ends_from n.automaton t (k, n.automaton.start_anchored)) (offsets_from i (suc t.end - i)))

-- there is one state in which the pattern matches
abbrev pub HasOneMatch : Automaton → ℕ → Type 0
HasOneMatch a p = (q : ℕ) × (node_at a q ≡ match_node p) × ((r : ℕ) → node_at a r ≡ match_node p → r ≡ q)

-- the automaton that these trees are compiled to, under these options
pub record IsCompiled (o : Options) (xs : List Tree) (n : Nfa) : Type 0 where
  pub utf8 : n.utf8 ≡ utf8_of o
  pub reverse : n.automaton.reverse ≡ reverse_of o
  pub terminator : n.terminator ≡ terminator_of o
  pub captures : (reverse_of o && is_any (captures_of o)) ≡ false
  pub patterns : length n.automaton.start_pattern ≡ length xs
  pub groups : n.groups ≡ noted_from (captures_of o) 0 xs []
  -- no state is one of a group where none is kept
  pub no_captures : is_any (captures_of o) ≡ false → list_any is_capture n.automaton.states ≡ false
  pub spans : FindsSpans (reverse_of o) xs n
  pub order : reverse_of o ≡ false → FindsInOrder xs n
  pub no_return : All LoopsRead xs → HasNoReturn n
  pub matches : (p : ℕ) → p < length xs → HasOneMatch n.automaton p
  pub empty : (has_empty n.automaton ≡ true) ↔ ((p : ℕ) × (x : Tree) × (slice_get xs p ≡ Some x) × Means (λ l i. true) [] x 0 0)
  pub always_anchored : (n.automaton.start_anchored ≡ n.automaton.start_unanchored) ↔ All (λ x. is_anchored_tree (reverse_of o) x ≡ true) xs
  pub states : length n.automaton.states ≤ list_room (is_shrunk o) xs
  pub bytes : memory_of n.automaton.states ≤ 4096 * list_room (is_shrunk o) xs
  pub looks : (l : Look) → has_look (looks_of n.automaton.states) l ≡ list_any (λ x. has_look (looks_used x) (turned (reverse_of o) l)) xs
  pub starts : HasStarts (reverse_of o) (length xs) n
  -- the states are within the limit, and so is what it takes to make them
  pub limit : MatchOption (limit_of o) ⊤ (λ most. (memory_of n.automaton.states ≤ most) × (bytes_needed at_least o xs ≤ most))
