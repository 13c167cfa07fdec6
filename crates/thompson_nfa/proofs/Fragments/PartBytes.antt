-- The bytes of parts, and of rounds.
use Rattle.std.proofs.Common.{◌≡◌, ℕ, zero, suc, ◌+◌, ◌-◌, ◌*◌, ◌<◌, ◌≤◌, Bool, true, false, ◌&&◌, List, [], ◌∷◌, ◌++◌, length, take}
use Rattle.std.proofs.Common.{drop, get_or, refl, sym, ap, ◌∙◌, arith, nat_lt, if◌then◌else◌}
use Rattle.std.specs.List.{list_all}
use Rattle.std.proofs.lemmas.Bool.{le-leb, lt-ltb, le-ltb}
use Rattle.hir_core.specs.Tree.{Tree, concat, alternation}
use Rattle.thompson_nfa.specs.ByteRoom.{Bound, tree_bytes, has_literals, is_choice, literals_bytes}
use Rattle.thompson_nfa.specs.ByteRoom.{group_bytes, loop_bytes, at_least_bytes, rounds_bytes, between_bytes}
use Rattle.thompson_nfa.specs.LiteralParts.{is_literal, are_literals}
use Rattle.thompson_nfa.specs.NotedGroups.{keeps_group}
use Rattle.thompson_nfa.specs.Turned.{turned_position, left_after}
use Rattle.thompson_nfa.specs.declared.which_captures.WhichCaptures.{WhichCaptures}
use Rattle.thompson_nfa.proofs.Fragments.TurnLemmas.{first_left, last_left}

module _ (b : Bound) (which : WhichCaptures) where
  -- the bytes that the trees take together, with so many more for each
  abbrev pub part_bytes : ℕ → List Tree → ℕ
  part_bytes more [] = 0
  part_bytes more (x ∷ xs) = tree_bytes b which false x + more + part_bytes more xs

  bytes_push : (more : ℕ) (xs : List Tree) (y : Tree) →
      part_bytes more (xs ++ y ∷ []) ≡ part_bytes more xs + (tree_bytes b which false y + more)
  bytes_push more [] y = omega arith
  bytes_push more (x ∷ xs) y = let e = bytes_push more xs y in omega arith

  pub left_bytes : (more : ℕ) (back : Bool) (xs : List Tree) (i : ℕ) (x : Tree) → i < length xs →
      x ≡ get_or xs (turned_position back i (length xs)) x →
      part_bytes more (left_after back i xs) ≡ tree_bytes b which false x + more + part_bytes more (left_after back (i + 1) xs)
  left_bytes more false xs i x l e = ap (part_bytes more) (first_left xs i x x l e)
  left_bytes more true xs i x l e = let p = bytes_push more (take (length xs - (i + 1)) xs) x in
      ap (part_bytes more) (last_left xs i x x l e) ∙ omega arith

  -- parts after a first one
  parts_behind : (xs : List Tree) → tree_bytes b which true (concat xs) ≡ part_bytes 0 xs
  parts_behind [] = refl
  parts_behind (x ∷ xs) = omega (arith, parts_behind xs)

  pub bytes_of_concat : (xs : List Tree) → 0 < length xs → tree_bytes b which false (concat xs) ≡ part_bytes 0 xs
  bytes_of_concat [] some = absurd (omega arith)
  bytes_of_concat (x ∷ xs) some = omega (arith, parts_behind xs)

  -- ---- alternations

  others_behind : (xs : List Tree) → tree_bytes b which true (alternation xs) ≡ part_bytes 4 xs + 48
  others_behind [] = refl
  others_behind (x ∷ xs) = omega (arith, others_behind xs)

  abbrev pub if_choice : Bool → Tree → Tree → List Tree → ℕ
  if_choice shared x y xs = if shared then literals_bytes b (alternation (x ∷ y ∷ xs))
      else (tree_bytes b which false x + 4 + tree_bytes b which true (alternation (y ∷ xs)))

  -- two parts at least
  two_parts : (x y : Tree) (xs : List Tree) →
      tree_bytes b which false (alternation (x ∷ y ∷ xs)) ≡ if_choice (is_choice x (alternation (y ∷ xs))) x y xs
  two_parts x y xs = refl

  all_literals : (xs : List Tree) → list_all is_literal xs ≡ has_literals (alternation xs)
  all_literals [] = refl
  all_literals (x ∷ xs) = ap (λ a. is_literal x && a) (all_literals xs)

  -- two literals at least are a choice
  choice_is : (x : Tree) (xs : List Tree) → are_literals (x ∷ xs) ≡ is_choice x (alternation xs)
  choice_is x [] = refl
  choice_is x (y ∷ xs) = ap (λ a. a && list_all is_literal (x ∷ y ∷ xs)) (le-leb 2 (length (x ∷ y ∷ xs)) (omega arith))
      ∙ all_literals (x ∷ y ∷ xs)

  -- parts that aren't all literals
  pub bytes_of_alternation : (xs : List Tree) → 1 < length xs → are_literals xs ≡ false →
      tree_bytes b which false (alternation xs) ≡ part_bytes 4 xs + 48
  bytes_of_alternation [] two other = absurd (omega arith)
  bytes_of_alternation (x ∷ []) two other = absurd (omega arith)
  bytes_of_alternation (x ∷ y ∷ xs) two other =
      two_parts x y xs ∙ ap (λ a. if_choice a x y xs) (sym (choice_is x (y ∷ xs)) ∙ other) ∙ omega (arith, others_behind (y ∷ xs))

  -- what a trie of literals takes
  pub bytes_of_literals : (xs : List Tree) → are_literals xs ≡ true →
      tree_bytes b which false (alternation xs) ≡ literals_bytes b (alternation xs)
  bytes_of_literals [] are = absurd (cc)
  bytes_of_literals (x ∷ []) are = absurd (cc)
  bytes_of_literals (x ∷ y ∷ xs) are =
      two_parts x y xs ∙ ap (λ a. if_choice a x y xs) (sym (choice_is x (y ∷ xs)) ∙ are)

  -- a part takes no more than all
  pub bytes_of_part : (more : ℕ) (xs : List Tree) (i : ℕ) (x : Tree) → i < length xs → x ≡ get_or xs i x →
      tree_bytes b which false x ≤ part_bytes more xs
  bytes_of_part more [] i x l is = absurd (omega arith)
  bytes_of_part more (y ∷ xs) zero x l is = let e = ap (tree_bytes b which false) is in omega arith
  bytes_of_part more (y ∷ xs) (suc i) x l is = let e = bytes_of_part more xs i x (omega arith) is in omega arith

  -- the first two parts
  pub two_bytes : (xs : List Tree) (x y : Tree) → 1 < length xs → x ≡ get_or xs 0 x → y ≡ get_or xs 1 y →
      tree_bytes b which false x + tree_bytes b which false y + 8 + part_bytes 4 (drop 2 xs) ≡ part_bytes 4 xs
  two_bytes [] x y l is_x is_y = absurd (omega arith)
  two_bytes (p ∷ []) x y l is_x is_y = absurd (omega arith)
  two_bytes (p ∷ q ∷ xs) x y l is_x is_y =
      let e = ap (tree_bytes b which false) is_x in let f = ap (tree_bytes b which false) is_y in omega arith

-- ---- rounds

pub copies_before : (low k : ℕ) → 0 < low → (low - 1) * k + k ≡ low * k
copies_before zero k l = absurd (omega arith)
copies_before (suc low) k l = let e : suc low - 1 ≡ low = omega arith in ap (λ n. n * k + k) e ∙ omega arith

pub round_bytes : (i most n : ℕ) → i < most → (most - i) * n ≡ (most - (i + 1)) * n + n
round_bytes i most n l = let e : most - i ≡ suc (most - (i + 1)) = omega arith in ap (λ k. k * n) e ∙ omega arith

pub none_left : (i most n : ℕ) → most ≤ i → (most - i) * n ≡ 0
none_left i most n over = let e : most - i ≡ 0 = omega arith in ap (λ k. k * n) e ∙ omega arith

pub loop_is : (reads : Bool) (n : ℕ) → reads ≡ true → loop_bytes reads n ≡ n + 32
loop_is reads n is = ap (λ b. loop_bytes b n) is

pub some_owed : (low : ℕ) (reads : Bool) (n : ℕ) → 0 < low → at_least_bytes low reads n ≡ low * n + 32
some_owed zero reads n l = absurd (omega arith)
some_owed (suc low) reads n l = refl

pub group_kept : (which : WhichCaptures) (index : ℕ) → keeps_group which index ≡ true → group_bytes which index ≡ 48
group_kept which index is = ap (λ kept. if kept then 48 else 0) is

-- which form bounded rounds have
abbrev if_more : Bool → Bool → ℕ → ℕ → ℕ → ℕ
if_more more some low most n = if more then rounds_bytes low most n else (if some then low * n else 24)

pub same_rounds : (low most n : ℕ) → low ≡ most → 0 < most → between_bytes low most n ≡ low * n
same_rounds low most n same some =
    ap (λ b. if_more b (nat_lt 0 most) low most n) (le-ltb low most (omega arith))
    ∙ ap (λ b. if_more false b low most n) (lt-ltb 0 most some)
