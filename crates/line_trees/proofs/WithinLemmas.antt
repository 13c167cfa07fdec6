-- What a line tree means in a block between two offsets of one line, the tree means in the line.
use Rattle.std.proofs.Common.{◌≡◌, ℕ, zero, suc, ◌+◌, ◌-◌, ◌≤◌, inl, inr, Bool, true, false, List, ◌++◌, length, drop}
use Rattle.std.proofs.Common.{Some, refl, sym, subst, ◌∙◌, arith, length-drop}
use Rattle.std.proofs.lemmas.Bool.{or_parts}
use Rattle.std.proofs.lemmas.Bool.Decides.{Decides-eqb}
use Rattle.std.proofs.lemmas.Slice.Eq.{starts_is}
use Rattle.search_core.specs.Utf8.{Spells}
use Rattle.look_core.specs.Looks.{IsWordSet}
use Rattle.hir_core.specs.Tree.{Tree, empty, literal, byte_class, char_class, look, repetition, capture, nothing, cat, never, alt}
use Rattle.hir_core.specs.Means.{Means, Rounds, SpellsMember, stands}
use Rattle.hir_core.proofs.ForCallers.{span_forward}
use Rattle.line_trees.specs.LineTrees.{line_tree, has_crlf, IsLineBetween, block_of, line_looks, MeansInLine}
use Rattle.line_trees.proofs.BesideLemmas.{rest_in_block, same_byte_at, begins_with}
use Rattle.line_trees.proofs.LineLookLemmas.{same_looks}
use Rattle.line_trees.proofs.MeaningLemmas.{same_range}

-- ---- leaves
module _ (before line after : List ℕ) where
  stands_in_line : (s : ℕ) (bytes : List ℕ) → s + length bytes ≤ length line →
      stands (block_of before line after) (length before + s) bytes ≡ true → stands line s bytes ≡ true
  stands_in_line s bytes l t =
      let there = (starts_is Decides-eqb (drop (length before + s) (block_of before line after)) bytes true (sym t)).0 refl in
      let rest : List ℕ = drop (length bytes) (drop (length before + s) (block_of before line after)) in
      let both : drop s line ++ after ≡ bytes ++ rest = sym (rest_in_block before line after s (omega arith)) ∙ there in
      let here = begins_with (drop s line) after bytes rest both (omega (arith, length-drop s line)) in
      (starts_is Decides-eqb (drop s line) bytes (stands line s bytes) refl).1 (drop (length bytes) (drop s line)) here

  member_in_line : (ranges : List (ℕ × ℕ)) (s e : ℕ) → e ≤ length line →
      SpellsMember (block_of before line after) ranges (length before + s) (length before + e) → SpellsMember line ranges s e
  member_in_line ranges s e l m =
      let forward : s ≤ e = omega (arith, m.forward) in
      record {
        scalar = m.scalar;
        forward = forward;
        within = l;
        spells = subst (λ (t : List ℕ). Spells m.scalar t) (sym (same_range before line after s e forward l)) m.spells;
        member = m.member;
      }

-- ---- trees
module _ (words : ℕ → Bool) (set : IsWordSet words) (before line after : List ℕ) (is : IsLineBetween false before line after) where
  abbrev InBlock : Tree → ℕ → ℕ → Type 0
  InBlock x i j = Means (line_looks words (block_of before line after)) (block_of before line after) (line_tree false x) i j

  forward_in_block : (x : Tree) (i j : ℕ) → InBlock x i j → i ≤ j
  forward_in_block x i j m = span_forward (line_looks words (block_of before line after)) (block_of before line after) (line_tree false x)
      i j m

  -- rounds are spans of a repetition
  rounds_forward : (x : Tree) (n i j : ℕ) → Rounds (InBlock x) n i j → i ≤ j
  rounds_forward x n i j r = forward_in_block (repetition n (Some n) false x) i j (n, omega arith, omega arith, r)

  -- an offset between two of the line is one of the line
  offset_of : (k s : ℕ) → length before + s ≤ k → k ≡ length before + (k - length before)
  offset_of k s l = omega arith

  rounds_in_line : (x : Tree) → MeansInLine words before line after x → (n s e : ℕ) → e ≤ length line →
      Rounds (InBlock x) n (length before + s) (length before + e) → Rounds (Means (line_looks words line) line x) n s e
  rounds_in_line x each zero s e l r = omega (arith, r)
  rounds_in_line x each (suc n) s e l r =
      let j : ℕ = r.0 - length before in
      let up = forward_in_block x (length before + s) r.0 r.1 in
      let on = rounds_forward x n r.0 (length before + e) r.2 in
      let at : r.0 ≡ length before + j = offset_of r.0 s up in (
        j,
        each s j (omega (arith, on, at, l)) (subst (λ (k : ℕ). InBlock x (length before + s) k) at r.1),
        rounds_in_line x each n j e l (subst (λ (k : ℕ). Rounds (InBlock x) n k (length before + e)) at r.2),
      )

  in_line : (x : Tree) → has_crlf x ≡ false → MeansInLine words before line after x
  in_line empty u s e l m = omega (arith, m)
  in_line (literal bytes) u s e l m =
      let size : e ≡ s + length bytes = omega (arith, m.0) in
      (size, stands_in_line before line after s bytes (omega arith) m.1)
  in_line (byte_class ranges) u s e l m =
      let size : e ≡ s + 1 = omega (arith, m.0) in
      (size, m.1, same_byte_at before line after s (omega arith) ∙ m.2, m.3)
  in_line (char_class ranges) u s e l m = member_in_line before line after ranges s e l m
  in_line (look o) u s e l m =
      let here : s ≡ e = omega (arith, m.0) in
      (here, same_looks words before line after o s set is u (omega arith) ∙ m.1)
  in_line (repetition min most greedy x) u s e l m = (m.0, m.1, m.2, rounds_in_line x (in_line x u) m.0 s e l m.3)
  in_line (capture index name x) u s e l m = in_line x u s e l m
  in_line nothing u s e l m = omega (arith, m)
  in_line (cat x y) u s e l m =
      let none = or_parts (has_crlf x) (has_crlf y) u in
      let j : ℕ = m.0 - length before in
      let up = forward_in_block x (length before + s) m.0 m.1 in
      let on = forward_in_block y m.0 (length before + e) m.2 in
      let at : m.0 ≡ length before + j = offset_of m.0 s up in (
        j,
        in_line x none.0 s j (omega (arith, on, at, l)) (subst (λ (k : ℕ). InBlock x (length before + s) k) at m.1),
        in_line y none.1 j e l (subst (λ (k : ℕ). InBlock y k (length before + e)) at m.2),
      )
  in_line never u s e l m = elim m [ ]
  in_line (alt x y) u s e l (inl m) = inl (in_line x (or_parts (has_crlf x) (has_crlf y) u).0 s e l m)
  in_line (alt x y) u s e l (inr m) = inr (in_line y (or_parts (has_crlf x) (has_crlf y) u).1 s e l m)

pub means_in_line : (words : ℕ → Bool) (before line after : List ℕ) (x : Tree) → IsWordSet words → IsLineBetween false before line after →
    has_crlf x ≡ false → MeansInLine words before line after x
means_in_line words before line after x set is u = in_line words set before line after is x u
