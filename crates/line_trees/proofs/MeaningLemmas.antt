-- What a tree means in a line, its line tree means in a block with that line.
use Rattle.std.proofs.Common.{◌≡◌, ℕ, zero, suc, ◌+◌, ◌-◌, ◌≤◌, inl, inr, Bool, true, false, List, ◌++◌, length, take, drop}
use Rattle.std.proofs.Common.{slice_range, refl, sym, ap, ap₂, subst, ◌∙◌, arith, length-append, length-drop, append_assoc}
use Rattle.std.proofs.lemmas.Bool.{or_parts}
use Rattle.std.proofs.lemmas.Bool.Decides.{Decides-eqb}
use Rattle.std.proofs.lemmas.List.{take-append-le}
use Rattle.std.proofs.lemmas.Option.{slice_get_within}
use Rattle.std.proofs.lemmas.Slice.Eq.{starts_is}
use Rattle.search_core.specs.Utf8.{Spells}
use Rattle.look_core.specs.Looks.{IsWordSet}
use Rattle.hir_core.specs.Tree.{Tree, empty, literal, byte_class, char_class, look, repetition, capture, nothing, cat, never, alt}
use Rattle.hir_core.specs.Means.{Means, Rounds, SpellsMember, stands}
use Rattle.hir_core.proofs.ForCallers.{span_within}
use Rattle.line_trees.specs.LineTrees.{line_tree, has_crlf, IsLineBetween, block_of, line_looks, MeansInBlock, HasMatch}
use Rattle.line_trees.proofs.BesideLemmas.{rest_in_block, same_byte_at}
use Rattle.line_trees.proofs.LineLookLemmas.{looks_go_on}

-- ---- leaves
module _ (before line after : List ℕ) where
  stands_in_block : (s : ℕ) (bytes : List ℕ) → s ≤ length line → stands line s bytes ≡ true →
      stands (block_of before line after) (length before + s) bytes ≡ true
  stands_in_block s bytes l t =
      let rest : List ℕ = drop (length bytes) (drop s line) in
      let here : drop s line ≡ bytes ++ rest = (starts_is Decides-eqb (drop s line) bytes true (sym t)).0 refl in
      let there : drop (length before + s) (block_of before line after) ≡ bytes ++ (rest ++ after) =
      rest_in_block before line after s l ∙ ap (λ (t : List ℕ). t ++ after) here ∙ append_assoc bytes rest after in
      (starts_is Decides-eqb (drop (length before + s) (block_of before line after)) bytes
      (stands (block_of before line after) (length before + s) bytes) refl).1 (rest ++ after) there

  pub same_range : (s e : ℕ) → s ≤ e → e ≤ length line →
      slice_range line s e ≡ slice_range (block_of before line after) (length before + s) (length before + e)
  same_range s e forward within =
      let rest = rest_in_block before line after s (omega arith) in
      let size : e - s ≡ (length before + e) - (length before + s) = omega arith in
      sym (take-append-le (e - s) (drop s line) after (omega (arith, length-drop s line)))
      ∙ ap₂ (λ (n : ℕ) (t : List ℕ). take n t) size (sym rest)

  member_in_block : (ranges : List (ℕ × ℕ)) (s e : ℕ) → SpellsMember line ranges s e →
      SpellsMember (block_of before line after) ranges (length before + s) (length before + e)
  member_in_block ranges s e m = record {
    scalar = m.scalar;
    forward = omega (arith, m.forward);
    within = omega (arith, m.within, length-append before (line ++ after), length-append line after);
    spells = subst (λ (t : List ℕ). Spells m.scalar t) (same_range s e m.forward m.within) m.spells;
    member = m.member;
  }

-- ---- trees
module _ (crlf : Bool) (words : ℕ → Bool) (set : IsWordSet words) (before line after : List ℕ)
    (is : IsLineBetween crlf before line after) where
  rounds_in_block : (x : Tree) → MeansInBlock crlf words before line after x → (n s e : ℕ) → s ≤ length line →
      Rounds (Means (line_looks words line) line x) n s e →
      Rounds (Means (line_looks words (block_of before line after)) (block_of before line after) (line_tree crlf x)) n
      (length before + s) (length before + e)
  rounds_in_block x each zero s e l r = ap (λ (j : ℕ). length before + j) r
  rounds_in_block x each (suc n) s e l r = (
    length before + r.0,
    each s r.0 l r.1,
    rounds_in_block x each n r.0 e (span_within (line_looks words line) line x s r.0 l r.1) r.2,
  )

  in_block : (x : Tree) → has_crlf x ≡ false → MeansInBlock crlf words before line after x
  in_block empty u s e l m = ap (λ (j : ℕ). length before + j) m
  in_block (literal bytes) u s e l m = (omega (arith, m.0), stands_in_block before line after s bytes l m.1)
  in_block (byte_class ranges) u s e l m =
      let inside = slice_get_within line s m.1 m.2 in
      (omega (arith, m.0), m.1, sym (same_byte_at before line after s inside) ∙ m.2, m.3)
  in_block (char_class ranges) u s e l m = member_in_block before line after ranges s e m
  in_block (look o) u s e l m =
      (ap (λ (j : ℕ). length before + j) m.0, looks_go_on crlf words before line after o s set is u l m.1)
  in_block (repetition min most greedy x) u s e l m = (m.0, m.1, m.2, rounds_in_block x (in_block x u) m.0 s e l m.3)
  in_block (capture index name x) u s e l m = in_block x u s e l m
  in_block nothing u s e l m = ap (λ (j : ℕ). length before + j) m
  in_block (cat x y) u s e l m =
      let none = or_parts (has_crlf x) (has_crlf y) u in
      let within = span_within (line_looks words line) line x s m.0 l m.1 in
      (length before + m.0, in_block x none.0 s m.0 l m.1, in_block y none.1 m.0 e within m.2)
  in_block never u s e l m = elim m [ ]
  in_block (alt x y) u s e l (inl m) = inl (in_block x (or_parts (has_crlf x) (has_crlf y) u).0 s e l m)
  in_block (alt x y) u s e l (inr m) = inr (in_block y (or_parts (has_crlf x) (has_crlf y) u).1 s e l m)

pub means_in_block : (crlf : Bool) (words : ℕ → Bool) (before line after : List ℕ) (x : Tree) → IsWordSet words →
    IsLineBetween crlf before line after → has_crlf x ≡ false → MeansInBlock crlf words before line after x
means_in_block crlf words before line after x set is u = in_block crlf words set before line after is x u

pub match_in_block : (crlf : Bool) (words : ℕ → Bool) (before line after : List ℕ) (x : Tree) → IsWordSet words →
    IsLineBetween crlf before line after → has_crlf x ≡ false → HasMatch (line_looks words line) line x →
    HasMatch (line_looks words (block_of before line after)) (block_of before line after) (line_tree crlf x)
match_in_block crlf words before line after x set is u m = record {
  start = length before + m.start;
  end = length before + m.end;
  within = omega (arith, m.within, length-append before (line ++ after), length-append line after);
  means = in_block crlf words set before line after is x u m.start m.end m.within m.means;
}
