-- Alternations of literals: what a trie of them means is what they mean, and how many states it takes.
use Rattle.std.proofs.Common.{◌≡◌, ℕ, ◌+◌, ◌*◌, ◌<◌, ◌≤◌, min, Bool, true, false, List, [], ◌∷◌, ◌++◌, length, take, get_or, nat_le}
use Rattle.std.proofs.Common.{refl, sym, ap, ◌∙◌, subst, arith}
use Rattle.std.specs.Prelude.{Vec}
use Rattle.std.specs.Global.{Global}
use Rattle.std.specs.List.{list_all, sum_by}
use Rattle.std.proofs.lemmas.List.{reverse-reverse, length-reverse, take_more, take_all}
use Rattle.std.proofs.lemmas.List.Sums.{sum_by-cons}
use Rattle.hir_core.specs.Facts.{count, capped}
use Rattle.hir_core.specs.Node.{node}
use Rattle.hir_core.specs.Tree.{Tree, empty, literal, byte_class, char_class, look, repetition, capture, nothing, cat, never, alt, concat}
use Rattle.hir_core.specs.Tree.{alternation}
use Rattle.hir_core.specs.declared.hir.HirKind.{HirKind}
use Rattle.hir_core.specs.declared.hir.HirKind.TheVariants.{Empty, Literal, Bytes, Chars, Look, Repetition, Capture, Concat, Alternation}
use Rattle.nfa_core.specs.BuilderStates.{Assembly}
use Rattle.nfa_core.specs.declared.build_error.BuildError.{BuildError}
use Rattle.thompson_nfa.specs.ByteRoom.{choice_bytes}
use Rattle.thompson_nfa.specs.Compiled.{Makes, Does}
use Rattle.thompson_nfa.specs.LiteralGroups.{bytes_in}
use Rattle.thompson_nfa.specs.LiteralParts.{is_literal, are_literals, bytes_of_literal, read_strings}
use Rattle.thompson_nfa.specs.LiteralStates.{spelt, literals, Strings}
use Rattle.thompson_nfa.specs.Refusals.{Quits}
use Rattle.thompson_nfa.proofs.Steps.ProgressLemmas.{made_capped}
use Rattle.thompson_nfa.proofs.Steps.RoomLemmas.{alternation_count}
use Rattle.thompson_nfa.proofs.Classes.ScalarLemmas.{quits_capped}
use Rattle.std.proofs.lemmas.Bool.{and_parts}

-- ---- nodes of other kinds

concat_other : (xs : List Tree) → is_literal (concat xs) ≡ false
concat_other [] = refl
concat_other (x ∷ xs) = refl

alternation_other : (xs : List Tree) → is_literal (alternation xs) ≡ false
alternation_other [] = refl
alternation_other (x ∷ xs) = refl

not_literal : (k : HirKind) → ((bytes : Vec ℕ Global) → k ≡ Literal bytes → ⊥) → is_literal (node k) ≡ false
not_literal Empty other = refl
not_literal (Literal bytes) other = absurd (other bytes refl)
not_literal (Bytes ranges) other = refl
not_literal (Chars ranges) other = refl
not_literal (Look l) other = refl
not_literal (Repetition min max greedy sub) other = refl
not_literal (Capture index name sub) other = refl
not_literal (Concat subs) other = concat_other subs.items
not_literal (Alternation subs) other = alternation_other subs.items

other_bytes : (x : Tree) → is_literal x ≡ false → bytes_of_literal x ≡ []
other_bytes (literal bytes) e = absurd (cc)
other_bytes empty e = refl
other_bytes (byte_class ranges) e = refl
other_bytes (char_class ranges) e = refl
other_bytes (look l) e = refl
other_bytes (repetition min most greedy x) e = refl
other_bytes (capture index name x) e = refl
other_bytes nothing e = refl
other_bytes (cat x y) e = refl
other_bytes never e = refl
other_bytes (alt x y) e = refl

-- a node of another kind is no literal
pub other_node : (k : HirKind) (x : Tree) → node k ≡ x → ((bytes : Vec ℕ Global) → k ≡ Literal bytes → ⊥) → is_literal x ≡ false
other_node k x e other = ap is_literal (sym e) ∙ not_literal k other

pub other_node_bytes : (k : HirKind) (x : Tree) → node k ≡ x → ((bytes : Vec ℕ Global) → k ≡ Literal bytes → ⊥) → bytes_of_literal x ≡ []
other_node_bytes k x e other = other_bytes x (other_node k x e other)

-- ---- what the trie means

length_spelt : (back : Bool) (w : List ℕ) → length (spelt back w) ≡ length w
length_spelt false w = refl
length_spelt true w = length-reverse w

spelt_twice : (back : Bool) (w : List ℕ) → spelt back (spelt back w) ≡ w
spelt_twice false w = refl
spelt_twice true w = reverse-reverse w

literal_is : (x : Tree) → is_literal x ≡ true → literal (bytes_of_literal x) ≡ x
literal_is (literal bytes) e = refl
literal_is empty e = absurd (cc)
literal_is (byte_class ranges) e = absurd (cc)
literal_is (char_class ranges) e = absurd (cc)
literal_is (look l) e = absurd (cc)
literal_is (repetition min most greedy x) e = absurd (cc)
literal_is (capture index name x) e = absurd (cc)
literal_is nothing e = absurd (cc)
literal_is (cat x y) e = absurd (cc)
literal_is never e = absurd (cc)
literal_is (alt x y) e = absurd (cc)

literals_are : (back : Bool) (xs : List Tree) → list_all is_literal xs ≡ true → literals back (read_strings back xs) ≡ alternation xs
literals_are back [] e = refl
literals_are back (x ∷ xs) e =
    let b = and_parts (is_literal x) (list_all is_literal xs) e in
    ap (λ (w : List ℕ). alt (literal w) (literals back (read_strings back xs))) (spelt_twice back (bytes_of_literal x))
    ∙ ap (λ (y : Tree). alt y (literals back (read_strings back xs))) (literal_is x b.0)
    ∙ ap (λ (y : Tree). alt x y) (literals_are back xs b.1)

-- the trie's states are as many as the literals' bytes allow
room : (back : Bool) (xs : List Tree) → list_all is_literal xs ≡ true →
    min (2 * bytes_in (read_strings back xs)) 18446744073709551615 ≤ sum_by count xs
room back [] e = omega arith
room back (x ∷ xs) e =
    let b = and_parts (is_literal x) (list_all is_literal xs) e in
    let here : count x ≡ capped (2 * length (bytes_of_literal x) + 1) = ap count (sym (literal_is x b.0)) in
    omega (arith, room back xs b.1, sum_by-cons count x xs, here, length_spelt back (bytes_of_literal x))

fits : (back : Bool) (xs : List Tree) → list_all is_literal xs ≡ true →
    min (1 + 2 * bytes_in (read_strings back xs)) 18446744073709551615 ≤ count (alternation xs)
fits back xs e = omega (arith, alternation_count xs, room back xs e)

-- and the bytes of its states, with the transition from its end
trie_bytes : (back : Bool) (xs : List Tree) → 28 + 32 * bytes_in (read_strings back xs) + 36 * length (read_strings back xs)
    ≡ choice_bytes (alternation xs)
trie_bytes back [] = refl
trie_bytes back (x ∷ xs) = omega (arith, trie_bytes back xs, length_spelt back (bytes_of_literal x))

read_append : (back : Bool) (xs ys : List Tree) → read_strings back (xs ++ ys) ≡ read_strings back xs ++ read_strings back ys
read_append back [] ys = refl
read_append back (x ∷ xs) ys = ap (λ (l : List (List ℕ)). spelt back (bytes_of_literal x) ∷ l) (read_append back xs ys)

-- one more literal
pub read_next : (trie next : Strings) (back : Bool) (xs : List Tree) (k : ℕ) (x : Tree) (bytes : List ℕ) →
    trie ≡ record { reverse = back; strings = read_strings back (take k xs) } → x ≡ get_or xs k x → k < length xs →
    bytes ≡ bytes_of_literal x → next ≡ record trie { strings = trie.strings ++ spelt trie.reverse bytes ∷ [] } →
    next ≡ record { reverse = back; strings = read_strings back (take (k + 1) xs) }
read_next trie next back xs k x bytes e got less is n =
    let more : take (k + 1) xs ≡ take k xs ++ x ∷ [] = take_more xs k x less ∙ ap (λ (y : Tree). take k xs ++ y ∷ []) (sym got) in
    let all : read_strings back (take (k + 1) xs) ≡ read_strings back (take k xs) ++ spelt back (bytes_of_literal x) ∷ [] =
    ap (read_strings back) more ∙ read_append back (take k xs) (x ∷ []) in
    n ∙ ap (λ (t : Strings). record t { strings = t.strings ++ spelt t.reverse bytes ∷ [] }) e
    ∙ ap (λ (w : List ℕ). record { reverse = back; strings = read_strings back (take k xs) ++ spelt back w ∷ [] }) is
    ∙ ap (λ (l : List (List ℕ)). record { reverse = back; strings = l }) (sym all)

pub strings_bytes : (trie : Strings) (xs : List Tree) (k : ℕ) (back : Bool) → trie ≡ record {
  reverse = back;
  strings = read_strings back (take k xs);
} → length xs ≤ k → 28 + 32 * bytes_in trie.strings + 36 * length trie.strings ≡ choice_bytes (alternation xs)
strings_bytes trie xs k back is past =
    let all : trie.strings ≡ read_strings back xs = ap (λ (t : Strings). t.strings) is ∙ ap (read_strings back) (take_all k xs past) in
    ap (λ (ws : List (List ℕ)). 28 + 32 * bytes_in ws + 36 * length ws) all ∙ trie_bytes back xs

module _ (trie : Strings) (xs : List Tree) (k : ℕ) (old new : Assembly) (is : trie ≡ record {
  reverse = old.reverse;
  strings = read_strings old.reverse (take k xs);
}) (past : length xs ≤ k) (wanted : are_literals xs ≡ true) where
  strings_are : trie.strings ≡ read_strings old.reverse xs
  strings_are = ap (λ (t : Strings). t.strings) is ∙ ap (read_strings old.reverse) (take_all k xs past)

  all : list_all is_literal xs ≡ true
  all = (and_parts (nat_le 2 (length xs)) (list_all is_literal xs) wanted).1

  pub literals_made : (start end : ℕ) → Makes old new start end (1 + 2 * bytes_in trie.strings) →
      Makes old new start end (count (alternation xs))
  literals_made start end m =
      let P : List (List ℕ) → Type 0 = λ ws. Makes old new start end (1 + 2 * bytes_in ws) in
      made_capped (count (alternation xs)) (subst P strings_are m) (fits old.reverse xs all)

  pub literals_do : (start end : ℕ) → Does old new start end (literals old.reverse trie.strings) → Does old new start end (alternation xs)
  literals_do start end d =
      let P : Tree → Type 0 = λ x. Does old new start end x in
      subst P (ap (literals old.reverse) strings_are ∙ literals_are old.reverse xs all) d

  pub literals_quit : (e : BuildError) → Quits old new (1 + 2 * bytes_in trie.strings) e → Quits old new (count (alternation xs)) e
  literals_quit e q =
      let P : List (List ℕ) → Type 0 = λ ws. Quits old new (1 + 2 * bytes_in ws) e in
      quits_capped (count (alternation xs)) (subst P strings_are q) (fits old.reverse xs all)
