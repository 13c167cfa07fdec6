-- The sequences of a trie, one after the other: what a compile of them requires of the next one.
use Rattle.std.proofs.Common.{◌≡◌, ℕ, zero, suc, ◌+◌, ◌<◌, ◌≤◌, List, [], ◌∷◌, ◌++◌, map, length, get_or, take, drop, refl, sym, ap, ◌∙◌}
use Rattle.std.proofs.Common.{subst, arith, length-take}
use Rattle.std.proofs.lemmas.List.{take_more, take_all, get_or-map, length-map}
use Rattle.std.specs.Prelude.{Vec}
use Rattle.std.specs.declared.alloc.Global.{Global}
use Rattle.hir_core.specs.Sequences.{bytes_of}
use Rattle.hir_core.specs.declared.utf8_sequences.Utf8Range.{Utf8Range}
use Rattle.thompson_nfa.specs.ClassTries.{AreByteRanges, IsShortSequence}
use Rattle.thompson_nfa.specs.RangeTries.{AreRanges, IsTrie}
use Rattle.thompson_nfa.specs.RangeWalks.{paths_of}
use Rattle.thompson_nfa.specs.Utf8Compiles.{last_of}
use Rattle.thompson_nfa.specs.Utf8Stacks.{AreBytes, ComesAfter}
use Rattle.thompson_nfa.proofs.Classes.FollowLemmas.{as_after}
use Rattle.thompson_nfa.proofs.Fragments.TurnLemmas.{first_left}

after_last : (qs : List (List (ℕ × ℕ))) (i : ℕ) → IsTrie qs → i < length qs → ComesAfter (last_of (take i qs)) (get_or qs i [])
after_last qs zero t l = tt
after_last [] (suc i) t l = absurd (omega (arith, l))
after_last (q ∷ []) (suc i) t l = absurd (omega (arith, l))
after_last (q ∷ r ∷ qs) (suc zero) t l = as_after q r t.1.0
after_last (q ∷ r ∷ qs) (suc (suc i)) t l = after_last (r ∷ qs) (suc i) t.2 (omega (arith, l))

ranges_at : (qs : List (List (ℕ × ℕ))) (i : ℕ) → IsTrie qs → i < length qs → AreRanges (get_or qs i [])
ranges_at [] i t l = absurd (omega (arith, l))
ranges_at (q ∷ qs) zero t l = t.0
ranges_at (q ∷ qs) (suc i) t l = ranges_at qs i t.2 (omega (arith, l))

ranges_of_bytes : (q : List (ℕ × ℕ)) → AreRanges q → AreByteRanges q → AreBytes q
ranges_of_bytes [] a b = tt
ranges_of_bytes (r ∷ q) a b = (a.0, b.0, ranges_of_bytes q a.1 b.1)

no_default : (i : ℕ) (d e : List (ℕ × ℕ)) (qs : List (List (ℕ × ℕ))) → i < length qs → get_or qs i d ≡ get_or qs i e
no_default i d e [] l = absurd (omega (arith, l))
no_default zero d e (q ∷ qs) l = refl
no_default (suc i) d e (q ∷ qs) l = no_default i d e qs (omega (arith, l))

abbrev path_of_items : Vec Utf8Range Global → List (ℕ × ℕ)
path_of_items v = map bytes_of v.items

-- the path v at the position, as it is shown
module _ (paths : List (Vec Utf8Range Global)) (i : ℕ) (v : Vec Utf8Range Global) (shown : List Utf8Range) (less : i < length paths)
    (is : v ≡ get_or paths i v) (value : shown ≡ v.items) where
  inside : i < length (paths_of paths)
  inside = let n = length-map paths path_of_items in omega (arith, n, less)

  path_here : get_or (paths_of paths) i [] ≡ map bytes_of shown
  path_here =
      no_default i [] (path_of_items v) (paths_of paths) inside
      ∙ get_or-map path_of_items paths i v (path_of_items v) less
      ∙ ap path_of_items (sym is)
      ∙ ap (map bytes_of) (sym value)

  pub path_bytes : IsTrie (paths_of paths) → ((k : ℕ) → k < length (paths_of paths) → IsShortSequence (get_or (paths_of paths) k [])) →
      AreBytes (map bytes_of shown)
  path_bytes t short = subst AreBytes path_here (ranges_of_bytes (get_or (paths_of paths) i []) (ranges_at (paths_of paths) i t inside)
      (short i inside).2)

  pub path_some : ((k : ℕ) → k < length (paths_of paths) → IsShortSequence (get_or (paths_of paths) k [])) → 1 ≤ length shown
  path_some short = let s = (short i inside).0 in let e = ap length path_here in let n = length-map shown bytes_of in omega (arith, s, e, n)

  pub path_few : ((k : ℕ) → k < length (paths_of paths) → IsShortSequence (get_or (paths_of paths) k [])) → length shown ≤ 4
  path_few short = let s = (short i inside).1 in let e = ap length path_here in let n = length-map shown bytes_of in omega (arith, s, e, n)

  pub path_after : IsTrie (paths_of paths) → ComesAfter (last_of (take i (paths_of paths))) (map bytes_of shown)
  path_after t = subst (ComesAfter (last_of (take i (paths_of paths)))) path_here (after_last (paths_of paths) i t inside)

  pub paths_more : take (i + 1) (paths_of paths) ≡ take i (paths_of paths) ++ map bytes_of shown ∷ []
  paths_more = take_more (paths_of paths) i [] inside ∙ ap (λ (q : List (ℕ × ℕ)). take i (paths_of paths) ++ q ∷ []) path_here

  pub path_left : drop i (paths_of paths) ≡ map bytes_of shown ∷ drop (i + 1) (paths_of paths)
  path_left = first_left (paths_of paths) i (map bytes_of shown) [] inside (sym path_here)

  pub next_fits : length (take i (paths_of paths)) + 1 ≤ length paths
  next_fits = let n = length-take i (paths_of paths) in omega (arith, n, less)

module _ (paths : List (Vec Utf8Range Global)) (i : ℕ) (past : length paths ≤ i) where
  pub paths_whole : take i (paths_of paths) ≡ paths_of paths
  paths_whole = let n = length-map paths path_of_items in take_all i (paths_of paths) (omega (arith, n, past))

  pub paths_counted : length (take i (paths_of paths)) ≡ length paths
  paths_counted = ap length paths_whole ∙ length-map paths path_of_items
