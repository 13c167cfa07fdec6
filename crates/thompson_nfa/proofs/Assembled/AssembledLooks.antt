-- The looks of the automaton that is built of a compile's states.
use Rattle.std.proofs.Common.{◌≡◌, ℕ, zero, suc, Bool, true, false, ◌||◌, List, [], ◌∷◌, map, reverse, Some, None, refl, sym, ap, ap₂, ◌∙◌}
use Rattle.std.specs.List.{list_any}
use Rattle.std.specs.Cmp.{both_ways}
use Rattle.look_core.specs.declared.look.Look.{Look}
use Rattle.look_core.specs.Codes.{repr, reversed}
use Rattle.look_core.specs.LookSets.{has_look}
use Rattle.look_core.proofs.ForCallers.{has_look-union, has_look-none, reversed_twice}
use Rattle.search_types.specs.Groups.{Groups}
use Rattle.hir_core.specs.Tree.{Tree, empty, literal, byte_class, char_class, look, repetition, capture, nothing, cat, never, alt}
use Rattle.hir_core.specs.Facts.{looks_used}
use Rattle.hir_core.proofs.ForCallers.{one_has, one_held}
use Rattle.nfa_core.specs.Nfa.{Node}
use Rattle.nfa_core.specs.NfaValue.{look_of, looks_of}
use Rattle.nfa_core.specs.BuilderStates.{DraftNode, empty_draft, range_draft, sparse_draft, look_draft, capture_start_draft}
use Rattle.nfa_core.specs.BuilderStates.{capture_end_draft, union_draft, union_reverse_draft, fail_draft, match_draft, Assembly}
use Rattle.nfa_core.specs.Renaming.{kept, new_name, ways_node, ranges_node, renamed, automaton_of}
use Rattle.nfa_core.proofs.ForCallers.{has_looks}
use Rattle.thompson_nfa.specs.Configs.{Options, reverse_of}
use Rattle.thompson_nfa.specs.Compiled.{looks_in, turned, uses, any_uses}
use Rattle.thompson_nfa.specs.Assembled.{IsAssembled}

-- ---- states that are kept

abbrev has_it : Look → Node → Bool
has_it l node = has_look (look_of node) l

no_look_ways : (names : List ℕ) → look_of (ways_node names) ≡ 0
no_look_ways [] = refl
no_look_ways (a ∷ []) = refl
no_look_ways (a ∷ b ∷ []) = refl
no_look_ways (a ∷ b ∷ c ∷ names) = refl

no_look_ranges : (ranges : List (ℕ × ℕ × ℕ)) → look_of (ranges_node ranges) ≡ 0
no_look_ranges [] = refl
no_look_ranges ((low, high, next) ∷ []) = refl
no_look_ranges ((low, high, next) ∷ r ∷ ranges) = refl

none_there : (l : Look) (node : Node) → look_of node ≡ 0 → has_it l node ≡ false
none_there l node e = ap (λ (s : ℕ). has_look s l) e ∙ has_look-none l

module _ (name : ℕ → ℕ) (groups : Groups) (l : Look) where
  abbrev there : List DraftNode → Bool
  there drafts = list_any (has_it l) (map (renamed name groups) (kept drafts))

  kept_looks : (drafts : List DraftNode) → there drafts ≡ looks_in drafts l
  kept_looks [] = refl
  kept_looks (empty_draft next ∷ drafts) = kept_looks drafts
  kept_looks (range_draft low high next ∷ drafts) = ap₂ (λ (a b : Bool). a || b) (has_look-none l) (kept_looks drafts)
  kept_looks (sparse_draft ranges ∷ drafts) =
      ap₂ (λ (a b : Bool). a || b) (none_there l (renamed name groups (sparse_draft ranges))
      (no_look_ranges (map (λ r. (r.0, r.1, name r.2)) ranges))) (kept_looks drafts)
  kept_looks (look_draft m next ∷ drafts) = ap (λ (b : Bool). has_look (repr m) l || b) (kept_looks drafts)
  kept_looks (capture_start_draft pattern group next ∷ drafts) = ap₂ (λ (a b : Bool). a || b) (has_look-none l) (kept_looks drafts)
  kept_looks (capture_end_draft pattern group next ∷ drafts) = ap₂ (λ (a b : Bool). a || b) (has_look-none l) (kept_looks drafts)
  kept_looks (union_draft [] ∷ drafts) = ap₂ (λ (a b : Bool). a || b) (has_look-none l) (kept_looks drafts)
  kept_looks (union_draft (a ∷ []) ∷ drafts) = kept_looks drafts
  kept_looks (union_draft (a ∷ b ∷ names) ∷ drafts) =
      ap₂ (λ (a b : Bool). a || b) (none_there l (renamed name groups (union_draft (a ∷ b ∷ names)))
      (no_look_ways (map name (a ∷ b ∷ names)))) (kept_looks drafts)
  kept_looks (union_reverse_draft [] ∷ drafts) = ap₂ (λ (a b : Bool). a || b) (has_look-none l) (kept_looks drafts)
  kept_looks (union_reverse_draft (a ∷ []) ∷ drafts) = kept_looks drafts
  kept_looks (union_reverse_draft (a ∷ b ∷ names) ∷ drafts) =
      ap₂ (λ (a b : Bool). a || b) (none_there l (renamed name groups (union_reverse_draft (a ∷ b ∷ names)))
      (no_look_ways (map name (reverse (a ∷ b ∷ names))))) (kept_looks drafts)
  kept_looks (fail_draft ∷ drafts) = ap₂ (λ (a b : Bool). a || b) (has_look-none l) (kept_looks drafts)
  kept_looks (match_draft pattern ∷ drafts) = ap₂ (λ (a b : Bool). a || b) (has_look-none l) (kept_looks drafts)

-- ---- looks that are turned round

turned_look : (back : Bool) (m l : Look) → has_look (repr (turned back m)) l ≡ has_look (repr m) (turned back l)
turned_look false m l = refl
turned_look true m l = both_ways (has_look (repr (reversed m)) l) (has_look (repr m) (reversed l))
    (λ h. one_held m (reversed l) (ap reversed (one_has (reversed m) l h) ∙ reversed_twice m))
    (λ h. one_held (reversed m) l (sym (reversed_twice l) ∙ ap reversed (one_has m (reversed l) h)))

-- ---- what a tree uses

used_is : (back : Bool) (x : Tree) (l : Look) → uses back x l ≡ has_look (looks_used x) (turned back l)
used_is back empty l = sym (has_look-none (turned back l))
used_is back (literal bytes) l = sym (has_look-none (turned back l))
used_is back (byte_class ranges) l = sym (has_look-none (turned back l))
used_is back (char_class ranges) l = sym (has_look-none (turned back l))
used_is back (look m) l = turned_look back m l
used_is back (repetition min None greedy x) l = used_is back x l
used_is back (repetition min (Some zero) greedy x) l = sym (has_look-none (turned back l))
used_is back (repetition min (Some (suc most)) greedy x) l = used_is back x l
used_is back (capture index name x) l = used_is back x l
used_is back nothing l = sym (has_look-none (turned back l))
used_is back (cat x y) l = ap₂ (λ (a b : Bool). a || b) (used_is back x l) (used_is back y l)
    ∙ sym (has_look-union (looks_used x) (looks_used y) (turned back l))
used_is back never l = sym (has_look-none (turned back l))
used_is back (alt x y) l = ap₂ (λ (a b : Bool). a || b) (used_is back x l) (used_is back y l)
    ∙ sym (has_look-union (looks_used x) (looks_used y) (turned back l))

any_used : (back : Bool) (xs : List Tree) (l : Look) → any_uses back xs l ≡ list_any (λ x. has_look (looks_used x) (turned back l)) xs
any_used back [] l = refl
any_used back (x ∷ xs) l = ap₂ (λ (a b : Bool). a || b) (used_is back x l) (any_used back xs l)

pub assembled_looks : (o : Options) (xs : List Tree) (b : Assembly) (A U : ℕ) → IsAssembled o xs b A U → (l : Look) →
    has_look (looks_of (automaton_of b A U).states) l ≡ list_any (λ x. has_look (looks_used x) (turned (reverse_of o) l)) xs
assembled_looks o xs b A U is l =
    has_looks (automaton_of b A U).states l ∙ kept_looks (new_name b.drafts) b.groups l b.drafts ∙ is.looks l ∙ any_used (reverse_of o) xs l
