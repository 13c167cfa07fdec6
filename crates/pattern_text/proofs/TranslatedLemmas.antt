-- The equations of `translated`, one for each variant, and what holds of the tree of every pattern.
use Rattle.std.proofs.Common.{◌≡◌, ℕ, ◌+◌, ◌≤◌, min, max, nat_le, nat_lt, Bool, true, false, ◌&&◌, List, ◌∷◌, ◌++◌, map, Option, []}
use Rattle.std.proofs.Common.{option_map, Vec, Box, Global, refl, sym, ap, ◌∙◌, subst, arith, if◌then◌else◌, le-leb, lt-ltb}
use Rattle.std.proofs.lemmas.Bool.{and_from, or_left, or_right}
use Rattle.std.proofs.lemmas.Str.{is_utf8-from_IsUtf8}
use Rattle.std.specs.List.{list_all}
use Rattle.regex_class.specs.Ranges.{in_range, in_ranges}
use Rattle.regex_class.specs.declared.Class.{Class}
use Rattle.regex_hir.specs.Re.{Re}
use Rattle.regex_hir.specs.Re as re
use Rattle.regex_hir.specs.Meaning.{meaning, node_meaning, cat_all, alt_all, repeat}
use Rattle.regex_hir.specs.declared.look.Look as look_type
use Rattle.regex_hir.specs.declared.hir.Hir.{Hir, Hir-F, fold-roll-Hir, fold_out-Hir, map-Hir, Row_of-Hir, end_of-Hir, more_of-Hir}
use Rattle.regex_hir.specs.declared.hir.Hir.{items-the_row-Hir, items_shown-the_row-Hir-0}
use Rattle.regex_hir.specs.declared.hir.Hir.{Concat', Alternation', Repetition', Capture'}
use Rattle.regex_hir.specs.declared.hir.Hir.TheVariants.{Empty, Literal, Bytes, Chars, Look, Repetition, Capture}
use Rattle.regex_hir.specs.declared.hir.Hir.TheVariants.{rolls-Empty, rolls-Literal, rolls-Bytes, rolls-Chars, rolls-Look, rolls-Repetition}
use Rattle.regex_hir.specs.declared.hir.Hir.TheVariants.{rolls-Capture, outs-Concat', outs-Alternation'}
use Rattle.regex_hir.proofs.MeaningLemmas.{meaning-Empty, meaning-Literal, meaning-Bytes, meaning-Chars, meaning-Look, meaning-Repetition}
use Rattle.regex_hir.proofs.MeaningLemmas.{meaning-Capture}
use Rattle.regex_syntax.specs.Grammar.{Names}
use Rattle.regex_syntax.specs.WellFormed.{IsWithin, IsWellFormed, AreWellFormed, depth, greatest_depth}
use Rattle.hir_core.specs.Tree.{Tree, concat, alternation}
use Rattle.hir_core.specs.Tree as tree
use Rattle.hir_core.specs.Facts.{LoopsRead, is_utf8_tree, capped, height}
use Rattle.pattern_text.specs.Cut.{cut_to_bytes, without_surrogates}
use Rattle.pattern_text.specs.Translated.{name_at, node_tree, translated, translated_look}
use Rattle.pattern_text.specs.SameEnds.{SameEnds, SameSpans, HasNames}
use Rattle.pattern_text.proofs.SameEndsLemmas.{same_empty, same_literal, same_nothing, same_never, same_cat, same_alt, same_group}
use Rattle.pattern_text.proofs.CharLemmas.{same_chars, same_class}
use Rattle.pattern_text.proofs.ClassLemmas.{same_scalars, same_members}
use Rattle.pattern_text.proofs.LookTree.{same_look_tree}
use Rattle.pattern_text.proofs.LoopLemmas.{same_rounds}
use Rattle.pattern_text.proofs.SpanLemmas.{spans_of_ends, spans_cat, spans_alt, spans_group}
use Rattle.pattern_text.proofs.RoundLemmas.{spans_rounds}

module _ (names : Names) where
  pub translated-Empty : translated names Empty ≡ tree.empty
  translated-Empty = ap (translated names) (sym rolls-Empty) ∙ fold-roll-Hir Tree (node_tree names) Hir-F.Empty

  pub translated-Literal : (bs : Vec ℕ Global) → translated names (Literal bs) ≡ tree.literal bs.items
  translated-Literal bs = ap (translated names) (sym (rolls-Literal bs)) ∙ fold-roll-Hir Tree (node_tree names) (Hir-F.Literal bs)

  pub translated-Bytes : (class : Class) → translated names (Bytes class) ≡ tree.byte_class (cut_to_bytes class.ranges.items)
  translated-Bytes class = ap (translated names) (sym (rolls-Bytes class)) ∙ fold-roll-Hir Tree (node_tree names) (Hir-F.Bytes class)

  pub translated-Chars : (class : Class) → translated names (Chars class) ≡ tree.char_class (without_surrogates class.ranges.items)
  translated-Chars class = ap (translated names) (sym (rolls-Chars class)) ∙ fold-roll-Hir Tree (node_tree names) (Hir-F.Chars class)

  pub translated-Look : (l : look_type.Look) → translated names (Look l) ≡ tree.look (translated_look l)
  translated-Look l = ap (translated names) (sym (rolls-Look l)) ∙ fold-roll-Hir Tree (node_tree names) (Hir-F.Look l)

  pub translated-Repetition : (least : ℕ) (most : Option ℕ) (greedy : Bool) (sub : Box Hir Global) →
      translated names (Repetition least most greedy sub) ≡
      tree.repetition least (option_map (λ n. max n least) most) greedy (translated names sub.value)
  translated-Repetition least most greedy sub =
      ap (translated names) (sym (rolls-Repetition least most greedy sub))
      ∙ fold-roll-Hir Tree (node_tree names) (Hir-F.Repetition least most greedy sub)

  pub translated-Capture : (index : ℕ) (sub : Box Hir Global) →
      translated names (Capture index sub) ≡ tree.capture index (name_at names index) (translated names sub.value)
  translated-Capture index sub =
      ap (translated names) (sym (rolls-Capture index sub)) ∙ fold-roll-Hir Tree (node_tree names) (Hir-F.Capture index sub)

-- ---- a pattern and its tree match alike
-- both prefer the same ends and have the same spans, and the tree's groups have these names
abbrev pub Matched : Names → Re → Tree → Type 0
Matched names a x = SameEnds a x × SameSpans a x × HasNames names x

along : (names : Names) (a b : Re) (x y : Tree) → a ≡ b → x ≡ y → Matched names b y → Matched names a x
along names a b x y p q m = subst (λ re. Matched names re x) (sym p) (subst (Matched names b) (sym q) m)

-- a leaf, which has no loop and no group
leaf : (names : Names) (a : Re) (x : Tree) → LoopsRead x → HasNames names x → SameEnds a x → Matched names a x
leaf names a x loops named s = (s, spans_of_ends a x loops s, named)

module _ (names : Names) where
  matched_cat : (a b : Re) (x y : Tree) → Matched names a x → Matched names b y → Matched names (re.cat a b) (tree.cat x y)
  matched_cat a b x y p q = (same_cat a b x y p.0 q.0, spans_cat a b x y p.1 q.1, (p.2, q.2))

  matched_alt : (a b : Re) (x y : Tree) → Matched names a x → Matched names b y → Matched names (re.alt a b) (tree.alt x y)
  matched_alt a b x y p q = (same_alt a b x y p.0 q.0, spans_alt a b x y p.1 q.1, (p.2, q.2))

  matched_group : (index : ℕ) (a : Re) (x : Tree) → Matched names a x →
      Matched names (re.group index a) (tree.capture index (name_at names index) x)
  matched_group index a x p = (same_group index index _ a x p.0, spans_group index index _ a x p.1, (refl, p.2))

  matched_rounds : (least : ℕ) (most : Option ℕ) (greedy : Bool) (a : Re) (x : Tree) → Matched names a x →
      Matched names (repeat least most greedy a) (tree.repetition least (option_map (λ n. max n least) most) greedy x)
  matched_rounds least most greedy a x p = (same_rounds least most greedy a x p.0, spans_rounds least most greedy a x p.1, p.2)

  mutual
    of_tree : (p : Hir) → Matched names (meaning p) (translated names p)
    of_tree Empty = along names _ _ _ _ meaning-Empty (translated-Empty names) (leaf names re.empty tree.empty tt tt same_empty)
    of_tree (Literal bs) =
        along names _ _ _ _ (meaning-Literal bs) (translated-Literal names bs)
        (leaf names (re.literal bs.items) (tree.literal bs.items) tt tt (same_literal bs.items))
    of_tree (Bytes class) =
        let rs = class.ranges.items in
        along names _ _ _ _ (meaning-Bytes class) (translated-Bytes names class)
        (leaf names (re.byte_in rs) (tree.byte_class (cut_to_bytes rs)) tt tt (same_class rs (cut_to_bytes rs) (same_members rs)))
    of_tree (Chars class) =
        let rs = class.ranges.items in
        along names _ _ _ _ (meaning-Chars class) (translated-Chars names class)
        (leaf names (re.char_in rs) (tree.char_class (without_surrogates rs)) tt tt
        (same_chars rs (without_surrogates rs) (same_scalars rs)))
    of_tree (Look l) =
        along names _ _ _ _ (meaning-Look l) (translated-Look names l)
        (leaf names (re.look l) (tree.look (translated_look l)) tt tt (same_look_tree l))
    of_tree (Repetition' least most greedy place sub) =
        let held : Box Hir Global = record { ptr = place.ptr; alloc = place.alloc; value = sub } in
        along names _ _ _ _ (meaning-Repetition least most greedy held) (translated-Repetition names least most greedy held)
        (matched_rounds least most greedy (meaning sub) (translated names sub) (of_tree sub))
    of_tree (Capture' index place sub) =
        let held : Box Hir Global = record { ptr = place.ptr; alloc = place.alloc; value = sub } in
        along names _ _ _ _ (meaning-Capture index held) (translated-Capture names index held)
        (matched_group index (meaning sub) (translated names sub) (of_tree sub))
    of_tree (Concat' shape subs) =
        along names _ _ _ _
        (fold_out-Hir Re node_meaning _ ∙ ap (λ x. node_meaning (map-Hir Hir Re meaning x)) (outs-Concat' shape subs)
        ∙ ap (λ l. cat_all (map meaning l)) (items_shown-the_row-Hir-0 shape subs))
        (fold_out-Hir Tree (node_tree names) _ ∙ ap (λ x. node_tree names (map-Hir Hir Tree (translated names) x)) (outs-Concat' shape subs)
        ∙ ap (λ l. concat (map (translated names) l)) (items_shown-the_row-Hir-0 shape subs))
        (of_row _ subs).0
    of_tree (Alternation' shape subs) =
        along names _ _ _ _
        (fold_out-Hir Re node_meaning _ ∙ ap (λ x. node_meaning (map-Hir Hir Re meaning x)) (outs-Alternation' shape subs)
        ∙ ap (λ l. alt_all (map meaning l)) (items_shown-the_row-Hir-0 shape subs))
        (fold_out-Hir Tree (node_tree names) _
        ∙ ap (λ x. node_tree names (map-Hir Hir Tree (translated names) x)) (outs-Alternation' shape subs)
        ∙ ap (λ l. alternation (map (translated names) l)) (items_shown-the_row-Hir-0 shape subs))
        (of_row _ subs).1

    of_row : (n : _) (row : Row_of-Hir n) →
        Matched names (cat_all (map meaning (items-the_row-Hir n row))) (concat (map (translated names) (items-the_row-Hir n row)))
        × Matched names (alt_all (map meaning (items-the_row-Hir n row))) (alternation (map (translated names) (items-the_row-Hir n row)))
    of_row n end_of-Hir = (leaf names re.empty tree.nothing tt tt same_nothing, leaf names (re.byte_in []) tree.never tt tt same_never)
    of_row n (more_of-Hir sub rest) =
        let first = of_tree sub in
        let others = of_row _ rest in
        (matched_cat _ _ _ _ first others.0, matched_alt _ _ _ _ first others.1)

pub same_ends : (names : Names) (p : Hir) → SameEnds (meaning p) (translated names p)
same_ends names p = (of_tree names p).0

pub same_spans : (names : Names) (p : Hir) → SameSpans (meaning p) (translated names p)
same_spans names p = (of_tree names p).1

pub keeps_names : (names : Names) (p : Hir) → HasNames names (translated names p)
keeps_names names p = (of_tree names p).2

-- ---- the tree of a pattern that matches UTF-8 alone
bytes_ascii : (rs : List (ℕ × ℕ)) → IsWithin 0x7F rs → list_all (λ r. nat_lt r.1 0x80) (cut_to_bytes rs) ≡ true
unfolding in_ranges in_range
bytes_ascii [] within = refl
bytes_ascii (r ∷ rs) within =
    let others = bytes_ascii rs (λ c e. within c (or_right (nat_le r.0 c && nat_le c r.1) (in_ranges rs c) e)) in
    ascii_if (nat_le r.0 (min r.1 0xFF)) (r.0, min r.1 0xFF) (cut_to_bytes rs) others
    (λ e. let top = min r.1 0xFF in
    let small : top ≤ 0x7F = within top (or_left (nat_le r.0 top && nat_le top r.1) (in_ranges rs top)
    (and_from (nat_le r.0 top) (nat_le top r.1) e (le-leb top r.1 (omega arith)))) in
    lt-ltb top 0x80 (omega (arith, small)))
  where
    ascii_if : (b : Bool) (x : ℕ × ℕ) (rest : List (ℕ × ℕ)) → list_all (λ r. nat_lt r.1 0x80) rest ≡ true →
        (b ≡ true → nat_lt x.1 0x80 ≡ true) →
        list_all (λ r. nat_lt r.1 0x80) ((if b then x ∷ [] else []) ++ rest) ≡ true
    ascii_if true x rest all one = and_from (nat_lt x.1 0x80) (list_all (λ r. nat_lt r.1 0x80) rest) (one refl) all
    ascii_if false x rest all one = all

module _ (names : Names) where
  abbrev IsText : Tree → Type 0
  IsText x = is_utf8_tree x ≡ true

  mutual
    text_tree : (p : Hir) → IsWellFormed true p → IsText (translated names p)
    text_tree Empty formed = subst IsText (sym (translated-Empty names)) refl
    text_tree (Literal bs) formed = subst IsText (sym (translated-Literal names bs)) (is_utf8-from_IsUtf8 bs.items (formed refl))
    text_tree (Bytes class) formed = subst IsText (sym (translated-Bytes names class)) (bytes_ascii class.ranges.items formed)
    text_tree (Chars class) formed = subst IsText (sym (translated-Chars names class)) refl
    text_tree (Look l) formed = subst IsText (sym (translated-Look names l)) refl
    text_tree (Repetition' least most greedy place sub) formed =
        subst IsText (sym (translated-Repetition names least most greedy (record { ptr = place.ptr; alloc = place.alloc; value = sub })))
        (text_tree sub formed.1)
    text_tree (Capture' index place sub) formed =
        subst IsText (sym (translated-Capture names index (record { ptr = place.ptr; alloc = place.alloc; value = sub })))
        (text_tree sub formed)
    text_tree (Concat' shape subs) formed =
        subst IsText (sym (fold_out-Hir Tree (node_tree names) _
        ∙ ap (λ x. node_tree names (map-Hir Hir Tree (translated names) x)) (outs-Concat' shape subs)
        ∙ ap (λ l. concat (map (translated names) l)) (items_shown-the_row-Hir-0 shape subs))) (text_row _ subs formed).0
    text_tree (Alternation' shape subs) formed =
        subst IsText (sym (fold_out-Hir Tree (node_tree names) _
        ∙ ap (λ x. node_tree names (map-Hir Hir Tree (translated names) x)) (outs-Alternation' shape subs)
        ∙ ap (λ l. alternation (map (translated names) l)) (items_shown-the_row-Hir-0 shape subs))) (text_row _ subs formed).1

    text_row : (n : _) (row : Row_of-Hir n) → AreWellFormed true row →
        IsText (concat (map (translated names) (items-the_row-Hir n row))) ×
        IsText (alternation (map (translated names) (items-the_row-Hir n row)))
    text_row n end_of-Hir formed = (refl, refl)
    text_row n (more_of-Hir sub rest) formed =
        let first = text_tree sub formed.0 in
        let others = text_row _ rest formed.1 in
        (and_from _ _ first others.0, and_from _ _ first others.1)

pub is_text : (names : Names) (p : Hir) → IsWellFormed true p → is_utf8_tree (translated names p) ≡ true
is_text names p formed = text_tree names p formed

-- ---- how high the tree is
stays_low : (n d : ℕ) → n ≤ d + 1 → capped (n + 1) ≤ d + 1 + 1
stays_low n d le = omega (arith, le)

module _ (names : Names) where
  mutual
    height_tree : (p : Hir) → height (translated names p) ≤ depth p + 1
    height_tree Empty = subst (λ (x : Tree). height x ≤ 1) (sym (translated-Empty names)) (omega arith)
    height_tree (Literal bs) = subst (λ (x : Tree). height x ≤ 1) (sym (translated-Literal names bs)) (omega arith)
    height_tree (Bytes class) = subst (λ (x : Tree). height x ≤ 1) (sym (translated-Bytes names class)) (omega arith)
    height_tree (Chars class) = subst (λ (x : Tree). height x ≤ 1) (sym (translated-Chars names class)) (omega arith)
    height_tree (Look l) = subst (λ (x : Tree). height x ≤ 1) (sym (translated-Look names l)) (omega arith)
    height_tree (Repetition' least most greedy place sub) =
        let held : Box Hir Global = record { ptr = place.ptr; alloc = place.alloc; value = sub } in
        subst (λ (x : Tree). height x ≤ depth sub + 1 + 1) (sym (translated-Repetition names least most greedy held))
        (stays_low (height (translated names sub)) (depth sub) (height_tree sub))
    height_tree (Capture' index place sub) =
        let held : Box Hir Global = record { ptr = place.ptr; alloc = place.alloc; value = sub } in
        subst (λ (x : Tree). height x ≤ depth sub + 1 + 1) (sym (translated-Capture names index held))
        (stays_low (height (translated names sub)) (depth sub) (height_tree sub))
    height_tree (Concat' shape subs) =
        subst (λ (x : Tree). height x ≤ greatest_depth subs + 1 + 1)
        (sym (fold_out-Hir Tree (node_tree names) _
        ∙ ap (λ x. node_tree names (map-Hir Hir Tree (translated names) x)) (outs-Concat' shape subs)
        ∙ ap (λ l. concat (map (translated names) l)) (items_shown-the_row-Hir-0 shape subs))) (height_row _ subs).0
    height_tree (Alternation' shape subs) =
        subst (λ (x : Tree). height x ≤ greatest_depth subs + 1 + 1)
        (sym (fold_out-Hir Tree (node_tree names) _
        ∙ ap (λ x. node_tree names (map-Hir Hir Tree (translated names) x)) (outs-Alternation' shape subs)
        ∙ ap (λ l. alternation (map (translated names) l)) (items_shown-the_row-Hir-0 shape subs))) (height_row _ subs).1

    height_row : (n : _) (row : Row_of-Hir n) →
        (height (concat (map (translated names) (items-the_row-Hir n row))) ≤ greatest_depth row + 1 + 1)
        × (height (alternation (map (translated names) (items-the_row-Hir n row))) ≤ greatest_depth row + 1 + 1)
    height_row n end_of-Hir = (omega arith, omega arith)
    height_row n (more_of-Hir sub rest) =
        let first = stays_low (height (translated names sub)) (depth sub) (height_tree sub) in
        let others = height_row _ rest in
        (omega (arith, first, others.0), omega (arith, first, others.1))

pub height_at_most : (names : Names) (p : Hir) → height (translated names p) ≤ depth p + 1
height_at_most names p = height_tree names p
