-- The lines of a tree put the tree that is printed for it onto the stack.
use Rattle.std.proofs.Common.{◌≡◌, ℕ, suc, ◌+◌, ◌-◌, ◌^◌, ◌<◌, ◌≤◌, min, max, Bool, true, IsTrue, List, [], ◌∷◌, ◌++◌, map}
use Rattle.std.proofs.Common.{length, Option, decimal, codes, refl, sym, ◌∙◌, ap, subst, arith, append_assoc, append-nil, length-append}
use Rattle.std.specs.List.{list_all}
use Rattle.hex.specs.Hex.{encode_lower}
use Rattle.hir_core.specs.Tree.{Tree, empty, literal, byte_class, char_class, look, repetition, capture, nothing, cat, never, alt, concat}
use Rattle.hir_core.specs.Tree.{alternation}
use Rattle.hir_core.specs.Facts.{height, capped}
use Rattle.hirscan.specs.Words.{IsHex, look_name, class_ranges, scalar_ranges}
use Rattle.hirscan.specs.Readers.{IsReader, hex_bytes}
use Rattle.hirscan.specs.Takes.{QueryValue, Replaces, Takes, empty_line, lit_line, bytes_line, chars_line, look_line, rep_line, cat_line}
use Rattle.hirscan.specs.Takes.{alt_line}
use Rattle.hirhead.specs.Written.{printed_tree}
use Rattle.hirhead.specs.Lines.{Line, bound_word, order_word, byte_item, scalar_item, rounds_line, lines_after, lines_of}
use Rattle.hirhead.specs.HasLines.{is_cat, is_alt, HasLines, FitsIn}
use Rattle.hirhead.proofs.PlainLemmas.{plain}
use Rattle.hirhead.proofs.DigitLemmas.{decimal_plain, bound_plain, bound_is, order_plain, order_is, name_plain, hex_plain, hex_is}
use Rattle.hirhead.proofs.DigitLemmas.{byte_items_plain}
use Rattle.hirhead.proofs.DigitLemmas.{byte_items_are, scalar_items_plain, scalar_items_are}
use Rattle.hirhead.proofs.TakenLemmas.{AreTaken, taken_line, taken_append}

-- with the setup of s
abbrev pub state : QueryValue → List Tree → List Tree → QueryValue
state s done stack = record { setup = s.setup; stack = stack; patterns = done }

-- ---- parts that come before the rest of a concatenation or alternation

abbrev joined : (Tree → Tree → Tree) → List Tree → Tree → Tree
joined glue [] t = t
joined glue (p ∷ ps) t = glue p (joined glue ps t)

-- the whole of these parts and the rest, which is printed as t
abbrev join : Tree → List Tree → Tree → Tree
join nothing parts t = joined cat parts t
join (cat x y) parts t = joined cat parts t
join never parts t = joined alt parts t
join (alt x y) parts t = joined alt parts t
join _ parts t = t

join_none : (x t : Tree) → join x [] t ≡ t
join_none nothing t = refl
join_none (cat x y) t = refl
join_none never t = refl
join_none (alt x y) t = refl
join_none _ t = refl

join_cat : (y : Tree) (parts : List Tree) (t : Tree) → IsTrue (is_cat y) → join y parts t ≡ joined cat parts t
join_cat nothing parts t h = refl
join_cat (cat x y) parts t h = refl
join_cat _ parts t h = absurd cc

join_alt : (y : Tree) (parts : List Tree) (t : Tree) → IsTrue (is_alt y) → join y parts t ≡ joined alt parts t
join_alt never parts t h = refl
join_alt (alt x y) parts t h = refl
join_alt _ parts t h = absurd cc

joined_push : (glue : Tree → Tree → Tree) (parts : List Tree) (p t : Tree) → joined glue (parts ++ p ∷ []) t ≡ joined glue parts (glue p t)
joined_push glue [] p t = refl
joined_push glue (q ∷ parts) p t = ap (glue q) (joined_push glue parts p t)

joined_concat : (parts : List Tree) → joined cat parts nothing ≡ concat parts
joined_concat [] = refl
joined_concat (p ∷ parts) = ap (cat p) (joined_concat parts)

joined_alternation : (parts : List Tree) → joined alt parts never ≡ alternation parts
joined_alternation [] = refl
joined_alternation (p ∷ parts) = ap (alt p) (joined_alternation parts)

rest_below : (glue : Tree → Tree → Tree) → ((a b : Tree) → height b ≤ height (glue a b)) → (parts : List Tree) (t : Tree)
    → height t ≤ height (joined glue parts t)
rest_below glue up [] t = omega arith
rest_below glue up (p ∷ parts) t =
    let below = rest_below glue up parts t in
    let above = up p (joined glue parts t) in omega (arith, below, above)

cat_above : (a b : Tree) → height b ≤ height (cat a b)
cat_above a b = omega arith

alt_above : (a b : Tree) → height b ≤ height (alt a b)
alt_above a b = omega arith

part_low : (a b : Tree) → height (cat a b) ≤ 250 → height a ≤ 250
part_low a b h = let k : max (min (height a + 1) (2 ^ 64 - 1)) (height b) ≤ 250 = h in omega (arith, k)

body_low : (n : ℕ) → capped (n + 1) ≤ 250 → n ≤ 250
body_low n h = let k : min (n + 1) (2 ^ 64 - 1) ≤ 250 = h in omega (arith, k)

no_parts : (P : List Tree → Type 0) (parts : List Tree) (n : ℕ) → length parts ≡ n → n ≡ 0 → P [] → P parts
no_parts P [] n e z h = h
no_parts P (p ∷ parts) n e z h = absurd (omega (arith, e, z))

module _ (reads : IsReader hex_bytes IsHex) (s : QueryValue) (done : List Tree) where
  abbrev at_stack : List Tree → QueryValue
  at_stack stack = state s done stack

  -- a line that pushes a tree
  pushed : (w : List ℕ) (ws : Line) (below : List Tree) (new : Tree) → plain w ≡ true → list_all plain ws ≡ true → height new ≤ 250
      → ((before after : QueryValue) → Replaces before after [] new → Takes (w ∷ ws) before after)
      → AreTaken ((w ∷ ws) ∷ []) (at_stack (below ++ [])) (at_stack (below ++ new ∷ []))
  pushed w ws below new p q low takes =
      taken_line w ws (at_stack (below ++ [])) (at_stack (below ++ new ∷ [])) p q
      (takes (at_stack (below ++ [])) (at_stack (below ++ new ∷ []))
      (record { below = below; stack_was = refl; stack_is = refl; patterns_stay = refl; setup_stays = refl; not_too_deep = low }))

  -- a tree that isn't the rest of another
  leaf : (w : List ℕ) (ws : Line) (n : ℕ) (parts below : List Tree) (new : Tree) → length parts ≡ n → n ≡ 0
      → plain w ≡ true → list_all plain ws ≡ true → height new ≤ 250
      → ((before after : QueryValue) → Replaces before after [] new → Takes (w ∷ ws) before after)
      → AreTaken ((w ∷ ws) ∷ []) (at_stack (below ++ parts)) (at_stack (below ++ new ∷ []))
  leaf w ws n parts below new len zero_is p q low takes =
      no_parts (λ ps. AreTaken ((w ∷ ws) ∷ []) (at_stack (below ++ ps)) (at_stack (below ++ new ∷ []))) parts n len zero_is
      (pushed w ws below new p q low takes)

  one_word : (w : List ℕ) → plain w ≡ true → list_all plain (w ∷ []) ≡ true
  one_word w p = rw p refl

  -- no tree is pushed but the one that matches nothing
  never_pushed : (n : ℕ) (parts below : List Tree) → length parts ≡ n → n ≡ 0
      → AreTaken ((codes "alt" ∷ decimal 0 ∷ []) ∷ []) (at_stack (below ++ parts)) (at_stack (below ++ never ∷ []))
  never_pushed n parts below len zero_is =
      leaf (codes "alt") (decimal 0 ∷ []) n parts below never len zero_is refl
      (one_word (decimal 0) (decimal_plain 0 (omega arith))) (omega arith)
      (λ b a r. alt_line (decimal 0) 0 [] refl (omega arith, refl) refl r)

  -- the lines of a whole tree
  alone : (x : Tree) (from : QueryValue) (below : List Tree)
      → (height (join x [] (printed_tree x)) ≤ 250 → AreTaken (lines_after 0 x) from (at_stack (below ++ join x [] (printed_tree x) ∷ [])))
      → height (printed_tree x) ≤ 250 → AreTaken (lines_after 0 x) from (at_stack (below ++ printed_tree x ∷ []))
  alone x from below go low =
      let e = join_none x (printed_tree x) in
      subst (λ (t : Tree). AreTaken (lines_after 0 x) from (at_stack (below ++ t ∷ []))) e
      (go (subst (λ (t : Tree). height t ≤ 250) (sym e) low))

  -- a part, and the rest
  then_rest : (a b : List Line) (below parts : List Tree) (p last whole : Tree) → last ≡ whole
      → AreTaken a (at_stack ((below ++ parts) ++ [])) (at_stack ((below ++ parts) ++ p ∷ []))
      → AreTaken b (at_stack (below ++ (parts ++ p ∷ []))) (at_stack (below ++ last ∷ []))
      → AreTaken (a ++ b) (at_stack (below ++ parts)) (at_stack (below ++ whole ∷ []))
  then_rest a b below parts p last whole e first rest =
      taken_append a b (at_stack (below ++ parts)) (at_stack (below ++ (parts ++ p ∷ []))) (at_stack (below ++ whole ∷ []))
      (subst (λ (stack : List Tree). AreTaken a (at_stack stack) (at_stack (below ++ (parts ++ p ∷ [])))) (append-nil (below ++ parts))
      (subst (λ (stack : List Tree). AreTaken a (at_stack ((below ++ parts) ++ [])) (at_stack stack))
      (append_assoc below parts (p ∷ [])) first))
      (subst (λ (t : Tree). AreTaken b (at_stack (below ++ (parts ++ p ∷ []))) (at_stack (below ++ t ∷ []))) e rest)

  -- the line that joins parts
  joins : (w : List ℕ) (n : ℕ) (parts below : List Tree) (is whole : Tree) → is ≡ whole → plain w ≡ true → n < 2 ^ 32 → height is ≤ 250
      → ((before after : QueryValue) → Replaces before after parts whole → Takes (w ∷ decimal n ∷ []) before after)
      → AreTaken ((w ∷ decimal n ∷ []) ∷ []) (at_stack (below ++ parts)) (at_stack (below ++ is ∷ []))
  joins w n parts below is whole e p small low takes =
      taken_line w (decimal n ∷ []) (at_stack (below ++ parts)) (at_stack (below ++ is ∷ [])) p
      (one_word (decimal n) (decimal_plain n small))
      (takes (at_stack (below ++ parts)) (at_stack (below ++ is ∷ []))
      (record {
        below = below;
        stack_was = refl;
        stack_is = ap (λ (t : Tree). below ++ t ∷ []) e;
        patterns_stay = refl;
        setup_stays = refl;
        not_too_deep = subst (λ (t : Tree). height t ≤ 250) e low;
      }))

  rounds : (min : ℕ) (most : Option ℕ) (greedy : Bool) (x : Tree) (below : List Tree) → HasLines 0 (repetition min most greedy x)
      → height (repetition min most greedy (printed_tree x)) ≤ 250
      → AreTaken (rounds_line min most greedy ∷ []) (at_stack (below ++ printed_tree x ∷ []))
      (at_stack (below ++ repetition min most greedy (printed_tree x) ∷ []))
  rounds min most greedy x below h low =
      taken_line (codes "rep") (decimal min ∷ bound_word most ∷ order_word greedy ∷ []) (at_stack (below ++ printed_tree x ∷ []))
      (at_stack (below ++ repetition min most greedy (printed_tree x) ∷ [])) refl
      (rw (decimal_plain min h.1, bound_plain most h.2, order_plain greedy) refl)
      (rep_line (decimal min) (bound_word most) (order_word greedy) min most greedy (printed_tree x) refl (h.1, refl) (bound_is most h.2)
      (order_is greedy) h.3
      (record { below = below; stack_was = refl; stack_is = refl; patterns_stay = refl; setup_stays = refl; not_too_deep = low }))

  taken_behind : (x : Tree) (n : ℕ) (parts below : List Tree) → length parts ≡ n → HasLines n x →
      height (join x parts (printed_tree x)) ≤ 250
      → AreTaken (lines_after n x) (at_stack (below ++ parts)) (at_stack (below ++ join x parts (printed_tree x) ∷ []))
  taken_behind empty n parts below len h low =
      leaf (codes "empty") [] n parts below empty len h refl refl low (λ b a r. empty_line refl r)
  taken_behind (literal []) n parts below len h low =
      leaf (codes "empty") [] n parts below empty len h.0 refl refl low (λ b a r. empty_line refl r)
  taken_behind (literal (b ∷ bytes)) n parts below len h low =
      leaf (codes "lit") (encode_lower (b ∷ bytes) ∷ []) n parts below (literal (b ∷ bytes)) len h.0 refl
      (one_word (encode_lower (b ∷ bytes)) (hex_plain (b ∷ bytes) h.1)) low
      (λ c a r. lit_line (encode_lower (b ∷ bytes)) (b ∷ bytes) refl (hex_is reads b bytes h.1) r)
  taken_behind (byte_class []) n parts below len h low = never_pushed n parts below len h.0
  taken_behind (byte_class (r ∷ ranges)) n parts below len h low =
      leaf (codes "bytes") (map byte_item (r ∷ ranges)) n parts below (byte_class (class_ranges (r ∷ ranges))) len h.0 refl
      (byte_items_plain (r ∷ ranges) h.1) low
      (λ b a p. bytes_line (map byte_item (r ∷ ranges)) (r ∷ ranges) refl (λ e. absurd (omega (arith, ap length e)))
      (byte_items_are (r ∷ ranges) h.1) p)
  taken_behind (char_class []) n parts below len h low = never_pushed n parts below len h.0
  taken_behind (char_class (r ∷ ranges)) n parts below len h low =
      leaf (codes "chars") (map scalar_item (r ∷ ranges)) n parts below (char_class (scalar_ranges (r ∷ ranges))) len h.0 refl
      (scalar_items_plain (r ∷ ranges)) low
      (λ b a p. chars_line (map scalar_item (r ∷ ranges)) (r ∷ ranges) refl (λ e. absurd (omega (arith, ap length e)))
      (scalar_items_are (r ∷ ranges) h.1) p)
  taken_behind (look l) n parts below len h low =
      leaf (codes "look") (look_name l ∷ []) n parts below (look l) len h refl (one_word (look_name l) (name_plain l)) low
      (λ b a r. look_line (look_name l) l refl refl r)
  taken_behind (repetition min most greedy x) n parts below len h low =
      no_parts (λ ps. AreTaken (lines_after n (repetition min most greedy x)) (at_stack (below ++ ps))
      (at_stack (below ++ repetition min most greedy (printed_tree x) ∷ []))) parts n len h.0
      (taken_append (lines_after 0 x) (rounds_line min most greedy ∷ []) (at_stack (below ++ [])) (at_stack (below ++ printed_tree x ∷ []))
      (at_stack (below ++ repetition min most greedy (printed_tree x) ∷ []))
      (alone x (at_stack (below ++ [])) below (taken_behind x 0 [] below refl h.4) (body_low (height (printed_tree x)) low))
      (rounds min most greedy x below (refl, h.1, h.2, h.3, h.4) low))
  taken_behind (capture index name x) n parts below len h low =
      no_parts (λ ps. AreTaken (lines_after 0 x) (at_stack (below ++ ps)) (at_stack (below ++ printed_tree x ∷ []))) parts n len h.0
      (alone x (at_stack (below ++ [])) below (taken_behind x 0 [] below refl h.1) low)
  taken_behind nothing n parts below len h low =
      joins (codes "cat") n parts below (joined cat parts nothing) (concat parts) (joined_concat parts) refl h low
      (λ b a r. cat_line (decimal n) n parts refl (h, refl) len r)
  taken_behind (cat x y) n parts below len h low =
      let e = join_cat y (parts ++ printed_tree x ∷ []) (printed_tree y) h.1 ∙ joined_push cat parts (printed_tree x) (printed_tree y) in
      let inner = rest_below cat cat_above parts (cat (printed_tree x) (printed_tree y)) in
      let part = part_low (printed_tree x) (printed_tree y) (omega (arith, inner, low)) in
      let more = length-append parts (printed_tree x ∷ []) in
      then_rest (lines_after 0 x) (lines_after (suc n) y) below parts (printed_tree x)
      (join y (parts ++ printed_tree x ∷ []) (printed_tree y))
      (joined cat parts (cat (printed_tree x) (printed_tree y))) e
      (alone x (at_stack ((below ++ parts) ++ [])) (below ++ parts) (taken_behind x 0 [] (below ++ parts) refl h.0) part)
      (taken_behind y (suc n) (parts ++ printed_tree x ∷ []) below (omega (arith, more, len)) h.2
      (subst (λ (t : Tree). height t ≤ 250) (sym e) low))
  taken_behind never n parts below len h low =
      joins (codes "alt") n parts below (joined alt parts never) (alternation parts) (joined_alternation parts) refl h low
      (λ b a r. alt_line (decimal n) n parts refl (h, refl) len r)
  taken_behind (alt x y) n parts below len h low =
      let e = join_alt y (parts ++ printed_tree x ∷ []) (printed_tree y) h.1 ∙ joined_push alt parts (printed_tree x) (printed_tree y) in
      let inner = rest_below alt alt_above parts (alt (printed_tree x) (printed_tree y)) in
      let part = part_low (printed_tree x) (printed_tree y) (omega (arith, inner, low)) in
      let more = length-append parts (printed_tree x ∷ []) in
      then_rest (lines_after 0 x) (lines_after (suc n) y) below parts (printed_tree x)
      (join y (parts ++ printed_tree x ∷ []) (printed_tree y))
      (joined alt parts (alt (printed_tree x) (printed_tree y))) e
      (alone x (at_stack ((below ++ parts) ++ [])) (below ++ parts) (taken_behind x 0 [] (below ++ parts) refl h.0) part)
      (taken_behind y (suc n) (parts ++ printed_tree x ∷ []) below (omega (arith, more, len)) h.2
      (subst (λ (t : Tree). height t ≤ 250) (sym e) low))

  -- the tree that is printed for x is on the stack after the lines of x
  pub tree_taken : (x : Tree) (below : List Tree) → FitsIn 250 x
      → AreTaken (lines_of x) (at_stack below) (at_stack (below ++ printed_tree x ∷ []))
  tree_taken x below fits =
      subst (λ (stack : List Tree). AreTaken (lines_of x) (at_stack stack) (at_stack (below ++ printed_tree x ∷ []))) (append-nil below)
      (alone x (at_stack (below ++ [])) below (taken_behind x 0 [] below refl fits.0) fits.1)
