-- What a line that is taken does is what is read of its words.
use Rattle.std.proofs.Common.{◌≡◌, ◌≢◌, ℕ, suc, ◌+◌, ◌-◌, Bool, true, false, not, List, [], ◌∷◌, ◌++◌, length, take, drop, Option, Some}
use Rattle.std.proofs.Common.{None, nat_lt, nat_le, eqb, refl, sym, ◌∙◌, ap, arith, length-append}
use Rattle.std.specs.Prelude.{unwrap_or}
use Rattle.std.proofs.Math.Bool.{and-false}
use Rattle.std.proofs.lemmas.Bool.{le-ltb, le-leb}
use Rattle.std.proofs.lemmas.List.{take_at, drop_at}
use Rattle.look_core.specs.Terminators.{one_of, two_of}
use Rattle.look_core.specs.declared.look.Look.TheVariants.{Start}
use Rattle.hir_core.specs.Tree.{Tree, empty, literal, byte_class, char_class, look, repetition}
use Rattle.hir_core.specs.Means.{AtMost}
use Rattle.hir_core.specs.Facts.{height}
use Rattle.hirscan.specs.declared.fault.FaultKind.{FaultKind}
use Rattle.hirscan.specs.declared.fault.FaultKind.TheVariants.{BadNumber, BadHex, UnknownLook, BadChoice}
use Rattle.hirscan.specs.declared.words.LineWord.{LineWord}
use Rattle.hirscan.specs.declared.words.LineWord.TheVariants.{Utf8, Line, Capacity, Quit, Classes, Shrink, Anchored, Span, Empty, Lit}
use Rattle.hirscan.specs.declared.words.LineWord.TheVariants.{Bytes, Chars, Look, Rep, Cat, Alt, Pattern, Find}
use Rattle.hirscan.specs.declared.line.Setup.{Setup}
use Rattle.hirscan.specs.declared.line.Step.TheVariants.{Next}
use Rattle.hirscan.specs.Words.{class_ranges, scalar_ranges}
use Rattle.hirscan.specs.Readers.{spelling, number, the_number, bound, the_bound, order, the_order, switch, yes_or_no, hex_bytes, hex_byte}
use Rattle.hirscan.specs.Readers.{the_byte, look_named}
use Rattle.hirscan.specs.Takes.{QueryValue, HasNoNode, Sets, Replaces, Takes, with_utf8, with_terminator, with_capacity, with_quit}
use Rattle.hirscan.specs.Takes.{with_classes, with_shrink, with_query_anchored, with_query_span}
use Rattle.hirscan.specs.Takes.{utf8_line, line_line, two_bytes_line, capacity_line, quit_line, classes_line, shrink_line, anchored_line}
use Rattle.hirscan.specs.Takes.{span_line}
use Rattle.hirscan.specs.Takes.{empty_line, lit_line, bytes_line, chars_line, look_line, rep_line, cat_line, alt_line, pattern_line}
use Rattle.hirscan.specs.LineFault.{first_fault_of, unless_read, word_fault, is_at_most, is_word_count, is_min_above_max, needed, top}
use Rattle.hirscan.specs.LineFault.{below}
use Rattle.hirscan.specs.LineFault.{new_tree, is_setting, is_setting_after_node, has_too_few_trees, is_too_deep, has_not_one_tree}
use Rattle.hirscan.specs.LineFault.{has_tree_left_over, setup_after, after_setting, after_tree, after_line}
use Rattle.hirscan.specs.QueryReports.{step_after}
use Rattle.hirscan.proofs.SaysLemmas.{number_said, bound_said, order_said, switch_said, yes_said, hex_bytes_said, hex_byte_said, items_said}
use Rattle.hirscan.proofs.SaysLemmas.{scalar_items_said, look_said}
use Rattle.hirscan.proofs.TakesLemmas.{NoFault}

-- a line that was taken, by its first word
pub record Done (ws : List (List ℕ)) (p q : QueryValue) : Type 0 where
  pub word : LineWord
  pub args : List (List ℕ)
  pub says : ws ≡ spelling word ∷ args
  pub goes_on : step_after word ≡ Next
  pub no_fault : NoFault word args p
  pub is : q ≡ after_line word args p

abbrev stands : Setup → List Tree → List Tree → QueryValue
stands setup stack patterns = record { setup = setup; stack = stack; patterns = patterns }

same_standing : (p q : QueryValue) → p.setup ≡ q.setup → p.stack ≡ q.stack → p.patterns ≡ q.patterns → p ≡ q
same_standing p q d e f =
    ap (λ s. stands s p.stack p.patterns) d ∙ (ap (λ s. stands q.setup s p.patterns) e ∙ ap (λ s. stands q.setup q.stack s) f)

-- ---- lines that set something

-- of a line that sets something only its position, the count of its words and its words may be wrong
record SetsOnly (k : LineWord) (args : List (List ℕ)) (p : QueryValue) : Type 0 where
  goes_on : step_after k ≡ Next
  in_order : is_min_above_max k args ≡ false
  enough : has_too_few_trees k args p ≡ false
  flat : is_too_deep k args p ≡ false
  one_tree : has_not_one_tree k p ≡ false
  none_left : has_tree_left_over k p ≡ false
  is : after_line k args p ≡ after_setting k args p

sets_only : (k : LineWord) (args : List (List ℕ)) (p : QueryValue) → is_setting k ≡ true → SetsOnly k args p
sets_only Empty args p s = absurd cc
sets_only Lit args p s = absurd cc
sets_only Bytes args p s = absurd cc
sets_only Chars args p s = absurd cc
sets_only Look args p s = absurd cc
sets_only Rep args p s = absurd cc
sets_only Cat args p s = absurd cc
sets_only Alt args p s = absurd cc
sets_only Pattern args p s = absurd cc
sets_only Find args p s = absurd cc
sets_only k args p s =
    let enough = le-ltb (length p.stack) 0 (omega arith) in
    record { goes_on = refl; in_order = refl; enough = enough; flat = refl; one_tree = refl; none_left = refl; is = refl }

-- such a line comes before each node
before_nodes : (p : QueryValue) (k : LineWord) → HasNoNode p → is_setting_after_node k p ≡ false
before_nodes p k n = rw (n.stack_empty, n.no_pattern) (and-false (is_setting k))

set_done : (ws args : List (List ℕ)) (k : LineWord) (p q : QueryValue) (new : Setup) → is_setting k ≡ true
    → ws ≡ spelling k ∷ args → is_word_count k (length args) ≡ true → word_fault k args ≡ None → Sets p q new
    → setup_after k args p.setup ≡ new → Done ws p q
set_done ws args k p q new sets says counted fits s e =
    let only = sets_only k args p sets in
    record {
      word = k;
      args = args;
      says = says;
      goes_on = only.goes_on;
      no_fault = record {
        settable = before_nodes p k s.no_node;
        counted = counted;
        words_fit = fits;
        in_order = only.in_order;
        enough = only.enough;
        flat = only.flat;
        one_tree = only.one_tree;
        none_left = only.none_left;
      };
      is = same_standing q (after_setting k args p) (s.setup_is ∙ sym e) s.stack_stays s.patterns_stay ∙ sym only.is;
    }

-- ---- lines that make a tree

-- n trees of the stack became one
record Replaced (p q : QueryValue) (n : ℕ) (parts : List Tree) (new : Tree) : Type 0 where
  enough : nat_lt (length p.stack) n ≡ false
  top_is : top n p.stack ≡ parts
  flat : nat_lt 250 (height new) ≡ false
  is : q ≡ stands p.setup (below n p.stack ++ new ∷ []) p.patterns

replaced : (p q : QueryValue) (n : ℕ) (parts : List Tree) (new : Tree) → Replaces p q parts new → length parts ≡ n
    → Replaced p q n parts new
replaced p q n parts new r l =
    let len : length p.stack ≡ length r.below + n = omega (arith, ap length r.stack_was, length-append r.below parts) in
    let cut : length r.below ≡ length p.stack - n = omega arith in
    let low : below n p.stack ≡ r.below =
    ap (λ s. take (length p.stack - n) s) r.stack_was ∙ take_at r.below parts (length p.stack - n) cut in
    record {
      enough = le-ltb (length p.stack) n (omega arith);
      top_is = ap (λ s. drop (length p.stack - n) s) r.stack_was ∙ drop_at r.below parts (length p.stack - n) cut;
      flat = le-ltb 250 (height new) r.not_too_deep;
      is = same_standing q _ r.setup_stays (r.stack_is ∙ ap (λ s. s ++ new ∷ []) (sym low)) r.patterns_stay;
    }

-- the new tree, spelled another way
replaced_by : (p q : QueryValue) (n : ℕ) (parts : List Tree) (new other : Tree) → Replaced p q n parts new → other ≡ new
    → (nat_lt 250 (height other) ≡ false) × (q ≡ stands p.setup (below n p.stack ++ other ∷ []) p.patterns)
replaced_by p q n parts new other r e = rw e (r.flat, r.is)

-- a line that makes a tree may stand anywhere, takes no pattern and doesn't end the query
record MakesTree (k : LineWord) (args : List (List ℕ)) (p : QueryValue) : Type 0 where
  goes_on : step_after k ≡ Next
  settable : is_setting_after_node k p ≡ false
  one_tree : has_not_one_tree k p ≡ false
  none_left : has_tree_left_over k p ≡ false
  is : after_line k args p ≡ after_tree k args p

-- whether the line makes a tree
abbrev makes_tree : LineWord → Bool
makes_tree Pattern = false
makes_tree Find = false
makes_tree k = not (is_setting k)

tree_only : (k : LineWord) (args : List (List ℕ)) (p : QueryValue) → makes_tree k ≡ true → MakesTree k args p
tree_only Utf8 args p m = absurd cc
tree_only Line args p m = absurd cc
tree_only Capacity args p m = absurd cc
tree_only Quit args p m = absurd cc
tree_only Classes args p m = absurd cc
tree_only Shrink args p m = absurd cc
tree_only Anchored args p m = absurd cc
tree_only Span args p m = absurd cc
tree_only Pattern args p m = absurd cc
tree_only Find args p m = absurd cc
tree_only k args p m = record { goes_on = refl; settable = refl; one_tree = refl; none_left = refl; is = refl }

tree_done : (ws args : List (List ℕ)) (k : LineWord) (p q : QueryValue) (parts : List Tree) (new : Tree) → makes_tree k ≡ true
    → ws ≡ spelling k ∷ args → is_word_count k (length args) ≡ true → word_fault k args ≡ None
    → is_min_above_max k args ≡ false → length parts ≡ needed k args → new_tree k args parts ≡ new → Replaces p q parts new → Done ws p q
tree_done ws args k p q parts new made says counted fits ordered len e r =
    let only = tree_only k args p made in
    let d = replaced p q (needed k args) parts new r len in
    let same : new_tree k args (top (needed k args) p.stack) ≡ new = ap (new_tree k args) d.top_is ∙ e in
    let f = replaced_by p q (needed k args) parts new (new_tree k args (top (needed k args) p.stack)) d same in
    record {
      word = k;
      args = args;
      says = says;
      goes_on = only.goes_on;
      no_fault = record {
        settable = only.settable;
        counted = counted;
        words_fit = fits;
        in_order = ordered;
        enough = d.enough;
        flat = f.0;
        one_tree = only.one_tree;
        none_left = only.none_left;
      };
      is = f.1 ∙ sym only.is;
    }

same_repetition : (a b : ℕ) (m n : Option ℕ) (g h : Bool) (x : Tree) → a ≡ b → m ≡ n → g ≡ h → repetition a m g x ≡ repetition b n h x
same_repetition a b m n g h x d e f = cc

-- ---- words that were read

read : {A : Type 0} (o : Option A) (x : A) (k : FaultKind) → o ≡ Some x → unless_read o k ≡ None
read o x k e = rw e refl

not_above : (n : ℕ) (most : Option ℕ) → AtMost n most → not (is_at_most n most) ≡ false
not_above n None h = refl
not_above n (Some m) h = ap not (le-leb n m h)

above_same : (a b : ℕ) (m n : Option ℕ) → a ≡ b → m ≡ n → AtMost b n → not (is_at_most a m) ≡ false
above_same a b m n e f h = rw (e, f) (not_above b n h)

counted_items : (items : List (List ℕ)) → items ≢ [] → nat_le 1 (length items) ≡ true
counted_items [] h = absurd (h refl)
counted_items (w ∷ ws) h = le-leb 1 (suc (length ws)) (omega arith)

three_read : (a b c : Option FaultKind) → a ≡ None → b ≡ None → c ≡ None → first_fault_of (a ∷ b ∷ c ∷ []) ≡ None
three_read a b c e f g = rw (e, f, g) refl

two_read : (a b : Option FaultKind) → a ≡ None → b ≡ None → first_fault_of (a ∷ b ∷ []) ≡ None
two_read a b e f = rw (e, f) refl

one_read : (a : Option FaultKind) → a ≡ None → first_fault_of (a ∷ []) ≡ None
one_read a e = rw e refl

-- ---- each line

pub takes_done : (ws : List (List ℕ)) (p q : QueryValue) → Takes ws p q → Done ws p q
takes_done ws p q (utf8_line w on e is s) =
    let a = switch_said w on is in
    set_done ws (w ∷ []) Utf8 p q _ refl e refl (read (switch w) on BadChoice a) s (ap (λ o. with_utf8 (unwrap_or o false) p.setup) a)
takes_done ws p q (line_line w b e is s) =
    let a = hex_byte_said w b is in
    set_done ws (w ∷ []) Line p q _ refl e refl (one_read _ (read (hex_byte w) b BadHex a)) s
    (ap (λ o. with_terminator (one_of (unwrap_or o 0)) p.setup) a)
takes_done ws p q (two_bytes_line v w b c e is_first is_second s) =
    let a = hex_byte_said v b is_first in
    let d = hex_byte_said w c is_second in
    set_done ws (v ∷ w ∷ []) Line p q _ refl e refl (two_read _ _ (read (hex_byte v) b BadHex a) (read (hex_byte w) c BadHex d)) s
    (ap (λ o. with_terminator (two_of (unwrap_or o 0) (the_byte w)) p.setup) a
    ∙ ap (λ o. with_terminator (two_of b (unwrap_or o 0)) p.setup) d)
takes_done ws p q (capacity_line w n e is s) =
    let a = number_said w n is in
    set_done ws (w ∷ []) Capacity p q _ refl e refl (read (number w) n BadNumber a) s (ap (λ o. with_capacity (unwrap_or o 0) p.setup) a)
takes_done ws p q (quit_line w b e is s) =
    let a = hex_byte_said w b is in
    set_done ws (w ∷ []) Quit p q _ refl e refl (read (hex_byte w) b BadHex a) s (ap (λ o. with_quit (unwrap_or o 0) p.setup) a)
takes_done ws p q (classes_line w on e is s) =
    let a = switch_said w on is in
    set_done ws (w ∷ []) Classes p q _ refl e refl (read (switch w) on BadChoice a) s
    (ap (λ o. with_classes (unwrap_or o false) p.setup) a)
takes_done ws p q (shrink_line w on e is s) =
    let a = switch_said w on is in
    set_done ws (w ∷ []) Shrink p q _ refl e refl (read (switch w) on BadChoice a) s
    (ap (λ o. with_shrink (unwrap_or o false) p.setup) a)
takes_done ws p q (anchored_line w said e is s) =
    let a = yes_said w said is in
    set_done ws (w ∷ []) Anchored p q _ refl e refl (read (yes_or_no w) said BadChoice a) s
    (ap (λ o. with_query_anchored (unwrap_or o false) p.setup) a)
takes_done ws p q (span_line low high start end e is_start is_end s) =
    let a = number_said low start is_start in
    let b = number_said high end is_end in
    let words = two_read _ _ (read (number low) start BadNumber a) (read (number high) end BadNumber b) in
    set_done ws (low ∷ high ∷ []) Span p q _ refl e refl words s
    (ap (λ o. with_query_span (record { start = unwrap_or o 0; end = the_number high }) p.setup) a
    ∙ ap (λ o. with_query_span (record { start = start; end = unwrap_or o 0 }) p.setup) b)
takes_done ws p q (empty_line e r) = tree_done ws [] Empty p q [] empty refl e refl refl refl refl refl r
takes_done ws p q (lit_line w bytes e hex r) =
    let a = hex_bytes_said w bytes hex in
    tree_done ws (w ∷ []) Lit p q [] _ refl e refl (read (hex_bytes w) bytes BadHex a) refl refl (ap (λ o. literal (unwrap_or o [])) a) r
takes_done ws p q (bytes_line items ranges e some are r) =
    let a = items_said items ranges are in
    tree_done ws items Bytes p q [] _ refl e (counted_items items some) a.0 refl refl (ap (λ rs. byte_class (class_ranges rs)) a.1) r
takes_done ws p q (chars_line items ranges e some are r) =
    let a = scalar_items_said items ranges are in
    tree_done ws items Chars p q [] _ refl e (counted_items items some) a.0 refl refl (ap (λ rs. char_class (scalar_ranges rs)) a.1) r
takes_done ws p q (look_line w l e is r) =
    let a = look_said w l is in
    tree_done ws (w ∷ []) Look p q [] _ refl e refl (read (look_named w) l UnknownLook a) refl refl (ap (λ o. look (unwrap_or o Start)) a) r
takes_done ws p q (rep_line low high ord min max greedy x e is_min is_max is_order ordered r) =
    let a = number_said low min is_min in
    let b = bound_said high max is_max in
    let c = order_said ord greedy is_order in
    let a' : the_number low ≡ min = ap (λ o. unwrap_or o 0) a in
    let b' : the_bound high ≡ max = ap (λ o. unwrap_or o None) b in
    let c' : the_order ord ≡ greedy = ap (λ o. unwrap_or o false) c in
    let words =
    three_read _ _ _ (read (number low) min BadNumber a) (read (bound high) max BadNumber b) (read (order ord) greedy BadChoice c) in
    tree_done ws (low ∷ high ∷ ord ∷ []) Rep p q (x ∷ []) _ refl e refl words
    (above_same (the_number low) min (the_bound high) max a' b' ordered) refl
    (same_repetition (the_number low) min (the_bound high) max (the_order ord) greedy x a' b' c') r
takes_done ws p q (cat_line w n parts e is len r) =
    let a = number_said w n is in
    let count = len ∙ sym (ap (λ o. unwrap_or o 0) a) in
    tree_done ws (w ∷ []) Cat p q parts _ refl e refl (read (number w) n BadNumber a) refl count refl r
takes_done ws p q (alt_line w n parts e is len r) =
    let a = number_said w n is in
    let count = len ∙ sym (ap (λ o. unwrap_or o 0) a) in
    tree_done ws (w ∷ []) Alt p q parts _ refl e refl (read (number w) n BadNumber a) refl count refl r
takes_done ws p q (pattern_line e t) =
    record {
      word = Pattern;
      args = [];
      says = e;
      goes_on = refl;
      no_fault = record {
        settable = refl;
        counted = refl;
        words_fit = refl;
        in_order = refl;
        enough = le-ltb (length p.stack) 0 (omega arith);
        flat = refl;
        one_tree = ap (λ s. not (eqb (length s) 1)) t.stack_was;
        none_left = refl;
      };
      is = same_standing q _ t.setup_stays t.stack_is (t.patterns_are ∙ ap (λ s. p.patterns ++ s) (sym t.stack_was));
    }
