-- A line without a fault is taken or ends the query, and a line that is taken has no fault and one effect.
use Rattle.std.proofs.Common.{◌≡◌, ◌≢◌, ℕ, ◌-◌, ◌≤◌, Bool, true, false, not, ◌||◌, List, [], ◌∷◌, ◌++◌, length, get_or, map, Option, Some}
use Rattle.std.proofs.Common.{None, Result, Ok, Err, IfOk, nat_lt, nat_le, refl, sym, ◌∙◌, ap, arith, codes, length-drop}
use Rattle.std.proofs.lemmas.Bool.{and_parts, or_parts, eqb-true, ltb-false, leb-true, not-false}
use Rattle.std.proofs.lemmas.List.{take-append-drop}
use Rattle.hir_core.specs.Tree.{Tree, empty, literal, byte_class, char_class, look, repetition, concat, alternation}
use Rattle.hir_core.specs.Means.{AtMost}
use Rattle.hir_core.specs.Facts.{height}
use Rattle.hirscan.specs.declared.fault.FaultKind.{FaultKind}
use Rattle.hirscan.specs.declared.fault.FaultKind.TheVariants.{SettingAfterNode, WrongWordCount, BadNumber, BadChoice, MinAboveMax}
use Rattle.hirscan.specs.declared.fault.FaultKind.TheVariants.{TooFewTrees, TooDeep, NotOneTree, TreeLeftOver}
use Rattle.hirscan.specs.declared.words.LineWord.{LineWord}
use Rattle.hirscan.specs.declared.words.LineWord.TheVariants.{Utf8, Line, Capacity, Quit, Classes, Shrink, Anchored, Span, Empty, Lit}
use Rattle.hirscan.specs.declared.words.LineWord.TheVariants.{Bytes, Chars, Look, Rep, Cat, Alt, Pattern, Find}
use Rattle.hirscan.specs.declared.line.Step.TheVariants.{Next}
use Rattle.hirscan.specs.declared.line.Setup.{Setup}
use Rattle.hirscan.specs.Words.{class_ranges, scalar_ranges}
use Rattle.hirscan.specs.Readers.{spelling, line_word, number, the_number, bound, the_bound, order, the_order, the_switch, the_yes_or_no}
use Rattle.hirscan.specs.Readers.{the_bytes, the_byte, the_ends, the_hex_ends, the_look_named, word_at}
use Rattle.hirscan.specs.Takes.{QueryValue, HasNoNode, Sets, Replaces, Takes, EndsQuery}
use Rattle.hirscan.specs.Takes.{utf8_line, line_line, two_bytes_line, capacity_line, quit_line, classes_line, shrink_line, anchored_line}
use Rattle.hirscan.specs.Takes.{span_line}
use Rattle.hirscan.specs.Takes.{empty_line, lit_line, bytes_line, chars_line, look_line, rep_line, cat_line, alt_line, pattern_line}
use Rattle.hirscan.specs.LineFault.{first_fault_of, when, unless_read, byte_fault, word_fault, is_setting_after_node, is_word_count}
use Rattle.hirscan.specs.LineFault.{is_at_most}
use Rattle.hirscan.specs.LineFault.{is_min_above_max, top, below, has_too_few_trees, is_too_deep, has_not_one_tree, has_tree_left_over}
use Rattle.hirscan.specs.LineFault.{known_fault, setup_after, after_line}
use Rattle.hirscan.specs.declared.line.Step.{Step}
use Rattle.hirscan.specs.QueryReports.{step_after, ReportsStep}
use Rattle.hirscan.proofs.StageLemmas.{first_none, when_none}
use Rattle.hirscan.proofs.SaysLemmas.{line_word_spelled, number_says, bound_says, order_says, switch_says, yes_says, hex_bytes_says}
use Rattle.hirscan.proofs.SaysLemmas.{hex_byte_says, items_say, scalar_items_say, look_says}

-- what each kind of fault says if there is none
pub record NoFault (k : LineWord) (args : List (List ℕ)) (at : QueryValue) : Type 0 where
  pub settable : is_setting_after_node k at ≡ false
  pub counted : is_word_count k (length args) ≡ true
  pub words_fit : word_fault k args ≡ None
  pub in_order : is_min_above_max k args ≡ false
  pub enough : has_too_few_trees k args at ≡ false
  pub flat : is_too_deep k args at ≡ false
  pub one_tree : has_not_one_tree k at ≡ false
  pub none_left : has_tree_left_over k at ≡ false

pub no_fault_parts : (k : LineWord) (args : List (List ℕ)) (at : QueryValue) → known_fault k args at ≡ None → NoFault k args at
no_fault_parts k args at h =
    let a = first_none (when (is_setting_after_node k at) SettingAfterNode) _ h in
    let b = first_none (when (not (is_word_count k (length args))) WrongWordCount) _ a.1 in
    let c = first_none (word_fault k args) _ b.1 in
    let d = first_none (when (is_min_above_max k args) MinAboveMax) _ c.1 in
    let e = first_none (when (has_too_few_trees k args at) TooFewTrees) _ d.1 in
    let f = first_none (when (is_too_deep k args at) TooDeep) _ e.1 in
    let g = first_none (when (has_not_one_tree k at) NotOneTree) _ f.1 in
    let i = first_none (when (has_tree_left_over k at) TreeLeftOver) _ g.1 in
    record {
      settable = when_none _ SettingAfterNode a.0;
      counted = not-false _ (when_none _ WrongWordCount b.0);
      words_fit = c.0;
      in_order = when_none _ MinAboveMax d.0;
      enough = when_none _ TooFewTrees e.0;
      flat = when_none _ TooDeep f.0;
      one_tree = when_none _ NotOneTree g.0;
      none_left = when_none _ TreeLeftOver i.0;
    }

first_skips : (a : Option FaultKind) (rest : List (Option FaultKind)) → a ≡ None → first_fault_of rest ≡ None →
    first_fault_of (a ∷ rest) ≡ None
first_skips a rest e f = rw e f

when_false : (b : Bool) (k : FaultKind) → b ≡ false → when b k ≡ None
when_false b k e = rw e refl

pub no_fault_from_parts : (k : LineWord) (args : List (List ℕ)) (at : QueryValue) → NoFault k args at → known_fault k args at ≡ None
no_fault_from_parts k args at p =
    first_skips _ _ (when_false _ SettingAfterNode p.settable)
    (first_skips _ _ (when_false _ WrongWordCount (ap not p.counted))
    (first_skips _ _ p.words_fit
    (first_skips _ _ (when_false _ MinAboveMax p.in_order)
    (first_skips _ _ (when_false _ TooFewTrees p.enough)
    (first_skips _ _ (when_false _ TooDeep p.flat)
    (first_skips _ _ (when_false _ NotOneTree p.one_tree)
    (first_skips _ _ (when_false _ TreeLeftOver p.none_left) refl)))))))

-- so many words are those at their indices
no_words : {X : Type 0} (xs : List X) → length xs ≡ 0 → xs ≡ []
no_words [] h = refl
no_words (x ∷ xs) h = absurd (omega arith)

one_alone : {X : Type 0} (xs : List X) (d : X) → length xs ≡ 1 → xs ≡ get_or xs 0 d ∷ []
one_alone [] d h = absurd (omega arith)
one_alone (x ∷ []) d h = refl
one_alone (x ∷ y ∷ xs) d h = absurd (omega arith)

two_alone : (xs : List (List ℕ)) → length xs ≡ 2 → xs ≡ word_at xs 0 ∷ word_at xs 1 ∷ []
two_alone [] h = absurd (omega arith)
two_alone (x ∷ []) h = absurd (omega arith)
two_alone (x ∷ y ∷ []) h = refl
two_alone (x ∷ y ∷ z ∷ xs) h = absurd (omega arith)

three_alone : (xs : List (List ℕ)) → length xs ≡ 3 → xs ≡ word_at xs 0 ∷ word_at xs 1 ∷ word_at xs 2 ∷ []
three_alone [] h = absurd (omega arith)
three_alone (x ∷ []) h = absurd (omega arith)
three_alone (x ∷ y ∷ []) h = absurd (omega arith)
three_alone (x ∷ y ∷ z ∷ []) h = refl
three_alone (x ∷ y ∷ z ∷ w ∷ xs) h = absurd (omega arith)

some_words : (xs : List (List ℕ)) → nat_le 1 (length xs) ≡ true → xs ≢ []
some_words xs h e = let l = leb-true 1 (length xs) h in let k = ap length e in omega arith

-- the top trees of the stack become one
replaced_top : (at : QueryValue) (n : ℕ) (parts : List Tree) (new : Tree) → top n at.stack ≡ parts → height new ≤ 250
    → Replaces at (record { setup = at.setup; stack = below n at.stack ++ new ∷ []; patterns = at.patterns }) parts new
replaced_top at n parts new e h = record {
  below = below n at.stack;
  stack_was = sym (take-append-drop (length at.stack - n) at.stack) ∙ ap (λ t. below n at.stack ++ t) e;
  stack_is = refl;
  patterns_stay = refl;
  setup_stays = refl;
  not_too_deep = h;
}

top_none : (s : List Tree) → top 0 s ≡ []
top_none s = no_words _ (omega (arith, length-drop (length s - 0) s))

length-top : (n : ℕ) (s : List Tree) → n ≤ length s → length (top n s) ≡ n
length-top n s h = omega (arith, length-drop (length s - n) s)

at_most : (n : ℕ) (most : Option ℕ) → not (is_at_most n most) ≡ false → AtMost n most
at_most n None h = tt
at_most n (Some m) h = leb-true n m (not-false _ h)

height_in : (x : Tree) → nat_lt 250 (height x) ≡ false → height x ≤ 250
height_in x h = ltb-false 250 (height x) h

-- a line that sets something and has no fault comes before each node
no_node : (at : QueryValue) → (nat_lt 0 (length at.stack) || nat_lt 0 (length at.patterns)) ≡ false → HasNoNode at
no_node at h =
    let parts = or_parts _ _ h in
    record {
      stack_empty = no_words at.stack (let l = ltb-false 0 (length at.stack) parts.0 in omega arith);
      no_pattern = no_words at.patterns (let l = ltb-false 0 (length at.patterns) parts.1 in omega arith);
    }

set : (at : QueryValue) (new : Setup) → HasNoNode at → Sets at (record { setup = new; stack = at.stack; patterns = at.patterns }) new
set at new h = record { no_node = h; setup_is = refl; stack_stays = refl; patterns_stay = refl }

-- the terminator is one byte, or two
line_after : (args : List (List ℕ)) (at : QueryValue) → NoFault Line args at → Takes (spelling Line ∷ args) at (after_line Line args at)
line_after [] at p = absurd (let c = p.counted in cc)
line_after (w ∷ []) at p =
    let a = first_none (byte_fault w) [] p.words_fit in
    line_line w (the_byte w) refl (hex_byte_says w a.0) (set at (setup_after Line (w ∷ []) at.setup) (no_node at p.settable))
line_after (v ∷ w ∷ []) at p =
    let a = first_none (byte_fault v) (byte_fault w ∷ []) p.words_fit in
    let b = first_none (byte_fault w) [] a.1 in
    two_bytes_line v w (the_byte v) (the_byte w) refl (hex_byte_says v a.0) (hex_byte_says w b.0)
    (set at (setup_after Line (v ∷ w ∷ []) at.setup) (no_node at p.settable))
line_after (u ∷ v ∷ w ∷ ws) at p =
    let c = and_parts (nat_le 1 (length (u ∷ v ∷ w ∷ ws))) (nat_le (length (u ∷ v ∷ w ∷ ws)) 2) p.counted in
    let l = leb-true (length (u ∷ v ∷ w ∷ ws)) 2 c.1 in
    absurd (omega arith)

-- a line that isn't `find` and has no fault is taken, and does what its words say
pub takes_after : (k : LineWord) (args : List (List ℕ)) (at : QueryValue) → step_after k ≡ Next → NoFault k args at
    → Takes (spelling k ∷ args) at (after_line k args at)
takes_after Utf8 args at n p =
    let e = one_alone args [] (eqb-true _ _ p.counted) in
    utf8_line (word_at args 0) (the_switch (word_at args 0)) (ap (λ a. codes "utf8" ∷ a) e) (switch_says (word_at args 0) p.words_fit)
    (set at (setup_after Utf8 args at.setup) (no_node at p.settable))
takes_after Line args at n p = line_after args at p
takes_after Capacity args at n p =
    let e = one_alone args [] (eqb-true _ _ p.counted) in
    capacity_line (word_at args 0) (the_number (word_at args 0)) (ap (λ a. codes "capacity" ∷ a) e)
    (number_says (word_at args 0) p.words_fit)
    (set at (setup_after Capacity args at.setup) (no_node at p.settable))
takes_after Quit args at n p =
    let e = one_alone args [] (eqb-true _ _ p.counted) in
    quit_line (word_at args 0) (the_byte (word_at args 0)) (ap (λ a. codes "quit" ∷ a) e) (hex_byte_says (word_at args 0) p.words_fit)
    (set at (setup_after Quit args at.setup) (no_node at p.settable))
takes_after Classes args at n p =
    let e = one_alone args [] (eqb-true _ _ p.counted) in
    classes_line (word_at args 0) (the_switch (word_at args 0)) (ap (λ a. codes "classes" ∷ a) e)
    (switch_says (word_at args 0) p.words_fit)
    (set at (setup_after Classes args at.setup) (no_node at p.settable))
takes_after Shrink args at n p =
    let e = one_alone args [] (eqb-true _ _ p.counted) in
    shrink_line (word_at args 0) (the_switch (word_at args 0)) (ap (λ a. codes "shrink" ∷ a) e)
    (switch_says (word_at args 0) p.words_fit)
    (set at (setup_after Shrink args at.setup) (no_node at p.settable))
takes_after Anchored args at n p =
    let e = one_alone args [] (eqb-true _ _ p.counted) in
    anchored_line (word_at args 0) (the_yes_or_no (word_at args 0)) (ap (λ a. codes "anchored" ∷ a) e)
    (yes_says (word_at args 0) p.words_fit)
    (set at (setup_after Anchored args at.setup) (no_node at p.settable))
takes_after Span args at n p =
    let e = two_alone args (eqb-true _ _ p.counted) in
    let a = first_none (unless_read (number (word_at args 0)) BadNumber) _ p.words_fit in
    let b = first_none (unless_read (number (word_at args 1)) BadNumber) _ a.1 in
    span_line (word_at args 0) (word_at args 1) (the_number (word_at args 0)) (the_number (word_at args 1)) (ap (λ a. codes "span" ∷ a) e)
    (number_says (word_at args 0) a.0) (number_says (word_at args 1) b.0)
    (set at (setup_after Span args at.setup) (no_node at p.settable))
takes_after Empty args at n p =
    let e = no_words args (eqb-true _ _ p.counted) in
    empty_line (ap (λ a. codes "empty" ∷ a) e) (replaced_top at 0 [] empty (top_none at.stack) (height_in empty p.flat))
takes_after Lit args at n p =
    let e = one_alone args [] (eqb-true _ _ p.counted) in
    lit_line (word_at args 0) (the_bytes (word_at args 0)) (ap (λ a. codes "lit" ∷ a) e) (hex_bytes_says (word_at args 0) p.words_fit)
    (replaced_top at 0 [] _ (top_none at.stack) (height_in (literal (the_bytes (word_at args 0))) p.flat))
takes_after Bytes args at n p =
    bytes_line args (map the_ends args) refl (some_words args p.counted) (items_say args p.words_fit)
    (replaced_top at 0 [] _ (top_none at.stack) (height_in (byte_class (class_ranges (map the_ends args))) p.flat))
takes_after Chars args at n p =
    chars_line args (map the_hex_ends args) refl (some_words args p.counted) (scalar_items_say args p.words_fit)
    (replaced_top at 0 [] _ (top_none at.stack) (height_in (char_class (scalar_ranges (map the_hex_ends args))) p.flat))
takes_after Look args at n p =
    let e = one_alone args [] (eqb-true _ _ p.counted) in
    look_line (word_at args 0) (the_look_named (word_at args 0)) (ap (λ a. codes "look" ∷ a) e) (look_says (word_at args 0) p.words_fit)
    (replaced_top at 0 [] _ (top_none at.stack) (height_in (look (the_look_named (word_at args 0))) p.flat))
takes_after Rep args at n p =
    let e = three_alone args (eqb-true _ _ p.counted) in
    let a = first_none (unless_read (number (word_at args 0)) BadNumber) _ p.words_fit in
    let b = first_none (unless_read (bound (word_at args 1)) BadNumber) _ a.1 in
    let c = first_none (unless_read (order (word_at args 2)) BadChoice) _ b.1 in
    let enough = ltb-false (length at.stack) 1 p.enough in
    let min = the_number (word_at args 0) in
    let max = the_bound (word_at args 1) in
    let greedy = the_order (word_at args 2) in
    let x = get_or (top 1 at.stack) 0 empty in
    let one = one_alone (top 1 at.stack) empty (length-top 1 at.stack enough) in
    rep_line (word_at args 0) (word_at args 1) (word_at args 2) min max greedy x (ap (λ a. codes "rep" ∷ a) e)
    (number_says (word_at args 0) a.0) (bound_says (word_at args 1) b.0) (order_says (word_at args 2) c.0) (at_most _ _ p.in_order)
    (replaced_top at 1 _ _ one (height_in (repetition min max greedy x) p.flat))
takes_after Cat args at n p =
    let e = one_alone args [] (eqb-true _ _ p.counted) in
    let enough = ltb-false (length at.stack) (the_number (word_at args 0)) p.enough in
    cat_line (word_at args 0) (the_number (word_at args 0)) (top (the_number (word_at args 0)) at.stack)
    (ap (λ a. codes "cat" ∷ a) e) (number_says (word_at args 0) p.words_fit) (length-top _ at.stack enough)
    (replaced_top at (the_number (word_at args 0)) _ _ refl (height_in (concat (top (the_number (word_at args 0)) at.stack)) p.flat))
takes_after Alt args at n p =
    let e = one_alone args [] (eqb-true _ _ p.counted) in
    let enough = ltb-false (length at.stack) (the_number (word_at args 0)) p.enough in
    alt_line (word_at args 0) (the_number (word_at args 0)) (top (the_number (word_at args 0)) at.stack)
    (ap (λ a. codes "alt" ∷ a) e) (number_says (word_at args 0) p.words_fit) (length-top _ at.stack enough)
    (replaced_top at (the_number (word_at args 0)) _ _ refl (height_in (alternation (top (the_number (word_at args 0)) at.stack)) p.flat))
takes_after Pattern args at n p =
    let e = no_words args (eqb-true _ _ p.counted) in
    let one = one_alone at.stack empty (eqb-true _ _ (not-false _ p.one_tree)) in
    pattern_line (ap (λ a. codes "pattern" ∷ a) e) (record {
      tree = get_or at.stack 0 empty;
      stack_was = one;
      setup_stays = refl;
      stack_is = refl;
      patterns_are = ap (λ s. at.patterns ++ s) one;
    })
takes_after Find args at n p = absurd cc

-- a line `find` that has no fault ends the query
pub ends_head : (args : List (List ℕ)) (at : QueryValue) → NoFault Find args at → EndsQuery (spelling Find ∷ args) at
ends_head args at p = record {
  says_find = ap (λ a. codes "find" ∷ a) (no_words args (eqb-true _ _ p.counted));
  nothing_left = no_words at.stack (let l = ltb-false 0 (length at.stack) p.none_left in omega arith);
}

step_told : (k : LineWord) (args : List (List ℕ)) (at : QueryValue) → NoFault k args at
    → ReportsStep (spelling k ∷ args) at (after_line k args at) (step_after k)
step_told Find args at p = (ends_head args at p, refl)
step_told k args at p = takes_after k args at refl p

-- what a line that was followed says
pub line_done : {E : Type 0} (r : Result Step E) (ws args : List (List ℕ)) (w : List ℕ) (k : LineWord) (at now : QueryValue)
    → ws ≡ w ∷ args → line_word w ≡ Some k
    → IfOk r (λ step. (known_fault k args at ≡ None) × (now ≡ after_line k args at) × (step ≡ step_after k))
    → IfOk r (λ step. ReportsStep ws at now step)
line_done (Ok step) ws args w k at now e f h =
    let spelled : ws ≡ spelling k ∷ args = e ∙ ap (λ v. v ∷ args) (line_word_spelled w k f) in
    rw (spelled, h.1, h.2) (step_told k args at (no_fault_parts k args at h.0))
line_done (Err x) ws args w k at now e f h = tt
