-- What each line of a query does: one rule for each line of the notation.
use Rattle.std.specs.Prelude.{◌≡◌, ◌≢◌, ℕ, ◌≤◌, Bool, true, false, List, [], ◌∷◌, ◌++◌, length, slice_set, Option, Some, None, codes}
use Rattle.look_core.specs.declared.look.Look.{Look}
use Rattle.look_core.specs.Terminators.{Terminator, one_of, two_of}
use Rattle.hir_core.specs.Tree.{Tree, empty, literal, byte_class, char_class, look, repetition, concat, alternation}
use Rattle.hir_core.specs.Means.{AtMost}
use Rattle.hir_core.specs.Facts.{height}
use Rattle.search_types.specs.declared.span.Span.{Span}
use Rattle.lazy_dfa.specs.ConfigValue.{DfaOptions}
use Rattle.lazy_dfa.specs.ConfigValue.{by_hand}
use Rattle.hirscan.specs.declared.line.Setup.{Setup}
use Rattle.hir_regex.specs.declared.settings.Settings.{Settings}
use Rattle.hir_regex.specs.Built.{default_settings}
use Rattle.hirscan.specs.Words.{IsNumber, IsBound, IsGreedy, IsSwitch, IsYes, IsHex, IsHexByte, IsLookName, AreItems, AreScalarItems}
use Rattle.hirscan.specs.Words.{class_ranges, scalar_ranges}

-- the state before a line: the setup of the search, the trees on the stack, the last pushed last, and the patterns that
-- were taken
pub record QueryValue : Type 0 where
  pub setup : Setup
  pub stack : List Tree
  pub patterns : List Tree

-- the state before the first line
abbrev pub at_first : QueryValue
at_first = record { setup = record { settings = default_settings; anchored = false; span = None }; stack = []; patterns = [] }

-- ---- what lines set

abbrev pub with_query_anchored : Bool → Setup → Setup
with_query_anchored anchored was = record was { anchored = anchored }

abbrev pub with_query_span : Span → Setup → Setup
with_query_span span was = record was { span = Some span }

abbrev pub with_settings : Settings → Setup → Setup
with_settings settings was = record was { settings = settings }

abbrev pub with_utf8 : Bool → Setup → Setup
with_utf8 on was = with_settings (record was.settings { utf8 = on }) was

abbrev pub with_terminator : Terminator → Setup → Setup
with_terminator t was = with_settings (record was.settings { line_terminator = t }) was

abbrev pub with_shrink : Bool → Setup → Setup
with_shrink on was = with_settings (record was.settings { shrink = on }) was

abbrev pub with_dfa : DfaOptions → Setup → Setup
with_dfa dfa was = with_settings (record was.settings { dfa = dfa }) was

abbrev pub with_capacity : ℕ → Setup → Setup
with_capacity n was = with_dfa (record was.settings.dfa { cache_capacity = Some n }) was

abbrev pub with_classes : Bool → Setup → Setup
with_classes on was = with_dfa (record was.settings.dfa { byte_classes = Some on }) was

-- one more byte at which searches give up
abbrev pub with_quit : ℕ → Setup → Setup
with_quit b was = with_dfa (record was.settings.dfa { quit_set = Some (slice_set (by_hand was.settings.dfa) b true) }) was

-- ---- what lines do

-- No line before this one pushed a tree. A tree that was pushed is on the stack, itself or within another tree, or was
-- taken as a pattern.
pub record HasNoNode (at : QueryValue) : Type 0 where
  pub stack_empty : at.stack ≡ []
  pub no_pattern : at.patterns ≡ []

-- from now on the search has this setup
pub record Sets (before after : QueryValue) (new : Setup) : Type 0 where
  pub no_node : HasNoNode before
  pub setup_is : after.setup ≡ new
  pub stack_stays : after.stack ≡ before.stack
  pub patterns_stay : after.patterns ≡ before.patterns

-- the top trees of the stack, lowest first, become one tree, whose height is at most 250
pub record Replaces (before after : QueryValue) (top : List Tree) (new : Tree) : Type 0 where
  pub below : List Tree
  pub stack_was : before.stack ≡ below ++ top
  pub stack_is : after.stack ≡ below ++ new ∷ []
  pub patterns_stay : after.patterns ≡ before.patterns
  pub setup_stays : after.setup ≡ before.setup
  pub not_too_deep : height new ≤ 250

-- the one tree on the stack becomes the next pattern
pub record TakesPattern (before after : QueryValue) : Type 0 where
  pub tree : Tree
  pub stack_was : before.stack ≡ tree ∷ []
  pub setup_stays : after.setup ≡ before.setup
  pub stack_is : after.stack ≡ []
  pub patterns_are : after.patterns ≡ before.patterns ++ tree ∷ []

-- a line of these words leads from the state before it to the state after it
pub data Takes (ws : List (List ℕ)) (before after : QueryValue) : Type 0 where
  utf8_line : (w : List ℕ) (on : Bool) → ws ≡ codes "utf8" ∷ w ∷ [] → IsSwitch w on →
      Sets before after (with_utf8 on before.setup) → Takes ws before after
  line_line : (w : List ℕ) (b : ℕ) → ws ≡ codes "line" ∷ w ∷ [] → IsHexByte w b →
      Sets before after (with_terminator (one_of b) before.setup) → Takes ws before after
  two_bytes_line : (v w : List ℕ) (b c : ℕ) → ws ≡ codes "line" ∷ v ∷ w ∷ [] → IsHexByte v b → IsHexByte w c →
      Sets before after (with_terminator (two_of b c) before.setup) → Takes ws before after
  capacity_line : (w : List ℕ) (n : ℕ) → ws ≡ codes "capacity" ∷ w ∷ [] → IsNumber w n →
      Sets before after (with_capacity n before.setup) → Takes ws before after
  quit_line : (w : List ℕ) (b : ℕ) → ws ≡ codes "quit" ∷ w ∷ [] → IsHexByte w b →
      Sets before after (with_quit b before.setup) → Takes ws before after
  classes_line : (w : List ℕ) (on : Bool) → ws ≡ codes "classes" ∷ w ∷ [] → IsSwitch w on →
      Sets before after (with_classes on before.setup) → Takes ws before after
  shrink_line : (w : List ℕ) (on : Bool) → ws ≡ codes "shrink" ∷ w ∷ [] → IsSwitch w on →
      Sets before after (with_shrink on before.setup) → Takes ws before after
  anchored_line : (w : List ℕ) (anchored : Bool) → ws ≡ codes "anchored" ∷ w ∷ [] → IsYes w anchored →
      Sets before after (with_query_anchored anchored before.setup) → Takes ws before after
  span_line : (low high : List ℕ) (s e : ℕ) → ws ≡ codes "span" ∷ low ∷ high ∷ [] → IsNumber low s → IsNumber high e →
      Sets before after (with_query_span (record { start = s; end = e }) before.setup) → Takes ws before after
  empty_line : ws ≡ codes "empty" ∷ [] → Replaces before after [] empty → Takes ws before after
  lit_line : (w bytes : List ℕ) → ws ≡ codes "lit" ∷ w ∷ [] → IsHex w bytes → Replaces before after [] (literal bytes) →
      Takes ws before after
  bytes_line : (items : List (List ℕ)) (ranges : List (ℕ × ℕ)) → ws ≡ codes "bytes" ∷ items → items ≢ [] → AreItems items ranges →
      Replaces before after [] (byte_class (class_ranges ranges)) → Takes ws before after
  chars_line : (items : List (List ℕ)) (ranges : List (ℕ × ℕ)) → ws ≡ codes "chars" ∷ items → items ≢ [] → AreScalarItems items ranges →
      Replaces before after [] (char_class (scalar_ranges ranges)) → Takes ws before after
  look_line : (w : List ℕ) (l : Look) → ws ≡ codes "look" ∷ w ∷ [] → IsLookName w l → Replaces before after [] (look l) →
      Takes ws before after
  rep_line : (low high order : List ℕ) (min : ℕ) (max : Option ℕ) (greedy : Bool) (x : Tree) →
      ws ≡ codes "rep" ∷ low ∷ high ∷ order ∷ [] → IsNumber low min → IsBound high max → IsGreedy order greedy → AtMost min max →
      Replaces before after (x ∷ []) (repetition min max greedy x) → Takes ws before after
  cat_line : (w : List ℕ) (n : ℕ) (parts : List Tree) → ws ≡ codes "cat" ∷ w ∷ [] → IsNumber w n → length parts ≡ n →
      Replaces before after parts (concat parts) → Takes ws before after
  alt_line : (w : List ℕ) (n : ℕ) (parts : List Tree) → ws ≡ codes "alt" ∷ w ∷ [] → IsNumber w n → length parts ≡ n →
      Replaces before after parts (alternation parts) → Takes ws before after
  pattern_line : ws ≡ codes "pattern" ∷ [] → TakesPattern before after → Takes ws before after

-- a line of these words ends the query
pub record EndsQuery (ws : List (List ℕ)) (before : QueryValue) : Type 0 where
  pub says_find : ws ≡ codes "find" ∷ []
  pub nothing_left : before.stack ≡ []
