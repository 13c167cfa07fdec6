-- What is known by a start, forward and in reverse.
use Rattle.std.proofs.Common.{is_none, sym, ◌∙◌, ◌≡◌, ℕ, ◌≤◌, ◌==◌, true, false, List, length, ap}
use Rattle.search_core.specs.Text.{byte_at, byte_before}
use Rattle.look_core.specs.LookSets.{has_look}
use Rattle.look_core.specs.Looks.{holds_ascii, is_byte}
use Rattle.look_core.specs.Codes.{reversed}
use Rattle.look_core.specs.Terminators.{Terminator}
use Rattle.look_core.specs.declared.look.Look.{Look}
use Rattle.determinize_core.specs.Starts.{start_of}
use Rattle.determinize_core.specs.LookBehind.{families_of, look_behind}
use Rattle.determinize_core.proofs.EdgeLemmas.{none_before, none_at}
use Rattle.determinize_core.proofs.LookBehindLemmas.{Allows, known_holds}
use Rattle.std.proofs.lemmas.Bool.{or_left, or_right}

forward : (t : Terminator) (h : List ℕ) (i : ℕ) → i ≤ length h → Allows false t (byte_before h i) (λ l. holds_ascii t h l i ≡ true)
forward t h i l = record {
  edge = λ e. sym (none_before h i l) ∙ ap is_none e;
  edge_of_line = λ e. or_left (i == 0) _ (sym (none_before h i l) ∙ ap is_none e);
  edge_of_crlf = λ e. or_left _ _ (or_left (i == 0) _ (sym (none_before h i l) ∙ ap is_none e));
  line = λ e. or_right (i == 0) _ e;
  line_feed = λ r e. or_left _ _ (or_right (i == 0) _ (ap (is_byte 0x0A) e));
  carriage_return = λ r e. cc;
  ascii = λ e. e;
  unicode = λ e. e;
}

reverse_of : (t : Terminator) (h : List ℕ) (i : ℕ) → i ≤ length h → Allows true t (byte_at h i) (λ l. holds_ascii t h (reversed l) i ≡ true)
reverse_of t h i l = record {
  edge = λ e. sym (none_at h i l) ∙ ap is_none e;
  edge_of_line = λ e. or_left (i == length h) _ (sym (none_at h i l) ∙ ap is_none e);
  edge_of_crlf = λ e. or_left _ _ (or_left (i == length h) _ (sym (none_at h i l) ∙ ap is_none e));
  line = λ e. or_right (i == length h) _ e;
  line_feed = λ r e. cc;
  carriage_return = λ r e. or_left _ _ (or_right (i == length h) _ (ap (is_byte 0x0D) e));
  ascii = λ e. e;
  unicode = λ e. e;
}

pub known_forward : (looks : ℕ) (t : Terminator) (h : List ℕ) (l : Look) (i : ℕ) → i ≤ length h →
    has_look (look_behind looks false t (start_of t (byte_before h i))).look_have l ≡ true → holds_ascii t h l i ≡ true
known_forward looks t h l i within = known_holds (families_of looks) false t (λ l. holds_ascii t h l i ≡ true) (byte_before h i)
    (forward t h i within) l

pub known_in_reverse : (looks : ℕ) (t : Terminator) (h : List ℕ) (l : Look) (i : ℕ) → i ≤ length h →
    has_look (look_behind looks true t (start_of t (byte_at h i))).look_have l ≡ true → holds_ascii t h (reversed l) i ≡ true
known_in_reverse looks t h l i within =
    known_holds (families_of looks) true t (λ l. holds_ascii t h (reversed l) i ≡ true) (byte_at h i) (reverse_of t h i within) l
