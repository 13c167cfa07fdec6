-- What pieces write, and which groups they read.
use Rattle.std.proofs.Common.{IfSome, arith, ap₂, ◌≡◌, ℕ, ◌+◌, ◌*◌, ◌≤◌, ◌==◌, ◌||◌, ◌≢◌, if◌then◌else◌, ne_eqb, Bool, true, false, List, ◌∷◌, ◌++◌, Option, Some, None, drop, length, slice_range, refl, sym, ap, ◌∙◌, append_assoc, append-nil, []}
use Rattle.std.proofs.lemmas.List.{drop_all, get_or_past}
use Rattle.regex_syntax.specs.Grammar.{Names}
use Rattle.regex.specs.Templates.{written_after}
use Rattle.group_finder.specs.Slots.{no_offset}
use Rattle.templates.specs.declared.template.Piece.{Piece}
use Rattle.templates.specs.declared.template.Piece.TheVariants.{Literal, Group}
use Rattle.regex.specs.Replace.{bytes_of}
use Rattle.templates.specs.Slots.{slot_in, span_in, group_in}
use Rattle.templates.specs.Expansion.{pieces_text, text_or_none, greater, greatest_group}
use Rattle.templates.specs.Reading.{IsStep, AreReadFrom}

-- ---- pieces that are read
abbrev pub AreReadUpTo : Names → List ℕ → ℕ → List Piece → Type 0
AreReadUpTo names t at pieces =
    (group_text : ℕ → List ℕ) → pieces_text group_text pieces ++ written_after names group_text (drop at t) 0
    ≡ written_after names group_text t 0

joined : (old literal group rest with_literal new here : List ℕ) → with_literal ≡ old ++ literal → new ≡ with_literal ++ group →
    here ≡ (literal ++ group) ++ rest → new ++ rest ≡ old ++ here
joined old literal group rest with_literal new here e f g = rw (f, e, g) (simp append_assoc)

pub read_on : (names : Names) (t : List ℕ) (at : ℕ) (literal : List ℕ) (group : Option ℕ) (next : ℕ) (old with_literal new : List Piece) →
    AreReadUpTo names t at old → IsStep names t at literal group next →
    ((group_text : ℕ → List ℕ) → pieces_text group_text with_literal ≡ pieces_text group_text old ++ literal) →
    ((group_text : ℕ → List ℕ) → pieces_text group_text new ≡ pieces_text group_text with_literal ++ text_or_none group_text group) →
    AreReadUpTo names t next new
read_on names t at literal group next old with_literal new h step first second group_text =
    joined (pieces_text group_text old) literal (text_or_none group_text group) (written_after names group_text (drop next t) 0) _ _ _
    (first group_text) (second group_text) (step.writes group_text) ∙ h group_text

nothing_left : (names : Names) (group_text : ℕ → List ℕ) (t : List ℕ) (at : ℕ) → length t ≤ at → written_after names group_text (drop at t) 0 ≡ []
unfolding written_after
nothing_left names group_text t at le = rw (drop_all at t le) refl

pub read_whole : (names : Names) (t : List ℕ) (at : ℕ) (pieces : List Piece) → length t ≤ at → AreReadUpTo names t at pieces →
    AreReadFrom names t pieces
read_whole names t at pieces le h group_text =
    sym (append-nil _) ∙ ap (λ xs. pieces_text group_text pieces ++ xs) (sym (nothing_left names group_text t at le)) ∙ h group_text

-- ---- slots

none_second : (h : List ℕ) (s : ℕ × ℕ) (a : Bool) → bytes_of h (if a || true then None else Some s) ≡ []
none_second h s true = refl
none_second h s false = refl

pub no_start : (h slots : List ℕ) (n : ℕ) → slot_in slots (2 * n) ≡ no_offset → group_in h slots n ≡ []
unfolding span_in
no_start h slots n e =
    let test : (slot_in slots (2 * n) == no_offset) ≡ true = rw e refl in
    rw (span_in, test) refl

pub no_end : (h slots : List ℕ) (n : ℕ) → slot_in slots (2 * n + 1) ≡ no_offset → group_in h slots n ≡ []
unfolding span_in
no_end h slots n e =
    let test : (slot_in slots (2 * n + 1) == no_offset) ≡ true = rw e refl in
    rw (span_in, test) (none_second h _ (slot_in slots (2 * n) == no_offset))

pub no_slots : (h slots : List ℕ) (n : ℕ) → length slots ≤ 2 * n + 1 → group_in h slots n ≡ []
no_slots h slots n le = no_end h slots n (get_or_past slots (2 * n + 1) no_offset le)

pub both_slots : (h slots : List ℕ) (n : ℕ) → slot_in slots (2 * n) ≢ no_offset → slot_in slots (2 * n + 1) ≢ no_offset →
    group_in h slots n ≡ slice_range h (slot_in slots (2 * n)) (slot_in slots (2 * n + 1))
unfolding span_in
both_slots h slots n first second =
    let a : (slot_in slots (2 * n) == no_offset) ≡ false = ne_eqb _ no_offset first in
    let b : (slot_in slots (2 * n + 1) == no_offset) ≡ false = ne_eqb _ no_offset second in
    rw (span_in, a, b) refl

-- ---- groups that pieces read
module _ (a b : ℕ → List ℕ) where
  abbrev AgreeUpTo : Option ℕ → Type 0
  AgreeUpTo o = IfSome o (λ k. (n : ℕ) → n ≤ k → a n ≡ b n)

  agree_below : (o : Option ℕ) (n : ℕ) → AgreeUpTo (greater o n) → (a n ≡ b n) × AgreeUpTo o
  agree_below None n h = (h n (omega arith), tt)
  agree_below (Some k) n h = (h n (omega arith), λ j le. h j (omega (arith, le)))

  pub same_texts : (pieces : List Piece) → AgreeUpTo (greatest_group pieces) → pieces_text a pieces ≡ pieces_text b pieces
  same_texts [] h = refl
  same_texts (Literal bytes ∷ pieces) h = ap (λ xs. bytes.items ++ xs) (same_texts pieces h)
  same_texts (Group n ∷ pieces) h =
      let parts = agree_below (greatest_group pieces) n h in
      ap₂ ◌++◌ parts.0 (same_texts pieces parts.1)
