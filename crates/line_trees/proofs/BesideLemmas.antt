-- What is next to an offset of a line, as a byte and as a character, is what is there in a block with that line. The exceptions are the
-- line's edges, where the line has nothing and the block nothing or a line feed. A line feed is a character of its own: it neither begins
-- nor continues a longer spelling, whatever bytes are next to it, so no character reaches over the edges.
use Rattle.std.proofs.Common.{◌≡◌, ℕ, zero, suc, ◌+◌, ◌-◌, ◌<◌, ◌≤◌, ◌⊎◌, inl, inr, Bool, true, false, List, [], ◌∷◌, ◌++◌, length, get_or}
use Rattle.std.proofs.Common.{take, drop}
use Rattle.std.proofs.Common.{slice_get, Option, Some, None, refl, sym, ap, subst, ◌∙◌, arith, length-append, length-drop}
use Rattle.std.proofs.Common.{drop-drop, append_assoc, take_at, drop_at, take-append-drop}
use Rattle.std.proofs.lemmas.Bool.{cases_lt}
use Rattle.std.proofs.lemmas.List.{get_or-append_right, get_or_append_left, get_or-append-add, get_or_push, take-append-le, drop-append-le}
use Rattle.std.proofs.lemmas.Option.{slice_get_past}
use Rattle.search_core.specs.Text.{byte_at, byte_before}
use Rattle.search_core.specs.Utf8.{IsContinuation, Spells, SpellsFirst, SpellsLast}
use Rattle.search_core.specs.Utf8.Spells.{from_0000}
use Rattle.search_core.specs.Characters.{character_at, character_before}
use Rattle.search_core.proofs.ForCallers.{spelling_tails, character_begins, begun_character, ended_character}
use Rattle.line_trees.specs.LineTrees.{FollowsLine}
use Rattle.line_trees.proofs.ReachLemmas.{character_reaches}

-- ---- bytes that are concatenated
get_behind : (xs ys : List ℕ) (i : ℕ) → slice_get (xs ++ ys) (length xs + i) ≡ slice_get ys i
get_behind [] ys i = let none : 0 + i ≡ i = omega arith in ap (slice_get ys) none
get_behind (x ∷ xs) ys i =
    let one : suc (length xs) + i ≡ suc (length xs + i) = omega arith in
    ap (slice_get (x ∷ (xs ++ ys))) one ∙ get_behind xs ys i

pub get_within : (xs ys : List ℕ) (i : ℕ) → i < length xs → slice_get (xs ++ ys) i ≡ slice_get xs i
get_within [] ys i l = absurd (omega arith)
get_within (x ∷ xs) ys zero l = refl
get_within (x ∷ xs) ys (suc i) l = get_within xs ys i (omega arith)

drop_behind : (xs ys : List ℕ) (i : ℕ) → drop (length xs + i) (xs ++ ys) ≡ drop i ys
drop_behind xs ys i = sym (drop-drop i (length xs) (xs ++ ys)) ∙ ap (drop i) (drop_at xs ys (length xs) refl)

-- what begins a haystack with more bytes after it, and isn't longer than the haystack, begins the haystack
pub begins_with : (text more s rest : List ℕ) → text ++ more ≡ s ++ rest → length s ≤ length text → text ≡ s ++ drop (length s) text
begins_with text more s rest e short =
    let begins : take (length s) text ≡ s =
    sym (take-append-le (length s) text more short) ∙ ap (take (length s)) e ∙ take_at s rest (length s) refl in
    sym (take-append-drop (length s) text) ∙ ap (λ (t : List ℕ). t ++ drop (length s) text) begins

-- ---- a spelling in a haystack is one in a longer haystack
first_of_more : (c : ℕ) (text more : List ℕ) → SpellsFirst c text → SpellsFirst c (text ++ more)
first_of_more c text more f = record {
  spelling = f.spelling;
  rest = f.rest ++ more;
  spells = f.spells;
  joined = ap (λ t. t ++ more) f.joined ∙ append_assoc f.spelling f.rest more;
}

-- ---- and vice versa, if the byte after the haystack continues nothing
module _ (c : ℕ) (text more : List ℕ) (some : 0 < length text) (low : get_or more 0 0 < 0x80) (f : SpellsFirst c (text ++ more)) where
  -- a longer spelling would have that byte, and not as its first
  first_is_short : length f.spelling ≤ length text
  first_is_short = elim (cases_lt (length text) (length f.spelling)) [
    | inl long ↦
        let tail : IsContinuation (get_or f.spelling (length text) 0) = spelling_tails c f.spelling f.spells (length text) some long in
        let none : length text - length text ≡ 0 = omega arith in
        let same : get_or f.spelling (length text) 0 ≡ get_or more 0 0 =
        sym (get_or_append_left f.spelling f.rest 0 (length text) long)
        ∙ ap (λ (t : List ℕ). get_or t (length text) 0) (sym f.joined)
        ∙ get_or-append_right text more (length text) (length text) 0 refl (omega arith)
        ∙ ap (λ (j : ℕ). get_or more j 0) none in
        absurd (omega (arith, tail.0, same, low))
    | inr short ↦ short
  ]

  first_of_less : SpellsFirst c text
  first_of_less = record {
    spelling = f.spelling;
    rest = drop (length f.spelling) text;
    spells = f.spells;
    joined = begins_with text more f.spelling f.rest f.joined first_is_short;
  }

-- ---- what follows a line
-- a byte with which the end of a line begins
abbrev pub IsEnding : ℕ → Type 0
IsEnding b = (b ≡ 0x0A) ⊎ (b ≡ 0x0D)

pub ending_is_low : (b : ℕ) → IsEnding b → b < 0x80
ending_is_low b (inl e) = omega (arith, e)
ending_is_low b (inr e) = omega (arith, e)

pub record BeginsEnd (after : List ℕ) : Type 0 where
  pub byte : ℕ
  pub rest : List ℕ
  pub ending : IsEnding byte
  pub joined : after ≡ byte ∷ rest

abbrev pub Follows : List ℕ → Type 0
Follows after = (after ≡ []) ⊎ BeginsEnd after

pub follows : (crlf : Bool) (line after : List ℕ) → FollowsLine crlf line after → Follows after
follows false line after (inl none) = inl none
follows false line after (inr r) = inr (record { byte = 0x0A; rest = r.0; ending = inl refl; joined = r.1 })
follows true line after (inl none) = inl none
follows true line after (inr (inl r)) = inr (record { byte = 0x0D; rest = r.0; ending = inr refl; joined = r.1 })
follows true line after (inr (inr r)) = inr (record { byte = 0x0A; rest = r.0.0; ending = inl refl; joined = r.0.1 })

-- ---- next to the offsets of a line
-- the byte after the line, and the one in front of it, are ASCII, if there are any
pub feed_behind : (after : List ℕ) → Follows after → get_or after 0 0 < 0x80
feed_behind after s =
    let Low : List ℕ → Type 0 = λ t. get_or t 0 0 < 0x80 in
    elim s [ inl e ↦ subst Low (sym e) (omega arith) | inr f ↦ subst Low (sym f.joined) (ending_is_low f.byte f.ending) ]

pub feed_in_front : (before : List ℕ) → (before ≡ []) ⊎ ((front : List ℕ) × (before ≡ front ++ (0x0A ∷ []))) →
    get_or before (length before - 1) 0 < 0x80
feed_in_front before s =
    let Low : List ℕ → Type 0 = λ t. get_or t (length t - 1) 0 < 0x80 in
    elim s [
      | inl e ↦ subst Low (sym e) (omega arith)
      | inr r ↦
          let n = length-append r.0 (0x0A ∷ []) in
          let feed = get_or_push r.0 0x0A 0 (length (r.0 ++ (0x0A ∷ [])) - 1) (omega (arith, n)) in
          subst Low (sym r.1) (omega (arith, feed))
    ]

-- two options of which each has the other's value
same_option : (o p : Option ℕ) → ((c : ℕ) → o ≡ Some c → p ≡ Some c) → ((c : ℕ) → p ≡ Some c → o ≡ Some c) → o ≡ p
same_option None None f g = refl
same_option (Some c) p f g = sym (f c refl)
same_option None (Some c) f g = g c refl

module _ (before line after : List ℕ) where
  fits : (i : ℕ) → i ≤ length line → length before + i ≤ length (before ++ (line ++ after))
  fits i l = omega (arith, length-append before (line ++ after), length-append line after)

  pub rest_in_block : (i : ℕ) → i ≤ length line → drop (length before + i) (before ++ (line ++ after)) ≡ drop i line ++ after
  rest_in_block i l = drop_behind before (line ++ after) i ∙ drop-append-le i line after l

  pub same_byte_at : (i : ℕ) → i < length line → byte_at line i ≡ byte_at (before ++ (line ++ after)) (length before + i)
  same_byte_at i l = sym (get_behind before (line ++ after) i ∙ get_within line after i l)

  pub same_byte_before : (i : ℕ) → i < length line →
      byte_before line (suc i) ≡ byte_before (before ++ (line ++ after)) (length before + suc i)
  same_byte_before i l =
      let one : suc (length before + i) ≡ length before + suc i = omega arith in
      same_byte_at i l ∙ ap (byte_before (before ++ (line ++ after))) one

  module _ (low : get_or after 0 0 < 0x80) (i : ℕ) (l : i < length line) where
    pub same_character_at : character_at line i ≡ character_at (before ++ (line ++ after)) (length before + i)
    same_character_at =
        let block : List ℕ = before ++ (line ++ after) in
        let rest = rest_in_block i (omega arith) in
        let some : 0 < length (drop i line) = omega (arith, length-drop i line) in
        same_option (character_at line i) (character_at block (length before + i))
        (λ c e. begun_character block (length before + i) c
        (subst (SpellsFirst c) (sym rest) (first_of_more c (drop i line) after (character_begins line i c e))))
        (λ c e. begun_character line i c
        (first_of_less c (drop i line) after some low (subst (SpellsFirst c) rest (character_begins block (length before + i) c e))))

  same_get : (i : ℕ) → i < length line → get_or line i 0 ≡ get_or (before ++ (line ++ after)) (length before + i) 0
  same_get i l = sym (get_or-append-add before (line ++ after) i 0 ∙ get_or_append_left line after 0 i l)

  low_in_front : get_or before (length before - 1) 0 < 0x80 → 0 < length before →
      get_or (before ++ (line ++ after)) (length before - 1) 0 < 0x80
  low_in_front low some = omega (arith, low, get_or_append_left before (line ++ after) 0 (length before - 1) (omega arith))

  pub same_character_before : get_or before (length before - 1) 0 < 0x80 → (i : ℕ) → 0 < i → i ≤ length line →
      character_before line i ≡ character_before (before ++ (line ++ after)) (length before + i)
  same_character_before low i above l =
      character_reaches line (before ++ (line ++ after)) (length before) i above l (fits i l)
      (λ j m. same_get j (omega arith)) (low_in_front low)

-- ---- next to the edges of the line
-- a line feed is a character, and so is a carriage return
feed_spells : Spells 0x0A (0x0A ∷ [])
feed_spells = from_0000 0x0A (omega arith, omega arith) refl refl

return_spells : Spells 0x0D (0x0D ∷ [])
return_spells = from_0000 0x0D (omega arith, omega arith) refl refl

ending_spells : (b : ℕ) → IsEnding b → Spells b (b ∷ [])
ending_spells b (inl e) = subst (λ (c : ℕ). Spells c (c ∷ [])) (sym e) feed_spells
ending_spells b (inr e) = subst (λ (c : ℕ). Spells c (c ∷ [])) (sym e) return_spells

-- in front of an offset of the block there is nothing, as it is the block's start, or a line feed
abbrev pub StartsLine : List ℕ → ℕ → Type 0
StartsLine h k = ((k ≡ 0) × (byte_before h k ≡ None)) ⊎ ((byte_before h k ≡ Some 0x0A) × (character_before h k ≡ Some 0x0A))

-- after it there is nothing, as it is the block's end, or the end of a line
pub record EndsWith (h : List ℕ) (k : ℕ) : Type 0 where
  pub byte : ℕ
  pub ending : IsEnding byte
  pub at : byte_at h k ≡ Some byte
  pub character : character_at h k ≡ Some byte

abbrev pub EndsLine : List ℕ → ℕ → Type 0
EndsLine h k = ((k ≡ length h) × (byte_at h k ≡ None)) ⊎ EndsWith h k

starts_behind_feed : (front more : List ℕ) (k : ℕ) → k ≡ length (front ++ (0x0A ∷ [])) → StartsLine ((front ++ (0x0A ∷ [])) ++ more) k
starts_behind_feed front more k e =
    let text : List ℕ = front ++ (0x0A ∷ []) in
    let block : List ℕ = text ++ more in
    let one : length text ≡ length front + 1 = length-append front (0x0A ∷ []) in
    let place : k ≡ suc (length front) = omega arith in
    let none : length front ≡ length front + 0 = omega arith in
    let byte : byte_before block k ≡ Some 0x0A =
    ap (byte_before block) place
    ∙ get_within text more (length front) (omega arith)
    ∙ ap (slice_get text) none
    ∙ get_behind front (0x0A ∷ []) 0 in
    let last : SpellsLast 0x0A (take k block) =
    record { front = front; spelling = 0x0A ∷ []; spells = feed_spells; joined = take_at text more k (sym e) } in
    inr (byte, ended_character block k 0x0A (omega (arith, length-append text more)) last)

pub starts_line : (before more : List ℕ) (k : ℕ) → (before ≡ []) ⊎ ((front : List ℕ) × (before ≡ front ++ (0x0A ∷ []))) →
    k ≡ length before → StartsLine (before ++ more) k
starts_line before more k s e = elim s [
  | inl none ↦
      let zero_place : k ≡ 0 = e ∙ ap length none in
      inl (zero_place, ap (byte_before (before ++ more)) zero_place)
  | inr r ↦
      subst (λ (b : List ℕ). StartsLine (b ++ more) k) (sym r.1) (starts_behind_feed r.0 more k (e ∙ ap length r.1))
]

-- the byte after a part of a haystack
pub byte_after : (front after rest : List ℕ) (k b : ℕ) → k ≡ length front → after ≡ b ∷ rest → byte_at (front ++ after) k ≡ Some b
byte_after front after rest k b e joined =
    let offset : k ≡ length front + 0 = omega (arith, e) in
    ap (slice_get (front ++ after)) offset ∙ get_behind front after 0 ∙ ap (λ (t : List ℕ). slice_get t 0) joined

pub ends_line_at : (front after : List ℕ) (k : ℕ) → Follows after → k ≡ length front → EndsLine (front ++ after) k
ends_line_at front after k s e =
    let sum = length-append front after in
    elim s [
      | inl none ↦
          let no_more = ap length none in
          let place : k ≡ length (front ++ after) = omega arith in
          inl (place, slice_get_past (front ++ after) k (omega arith))
      | inr f ↦
          inr (record {
            byte = f.byte;
            ending = f.ending;
            at = byte_after front after f.rest k f.byte e f.joined;
            character = begun_character (front ++ after) k f.byte (record {
              spelling = f.byte ∷ [];
              rest = f.rest;
              spells = ending_spells f.byte f.ending;
              joined = drop_at front after k (sym e) ∙ f.joined;
            });
          })
    ]
