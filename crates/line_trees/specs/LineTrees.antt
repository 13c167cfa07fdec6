-- Input is searched in blocks of lines. A tree that is meant for one line is read for a block: where it asks for an edge of the haystack,
-- its line tree asks for an edge of a line. The law is that a line tree matches in the block what the tree matches in a line.
use Rattle.std.specs.Prelude.{◌≡◌, ◌≢◌, ◌==◌, ℕ, ◌+◌, ◌≤◌, ◌<◌, ◌⊎◌, Bool, true, false, ◌||◌, List, [], ◌∷◌, ◌++◌, length, slice_get, Some}
use Rattle.std.specs.Prelude.{if◌then◌else◌}
use Rattle.std.specs.List.{All, list_any}
use Rattle.search_core.specs.Text.{byte_before}
use Rattle.look_core.specs.Codes.{is_anchor_crlf}
use Rattle.look_core.specs.Looks.{holds}
use Rattle.look_core.specs.Terminators.{one_of}
use Rattle.look_core.specs.declared.look.Look.{Look}
use Rattle.look_core.specs.declared.look.Look.TheVariants.{Start, End, StartLF, EndLF, EndCRLF}
use Rattle.hir_core.specs.Tree.{Tree, empty, literal, byte_class, char_class, look, repetition, capture, nothing, cat, never, alt}
use Rattle.hir_core.specs.Means.{Looks, Means, is_member}

-- The look at the end of a line in a block. With `crlf` one carriage return right before the line feed belongs to the end of the line,
-- so the line ends before it.
abbrev pub line_end : Bool → Look
line_end crlf = if crlf then EndCRLF else EndLF

-- the look that holds in a block of lines if this one holds in a line of it
abbrev pub line_look : Bool → Look → Look
line_look crlf Start = StartLF
line_look crlf End = line_end crlf
line_look crlf EndLF = line_end crlf
line_look crlf l = l

-- the tree with each of its looks replaced in this way
abbrev pub line_tree : Bool → Tree → Tree
line_tree crlf empty = empty
line_tree crlf (literal bytes) = literal bytes
line_tree crlf (byte_class ranges) = byte_class ranges
line_tree crlf (char_class ranges) = char_class ranges
line_tree crlf (look l) = look (line_look crlf l)
line_tree crlf (repetition min most greedy x) = repetition min most greedy (line_tree crlf x)
line_tree crlf (capture index name x) = capture index name (line_tree crlf x)
line_tree crlf nothing = nothing
line_tree crlf (cat x y) = cat (line_tree crlf x) (line_tree crlf y)
line_tree crlf never = never
line_tree crlf (alt x y) = alt (line_tree crlf x) (line_tree crlf y)

-- Whether the tree has a look at carriage returns. If a line ends with a carriage return, these two looks hold after it in the line by
-- itself, which ends there. They don't hold there in the block, where a line feed follows. So the laws leave out trees that have them.
abbrev pub has_crlf : Tree → Bool
has_crlf empty = false
has_crlf (literal bytes) = false
has_crlf (byte_class ranges) = false
has_crlf (char_class ranges) = false
has_crlf (look l) = is_anchor_crlf l
has_crlf (repetition min most greedy x) = has_crlf x
has_crlf (capture index name x) = has_crlf x
has_crlf nothing = false
has_crlf (cat x y) = has_crlf x || has_crlf y
has_crlf never = false
has_crlf (alt x y) = has_crlf x || has_crlf y

-- Whether the tree may consume a line feed: a literal contains one, or a class has it. What a tree matches that consumes none lies in one
-- line.
abbrev pub reads_feed : Tree → Bool
reads_feed empty = false
reads_feed (literal bytes) = list_any (λ b. b == 0x0A) bytes
reads_feed (byte_class ranges) = is_member ranges 0x0A
reads_feed (char_class ranges) = is_member ranges 0x0A
reads_feed (look l) = false
reads_feed (repetition min most greedy x) = reads_feed x
reads_feed (capture index name x) = reads_feed x
reads_feed nothing = false
reads_feed (cat x y) = reads_feed x || reads_feed y
reads_feed never = false
reads_feed (alt x y) = reads_feed x || reads_feed y

-- What follows a line in a block: nothing, or its line feed and more. With `crlf`, the line was cut before the carriage return that
-- belongs to its end, which then follows. A line that is followed at once by its line feed doesn't end with a carriage return.
abbrev pub FollowsLine : Bool → List ℕ → List ℕ → Type 0
FollowsLine false line after = (after ≡ []) ⊎ ((rest : List ℕ) × (after ≡ 0x0A ∷ rest))
FollowsLine true line after = (after ≡ []) ⊎ (((rest : List ℕ) × (after ≡ 0x0D ∷ rest))
    ⊎ (((rest : List ℕ) × (after ≡ 0x0A ∷ rest)) × (byte_before line (length line) ≢ Some 0x0D)))

-- A line between these two parts of a block. Before it there is nothing, or bytes that end with a line feed. The line has no line feed
-- itself. The bytes need not be UTF-8.
pub record IsLineBetween (crlf : Bool) (before line after : List ℕ) : Type 0 where
  pub starts : (before ≡ []) ⊎ ((front : List ℕ) × (before ≡ front ++ (0x0A ∷ [])))
  pub ends : FollowsLine crlf line after
  pub without_feed : All (λ b. b ≢ 0x0A) line

-- the block
abbrev pub block_of : List ℕ → List ℕ → List ℕ → List ℕ
block_of before line after = before ++ (line ++ after)

-- how looks are read in a line, and in a block: a line feed ends a line, and these are the characters of words
abbrev pub line_looks : (ℕ → Bool) → List ℕ → Looks
line_looks words h = holds words (one_of 0x0A) h

-- a span that the tree matches in the line, its line tree matches in the block, at the line's bytes there
abbrev pub MeansInBlock : Bool → (ℕ → Bool) → List ℕ → List ℕ → List ℕ → Tree → Type 0
MeansInBlock crlf words before line after x = (s e : ℕ) → s ≤ length line → Means (line_looks words line) line x s e →
    Means (line_looks words (block_of before line after)) (block_of before line after) (line_tree crlf x)
    (length before + s) (length before + e)

-- The converse, for what the line tree matches in the block up to the line's end: the tree matches it in the line. With `crlf` this need
-- not hold, since a look at the end of a line then also holds before a carriage return inside the line.
abbrev pub MeansInLine : (ℕ → Bool) → List ℕ → List ℕ → List ℕ → Tree → Type 0
MeansInLine words before line after x = (s e : ℕ) → e ≤ length line →
    Means (line_looks words (block_of before line after)) (block_of before line after) (line_tree false x) (length before + s)
    (length before + e) →
    Means (line_looks words line) line x s e

-- no byte from the one offset up to the other is a line feed
abbrev pub HasNoFeedFrom : List ℕ → ℕ → ℕ → Type 0
HasNoFeedFrom text from to = (i : ℕ) → from ≤ i → i < to → slice_get text i ≡ Some 0x0A → ⊥

-- the tree has a match in the haystack
pub record HasMatch (looks : Looks) (h : List ℕ) (x : Tree) : Type 0 where
  pub start : ℕ
  pub end : ℕ
  pub within : start ≤ length h
  pub means : Means looks h x start end
