-- Patterns that are literals and greedy rounds of classes, one after the other: their parts, and what is read of these.
use Rattle.std.specs.Prelude.{◌≡◌, ◌⊎◌, ℕ, ◌+◌, ◌<◌, ◌≤◌, Bool, true, false, List, [], ◌∷◌, All, length, get_or, slice_get, Option, Some, None, ⊤, Vec, map, if◌then◌else◌}
use Rattle.std.specs.Global.{Global}
use Rattle.search_core.specs.ByteSets.{has}
use Rattle.hir_core.specs.Tree.{Tree, alternation, literal, nothing, cat}
use Rattle.hir_core.specs.Means.{Looks, stands}
use Rattle.hir_core.specs.PreferredEnds.{preferred_ends, repeated}
use Rattle.meta_regex.specs.declared.parts.Part.{Part}
use Rattle.meta_regex.specs.declared.parts.Part.TheVariants.{Literal, Rounds, OneOf}
use Rattle.meta_regex.specs.declared.parts.Read.{Read}
use Rattle.meta_regex.specs.declared.parts.Read.TheVariants.{To, Missing, GaveUp}
use Rattle.meta_regex.specs.declared.runs.Run.{Run}
use Rattle.meta_regex.specs.Runs.{AreRoundsOf, PrefersEnd}

-- both trees have the same ends, in the same order, in any haystack
pub record HasEndsOf (x y : Tree) : Type 0 where
  pub same : (looks : Looks) (h : List ℕ) (i : ℕ) → preferred_ends looks h x i ≡ preferred_ends looks h y i

-- the tree is as many rounds of a class as there are, from a least number on, and at most so many if there is a bound
pub record AreRounds (r : Run) (most : Option ℕ) (x : Tree) : Type 0 where
  pub body : Tree
  pub rounds : AreRoundsOf r body
  pub ends : (looks : Looks) (h : List ℕ) (i : ℕ) → preferred_ends looks h x i ≡ repeated h r.least most true (preferred_ends looks h body) i

-- the alternation of these strings
abbrev pub any_text : List (Vec ℕ Global) → Tree
any_text texts = alternation (map (λ t. literal t.items) texts)

-- the part is this tree
abbrev pub IsPart : Part → Tree → Type 0
IsPart (Literal bytes) x = HasEndsOf x (literal bytes.items)
IsPart (Rounds run most) x = AreRounds run most x
IsPart (OneOf texts) x = HasEndsOf x (any_text texts.items)

-- the parts are this tree, one after the other
abbrev pub AreParts : List Part → Tree → Type 0
AreParts [] x = HasEndsOf x nothing
AreParts (p ∷ ps) x = (c : Tree) × (y : Tree) × IsPart p c × AreParts ps y × HasEndsOf x (cat c y)

-- the tree has no end from this offset of the haystack on
pub record HasNoEndAt (x : Tree) (h : List ℕ) (i : ℕ) : Type 0 where
  pub none : (looks : Looks) → preferred_ends looks h x i ≡ []

-- the parts have no end where a byte of the set is
pub record Shun (ps : List Part) (set : List Bool) : Type 0 where
  pub none : (x : Tree) → AreParts ps x → (h : List ℕ) → All (λ b. b < 256) h → (i b : ℕ) → slice_get h i ≡ Some b → has set b ≡ true →
      HasNoEndAt x h i

-- If these parts have no end at the preferred end of the part, they have none at its other ends. It has one end, they are none, or they
-- shun its bytes.
abbrev pub IsDecided : Part → List Part → Type 0
IsDecided (Literal bytes) ps = ⊤
IsDecided (OneOf texts) ps = ps ≡ []
IsDecided (Rounds run most) ps = (most ≡ Some run.least) ⊎ (ps ≡ []) ⊎ Shun ps run.members

-- so for each of the parts
abbrev pub AreDecided : List Part → Type 0
AreDecided [] = ⊤
AreDecided (p ∷ ps) = IsDecided p ps × AreDecided ps

-- there may be more rounds than these
abbrev pub AllowsMore : Option ℕ → ℕ → ℕ → Type 0
AllowsMore None i e = ⊤
AllowsMore (Some most) i e = e < i + most

-- there aren't more rounds than are allowed
abbrev pub IsBounded : Option ℕ → ℕ → ℕ → Type 0
IsBounded None i e = ⊤
IsBounded (Some most) i e = e ≤ i + most

-- each byte from i to e is a round, and no more are allowed, or none begins at e
pub record IsStretch (r : Run) (most : Option ℕ) (h : List ℕ) (i e : ℕ) : Type 0 where
  pub low : i ≤ e
  pub high : e ≤ length h
  pub bound : IsBounded most i e
  pub members : (body : Tree) → AreRoundsOf r body → (k : ℕ) → i ≤ k → k < e → has r.members (get_or h k 0) ≡ true

-- that no round begins at e, unless no more are allowed
abbrev pub GoesNoFurther : Run → Option ℕ → List ℕ → ℕ → ℕ → Type 0
GoesNoFurther r most h i e = AllowsMore most i e → e < length h → has r.first (get_or h e 0) ≡ false

-- the offset that was read to is one, from i on
abbrev pub IsReadWithin : List ℕ → ℕ → Read → Type 0
IsReadWithin h i (To e) = (i ≤ e) × (e ≤ length h)
IsReadWithin h i (Missing e) = (i ≤ e) × (e ≤ length h)
IsReadWithin h i GaveUp = ⊤

-- what is read of a literal
abbrev pub ReadsLiteral : List ℕ → List ℕ → ℕ → Read → Type 0
ReadsLiteral bytes h i (To e) = (stands h i bytes ≡ true) × (e ≡ i + length bytes)
ReadsLiteral bytes h i (Missing e) = stands h i bytes ≡ false
ReadsLiteral bytes h i GaveUp = ⊤

-- the end of the first of these strings that stands there
abbrev pub first_end : List (Vec ℕ Global) → List ℕ → ℕ → Option ℕ
first_end [] h i = None
first_end (t ∷ texts) h i = if stands h i t.items then Some (i + length t.items) else first_end texts h i

-- what is read of one of several strings
abbrev pub ReadsOneOf : List (Vec ℕ Global) → List ℕ → ℕ → Read → Type 0
ReadsOneOf texts h i (To e) = first_end texts h i ≡ Some e
ReadsOneOf texts h i (Missing e) = first_end texts h i ≡ None
ReadsOneOf texts h i GaveUp = ⊤

-- what is read of rounds
abbrev pub ReadsRounds : Run → Option ℕ → List ℕ → ℕ → Read → Type 0
ReadsRounds r most h i (To e) = IsStretch r most h i e × GoesNoFurther r most h i e × (i + r.least ≤ e)
ReadsRounds r most h i (Missing e) = IsStretch r most h i e × GoesNoFurther r most h i e × (e < i + r.least)
ReadsRounds r most h i GaveUp = ⊤

-- what is read of a part
abbrev pub ReadsPart : Part → List ℕ → ℕ → Read → Type 0
ReadsPart (Literal bytes) h i read = ReadsLiteral bytes.items h i read
ReadsPart (OneOf texts) h i read = ReadsOneOf texts.items h i read
ReadsPart (Rounds run most) h i read = ReadsRounds run most h i read

-- what is read of a tree: its preferred end, or that it has none
abbrev pub ReadsAll : Tree → List ℕ → ℕ → Read → Type 0
ReadsAll x h i (To e) = PrefersEnd x h i e
ReadsAll x h i (Missing e) = HasNoEndAt x h i
ReadsAll x h i GaveUp = ⊤
