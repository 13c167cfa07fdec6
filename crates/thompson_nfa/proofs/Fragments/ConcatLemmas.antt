-- Fragments of concatenations and of copies: the parts so far.
use Rattle.std.proofs.Common.{◌≡◌, inl, inr, ℕ, zero, suc, ◌+◌, ◌-◌, ◌<◌, ◌≤◌, min, Bool, true, false, List, [], ◌∷◌, ◌++◌, length, take}
use Rattle.std.proofs.Common.{drop, get_or, refl, sym, ap, ◌∙◌, subst, arith}
use Rattle.search_types.specs.Groups.{Groups}
use Rattle.hir_core.specs.Tree.{Tree, concat, alternation}
use Rattle.hir_core.specs.Weight.{weight}
use Rattle.nfa_core.specs.BuilderStates.{Assembly}
use Rattle.nfa_core.specs.declared.build_error.BuildError.{BuildError}
use Rattle.thompson_nfa.specs.Compiled.{Makes, TakesBytes, Does, DoesFirst, IsReady, sum_of_bytes, way_at}
use Rattle.thompson_nfa.specs.Added.{Led}
use Rattle.thompson_nfa.specs.NotedGroups.{with_groups_of, HasGroup}
use Rattle.thompson_nfa.specs.Refusals.{FailsFragment, ExceedsLimit, StaysAt}
use Rattle.thompson_nfa.specs.Turned.{turned_position, left_after}
use Rattle.thompson_nfa.specs.Room.{room}
use Rattle.thompson_nfa.specs.ByteRoom.{Bound, at_least, at_most, tree_bytes, tree_least, tree_most}
use Rattle.thompson_nfa.specs.declared.compiling.How.{How}
use Rattle.thompson_nfa.specs.declared.which_captures.WhichCaptures.{WhichCaptures}
use Rattle.thompson_nfa.specs.declared.which_captures.WhichCaptures.TheVariants as which
use Rattle.thompson_nfa.proofs.Walks.SameLemmas.{same_concat_one}
use Rattle.thompson_nfa.proofs.Fragments.TurnLemmas.{first_left, last_left, left_all, left_none, concat_joins, concat_begun, concat_ended}
use Rattle.thompson_nfa.proofs.Fragments.PartBytes.{part_bytes, left_bytes, bytes_of_concat}
use Rattle.thompson_nfa.proofs.Fragments.TakeLemmas.{way_kept}
use Rattle.thompson_nfa.proofs.Fragments.JoinLemmas.{join_made, join_does, does_first, does_all, does_same}
use Rattle.thompson_nfa.proofs.Steps.ErrorLemmas.{Fails}
use Rattle.thompson_nfa.proofs.Steps.ProgressLemmas.{Includes, first_made, then_made, made_capped, then_quits, refuses, then_refuses}
use Rattle.thompson_nfa.proofs.Steps.ProgressLemmas.{first_refuses}
use Rattle.thompson_nfa.proofs.Steps.NoGroups.{none_noted}

-- the part at the position that is read next
pub turned_part : (xs : List Tree) (x : Tree) (at i : ℕ) (read back : Bool) → x ≡ get_or xs at x → at ≡ turned_position read i (length xs) →
    read ≡ back → x ≡ get_or xs (turned_position back i (length xs)) x
turned_part xs x at i read back is turned same =
    is ∙ ap (λ k. get_or xs k x) (turned ∙ ap (λ (b : Bool). turned_position b i (length xs)) same)

turned_below : (back : Bool) (i len : ℕ) → i < len → turned_position back i len < len
turned_below false i len l = l
turned_below true i len l = omega arith

pub weight_in_alternation : (xs : List Tree) (i : ℕ) (d : Tree) → i < length xs → weight (get_or xs i d) < weight (alternation xs)
weight_in_alternation [] i d l = absurd (omega arith)
weight_in_alternation (x ∷ xs) zero d l = omega arith
weight_in_alternation (x ∷ xs) (suc i) d l = omega (arith, weight_in_alternation xs i d (omega arith))

-- the states that the trees may take together
abbrev pub rooms : Bool → List Tree → ℕ
rooms shrink [] = 0
rooms shrink (x ∷ xs) = room shrink x + rooms shrink xs

pub rooms_push : (shrink : Bool) (xs : List Tree) (y : Tree) → rooms shrink (xs ++ y ∷ []) ≡ rooms shrink xs + room shrink y
rooms_push shrink [] y = omega arith
rooms_push shrink (x ∷ xs) y = let e = rooms_push shrink xs y in omega arith

pub room_of_concat : (shrink : Bool) (xs : List Tree) → min (rooms shrink xs + 1) 18446744073709551615 ≤ room shrink (concat xs)
room_of_concat shrink [] = omega arith
room_of_concat shrink (x ∷ xs) = let e = room_of_concat shrink xs in omega arith

pub room_of_alternation : (shrink : Bool) (xs : List Tree) → min (rooms shrink xs + 4) 18446744073709551615 ≤ room shrink (alternation xs)
room_of_alternation shrink [] = omega arith
room_of_alternation shrink (x ∷ xs) = let e = room_of_alternation shrink xs in omega arith

-- a group of a part is one of the whole
has_in_concat : (kept : WhichCaptures) (index : ℕ) (xs : List Tree) (i : ℕ) (d : Tree) → i < length xs →
    HasGroup kept index (get_or xs i d) → HasGroup kept index (concat xs)
has_in_concat kept index [] i d l h = absurd (omega arith)
has_in_concat kept index (x ∷ xs) zero d l h = inl h
has_in_concat kept index (x ∷ xs) (suc i) d l h = inr (has_in_concat kept index xs i d (omega arith) h)

has_in_alternation : (kept : WhichCaptures) (index : ℕ) (xs : List Tree) (i : ℕ) (d : Tree) → i < length xs →
    HasGroup kept index (get_or xs i d) → HasGroup kept index (alternation xs)
has_in_alternation kept index [] i d l h = absurd (omega arith)
has_in_alternation kept index (x ∷ xs) zero d l h = inl h
has_in_alternation kept index (x ∷ xs) (suc i) d l h = inr (has_in_alternation kept index xs i d (omega arith) h)

pub concat_includes : (kept : WhichCaptures) (xs : List Tree) (i : ℕ) (x : Tree) → i < length xs → x ≡ get_or xs i x →
    Includes kept x (concat xs)
concat_includes kept xs i x l e index h = let P : Tree → Type 0 = λ y. HasGroup kept index y in
    has_in_concat kept index xs i x l (subst P e h)

pub alternation_includes : (kept : WhichCaptures) (xs : List Tree) (i : ℕ) (x : Tree) → i < length xs → x ≡ get_or xs i x →
    Includes kept x (alternation xs)
alternation_includes kept xs i x l e index h = let P : Tree → Type 0 = λ y. HasGroup kept index y in
    has_in_alternation kept index xs i x l (subst P e h)

pub left_room : (shrink back : Bool) (xs : List Tree) (i : ℕ) (x : Tree) → i < length xs →
    x ≡ get_or xs (turned_position back i (length xs)) x →
    rooms shrink (left_after back i xs) ≡ room shrink x + rooms shrink (left_after back (i + 1) xs)
left_room shrink false xs i x l e = ap (rooms shrink) (first_left xs i x x l e)
left_room shrink true xs i x l e = let p = rooms_push shrink (take (length xs - (i + 1)) xs) x in
    ap (rooms shrink) (last_left xs i x x l e) ∙ omega arith

-- the groups of the parts that are left
pub left_groups : (kept : WhichCaptures) (p : ℕ) (back : Bool) (xs : List Tree) (i : ℕ) (x : Tree) (was now whole : Groups) →
    (back ≡ true → kept ≡ which.None) → i < length xs →
    x ≡ get_or xs (turned_position back i (length xs)) x → now ≡ with_groups_of kept p x was →
    with_groups_of kept p (concat (left_after back i xs)) was ≡ whole →
    with_groups_of kept p (concat (left_after back (i + 1) xs)) now ≡ whole
left_groups kept p false xs i x was now whole none l e is so_far =
    ap (with_groups_of kept p (concat (drop (i + 1) xs))) is
    ∙ sym (ap (λ ys. with_groups_of kept p (concat ys) was) (first_left xs i x x l e)) ∙ so_far
left_groups kept p true xs i x was now whole none l e is so_far =
    let no : kept ≡ which.None = none refl in
    let rest = concat (take (length xs - (i + 1)) xs) in
    let all = concat (take (length xs - i) xs) in
    ap (λ k. with_groups_of k p rest now) no ∙ none_noted p rest now ∙ is ∙ ap (λ k. with_groups_of k p x was) no ∙ none_noted p x was
    ∙ sym (none_noted p all was) ∙ sym (ap (λ k. with_groups_of k p all was) no) ∙ so_far

pub record Parts (how : How) (old mid : Assembly) (start end i : ℕ) (xs : List Tree) : Type 0 where
  pub n : ℕ
  pub made : Makes old mid start end n
  pub fits : n + rooms how.shrink (left_after old.reverse i xs) ≤ rooms how.shrink xs
  pub does : DoesFirst old mid start end (concat (left_after old.reverse i xs)) (concat xs)
  pub groups : with_groups_of how.which (length old.starts) (concat (left_after old.reverse i xs)) mid.groups ≡
      with_groups_of how.which (length old.starts)
      (concat xs) old.groups
  pub bytes_least : sum_of_bytes old + part_bytes at_least how.which 0 xs ≤ sum_of_bytes mid + way_at mid end
      + part_bytes at_least how.which 0 (left_after old.reverse i xs)
  pub bytes_most : sum_of_bytes mid + way_at mid end + part_bytes (at_most how.shrink) how.which 0 (left_after old.reverse i xs)
      ≤ sum_of_bytes old + part_bytes (at_most how.shrink) how.which 0 xs

-- the first part, and the others
parted : (b : Bound) (which : WhichCaptures) (back : Bool) (xs : List Tree) (x : Tree) → 0 < length xs →
    x ≡ get_or xs (turned_position back 0 (length xs)) x →
    part_bytes b which 0 xs ≡ tree_bytes b which false x + part_bytes b which 0 (left_after back 1 xs)
parted b which back xs x some is = omega (
  arith,
  left_bytes b which 0 back xs 0 x some is,
  ap (part_bytes b which 0) (left_all back xs),
)

pub parts_first : (how : How) (old mid : Assembly) (s e : ℕ) (x : Tree) (xs : List Tree) → IsReady how.which old → 0 < length xs →
    x ≡ get_or xs (turned_position old.reverse 0 (length xs)) x →
    Makes old mid s e (room how.shrink x) → Does old mid s e x → mid.groups ≡ with_groups_of how.which (length old.starts) x old.groups →
    TakesBytes old mid e (tree_least how.which x) (tree_most how.which how.shrink x) → Parts how old mid s e 1 xs
parts_first how old mid s e x xs ready some is m d g w =
    let counted = left_room how.shrink old.reverse xs 0 x some is in
    let all : rooms how.shrink (left_after old.reverse 0 xs) ≡ rooms how.shrink xs = ap (rooms how.shrink) (left_all old.reverse xs) in
    let one : left_after old.reverse (0 + 1) xs ≡ left_after old.reverse 1 xs = refl in
    record {
      n = room how.shrink x;
      made = m;
      fits = omega arith;
      does = does_first old mid s e (concat (x ∷ [])) (concat (left_after old.reverse 1 xs)) (concat xs)
          (concat_begun old.reverse xs x some is)
          (does_same old mid s e x (concat (x ∷ [])) (same_concat_one x) d);
      groups = left_groups how.which (length old.starts) old.reverse xs 0 x old.groups mid.groups
          (with_groups_of how.which (length old.starts) (concat xs) old.groups) ready.forward some is g
          (ap (λ ys. with_groups_of how.which (length old.starts) (concat ys) old.groups) (left_all old.reverse xs));
      bytes_least = omega (arith, w.least, parted at_least how.which old.reverse xs x some is);
      bytes_most = omega (arith, w.most, parted (at_most how.shrink) how.which old.reverse xs x some is);
    }

starts_kept : {how : How} {old mid : Assembly} {start end i : ℕ} {xs : List Tree} → Parts how old mid start end i xs →
    length mid.starts ≡ length old.starts
starts_kept ps = ap (λ (b : Assembly). length b.starts) ps.made.fragment.grows.settings

pub parts_then : (how : How) (old b c d : Assembly) (start end s e i : ℕ) (x : Tree) (xs : List Tree) → IsReady how.which old →
    i < length xs → x ≡ get_or xs (turned_position old.reverse i (length xs)) x →
    Parts how old b start end i xs → Makes b c s e (room how.shrink x) → Does b c s e x →
    c.groups ≡ with_groups_of how.which (length b.starts) x b.groups → Led c d end s →
    TakesBytes b c e (tree_least how.which x) (tree_most how.which how.shrink x) → Parts how old d start e (i + 1) xs
parts_then how old b c d start end s e i x xs ready inside is ps m does g led w =
    let kept = way_kept m.fragment.grows end ps.made.fragment.end_there in
    let counted = left_room how.shrink old.reverse xs i x inside is in
    let fits = ps.fits in
    let groups : d.groups ≡ with_groups_of how.which (length old.starts) x b.groups =
    ap (λ (z : Assembly). z.groups) led.settings ∙ g ∙ ap (λ p. with_groups_of how.which p x b.groups) (starts_kept ps) in
    record {
      n = ps.n + room how.shrink x;
      made = join_made old b c d start end ps.n s e (room how.shrink x) ps.made m led;
      fits = omega arith;
      does = join_does old b c d start end ps.n s e (room how.shrink x) ps.made m led (concat (x ∷ []))
          (concat (left_after old.reverse (i + 1) xs)) (concat (left_after old.reverse i xs)) (concat xs)
          (concat_joins old.reverse xs i x inside is) ps.does (does_same b c s e x (concat (x ∷ [])) (same_concat_one x) does);
      groups = left_groups how.which (length old.starts) old.reverse xs i x b.groups d.groups
          (with_groups_of how.which (length old.starts) (concat xs) old.groups) ready.forward inside is groups ps.groups;
      bytes_least = omega (
        arith,
        left_bytes at_least how.which 0 old.reverse xs i x inside is,
        ps.bytes_least,
        w.least,
        kept,
        led.takes,
        led.ways e,
      );
      bytes_most = omega (
        arith,
        left_bytes (at_most how.shrink) how.which 0 old.reverse xs i x inside is,
        ps.bytes_most,
        w.most,
        kept,
        led.takes,
        led.ways e,
      );
    }

-- adding a concatenation fails
abbrev pub FailsParts : How → Assembly → Assembly → List Tree → BuildError → Type 0
FailsParts how old new xs e = Fails how old new (room how.shrink (concat xs)) (concat xs) (tree_most how.which how.shrink (concat xs)) e

module _ (how : How) (old mid : Assembly) (start end i : ℕ) (xs : List Tree) (ps : Parts how old mid start end i xs) where
  pub parts_made : Makes old mid start end (room how.shrink (concat xs))
  parts_made = let c = room_of_concat how.shrink xs in let r = ps.fits in made_capped (room how.shrink (concat xs)) ps.made (omega arith)

  pub parts_does : length xs ≤ i → Does old mid start end (concat xs)
  parts_does over = does_all old mid start end (concat (left_after old.reverse i xs)) (concat xs)
      (concat_ended old.reverse i xs over) ps.does

  pub parts_weigh : length xs ≤ i → 0 < length xs →
      TakesBytes old mid end (tree_least how.which (concat xs)) (tree_most how.which how.shrink (concat xs))
  parts_weigh over some = record {
    least = omega (
      arith,
      ps.bytes_least,
      bytes_of_concat at_least how.which xs some,
      ap (part_bytes at_least how.which 0) (left_none old.reverse i xs over),
    );
    most = omega (arith, ps.bytes_most, bytes_of_concat (at_most how.shrink) how.which xs some);
  }

  module _ (x : Tree) (inside : i < length xs) (is : x ≡ get_or xs (turned_position old.reverse i (length xs)) x) where
    -- the next part
    parts_left : sum_of_bytes mid + way_at mid end + tree_most how.which how.shrink x
        ≤ sum_of_bytes old + tree_most how.which how.shrink (concat xs)
    parts_left = omega (
      arith,
      ps.bytes_most,
      left_bytes (at_most how.shrink) how.which 0 old.reverse xs i x inside is,
      bytes_of_concat (at_most how.shrink) how.which xs (omega arith),
    )

    -- adding the next part fails
    pub next_part_fails : (new : Assembly) (e : BuildError) → FailsFragment how.which mid new (room how.shrink x) x e →
        ExceedsLimit mid (tree_most how.which how.shrink x) e → FailsParts how old new xs e
    next_part_fails new e r passed =
        let counted = left_room how.shrink old.reverse xs i x inside is in
        let fits = ps.fits in
        let c = room_of_concat how.shrink xs in (
          first_refuses (room how.shrink (concat xs)) (concat xs) (then_refuses (rooms how.shrink xs) (concat xs) (first_made ps.made) r
              (concat_includes how.which xs (turned_position old.reverse i (length xs)) x (turned_below old.reverse i (length xs) inside) is)
              (omega arith))
              (λ index h. h) (omega arith),
          omega (arith, parts_left, passed),
        )

    -- the transition to it fails
    pub part_lead_fails : (b new : Assembly) (s t : ℕ) (e : BuildError) → Makes mid b s t (room how.shrink x) →
        TakesBytes mid b t (tree_least how.which x) (tree_most how.which how.shrink x) → StaysAt b new end e → FailsParts how old new xs e
    part_lead_fails b new s t e m w r =
        let counted = left_room how.shrink old.reverse xs i x inside is in
        let fits = ps.fits in
        let c = room_of_concat how.shrink xs in (
          refuses how.which (room how.shrink (concat xs)) (concat xs) (then_quits (rooms how.shrink xs)
              (then_made 8 (first_made ps.made) m (omega arith)) r.stays (omega arith) (omega arith)) (omega arith),
          omega (arith, parts_left, w.most, way_kept m.fragment.grows end ps.made.fragment.end_there, r.passed),
        )

-- adding the first part fails
pub first_part_fails : (how : How) (old new : Assembly) (x : Tree) (xs : List Tree) (e : BuildError) → 0 < length xs →
    x ≡ get_or xs (turned_position old.reverse 0 (length xs)) x → FailsFragment how.which old new (room how.shrink x) x e →
    ExceedsLimit old (tree_most how.which how.shrink x) e → FailsParts how old new xs e
first_part_fails how old new x xs e some is r passed =
    let counted = left_room how.shrink old.reverse xs 0 x some is in
    let all : rooms how.shrink (left_after old.reverse 0 xs) ≡ rooms how.shrink xs = ap (rooms how.shrink) (left_all old.reverse xs) in
    let c = room_of_concat how.shrink xs in (
      first_refuses (room how.shrink (concat xs)) (concat xs) r (concat_includes how.which xs (turned_position old.reverse 0 (length xs)) x
          (turned_below old.reverse 0 (length xs) some) is) (omega arith),
      omega (
        arith,
        parted (at_most how.shrink) how.which old.reverse xs x some is,
        bytes_of_concat (at_most how.shrink) how.which xs some,
        passed,
      ),
    )
