-- Trees that read the same: the path of a compiler of sequences, and the sequences themselves.
use Rattle.std.proofs.Common.{◌≡◌, ℕ, ◌+◌, Bool, true, false, List, [], ◌∷◌, ◌++◌, map, Option, Some, None, if◌then◌else◌, slice_get, refl}
use Rattle.std.proofs.Common.{sym, ap, ◌∙◌, subst, append_assoc, append-nil}
use Rattle.std.specs.List.{flat_map}
use Rattle.std.proofs.lemmas.Grind.{flat_map-append}
use Rattle.std.proofs.lemmas.List.{map-append}
use Rattle.hir_core.specs.BySequences.{range_tree}
use Rattle.hir_core.specs.Tree.{Tree, never, alt, alternation}
use Rattle.hir_core.specs.Means.{is_member}
use Rattle.hir_core.specs.PreferredEnds.{preferred_ends, class_end}
use Rattle.hir_core.proofs.ForCallers.{flat_map_same}
use Rattle.thompson_nfa.specs.Shared.{read_then, read_tree}
use Rattle.thompson_nfa.specs.Utf8Compiles.{Limb, branch_tree, fresh_limb, grown, limb_tree, whole_tree, ReadsAs}

pub as_itself : (x : Tree) → ReadsAs x x
as_itself x = record { reading = λ f. f; ends = λ looks h i. refl }

pub as_trans : (x y z : Tree) → ReadsAs x y → ReadsAs y z → ReadsAs x z
as_trans x y z a b = record { reading = λ f. a.reading (b.reading f); ends = λ looks h i. a.ends looks h i ∙ b.ends looks h i }

pub as_alt : (x y u v : Tree) → ReadsAs x u → ReadsAs y v → ReadsAs (alt x y) (alt u v)
as_alt x y u v a b = record {
  reading = λ f. (a.reading f.0, b.reading f.1);
  ends = λ looks h i. ap (λ (l : List ℕ). l ++ preferred_ends looks h y i) (a.ends looks h i)
      ∙ ap (λ (l : List ℕ). preferred_ends looks h u i ++ l) (b.ends looks h i);
}

alt_one : (x : Tree) → ReadsAs (alt x never) x
alt_one x = record { reading = λ f. (f, tt); ends = λ looks h i. append-nil (preferred_ends looks h x i) }

alt_last : (x : Tree) → ReadsAs (alt never x) x
alt_last x = record { reading = λ f. (tt, f); ends = λ looks h i. refl }

last_alt : (x : Tree) → ReadsAs x (alt never x)
last_alt x = record { reading = λ f. f.1; ends = λ looks h i. refl }

-- of three alternatives the last two, or the first two, together
alt_left : (x y z : Tree) → ReadsAs (alt x (alt y z)) (alt (alt x y) z)
alt_left x y z = record {
  reading = λ f. (f.0.0, (f.0.1, f.1));
  ends = λ looks h i. sym (append_assoc (preferred_ends looks h x i) (preferred_ends looks h y i) (preferred_ends looks h z i));
}

alt_right : (x y z : Tree) → ReadsAs (alt (alt x y) z) (alt x (alt y z))
alt_right x y z = record {
  reading = λ f. ((f.0, f.1.0), f.1.1);
  ends = λ looks h i. append_assoc (preferred_ends looks h x i) (preferred_ends looks h y i) (preferred_ends looks h z i);
}

-- one alternative after others
as_snoc : (xs : List Tree) (z : Tree) → ReadsAs (alternation (xs ++ z ∷ [])) (alt (alternation xs) z)
as_snoc [] z = as_trans (alt z never) z (alt never z) (alt_one z) (last_alt z)
as_snoc (x ∷ xs) z = as_trans (alt x (alternation (xs ++ z ∷ []))) (alt x (alt (alternation xs) z)) (alt (alt x (alternation xs)) z)
    (as_alt x (alternation (xs ++ z ∷ [])) x (alt (alternation xs) z) (as_itself x) (as_snoc xs z)) (alt_left x (alternation xs) z)

snoc_as : (xs : List Tree) (z : Tree) → ReadsAs (alt (alternation xs) z) (alternation (xs ++ z ∷ []))
snoc_as [] z = as_trans (alt never z) z (alt z never) (alt_last z) (record {
  reading = λ f. f.0;
  ends = λ looks h i. sym (append-nil (preferred_ends looks h z i));
})
snoc_as (x ∷ xs) z = as_trans (alt (alt x (alternation xs)) z) (alt x (alt (alternation xs) z)) (alt x (alternation (xs ++ z ∷ [])))
    (alt_right x (alternation xs) z)
    (as_alt x (alt (alternation xs) z) x (alternation (xs ++ z ∷ [])) (as_itself x) (snoc_as xs z))

-- ---- after a range

pub as_then : (back : Bool) (r : ℕ × ℕ) (y z : Tree) → ReadsAs y z → ReadsAs (read_then back r y) (read_then back r z)
as_then false r y z a = record {
  reading = λ f. (tt, a.reading f.1);
  ends = λ looks h i. flat_map_same (preferred_ends looks h y) (preferred_ends looks h z) (preferred_ends looks h (range_tree r) i)
      (λ k m. a.ends looks h k);
}
as_then true r y z a = record {
  reading = λ f. (a.reading f.0, tt);
  ends = λ looks h i. ap (λ (l : List ℕ). flat_map (preferred_ends looks h (range_tree r)) l) (a.ends looks h i);
}

-- after at most one end, both alternatives come one after the other
both_behind : (f g : ℕ → List ℕ) (c : Bool) (k : ℕ) →
    flat_map (λ n. f n ++ g n) (if c then k ∷ [] else []) ≡ flat_map f (if c then k ∷ [] else []) ++ flat_map g (if c then k ∷ [] else [])
both_behind f g true k = append-nil (f k ++ g k) ∙ ap (λ (l : List ℕ). l ++ g k) (sym (append-nil (f k)))
    ∙ ap (λ (l : List ℕ). (f k ++ []) ++ l) (sym (append-nil (g k)))
both_behind f g false k = refl

both_ends : (f g : ℕ → List ℕ) (ranges : List (ℕ × ℕ)) (o : Option ℕ) (i : ℕ) →
    flat_map (λ n. f n ++ g n) (class_end ranges o i) ≡ flat_map f (class_end ranges o i) ++ flat_map g (class_end ranges o i)
both_ends f g ranges None i = refl
both_ends f g ranges (Some b) i = both_behind f g (is_member ranges b) (i + 1)

then_alt : (back : Bool) (r : ℕ × ℕ) (y z : Tree) → ReadsAs (read_then back r (alt y z)) (alt (read_then back r y) (read_then back r z))
then_alt false r y z = record {
  reading = λ f. (tt, (f.0.1, f.1.1));
  ends = λ looks h i. both_ends (preferred_ends looks h y) (preferred_ends looks h z) (r ∷ []) (slice_get h i) i;
}
then_alt true r y z = record {
  reading = λ f. ((f.0.0, f.1.0), tt);
  ends = λ looks h i. flat_map-append (preferred_ends looks h (range_tree r)) (preferred_ends looks h y i) (preferred_ends looks h z i);
}

-- ---- the path

-- nodes with no branch read the sequence of their ranges
pub fresh_reads : (back : Bool) (q : List (ℕ × ℕ)) → ReadsAs (limb_tree back (map fresh_limb q)) (read_tree back q)
fresh_reads back [] = as_itself (read_tree back [])
fresh_reads back (r ∷ q) =
    let above : Tree = limb_tree back (map fresh_limb q) in
    as_trans (alt (read_then back r above) never) (read_then back r above) (read_then back r (read_tree back q))
    (alt_one (read_then back r above)) (as_then back r above (read_tree back q) (fresh_reads back q))

abbrev pub lasts : List Limb → List (ℕ × ℕ)
lasts ls = map (λ l. l.last) ls

-- the top node, with its branches one after the other
grown_tree : (back : Bool) (next : ℕ) (range : ℕ × ℕ) (l : Limb) (above new : List Limb) →
    limb_tree back (grown next (limb_tree back above) range l ∷ new) ≡ alternation
    ((map (branch_tree back) l.branches ++ read_then back l.last (limb_tree back above) ∷ [])
    ++ read_then back range (limb_tree back new) ∷ [])
grown_tree back next range l above new =
    ap (λ (xs : List Tree). alternation (xs ++ read_then back range (limb_tree back new) ∷ []))
    (map-append (branch_tree back) l.branches (record { low = l.last.0; high = l.last.1; next = next; tree = limb_tree back above } ∷ []))

-- a path that leaves the old one at a node reads one more sequence
pub turned_reads : (back : Bool) (front : List Limb) (next : ℕ) (range : ℕ × ℕ) (l : Limb) (above : List Limb) (q : List (ℕ × ℕ)) →
    ReadsAs (limb_tree back (front ++ grown next (limb_tree back above) range l ∷ map fresh_limb q))
    (alt (limb_tree back (front ++ l ∷ above)) (read_tree back (lasts front ++ range ∷ q)))
turned_reads back [] next range l above q =
    let new : List Limb = map fresh_limb q in
    let old : List Tree = map (branch_tree back) l.branches ++ read_then back l.last (limb_tree back above) ∷ [] in
    let more : Tree = read_then back range (limb_tree back new) in
    let P : Tree → Type 0 = λ x. ReadsAs x (alt (alternation old) (read_then back range (read_tree back q))) in
    subst P (sym (grown_tree back next range l above new))
    (as_trans (alternation (old ++ more ∷ [])) (alt (alternation old) more)
    (alt (alternation old) (read_then back range (read_tree back q))) (as_snoc old more)
    (as_alt (alternation old) more (alternation old) (read_then back range (read_tree back q)) (as_itself (alternation old))
    (as_then back range (limb_tree back new) (read_tree back q) (fresh_reads back q))))
turned_reads back (n ∷ front) next range l above q =
    let xs : List Tree = map (branch_tree back) n.branches in
    let now : Tree = limb_tree back (front ++ grown next (limb_tree back above) range l ∷ map fresh_limb q) in
    let was : Tree = limb_tree back (front ++ l ∷ above) in
    let one : Tree = read_tree back (lasts front ++ range ∷ q) in
    let r : ℕ × ℕ = n.last in
    let step : ReadsAs (read_then back r now) (alt (read_then back r was) (read_then back r one)) =
    as_trans (read_then back r now) (read_then back r (alt was one)) (alt (read_then back r was) (read_then back r one))
    (as_then back r now (alt was one) (turned_reads back front next range l above q)) (then_alt back r was one) in
    as_trans (alternation (xs ++ read_then back r now ∷ [])) (alt (alternation xs) (read_then back r now))
    (alt (alternation (xs ++ read_then back r was ∷ [])) (read_then back r one)) (as_snoc xs (read_then back r now))
    (as_trans (alt (alternation xs) (read_then back r now)) (alt (alternation xs) (alt (read_then back r was) (read_then back r one)))
    (alt (alternation (xs ++ read_then back r was ∷ [])) (read_then back r one))
    (as_alt (alternation xs) (read_then back r now) (alternation xs) (alt (read_then back r was) (read_then back r one))
    (as_itself (alternation xs)) step)
    (as_trans (alt (alternation xs) (alt (read_then back r was) (read_then back r one)))
    (alt (alt (alternation xs) (read_then back r was)) (read_then back r one))
    (alt (alternation (xs ++ read_then back r was ∷ [])) (read_then back r one))
    (alt_left (alternation xs) (read_then back r was) (read_then back r one))
    (as_alt (alt (alternation xs) (read_then back r was)) (read_then back r one) (alternation (xs ++ read_then back r was ∷ []))
    (read_then back r one) (snoc_as xs (read_then back r was)) (as_itself (read_then back r one)))))

-- with one more sequence
pub more_reads : (back : Bool) (x y : Tree) (qs : List (List (ℕ × ℕ))) (q : List (ℕ × ℕ)) →
    ReadsAs y (alternation (map (read_tree back) qs)) → ReadsAs x (alt y (read_tree back q)) →
    ReadsAs x (alternation (map (read_tree back) (qs ++ q ∷ [])))
more_reads back x y qs q before more =
    let xs : List Tree = map (read_tree back) qs in
    let z : Tree = read_tree back q in
    let P : List Tree → Type 0 = λ l. ReadsAs x (alternation l) in
    subst P (sym (map-append (read_tree back) qs (q ∷ [])))
    (as_trans x (alt y z) (alternation (xs ++ z ∷ [])) more (as_trans (alt y z) (alt (alternation xs) z) (alternation (xs ++ z ∷ []))
    (as_alt y z (alternation xs) z before (as_itself z)) (snoc_as xs z)))

-- the first sequence
pub first_reads : (back : Bool) (r : ℕ × ℕ) (q : List (ℕ × ℕ)) → ReadsAs (whole_tree back (map fresh_limb (r ∷ q)))
    (alt never (read_tree back (r ∷ q)))
first_reads back r q = as_trans (limb_tree back (map fresh_limb (r ∷ q))) (read_tree back (r ∷ q)) (alt never (read_tree back (r ∷ q)))
    (fresh_reads back (r ∷ q)) (last_alt (read_tree back (r ∷ q)))
