-- Fragments of alternations: the parts so far.
use Rattle.std.proofs.Common.{◌≡◌, ℕ, zero, suc, ◌+◌, ◌*◌, ◌<◌, ◌≤◌, Bool, true, List, [], ◌∷◌, ◌++◌, length, take, drop, get_or, sym, ap}
use Rattle.std.proofs.Common.{◌∙◌, subst, arith, false, drop_of_length-le}
use Rattle.std.proofs.lemmas.List.{take_more, take_all}
use Rattle.hir_core.specs.Tree.{Tree, alternation}
use Rattle.nfa_core.specs.BuilderStates.{Assembly, empty_draft, union_draft}
use Rattle.nfa_core.specs.declared.build_error.BuildError.{BuildError}
use Rattle.thompson_nfa.specs.Compiled.{Makes, TakesBytes, Does, sum_of_bytes, way_at}
use Rattle.thompson_nfa.specs.Added.{AddsDraft, Led}
use Rattle.thompson_nfa.specs.NotedGroups.{with_groups_of}
use Rattle.thompson_nfa.specs.Refusals.{FailsFragment, ExceedsLimit, Stays, StaysAt}
use Rattle.thompson_nfa.specs.Room.{room}
use Rattle.thompson_nfa.specs.ByteRoom.{Bound, at_least, at_most, tree_bytes, tree_least, tree_most}
use Rattle.thompson_nfa.specs.LiteralParts.{are_literals}
use Rattle.thompson_nfa.specs.declared.compiling.How.{How}
use Rattle.thompson_nfa.specs.declared.which_captures.WhichCaptures.{WhichCaptures}
use Rattle.thompson_nfa.proofs.Walks.SameLemmas.{same_alternation_one}
use Rattle.thompson_nfa.proofs.Fragments.PartBytes.{part_bytes, bytes_of_alternation, bytes_of_part, two_bytes}
use Rattle.thompson_nfa.proofs.Fragments.TakeLemmas.{way_kept, two_least, two_most, union_way, end_way, second_lead_passed}
use Rattle.thompson_nfa.proofs.Fragments.TakeLemmas.{third_lead_passed, fourth_lead_passed}
use Rattle.thompson_nfa.proofs.Fragments.JoinLemmas.{does_same}
use Rattle.thompson_nfa.proofs.Fragments.TurnLemmas.{first_left}
use Rattle.thompson_nfa.proofs.Fragments.BranchLemmas.{Branches, branches_open, branches_then, branches_made, branches_does}
use Rattle.thompson_nfa.proofs.Fragments.RepeatLemmas.{choice_then, empty_then}
use Rattle.thompson_nfa.proofs.Fragments.ConcatLemmas.{rooms, room_of_alternation, alternation_includes}
use Rattle.thompson_nfa.proofs.Steps.ErrorLemmas.{Fails}
use Rattle.thompson_nfa.proofs.Steps.ProgressLemmas.{Progress, first_made, then_made, then_led, made_capped, then_quits, refuses}
use Rattle.thompson_nfa.proofs.Steps.ProgressLemmas.{then_refuses, first_refuses}
use Rattle.thompson_nfa.proofs.Steps.SizeLemmas.{AddedAt, added_at, MadeAt, made_at}

pub record Cases (how : How) (old mid : Assembly) (u z i : ℕ) (xs : List Tree) : Type 0 where
  pub n : ℕ
  pub branches : Branches old mid u z n (take i xs)
  pub fits : n + rooms how.shrink (drop i xs) ≤ rooms how.shrink xs + 2
  pub groups : with_groups_of how.which (length old.starts) (alternation (drop i xs)) mid.groups ≡
      with_groups_of how.which (length old.starts)
      (alternation xs) old.groups
  pub bytes_least : sum_of_bytes old + part_bytes at_least how.which 4 xs + 48
      ≤ sum_of_bytes mid + part_bytes at_least how.which 4 (drop i xs)
  pub bytes_most : sum_of_bytes mid + part_bytes (at_most how.shrink) how.which 4 (drop i xs)
      ≤ sum_of_bytes old + part_bytes (at_most how.shrink) how.which 4 xs + 48
  pub union_way : way_at mid u ≡ 4
  pub end_way : way_at mid z ≡ 0

-- the list begins with these two
two_first : (xs : List Tree) (x y : Tree) → 1 < length xs → x ≡ get_or xs 0 x → y ≡ get_or xs 1 y → xs ≡ x ∷ y ∷ drop 2 xs
two_first [] x y l a b = absurd (omega arith)
two_first (p ∷ []) x y l a b = absurd (omega arith)
two_first (p ∷ q ∷ xs) x y l a b = ap (λ k. k ∷ q ∷ xs) (sym a) ∙ ap (λ k. x ∷ k ∷ xs) (sym b)

-- adding an alternation fails
abbrev pub FailsChoice : How → Assembly → Assembly → List Tree → BuildError → Type 0
FailsChoice how old new xs e =
    Fails how old new (room how.shrink (alternation xs)) (alternation xs) (tree_most how.which how.shrink (alternation xs)) e

-- what the tree of a part takes
abbrev TakesTree : How → Assembly → Assembly → ℕ → Tree → Type 0
TakesTree how old new end x = TakesBytes old new end (tree_least how.which x) (tree_most how.which how.shrink x)

module _ (how : How) (t0 t1 : Assembly) (s1 e1 : ℕ) (x y : Tree) (xs : List Tree) (two : 1 < length xs) (other : are_literals xs ≡ false)
    (is_x : x ≡ get_or xs 0 x) (is_y : y ≡ get_or xs 1 y)
    (first : Makes t0 t1 s1 e1 (room how.shrink x)) (takes1 : TakesTree how t0 t1 e1 x) where
  counted : rooms how.shrink xs ≡ room how.shrink x + (room how.shrink y + rooms how.shrink (drop 2 xs))
  counted = ap (rooms how.shrink) (two_first xs x y two is_x is_y)

  -- the first two parts, with the states and transitions between them and the others, take no more bytes than all
  two_of_all : tree_most how.which how.shrink x + tree_most how.which how.shrink y + 56 ≤ tree_most how.which how.shrink (alternation xs)
  two_of_all = omega (
    arith,
    two_bytes (at_most how.shrink) how.which xs x y two is_x is_y,
    bytes_of_alternation (at_most how.shrink) how.which xs two other,
  )

  pub second_fails : (new : Assembly) (e : BuildError) → FailsFragment how.which t1 new (room how.shrink y) y e →
      ExceedsLimit t1 (tree_most how.which how.shrink y) e → FailsChoice how t0 new xs e
  second_fails new e r passed =
      let c = room_of_alternation how.shrink xs in
      let d = counted in (
        first_refuses (room how.shrink (alternation xs)) (alternation xs)
            (then_refuses (rooms how.shrink xs) (alternation xs) (first_made first) r (alternation_includes how.which xs 1 y two is_y)
            (omega arith)) (λ index h. h) (omega arith),
        omega (arith, two_of_all, takes1.most, passed),
      )

  module _ (t2 : Assembly) (s2 e2 : ℕ) (second : Makes t1 t2 s2 e2 (room how.shrink y)) (takes2 : TakesTree how t1 t2 e2 y) where
    -- a step after the first two parts fails
    later_refused : {mid new : Assembly} {k s n bytes : ℕ} {e : BuildError} → Progress false t0 mid k s → Stays mid new n bytes e →
        k + n ≤ room how.shrink x + room how.shrink y + 2 → bytes ≤ s + 4096 * n →
        FailsFragment how.which t0 new (room how.shrink (alternation xs)) (alternation xs) e
    later_refused p r le lb =
        let c = room_of_alternation how.shrink xs in let d = counted in
        refuses how.which (room how.shrink (alternation xs)) (alternation xs) (then_quits (rooms how.shrink xs + 2) p r (omega arith) lb)
        (omega arith)

    begun : Progress false t0 t2 (room how.shrink x + room how.shrink y) 8
    begun = then_made 8 (first_made first) second (omega arith)

    pub union_fails : (new : Assembly) (e : BuildError) → Stays t2 new 1 24 e → FailsChoice how t0 new xs e
    union_fails new e r = (
      later_refused begun r (omega arith) (omega arith),
      omega (arith, two_of_all, takes1.most, takes2.most, r.passed),
    )

    module _ (t3 : Assembly) (u : ℕ) (union : AddsDraft t2 t3 u (union_draft []) t2.groups) where
      pub end_fails : (new : Assembly) (e : BuildError) → Stays t3 new 1 24 e → FailsChoice how t0 new xs e
      end_fails new e r = (
        later_refused (choice_then true begun union) r (omega arith) (omega arith),
        omega (arith, two_of_all, takes1.most, takes2.most, union.bytes, r.passed),
      )

      module _ (t4 : Assembly) (z : ℕ) (last : AddsDraft t3 t4 z (empty_draft 0) t3.groups) where
        both : Progress false t0 t4 (room how.shrink x + room how.shrink y + 1 + 1) 4000
        both = empty_then (choice_then true begun union) last

        both_sizes : MadeAt t0 t1 s1 e1 × MadeAt t1 t2 s2 e2 × AddedAt t2 t3 u × AddedAt t3 t4 z
        both_sizes = (made_at first, made_at second, added_at union, added_at last)

        pub first_lead_fails : (new : Assembly) (e : BuildError) → StaysAt t4 new u e → FailsChoice how t0 new xs e
        first_lead_fails new e r = (
          later_refused both r.stays (omega arith) (omega arith),
          omega (arith, two_of_all, takes1.most, takes2.most, union.bytes, last.bytes, r.stays.passed),
        )

        module _ (t5 : Assembly) (p5 : Led t4 t5 u s1) where
          with_one : Progress false t0 t5 (room how.shrink x + room how.shrink y + 1 + 1) 20
          with_one = then_led 20 both p5 (omega (arith, both_sizes)) (omega (arith, both_sizes)) (omega arith)

          pub second_lead_fails : (new : Assembly) (e : BuildError) → StaysAt t5 new e1 e → FailsChoice how t0 new xs e
          second_lead_fails new e r = (
            later_refused with_one r.stays (omega arith) (omega arith),
            omega (
              arith,
              two_of_all,
              second_lead_passed t0 t1 t2 t3 t4 t5 s1 e1 (room how.shrink x) s2 e2 (room how.shrink y) u z (tree_least how.which x)
                  (tree_most how.which how.shrink x) (tree_least how.which y) (tree_most how.which how.shrink y) first takes1 second takes2
                  union last p5 new e r,
            ),
          )

          module _ (t6 : Assembly) (p6 : Led t5 t6 e1 z) where
            with_two : Progress false t0 t6 (room how.shrink x + room how.shrink y + 1 + 1) 16
            with_two = then_led 16 with_one p6 (omega (arith, both_sizes)) (omega (arith, both_sizes, p5.size)) (omega arith)

            pub third_lead_fails : (new : Assembly) (e : BuildError) → StaysAt t6 new u e → FailsChoice how t0 new xs e
            third_lead_fails new e r = (
              later_refused with_two r.stays (omega arith) (omega arith),
              omega (
                arith,
                two_of_all,
                third_lead_passed t0 t1 t2 t3 t4 t5 s1 e1 (room how.shrink x) s2 e2 (room how.shrink y) u z (tree_least how.which x)
                    (tree_most how.which how.shrink x) (tree_least how.which y) (tree_most how.which how.shrink y) first takes1 second takes2
                    union last p5 t6 p6 new e r,
              ),
            )

            module _ (t7 : Assembly) (p7 : Led t6 t7 u s2) where
              pub fourth_lead_fails : (new : Assembly) (e : BuildError) → StaysAt t7 new e2 e → FailsChoice how t0 new xs e
              fourth_lead_fails new e r = (
                later_refused (then_led 12 with_two p7 (omega (arith, both_sizes)) (omega (arith, both_sizes, p5.size, p6.size)) (omega
                    arith)) r.stays (omega arith) (omega arith),
                omega (
                  arith,
                  two_of_all,
                  fourth_lead_passed t0 t1 t2 t3 t4 t5 s1 e1 (room how.shrink x) s2 e2 (room how.shrink y) u z (tree_least how.which x)
                      (tree_most how.which how.shrink x) (tree_least how.which y) (tree_most how.which how.shrink y) first takes1 second
                      takes2 union last p5 t6 p6 t7 p7 new e r,
                ),
              )

              pub cases_open : (t8 : Assembly) → Led t7 t8 e2 z → Does t0 t1 s1 e1 x → Does t1 t2 s2 e2 y →
                  t1.groups ≡ with_groups_of how.which (length t0.starts) x t0.groups →
                  t2.groups ≡ with_groups_of how.which (length t1.starts) y t1.groups → Cases how t0 t8 u z 2 xs
              cases_open t8 p8 does1 does2 g1 g2 =
                  let same = two_first xs x y two is_x is_y in
                  let d = counted in
                  let P : List Tree → Type 0 = λ ys. Branches t0 t8 u z (room how.shrink x + room how.shrink y + 1 + 1) ys in
                  let front : x ∷ y ∷ [] ≡ take 2 xs = sym (ap (take 2) same) in
                  let starts : length t1.starts ≡ length t0.starts = ap (λ (b : Assembly). length b.starts) first.fragment.grows.settings in
                  let groups : t8.groups ≡ with_groups_of how.which (length t0.starts) y
                  (with_groups_of how.which (length t0.starts) x t0.groups) =
                  ap (λ (b : Assembly). b.groups) p8.settings ∙ ap (λ (b : Assembly). b.groups) p7.settings
                  ∙ ap (λ (b : Assembly). b.groups) p6.settings ∙ ap (λ (b : Assembly). b.groups) p5.settings
                  ∙ last.groups_are ∙ union.groups_are ∙ g2 ∙ ap (λ p. with_groups_of how.which p y t1.groups) starts
                  ∙ ap (with_groups_of how.which (length t0.starts) y) g1 in
                  record {
                    n = room how.shrink x + room how.shrink y + 1 + 1;
                    branches = subst P front (branches_open t0 t1 t2 t3 t4 t5 t6 t7 t8 s1 e1 (room how.shrink x) s2 e2
                        (room how.shrink y) u z x y first second union last p5 p6 p7 p8 does1 does2);
                    fits = omega arith;
                    groups = ap (with_groups_of how.which (length t0.starts) (alternation (drop 2 xs))) groups
                        ∙ sym (ap (λ ys. with_groups_of how.which (length t0.starts) (alternation ys) t0.groups) same);
                    bytes_least = omega (
                      arith,
                      two_least t0 t1 t2 t3 t4 t5 s1 e1 (room how.shrink x) s2 e2 (room how.shrink y) u z (tree_least how.which x)
                          (tree_most how.which how.shrink x) (tree_least how.which y) (tree_most how.which how.shrink y) first takes1 second
                          takes2 union last p5 t6 p6 t7 p7 t8 p8,
                      two_bytes at_least how.which xs x y two is_x is_y,
                    );
                    bytes_most = omega (
                      arith,
                      two_most t0 t1 t2 t3 t4 t5 s1 e1 (room how.shrink x) s2 e2 (room how.shrink y) u z (tree_least how.which x)
                          (tree_most how.which how.shrink x) (tree_least how.which y) (tree_most how.which how.shrink y) first takes1 second
                          takes2 union last p5 t6 p6 t7 p7 t8 p8,
                      two_bytes (at_most how.shrink) how.which xs x y two is_x is_y,
                    );
                    union_way = union_way t0 t1 t2 t3 t4 t5 s1 e1 (room how.shrink x) s2 e2 (room how.shrink y) u z (tree_least how.which x)
                        (tree_most how.which how.shrink x) (tree_least how.which y) (tree_most how.which how.shrink y) first takes1 second
                        takes2 union last p5 t6 p6 t7 p7 t8 p8;
                    end_way = end_way t0 t1 t2 t3 t4 t5 s1 e1 (room how.shrink x) s2 e2 (room how.shrink y) u z (tree_least how.which x)
                        (tree_most how.which how.shrink x) (tree_least how.which y) (tree_most how.which how.shrink y) first takes1 second
                        takes2 union last p5 t6 p6 t7 p7 t8 p8;
                  }

sized_by : (b : Bound) (which : WhichCaptures) (xs : List Tree) (i : ℕ) (x : Tree) → i < length xs → x ≡ get_or xs i x →
    part_bytes b which 4 (drop i xs) ≡ tree_bytes b which false x + 4 + part_bytes b which 4 (drop (i + 1) xs)
sized_by b which xs i x l is = ap (part_bytes b which 4) (first_left xs i x x l is)

module _ (how : How) (old b : Assembly) (u z i : ℕ) (xs : List Tree) (cs : Cases how old b u z i xs) where
  pub cases_then : (c d f : Assembly) (s e : ℕ) (x : Tree) → i < length xs → x ≡ get_or xs i x → Makes b c s e (room how.shrink x) →
      Does b c s e x → c.groups ≡ with_groups_of how.which (length b.starts) x b.groups →
      Led c d u s → Led d f e z →
      TakesBytes b c e (tree_least how.which x) (tree_most how.which how.shrink x) → Cases how old f u z (i + 1) xs
  cases_then c d f s e x l is m does g p1 p2 w =
      let here = cs.branches.u_new in
      let below = cs.branches.u_z in
      let inside = cs.branches.z_there in
      let u_way : way_at c u ≡ 4 = way_kept m.fragment.grows u (omega arith) ∙ cs.union_way in
      let z_way : way_at c z ≡ 0 = way_kept m.fragment.grows z inside ∙ cs.end_way in
      let fits = cs.fits in
      let split = first_left xs i x x l is in
      let counted : rooms how.shrink (drop i xs) ≡ room how.shrink x + rooms how.shrink (drop (i + 1) xs) = ap (rooms how.shrink) split in
      let P : List Tree → Type 0 = λ ys. Branches old f u z (cs.n + room how.shrink x) ys in
      let more : take i xs ++ x ∷ [] ≡ take (i + 1) xs = ap (λ (y : Tree). take i xs ++ y ∷ []) is ∙ sym (take_more xs i x l) in
      let starts : length b.starts ≡ length old.starts = ap (λ (w : Assembly). length w.starts)
      cs.branches.progress.partly.grows.settings in
      let groups : f.groups ≡ with_groups_of how.which (length old.starts) x b.groups =
      ap (λ (w : Assembly). w.groups) p2.settings ∙ ap (λ (w : Assembly). w.groups) p1.settings ∙ g
      ∙ ap (λ p. with_groups_of how.which p x b.groups) starts in
      record {
        n = cs.n + room how.shrink x;
        branches = subst P more (branches_then old b c d f u z cs.n s e (room how.shrink x) (take i xs) x cs.branches m p1 p2 does);
        fits = omega arith;
        groups = ap (with_groups_of how.which (length old.starts) (alternation (drop (i + 1) xs))) groups
            ∙ sym (ap (λ ys. with_groups_of how.which (length old.starts) (alternation ys) b.groups) split) ∙ cs.groups;
        bytes_least = omega (arith, w.least, cs.bytes_least, u_way, p1.takes, p1.ways e, p2.takes, sized_by at_least how.which xs i x l is);
        bytes_most = omega (
          arith,
          w.most,
          cs.bytes_most,
          u_way,
          p1.takes,
          p1.ways e,
          p2.takes,
          sized_by (at_most how.shrink) how.which xs i x l is,
        );
        union_way = p2.ways u ∙ p1.ways u ∙ u_way;
        end_way = p2.ways z ∙ p1.ways z ∙ z_way;
      }

  pub cases_weigh : length xs ≤ i → 1 < length xs → are_literals xs ≡ false →
      TakesBytes old b z (tree_least how.which (alternation xs)) (tree_most how.which how.shrink (alternation xs))
  cases_weigh over two other = record {
    least = omega (
      arith,
      cs.bytes_least,
      bytes_of_alternation at_least how.which xs two other,
      ap (part_bytes at_least how.which 4) (drop_of_length-le xs over),
    );
    most = omega (arith, cs.bytes_most, bytes_of_alternation (at_most how.shrink) how.which xs two other, cs.end_way);
  }

  module _ (two : 1 < length xs) (other : are_literals xs ≡ false) (x : Tree) (inside : i < length xs) (is : x ≡ get_or xs i x) where
    -- the next part, and the transition to it
    cases_left : sum_of_bytes b + tree_most how.which how.shrink x + 4
        ≤ sum_of_bytes old + tree_most how.which how.shrink (alternation xs)
    cases_left = omega (
      arith,
      cs.bytes_most,
      sized_by (at_most how.shrink) how.which xs i x inside is,
      bytes_of_alternation (at_most how.shrink) how.which xs two other,
    )

    counted_left : rooms how.shrink (drop i xs) ≡ room how.shrink x + rooms how.shrink (drop (i + 1) xs)
    counted_left = ap (rooms how.shrink) (first_left xs i x x inside is)

    pub next_fails : (new : Assembly) (e : BuildError) → FailsFragment how.which b new (room how.shrink x) x e →
        ExceedsLimit b (tree_most how.which how.shrink x) e → FailsChoice how old new xs e
    next_fails new e r passed =
        let fits = cs.fits in
        let counted = counted_left in
        let c = room_of_alternation how.shrink xs in (
          first_refuses (room how.shrink (alternation xs)) (alternation xs)
              (then_refuses (rooms how.shrink xs + 2) (alternation xs) cs.branches.progress r (alternation_includes how.which xs i x inside is)
              (omega arith)) (λ index h. h) (omega arith),
          omega (arith, cases_left, passed),
        )

    module _ (c : Assembly) (s t : ℕ) (made : Makes b c s t (room how.shrink x)) (takes : TakesTree how b c t x) where
      cases_led : Progress false old c (cs.n + room how.shrink x) 16
      cases_led = then_made 16 cs.branches.progress made (omega arith)

      pub next_lead_fails : (new : Assembly) (e : BuildError) → StaysAt c new u e → FailsChoice how old new xs e
      next_lead_fails new e r =
          let fits = cs.fits in
          let counted = counted_left in
          let k = room_of_alternation how.shrink xs in (
            refuses how.which (room how.shrink (alternation xs)) (alternation xs)
                (then_quits (rooms how.shrink xs + 2) cases_led r.stays (omega arith) (omega arith)) (omega arith),
            omega (arith, cases_left, takes.most, r.stays.passed),
          )

      -- the transition from it
      pub next_end_fails : (d new : Assembly) (e : BuildError) → Led c d u s → StaysAt d new t e → FailsChoice how old new xs e
      next_end_fails d new e led r =
          let fits = cs.fits in
          let here = cs.branches.u_new in
          let below = cs.branches.u_z in
          let there = cs.branches.z_there in
          let counted = counted_left in
          let k = room_of_alternation how.shrink xs in
          let u_way : way_at c u ≡ 4 = way_kept made.fragment.grows u (omega arith) ∙ cs.union_way in (
            refuses how.which (room how.shrink (alternation xs)) (alternation xs)
                (then_quits (rooms how.shrink xs + 2) (then_led 12 cases_led led here made.fragment.start_there (omega arith)) r.stays
                (omega arith) (omega arith)) (omega arith),
            omega (arith, cases_left, takes.most, u_way, led.takes, led.ways t, r.passed),
          )

  pub cases_made : Makes old b u z (room how.shrink (alternation xs))
  cases_made = let fits = cs.fits in let c = room_of_alternation how.shrink xs in
      made_capped (room how.shrink (alternation xs)) (branches_made old b u z cs.n (take i xs) cs.branches) (omega arith)

  pub cases_does : length xs ≤ i → Does old b u z (alternation xs)
  cases_does over =
      let P : List Tree → Type 0 = λ ys. Does old b u z (alternation ys) in
      subst P (take_all i xs over) (branches_does old b u z cs.n (take i xs) cs.branches)

-- a part takes no more states than all
part_room : (shrink : Bool) (xs : List Tree) (i : ℕ) (x : Tree) → i < length xs → x ≡ get_or xs i x → room shrink x ≤ rooms shrink xs
part_room shrink [] i x l is = absurd (omega arith)
part_room shrink (y ∷ xs) zero x l is = let e = ap (room shrink) is in omega arith
part_room shrink (y ∷ xs) (suc i) x l is = let e = part_room shrink xs i x (omega arith) is in omega arith

-- of one part, and of none
one_of : (xs : List Tree) (x : Tree) → length xs ≡ 1 → x ≡ get_or xs 0 x → xs ≡ x ∷ []
one_of [] x l e = absurd (omega arith)
one_of (y ∷ []) x l e = ap (λ k. k ∷ []) (sym e)
one_of (y ∷ z ∷ xs) x l e = absurd (omega arith)

pub single_does : (a b : Assembly) (s e : ℕ) (x : Tree) (xs : List Tree) → length xs ≡ 1 → x ≡ get_or xs 0 x → Does a b s e x →
    Does a b s e (alternation xs)
single_does a b s e x xs l is d = let P : List Tree → Type 0 = λ ys. Does a b s e (alternation ys) in
    subst P (sym (one_of xs x l is)) (does_same a b s e x (alternation (x ∷ [])) (same_alternation_one x) d)

pub single_bytes : (b : Bound) (which : WhichCaptures) (x : Tree) (xs : List Tree) → length xs ≡ 1 → x ≡ get_or xs 0 x →
    tree_bytes b which false x ≡ tree_bytes b which false (alternation xs)
single_bytes b which x xs l is = sym (ap (λ ys. tree_bytes b which false (alternation ys)) (one_of xs x l is))

pub part_refused : (how : How) (old new : Assembly) (i : ℕ) (x : Tree) (xs : List Tree) (e : BuildError) → i < length xs →
    x ≡ get_or xs i x → FailsFragment how.which old new (room how.shrink x) x e →
    FailsFragment how.which old new (room how.shrink (alternation xs)) (alternation xs) e
part_refused how old new i x xs e l is r =
    let c = room_of_alternation how.shrink xs in
    let most = part_room how.shrink xs i x l is in
    first_refuses (room how.shrink (alternation xs)) (alternation xs) r (alternation_includes how.which xs i x l is) (omega arith)

pub first_fails : (how : How) (old new : Assembly) (x : Tree) (xs : List Tree) (e : BuildError) → 1 < length xs → are_literals xs ≡ false →
    x ≡ get_or xs 0 x → FailsFragment how.which old new (room how.shrink x) x e → ExceedsLimit old (tree_most how.which how.shrink x) e →
    FailsChoice how old new xs e
first_fails how old new x xs e two other is r passed = (
  part_refused how old new 0 x xs e (omega arith) is r,
  omega (
    arith,
    bytes_of_part (at_most how.shrink) how.which 4 xs 0 x (omega arith) is,
    bytes_of_alternation (at_most how.shrink) how.which xs two other,
    passed,
  ),
)
