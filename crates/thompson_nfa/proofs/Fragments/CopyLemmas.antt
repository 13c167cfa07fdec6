-- Fragments of copies and of rounds that may be skipped: the rounds so far.
use Rattle.std.proofs.Common.{◌≡◌, ℕ, zero, suc, ◌+◌, ◌-◌, ◌*◌, ◌<◌, ◌≤◌, max, Bool, length, Option, Some, None, refl, sym, ap, ◌∙◌, subst}
use Rattle.std.proofs.Common.{arith, ◌||◌}
use Rattle.search_types.specs.Groups.{Groups}
use Rattle.hir_core.specs.Tree.{Tree, empty, repetition}
use Rattle.nfa_core.specs.BuilderStates.{Assembly, empty_draft, way_bytes}
use Rattle.nfa_core.specs.declared.build_error.BuildError.{BuildError}
use Rattle.thompson_nfa.specs.Compiled.{Makes, TakesBytes, Does, DoesFirst, DoesCopies, DoesOption, raised, looks_in, uses, sum_of_bytes}
use Rattle.thompson_nfa.specs.Compiled.{way_at}
use Rattle.thompson_nfa.specs.Added.{AddsDraft, Led}
use Rattle.thompson_nfa.specs.NotedGroups.{with_groups_of}
use Rattle.thompson_nfa.specs.Refusals.{FailsFragment, ExceedsLimit, StaysAt}
use Rattle.thompson_nfa.specs.Room.{room}
use Rattle.thompson_nfa.specs.ByteRoom.{tree_least, tree_most, rounds_bytes}
use Rattle.thompson_nfa.specs.declared.compiling.How.{How}
use Rattle.thompson_nfa.specs.declared.which_captures.WhichCaptures.{WhichCaptures}
use Rattle.thompson_nfa.proofs.Steps.LookLemmas.{quiet_led}
use Rattle.thompson_nfa.proofs.Fragments.RoundLemmas.{one_more, joins_copy, same_stopped}
use Rattle.thompson_nfa.proofs.Fragments.PartBytes.{copies_before, round_bytes, none_left}
use Rattle.thompson_nfa.proofs.Fragments.TakeLemmas.{way_kept, takes_wider, join_takes}
use Rattle.thompson_nfa.proofs.Fragments.JoinLemmas.{join_made, join_first, join_second, join_does, does_first, does_all, does_same}
use Rattle.thompson_nfa.proofs.Steps.NotedLemmas.{noted_twice}
use Rattle.thompson_nfa.proofs.Steps.ErrorLemmas.{Fails}
use Rattle.thompson_nfa.proofs.Steps.ProgressLemmas.{first_made, then_made, made_capped, then_quits, refuses, then_refuses}
use Rattle.thompson_nfa.proofs.Steps.ProgressLemmas.{first_added, first_refuses}
use Rattle.thompson_nfa.proofs.Fragments.RepeatLemmas.{empty_tame, reads_as}
use Rattle.thompson_nfa.proofs.Fragments.OptionLemmas.{Options, options_owed, options_first, options_then, options_made, options_does}

one_raised : (most : Option ℕ) → one_more most ≡ raised 1 most
one_raised None = refl
one_raised (Some m) = let e : suc m ≡ 1 + m = omega arith in ap Some e

raised_more : (n : ℕ) (most : Option ℕ) → raised n (one_more most) ≡ raised (n + 1) most
raised_more n None = refl
raised_more n (Some m) = let e : n + suc m ≡ n + 1 + m = omega arith in ap Some e

pub one_fits : (i n k : ℕ) → i < n → i * k + k ≤ n * k
one_fits i zero k l = absurd (omega arith)
one_fits zero (suc n) k l = omega arith
one_fits (suc i) (suc n) k l = let e = one_fits i n k (omega arith) in omega arith

pub copies_one : (a b : Assembly) (s e : ℕ) (x : Tree) → Does a b s e x → DoesCopies a b s e 1 x
copies_one a b s e x does = record {
  before = λ low most greedy.
      let P : ℕ → Type 0 = λ k. DoesFirst a b s e (repetition low most greedy x) (repetition k (raised 1 most) greedy x) in
      let Q : Option ℕ → Type 0 = λ o. DoesFirst a b s e (repetition low most greedy x) (repetition (suc low) o greedy x) in
      let one : suc low ≡ 1 + low = omega arith in
      subst P one (subst Q (one_raised most)
      (does_first a b s e x (repetition low most greedy x) (repetition (suc low) (one_more most) greedy x)
      (joins_copy a.reverse low most greedy x) does));
}

pub copies_more : (a b c d : Assembly) (s1 e1 n1 s2 e2 n2 n : ℕ) (x : Tree) → Makes a b s1 e1 n1 → Makes b c s2 e2 n2 → Led c d e1 s2 →
    DoesCopies a b s1 e1 n x → Does b c s2 e2 x → DoesCopies a d s1 e2 (n + 1) x
copies_more a b c d s1 e1 n1 s2 e2 n2 n x first second led copies does = record {
  before = λ low most greedy.
      let P : ℕ → Type 0 = λ k. DoesFirst a d s1 e2 (repetition low most greedy x) (repetition k (raised (n + 1) most) greedy x) in
      let Q : Option ℕ → Type 0 = λ o. DoesFirst a d s1 e2 (repetition low most greedy x) (repetition (n + suc low) o greedy x) in
      let one : n + suc low ≡ n + 1 + low = omega arith in
      subst P one (subst Q (raised_more n most)
      (join_does a b c d s1 e1 n1 s2 e2 n2 first second led x (repetition low most greedy x) (repetition (suc low) (one_more most) greedy x)
      (repetition (n + suc low) (raised n (one_more most)) greedy x)
      (joins_copy a.reverse low most greedy x) (copies.before (suc low) (one_more most) greedy) does));
}

pub record Copies (how : How) (old mid : Assembly) (start end i : ℕ) (x : Tree) : Type 0 where
  pub made : Makes old mid start end (i * room how.shrink x)
  pub does : DoesCopies old mid start end i x
  pub groups : mid.groups ≡ with_groups_of how.which (length old.starts) x old.groups
  pub weighs : TakesBytes old mid end (i * tree_least how.which x) (i * tree_most how.which how.shrink x)

pub copies_first : (how : How) (old mid : Assembly) (s e : ℕ) (x : Tree) → Makes old mid s e (room how.shrink x) → Does old mid s e x →
    mid.groups ≡ with_groups_of how.which (length old.starts) x old.groups →
    TakesBytes old mid e (tree_least how.which x) (tree_most how.which how.shrink x) → Copies how old mid s e 1 x
copies_first how old mid s e x m d g w = record {
  made = made_capped (1 * room how.shrink x) m (omega arith);
  does = copies_one old mid s e x d;
  groups = g;
  weighs = takes_wider old mid e (tree_least how.which x) (tree_most how.which how.shrink x) (1 * tree_least how.which x)
      (1 * tree_most how.which how.shrink x) w (omega arith) (omega arith);
}

-- the groups of one more copy
pub groups_again : (kept : WhichCaptures) (p q : ℕ) (x : Tree) (old was now : Groups) → q ≡ p → was ≡ with_groups_of kept p x old →
    now ≡ with_groups_of kept q x was → now ≡ with_groups_of kept p x old
groups_again kept p q x old was now same before is = is ∙ ap (λ k. with_groups_of kept k x was) same ∙ ap (with_groups_of kept p x) before
    ∙ noted_twice kept p x old

pub copies_then : (how : How) (old b c d : Assembly) (start end s e i : ℕ) (x : Tree) → Copies how old b start end i x →
    Makes b c s e (room how.shrink x) → Does b c s e x →
    c.groups ≡ with_groups_of how.which (length b.starts) x b.groups → Led c d end s →
    TakesBytes b c e (tree_least how.which x) (tree_most how.which how.shrink x) → Copies how old d start e (i + 1) x
copies_then how old b c d start end s e i x cs m does g led w = record {
  made = made_capped ((i + 1) * room how.shrink x) (join_made old b c d start end (i * room how.shrink x) s e
      (room how.shrink x) cs.made m led) (omega arith);
  does = copies_more old b c d start end (i * room how.shrink x) s e (room how.shrink x) i x cs.made m led cs.does does;
  groups = ap (λ (z : Assembly). z.groups) led.settings
      ∙ groups_again how.which (length old.starts) (length b.starts) x old.groups b.groups c.groups
      (ap (λ (z : Assembly). length z.starts) cs.made.fragment.grows.settings) cs.groups g;
  weighs = takes_wider old d e (i * tree_least how.which x + tree_least how.which x)
      (i * tree_most how.which how.shrink x + tree_most how.which how.shrink x) ((i + 1) * tree_least how.which x)
      ((i + 1) * tree_most how.which how.shrink x)
      (join_takes old b c end s e (room how.shrink x) (i * tree_least how.which x) (i * tree_most how.which how.shrink x)
      (tree_least how.which x) (tree_most how.which how.shrink x) cs.weighs cs.made.fragment.end_there m w d led) (omega arith)
      (omega arith);
}

-- adding so many copies fails
abbrev pub FailsCopies : How → Assembly → Assembly → ℕ → Tree → BuildError → Type 0
FailsCopies how old new n x e = Fails how old new (n * room how.shrink x) x (n * tree_most how.which how.shrink x) e

-- adding the first of them fails
pub first_copy_fails : (how : How) (old new : Assembly) (n : ℕ) (x : Tree) (e : BuildError) → 1 ≤ n →
    FailsFragment how.which old new (room how.shrink x) x e → ExceedsLimit old (tree_most how.which how.shrink x) e →
    FailsCopies how old new n x e
first_copy_fails how old new n x e some r passed = (
  first_refuses (n * room how.shrink x) x r (λ index h. h) (omega (arith, one_fits 0 n (room how.shrink x) some)),
  omega (arith, one_fits 0 n (tree_most how.which how.shrink x) some, passed),
)

module _ (how : How) (old b : Assembly) (start end i n : ℕ) (x : Tree) (cs : Copies how old b start end i x) (inside : i < n) where
  -- one more copy
  copies_left : sum_of_bytes b + way_at b end + tree_most how.which how.shrink x ≤ sum_of_bytes old + n * tree_most how.which how.shrink x
  copies_left = omega (arith, cs.weighs.most, one_fits i n (tree_most how.which how.shrink x) inside)

  pub next_copy_fails : (new : Assembly) (e : BuildError) → FailsFragment how.which b new (room how.shrink x) x e →
      ExceedsLimit b (tree_most how.which how.shrink x) e → FailsCopies how old new n x e
  next_copy_fails new e r passed = (
    then_refuses (n * room how.shrink x) x (first_made cs.made) r (λ index h. h) (one_fits i n (room how.shrink x) inside),
    omega (arith, copies_left, passed),
  )

  -- the transition to it
  pub copy_lead_fails : (c new : Assembly) (s t : ℕ) (e : BuildError) → Makes b c s t (room how.shrink x) →
      TakesBytes b c t (tree_least how.which x) (tree_most how.which how.shrink x) → StaysAt c new end e → FailsCopies how old new n x e
  copy_lead_fails c new s t e made w r =
      let fits = one_fits i n (room how.shrink x) inside in (
        refuses how.which (n * room how.shrink x) x (then_quits (n * room how.shrink x) (then_made 8 (first_made cs.made) made (omega
            arith)) r.stays (omega arith) (omega arith)) (omega arith),
        omega (arith, copies_left, w.most, way_kept made.fragment.grows end cs.made.fragment.end_there, r.passed),
      )

-- exactly so many copies
pub copies_exact : (old new : Assembly) (s e low most : ℕ) (greedy : Bool) (x : Tree) → low ≡ most → DoesCopies old new s e low x →
    Does old new s e (repetition low (Some most) greedy x)
copies_exact old new s e low most greedy x same copies =
    let P : ℕ → Type 0 = λ k. Does old new s e (repetition k (Some most) greedy x) in
    let Q : ℕ → Type 0 = λ k. Does old new s e (repetition (low + 0) (Some k) greedy x) in
    let a : low + 0 ≡ low = omega arith in
    let b : low + 0 ≡ most = omega arith in
    subst P a (subst Q b (does_all old new s e (repetition 0 (Some 0) greedy x) (repetition (low + 0) (Some (low + 0)) greedy x)
    (same_stopped greedy x) (copies.before 0 (Some 0) greedy)))

-- copies before a loop
pub copies_loop : (a b c d : Assembly) (s1 e1 n1 s2 e2 n2 low : ℕ) (greedy : Bool) (x : Tree) → Makes a b s1 e1 n1 → Makes b c s2 e2 n2 →
    Led c d e1 s2 → 0 < low → DoesCopies a b s1 e1 (low - 1) x →
    Does b c s2 e2 (repetition 1 None greedy x) → Does a d s1 e2 (repetition low None greedy x)
copies_loop a b c d s1 e1 n1 s2 e2 n2 low greedy x first second led some copies does =
    let P : ℕ → Type 0 = λ k. Does a d s1 e2 (repetition k None greedy x) in
    let same : low - 1 + 1 ≡ low = omega arith in
    let lead = copies.before 1 None greedy in
    subst P same (record {
      denotes = λ table target fin.
          lead.before table s2 (join_first a b c d s1 e1 n1 s2 e2 n2 first second led target table fin) target
          (reads_as a b table s2 target (repetition 1 None greedy x) first.fragment.grows
          (does.denotes table target (join_second a b c d s1 e1 n1 s2 e2 n2 first second led target table fin)));
      looks = λ l. quiet_led led l ∙ does.looks l
          ∙ ap (λ (r : Bool). looks_in b.drafts l || uses r x l) (ap (λ (z : Assembly). z.reverse) first.fragment.grows.settings)
          ∙ lead.looks l;
    })

-- rounds that may be skipped, of which i are done
pub record Rounds (how : How) (old mid : Assembly) (start end z i low most total : ℕ) (greedy : Bool) (x : Tree) : Type 0 where
  pub n : ℕ
  pub options : Options old mid start end z n (most - i) low most greedy x
  pub fits : n + (most - i) * (room how.shrink x + 1) ≤ total
  pub groups : mid.groups ≡ with_groups_of how.which (length old.starts) x old.groups
  pub bytes_least : sum_of_bytes old + rounds_bytes low most (tree_least how.which x)
      ≤ sum_of_bytes mid + way_at mid end + (most - i) * (tree_least how.which x + 32)
  pub bytes_most : sum_of_bytes mid + way_at mid end + (most - i) * (tree_most how.which how.shrink x + 32)
      ≤ sum_of_bytes old + rounds_bytes low most (tree_most how.which how.shrink x)

pub rounds_owed : (how : How) (t0 t1 t2 : Assembly) (s e z low most : ℕ) (greedy : Bool) (x : Tree) → low ≤ most →
    Makes t0 t1 s e (low * room how.shrink x) → DoesCopies t0 t1 s e low x →
    t1.groups ≡ with_groups_of how.which (length t0.starts) x t0.groups → AddsDraft t1 t2 z (empty_draft 0) t1.groups →
    TakesBytes t0 t1 e (low * tree_least how.which x) (low * tree_most how.which how.shrink x) →
    Rounds how t0 t2 s e z low low most (low * room how.shrink x + (most - low) * (room how.shrink x + 1) + 1) greedy x
rounds_owed how t0 t1 t2 s e z low most greedy x le m copies g added w = record {
  n = low * room how.shrink x + 1;
  options = options_owed t0 t1 t2 s e (low * room how.shrink x) z (most - low) low most greedy x m copies added (omega arith);
  fits = omega arith;
  groups = added.groups_are ∙ g;
  bytes_least = omega (arith, w.least, added.bytes, way_kept added.grows e m.fragment.end_there);
  bytes_most = omega (arith, w.most, added.bytes, way_kept added.grows e m.fragment.end_there);
}

pub rounds_first : (how : How) (t0 t1 t2 : Assembly) (u e z most : ℕ) (greedy : Bool) (x : Tree) → 0 < most →
    AddsDraft t0 t1 z (empty_draft 0) t0.groups → Makes t1 t2 u e (room how.shrink x + 1) →
    DoesOption t1 t2 u e z greedy x → t2.groups ≡ with_groups_of how.which (length t1.starts) x t1.groups →
    TakesBytes t1 t2 e (tree_least how.which x + 32) (tree_most how.which how.shrink x + 32) →
    Rounds how t0 t2 u e z 1 0 most (most * (room how.shrink x + 1) + 1) greedy x
rounds_first how t0 t1 t2 u e z zero greedy x some added m does g w = absurd (omega arith)
rounds_first how t0 t1 t2 u e z (suc left) greedy x some added m does g w = record {
  n = 1 + (room how.shrink x + 1);
  options = options_first t0 t1 t2 u e (room how.shrink x + 1) z (suc left - 1) (suc left) greedy x added m does (omega arith);
  fits = let e : suc left - 1 ≡ left = omega arith in let f = ap (λ k. k * (room how.shrink x + 1)) e in omega arith;
  groups = g ∙ ap (λ p. with_groups_of how.which p x t1.groups) (ap (λ (b : Assembly). length b.starts) added.grows.settings)
      ∙ ap (with_groups_of how.which (length t0.starts) x) added.groups_are;
  bytes_least = omega (arith, w.least, added.bytes, round_bytes 0 (suc left) (tree_least how.which x + 32) some);
  bytes_most = omega (arith, w.most, added.bytes, round_bytes 0 (suc left) (tree_most how.which how.shrink x + 32) some);
}

-- adding the first of so many rounds that may be skipped fails
pub first_round_fails : (how : How) (t0 t1 new : Assembly) (z most : ℕ) (x : Tree) (e : BuildError) → 0 < most →
    AddsDraft t0 t1 z (empty_draft 0) t0.groups → FailsFragment how.which t1 new (room how.shrink x + 1) x e →
    ExceedsLimit t1 (tree_most how.which how.shrink x + 32) e →
    Fails how t0 new (most * (room how.shrink x + 1) + 1) x (rounds_bytes 0 most (tree_most how.which how.shrink x)) e
first_round_fails how t0 t1 new z most x e some exit r passed = (
  then_refuses (most * (room how.shrink x + 1) + 1) x (first_added 4000 exit (empty_tame exit) (omega arith)) r (λ index h. h)
      (omega (arith, one_fits 0 most (room how.shrink x + 1) some)),
  omega (arith, round_bytes 0 most (tree_most how.which how.shrink x + 32) some, exit.bytes, passed),
)

module _ (how : How) (old b : Assembly) (start end z i low most total : ℕ) (greedy : Bool) (x : Tree)
    (rs : Rounds how old b start end z i low most total greedy x) where
  pub rounds_then : (c d : Assembly) (u e : ℕ) → i < most → Makes b c u e (room how.shrink x + 1) → DoesOption b c u e z greedy x →
      c.groups ≡ with_groups_of how.which (length b.starts) x b.groups → Led c d end u →
      TakesBytes b c e (tree_least how.which x + 32) (tree_most how.which how.shrink x + 32) →
      Rounds how old d start e z (i + 1) low most total greedy x
  rounds_then c d u e l m does g led w =
      let step = round_bytes i most (room how.shrink x + 1) l in
      let fits = rs.fits in
      let kept = way_kept m.fragment.grows end rs.options.end_there in
      record {
        n = rs.n + (room how.shrink x + 1);
        options = options_then old b c d start end z rs.n (most - i) (most - (i + 1)) low most u e
            (room how.shrink x + 1) greedy x rs.options m does led (omega arith);
        fits = omega arith;
        groups = ap (λ (w : Assembly). w.groups) led.settings
            ∙ groups_again how.which (length old.starts) (length b.starts) x old.groups b.groups c.groups
            (ap (λ (w : Assembly). length w.starts) rs.options.progress.partly.grows.settings) rs.groups g;
        bytes_least = omega (
          arith,
          w.least,
          rs.bytes_least,
          kept,
          led.takes,
          led.ways e,
          round_bytes i most (tree_least how.which x + 32) l,
        );
        bytes_most = omega (
          arith,
          w.most,
          rs.bytes_most,
          kept,
          led.takes,
          led.ways e,
          round_bytes i most (tree_most how.which how.shrink x + 32) l,
        );
      }

  pub rounds_take : (new : Assembly) → Led b new end z → most ≤ i →
      TakesBytes old new z (rounds_bytes low most (tree_least how.which x)) (rounds_bytes low most (tree_most how.which how.shrink x))
  rounds_take new led over =
      let exit : way_at new z ≡ 0 = led.ways z ∙ ap way_bytes rs.options.exit_is in
      record {
        least = omega (arith, rs.bytes_least, led.takes, exit, none_left i most (tree_least how.which x + 32) over);
        most = omega (arith, rs.bytes_most, led.takes, exit);
      }

  -- adding one more round fails
  rounds_left : i < most → sum_of_bytes b + way_at b end + (tree_most how.which how.shrink x + 32)
      ≤ sum_of_bytes old + rounds_bytes low most (tree_most how.which how.shrink x)
  rounds_left l = omega (arith, rs.bytes_most, round_bytes i most (tree_most how.which how.shrink x + 32) l)

  pub next_round_fails : (new : Assembly) (e : BuildError) → i < most → FailsFragment how.which b new (room how.shrink x + 1) x e →
      ExceedsLimit b (tree_most how.which how.shrink x + 32) e →
      Fails how old new total x (rounds_bytes low most (tree_most how.which how.shrink x)) e
  next_round_fails new e l r passed =
      let step = round_bytes i most (room how.shrink x + 1) l in
      let fits = rs.fits in (
        then_refuses total x rs.options.progress r (λ index h. h) (omega arith),
        omega (arith, rounds_left l, passed),
      )

  -- the transition to it fails
  pub round_lead_fails : (c new : Assembly) (u t : ℕ) (e : BuildError) → i < most → Makes b c u t (room how.shrink x + 1) →
      TakesBytes b c t (tree_least how.which x + 32) (tree_most how.which how.shrink x + 32) → StaysAt c new end e →
      Fails how old new total x (rounds_bytes low most (tree_most how.which how.shrink x)) e
  round_lead_fails c new u t e l made w r =
      let step = round_bytes i most (room how.shrink x + 1) l in
      let fits = rs.fits in (
        refuses how.which total x (then_quits total (then_made 8 rs.options.progress made (omega arith)) r.stays (omega arith) (omega
            arith)) (omega arith),
        omega (arith, rounds_left l, w.most, way_kept made.fragment.grows end rs.options.end_there, r.passed),
      )

  pub rounds_made : (new : Assembly) → Led b new end z → most ≤ i → Makes old new start z total
  rounds_made new led over =
      let fits = rs.fits in
      made_capped total (options_made old b new start end z rs.n (most - i) low most greedy x rs.options led (omega arith)) (omega arith)

  pub rounds_does : (new : Assembly) → Led b new end z → most ≤ i → Does old new start z (repetition low (Some most) greedy x)
  rounds_does new led over = options_does old b new start end z rs.n (most - i) low most greedy x rs.options led (omega arith)

pub copies_done : (how : How) (old mid : Assembly) (start end i n : ℕ) (x : Tree) → Copies how old mid start end i x → i ≤ n → n ≤ i →
    DoesCopies old mid start end n x
copies_done how old mid start end i n x cs le ge = let same : i ≡ n = omega arith in let P : ℕ → Type 0 =
    λ k. DoesCopies old mid start end k x in subst P same cs.does

pub at_least_made : (shrink : Bool) (a b c d : Assembly) (s1 e1 s2 e2 low : ℕ) (greedy : Bool) (x : Tree) → 1 < low →
    Makes a b s1 e1 ((low - 1) * room shrink x) → Makes b c s2 e2 (room shrink x + 1) → Led c d e1 s2 →
    Makes a d s1 e2 (room shrink (repetition low None greedy x))
at_least_made shrink a b c d s1 e1 s2 e2 low greedy x some first second led =
    let e = copies_before low (room shrink x) (omega arith) in
    let most : max low 1 ≡ low = omega arith in
    let f = ap (λ n. n * room shrink x) most in
    made_capped (room shrink (repetition low None greedy x)) (join_made a b c d s1 e1 ((low - 1) * room shrink x) s2 e2
    (room shrink x + 1) first second led) (omega arith)

pub stopped_does : (a b : Assembly) (s e low most : ℕ) (greedy : Bool) (x : Tree) → most ≡ 0 → low ≤ most → Does a b s e empty →
    Does a b s e (repetition low (Some most) greedy x)
stopped_does a b s e low most greedy x none le does =
    let P : ℕ → Type 0 = λ k. Does a b s e (repetition k (Some most) greedy x) in
    let Q : ℕ → Type 0 = λ k. Does a b s e (repetition 0 (Some k) greedy x) in
    let zero_low : 0 ≡ low = omega arith in
    subst P zero_low (subst Q (sym none) (does_same a b s e empty (repetition 0 (Some 0) greedy x) (same_stopped greedy x) does))

pub bounds_does : (a b : Assembly) (s e low most low2 most2 : ℕ) (greedy : Bool) (x : Tree) → low ≡ low2 → most ≡ most2 →
    Does a b s e (repetition low (Some most) greedy x) → Does a b s e (repetition low2 (Some most2) greedy x)
bounds_does a b s e low most low2 most2 greedy x l m does =
    let P : ℕ → Type 0 = λ k. Does a b s e (repetition k (Some most2) greedy x) in
    let Q : ℕ → Type 0 = λ k. Does a b s e (repetition low (Some k) greedy x) in
    subst P l (subst Q m does)
