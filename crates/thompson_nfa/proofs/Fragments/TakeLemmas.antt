-- What fragments take in bytes, with the transition by which their end is led on: each form of a tree, step by step.
use Rattle.std.proofs.Common.{◌≡◌, ℕ, ◌+◌, ◌<◌, ◌≤◌, Bool, true, false, [], length, refl, ap, ◌∙◌, arith}
use Rattle.search_types.specs.Groups.{Groups}
use Rattle.nfa_core.specs.BuilderStates.{DraftNode, Assembly, draft_bytes, way_bytes, empty_draft, union_draft}
use Rattle.nfa_core.specs.BuilderStates.{capture_start_draft, capture_end_draft, match_draft}
use Rattle.nfa_core.specs.declared.build_error.BuildError.{BuildError}
use Rattle.thompson_nfa.specs.Added.{AddsDraft, Led}
use Rattle.thompson_nfa.specs.Choice.{no_choice}
use Rattle.thompson_nfa.specs.Compiled.{Grows, Makes, TakesBytes, TakesInAll, sum_of_bytes, way_at}
use Rattle.thompson_nfa.specs.Refusals.{ExceedsLimit, StaysAt}

-- for a state that was there, one more transition takes what it took
pub way_kept : {a b : Assembly} → Grows a b → (q : ℕ) → q < length a.drafts → way_at b q ≡ way_at a q
way_kept g q l = ap way_bytes (g.same q l)

pub way_added : {a b : Assembly} {id : ℕ} {draft : DraftNode} {groups : Groups} → AddsDraft a b id draft groups →
    way_at b id ≡ way_bytes draft
way_added added = ap way_bytes added.here

choice_way : (greedy : Bool) → way_bytes (no_choice greedy) ≡ 4
choice_way true = refl
choice_way false = refl

choice_size : (greedy : Bool) → draft_bytes (no_choice greedy) ≡ 24
choice_size true = refl
choice_size false = refl

-- one state
pub one_takes : (a b : Assembly) (id : ℕ) (draft : DraftNode) (groups : Groups) → AddsDraft a b id draft groups →
    draft_bytes draft + way_bytes draft ≡ 24 → TakesBytes a b id 24 24
one_takes a b id draft groups added is =
    let way = way_added added in
    record { least = omega (arith, added.bytes, way, is); most = omega (arith, added.bytes, way, is) }

pub takes_wider : (a b : Assembly) (e l m l2 m2 : ℕ) → TakesBytes a b e l m → l2 ≤ l → m ≤ m2 → TakesBytes a b e l2 m2
takes_wider a b e l m l2 m2 t low high = record { least = omega (arith, t.least, low); most = omega (arith, t.most, high) }

-- one fragment after another
module _ (a b c : Assembly) (end s e n l1 m1 l2 m2 : ℕ) (before : TakesBytes a b end l1 m1) (inside : end < length b.drafts)
    (made : Makes b c s e n) (next : TakesBytes b c e l2 m2) where
  kept : way_at c end ≡ way_at b end
  kept = way_kept made.fragment.grows end inside

  pub join_takes : (d : Assembly) → Led c d end s → TakesBytes a d e (l1 + l2) (m1 + m2)
  join_takes d led = record {
    least = omega (arith, before.least, next.least, kept, led.takes, led.ways e);
    most = omega (arith, before.most, next.most, kept, led.takes, led.ways e);
  }

-- ---- rounds

module _ (t0 t1 t2 t3 t4 : Assembly) (u s e n l m : ℕ) (greedy : Bool) where
  pub star_takes : AddsDraft t0 t1 u (no_choice greedy) t0.groups → Makes t1 t2 s e n → TakesBytes t1 t2 e l m → Led t2 t3 u s →
      Led t3 t4 e u → TakesBytes t0 t4 u (l + 32) (m + 32)
  star_takes union made body first second =
      let u_is = union.is in
      let size = union.size in
      let kept = way_kept made.fragment.grows u (omega arith) in
      let here = way_added union in
      let way = choice_way greedy in
      let bytes = choice_size greedy in
      record {
        least = omega (
          arith,
          union.bytes,
          body.least,
          kept,
          here,
          way,
          bytes,
          first.takes,
          second.takes,
          first.ways e,
          first.ways u,
          second.ways u,
        );
        most = omega (
          arith,
          union.bytes,
          body.most,
          kept,
          here,
          way,
          bytes,
          first.takes,
          second.takes,
          first.ways e,
          first.ways u,
          second.ways u,
        );
      }

  pub plus_takes : Makes t0 t1 s e n → TakesBytes t0 t1 e l m → AddsDraft t1 t2 u (no_choice greedy) t1.groups → Led t2 t3 e u →
      Led t3 t4 u s → TakesBytes t0 t4 u (l + 32) (m + 32)
  plus_takes made body union first second =
      let kept = way_kept union.grows e made.fragment.end_there in
      let here = way_added union in
      let way = choice_way greedy in
      let bytes = choice_size greedy in
      record {
        least = omega (arith, union.bytes, body.least, kept, here, way, bytes, first.takes, second.takes, first.ways u, second.ways u);
        most = omega (arith, union.bytes, body.most, kept, here, way, bytes, first.takes, second.takes, first.ways u, second.ways u);
      }

  pub option_takes : (exit : ℕ) → AddsDraft t0 t1 u (no_choice greedy) t0.groups → Makes t1 t2 s e n → TakesBytes t1 t2 e l m →
      Led t2 t3 u s → Led t3 t4 u exit → TakesBytes t0 t4 e (l + 32) (m + 32)
  option_takes exit union made body first second =
      let u_is = union.is in
      let size = union.size in
      let kept = way_kept made.fragment.grows u (omega arith) in
      let here = way_added union in
      let way = choice_way greedy in
      let bytes = choice_size greedy in
      record {
        least = omega (
          arith,
          union.bytes,
          body.least,
          kept,
          here,
          way,
          bytes,
          first.takes,
          second.takes,
          first.ways e,
          first.ways u,
          second.ways e,
        );
        most = omega (
          arith,
          union.bytes,
          body.most,
          kept,
          here,
          way,
          bytes,
          first.takes,
          second.takes,
          first.ways e,
          first.ways u,
          second.ways e,
        );
      }

-- rounds of a body that can match the empty string
module _ (t0 t1 t2 t3 t4 t5 t6 t7 t8 : Assembly) (s e n p q z l m : ℕ) (greedy : Bool) (made : Makes t0 t1 s e n)
    (body : TakesBytes t0 t1 e l m) (plus : AddsDraft t1 t2 p (no_choice greedy) t1.groups) (l3 : Led t2 t3 e p) (l4 : Led t3 t4 p s)
    (question : AddsDraft t4 t5 q (no_choice greedy) t4.groups) (last : AddsDraft t5 t6 z (empty_draft 0) t5.groups)
    (l7 : Led t6 t7 q s) (l8 : Led t7 t8 q z) where
  p_way : way_at t8 p ≡ 4
  p_way =
      let at = plus.is in
      let size = plus.size in
      let same = l3.size in
      let same_too = l4.size in
      let more = question.size in
      l8.ways p ∙ l7.ways p ∙ way_kept last.grows p (omega arith) ∙ way_kept question.grows p (omega arith)
      ∙ l4.ways p ∙ l3.ways p ∙ way_added plus ∙ choice_way greedy

  z_way : way_at t8 z ≡ 0
  z_way = l8.ways z ∙ l7.ways z ∙ way_added last

  summed : sum_of_bytes t8 ≡ sum_of_bytes t1 + way_at t1 e + 84
  summed =
      let e_way = way_kept plus.grows e made.fragment.end_there in
      let p_at = l3.ways p ∙ way_added plus ∙ choice_way greedy in
      let at = question.is in
      let q_at : way_at t6 q ≡ 4 = way_kept last.grows q (omega (arith, at, question.size)) ∙ way_added question ∙ choice_way greedy in
      let q_then : way_at t7 q ≡ 4 = l7.ways q ∙ q_at in
      omega (
        arith,
        plus.bytes,
        question.bytes,
        last.bytes,
        choice_size greedy,
        e_way,
        p_at,
        q_at,
        q_then,
        l3.takes,
        l4.takes,
        l7.takes,
        l8.takes,
      )

  pub loop_takes : (t9 : Assembly) → Led t8 t9 p z → TakesBytes t0 t9 z (l + 88) (m + 88)
  loop_takes t9 l9 = record {
    least = omega (arith, body.least, summed, p_way, z_way, l9.takes, l9.ways z);
    most = omega (arith, body.most, summed, p_way, z_way, l9.takes, l9.ways z);
  }

-- ---- groups

module _ (t0 t1 t2 t3 t4 : Assembly) (a s e z n l m p p2 i next1 next2 : ℕ) (groups1 groups2 : Groups)
    (start : AddsDraft t0 t1 a (capture_start_draft p i next1) groups1) (made : Makes t1 t2 s e n) (body : TakesBytes t1 t2 e l m)
    (last : AddsDraft t2 t3 z (capture_end_draft p2 i next2) groups2) (first : Led t3 t4 a s) where
  captured_sum : (sum_of_bytes t4 ≡ sum_of_bytes t2 + 24) × (way_at t4 e ≡ way_at t2 e)
  captured_sum =
      let a_is = start.is in
      let size = start.size in
      let longer = made.fragment.grows.longer in
      let way : way_at t3 a ≡ 0 = way_kept last.grows a (omega arith) ∙ way_kept made.fragment.grows a (omega arith) ∙ way_added start in
      (omega (arith, last.bytes, first.takes, way), first.ways e ∙ way_kept last.grows e made.fragment.end_there)

  pub capture_takes : (t5 : Assembly) → Led t4 t5 e z → TakesBytes t0 t5 z (48 + l) (48 + m)
  capture_takes t5 second =
      let z_way : way_at t5 z ≡ 0 = second.ways z ∙ first.ways z ∙ way_added last in
      record {
        least = omega (arith, start.bytes, body.least, captured_sum.0, captured_sum.1, z_way, second.takes);
        most = omega (arith, start.bytes, body.most, captured_sum.0, captured_sum.1, z_way, second.takes);
      }

-- ---- the first two parts of an alternation

module _ (t0 t1 t2 t3 t4 t5 : Assembly) (s1 e1 n1 s2 e2 n2 u z l1 m1 l2 m2 : ℕ) (first : Makes t0 t1 s1 e1 n1)
    (takes1 : TakesBytes t0 t1 e1 l1 m1) (second : Makes t1 t2 s2 e2 n2) (takes2 : TakesBytes t1 t2 e2 l2 m2)
    (union : AddsDraft t2 t3 u (union_draft []) t2.groups) (last : AddsDraft t3 t4 z (empty_draft 0) t3.groups) (p5 : Led t4 t5 u s1) where
  u_way : way_at t4 u ≡ 4
  u_way = let u_is = union.is in let size = union.size in way_kept last.grows u (omega arith) ∙ way_added union

  first_way : way_at t5 e1 ≡ way_at t1 e1
  first_way =
      let inside = first.fragment.end_there in
      let longer = second.fragment.grows.longer in
      let longer_too = union.grows.longer in
      p5.ways e1 ∙ way_kept last.grows e1 (omega arith) ∙ way_kept union.grows e1 (omega arith) ∙ way_kept second.fragment.grows e1 inside

  second_way : way_at t5 e2 ≡ way_at t2 e2
  second_way =
      let inside = second.fragment.end_there in
      let longer = union.grows.longer in
      p5.ways e2 ∙ way_kept last.grows e2 (omega arith) ∙ way_kept union.grows e2 inside

  pub begun_sum : sum_of_bytes t5 ≡ sum_of_bytes t2 + 52
  begun_sum = omega (arith, union.bytes, last.bytes, p5.takes, u_way)

  pub second_lead_passed : (new : Assembly) (x : BuildError) → StaysAt t5 new e1 x → ExceedsLimit t0 (m1 + m2 + 56) x
  second_lead_passed new x r = omega (arith, takes1.most, takes2.most, begun_sum, first_way, r.passed)

  module _ (t6 : Assembly) (p6 : Led t5 t6 e1 z) where
    pub third_lead_passed : (new : Assembly) (x : BuildError) → StaysAt t6 new u x → ExceedsLimit t0 (m1 + m2 + 56) x
    third_lead_passed new x r = omega (
      arith,
      takes1.most,
      takes2.most,
      begun_sum,
      first_way,
      p6.takes,
      p6.ways u,
      p5.ways u,
      u_way,
      r.passed,
    )

    module _ (t7 : Assembly) (p7 : Led t6 t7 u s2) where
      parts_sum : sum_of_bytes t7 ≡ sum_of_bytes t2 + way_at t1 e1 + 56
      parts_sum = omega (arith, begun_sum, first_way, p6.takes, p7.takes, p6.ways u, p5.ways u, u_way)

      second_end : way_at t7 e2 ≡ way_at t2 e2
      second_end = p7.ways e2 ∙ p6.ways e2 ∙ second_way

      pub fourth_lead_passed : (new : Assembly) (x : BuildError) → StaysAt t7 new e2 x → ExceedsLimit t0 (m1 + m2 + 56) x
      fourth_lead_passed new x r = omega (arith, takes1.most, takes2.most, parts_sum, second_end, r.passed)

      module _ (t8 : Assembly) (p8 : Led t7 t8 e2 z) where
        pub two_least : sum_of_bytes t0 + (l1 + l2 + 56) ≤ sum_of_bytes t8
        two_least = omega (arith, takes1.least, takes2.least, parts_sum, second_end, p8.takes)

        pub two_most : sum_of_bytes t8 ≤ sum_of_bytes t0 + (m1 + m2 + 56)
        two_most = omega (arith, takes1.most, takes2.most, parts_sum, second_end, p8.takes)

        pub union_way : way_at t8 u ≡ 4
        union_way = p8.ways u ∙ p7.ways u ∙ p6.ways u ∙ p5.ways u ∙ u_way

        pub end_way : way_at t8 z ≡ 0
        end_way = p8.ways z ∙ p7.ways z ∙ p6.ways z ∙ p5.ways z ∙ way_added last

-- ---- a pattern

pub pattern_takes : (b0 b1 b2 b3 b4 b5 : Assembly) (s e end n p l m : ℕ) → sum_of_bytes b1 ≡ sum_of_bytes b0 → Makes b1 b2 s e n →
    TakesBytes b1 b2 e l m → AddsDraft b2 b3 end (match_draft p) b2.groups → Led b3 b4 e end → sum_of_bytes b5 ≡ sum_of_bytes b4 →
    TakesInAll b0 b5 (l + 24) (m + 24)
pattern_takes b0 b1 b2 b3 b4 b5 s e end n p l m begun made body added led done =
    let kept = way_kept added.grows e made.fragment.end_there in
    record {
      least = omega (arith, begun, body.least, added.bytes, kept, led.takes, done);
      most = omega (arith, begun, body.most, added.bytes, kept, led.takes, done);
    }
