-- Fragments of repetitions.
use Rattle.std.proofs.Common.{◌≡◌, ℕ, ◌+◌, Bool, true, false, length, None, refl, ap, ◌∙◌, subst, arith}
use Rattle.hir_core.specs.Tree.{Tree, repetition}
use Rattle.search_types.specs.Groups.{Groups}
use Rattle.nfa_core.specs.BuilderStates.{DraftNode, Assembly, draft_at, patched, draft_bytes, is_sparse, empty_draft}
use Rattle.nfa_core.specs.Renaming.{stands_for}
use Rattle.nfa_core.specs.Drafted.{Table}
use Rattle.thompson_nfa.specs.Choice.{no_choice}
use Rattle.thompson_nfa.specs.Denotes.{Denotes, choice}
use Rattle.thompson_nfa.specs.Compiled.{Grows, Finished, AllComeOut, IsTame, Makes, Does}
use Rattle.thompson_nfa.specs.Added.{AddsDraft, Led}
use Rattle.thompson_nfa.proofs.Steps.LookLemmas.{quiet_led, quiet_added, quiet_choice, adds_around}
use Rattle.thompson_nfa.proofs.Steps.SizeLemmas.{AddedAt, added_at, MadeAt, made_at, LedAt}
use Rattle.thompson_nfa.proofs.Steps.OutLemmas.{out_here, out_next, out_at, all_here, all_join, all_on}
use Rattle.thompson_nfa.proofs.Fragments.LeafLemmas.{tame_one, tame_none}
use Rattle.thompson_nfa.proofs.Steps.ProgressLemmas.{Progress, first_added, first_made, then_added, then_made, then_led, made}
use Rattle.thompson_nfa.proofs.Fragments.RoundLemmas.{denotes_star, denotes_plus}
use Rattle.thompson_nfa.proofs.Walks.AheadLemmas.{denotes_then_empty}
use Rattle.thompson_nfa.proofs.Walks.DenoteLemmas.{denotes_empty}
use Rattle.thompson_nfa.proofs.Fragments.DoesLemmas.{chosen}

pub choice_stands : (greedy : Bool) (a b : ℕ) → stands_for (choice greedy a b) ≡ None
choice_stands true a b = refl
choice_stands false a b = refl

pub choice_kind : (greedy : Bool) (a : ℕ) → is_sparse (patched a (no_choice greedy)) ≡ false
choice_kind true a = refl
choice_kind false a = refl

pub no_choice_bytes : (greedy : Bool) → draft_bytes (no_choice greedy) ≡ 24
no_choice_bytes true = refl
no_choice_bytes false = refl

pub no_choice_tame : (b : Assembly) (greedy : Bool) → IsTame false b (no_choice greedy)
no_choice_tame b true = tame_none b (no_choice true) refl refl refl
no_choice_tame b false = tame_none b (no_choice false) refl refl refl

pub empty_tame : {a b : Assembly} {id : ℕ} {draft : DraftNode} {groups : Groups} → AddsDraft a b id draft groups →
    IsTame false b (empty_draft 0)
empty_tame {a} {b} x = tame_one b (empty_draft 0) 0 refl (omega arith) refl refl

pub choice_first : {a b : Assembly} {id : ℕ} {groups : Groups} (greedy : Bool) → AddsDraft a b id (no_choice greedy) groups →
    Progress false a b 1 4000
choice_first {a} {b} greedy x = let e = no_choice_bytes greedy in first_added 4000 x (no_choice_tame b greedy) (omega arith)

pub choice_then : {a b c : Assembly} {id n s : ℕ} {groups : Groups} (greedy : Bool) → Progress false a b n s →
    AddsDraft b c id (no_choice greedy) groups → Progress false a c (n + 1) 4000
choice_then {a} {b} {c} greedy p x = let e = no_choice_bytes greedy in then_added 4000 p x (no_choice_tame c greedy) (omega arith)

pub empty_then : {a b c : Assembly} {id n s : ℕ} {groups : Groups} → Progress false a b n s → AddsDraft b c id (empty_draft 0) groups →
    Progress false a c (n + 1) 4000
empty_then p x = then_added 4000 p x (empty_tame x) (omega arith)

pub reads_as : (a b : Assembly) (table : Table) (s e : ℕ) (x : Tree) → Grows a b → Denotes b.reverse table s e x →
    Denotes a.reverse table s e x
reads_as a b table s e x g d = let P : Bool → Type 0 = λ back. Denotes back table s e x in
    subst P (ap (λ (z : Assembly). z.reverse) g.settings) d

-- a loop whose body consumes at least one byte
module _ (t0 t1 t2 t3 t4 : Assembly) (greedy : Bool) (u s e n : ℕ) (added : AddsDraft t0 t1 u (no_choice greedy) t0.groups)
    (body : Makes t1 t2 s e n) (led : Led t2 t3 u s) (back : Led t3 t4 e u) where
  star_sizes : AddedAt t0 t1 u × MadeAt t1 t2 s e × LedAt t2 t3 × LedAt t3 t4
  star_sizes = (added_at added, made_at body, led.size, back.size)

  pub star_2 : Progress false t0 t2 (1 + n) 4000
  star_2 = then_made 4000 (choice_first greedy added) body (omega (arith, star_sizes))

  pub star_3 : Progress false t0 t3 (1 + n) 3996
  star_3 = then_led 3996 star_2 led (omega (arith, star_sizes)) (omega (arith, star_sizes)) (omega (arith, star_sizes))

  star_u : draft_at t4.drafts u ≡ patched s (no_choice greedy)
  star_u = back.same u (omega (arith, star_sizes)) ∙ led.here ∙ ap (patched s) (body.fragment.grows.same u (omega (arith, star_sizes)) ∙
      added.here)

  star_choice : (target : ℕ) (table : Table) → Finished (length t0.drafts) t4.drafts u target table → table u ≡ choice greedy s target
  star_choice target table fin = fin.led ∙ ap (patched target) star_u ∙ chosen greedy s target

  star_body : (target : ℕ) (table : Table) → Finished (length t0.drafts) t4.drafts u target table →
      Finished (length t1.drafts) t2.drafts e u table
  star_body target table fin = record {
    states = λ q low high ne. fin.states q (omega (arith, star_sizes)) (omega (arith, star_sizes)) (omega (arith, star_sizes)) ∙ back.same
        q ne ∙ led.same q (omega (arith, star_sizes));
    led = fin.states e (omega (arith, star_sizes)) (omega (arith, star_sizes)) (omega (arith, star_sizes)) ∙ back.here ∙ ap (patched u)
        (led.same e (omega (arith, star_sizes)));
  }

  pub star_made : Makes t0 t4 u u (n + 1)
  star_made =
      made (n + 1) (then_led 3992 star_3 back (omega (arith, star_sizes)) (omega (arith, star_sizes)) (omega (arith, star_sizes))) (omega
      (arith, star_sizes)) (omega (arith, star_sizes)) (omega (arith, star_sizes))
      (omega (arith, star_sizes)) (omega (arith, star_sizes)) (omega (arith, star_sizes))
      (ap is_sparse star_u ∙ choice_kind greedy s)
      (λ table target fin.
      let here = out_here table target u (ap stands_for (star_choice target table fin) ∙ choice_stands greedy s target) in
      let P : ℕ → Type 0 = λ k. AllComeOut table target k (length t4.drafts) in
      subst P added.is (all_join table target u (length t1.drafts) (length t4.drafts)
      (all_here table target u (length t1.drafts) (omega (arith, star_sizes)) here)
      (let Q : ℕ → Type 0 = λ k. AllComeOut table target (length t1.drafts) k in
      let size : length t2.drafts ≡ length t4.drafts = omega (arith, star_sizes) in
      subst Q size (all_on table target u (length t1.drafts) (length t2.drafts)
      (body.comes_out table u (star_body target table fin)) here))))

  pub star_does : (x : Tree) → Does t1 t2 s e x → Does t0 t4 u u (repetition 0 None greedy x)
  star_does x does = record {
    denotes = λ table target fin.
        let loop = star_choice target table fin in
        denotes_star t0.reverse table u u s target greedy x loop loop (reads_as t0 t1 table s u x added.grows
        (does.denotes table u (star_body target table fin)));
    looks = adds_around t0 t1 t2 t4 x (quiet_choice greedy added) (ap (λ (z : Assembly). z.reverse) added.grows.settings) does.looks
        (λ l. quiet_led back l ∙ quiet_led led l);
  }

-- a body, and then a loop
module _ (t0 t1 t2 t3 t4 : Assembly) (greedy : Bool) (u s e n : ℕ) (body : Makes t0 t1 s e n)
    (added : AddsDraft t1 t2 u (no_choice greedy) t1.groups) (back : Led t2 t3 e u) (led : Led t3 t4 u s) where
  plus_sizes : MadeAt t0 t1 s e × AddedAt t1 t2 u × LedAt t2 t3 × LedAt t3 t4
  plus_sizes = (made_at body, added_at added, back.size, led.size)

  pub plus_2 : Progress false t0 t2 (n + 1) 4000
  plus_2 = choice_then greedy (first_made body) added

  pub plus_3 : Progress false t0 t3 (n + 1) 3996
  plus_3 = then_led 3996 plus_2 back (omega (arith, plus_sizes)) (omega (arith, plus_sizes)) (omega (arith, plus_sizes))

  plus_u : draft_at t4.drafts u ≡ patched s (no_choice greedy)
  plus_u = led.here ∙ ap (patched s) (back.same u (omega (arith, plus_sizes)) ∙ added.here)

  plus_choice : (target : ℕ) (table : Table) → Finished (length t0.drafts) t4.drafts u target table → table u ≡ choice greedy s target
  plus_choice target table fin = fin.led ∙ ap (patched target) plus_u ∙ chosen greedy s target

  plus_body : (target : ℕ) (table : Table) → Finished (length t0.drafts) t4.drafts u target table →
      Finished (length t0.drafts) t1.drafts e u table
  plus_body target table fin = record {
    states = λ q low high ne. fin.states q (omega (arith, plus_sizes)) (omega (arith, plus_sizes)) (omega (arith, plus_sizes)) ∙ led.same
        q (omega (arith, plus_sizes)) ∙ back.same q ne
        ∙ added.grows.same q (omega (arith, plus_sizes));
    led = fin.states e (omega (arith, plus_sizes)) (omega (arith, plus_sizes)) (omega (arith, plus_sizes)) ∙ led.same e (omega (
      arith,
      plus_sizes,
    )) ∙ back.here
        ∙ ap (patched u) (added.grows.same e (omega (arith, plus_sizes)));
  }

  pub plus_made : Makes t0 t4 s u (n + 1)
  plus_made =
      made (n + 1) (then_led 3992 plus_3 led (omega (arith, plus_sizes)) (omega (arith, plus_sizes)) (omega (arith, plus_sizes))) (omega
      (arith, plus_sizes)) (omega (arith, plus_sizes)) (omega (arith, plus_sizes))
      (omega (arith, plus_sizes)) (omega (arith, plus_sizes)) (omega (arith, plus_sizes))
      (ap is_sparse plus_u ∙ choice_kind greedy s)
      (λ table target fin.
      let here = out_here table target u (ap stands_for (plus_choice target table fin) ∙ choice_stands greedy s target) in
      let P : ℕ → Type 0 = λ k. AllComeOut table target k (length t4.drafts) in
      all_join table target (length t0.drafts) (length t1.drafts) (length t4.drafts)
      (all_on table target u (length t0.drafts) (length t1.drafts) (body.comes_out table u (plus_body target table fin)) here)
      (subst P added.is (all_here table target u (length t4.drafts) (omega (arith, plus_sizes)) here)))

  pub plus_does : (x : Tree) → Does t0 t1 s e x → Does t0 t4 s u (repetition 1 None greedy x)
  plus_does x does = record {
    denotes = λ table target fin.
        denotes_plus t0.reverse table u s target greedy x (plus_choice target table fin)
        (does.denotes table u (plus_body target table fin));
    looks = λ l. quiet_led led l ∙ quiet_led back l ∙ quiet_choice greedy added l ∙ does.looks l;
  }

-- a loop whose body can match the empty string
module _ (t0 t1 t2 t3 t4 t5 t6 t7 t8 t9 : Assembly) (greedy : Bool) (s e u q z n : ℕ) (body : Makes t0 t1 s e n)
    (p1 : AddsDraft t1 t2 u (no_choice greedy) t1.groups) (p2 : Led t2 t3 e u) (p3 : Led t3 t4 u s)
    (p4 : AddsDraft t4 t5 q (no_choice greedy) t4.groups) (p5 : AddsDraft t5 t6 z (empty_draft 0) t5.groups) (p6 : Led t6 t7 q s)
    (p7 : Led t7 t8 q z) (p8 : Led t8 t9 u z) where
  loop_sizes : MadeAt t0 t1 s e × AddedAt t1 t2 u × LedAt t2 t3 × LedAt t3 t4 × AddedAt t4 t5 q × AddedAt t5 t6 z × LedAt t6 t7 × LedAt t7
      t8 × LedAt t8 t9
  loop_sizes = (made_at body, added_at p1, p2.size, p3.size, added_at p4, added_at p5, p6.size, p7.size, p8.size)

  pub loop_2 : Progress false t0 t2 (n + 1) 4000
  loop_2 = choice_then greedy (first_made body) p1

  pub loop_3 : Progress false t0 t3 (n + 1) 3996
  loop_3 = then_led 3996 loop_2 p2 (omega (arith, loop_sizes)) (omega (arith, loop_sizes)) (omega (arith, loop_sizes))

  pub loop_4 : Progress false t0 t4 (n + 1) 3992
  loop_4 = then_led 3992 loop_3 p3 (omega (arith, loop_sizes)) (omega (arith, loop_sizes)) (omega (arith, loop_sizes))

  pub loop_5 : Progress false t0 t5 (n + 1 + 1) 4000
  loop_5 = choice_then greedy loop_4 p4

  pub loop_6 : Progress false t0 t6 (n + 1 + 1 + 1) 4000
  loop_6 = empty_then loop_5 p5

  pub loop_7 : Progress false t0 t7 (n + 1 + 1 + 1) 3996
  loop_7 = then_led 3996 loop_6 p6 (omega (arith, loop_sizes)) (omega (arith, loop_sizes)) (omega (arith, loop_sizes))

  pub loop_8 : Progress false t0 t8 (n + 1 + 1 + 1) 3992
  loop_8 = then_led 3992 loop_7 p7 (omega (arith, loop_sizes)) (omega (arith, loop_sizes)) (omega (arith, loop_sizes))

  loop_z : draft_at t9.drafts z ≡ empty_draft 0
  loop_z = p8.same z (omega (arith, loop_sizes)) ∙ p7.same z (omega (arith, loop_sizes)) ∙ p6.same z (omega (arith, loop_sizes)) ∙ p5.here

  loop_end : (target : ℕ) (table : Table) → Finished (length t0.drafts) t9.drafts z target table → table z ≡ empty_draft target
  loop_end target table fin = fin.led ∙ ap (patched target) loop_z

  loop_u : (target : ℕ) (table : Table) → Finished (length t0.drafts) t9.drafts z target table → table u ≡ choice greedy s z
  loop_u target table fin = fin.states u (omega (arith, loop_sizes)) (omega (arith, loop_sizes)) (omega (arith, loop_sizes)) ∙ p8.here
      ∙ ap (patched z) (p7.same u (omega (arith, loop_sizes)) ∙ p6.same u (omega (arith, loop_sizes)) ∙ p5.grows.same u (omega (
        arith,
        loop_sizes,
      )) ∙ p4.grows.same u (omega (arith, loop_sizes))
      ∙ p3.here ∙ ap (patched s) (p2.same u (omega (arith, loop_sizes)) ∙ p1.here)) ∙ chosen greedy s z

  loop_q : (target : ℕ) (table : Table) → Finished (length t0.drafts) t9.drafts z target table → table q ≡ choice greedy s z
  loop_q target table fin = fin.states q (omega (arith, loop_sizes)) (omega (arith, loop_sizes)) (omega (arith, loop_sizes)) ∙ p8.same q
      (omega (arith, loop_sizes)) ∙ p7.here
      ∙ ap (patched z) (p6.here ∙ ap (patched s) (p5.grows.same q (omega (arith, loop_sizes)) ∙ p4.here)) ∙ chosen greedy s z

  loop_body : (target : ℕ) (table : Table) → Finished (length t0.drafts) t9.drafts z target table →
      Finished (length t0.drafts) t1.drafts e u table
  loop_body target table fin = record {
    states = λ i low high ne. fin.states i (omega (arith, loop_sizes)) (omega (arith, loop_sizes)) (omega (arith, loop_sizes))
        ∙ p8.same i (omega (arith, loop_sizes)) ∙ p7.same i (omega (arith, loop_sizes)) ∙ p6.same i (omega (arith, loop_sizes)) ∙
        p5.grows.same i (omega (arith, loop_sizes))
        ∙ p4.grows.same i (omega (arith, loop_sizes))
        ∙ p3.same i (omega (arith, loop_sizes)) ∙ p2.same i ne ∙ p1.grows.same i (omega (arith, loop_sizes));
    led = fin.states e (omega (arith, loop_sizes)) (omega (arith, loop_sizes)) (omega (arith, loop_sizes))
        ∙ p8.same e (omega (arith, loop_sizes)) ∙ p7.same e (omega (arith, loop_sizes)) ∙ p6.same e (omega (arith, loop_sizes)) ∙
        p5.grows.same e (omega (arith, loop_sizes))
        ∙ p4.grows.same e (omega (arith, loop_sizes))
        ∙ p3.same e (omega (arith, loop_sizes)) ∙ p2.here ∙ ap (patched u) (p1.grows.same e (omega (arith, loop_sizes)));
  }

  pub loop_made : Makes t0 t9 q z (n + 3)
  loop_made =
      made (n + 3) (then_led 3988 loop_8 p8 (omega (arith, loop_sizes)) (omega (arith, loop_sizes)) (omega (arith, loop_sizes))) (omega
      (arith, loop_sizes)) (omega (arith, loop_sizes)) (omega (arith, loop_sizes))
      (omega (arith, loop_sizes)) (omega (arith, loop_sizes)) (omega (arith, loop_sizes))
      (ap is_sparse loop_z)
      (λ table target fin.
      let real_u = out_here table target u (ap stands_for (loop_u target table fin) ∙ choice_stands greedy s z) in
      let real_q = out_here table target q (ap stands_for (loop_q target table fin) ∙ choice_stands greedy s z) in
      let last = out_next table target z target (ap stands_for (loop_end target table fin)) (out_at table target) in
      let P : ℕ → Type 0 = λ k. AllComeOut table target k q in
      all_join table target (length t0.drafts) (length t1.drafts) (length t9.drafts)
      (all_on table target u (length t0.drafts) (length t1.drafts) (body.comes_out table u (loop_body target table fin)) real_u)
      (all_join table target (length t1.drafts) q (length t9.drafts) (subst P p1.is (all_here table target u q (omega (arith, loop_sizes))
      real_u))
      (all_join table target q z (length t9.drafts) (all_here table target q z (omega (arith, loop_sizes)) real_q)
      (all_here table target z (length t9.drafts) (omega (arith, loop_sizes)) last))))

  pub loop_does : (x : Tree) → Does t0 t1 s e x → Does t0 t9 q z (repetition 0 None greedy x)
  loop_does x does = record {
    denotes = λ table target fin.
        denotes_then_empty t0.reverse table q z target (repetition 0 None greedy x)
        (denotes_star t0.reverse table q u s z greedy x (loop_u target table fin) (loop_q target table fin)
        (does.denotes table u (loop_body target table fin)))
        (denotes_empty t0.reverse table z target (loop_end target table fin));
    looks = λ l. quiet_led p8 l ∙ quiet_led p7 l ∙ quiet_led p6 l ∙ quiet_added p5 (λ k. refl) l ∙ quiet_choice greedy p4 l
        ∙ quiet_led p3 l ∙ quiet_led p2 l ∙ quiet_choice greedy p1 l ∙ does.looks l;
  }
