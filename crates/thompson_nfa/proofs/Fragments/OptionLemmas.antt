-- Fragments of repetitions with both bounds: the rounds so far, whose exit waits.
use Rattle.std.proofs.Common.{◌≡◌, ◌≢◌, ℕ, suc, ◌+◌, ◌<◌, ◌≤◌, Bool, false, length, Some, sym, ap, ◌∙◌, subst, arith, ⊎_elim, ◌||◌, refl}
use Rattle.std.proofs.lemmas.Bool.{cases_lt, cases_eq}
use Rattle.std.proofs.Math.Bool.{or-false}
use Rattle.look_core.specs.declared.look.Look.{Look}
use Rattle.hir_core.specs.Tree.{Tree, repetition}
use Rattle.nfa_core.specs.BuilderStates.{Assembly, draft_at, patched, is_sparse, empty_draft}
use Rattle.nfa_core.specs.Renaming.{stands_for}
use Rattle.nfa_core.specs.Drafted.{Table}
use Rattle.thompson_nfa.specs.Choice.{no_choice}
use Rattle.thompson_nfa.specs.Denotes.{Denotes, choice}
use Rattle.thompson_nfa.specs.Compiled.{Finished, AllComeOut, ComesOut, Makes, Does, DoesCopies, DoesOption, looks_in, uses}
use Rattle.thompson_nfa.specs.Added.{AddsDraft, Led}
use Rattle.thompson_nfa.proofs.Steps.LookLemmas.{quiet_led, quiet_added, quiet_choice, adds_around, left_used}
use Rattle.thompson_nfa.proofs.Steps.SizeLemmas.{AddedAt, added_at, MadeAt, made_at, LedAt}
use Rattle.thompson_nfa.proofs.Steps.OutLemmas.{out_here, out_next, out_at, out_on, all_here, all_join}
use Rattle.thompson_nfa.proofs.Steps.ProgressLemmas.{Progress, first_added, first_made, then_made, then_led, made}
use Rattle.thompson_nfa.proofs.Fragments.RepeatLemmas.{reads_as, choice_first, empty_then, empty_tame, choice_stands}
use Rattle.thompson_nfa.proofs.Fragments.BranchLemmas.{FinishesBut}
use Rattle.thompson_nfa.proofs.Fragments.RoundLemmas.{denotes_optional, denotes_stopped_here}
use Rattle.thompson_nfa.proofs.Walks.AheadLemmas.{denotes_then_empty}
use Rattle.thompson_nfa.proofs.Walks.DenoteLemmas.{denotes_empty}
use Rattle.thompson_nfa.proofs.Fragments.DoesLemmas.{chosen}

-- one round, which may be skipped
module _ (t0 t1 t2 t3 t4 : Assembly) (greedy : Bool) (u s e n z : ℕ) (added : AddsDraft t0 t1 u (no_choice greedy) t0.groups)
    (body : Makes t1 t2 s e n) (p3 : Led t2 t3 u s) (p4 : Led t3 t4 u z) (there : z < length t0.drafts) where
  option_sizes : AddedAt t0 t1 u × MadeAt t1 t2 s e × LedAt t2 t3 × LedAt t3 t4
  option_sizes = (added_at added, made_at body, p3.size, p4.size)

  option_u : (target : ℕ) (table : Table) → Finished (length t0.drafts) t4.drafts e target table → table u ≡ choice greedy s z
  option_u target table fin = fin.states u (omega (arith, option_sizes)) (omega (arith, option_sizes)) (omega (arith, option_sizes)) ∙
      p4.here
      ∙ ap (patched z) (p3.here ∙ ap (patched s) (body.fragment.grows.same u (omega (arith, option_sizes)) ∙ added.here))
      ∙ chosen greedy s z

  option_body : (target : ℕ) (table : Table) → Finished (length t0.drafts) t4.drafts e target table →
      Finished (length t1.drafts) t2.drafts e target table
  option_body target table fin = record {
    states = λ i low high ne. fin.states i (omega (arith, option_sizes)) (omega (arith, option_sizes)) ne ∙ p4.same i (omega (
      arith,
      option_sizes,
    )) ∙ p3.same i (omega (arith, option_sizes));
    led = fin.led ∙ ap (patched target) (p4.same e (omega (arith, option_sizes)) ∙ p3.same e (omega (arith, option_sizes)));
  }

  pub option_made : Makes t0 t4 u e (n + 1)
  option_made =
      made (n + 1) (then_led 3992 (then_led 3996 (then_made 4000 (choice_first greedy added) body (omega (arith, option_sizes))) p3 (omega
      (arith, option_sizes))
      (omega (arith, option_sizes)) (omega (arith, option_sizes))) p4 (omega (arith, option_sizes)) (omega (arith, option_sizes)) (omega
      (arith, option_sizes)))
      (omega (arith, option_sizes)) (omega (arith, option_sizes)) (omega (arith, option_sizes)) (omega (arith, option_sizes)) (omega
      (arith, option_sizes)) (omega (arith, option_sizes))
      (ap is_sparse (p4.same e (omega (arith, option_sizes)) ∙ p3.same e (omega (arith, option_sizes))) ∙ body.fragment.can_be_led_on)
      (λ table target fin.
      let real_u = out_here table target u (ap stands_for (option_u target table fin) ∙ choice_stands greedy s z) in
      let P : ℕ → Type 0 = λ k. AllComeOut table target k (length t1.drafts) in
      let Q : ℕ → Type 0 = λ k. AllComeOut table target (length t1.drafts) k in
      let size : length t2.drafts ≡ length t4.drafts = omega (arith, option_sizes) in
      all_join table target (length t0.drafts) (length t1.drafts) (length t4.drafts)
      (subst P added.is (all_here table target u (length t1.drafts) (omega (arith, option_sizes)) real_u))
      (subst Q size (body.comes_out table target (option_body target table fin))))

  pub option_does : (x : Tree) → Does t1 t2 s e x → DoesOption t0 t4 u e z greedy x
  option_does x does = record {
    before = λ table target fin left rest.
        denotes_optional t0.reverse table u s target z left greedy x (option_u target table fin)
        (reads_as t0 t1 table s target x added.grows (does.denotes table target (option_body target table fin))) rest;
    looks = λ l left.
        let all =
        adds_around t0 t1 t2 t4 x (quiet_choice greedy added) (ap (λ (z : Assembly). z.reverse) added.grows.settings) does.looks
        (λ k. quiet_led p4 k ∙ quiet_led p3 k) l in
        ap (λ (b : Bool). b || uses t0.reverse (repetition 0 (Some left) greedy x) l) all
        ∙ left_used t0.reverse greedy left x l (looks_in t0.drafts l);
  }

pub record Options (old mid : Assembly) (start end z n left min most : ℕ) (greedy : Bool) (x : Tree) : Type 0 where
  pub progress : Progress false old mid n 12
  pub start_new : length old.drafts ≤ start
  pub start_there : start < length mid.drafts
  pub end_new : length old.drafts ≤ end
  pub end_there : end < length mid.drafts
  pub z_new : length old.drafts ≤ z
  pub z_there : z < length mid.drafts
  pub apart : end ≢ z
  pub kind : is_sparse (draft_at mid.drafts end) ≡ false
  pub exit_is : draft_at mid.drafts z ≡ empty_draft 0
  pub outs : (table : Table) (target : ℕ) → FinishesBut (length old.drafts) mid.drafts end z table →
      table end ≡ patched target (draft_at mid.drafts end) →
      (q : ℕ) → length old.drafts ≤ q → q < length mid.drafts → q ≢ z → ComesOut table target q
  pub does : (table : Table) (target : ℕ) → FinishesBut (length old.drafts) mid.drafts end z table →
      table end ≡ patched target (draft_at mid.drafts end) →
      Denotes old.reverse table target z (repetition 0 (Some left) greedy x) →
      Denotes old.reverse table start z (repetition min (Some most) greedy x)
  pub looks : (l : Look) → (looks_in mid.drafts l || uses old.reverse (repetition 0 (Some left) greedy x) l)
      ≡ (looks_in old.drafts l || uses old.reverse (repetition min (Some most) greedy x) l)

abbrev OptionsAt : Assembly → Assembly → ℕ → ℕ → ℕ → Type 0
OptionsAt old mid start end z = (length old.drafts ≤ length mid.drafts) × (length old.drafts ≤ start) × (start < length mid.drafts) ×
    (length old.drafts ≤ end) × (end < length mid.drafts) × (length old.drafts ≤ z) × (z < length mid.drafts)

options_at : {old mid : Assembly} {start end z n left min most : ℕ} {greedy : Bool} {x : Tree} →
    Options old mid start end z n left min most greedy x → OptionsAt old mid start end z
options_at os = (os.progress.partly.grows.longer, os.start_new, os.start_there, os.end_new, os.end_there, os.z_new, os.z_there)

-- after the copies that are required
module _ (t0 t1 t2 : Assembly) (s e n z left min most : ℕ) (greedy : Bool) (x : Tree) (prefix : Makes t0 t1 s e n)
    (copies : DoesCopies t0 t1 s e min x) (added : AddsDraft t1 t2 z (empty_draft 0) t1.groups)
    (sum : min + left ≡ most) where
  owed_sizes : MadeAt t0 t1 s e × AddedAt t1 t2 z
  owed_sizes = (made_at prefix, added_at added)

  owed_prefix : (target : ℕ) (table : Table) → FinishesBut (length t0.drafts) t2.drafts e z table →
      table e ≡ patched target (draft_at t2.drafts e) → Finished (length t0.drafts) t1.drafts e target table
  owed_prefix target table fin here = record {
    states = λ q low high ne. fin q low (omega (arith, owed_sizes)) ne (omega (arith, owed_sizes)) ∙ added.grows.same q high;
    led = here ∙ ap (patched target) (added.grows.same e (omega (arith, owed_sizes)));
  }

  pub options_owed : Options t0 t2 s e z (n + 1) left min most greedy x
  options_owed = record {
    progress = let p = empty_then (first_made prefix) added in record {
      partly = p.partly;
      states = p.states;
      bytes = omega (arith, p.bytes);
      numbered = p.numbered;
    };
    start_new = omega (arith, owed_sizes);
    start_there = omega (arith, owed_sizes);
    end_new = omega (arith, owed_sizes);
    end_there = omega (arith, owed_sizes);
    z_new = omega (arith, owed_sizes);
    z_there = omega (arith, owed_sizes);
    apart = omega (arith, owed_sizes);
    kind = ap is_sparse (added.grows.same e (omega (arith, owed_sizes))) ∙ prefix.fragment.can_be_led_on;
    exit_is = added.here;
    outs = λ table target fin here q low high not_z. prefix.comes_out table target (owed_prefix target table fin here) q low (omega
        (arith, owed_sizes));
    does = λ table target fin here rest.
        let P : ℕ → Type 0 = λ k. Denotes t0.reverse table s z (repetition k (Some most) greedy x) in
        let Q : ℕ → Type 0 = λ k. Denotes t0.reverse table s z (repetition (min + 0) (Some k) greedy x) in
        let same : min + 0 ≡ min = omega (arith, owed_sizes) in
        let lead = copies.before 0 (Some left) greedy in
        subst P same (subst Q sum (lead.before table target (owed_prefix target table fin here) z rest));
    looks = λ l.
        let same : min + 0 ≡ min = omega (arith, owed_sizes) in
        ap (λ (b : Bool). b || uses t0.reverse (repetition 0 (Some left) greedy x) l) (quiet_added added (λ k. refl) l)
        ∙ (copies.before 0 (Some left) greedy).looks l
        ∙ ap (λ (m : ℕ). looks_in t0.drafts l || uses t0.reverse (repetition (min + 0) (Some m) greedy x) l) sum
        ∙ ap (λ (m : ℕ). looks_in t0.drafts l || uses t0.reverse (repetition m (Some most) greedy x) l) same;
  }

-- from a first round on
module _ (t0 t1 t2 : Assembly) (u e n z left most : ℕ) (greedy : Bool) (x : Tree) (added : AddsDraft t0 t1 z (empty_draft 0) t0.groups)
    (option : Makes t1 t2 u e n) (does : DoesOption t1 t2 u e z greedy x) (sum : suc left ≡ most) where
  first_sizes : AddedAt t0 t1 z × MadeAt t1 t2 u e
  first_sizes = (added_at added, made_at option)

  first_option : (target : ℕ) (table : Table) → FinishesBut (length t0.drafts) t2.drafts e z table →
      table e ≡ patched target (draft_at t2.drafts e) → Finished (length t1.drafts) t2.drafts e target table
  first_option target table fin here = record {
    states = λ q low high ne. fin q (omega (arith, first_sizes)) high ne (omega (
      arith,
      first_sizes,
    ));
    led = here;
  }

  pub options_first : Options t0 t2 u e z (1 + n) left 0 most greedy x
  options_first = record {
    progress = then_made 12 (first_added 4000 added (empty_tame added) (omega (arith, first_sizes))) option (omega (arith, first_sizes));
    start_new = omega (arith, first_sizes);
    start_there = omega (arith, first_sizes);
    end_new = omega (arith, first_sizes);
    end_there = omega (arith, first_sizes);
    z_new = omega (arith, first_sizes);
    z_there = omega (arith, first_sizes);
    apart = omega (arith, first_sizes);
    kind = option.fragment.can_be_led_on;
    exit_is = option.fragment.grows.same z (omega (arith, first_sizes)) ∙ added.here;
    outs = λ table target fin here q low high not_z. option.comes_out table target (first_option target table fin here) q
        (omega (arith, first_sizes)) high;
    does = λ table target fin here rest.
        let Q : ℕ → Type 0 = λ k. Denotes t0.reverse table u z (repetition 0 (Some k) greedy x) in
        let P : Bool → Type 0 = λ back. Denotes back table e z (repetition 0 (Some left) greedy x) in
        let turn : t1.reverse ≡ t0.reverse = ap (λ (b : Assembly). b.reverse) added.grows.settings in
        let R : Bool → Type 0 = λ back. Denotes back table target z (repetition 0 (Some left) greedy x) in
        subst Q sum (reads_as t0 t1 table u z (repetition 0 (Some (suc left)) greedy x) added.grows
        (does.before table target (first_option target table fin here) left (subst R (sym turn) rest)));
    looks = λ l.
        let turn : t1.reverse ≡ t0.reverse = ap (λ (z : Assembly). z.reverse) added.grows.settings in
        let F : Bool → Type 0 =
        λ back. (looks_in t2.drafts l || uses back (repetition 0 (Some left) greedy x) l) ≡ (looks_in t1.drafts l || uses back x l) in
        subst F turn (does.looks l left) ∙ ap (λ (b : Bool). b || uses t0.reverse x l) (quiet_added added (λ k. refl) l)
        ∙ ap (λ (m : ℕ). looks_in t0.drafts l || uses t0.reverse (repetition 0 (Some m) greedy x) l) sum;
  }

-- one more round
module _ (old b c d : Assembly) (start end z n left rest min most u e k : ℕ) (greedy : Bool) (x : Tree)
    (os : Options old b start end z n left min most greedy x) (option : Makes b c u e k) (does : DoesOption b c u e z greedy x)
    (led : Led c d end u) (one : left ≡ suc rest) where
  more_sizes : OptionsAt old b start end z × MadeAt b c u e × LedAt c d
  more_sizes = (options_at os, made_at option, led.size)

  more_before : (target : ℕ) (table : Table) → FinishesBut (length old.drafts) d.drafts e z table →
      FinishesBut (length old.drafts) b.drafts end z table
  more_before target table fin q low high not_end not_z = fin q low (omega (arith, more_sizes)) (omega (arith, more_sizes)) not_z ∙
      led.same q not_end
      ∙ option.fragment.grows.same q high

  more_end : (target : ℕ) (table : Table) → FinishesBut (length old.drafts) d.drafts e z table →
      table end ≡ patched u (draft_at b.drafts end)
  more_end target table fin =
      let a = os.end_new in let g = os.end_there in let h = os.apart in
      fin end a (omega (arith, more_sizes)) (omega (arith, more_sizes)) h ∙ led.here ∙ ap (patched u) (option.fragment.grows.same end g)

  more_option : (target : ℕ) (table : Table) → FinishesBut (length old.drafts) d.drafts e z table →
      table e ≡ patched target (draft_at d.drafts e) → Finished (length b.drafts) c.drafts e target table
  more_option target table fin here =
      let a = os.end_new in let g = os.end_there in let h = os.z_there in let l = os.progress.partly.grows.longer in
      record {
        states = λ q low high ne. fin q (omega (arith, more_sizes)) (omega (arith, more_sizes)) ne (omega (arith, more_sizes)) ∙ led.same
            q (omega (arith, more_sizes));
        led = here ∙ ap (patched target) (led.same e (omega (arith, more_sizes)));
      }

  pub options_then : Options old d start e z (n + k) rest min most greedy x
  options_then =
      let a = os.end_new in let g = os.end_there in let h = os.z_there in let l = os.progress.partly.grows.longer in let v = os.start_new in
      let w = os.start_there in let i = os.z_new in let ap1 = os.apart in
      record {
        progress = then_led 12 (then_made 16 os.progress option (omega (arith, more_sizes))) led a (omega (arith, more_sizes)) (omega
            (arith, more_sizes));
        start_new = v;
        start_there = omega (arith, more_sizes);
        end_new = omega (arith, more_sizes);
        end_there = omega (arith, more_sizes);
        z_new = i;
        z_there = omega (arith, more_sizes);
        apart = omega (arith, more_sizes);
        kind = ap is_sparse (led.same e (omega (arith, more_sizes))) ∙ option.fragment.can_be_led_on;
        exit_is = led.same z (λ (same : z ≡ end). ap1 (sym same)) ∙ option.fragment.grows.same z h ∙ os.exit_is;
        outs = λ table target fin here q low high not_z.
            let all = option.comes_out table target (more_option target table fin here) in
            ⊎_elim
            (λ (less : q < length b.drafts).
            let o = os.outs table u (more_before target table fin) (more_end target table fin) q low less not_z in
            out_on table target u o.0 q o.1 (all u (omega (arith, more_sizes)) (omega (arith, more_sizes))))
            (λ (more : length b.drafts ≤ q). all q more (omega (arith, more_sizes)))
            (cases_lt q (length b.drafts));
        does = λ table target fin here done.
            let turn : b.reverse ≡ old.reverse = ap (λ (z : Assembly). z.reverse) os.progress.partly.grows.settings in
            let R : Bool → Type 0 = λ back. Denotes back table target z (repetition 0 (Some rest) greedy x) in
            let Q : ℕ → Type 0 = λ m. Denotes old.reverse table u z (repetition 0 (Some m) greedy x) in
            os.does table u (more_before target table fin) (more_end target table fin)
            (subst Q (sym one) (reads_as old b table u z (repetition 0 (Some (suc rest)) greedy x) os.progress.partly.grows
            (does.before table target (more_option target table fin here) rest (subst R (sym turn) done))));
        looks = λ l.
            let turn : b.reverse ≡ old.reverse = ap (λ (z : Assembly). z.reverse) os.progress.partly.grows.settings in
            let F : Bool → Type 0 =
            λ back. (looks_in c.drafts l || uses back (repetition 0 (Some rest) greedy x) l) ≡ (looks_in b.drafts l || uses back x l) in
            ap (λ (k : Bool). k || uses old.reverse (repetition 0 (Some rest) greedy x) l) (quiet_led led l)
            ∙ subst F turn (does.looks l rest)
            ∙ ap (λ (m : ℕ). looks_in b.drafts l || uses old.reverse (repetition 0 (Some m) greedy x) l) (sym one) ∙ os.looks l;
      }

-- no round is left
module _ (old mid new : Assembly) (start end z n left min most : ℕ) (greedy : Bool) (x : Tree)
    (os : Options old mid start end z n left min most greedy x) (led : Led mid new end z) (none : left ≡ 0) where
  last_sizes : OptionsAt old mid start end z × LedAt mid new
  last_sizes = (options_at os, led.size)

  last_but : (target : ℕ) (table : Table) → Finished (length old.drafts) new.drafts z target table →
      FinishesBut (length old.drafts) mid.drafts end z table
  last_but target table fin q low high not_end not_z = fin.states q low (omega (arith, last_sizes)) not_z ∙ led.same q not_end

  last_end : (target : ℕ) (table : Table) → Finished (length old.drafts) new.drafts z target table →
      table end ≡ patched z (draft_at mid.drafts end)
  last_end target table fin = let a = os.end_new in let g = os.end_there in fin.states end a (omega (arith, last_sizes)) os.apart ∙ led.here

  last_z : draft_at new.drafts z ≡ empty_draft 0
  last_z = let ap1 = os.apart in led.same z (λ (same : z ≡ end). ap1 (sym same)) ∙ os.exit_is

  pub options_made : Makes old new start z n
  options_made =
      let a = os.end_new in let h = os.z_there in let v = os.start_new in let w = os.start_there in let i = os.z_new in
      made n (then_led 8 os.progress led a h (omega (arith, last_sizes))) (omega (arith, last_sizes)) (omega (arith, last_sizes)) v (omega
      (arith, last_sizes)) i (omega (arith, last_sizes))
      (ap is_sparse last_z)
      (λ table target fin q low high.
      let out = out_next table target z target (ap stands_for (fin.led ∙ ap (patched target) last_z)) (out_at table target) in
      let P : ℕ → Type 0 = λ k. ComesOut table target k in
      ⊎_elim
      (λ (e : q ≡ z). subst P (sym e) out)
      (λ (not_z : q ≡ z → ⊥). let o = os.outs table z (last_but target table fin) (last_end target table fin) q low (omega (
        arith,
        last_sizes,
      )) not_z in
      out_on table target z o.0 q o.1 out)
      (cases_eq q z))

  pub options_does : Does old new start z (repetition min (Some most) greedy x)
  options_does = record {
    denotes = λ table target fin.
        let Q : ℕ → Type 0 = λ m. Denotes old.reverse table z z (repetition 0 (Some m) greedy x) in
        denotes_then_empty old.reverse table start z target (repetition min (Some most) greedy x)
        (os.does table z (last_but target table fin) (last_end target table fin)
        (subst Q (sym none) (denotes_stopped_here old.reverse table z greedy x)))
        (denotes_empty old.reverse table z target (fin.led ∙ ap (patched target) last_z));
    looks = λ l. quiet_led led l ∙ sym (or-false (looks_in mid.drafts l))
        ∙ ap (λ (m : ℕ). looks_in mid.drafts l || uses old.reverse (repetition 0 (Some m) greedy x) l) (sym none) ∙ os.looks l;
  }
