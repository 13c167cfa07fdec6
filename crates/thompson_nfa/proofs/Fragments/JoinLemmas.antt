-- Two fragments, one after the other.
use Rattle.std.proofs.Common.{◌≡◌, ℕ, ◌+◌, Bool, length, sym, ap, ◌∙◌, subst, arith, ◌||◌}
use Rattle.std.proofs.Math.Bool.{or-false}
use Rattle.nfa_core.specs.BuilderStates.{Assembly, patched, is_sparse}
use Rattle.nfa_core.specs.Drafted.{Table}
use Rattle.hir_core.specs.Tree.{Tree, empty}
use Rattle.thompson_nfa.specs.Denotes.{Denotes}
use Rattle.thompson_nfa.specs.Compiled.{Finished, AllComeOut, Makes, Does, DoesFirst, looks_in, uses}
use Rattle.thompson_nfa.proofs.Steps.LookLemmas.{or_grouped, quiet_led}
use Rattle.thompson_nfa.proofs.Walks.DenoteLemmas.{Joins, denotes_join, denotes_empty_here}
use Rattle.thompson_nfa.proofs.Walks.SameLemmas.{IsSame, denotes_same}
use Rattle.thompson_nfa.specs.Added.{Led}
use Rattle.thompson_nfa.proofs.Steps.OutLemmas.{all_join, all_on}
use Rattle.thompson_nfa.proofs.Steps.ProgressLemmas.{first_made, then_made, then_led, made}

module _ (a b c d : Assembly) (s1 e1 n1 s2 e2 n2 : ℕ) (first : Makes a b s1 e1 n1) (second : Makes b c s2 e2 n2) (led : Led c d e1 s2) where
  -- the finished table has both, with the first led on to the second
  pub join_first : (target : ℕ) (table : Table) → Finished (length a.drafts) d.drafts e2 target table →
      Finished (length a.drafts) b.drafts e1 s2 table
  join_first target table fin =
      let f = first.fragment in let g = second.fragment in let l = led.size in let m = g.grows.longer in let k = g.end_new in let j =
      f.end_there in let h = f.end_new in
      record {
        states = λ q low high ne. fin.states q low (omega arith) (omega arith) ∙ led.same q ne ∙ g.grows.same q high;
        led = fin.states e1 h (omega arith) (omega arith) ∙ led.here ∙ ap (patched s2) (g.grows.same e1 j);
      }

  pub join_second : (target : ℕ) (table : Table) → Finished (length a.drafts) d.drafts e2 target table →
      Finished (length b.drafts) c.drafts e2 target table
  join_second target table fin =
      let f = first.fragment in let g = second.fragment in let l = led.size in let m = f.grows.longer in let k = g.end_new in let j =
      f.end_there in
      record {
        states = λ q low high ne. fin.states q (omega arith) (omega arith) ne ∙ led.same q (omega arith);
        led = fin.led ∙ ap (patched target) (led.same e2 (omega arith));
      }

  pub join_made : Makes a d s1 e2 (n1 + n2)
  join_made =
      let f = first.fragment in let g = second.fragment in let l = led.size in let m = f.grows.longer in let k = g.end_new in let j =
      f.end_there in
      let h = f.start_there in let i = g.end_there in let o = g.start_there in let p = g.start_new in let r = f.start_new in let t =
      f.end_new in let u = g.grows.longer in
      made (n1 + n2) (then_led 12 (then_made 16 (first_made first) second (omega arith)) led t o (omega arith)) (omega arith) (omega arith)
      r (omega arith) (omega arith) (omega arith) (ap is_sparse (led.same e2 (omega arith)) ∙ g.can_be_led_on)
      (λ table target fin.
      let later = second.comes_out table target (join_second target table fin) in
      let front = first.comes_out table s2 (join_first target table fin) in
      let P : ℕ → Type 0 = λ n. AllComeOut table target (length a.drafts) n in
      subst P (sym l) (all_join table target (length a.drafts) (length b.drafts) (length c.drafts)
      (all_on table target s2 (length a.drafts) (length b.drafts) front (later s2 p o)) later))

  -- what the first leaves to do is done by the second and by what that leaves
  pub join_does : (x rest owed whole : Tree) → Joins a.reverse x rest owed → DoesFirst a b s1 e1 owed whole → Does b c s2 e2 x →
      DoesFirst a d s1 e2 rest whole
  join_does x rest owed whole j lead does = record {
    before = λ table target fin last done.
        let P : Bool → Type 0 = λ back. Denotes back table s2 target x in
        let turn : b.reverse ≡ a.reverse = ap (λ (z : Assembly). z.reverse) first.fragment.grows.settings in
        let here : Denotes a.reverse table s2 target x = subst P turn (does.denotes table target (join_second target table fin)) in
        lead.before table s2 (join_first target table fin) last (denotes_join a.reverse table s2 target last x rest owed j here done);
    looks = λ l.
        let turn : b.reverse ≡ a.reverse = ap (λ (z : Assembly). z.reverse) first.fragment.grows.settings in
        ap (λ (k : Bool). k || uses a.reverse rest l)
        (quiet_led led l ∙ does.looks l ∙ ap (λ (r : Bool). looks_in b.drafts l || uses r x l) turn)
        ∙ or_grouped (looks_in b.drafts l) (uses a.reverse x l) (uses a.reverse rest l)
        ∙ ap (λ (k : Bool). looks_in b.drafts l || k) (sym (j.met l)) ∙ lead.looks l;
  }

pub does_first : (a b : Assembly) (s e : ℕ) (x rest owed : Tree) → Joins a.reverse x rest owed → Does a b s e x →
    DoesFirst a b s e rest owed
does_first a b s e x rest owed j does = record {
  before = λ table target fin last done. denotes_join a.reverse table s target last x rest owed j (does.denotes table target fin) done;
  looks = λ l. ap (λ (k : Bool). k || uses a.reverse rest l) (does.looks l)
      ∙ or_grouped (looks_in a.drafts l) (uses a.reverse x l) (uses a.reverse rest l)
      ∙ ap (λ (k : Bool). looks_in a.drafts l || k) (sym (j.met l));
}

pub does_all : (a b : Assembly) (s e : ℕ) (rest whole : Tree) → IsSame empty rest → DoesFirst a b s e rest whole → Does a b s e whole
does_all a b s e rest whole none lead = record {
  denotes = λ table target fin. lead.before table target fin target (denotes_same a.reverse table target target empty rest none
      (denotes_empty_here a.reverse table target));
  looks = λ l. sym (or-false (looks_in b.drafts l)) ∙ ap (λ (k : Bool). looks_in b.drafts l || k) (none.met a.reverse l) ∙ lead.looks l;
}

-- a tree that is the same to a table
pub does_same : (a b : Assembly) (s e : ℕ) (x y : Tree) → IsSame x y → Does a b s e x → Does a b s e y
does_same a b s e x y same does = record {
  denotes = λ table target fin. denotes_same a.reverse table s target x y same (does.denotes table target fin);
  looks = λ l. does.looks l ∙ ap (λ (k : Bool). looks_in a.drafts l || k) (same.met a.reverse l);
}
