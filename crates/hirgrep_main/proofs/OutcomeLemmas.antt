-- What came of files stays, whatever comes of the next ones.
use Rattle.std.proofs.Common.{◌∙◌, ◌≡◌, ℕ, Bool, true, false, if◌then◌else◌, ◌||◌, ◌&&◌, nat_lt, ap, sym, subst, refl}
use Rattle.std.specs.Prelude.{Result, Ok, Err, IfOk}
use Rattle.json_events.specs.declared.stats.Stats.{Stats}
use Rattle.line_search.specs.declared.fault.Fault.{Fault}
use Rattle.grep_core.specs.declared.output_options.Print.{Print}
use Rattle.hirgrep_main.specs.declared.results.outcome.Outcome.{Outcome}
use Rattle.grep_cli.specs.Counting.{counted}
use Rattle.hirgrep_main.specs.Decisions.{prints_nothing}
use Rattle.hirgrep_main.specs.Outcomes.{Continues, after_search, is_of_output, with_failure, with_totals}
use Rattle.hirgrep_main.specs.Walking.{Tries}

or_stays : (a b : Bool) → a ≡ true → (a || b) ≡ true
or_stays a b e = ap (λ x. x || b) e

pub continues_on : {a b c : Outcome} → Continues a b → Continues b c → Continues a c
continues_on p q = record {
  selected = λ e. q.selected (p.selected e);
  printed = λ e. q.printed (p.printed e);
  failed = λ e. q.failed (p.failed e);
  ended = λ e. q.ended (p.ended e);
}

pub continues_searched : (print : Print) (o : Outcome) (bytes : ℕ) (wrote : Bool) (reported : Result ℕ Fault)
    → Continues o (after_search print o bytes wrote reported)
continues_searched print o bytes wrote (Ok n) = record {
  selected = or_stays o.selected (nat_lt 0 n);
  printed = or_stays o.printed wrote;
  failed = λ e. e;
  ended = or_stays o.ended (nat_lt 0 n && prints_nothing print);
}
continues_searched print o bytes wrote (Err fault) = record {
  selected = λ e. e;
  printed = or_stays o.printed wrote;
  failed = λ e. refl;
  ended = or_stays o.ended (is_of_output fault);
}

-- The sums of what was searched are no part of it.
pub continues_with : {a b : Outcome} (s : Stats) → Continues (with_totals a s) b → Continues a b
continues_with s p = record { selected = p.selected; printed = p.printed; failed = p.failed; ended = p.ended }

-- by an equation of what came
pub continues_as : {a b c : Outcome} → Continues a b → c ≡ b → Continues a c
continues_as {a = a} p e = subst (λ (x : Outcome). Continues a x) (sym e) p

-- ---- a file was searched, or a failure was recorded

pub searched_counts : (print : Print) (o : Outcome) (bytes : ℕ) (wrote : Bool) (reported : Result ℕ Fault)
    → (after_search print o bytes wrote reported).files ≡ counted o.files 1
searched_counts print o bytes wrote (Ok n) = refl
searched_counts print o bytes wrote (Err fault) = refl

pub searched_as : {new : Outcome} (print : Print) (o : Outcome) (bytes : ℕ) (wrote : Bool) (reported : Result ℕ Fault)
    → new ≡ after_search print o bytes wrote reported → new.files ≡ counted o.files 1
searched_as print o bytes wrote reported e = ap (λ (x : Outcome). x.files) e ∙ searched_counts print o bytes wrote reported

pub unrefused : {a b : Outcome} (refused : Bool) → b ≡ (if refused then with_failure a else a) → refused ≡ false → b ≡ a
unrefused {a = a} refused e f = e ∙ ap (λ (r : Bool). if r then with_failure a else a) f

pub tries_after : {a b c : Outcome} → b ≡ a → Tries b c → Tries a c
tries_after {c = c} e t = subst (λ (x : Outcome). Tries x c) e t

-- What holds of the value of a result that is known.
pub if_ok : {A E : Type 0} (r : Result A E) (a : A) (P : A → Type 0) → r ≡ Ok a → P a → IfOk r P
if_ok r a P e p = subst (λ x. IfOk x P) (sym e) p
