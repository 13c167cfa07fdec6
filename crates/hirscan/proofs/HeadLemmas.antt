-- A query, line by line: whatever reads, or is faulty, after the lines so far gives that of the whole input.
use Rattle.std.proofs.Common.{◌≡◌, ℕ, ◌+◌, List, [], ◌∷◌, length, None, false, refl, sym, ◌∙◌, ap, subst, arith}
use Rattle.std.proofs.Common.{◌-◌, ◌<◌, ◌++◌, ◌≢◌, ◌==◌, Bool, true, Some, suc, take, drop, get_or, nat_lt, eqb, drop-cons}
use Rattle.std.proofs.Common.{length-append, length-take}
use mathlib.Core.Bool.{cond}
use Rattle.std.specs.List.{position, position_or_len}
use Rattle.std.proofs.lemmas.Bool.{eqb-true, eqb-false, ltb-false}
use Rattle.std.proofs.lemmas.List.{get_or-take, take-append-drop}
use Rattle.std.proofs.lemmas.List.Elements.{All-from_get_or}
use Rattle.std.proofs.lemmas.List.Quantifiers.{position-Some}
use Rattle.std.proofs.lemmas.List.Sums.{fails_before_first}
use Rattle.hirscan.proofs.SliceLemmas.{rest_of_slice}
use Rattle.hir_core.specs.Tree.{Tree}
use Rattle.hirscan.specs.declared.fault.FaultKind.{FaultKind}
use Rattle.hirscan.specs.declared.fault.FaultKind.TheVariants.{NoFindLine}
use Rattle.hirscan.specs.declared.fault.LineFault.{LineFault}
use Rattle.hirscan.specs.declared.fault.LineFault.TheVariants as of_line
use Rattle.hir_regex.specs.declared.settings.Settings.{Settings}
use Rattle.hir_regex.specs.Built.{default_settings}
use Rattle.hirscan.specs.Words.{words}
use Rattle.hirscan.specs.QueryReports.{CutsLine, ReportsFault, ReportsLineFault, on_line}
use Rattle.hirscan.specs.Takes.{QueryValue, at_first, Takes, EndsQuery}
use Rattle.hirscan.specs.LineFault.{fault}
use Rattle.hirscan.specs.Reads.{IsOneLine, Reads, reads_find, reads_line, IsFaultAt, no_line_feed, faulty_line, faulty_later}

-- this many bytes and lines of the input were read, and this rest and these trees are there
pub record Behind (text rest : List ℕ) (here : QueryValue) (at lines : ℕ) : Type 0 where
  pub reads : (found : QueryValue) (n : ℕ) → Reads rest here found n → Reads text at_first found (at + n)
  pub faults : (k : ℕ) (kind : FaultKind) → IsFaultAt rest here k kind → IsFaultAt text at_first (lines + k) kind

-- ---- the first line

pub cut_at : (text : List ℕ) (k : ℕ) → position (λ b. b == 10) text ≡ Some k
    → CutsLine text (take k text) (take (length text - (k + 1)) (drop (k + 1) text))
cut_at text k e =
    let p = position-Some (λ b. b == 10) text k 0 e in
    let feed : get_or text k 0 ≡ 10 = eqb-true _ _ p.1 in
    let next : suc k ≡ k + 1 = omega arith in
    let behind : drop k text ≡ 10 ∷ drop (k + 1) text =
    drop-cons text k 0 p.0 ∙ (ap (λ (b : ℕ). b ∷ drop (suc k) text) feed ∙ ap (λ (n : ℕ). 10 ∷ drop n text) next) in
    record {
      parts =
          sym (take-append-drop k text) ∙ (ap (λ (rest : List ℕ). take k text ++ rest) behind
          ∙ ap (λ (rest : List ℕ). take k text ++ 10 ∷ rest) (sym (rest_of_slice (k + 1) text)));
      one_line =
          All-from_get_or (λ b. b ≢ 10) (take k text) 0
          (λ j l.
          let less : j < k = omega (arith, l, length-take k text) in
          eqb-false _ _ (ap (λ (b : ℕ). eqb b 10) (get_or-take k text j 0 less) ∙ p.2 j less));
    }

-- no offset of it is found
unfound : (b : Bool) (k : ℕ) → cond b (Some k) None ≡ None → b ≡ false
unfound true k e = absurd cc
unfound false k e = refl

pub no_feed : (text : List ℕ) → position (λ b. b == 10) text ≡ None → IsOneLine text
no_feed text e k d less =
    let none = ltb-false (position_or_len (λ b. b == 10) text) (length text)
    (unfound (nat_lt (position_or_len (λ b. b == 10) text) (length text)) (position_or_len (λ b. b == 10) text) e) in
    eqb-false _ _ (fails_before_first (λ b. b == 10) text k d (omega (arith, none, less)))

-- ---- the lines so far

pub length-cut : (text line rest : List ℕ) → CutsLine text line rest → length text ≡ length line + (length rest + 1)
length-cut text line rest cut = omega (arith, ap length cut.parts, length-append line (10 ∷ rest))

pub behind_more : (text rest line next : List ℕ) (here there : QueryValue) (at lines : ℕ) → Behind text rest here at lines →
    CutsLine rest line next
    → Takes (words line) here there → Behind text next there (at + (length line + 1)) (lines + 1)
behind_more text rest line next here there at lines b cut taken = record {
  reads = λ found m h.
      let e : (at + (length line + 1)) + m ≡ at + ((length line + 1) + m) = omega arith in
      rw e (b.reads found _ (reads_line rest line next here there found _ m cut.parts cut.one_line taken h refl));
  faults = λ k kind h.
      let e : (lines + 1) + k ≡ lines + (k + 1) = omega arith in
      rw e (b.faults _ kind (faulty_later rest line next here there _ k kind cut.parts cut.one_line taken h refl));
}

pub reads_at_find : (text rest line next : List ℕ) (here found : QueryValue) (at lines : ℕ) → Behind text rest here at lines
    → CutsLine rest line next → EndsQuery (words line) here → found ≡ here → Reads text at_first found (at + (length line + 1))
reads_at_find text rest line next here found at lines b cut ends p =
    b.reads found (length line + 1) (reads_find rest line next here found (length line + 1) cut.parts cut.one_line ends p refl)

pub fault_in_line : (text rest line next : List ℕ) (here : QueryValue) (at lines : ℕ) (e : LineFault) → Behind text rest here at lines
    → CutsLine rest line next → ReportsLineFault (fault (words line) here) e → ReportsFault text (on_line e (lines + 1))
fault_in_line text rest line next here at lines (of_line.Is kind) b cut e =
    b.faults 1 kind (faulty_line rest line next here 1 kind cut.parts cut.one_line e refl)
fault_in_line text rest line next here at lines of_line.NoMemory b cut e = tt

pub fault_at_end : (text rest : List ℕ) (here : QueryValue) (at lines : ℕ) → Behind text rest here at lines → IsOneLine rest
    → IsFaultAt text at_first (lines + 1) NoFindLine
fault_at_end text rest here at lines b one = b.faults 1 NoFindLine (no_line_feed rest here 1 NoFindLine one refl refl)

-- what is there at the end of a query has no tree left over
pub state_at_end : (now here : QueryValue) → now ≡ here → here.stack ≡ []
    → record { setup = now.setup; stack = []; patterns = now.patterns } ≡ here
state_at_end now here e none =
    let left : now.stack ≡ [] = ap (λ (s : QueryValue). s.stack) e ∙ none in
    sym (ap (λ (s : List Tree). record { setup = now.setup; stack = s; patterns = now.patterns }) left) ∙ e

-- what a query begins with, of empty lists
pub begun : (s : Settings) (stack patterns : List Tree) → s ≡ default_settings → stack ≡ [] → patterns ≡ [] →
    record { setup = record { settings = s; anchored = false; span = None }; stack = stack; patterns = patterns } ≡ at_first
begun s stack patterns d e f =
    λ i. record { setup = record { settings = d i; anchored = false; span = None }; stack = e i; patterns = f i }

-- if nothing was read, what the query begins with is there
pub behind_none : (text : List ℕ) (first : QueryValue) → first ≡ at_first → Behind text text first 0 0
behind_none text first is = record {
  reads = λ found n h.
      let z : 0 + n ≡ n = omega arith in
      rw z (subst (λ (at : QueryValue). Reads text at found n) is h);
  faults = λ k kind h.
      let z : 0 + k ≡ k = omega arith in
      rw z (subst (λ (at : QueryValue). IsFaultAt text at k kind) is h);
}
