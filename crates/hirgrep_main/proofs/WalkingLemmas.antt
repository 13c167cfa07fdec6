-- What comes of arguments, one after the other.
use Rattle.std.proofs.Common.{◌≡◌, ◌∙◌, ◌<◌, ◌≤◌, ◌+◌, ◌⊎◌, ◌==◌, ℕ, suc, Bool, true, false, List, [], ◌∷◌, Bor, codes, drop, get_or, length, map, true≢false, sym, ap, subst, refl, arith}
use Rattle.std.proofs.Math.Seq.{drop-cons}
use Rattle.std.proofs.lemmas.Bool.{eqb-true}
use Rattle.std.proofs.lemmas.List.{drop_all, length-map}
use Rattle.std.specs.Prelude.{Result, Ok, Err, IsErr, OnOk}
use Rattle.std.specs.declared.io.Error.{Error}
use Rattle.grep_cli.specs.Selecting.{Selection, selection}
use Rattle.grep_cli.specs.declared.files.selecting_files.Selection.{Selection as TheSelection}
use Rattle.hirgrep_main.specs.declared.options.asked.Asked.{Asked}
use Rattle.hirgrep_main.specs.declared.results.outcome.Outcome.{Outcome}
use Rattle.hirgrep_main.specs.declared.searching.Named.{Named}
use Rattle.hirgrep_main.specs.declared.searching.Named.TheVariants.{Input}
use Rattle.hirgrep_main.specs.Outcomes.{Continues, with_failure}
use Rattle.hirgrep_main.specs.Readings.{prints_summary}
use Rattle.hirgrep_main.specs.Walking.{AreHandled, Comes, IsHandled, SearchesNames, is_left_out, searched_paths, with_listed_folders}
use Rattle.hirgrep_main.specs.Walking.AreHandled.{all, next, ended, failed}

-- ---- one argument

continues_self : (o : Outcome) → Continues o o
continues_self o = record { selected = λ e. e; printed = λ e. e; failed = λ e. e; ended = λ e. e }

pub continues_failed : (o : Outcome) → Continues o (with_failure o)
continues_failed o = record { selected = λ e. e; printed = λ e. e; failed = λ e. refl; ended = λ e. e }

-- nothing comes of one that is left out
pub is_left : (asked : Asked) (s : Selection) (bare : Bool) (path : List ℕ) (named : Result Named Error) (o : Outcome)
    → (path ≡ codes "-" → named ≡ Ok Input) → is_left_out s bare named path ≡ true → IsHandled asked s bare path named o o
is_left asked s bare path named o input left = record {
  input = input;
  left = λ _. refl;
  comes = λ chosen. absurd (true≢false (sym left ∙ chosen));
  continues = continues_self o;
}

-- one that isn't left out, and what it names
pub is_chosen : (asked : Asked) (s : Selection) (bare : Bool) (path : List ℕ) (named what : Result Named Error) (old new middle : Outcome)
    → (path ≡ codes "-" → named ≡ Ok Input) → is_left_out s bare named path ≡ false → named ≡ what
    → Comes asked s.lists what old middle → Continues old middle → new ≡ middle → IsHandled asked s bare path named old new
is_chosen asked s bare path named what old new middle input chosen is comes continues same =
    subst (λ o. IsHandled asked s bare path named old o) (sym same) (record {
      input = input;
      left = λ left. absurd (true≢false (sym left ∙ chosen));
      comes = λ _. subst (λ n. Comes asked s.lists n old middle) (sym is) comes;
      continues = continues;
    })

pub is_known : (asked : Asked) (s : Selection) (bare : Bool) (path : List ℕ) (named : Result Named Error) (found what : Named) (old new middle : Outcome)
    → (path ≡ codes "-" → named ≡ Ok Input) → is_left_out s bare named path ≡ false → named ≡ Ok found → found ≡ what
    → Comes asked s.lists (Ok what) old middle → Continues old middle → new ≡ middle → IsHandled asked s bare path named old new
is_known asked s bare path named found what old new middle input chosen is same =
    is_chosen asked s bare path named (Ok what) old new middle input chosen (is ∙ ap Ok same)

-- ---- all of them

-- what comes of the arguments from one on leads to what comes of all
abbrev pub Leads : Asked → Selection → Bool → List (Bor (List ℕ)) → Outcome → ℕ → Outcome → Type 0
Leads asked s bare paths first i o = (done : Bool) (last : Outcome) → AreHandled asked s bare done last (map (λ p. p.now) (drop i paths)) o
    → AreHandled asked s bare done last (map (λ p. p.now) paths) first

module _ (asked : Asked) (s : Selection) (bare : Bool) (paths : List (Bor (List ℕ))) (first : Outcome) (i : ℕ) (d : Bor (List ℕ))
    (below : i < length paths) (old : Outcome) (leads : Leads asked s bare paths first i old) (named : Result Named Error) where
  at_next : map (λ p. p.now) (drop i paths) ≡ (get_or paths i d).now ∷ map (λ p. p.now) (drop (suc i) paths)
  at_next = ap (map (λ p. p.now)) (drop-cons paths i d below)

  from_here : (done : Bool) (last : Outcome)
      → AreHandled asked s bare done last ((get_or paths i d).now ∷ map (λ p. p.now) (drop (suc i) paths)) old
      → AreHandled asked s bare done last (map (λ p. p.now) paths) first
  from_here done last came = leads done last (subst (λ ps. AreHandled asked s bare done last ps old) (sym at_next) came)

  pub leads_on : (new : Outcome) → IsHandled asked s bare (get_or paths i d).now named old new → Leads asked s bare paths first (i + 1) new
  leads_on new is done last rest =
      let on : i + 1 ≡ suc i = omega arith in
      from_here done last (next (get_or paths i d).now (map (λ p. p.now) (drop (suc i) paths)) named old new is
      (subst (λ k. AreHandled asked s bare done last (map (λ p. p.now) (drop k paths)) new) on rest))

  pub ends : (last : Outcome) → IsHandled asked s bare (get_or paths i d).now named old last → last.ended ≡ true
      → AreHandled asked s bare true last (map (λ p. p.now) paths) first
  ends last is over = from_here true last (ended (get_or paths i d).now (map (λ p. p.now) (drop (suc i) paths)) named old is over refl)

  pub fails : (last : Outcome) → (last ≡ old) ⊎ IsHandled asked s bare (get_or paths i d).now named old last
      → AreHandled asked s bare false last (map (λ p. p.now) paths) first
  fails last is = from_here false last (failed (get_or paths i d).now (map (λ p. p.now) (drop (suc i) paths)) named old refl is)

pub all_came : (asked : Asked) (s : Selection) (bare : Bool) (paths : List (Bor (List ℕ))) (first : Outcome) (i : ℕ) (o : Outcome)
    → length paths ≤ i → Leads asked s bare paths first i o → AreHandled asked s bare true o (map (λ p. p.now) paths) first
all_came asked s bare paths first i o over leads =
    leads true o (subst (λ ps. AreHandled asked s bare true o ps o) (sym (ap (map (λ p. p.now)) (drop_all i paths over))) (all refl))

pub none_came : (asked : Asked) (s : Selection) (bare : Bool) (paths : List (Bor (List ℕ))) (o : Outcome) → (length paths == 0) ≡ true
    → AreHandled asked s bare true o (map (λ p. p.now) paths) o
none_came asked s bare [] o none = all refl
none_came asked s bare (p ∷ ps) o none =
    let is : suc (length ps) ≡ 0 = eqb-true (suc (length ps)) 0 none in
    absurd (omega (arith, is))

-- by what was made of the options
pub names_searched : (asked made v : Asked) (s t : TheSelection) (patterns : List (List ℕ)) (names : List (Bor (List ℕ))) (bare done : Bool)
    (paths : List (List ℕ)) (old last new : Outcome) → made ≡ with_listed_folders asked s.lists → v ≡ made → t ≡ s → bare ≡ (length names == 0)
    → paths ≡ searched_paths asked made.directories s.lists patterns (map (λ p. p.now) names)
    → AreHandled v (selection t) bare done last paths old → (prints_summary asked ≡ false → new ≡ last)
    → SearchesNames asked (selection s) patterns (map (λ p. p.now) names) done old new
names_searched asked made v s t patterns names bare done paths old last new folders same kept alone from each end = record {
  last = last;
  each =
      subst (λ (a : Asked). AreHandled a (selection s) (length (map (λ p. p.now) names) == 0) done last
      (searched_paths asked (with_listed_folders asked s.lists).directories s.lists patterns (map (λ p. p.now) names)) old) (same ∙ folders)
      (subst (λ (x : TheSelection). AreHandled v (selection x) (length (map (λ p. p.now) names) == 0) done last
      (searched_paths asked (with_listed_folders asked s.lists).directories s.lists patterns (map (λ p. p.now) names)) old) kept
      (subst (λ (x : Bool). AreHandled v (selection t) x done last
      (searched_paths asked (with_listed_folders asked s.lists).directories s.lists patterns (map (λ p. p.now) names)) old)
      (alone ∙ ap (λ n. n == 0) (sym (length-map names (λ p. p.now))))
      (subst (λ ps. AreHandled v (selection t) bare done last ps old)
      (from ∙ ap (λ (a : Asked). searched_paths asked a.directories s.lists patterns (map (λ p. p.now) names)) folders) each)));
  end = end;
}

-- ---- the result

pub if_done : {T E : Type 0} (r : Result T E) (P : Type 0) → P → OnOk r P
if_done (Ok x) P p = p
if_done (Err e) P p = tt

pub if_failed : {T E : Type 0} (r : Result T E) (P : Type 0) → IsErr r → OnOk r P
if_failed (Ok x) P is = absurd (true≢false (sym is))
if_failed (Err e) P is = tt
