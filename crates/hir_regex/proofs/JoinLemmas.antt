-- The ends and the starts that the two searches find, joined.
use Rattle.std.proofs.Common.{◌≡◌, ℕ, ◌≤◌, Bool, true, false, ◌||◌, nat_eq, List, Option, Some, None, All, refl, sym, ap, ◌∙◌, subst, inl}
use Rattle.std.proofs.Common.{inr, arith, if◌then◌else◌}
use Rattle.std.specs.Prelude.{Result, Ok, Err}
use Rattle.std.proofs.lemmas.Bool.{cases_Bool}
use Rattle.std.proofs.lemmas.Bool.Decides.{Decides-eqb}
use Rattle.look_core.specs.declared.look.Look.TheVariants.{Start}
use Rattle.look_core.specs.LookSets.{has_look}
use Rattle.look_core.specs.Looks.{holds, IsWordSet}
use Rattle.look_core.specs.Terminators.{Terminator}
use Rattle.hir_core.specs.Tree.{Tree}
use Rattle.hir_core.specs.Means.{Looks}
use Rattle.hir_core.specs.Facts.{look_set_prefix}
use Rattle.hir_core.proofs.ForCallers.{prefix_sound}
use Rattle.search_types.specs.declared.anchored.Anchored.{Anchored}
use Rattle.search_types.specs.declared.anchored.Anchored.TheVariants.{No}
use Rattle.search_types.specs.declared.match_error.MatchErrorKind.{MatchErrorKind}
use Rattle.search_types.specs.declared.match_error.MatchErrorKind.TheVariants.{Quit, UnsupportedAnchored, NotAPair}
use Rattle.search_types.specs.Found.{Found}
use Rattle.search_types.specs.Inputs.{Search}
use Rattle.search_types.specs.Modes.{is_anchored}
use Rattle.search_types.proofs.ForCallers.{starts_at}
use Rattle.nfa_core.specs.Nfa.{Automaton}
use Rattle.nfa_core.specs.Reaches.{read_by}
use Rattle.nfa_core.specs.Ways.{Text}
use Rattle.thompson_nfa.specs.Compilations.{is_anchored_tree}
use Rattle.lazy_dfa.specs.Dfas.{reader}
use Rattle.lazy_dfa.specs.Readers.{Reader, HalfAnswer, found, quit, unsupported}
use Rattle.lazy_dfa.specs.HalfSearches.{half_search}
use Rattle.regex_pair.specs.Joined.{is_start_known, back_from, from_start, with_start, answer_by_end, joined}
use Rattle.regex_pair.specs.Pairs.{Pair}
use Rattle.hir_regex.specs.Choices.{Query}
use Rattle.hir_regex.specs.Regexes.{IsRegexOf, IsSearchOf, query_of}
use Rattle.hir_regex.proofs.EndLemmas.{ReportsFaultOf, HasEnd, IsBestFrom, listed_has, unanchored_no, one_start, start_is_least}
use Rattle.hir_regex.proofs.FirstEndLemmas.{FindsFirsts}
use Rattle.hir_regex.proofs.ForwardLemmas.{fits_query, scan_has_end}
use Rattle.hir_regex.proofs.BackLemmas.{IsLeastStart, back_finds}

-- the answer with this end
abbrev pub found_by : (q : Query) (Nothing : ℕ → Type 0) (Best : ℕ → ℕ → ℕ → Type 0) (s : ℕ) (o : Option (ℕ × ℕ)) →
    HasEnd q Nothing Best s o → Option Found
found_by q Nothing Best s None e = None
found_by q Nothing Best s (Some c) e = Some (record { pattern = c.1; start = e.place; end = c.0 })

abbrev ok_of : Option Found → Result (Option Found) MatchErrorKind
ok_of o = Ok o

ok_same : (o v : Option Found) → ok_of o ≡ ok_of v → o ≡ v
ok_same o v e = cc

pub or_anchored : (a b c : Bool) → b ≡ true → a || b || c ≡ false → ⊥
or_anchored true b c t f = cc
or_anchored false true c t f = cc
or_anchored false false c t f = cc

module _ (xs : List Tree) (utf8 : Bool) (t : Terminator) (p : Pair) (regex : IsRegexOf xs utf8 t p) (q : Search)
    (asked : IsSearchOf xs utf8 q)
    (words : ℕ → Bool) (set : IsWordSet words) where
  abbrev f : Reader
  f = reader p.forward

  abbrev r : Reader
  r = reader p.reverse

  abbrev a : Automaton
  a = p.forward.nfa.automaton

  abbrev looks : Looks
  looks = holds words t q.haystack

  abbrev pub asks : Query
  asks = query_of xs utf8 looks q

  abbrev text : Text
  text = read_by looks q.haystack q.start q.end

  module _ (offers : ℕ → List (ℕ × ℕ)) (Nothing : ℕ → Type 0) (Best : ℕ → ℕ → ℕ →
      Type 0) (reports : ReportsFaultOf asks offers Nothing Best)
      (finds : FindsFirsts a text q.anchored offers) where
    abbrev pub Ends : Option (ℕ × ℕ) → Type 0
    Ends o = HasEnd asks Nothing Best q.start o

    module _ (c : ℕ × ℕ) (is : half_search f q ≡ found (Some c)) (b : IsBestFrom asks Nothing Best q.start c) where
      from : q.start ≤ b.place
      from = (starts_at q.anchored q.start q.end b.place b.starts).from_s

      -- ---- a start that is known
      known_by : (x y z : Bool) → nat_eq c.0 q.start ≡ x → is_anchored q.anchored ≡ y → nat_eq a.start_anchored a.start_unanchored ≡ z →
          x || y || z ≡ true → b.place ≡ q.start
      known_by true y z is_x is_y is_z e =
          let same = (Decides-eqb c.0 q.start).0 is_x in let low = from in let up = b.forward in omega arith
      known_by false true z is_x is_y is_z e =
          let at = starts_at q.anchored q.start q.end b.place b.starts in
          let low = at.from_s in let high = at.to_last in let last = one_start q.anchored q.start q.end is_y in omega arith
      known_by false false true is_x is_y is_z e =
          let all = regex.is_forward.always_anchored.0 ((Decides-eqb a.start_anchored a.start_unanchored).0 is_z) in
          let P : Bool → Type 0 = λ v. All (λ x. is_anchored_tree v x ≡ true) xs in
          let prefix : has_look (look_set_prefix b.span.tree) Start ≡ true =
          listed_has (λ x. is_anchored_tree false x ≡ true) xs (subst P regex.reads_forward all) c.1 b.span.tree b.span.listed in
          let first : b.place ≡ 0 = (Decides-eqb b.place 0).0
          (prefix_sound looks q.haystack Start b.span.tree b.place c.0 b.span.means prefix) in
          let low = from in omega arith
      known_by false false false is_x is_y is_z e = cc

      known : is_start_known f q c.0 ≡ true → b.place ≡ q.start
      known e = known_by (nat_eq c.0 q.start) (is_anchored q.anchored) (nat_eq a.start_anchored a.start_unanchored) refl refl refl e

      -- ---- one that isn't
      free : is_start_known f q c.0 ≡ false → q.anchored ≡ No
      free e = elim (cases_Bool (is_anchored q.anchored)) [
        | inl fixed ↦ absurd (or_anchored (nat_eq c.0 q.start) (is_anchored q.anchored)
            (nat_eq a.start_anchored a.start_unanchored) fixed e)
        | inr none ↦ unanchored_no q.anchored none
      ]

      least : q.anchored ≡ No → IsLeastStart asks q.start c b.place
      least no_anchor = record {
        span = b.span;
        from = from;
        forward = b.forward;
        within = b.within;
        counted = b.start_counts;
        least = λ k i low span. start_is_least asks (fits_query xs utf8 t p regex q asked words set)
            offers Nothing Best reports q.start c no_anchor b k i low span;
      }

      abbrev answer : ℕ → Result (Option Found) MatchErrorKind
      answer i = Ok (Some (record { pattern = c.1; start = i; end = c.0 }))

      back_joined : is_start_known f q c.0 ≡ false → with_start c (half_search r (back_from q c.0)) ≡ answer b.place
      back_joined e =
          let back = back_finds xs utf8 t p regex q asked words set c is b.place (least (free e)) in
          ap (with_start c) back.1 ∙ ap answer back.2

      choose : (k : Bool) → is_start_known f q c.0 ≡ k →
          (if k then Ok (Some (from_start q c)) else with_start c (half_search r (back_from q c.0))) ≡ answer b.place
      choose true e = ap answer (sym (known e))
      choose false e = back_joined e

      some_joined : answer_by_end f r q (found (Some c)) ≡ answer b.place
      some_joined = choose (is_start_known f q c.0) refl

    by_end : (o : Option (ℕ × ℕ)) → half_search f q ≡ found o → (e : Ends o) →
        answer_by_end f r q (found o) ≡ Ok (found_by asks Nothing Best q.start o e)
    by_end None is e = refl
    by_end (Some c) is e = some_joined c is e

    pub joined_is : (o : Option (ℕ × ℕ)) → half_search f q ≡ found o → (e : Ends o) →
        joined p q ≡ Ok (found_by asks Nothing Best q.start o e)
    joined_is o is e = ap (answer_by_end f r q) is ∙ by_end o is e

    -- what is answered has an end that was found
    pub record IsFoundEnd (o : Option Found) : Type 0 where
      pub end : Option (ℕ × ℕ)
      pub found_there : half_search f q ≡ found end
      pub ends : Ends end
      pub is : o ≡ found_by asks Nothing Best q.start end ends

    answered : (x : HalfAnswer) → half_search f q ≡ x → (o : Option Found) → joined p q ≡ Ok o → IsFoundEnd o
    answered (found z) is o e =
        let ends = scan_has_end xs utf8 t p regex q asked words set offers Nothing Best reports finds z is in
        record {
          end = z;
          found_there = is;
          ends = ends;
          is = ok_same o (found_by asks Nothing Best q.start z ends)
              (sym e ∙ joined_is z is ends);
        }
    answered (quit b x) is o e = let differ = sym (ap (answer_by_end f r q) is) ∙ e in cc
    answered (unsupported mode) is o e = let differ = sym (ap (answer_by_end f r q) is) ∙ e in cc

    pub joined_answers : (o : Option Found) → joined p q ≡ Ok o → IsFoundEnd o
    joined_answers o e = answered (half_search f q) refl o e

    -- ---- errors
    pub joined_finds : (o : Option (ℕ × ℕ)) → half_search f q ≡ found o → (v : Option Found) × (joined p q ≡ Ok v)
    joined_finds o is =
        let ends = scan_has_end xs utf8 t p regex q asked words set offers Nothing Best reports finds o is in
        (found_by asks Nothing Best q.start o ends, joined_is o is ends)

    by_scan : (x : HalfAnswer) → half_search f q ≡ x → joined p q ≡ Err NotAPair → ⊥
    by_scan (found z) is e = let there = joined_finds z is in let differ = sym there.1 ∙ e in cc
    by_scan (quit b x) is e = let differ = sym (ap (answer_by_end f r q) is) ∙ e in cc
    by_scan (unsupported mode) is e = let differ = sym (ap (answer_by_end f r q) is) ∙ e in cc

    pub is_a_pair : joined p q ≡ Err NotAPair → ⊥
    is_a_pair e = by_scan (half_search f q) refl e

    quits_by_scan : (v : HalfAnswer) (b x : ℕ) → half_search f q ≡ v → joined p q ≡ Err (Quit b x) → half_search f q ≡ quit b x
    quits_by_scan (found z) b x is e = let there = joined_finds z is in let differ = sym there.1 ∙ e in cc
    quits_by_scan (quit c y) b x is e = let same : Err (Quit c y) ≡ Err (Quit b x) = sym (ap (answer_by_end f r q) is) ∙ e in cc
    quits_by_scan (unsupported mode) b x is e = let differ = sym (ap (answer_by_end f r q) is) ∙ e in cc

    pub quits_forward : (b x : ℕ) → joined p q ≡ Err (Quit b x) → half_search f q ≡ quit b x
    quits_forward b x e = quits_by_scan (half_search f q) b x refl e

    refused_by_scan : (v : HalfAnswer) (mode : Anchored) → half_search f q ≡ v → joined p q ≡ Err (UnsupportedAnchored mode) →
        half_search f q ≡ unsupported mode
    refused_by_scan (found z) mode is e = let there = joined_finds z is in let differ = sym there.1 ∙ e in cc
    refused_by_scan (quit c y) mode is e = let differ = sym (ap (answer_by_end f r q) is) ∙ e in cc
    refused_by_scan (unsupported other) mode is e = let same : Err (UnsupportedAnchored other) ≡ Err (UnsupportedAnchored mode) =
        sym (ap (answer_by_end f r q) is) ∙ e in cc

    pub refused_forward : (mode : Anchored) → joined p q ≡ Err (UnsupportedAnchored mode) → half_search f q ≡ unsupported mode
    refused_forward mode e = refused_by_scan (half_search f q) mode refl e
