-- The steps over a pattern write what its groups do.
use Rattle.std.proofs.Common.{◌≡◌, ℕ, ◌+◌, ◌-◌, ◌*◌, ◌<◌, ◌≤◌, Bool, true, List, [], ◌∷◌, ◌++◌, All, length, reverse, Option, Some, None, IfSome, get_or, if◌then◌else◌, slice_index, drop, refl, get_or-drop, sym, ap, ◌∙◌, subst, inl, inr, ⊎_elim, arith}
use Rattle.std.proofs.lemmas.Bool.{cases_lt}
use Rattle.std.proofs.lemmas.List.{get_or_append_left, get_or_past, reverse-append}
use Rattle.std.proofs.lemmas.List.Elements.{All-get_or}
use Rattle.std.proofs.lemmas.Option.{none-some, same_Some}
use Rattle.std.proofs.lemmas.Str.{length-encode, len_utf8_bounds}
use Rattle.std.specs.Char.{encode_utf8, len_utf8}
use Rattle.regex_class.specs.Ranges.{in_ranges}
use Rattle.regex_hir.specs.Re.{Re, empty, literal, char_in, cat, group, Trace, Rest, accept, write, attempt}
use Rattle.regex_hir.specs.Find.{last_write}
use Rattle.regex_hir.specs.Text.{char_at, has_bytes_at}
use Rattle.regex_hir.proofs.OptionLemmas.{write_cases}
use Rattle.regex_hir.proofs.AttemptLemmas.{cond_some, option_and_then_some}
use Rattle.regex_hir.proofs.TextLemmas.{char_at_parts, has_bytes_at_parts}
use Rattle.search_core.specs.ByteSets.{has}
use Rattle.search_core.proofs.ForCallers.{Leads, encoded_spells, spelling_leads}
use Rattle.group_finder.specs.declared.lengths.Lengths.{Lengths}
use Rattle.group_finder.specs.declared.layout.Ahead.{Ahead}
use Rattle.group_finder.specs.declared.steps.Step.{Step}
use Rattle.group_finder.specs.declared.steps.Step.TheVariants.{Skip, Run, Character, Save}
use Rattle.group_finder.specs.Layouts.{AreApart, Covers, Fits, IsFirstByte, IsLayoutOf, IsMore, IsStepOver, Lays, Reads, ReadsTo, Starts, after_step, step_writes, steps_write, width_by}
use Rattle.group_finder.proofs.ReadsLemmas.{not_true}
use Rattle.group_finder.proofs.StepLemmas.{run_lands}

last_first : (old : List Step) (s : Step) (new : List Step) → new ≡ old ++ s ∷ [] → reverse new ≡ s ∷ reverse old
last_first old s new e = ap reverse e ∙ reverse-append old (s ∷ [])

-- a byte at any offset, and 0 after the haystack
small_at : (h : List ℕ) → All (λ x. x < 256) h → (x : ℕ) → slice_index h x < 256
small_at h bytes x =
    ⊎_elim
    (λ (inside : x < length h). All-get_or (λ b. b < 256) h x 0 inside bytes)
    (λ (past : length h ≤ x). omega (arith, get_or_past h x 0 past))
    (cases_lt x (length h))

-- ---- a part without groups
record Lands (h : List ℕ) (end : ℕ) (s : Step) (i at : ℕ) : Type 0 where
  moved : after_step h end s i ≡ at
  silent : (ws : List (ℕ × ℕ)) → step_writes s i ws ≡ ws

module _ (h : List ℕ) (bytes : All (λ x. x < 256) h) (set : List Bool) (n : Lengths) (a : Ahead) (steps : List Step) (k : Rest) (fits : Fits h steps a k) where
  lands : (s : Step) (rest : Option ℕ) → IsStepOver n set a s rest → (i : ℕ) (t : Trace) → (x : ReadsTo h k i t set n) → Lands h t.end s i x.at
  lands s rest over i t x =
      let ahead = fits.forward x.at t x.gave in
      ⊎_elim
      (λ (skip : (n.fixed ≡ true) × (s ≡ Skip n.least) × IsMore a.rest n.least rest).
      subst (λ (z : Step). Lands h t.end z i x.at) (sym skip.1)
      (record { moved = omega (arith, x.exact skip.0, ahead); silent = λ ws. refl }))
      (λ other. ⊎_elim
      (λ (last : (c : ℕ) × (a.rest ≡ Some c) × (s ≡ Step.Rest c) × (rest ≡ None)).
      subst (λ (z : Step). Lands h t.end z i x.at) (sym last.2)
      (record { moved = omega (arith, fits.rest x.at t x.gave last.0 last.1); silent = λ ws. refl }))
      (λ (run : (s ≡ Run set) × AreApart set a.follow × (rest ≡ None)).
      subst (λ (z : Step). Lands h t.end z i x.at) (sym run.0)
      (record {
        moved = run_lands set h (x.at - i) i x.at t.end (omega (arith, x.least)) ahead x.bytes
            (λ below. not_true _ (λ member. run.1 (slice_index h x.at) (small_at h bytes x.at) member (fits.follow x.at t x.gave below)));
        silent = λ ws. refl;
      }))
      other)
      over

  rests : (s : Step) (rest : Option ℕ) → IsStepOver n set a s rest → (i : ℕ) (t : Trace) → (x : ReadsTo h k i t set n) → (m : ℕ) →
      rest ≡ Some m → t.end ≡ i + m
  rests s rest over i t x m is =
      ⊎_elim
      (λ (skip : (n.fixed ≡ true) × (s ≡ Skip n.least) × IsMore a.rest n.least rest).
      let more : IsMore a.rest n.least (Some m) = subst (IsMore a.rest n.least) is skip.2 in
      omega (arith, fits.rest x.at t x.gave more.0 more.1, more.2, x.exact skip.0))
      (λ other. ⊎_elim
      (λ (last : (c : ℕ) × (a.rest ≡ Some c) × (s ≡ Step.Rest c) × (rest ≡ None)). absurd (none-some m (sym last.3 ∙ is)))
      (λ (run : (s ≡ Run set) × AreApart set a.follow × (rest ≡ None)). absurd (none-some m (sym run.2 ∙ is)))
      other)
      over

-- a part that isn't empty goes on by a byte with which it may start, and an empty one as what follows does
goes_on : (re : Re) (set : List Bool) (n : Lengths) (a next : Ahead) → Reads re set n →
    (first : List Bool) × Starts re first set × Covers first next.follow × (n.least ≡ 0 → Covers a.follow next.follow) →
    (h : List ℕ) → All (λ x. x < 256) h → (k : Rest) (steps : List Step) → Fits h steps a k → (i : ℕ) (t : Trace) →
    attempt h re k i ≡ Some t → i < t.end → has next.follow (slice_index h i) ≡ true
unfolding Reads
goes_on re set n a next reads starts h bytes k steps fits i t e below =
    let x = reads h bytes k i t e in
    ⊎_elim
    (λ (same : starts.0 ≡ set). ⊎_elim
    (λ (some : i < x.at).
    starts.2 (slice_index h i) (small_at h bytes i) (ap (λ (z : List Bool). has z (slice_index h i)) same ∙ x.bytes i (omega arith) some))
    (λ (none : x.at ≤ i).
    let here : x.at ≡ i = omega (arith, none, x.least) in
    starts.3 (omega (arith, none, x.least)) (slice_index h i) (small_at h bytes i)
    (ap (λ j. has a.follow (slice_index h j)) (sym here) ∙ fits.follow x.at t x.gave (omega (arith, here, below))))
    (cases_lt i x.at))
    (λ each. starts.2 (slice_index h i) (small_at h bytes i) (each h bytes k i t e))
    starts.1

pub lays_part : (re : Re) (set : List Bool) (n : Lengths) (old new : List Step) (a next : Ahead) (s : Step) (rest : Option ℕ) → Reads re set n →
    IsStepOver n set a s rest → new ≡ old ++ s ∷ [] → next.rest ≡ rest →
    (first : List Bool) × Starts re first set × Covers first next.follow × (n.least ≡ 0 → Covers a.follow next.follow) →
    Lays re old a new next
unfolding Lays Reads steps_write
lays_part re set n old new a next s rest reads over pushed rest_is starts h bytes k fits = record {
  forward = λ i t e. let x = reads h bytes k i t e in omega (arith, x.least, fits.forward x.at t x.gave);
  writes = λ i t e.
      let x = reads h bytes k i t e in
      let it = lands h bytes set n a (reverse old) k fits s rest over i t x in
      fits.writes x.at t x.gave
      ∙ ap (steps_write h t.end (reverse old)) (sym it.moved)
      ∙ sym (it.silent (steps_write h t.end (reverse old) (after_step h t.end s i)))
      ∙ ap (λ (ss : List Step). steps_write h t.end ss i) (sym (last_first old s new pushed));
  rest = λ i t e m is. rests h bytes set n a (reverse old) k fits s rest over i t (reads h bytes k i t e) m (sym rest_is ∙ is);
  follow = goes_on re set n a next reads starts h bytes k (reverse old) fits;
}

-- ---- a character
leads_width : (a n : ℕ) → Leads a n → n ≡ width_by a
leads_width a n h = grind arith

width_at : (h : List ℕ) (i c : ℕ) → char_at h i ≡ Some c → len_utf8 c ≡ width_by (slice_index h i)
width_at h i c found =
    let parts = char_at_parts h i c found in
    let start : i + 0 ≡ i = omega arith in
    let first : get_or (encode_utf8 c) 0 0 ≡ slice_index h i =
    sym (get_or_append_left (encode_utf8 c) (drop (i + len_utf8 c) h) 0 0 (omega (arith, length-encode c, len_utf8_bounds c)))
    ∙ ap (λ (ys : List ℕ). get_or ys 0 0) (sym parts.1)
    ∙ get_or-drop i h 0 0
    ∙ ap (slice_index h) start in
    sym (length-encode c)
    ∙ leads_width _ _ (spelling_leads c (encode_utf8 c) (encoded_spells c (encode_utf8 c) parts.0 refl))
    ∙ ap width_by first

after_character : (rs : List (ℕ × ℕ)) (h : List ℕ) (k : Rest) (i : ℕ) (t : Trace) → attempt h (char_in rs) k i ≡ Some t →
    (at : ℕ) × (k at ≡ Some t) × (at ≡ i + width_by (slice_index h i))
unfolding attempt
after_character rs h k i t e =
    let c = option_and_then_some (λ (x : ℕ). if in_ranges rs x then k (i + len_utf8 x) else None) (char_at h i) t e in
    let d = cond_some (in_ranges rs c.0) (k (i + len_utf8 c.0)) t c.2 in
    (i + len_utf8 c.0, d.1, ap (λ n. i + n) (width_at h i c.0 c.1))

pub lays_character : (re : Re) (rs : List (ℕ × ℕ)) (set : List Bool) (n : Lengths) (old new : List Step) (a next : Ahead) → re ≡ char_in rs →
    Reads re set n → new ≡ old ++ Character ∷ [] → next.rest ≡ None →
    (first : List Bool) × Starts re first set × Covers first next.follow × (n.least ≡ 0 → Covers a.follow next.follow) →
    Lays re old a new next
unfolding Lays Reads steps_write
lays_character re rs set n old new a next is reads pushed rest_is starts h bytes k fits = record {
  forward = λ i t e. let x = reads h bytes k i t e in omega (arith, x.least, fits.forward x.at t x.gave);
  writes = λ i t e.
      let y = after_character rs h k i t (subst (λ (r : Re). attempt h r k i ≡ Some t) is e) in
      let moved : y.0 ≡ after_step h t.end Character i = omega (arith, y.2, fits.forward y.0 t y.1) in
      fits.writes y.0 t y.1
      ∙ ap (steps_write h t.end (reverse old)) moved
      ∙ ap (λ (ss : List Step). steps_write h t.end ss i) (sym (last_first old Character new pushed));
  rest = λ i t e m some. absurd (none-some m (sym rest_is ∙ some));
  follow = goes_on re set n a next reads starts h bytes k (reverse old) fits;
}

-- ---- parts
fits_saved : (h : List ℕ) (old new : List Step) (a : Ahead) (k : Rest) (slot : ℕ) → new ≡ old ++ Save slot ∷ [] → Fits h (reverse old) a k →
    Fits h (reverse new) a (λ j. write slot j (k j))
unfolding steps_write
fits_saved h old new a k slot pushed fits = record {
  forward = λ j t e. let w = write_cases slot j (k j) t e in omega (arith, fits.forward j w.0 w.1, w.2);
  writes = λ j t e.
      let w = write_cases slot j (k j) t e in
      w.3
      ∙ ap (λ (ws : List (ℕ × ℕ)). (slot, j) ∷ ws) (fits.writes j w.0 w.1 ∙ ap (λ end. steps_write h end (reverse old) j) (sym w.2))
      ∙ ap (λ (ss : List Step). steps_write h t.end ss j) (sym (last_first old (Save slot) new pushed));
  rest = λ j t e m is. let w = write_cases slot j (k j) t e in w.2 ∙ fits.rest j w.0 w.1 m is;
  follow = λ j t e below. let w = write_cases slot j (k j) t e in fits.follow j w.0 w.1 (omega (arith, below, w.2));
}

pub lays_group : (index : ℕ) (re : Re) (old first second new : List Step) (a next : Ahead) → first ≡ old ++ Save (2 * index + 1) ∷ [] →
    Lays re first a second next → new ≡ second ++ Save (2 * index) ∷ [] → Lays (group index re) old a new next
unfolding Lays attempt
lays_group index re old first second new a next one lays two h bytes k fits =
    fits_saved h second new next _ (2 * index) two (lays h bytes _ (fits_saved h old first a k (2 * index + 1) one fits))

pub lays_empty : (steps : List Step) (a : Ahead) → Lays empty steps a steps a
unfolding Lays attempt
lays_empty steps a h bytes k fits = fits

pub lays_cat : (x y : Re) (old mid new : List Step) (a b c : Ahead) → Lays y old a mid b → Lays x mid b new c → Lays (cat x y) old a new c
unfolding Lays attempt
lays_cat x y old mid new a b c second first h bytes k fits = first h bytes _ (second h bytes k fits)

-- ---- a whole pattern
accepted : (h : List ℕ) (follow : List Bool) → Fits h [] (record { rest = Some 0; follow = follow }) accept
unfolding steps_write
accepted h follow = record {
  forward = λ j u e. omega (arith, ends j u e);
  writes = λ j u e. sym (ap (λ (t : Trace). t.writes) (same_Some _ u e));
  rest = λ j u e n is. omega (arith, ends j u e, same_Some 0 n is);
  follow = λ j u e below. absurd (omega (arith, ends j u e, below));
}
  where
    ends : (j : ℕ) (u : Trace) → accept j ≡ Some u → j ≡ u.end
    ends j u e = ap (λ (t : Trace). t.end) (same_Some _ u e)

pub laid : (re : Re) (follow : List Bool) (all steps : List Step) (next : Ahead) →
    Lays re [] (record { rest = Some 0; follow = follow }) all next → steps ≡ reverse all → IsLayoutOf re steps
unfolding Lays
laid re follow all steps next lays turned = record {
  writes = λ h bytes i t e.
      ap last_write ((lays h bytes accept (accepted h follow)).writes i t e
      ∙ ap (λ (ss : List Step). steps_write h t.end ss i) (sym turned));
}

-- ---- the answers of functions
pub literal_starts : (x : Re) (bs seen : List ℕ) (set first : List Bool) → x ≡ literal bs → seen ≡ bs → IsFirstByte seen set first →
    Starts x first set
unfolding attempt
literal_starts x bs [] set first same is it = inl it
literal_starts x bs (b ∷ rest) set first same is it =
    inr (λ h bytes k i t e.
    let here : attempt h (literal bs) k i ≡ Some t = subst (λ y. attempt h y k i ≡ Some t) same e in
    let parts = has_bytes_at_parts h i bs (cond_some (has_bytes_at h i bs) _ t here).0 in
    let start : i + 0 ≡ i = omega arith in
    let read : slice_index h i ≡ b =
    ap (slice_index h) (sym start)
    ∙ sym (get_or-drop i h 0 0)
    ∙ ap (λ (ys : List ℕ). get_or ys 0 0) (parts ∙ ap (λ (ys : List ℕ). ys ++ drop (i + length bs) h) (sym is)) in
    ap (has first) read ∙ it (omega (arith, read, small_at h bytes i)))

pub lays_inner : (o : Option Ahead) (index : ℕ) (re : Re) (old first second new : List Step) (a : Ahead) →
    first ≡ old ++ Save (2 * index + 1) ∷ [] → IfSome o (Lays re first a second) → new ≡ second ++ Save (2 * index) ∷ [] →
    IfSome o (Lays (group index re) old a new)
lays_inner None index re old first second new a one lays two = lays
lays_inner (Some next) index re old first second new a one lays two = lays_group index re old first second new a next one lays two

pub laid_by : (re : Re) (follow : List Bool) (begun all steps : List Step) (o : Option Ahead) (next : Ahead) → begun ≡ [] → o ≡ Some next →
    IfSome o (Lays re begun (record { rest = Some 0; follow = follow }) all) → steps ≡ reverse all → IsLayoutOf re steps
laid_by re follow begun all steps o next none some lays turned =
    let it : Lays re begun (record { rest = Some 0; follow = follow }) all next =
    subst (λ (x : Option Ahead). IfSome x (Lays re begun (record { rest = Some 0; follow = follow }) all)) some lays in
    laid re follow all steps next (subst (λ (b : List Step). Lays re b (record { rest = Some 0; follow = follow }) all next) none it) turned
