-- Classes of scalars that ascend: their sequences, one after the other.
use Rattle.std.proofs.Common.{◌≡◌, ℕ, suc, ◌+◌, ◌-◌, ◌*◌, ◌<◌, ◌≤◌, ◌⊎◌, inl, inr, Bool, true, false, List, [], ◌∷◌, ◌++◌, map, length}
use Rattle.std.proofs.Common.{take, drop, get_or, slice_get, Some, nat_le, ◌&&◌, refl, sym, ap, subst, ◌∙◌, arith, append_assoc, append-nil}
use Rattle.std.proofs.Common.{length-append}
use Rattle.std.proofs.lemmas.Bool.{leb-true, and_parts}
use Rattle.std.proofs.lemmas.Grind.{flat_map-append}
use Rattle.std.proofs.lemmas.List.{take_more, take_all}
use Rattle.hir_core.specs.BySequences.{sequence_tree, sequences_of, by_sequences}
use Rattle.hir_core.specs.Facts.{count, sequence_count, rises_from, is_ascending}
use Rattle.hir_core.specs.Sequences.{byte_ranges, pieces, utf8_sequences}
use Rattle.hir_core.specs.Tree.{alternation, char_class}
use Rattle.hir_core.specs.Pieces.{IsPiece, Rises}
use Rattle.hir_core.proofs.ForCallers.{rises, sequence_short, sequences_counted}
use Rattle.nfa_core.specs.BuilderStates.{Assembly}
use Rattle.nfa_core.specs.declared.transition.Transition.{Transition}
use Rattle.nfa_core.specs.declared.build_error.BuildError.{BuildError}
use Rattle.thompson_nfa.specs.Compiled.{Makes, Does}
use Rattle.thompson_nfa.specs.RangeTries.{IsBefore}
use Rattle.thompson_nfa.specs.Refusals.{Quits}
use Rattle.thompson_nfa.specs.Shared.{read_tree}
use Rattle.thompson_nfa.specs.SlotTables.{SlotTable}
use Rattle.thompson_nfa.specs.Utf8Stacks.{Stage, path_of, StagesRise, AreBytes, ComesAfter, Keeps}
use Rattle.thompson_nfa.specs.Utf8Compiles.{ReadsAs, last_of, IsCompiling, IsBeingCompiled, CanFollow}
use Rattle.thompson_nfa.proofs.Steps.LookLemmas.{uses_reads, uses_sequences}
use Rattle.thompson_nfa.proofs.Fragments.DoesCases.{does_scalars}
use Rattle.thompson_nfa.proofs.Fragments.JoinLemmas.{does_same}
use Rattle.thompson_nfa.proofs.Classes.PathEndLemmas.{as_same}
use Rattle.thompson_nfa.proofs.Classes.PathLemmas.{last_pushed}
use Rattle.thompson_nfa.proofs.Classes.PieceLemmas.{pieces_before}
use Rattle.thompson_nfa.proofs.Steps.ProgressLemmas.{made_capped}
use Rattle.thompson_nfa.proofs.Classes.ReadLemmas.{as_itself, as_alt, as_then}
use Rattle.thompson_nfa.proofs.Steps.RoomLemmas.{sequence_count_some, fits_char_class}
use Rattle.thompson_nfa.proofs.Classes.ScalarLemmas.{quits_capped}
use Rattle.thompson_nfa.proofs.Fragments.TurnLemmas.{first_left}

-- ---- sequences that follow one another

-- what the last of the sequences is, or what came before them
abbrev last_after : List (ℕ × ℕ) → List (List (ℕ × ℕ)) → List (ℕ × ℕ)
last_after p [] = p
last_after p (q ∷ qs) = last_after q qs

follow_append : (p : List (ℕ × ℕ)) (xs ys : List (List (ℕ × ℕ))) → CanFollow p xs → CanFollow (last_after p xs) ys → CanFollow p (xs ++ ys)
follow_append p [] ys f g = g
follow_append p (x ∷ xs) ys f g = (f.0, f.1, f.2, f.3, follow_append x xs ys f.4 g)

follow_first : (p : List (ℕ × ℕ)) (xs ys : List (List (ℕ × ℕ))) → CanFollow p (xs ++ ys) → CanFollow p xs
follow_first p [] ys f = tt
follow_first p (x ∷ xs) ys f = (f.0, f.1, f.2, f.3, follow_first x xs ys f.4)

follow_rest : (p : List (ℕ × ℕ)) (xs ys : List (List (ℕ × ℕ))) → CanFollow p (xs ++ ys) → CanFollow (last_after p xs) ys
follow_rest p [] ys f = f
follow_rest p (x ∷ xs) ys f = follow_rest x xs ys f.4

last_behind : (qs xs : List (List (ℕ × ℕ))) → last_of (qs ++ xs) ≡ last_after (last_of qs) xs
last_behind qs [] = ap last_of (append-nil qs)
last_behind qs (x ∷ xs) =
    ap last_of (sym (append_assoc qs (x ∷ []) xs)) ∙ last_behind (qs ++ x ∷ []) xs
    ∙ ap (λ (p : List (ℕ × ℕ)). last_after p xs) (last_pushed qs x)

-- ---- the sequences of a class

-- the sequence is that of a piece below the number, or it is empty
abbrev IsBelow : List (ℕ × ℕ) → ℕ → Type 0
IsBelow p low = (p ≡ []) ⊎ ((f : ℕ) × (e : ℕ) × (p ≡ byte_ranges (f, e)) × IsPiece f e × (e < low))

below_more : (p : List (ℕ × ℕ)) (low high : ℕ) → low ≤ high → IsBelow p low → IsBelow p high
below_more p low high l (inl none) = inl none
below_more p low high l (inr x) = let less = x.4 in inr (x.0, x.1, x.2, x.3, omega arith)

pub as_after : (p q : List (ℕ × ℕ)) → IsBefore p q → ComesAfter p q
as_after [] q b = tt
as_after (r ∷ p) q b = b

comes_after : (p : List (ℕ × ℕ)) (low g h : ℕ) → IsBelow p low → IsPiece g h → low ≤ g → ComesAfter p (byte_ranges (g, h))
comes_after p low g h (inl none) piece l = let P : List (ℕ × ℕ) → Type 0 = λ x. ComesAfter x (byte_ranges (g, h)) in subst P (sym none) tt
comes_after p low g h (inr x) piece l =
    let less = x.4 in
    let P : List (ℕ × ℕ) → Type 0 = λ y. ComesAfter y (byte_ranges (g, h)) in
    subst P (sym x.2) (as_after (byte_ranges (x.0, x.1)) (byte_ranges (g, h)) (pieces_before x.0 x.1 g h x.3 piece (omega arith)))

abbrev AllBytes : List (ℕ × ℕ) → Type 0
AllBytes rs = (k : ℕ) (r : ℕ × ℕ) → slice_get rs k ≡ Some r → (r.0 ≤ r.1) × (r.1 < 256)

bytes_by : (rs : List (ℕ × ℕ)) → AllBytes rs → AreBytes rs
bytes_by [] all = tt
bytes_by (r ∷ rs) all = let x = all 0 r refl in (x.0, x.1, bytes_by rs (λ k s e. all (suc k) s e))

abbrev AllShort : List (List (ℕ × ℕ)) → Type 0
AllShort qs = (i : ℕ) (rs : List (ℕ × ℕ)) → slice_get qs i ≡ Some rs → (1 ≤ length rs) × (length rs ≤ 4) × AllBytes rs

follow_pieces : (low hi : ℕ) (ps : List (ℕ × ℕ)) (p : List (ℕ × ℕ)) → low ≤ hi + 1 → IsBelow p low → Rises low hi ps →
    AllShort (map byte_ranges ps) →
    CanFollow p (map byte_ranges ps) × IsBelow (last_after p (map byte_ranges ps)) (hi + 1)
follow_pieces low hi [] p l below up short = (tt, below_more p low (hi + 1) l below)
follow_pieces low hi (x ∷ ps) p l below up short =
    let s = short 0 (byte_ranges x) refl in
    let least = up.0 in let most = up.1 in
    let later = follow_pieces (x.1 + 1) hi ps (byte_ranges x) (omega arith) (inr (x.0, x.1, refl, up.2, omega arith)) up.3
    (λ i rs e. short (suc i) rs e) in
    ((s.0, s.1, bytes_by (byte_ranges x) s.2, comes_after p low x.0 x.1 below up.2 up.0, later.0), later.1)

pub rising : (low : ℕ) (r : ℕ × ℕ) (rs : List (ℕ × ℕ)) → rises_from low (r ∷ rs) ≡ true → (low ≤ r.0) × (r.0 ≤ r.1) ×
    (rises_from (r.1 + 1) rs ≡ true)
rising low r rs e =
    let x = and_parts (nat_le low r.0 && nat_le r.0 r.1) (rises_from (r.1 + 1) rs) e in
    let y = and_parts (nat_le low r.0) (nat_le r.0 r.1) x.0 in
    (leb-true low r.0 y.0, leb-true r.0 r.1 y.1, x.1)

follow_ranges : (low : ℕ) (ranges : List (ℕ × ℕ)) (p : List (ℕ × ℕ)) → IsBelow p low → rises_from low ranges ≡ true →
    CanFollow p (sequences_of ranges)
follow_ranges low [] p below up = tt
follow_ranges low (r ∷ rs) p below up =
    let x = rising low r rs up in
    let some = x.1 in
    let here = follow_pieces r.0 r.1 (pieces r.0 r.1) p (omega arith) (below_more p low r.0 x.0 below) (rises (r.1 + 1 - r.0) r.0 r.1)
    (λ i q e. sequence_short r.0 r.1 i q e) in
    follow_append p (utf8_sequences r.0 r.1) (sequences_of rs) here.0 (follow_ranges (r.1 + 1) rs
    (last_after p (utf8_sequences r.0 r.1)) here.1 x.2)

-- ---- the sequences of one range, as far as they were added

pub record AddsTo (b0 b : Assembly) (e0 e : ℕ) (c0 c : SlotTable (List Transition)) (n0 n : List Stage)
    (left all : List (List (ℕ × ℕ))) : Type 0 where
  pub met : List (List (ℕ × ℕ))
  pub split : met ++ left ≡ all
  pub later : (old : Assembly) (qs : List (List (ℕ × ℕ))) → IsCompiling old b0 e0 c0 n0 qs → IsCompiling old b e c n (qs ++ met)
  pub order : CanFollow (path_of n) left

pub none_added : (b : Assembly) (e : ℕ) (c : SlotTable (List Transition)) (n : List Stage) (left all : List (List (ℕ × ℕ))) → left ≡ all →
    CanFollow (path_of n) all → AddsTo b b e e c c n n left all
none_added b e c n left all is order =
    let P : List (List (ℕ × ℕ)) → Type 0 = λ l. CanFollow (path_of n) l in
    record {
      met = [];
      split = is;
      later = λ old qs i. let Q : List (List (ℕ × ℕ)) → Type 0 = λ l. IsCompiling old b e c n l in subst Q (sym (append-nil qs)) i;
      order = subst P (sym is) order;
    }

module _ (b0 b : Assembly) (e0 e : ℕ) (c0 c : SlotTable (List Transition)) (n0 n : List Stage) (left all : List (List (ℕ × ℕ)))
    (a : AddsTo b0 b e0 e c0 c n0 n left all) (o : IsBeingCompiled b0 e0 c0 n0) where
  now_compiling : IsCompiling o.old b e c n (o.before ++ a.met)
  now_compiling = a.later o.old o.before o.is

  pub still_rising : StagesRise n
  still_rising = now_compiling.rising

  pub still_keeps : Keeps b e c
  still_keeps = now_compiling.keeps

  module _ (rest : List (List (ℕ × ℕ))) (rs : List (ℕ × ℕ)) (is : left ≡ rs ∷ rest) where
    follows : CanFollow (path_of n) (rs ∷ rest)
    follows = let P : List (List (ℕ × ℕ)) → Type 0 = λ l. CanFollow (path_of n) l in subst P is a.order

    pub some_ranges : 1 ≤ length rs
    some_ranges = follows.0

    pub few_ranges : length rs ≤ 4
    few_ranges = follows.1

    pub byte_bounds : AreBytes rs
    byte_bounds = follows.2

    pub after_last : ComesAfter (path_of n) rs
    after_last = follows.3

    pub one_added : (b1 : Assembly) (e1 : ℕ) (c1 : SlotTable (List Transition)) (n1 : List Stage) →
        ((old : Assembly) (qs : List (List (ℕ × ℕ))) → IsCompiling old b e c n qs → IsCompiling old b1 e1 c1 n1 (qs ++ rs ∷ [])) →
        AddsTo b0 b1 e0 e1 c0 c1 n0 n1 rest all
    one_added b1 e1 c1 n1 added =
        let next = added o.old (o.before ++ a.met) now_compiling in
        let P : List (ℕ × ℕ) → Type 0 = λ p. CanFollow p rest in
        record {
          met = a.met ++ rs ∷ [];
          split = append_assoc a.met (rs ∷ []) rest ∙ ap (λ (l : List (List (ℕ × ℕ))). a.met ++ l) (sym is) ∙ a.split;
          later = λ old qs i.
              let Q : List (List (ℕ × ℕ)) → Type 0 = λ l. IsCompiling old b1 e1 c1 n1 l in
              subst Q (append_assoc qs a.met (rs ∷ [])) (added old (qs ++ a.met) (a.later old qs i));
          order = subst P (sym (next.path ∙ last_pushed (o.before ++ a.met) rs)) follows.4;
        }

  pub all_added : left ≡ [] → (old : Assembly) (qs : List (List (ℕ × ℕ))) → IsCompiling old b0 e0 c0 n0 qs →
      IsCompiling old b e c n (qs ++ all)
  all_added none old qs i =
      let Q : List (List (ℕ × ℕ)) → Type 0 = λ l. IsCompiling old b e c n (qs ++ l) in
      let whole : a.met ≡ all = sym (append-nil a.met) ∙ ap (λ (l : List (List (ℕ × ℕ))). a.met ++ l) (sym none) ∙ a.split in
      subst Q whole (a.later old qs i)

  pub one_refused : (new : Assembly) (err : BuildError) → ((old : Assembly) (qs : List (List (ℕ × ℕ))) → IsCompiling old b e c n qs →
      Quits old new (2 + 4 * length qs) err) →
      (old : Assembly) (qs : List (List (ℕ × ℕ))) → IsCompiling old b0 e0 c0 n0 qs → Quits old new (2 + 4 * length (qs ++ all)) err
  one_refused new err refused old qs i =
      let x : length (qs ++ a.met) ≡ length qs + length a.met = length-append qs a.met in
      let y : length (qs ++ all) ≡ length qs + length all = length-append qs all in
      let z : length a.met + length left ≡ length all = sym (length-append a.met left) ∙ ap length a.split in
      quits_capped (2 + 4 * length (qs ++ all)) (refused old (qs ++ a.met) (a.later old qs i)) (omega (arith, x, y, z))

-- ---- all ranges

-- the sequences of the first i ranges were added, and the others may follow
pub record RangesTo (a b : Assembly) (e : ℕ) (c : SlotTable (List Transition)) (n : List Stage) (i : ℕ) (ranges : List (ℕ ×
    ℕ)) : Type 0 where
  pub is : IsCompiling a b e c n (sequences_of (take i ranges))
  pub order : CanFollow (path_of n) (sequences_of (drop i ranges))
  pub within : i ≤ length ranges

pub no_range : (a b : Assembly) (e : ℕ) (c : SlotTable (List Transition)) (n : List Stage) (ranges : List (ℕ × ℕ)) →
    is_ascending ranges ≡ true → IsCompiling a b e c n [] → RangesTo a b e c n 0 ranges
no_range a b e c n ranges up i = record { is = i; order = follow_ranges 0 ranges (path_of n) (inl i.path) up; within = omega arith }

module _ (a b : Assembly) (e : ℕ) (c : SlotTable (List Transition)) (n : List Stage) (i : ℕ) (ranges : List (ℕ × ℕ)) (d : ℕ ×
    ℕ) (so_far : RangesTo a b e c n i ranges) (less : i < length ranges) where
  abbrev here : ℕ × ℕ
  here = get_or ranges i d

  abbrev rest : List (List (ℕ × ℕ))
  rest = sequences_of (drop (i + 1) ranges)

  both_follow : CanFollow (path_of n) (utf8_sequences here.0 here.1 ++ rest)
  both_follow =
      let P : List (ℕ × ℕ) → Type 0 = λ l. CanFollow (path_of n) (sequences_of l) in
      subst P (first_left ranges i here d less refl) so_far.order

  pub range_follows : CanFollow (path_of n) (utf8_sequences here.0 here.1)
  range_follows = follow_first (path_of n) (utf8_sequences here.0 here.1) rest both_follow

  more_sequences : sequences_of (take i ranges) ++ utf8_sequences here.0 here.1 ≡ sequences_of (take (i + 1) ranges)
  more_sequences =
      ap (λ (l : List (List (ℕ × ℕ))). sequences_of (take i ranges) ++ l) (sym (append-nil (utf8_sequences here.0 here.1)))
      ∙ sym (flat_map-append (λ (r : ℕ × ℕ). utf8_sequences r.0 r.1) (take i ranges) (here ∷ []))
      ∙ ap (λ (l : List (ℕ × ℕ)). sequences_of l) (sym (take_more ranges i d less))

  pub next_range : (b1 : Assembly) (e1 : ℕ) (c1 : SlotTable (List Transition)) (n1 : List Stage) →
      ((old : Assembly) (qs : List (List (ℕ × ℕ))) → IsCompiling old b e c n qs →
      IsCompiling old b1 e1 c1 n1 (qs ++ utf8_sequences here.0 here.1)) → RangesTo a b1 e1 c1 n1 (i + 1) ranges
  next_range b1 e1 c1 n1 added =
      let next = added a (sequences_of (take i ranges)) so_far.is in
      let P : List (ℕ × ℕ) → Type 0 = λ p. CanFollow p rest in
      let Q : List (List (ℕ × ℕ)) → Type 0 = λ l. IsCompiling a b1 e1 c1 n1 l in
      let path : path_of n1 ≡ last_after (path_of n) (utf8_sequences here.0 here.1) =
      next.path ∙ last_behind (sequences_of (take i ranges)) (utf8_sequences here.0 here.1)
      ∙ ap (λ (p : List (ℕ × ℕ)). last_after p (utf8_sequences here.0 here.1)) (sym so_far.is.path) in
      record {
        is = subst Q more_sequences next;
        order = subst P (sym path)
            (follow_rest (path_of n) (utf8_sequences here.0 here.1) rest both_follow);
        within = omega arith;
      }

  pub range_refused : (new : Assembly) (err : BuildError) →
      ((old : Assembly) (qs : List (List (ℕ × ℕ))) → IsCompiling old b e c n qs →
      Quits old new (2 + 4 * length (qs ++ utf8_sequences here.0 here.1)) err) → Quits a new (count (char_class ranges)) err
  range_refused new err refused =
      let counted : length (sequences_of (take i ranges) ++ utf8_sequences here.0 here.1) ≡ sequence_count (take (i + 1) ranges) =
      ap length more_sequences ∙ sequences_counted (take (i + 1) ranges) in
      let part = sequence_count_some ranges (i + 1) in
      quits_capped (count (char_class ranges))
      (quits_capped (2 + 4 * sequence_count ranges) (refused a (sequences_of (take i ranges)) so_far.is) (omega (arith, counted, part)))
      (fits_char_class (2 + 4 * sequence_count ranges) ranges (omega arith))

-- ---- the whole class

-- when reading forward, a sequence is read as it is spelled
spelt : (q : List (ℕ × ℕ)) → ReadsAs (read_tree false q) (sequence_tree q)
spelt [] = record { reading = λ f. tt; ends = λ looks h i. refl }
spelt (r ∷ q) = as_then false r (read_tree false q) (sequence_tree q) (spelt q)

all_spelt : (qs : List (List (ℕ × ℕ))) → ReadsAs (alternation (map (read_tree false) qs)) (alternation (map sequence_tree qs))
all_spelt [] = as_itself (alternation [])
all_spelt (q ∷ qs) = as_alt (read_tree false q) (alternation (map (read_tree false) qs)) (sequence_tree q)
    (alternation (map sequence_tree qs)) (spelt q) (all_spelt qs)

pub all_compiled : (a b : Assembly) (e : ℕ) (c : SlotTable (List Transition)) (n : List Stage) (i : ℕ) (ranges : List (ℕ × ℕ)) →
    RangesTo a b e c n i ranges → length ranges ≤ i →
    IsCompiling a b e c n (sequences_of ranges)
all_compiled a b e c n i ranges so_far past = let P : List (ℕ × ℕ) → Type 0 = λ rs. IsCompiling a b e c n (sequences_of rs) in
    subst P (take_all i ranges past) so_far.is

module _ (a f : Assembly) (ranges : List (ℕ × ℕ)) where
  whole_count : 2 + 4 * length (sequences_of ranges) ≡ 2 + 4 * sequence_count ranges
  whole_count = let same = sequences_counted ranges in omega (arith, same)

  pub class_made : (s t : ℕ) → Makes a f s t (2 + 4 * length (sequences_of ranges)) → Makes a f s t (count (char_class ranges))
  class_made s t m = let same = whole_count in made_capped (count (char_class ranges)) m
      (fits_char_class (2 + 4 * length (sequences_of ranges)) ranges (omega (arith, same)))

  pub class_does : (s t : ℕ) → is_ascending ranges ≡ true → a.reverse ≡ false →
      Does a f s t (alternation (map (read_tree a.reverse) (sequences_of ranges))) → Does a f s t (char_class ranges)
  class_does s t up forward d =
      let qs = sequences_of ranges in
      let P : Bool → Type 0 = λ back. Does a f s t (alternation (map (read_tree back) qs)) in
      does_scalars up (does_same a f s t (alternation (map (read_tree false) qs)) (by_sequences ranges)
      (as_same (alternation (map (read_tree false) qs)) (by_sequences ranges) (all_spelt qs)
      (λ back l. uses_reads back false l qs ∙ sym (uses_sequences back l qs))) (subst P forward d))

  pub class_refused : (err : BuildError) → Quits a f (2 + 4 * length (sequences_of ranges)) err → Quits a f (count (char_class ranges)) err
  class_refused err r = let same = whole_count in quits_capped (count (char_class ranges)) r
      (fits_char_class (2 + 4 * length (sequences_of ranges)) ranges (omega (arith, same)))
