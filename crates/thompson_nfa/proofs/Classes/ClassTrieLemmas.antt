-- The sequences of a class, each turned round, in a trie: one after the other, those of a range, and those of all ranges.
use Rattle.std.proofs.Common.{◌≡◌, inl, inr, ℕ, suc, ◌+◌, ◌<◌, ◌≤◌, List, [], ◌∷◌, ◌++◌, reverse, length, get_or, take, slice_get, Some}
use Rattle.std.proofs.Common.{true, refl, sym, ap, ◌∙◌, subst, append_assoc, append-nil}
use Rattle.std.proofs.lemmas.Grind.{flat_map-append}
use Rattle.std.proofs.lemmas.List.{reverse-append, reverse-reverse, map-append, take_more}
use Rattle.hir_core.specs.Sequences.{is_in_ranges, utf8_sequences}
use Rattle.hir_core.specs.BySequences.{sequences_of}
use Rattle.hir_core.proofs.ForCallers.{sequence_short}
use Rattle.thompson_nfa.specs.RangeTries.{IsInSome, AreRanges}
use Rattle.thompson_nfa.specs.ClassTries.{turned_round, GainsTurned, IsTurnedSpelling, AreTurnedSpellings}
use Rattle.thompson_nfa.proofs.Tries.TrieLemmas.{in_append, in_left, in_right}
use Rattle.thompson_nfa.proofs.Classes.TurnedStrings.{turned_round_in, spelling_turned, turned_spell}
use Rattle.thompson_nfa.proofs.Classes.ScalarCountLemmas.{class_spells}

-- ---- one sequence

ranges_push : (q : List (ℕ × ℕ)) (r : ℕ × ℕ) → AreRanges q → r.0 ≤ r.1 → AreRanges (q ++ r ∷ [])
ranges_push [] r a l = (l, tt)
ranges_push (x ∷ q) r a l = (a.0, ranges_push q r a.1 l)

pub ranges_turned : (q : List (ℕ × ℕ)) → AreRanges q → AreRanges (reverse q)
ranges_turned [] a = tt
ranges_turned (r ∷ q) a = subst AreRanges (sym (reverse-append (r ∷ []) q)) (ranges_push (reverse q) r (ranges_turned q a.1) a.0)

-- ---- one after the other

turned_append : (xs ys : List (List (ℕ × ℕ))) → turned_round (xs ++ ys) ≡ turned_round xs ++ turned_round ys
turned_append xs ys = map-append reverse xs ys

pub gained_more : (old mid new xs ys : List (List (ℕ × ℕ))) → GainsTurned old xs mid → GainsTurned mid ys new →
    GainsTurned old (xs ++ ys) new
gained_more old mid new xs ys a b =
    let whole : (s : List ℕ) → IsInSome (turned_round xs ++ turned_round ys) s → IsInSome (turned_round (xs ++ ys)) s =
    λ s h. subst (λ (l : List (List (ℕ × ℕ))). IsInSome l s) (sym (turned_append xs ys)) h in
    let parts : (s : List ℕ) → IsInSome (turned_round (xs ++ ys)) s → IsInSome (turned_round xs ++ turned_round ys) s =
    λ s h. subst (λ (l : List (List (ℕ × ℕ))). IsInSome l s) (turned_append xs ys) h in
    record {
      only = λ s h. elim (b.only s h) [
        | inl before ↦ elim (a.only s before) [
          | inl first ↦ inl first
          | inr x ↦
              inr (whole s (in_left (turned_round xs) (turned_round ys) s x))
        ]
        | inr y ↦ inr (whole s (in_right (turned_round xs) (turned_round ys) s y))
      ];
      kept = λ s h. b.kept s (a.kept s h);
      added = λ s h. elim (in_append (turned_round xs) (turned_round ys) s (parts s h)) [
        | inl x ↦ b.kept s (a.added s x)
        | inr y ↦
            b.added s y
      ];
    }

-- ---- the strings stay spellings

class_turned : (rs : List (ℕ × ℕ)) (s : List ℕ) → IsInSome (turned_round (sequences_of rs)) s → IsTurnedSpelling s
class_turned rs s h =
    let p = class_spells rs (reverse s) (turned_round_in (sequences_of rs) s h) in
    subst IsTurnedSpelling (reverse-reverse s) (spelling_turned p.0 (reverse s) p.2)

range_turned : (lo hi : ℕ) (s : List ℕ) → IsInSome (turned_round (utf8_sequences lo hi)) s → IsTurnedSpelling s
range_turned lo hi s h =
    class_turned ((lo, hi) ∷ []) s (subst (λ (l : List (List (ℕ × ℕ))). IsInSome (turned_round l) s)
    (sym (append-nil (utf8_sequences lo hi))) h)

-- ---- the sequences of one range

-- the trie gained those that were met, of which `left` are still to come
pub record GainsTo (old new left all : List (List (ℕ × ℕ))) : Type 0 where
  pub met : List (List (ℕ × ℕ))
  pub split : met ++ left ≡ all
  pub gained : GainsTurned old met new

pub got_behind : (xs : List (List (ℕ × ℕ))) (x : List (ℕ × ℕ)) (rest : List (List (ℕ × ℕ))) →
    slice_get (xs ++ x ∷ rest) (length xs) ≡ Some x
got_behind [] x rest = refl
got_behind (y ∷ xs) x rest = got_behind xs x rest

pub next_gained : (old mid new left rest all : List (List (ℕ × ℕ))) (q : List (ℕ × ℕ)) → GainsTo old mid left all → left ≡ q ∷ rest →
    GainsTurned mid (q ∷ []) new → GainsTo old new rest all
next_gained old mid new left rest all q so_far e one = record {
  met = so_far.met ++ q ∷ [];
  split = append_assoc so_far.met (q ∷ []) rest ∙ ap (λ (l : List (List (ℕ × ℕ))). so_far.met ++ l) (sym e) ∙ so_far.split;
  gained = gained_more old mid new so_far.met (q ∷ []) so_far.gained one;
}

ranges_from : (q : List (ℕ × ℕ)) → ((k : ℕ) (r : ℕ × ℕ) → slice_get q k ≡ Some r → (r.0 ≤ r.1) × (r.1 < 256)) → AreRanges q
ranges_from [] a = tt
ranges_from (r ∷ q) a = ((a 0 r refl).0, ranges_from q (λ k x f. a (suc k) x f))

module _ (old mid left rest : List (List (ℕ × ℕ))) (lo hi : ℕ) (q : List (ℕ × ℕ)) (so_far : GainsTo old mid left (utf8_sequences lo hi))
    (e : left ≡ q ∷ rest) where
  placed : slice_get (utf8_sequences lo hi) (length so_far.met) ≡ Some q
  placed =
      ap (λ (l : List (List (ℕ × ℕ))). slice_get l (length so_far.met)) (sym so_far.split
      ∙ ap (λ (l : List (List (ℕ × ℕ))). so_far.met ++ l) e)
      ∙ got_behind so_far.met q rest

  pub next_ranges : AreRanges q
  next_ranges = ranges_from q (sequence_short lo hi (length so_far.met) q placed).2

  pub next_turned : (s : List ℕ) → is_in_ranges (reverse q) s ≡ true → IsTurnedSpelling s
  next_turned s h = turned_spell lo hi (length so_far.met) q placed s h

  pub met_turned : AreTurnedSpellings old → AreTurnedSpellings mid
  met_turned before s h = elim (so_far.gained.only s h) [
    | inl first ↦ before s first
    | inr met ↦ range_turned lo hi s
        (subst (λ (l : List (List (ℕ × ℕ))). IsInSome l s) (sym (turned_append so_far.met left)
        ∙ ap turned_round so_far.split) (in_left (turned_round so_far.met) (turned_round left) s met))
  ]

-- ---- the sequences of all ranges

pub class_spelled : (new : List (List (ℕ × ℕ))) (rs : List (ℕ × ℕ)) → GainsTurned [] (sequences_of rs) new → AreTurnedSpellings new
class_spelled new rs g s h = elim (g.only s h) [ inl none ↦ absurd none | inr in_class ↦ class_turned rs s in_class ]

pub class_next : (mid new : List (List (ℕ × ℕ))) (i : ℕ) (ranges : List (ℕ × ℕ)) (d : ℕ × ℕ) → i < length ranges →
    GainsTurned [] (sequences_of (take i ranges)) mid →
    GainsTurned mid (utf8_sequences (get_or ranges i d).0 (get_or ranges i d).1) new →
    GainsTurned [] (sequences_of (take (i + 1) ranges)) new
class_next mid new i ranges d less so_far more =
    let here : ℕ × ℕ = get_or ranges i d in
    let joined : sequences_of (take i ranges) ++ utf8_sequences here.0 here.1 ≡ sequences_of (take (i + 1) ranges) =
    ap (λ (l : List (List (ℕ × ℕ))). sequences_of (take i ranges) ++ l) (sym (append-nil (utf8_sequences here.0 here.1)))
    ∙ sym (flat_map-append (λ (r : ℕ × ℕ). utf8_sequences r.0 r.1) (take i ranges) (here ∷ []))
    ∙ ap sequences_of (sym (take_more ranges i d less)) in
    subst (λ (l : List (List (ℕ × ℕ))). GainsTurned [] l new) joined (gained_more [] mid new (sequences_of (take i ranges))
    (utf8_sequences here.0 here.1) so_far more)
