-- A pattern that is added to the bytes of a state that is being built, and whether the bytes have it already.
use Rattle.std.proofs.Common.{◌≡◌, ℕ, zero, suc, ◌+◌, ◌-◌, ◌*◌, ◌/◌, ◌<◌, ◌≤◌, ◌==◌, Bool, true, false, List, [], ◌∷◌, ◌++◌, length}
use Rattle.std.proofs.Common.{drop, get_or, refl, sym, ap, ◌∙◌, arith, append_assoc, append-nil, subst}
use Rattle.std.specs.Prelude.{All, slice_index, slice_set, nat_eq}
use Rattle.std.specs.List.{list_any, IsDistinct, AllByRecursion}
use Rattle.std.specs.Int.{w32, from_le_bytes}
use Rattle.std.specs.Int.Bits.{bit_or}
use Rattle.std.proofs.lemmas.Bool.{or_parts}
use Rattle.search_core.specs.Index.{greatest_index}
use Rattle.determinize_core.specs.States.{StateValue, IsState}
use Rattle.determinize_core.specs.Added.{with_match}
use Rattle.determinize_core.specs.StateBytes.{has_flag, number_at, in_four_bytes, four_bytes_each, pattern_bytes, flag_byte, is_match}
use Rattle.determinize_core.specs.StateBytes.{is_listed, unfinished, decoded_unfinished, IsUnfinished}
use Rattle.determinize_core.proofs.FlagLemmas.{set_match, set_listed, set_both, match_back, listed_back}
use Rattle.determinize_core.proofs.DecodeLemmas.{nine, past_13, length-four_bytes_each}
use Rattle.determinize_core.proofs.ValueLemmas.{small}
use Rattle.determinize_core.proofs.PatternLemmas.{number_of}
use Rattle.determinize_core.proofs.EditLemmas.{told_unfinished, all_more}

-- ---- the patterns with one more

turned : (x p : ℕ) → nat_eq p x ≡ false → nat_eq x p ≡ false
turned x p e = grind arith

other_more : (x p : ℕ) (xs : List ℕ) → AllByRecursion (λ y. nat_eq x y ≡ false) xs → nat_eq x p ≡ false →
    AllByRecursion (λ y. nat_eq x y ≡ false) (xs ++ p ∷ [])
other_more x p [] all e = (e, tt)
other_more x p (y ∷ ys) all e = (all.0, other_more x p ys all.1 e)

pub once_more : (xs : List ℕ) (p : ℕ) → IsDistinct nat_eq xs → list_any (nat_eq p) xs ≡ false → IsDistinct nat_eq (xs ++ p ∷ [])
unfolding IsDistinct
once_more [] p once absent = (tt, tt)
once_more (x ∷ xs) p once absent =
    let parts = or_parts (nat_eq p x) (list_any (nat_eq p) xs) absent in
    (other_more x p xs once.0 (turned x p parts.0), once_more xs p once.1 parts.1)

each_more : (ns : List ℕ) (n : ℕ) → four_bytes_each (ns ++ n ∷ []) ≡ four_bytes_each ns ++ in_four_bytes n
each_more [] n = append-nil (in_four_bytes n)
each_more (m ∷ ns) n = ap (λ (xs : List ℕ). in_four_bytes m ++ xs) (each_more ns n)
    ∙ sym (append_assoc (in_four_bytes m) (four_bytes_each ns) (in_four_bytes n))

more_state : (v : StateValue) (p : ℕ) → IsState v → p ≤ greatest_index → list_any (nat_eq p) v.matches ≡ false → IsState (with_match v p)
more_state v p state within absent = record {
  have = state.have;
  need = state.need;
  patterns = all_more greatest_index v.matches p state.patterns within;
  once = once_more v.matches p state.once absent;
  states = state.states;
}

-- ---- the bytes with one more

-- whether they are listed, as a flag of unfinished bytes shows
pub unfinished_listed : (bytes : List ℕ) (l : Bool) → IsUnfinished bytes → has_flag (slice_index bytes 0) 2 ≡ l →
    is_listed (decoded_unfinished bytes).matches ≡ l
unfinished_listed bytes l of flag = sym (listed_back _ _ _ _) ∙ (sym (ap (λ (xs : List ℕ). has_flag (slice_index xs 0) 2) of.same) ∙ flag)

pub unfinished_match : (bytes : List ℕ) (m : Bool) → IsUnfinished bytes → has_flag (slice_index bytes 0) 1 ≡ m →
    is_match (decoded_unfinished bytes).matches ≡ m
unfinished_match bytes m of flag = sym (match_back _ _ _ _) ∙ (sym (ap (λ (xs : List ℕ). has_flag (slice_index xs 0) 1) of.same) ∙ flag)

-- if no pattern matches, neither flag is set
pub not_listed : (bytes : List ℕ) → IsUnfinished bytes → (decoded_unfinished bytes).matches ≡ [] →
    has_flag (slice_index bytes 0) 2 ≡ false
not_listed bytes of none = sym (unfinished_listed bytes _ of refl) ∙ ap is_listed none

pub not_matching : (bytes : List ℕ) → IsUnfinished bytes → (decoded_unfinished bytes).matches ≡ [] →
    has_flag (slice_index bytes 0) 1 ≡ false
not_matching bytes of none = sym (unfinished_match bytes _ of refl) ∙ ap is_match none

-- the parts of the bytes that depend on the patterns
abbrev flags_with : StateValue → Bool → Bool → ℕ
flags_with v m l = flag_byte m l v.is_from_word v.is_half_crlf

abbrev nine_with : StateValue → Bool → Bool → List ℕ
nine_with v m l = nine (flags_with v m l) v.look_have v.look_need

-- after others that are listed
behind_listed : (v : StateValue) (ps : List ℕ) (p : ℕ) → is_listed ps ≡ true →
    (nine_with v (is_match ps) (is_listed ps) ++ pattern_bytes (is_listed ps) 0 ps)
    ++ in_four_bytes p ≡ nine_with v (is_match (ps ++ p ∷ [])) (is_listed (ps ++ p ∷ []))
    ++ pattern_bytes (is_listed (ps ++ p ∷ [])) 0 (ps ++ p ∷ [])
behind_listed v [] p listed = cc
behind_listed v (q ∷ []) p listed =
    ap (λ (l : Bool). (nine_with v true l ++ pattern_bytes l 0 (q ∷ [])) ++ in_four_bytes p) listed
    ∙ ap (λ (xs : List ℕ). nine_with v true true ++ (in_four_bytes 0 ++ (in_four_bytes q ++ xs))) (sym (append-nil (in_four_bytes p)))
behind_listed v (q ∷ r ∷ ps) p listed =
    ap (λ (xs : List ℕ). nine_with v true true ++ (in_four_bytes 0 ++ (in_four_bytes q ++ (in_four_bytes r ++ xs)))) (sym (each_more ps p))

-- after pattern 0 alone
behind_alone : (v : StateValue) (ps : List ℕ) (p : ℕ) → is_listed ps ≡ false → is_match ps ≡ true →
    slice_set ((nine_with v (is_match ps) (is_listed ps) ++ pattern_bytes (is_listed ps) 0 ps)
    ++ (in_four_bytes 0 ++ (in_four_bytes 0 ++ in_four_bytes p))) 0
    (bit_or (flags_with v (is_match ps) (is_listed ps)) 2)
    ≡ nine_with v (is_match (ps ++ p ∷ [])) (is_listed (ps ++ p ∷ [])) ++ pattern_bytes (is_listed (ps ++ p ∷ [])) 0 (ps ++ p ∷ [])
behind_alone v [] p unlisted matching = cc
behind_alone v (zero ∷ []) p unlisted matching =
    ap (λ (f : ℕ). f ∷ ((in_four_bytes v.look_have ++ in_four_bytes v.look_need)
    ++ (in_four_bytes 0 ++ (in_four_bytes 0 ++ in_four_bytes p))))
    (set_listed true false v.is_from_word v.is_half_crlf)
behind_alone v (suc q ∷ []) p unlisted matching = let never : (suc q == 0) ≡ false = grind arith in let e : true ≡ false =
    (rw never at unlisted) in cc
behind_alone v (q ∷ r ∷ ps) p unlisted matching = cc

-- after no pattern
first_listed : (v : StateValue) (ps : List ℕ) (p : ℕ) → is_match ps ≡ false → (p == 0) ≡ false →
    slice_set ((nine_with v (is_match ps) (is_listed ps) ++ pattern_bytes (is_listed ps) 0 ps) ++ (in_four_bytes 0 ++ in_four_bytes p)) 0
    (bit_or (flags_with v (is_match ps) (is_listed ps)) 3)
    ≡ nine_with v (is_match (ps ++ p ∷ [])) (is_listed (ps ++ p ∷ [])) ++ pattern_bytes (is_listed (ps ++ p ∷ [])) 0 (ps ++ p ∷ [])
first_listed v [] p none other =
    let l : is_listed (p ∷ []) ≡ true = rw other refl in
    ap (λ (f : ℕ). f ∷ ((in_four_bytes v.look_have ++ in_four_bytes v.look_need) ++ (in_four_bytes 0 ++ in_four_bytes p)))
    (set_both false false v.is_from_word v.is_half_crlf)
    ∙ ap (λ (b : Bool). nine_with v true b ++ pattern_bytes b 0 (p ∷ [])) (sym l)
first_listed v (q ∷ ps) p none other = cc

first_told : (v : StateValue) (ps : List ℕ) (p : ℕ) → is_match ps ≡ false → (p == 0) ≡ true →
    slice_set (nine_with v (is_match ps) (is_listed ps) ++ pattern_bytes (is_listed ps) 0 ps) 0
    (bit_or (flags_with v (is_match ps) (is_listed ps)) 1)
    ≡ nine_with v (is_match (ps ++ p ∷ [])) (is_listed (ps ++ p ∷ [])) ++ pattern_bytes (is_listed (ps ++ p ∷ [])) 0 (ps ++ p ∷ [])
first_told v [] p none zero_is =
    let l : is_listed (p ∷ []) ≡ false = rw zero_is refl in
    ap (λ (f : ℕ). f ∷ (in_four_bytes v.look_have ++ in_four_bytes v.look_need)) (set_match false false v.is_from_word v.is_half_crlf)
    ∙ ap (λ (b : Bool). nine_with v true b ++ pattern_bytes b 0 (p ∷ [])) (sym l)
first_told v (q ∷ ps) p none zero_is = cc

-- ---- the bytes that are built keep their form

module _ (old new : List ℕ) (p : ℕ) (of : IsUnfinished old) (within : p ≤ greatest_index)
    (absent : list_any (nat_eq p) (decoded_unfinished old).matches ≡ false) where
  abbrev value : StateValue
  value = decoded_unfinished old

  abbrev Kept : Type 0
  Kept = IsUnfinished new × (decoded_unfinished new ≡ with_match (decoded_unfinished old) p)

  keeps : new ≡ unfinished (with_match value p) → Kept
  keeps e = told_unfinished (with_match value p) new (more_state value p of.state within absent) refl e

  pub keeps_listed : has_flag (slice_index old 0) 2 ≡ true → new ≡ old ++ in_four_bytes p → Kept
  keeps_listed flag e = keeps (e ∙ (ap (λ (xs : List ℕ). xs ++ in_four_bytes p) of.same
      ∙ behind_listed value value.matches p (unfinished_listed old true of flag)))

  pub keeps_second : has_flag (slice_index old 0) 2 ≡ false → has_flag (slice_index old 0) 1 ≡ true →
      new ≡ slice_set (old ++ (in_four_bytes 0 ++ (in_four_bytes 0 ++ in_four_bytes p))) 0
      (bit_or (slice_index (old ++ (in_four_bytes 0 ++ (in_four_bytes 0 ++ in_four_bytes p))) 0) 2) → Kept
  keeps_second flag match_flag e =
      keeps (e ∙ (ap (λ (xs : List ℕ). slice_set (xs ++ (in_four_bytes 0 ++ (in_four_bytes 0 ++ in_four_bytes p))) 0
      (bit_or (slice_index (xs ++ (in_four_bytes 0 ++ (in_four_bytes 0 ++ in_four_bytes p))) 0) 2)) of.same
      ∙ behind_alone value value.matches p (unfinished_listed old false of flag) (unfinished_match old true of match_flag)))

  pub keeps_first : has_flag (slice_index old 0) 1 ≡ false → (p == 0) ≡ false →
      new ≡ slice_set (old ++ (in_four_bytes 0 ++ in_four_bytes p)) 0
      (bit_or (slice_index (old ++ (in_four_bytes 0 ++ in_four_bytes p)) 0) 3) → Kept
  keeps_first match_flag other e =
      keeps (e ∙ (ap (λ (xs : List ℕ). slice_set (xs ++ (in_four_bytes 0 ++ in_four_bytes p)) 0
      (bit_or (slice_index (xs ++ (in_four_bytes 0 ++ in_four_bytes p)) 0) 3)) of.same
      ∙ first_listed value value.matches p (unfinished_match old false of match_flag) other))

  pub keeps_told : has_flag (slice_index old 0) 1 ≡ false → (p == 0) ≡ true → new ≡ slice_set old 0 (bit_or (slice_index old 0) 1) → Kept
  keeps_told match_flag zero_is e =
      keeps (e ∙ (ap (λ (xs : List ℕ). slice_set xs 0 (bit_or (slice_index xs 0) 1)) of.same
      ∙ first_told value value.matches p (unfinished_match old false of match_flag) zero_is))

-- ---- whether the pattern is there already

-- the bytes if the patterns are listed
listed_form : (v : StateValue) → is_listed v.matches ≡ true → unfinished v ≡ nine_with v (is_match v.matches) (is_listed v.matches)
    ++ (in_four_bytes 0 ++ four_bytes_each v.matches)
listed_form v listed = ap (λ (l : Bool). nine_with v (is_match v.matches) (is_listed v.matches) ++ pattern_bytes l 0 v.matches) listed

module _ (v : StateValue) (bytes : List ℕ) (is : decoded_unfinished bytes ≡ v) (of : IsUnfinished bytes)
    (listed : is_listed v.matches ≡ true) where
  as_built : bytes ≡ unfinished v
  as_built = of.same ∙ ap unfinished is

  pub length-built : length bytes ≡ 13 + 4 * length v.matches
  length-built = ap length (as_built ∙ listed_form v listed) ∙ omega (arith, length-four_bytes_each v.matches)

  pub count_built : (length bytes - 13) / 4 ≡ length v.matches
  count_built = omega (arith, length-built)

  pub pattern_built : (i : ℕ) → i < length v.matches → number_at (13 + 4 * i) bytes ≡ get_or v.matches i 0
  pattern_built i within =
      let patterns : All (λ p. p ≤ greatest_index) v.matches = subst (λ (w : StateValue). All (λ p. p ≤ greatest_index) w.matches) is
      of.state.patterns in
      ap (λ (xs : List ℕ). from_le_bytes w32 (drop (13 + 4 * i) xs)) (as_built ∙ listed_form v listed)
      ∙ (ap (from_le_bytes w32) (past_13 (4 * i) _ _ _ _ _ _ _ _ _ _ _ _ _ (four_bytes_each v.matches))
      ∙ (ap (λ (xs : List ℕ). from_le_bytes w32 (drop (4 * i) xs)) (sym (append-nil (four_bytes_each v.matches)))
      ∙ number_of i v.matches [] within (small greatest_index v.matches patterns (omega arith))))
