-- The slots that the steps of a layout leave.
use Rattle.std.proofs.Common.{◌≡◌, ℕ, zero, suc, ◌+◌, ◌<◌, List, [], ◌∷◌, All, length, replicate, get_or, slice_set, Option, Some, None, if◌then◌else◌, ◌==◌, IsSomeAnd, IfSome, Vec, Global, ◌≤◌, chars, refl, sym, ap, ◌∙◌, subst, arith, ne_eqb, ⊎_elim}
use Rattle.std.proofs.lemmas.Bool.{cases_eq, cond-false, cond-true, eq-eqb}
use Rattle.std.proofs.lemmas.List.{ext_get_or, get_or-map, get_or-replicate, get_or-set_other, get_or-set_same, length-map, length-replicate, length-set}
use Rattle.std.proofs.lemmas.List.FromFn.{get_or-range_with_len, length-range_with_len}
use Rattle.std.specs.List.{range_with_len}
use Rattle.std.specs.Option.{option_or}
use Rattle.regex_hir.specs.Re.{Re, Trace, accept, attempt}
use Rattle.regex_hir.specs.Meaning.{meaning}
use Rattle.regex_hir.specs.declared.hir.Hir.{Hir}
use Rattle.regex_syntax.specs.Brackets.{Nested}
use Rattle.regex_syntax.specs.Captures.{SameCaptures}
use Rattle.regex_syntax.specs.Grammar.{Names, group_count, read}
use Rattle.regex_syntax.specs.Verdict.{Reads}
use Rattle.regex_syntax.specs.declared.Config.{Config}
use Rattle.regex_hir.specs.Find.{Match, last_write}
use Rattle.group_finder.specs.declared.steps.Step.{Step}
use Rattle.group_finder.specs.Layouts.{IsLaidBy, IsLayoutOf, slots_laid, steps_write, written}
use Rattle.group_finder.specs.Patterns.{IsParsedAs}
use Rattle.group_finder.specs.Slots.{no_offset, offset_or_none, slot_value, slots_of}
use Rattle.group_finder.proofs.GroupLemmas.{seen, told}
use Rattle.group_finder.proofs.SlotLemmas.{slot_after_ends}

-- ---- the slots by a layout
abbrev value_or : Option ℕ → ℕ → ℕ
value_or None x = x
value_or (Some v) x = v

value_or_none : (o : Option ℕ) → value_or o no_offset ≡ offset_or_none o
value_or_none None = refl
value_or_none (Some v) = refl

length_written : (ws : List (ℕ × ℕ)) (xs : List ℕ) → length (written ws xs) ≡ length xs
unfolding written
length_written [] xs = refl
length_written (w ∷ ws) xs = length_written ws (slice_set xs w.0 w.1) ∙ length-set xs w.0 w.1

one_write : (o : Option ℕ) (w : ℕ × ℕ) (xs : List ℕ) (k : ℕ) → k < length xs →
    value_or o (get_or (slice_set xs w.0 w.1) k 0) ≡ value_or (option_or o (if w.0 == k then Some w.1 else None)) (get_or xs k 0)
one_write (Some v) w xs k inside = refl
one_write None w xs k inside =
    ⊎_elim
    (λ (same : w.0 ≡ k).
    ap (λ i. get_or (slice_set xs w.0 w.1) i 0) (sym same)
    ∙ get_or-set_same xs w.0 w.1 0 (omega (arith, inside, same))
    ∙ ap (λ (o : Option ℕ). value_or o (get_or xs k 0)) (sym (cond-true _ (Some w.1) None (eq-eqb w.0 k same))))
    (λ (other : w.0 ≡ k → ⊥).
    get_or-set_other xs w.0 k w.1 0 (λ e. other (sym e))
    ∙ ap (λ (o : Option ℕ). value_or o (get_or xs k 0)) (sym (cond-false _ (Some w.1) None (ne_eqb w.0 k other))))
    (cases_eq w.0 k)

-- a slot after writes holds the last of them, or what it held
slot_written : (ws : List (ℕ × ℕ)) (xs : List ℕ) (k : ℕ) → k < length xs →
    get_or (written ws xs) k 0 ≡ value_or (last_write ws k) (get_or xs k 0)
unfolding written
slot_written [] xs k inside = refl
slot_written (w ∷ ws) xs k inside =
    slot_written ws (slice_set xs w.0 w.1) k (omega (arith, inside, length-set xs w.0 w.1)) ∙ one_write (last_write ws k) w xs k inside

slot_of_number : (m : Match) (n k : ℕ) → k < n → get_or (slots_of m n) k 0 ≡ slot_value m k
unfolding slots_of
slot_of_number m n k below =
    let first : 0 + k ≡ k = omega arith in
    get_or-map (slot_value m) (range_with_len 0 n) k 0 0 (omega (arith, below, length-range_with_len 0 n))
    ∙ ap (slot_value m) (get_or-range_with_len 0 n k 0 below ∙ first)

length_of_slots : (m : Match) (n : ℕ) → length (slots_of m n) ≡ n
unfolding slots_of
length_of_slots m n = length-map (range_with_len 0 n) (slot_value m) ∙ length-range_with_len 0 n

module _ (h : List ℕ) (steps : List Step) (start : ℕ) (t : Trace) (n : ℕ)
    (laid : last_write t.writes ≡ last_write (steps_write h t.end steps start)) where
  abbrev inner : List ℕ
  inner = written (steps_write h t.end steps start) (replicate n no_offset)

  length_inner : length inner ≡ n
  length_inner = length_written (steps_write h t.end steps start) (replicate n no_offset) ∙ length-replicate n no_offset

  each_slot : (k : ℕ) → k < n → get_or (slots_laid h steps start t.end n) k 0 ≡ slot_value (record { start = start; trace = t }) k
  unfolding slots_laid
  each_slot zero below =
      get_or-set_other (slice_set inner 0 start) 1 0 t.end 0 (λ e. omega (arith, e))
      ∙ get_or-set_same inner 0 start 0 (omega (arith, below, length_inner))
  each_slot (suc zero) below =
      get_or-set_same (slice_set inner 0 start) 1 t.end 0 (omega (arith, below, length_inner, length-set inner 0 start))
  each_slot (suc (suc k)) below =
      let number : suc (suc k) ≡ k + 2 = omega arith in
      get_or-set_other (slice_set inner 0 start) 1 (suc (suc k)) t.end 0 (λ e. omega (arith, e))
      ∙ get_or-set_other inner 0 (suc (suc k)) start 0 (λ e. omega (arith, e))
      ∙ slot_written (steps_write h t.end steps start) (replicate n no_offset) (suc (suc k)) (omega (arith, below, length-replicate n no_offset))
      ∙ ap (value_or (last_write (steps_write h t.end steps start) (suc (suc k))))
      (get_or-replicate n (suc (suc k)) no_offset 0 below)
      ∙ value_or_none (last_write (steps_write h t.end steps start) (suc (suc k)))
      ∙ ap (λ (f : ℕ → Option ℕ). offset_or_none (f (suc (suc k)))) (sym laid)
      ∙ ap (λ i. offset_or_none (last_write t.writes i)) number
      ∙ ap offset_or_none (sym (slot_after_ends (record { start = start; trace = t }) k))

  -- what steps that write as the groups do leave in the slots
  pub slots_by_steps : slots_laid h steps start t.end n ≡ slots_of (record { start = start; trace = t }) n
  unfolding slots_laid
  slots_by_steps =
      ext_get_or 0 _ _
      (length-set (slice_set inner 0 start) 1 t.end ∙ length-set inner 0 start ∙ length_inner
      ∙ sym (length_of_slots (record { start = start; trace = t }) n))
      (λ k below.
      let inside : k < n =
      omega (arith, below, length-set (slice_set inner 0 start) 1 t.end, length-set inner 0 start, length_inner) in
      each_slot k inside ∙ sym (slot_of_number (record { start = start; trace = t }) n k inside))

-- ---- layouts of patterns
layout_carried : (b a : Re) (steps : List Step) → SameCaptures b a → IsLayoutOf b steps → IsLayoutOf a steps
layout_carried b a steps same laid = record {
  writes = λ h bytes i t e.
      let u = seen (attempt h b accept i) t (same.at h bytes accept i ∙ told a h i t e) in
      sym u.3 ∙ laid.writes h bytes i u.0 u.1 ∙ ap (λ end. last_write (steps_write h end steps i)) u.2;
}

laid_read : (config : Config) (hir : Hir) (names : Names) (steps : List Step) (a : Re) (r : Option (Nested Re × Names)) →
    IsLayoutOf (meaning hir) steps →
    IsSomeAnd r (λ (re, found). (re.depth ≤ config.nest_limit) × SameCaptures (meaning hir) re.value × (names ≡ found)
    × (group_count (meaning hir) ≤ length names)) →
    IsSomeAnd r (λ (re, found). (re.depth ≤ config.nest_limit) × (re.value ≡ a)) → IsLayoutOf a steps
laid_read config hir names steps a None laid p q = absurd p
laid_read config hir names steps a (Some (re, found)) laid p q =
    subst (λ x. IsLayoutOf x steps) q.1 (layout_carried (meaning hir) re.value steps p.1 laid)

-- a layout of the tree of a pattern is one of what the grammar reads
pub laid_by_text : (config : Config) (text : List ℕ) (hir : Hir) (names : Names) (steps : List Step) → Reads config text hir names →
    IsLayoutOf (meaning hir) steps → IsLaidBy config text steps
unfolding Reads
laid_by_text config text hir names steps reads laid a parsed =
    laid_read config hir names steps a (read config (chars text)) laid reads parsed

pub all_laid : (config : Config) (text : List ℕ) (hir : Hir) (names : Names) (o : Option (Vec Step Global)) → Reads config text hir names →
    IfSome o (λ steps. IsLayoutOf (meaning hir) steps.items) → IfSome o (λ steps. IsLaidBy config text steps.items)
all_laid config text hir names None reads laid = laid
all_laid config text hir names (Some steps) reads laid = laid_by_text config text hir names steps.items reads laid

-- the slots that a layout leaves are those of the match
pub found_by_steps : (config : Config) (text : List ℕ) (a : Re) (h : List ℕ) (start end n : ℕ) (o : Option (Vec Step Global)) (steps : Vec Step Global)
    (read : List Step) (slots : List ℕ) → All (λ x. x < 256) h → IfSome o (λ s. IsLaidBy config text s.items) → o ≡ Some steps →
    read ≡ steps.items → slots ≡ slots_laid h read start end n → IsParsedAs config text a → (t : Trace) → attempt h a accept start ≡ Some t →
    t.end ≡ end → slots ≡ slots_of (record { start = start; trace = t }) n
found_by_steps config text a h start end n o steps read slots bytes laid some is put parsed t e ends =
    let by : IsLaidBy config text steps.items = subst (λ (x : Option (Vec Step Global)). IfSome x (λ s. IsLaidBy config text s.items)) some laid in
    put
    ∙ ap (λ (ss : List Step). slots_laid h ss start end n) is
    ∙ ap (λ (i : ℕ). slots_laid h steps.items start i n) (sym ends)
    ∙ slots_by_steps h steps.items start t n ((by a parsed).writes h bytes start t e)
