-- What a replacement text writes, step by step.
use Rattle.std.proofs.Common.{◌≡◌, ◌≢◌, ℕ, zero, suc, ◌+◌, ◌-◌, ◌<◌, ◌≤◌, ◌==◌, not, Bool, true, false, List, [], ◌∷◌, ◌++◌, Option, Some, None, if◌then◌else◌, take, drop, length, get_or, slice_index, slice_range, refl, sym, ap, ◌∙◌, subst, arith, append-nil, drop-drop, length-drop, ne_eqb, nat_eq}
use Rattle.std.proofs.lemmas.List.{drop_more}
use Rattle.std.proofs.lemmas.List.Sums.{prefix_len-drop_yes, prefix_len-le-length}
use Rattle.std.proofs.lemmas.Option.{slice_get-get_or}
use Rattle.std.specs.List.{position_from, prefix_len}
use lib.Pointwise.{pointwise}
use Rattle.regex_hir.specs.Text.{is_some_and}
use Rattle.regex_syntax.specs.Grammar.{Names}
use Rattle.regex.specs.Templates.{written_after, at_dollar, name_at, text_or_nothing, group_called}
use Rattle.templates.specs.Expansion.{text_or_none}
use Rattle.templates.specs.Reading.{IsStep, is_called}

-- ---- the first group with a name
pub called_later : (names : Names) (name : List ℕ) (i : ℕ) → i < length names → is_called names name i ≡ false →
    position_from (λ other. is_some_and other (pointwise nat_eq name)) i (drop i names)
    ≡ position_from (λ other. is_some_and other (pointwise nat_eq name)) (i + 1) (drop (i + 1) names)
called_later names name i lt other =
    let passes : is_some_and (get_or names i None) (pointwise nat_eq name) ≡ false = rw (slice_get-get_or names i None lt) at other in
    rw (drop_more names i None lt, passes)

pub called_here : (names : Names) (name : List ℕ) (i : ℕ) → i < length names → is_called names name i ≡ true →
    position_from (λ other. is_some_and other (pointwise nat_eq name)) i (drop i names) ≡ Some i
called_here names name i lt same =
    let passes : is_some_and (get_or names i None) (pointwise nat_eq name) ≡ true = rw (slice_get-get_or names i None lt) at same in
    rw (drop_more names i None lt, passes)

-- ---- what is written from an offset on
module _ (names : Names) (group_text : ℕ → List ℕ) where
  skipped : (t : List ℕ) (n : ℕ) → written_after names group_text t n ≡ written_after names group_text (drop n t) 0
  unfolding written_after
  skipped t zero = refl
  skipped [] (suc n) = refl
  skipped (b ∷ t) (suc n) = skipped t n

  -- bytes up to the next dollar sign stand for themselves
  plain_run : (t : List ℕ) → written_after names group_text t 0
      ≡ take (prefix_len (λ b. not (b == 36)) t) t ++ written_after names group_text (drop (prefix_len (λ b. not (b == 36)) t) t) 0
  unfolding written_after
  plain_run [] = refl
  plain_run (b ∷ t) = by (not (b == 36)) refl (plain_run t)
    where
      by : (plain : Bool) → not (b == 36) ≡ plain → written_after names group_text t 0
          ≡ take (prefix_len (λ x. not (x == 36)) t) t ++ written_after names group_text (drop (prefix_len (λ x. not (x == 36)) t) t) 0 → written_after names group_text (b ∷ t) 0
          ≡ take (prefix_len (λ x. not (x == 36)) (b ∷ t)) (b ∷ t) ++ written_after names group_text (drop (prefix_len (λ x. not (x == 36)) (b ∷ t)) (b ∷ t)) 0
      by true e rest =
          let one : 1 + prefix_len (λ x. not (x == 36)) t ≡ suc (prefix_len (λ x. not (x == 36)) t) = omega arith in
          rw (e, one) (ap (λ xs. b ∷ xs) rest)
      by false e rest =
          let none : prefix_len (λ x. not (x == 36)) (b ∷ t) ≡ 0 = rw e refl in
          subst (λ (n : ℕ). written_after names group_text (b ∷ t) 0 ≡ take n (b ∷ t) ++ written_after names group_text (drop n (b ∷ t)) 0) (sym none) refl

  dollar_here : (t : List ℕ) (at : ℕ) → at < length t → get_or t at 0 ≡ 36 → written_after names group_text (drop at t) 0
      ≡ (if slice_index (drop (at + 1) t) 0 == 36 then 36 ∷ written_after names group_text (drop (at + 1) t) 1
      else at_dollar names group_text (name_at (drop (at + 1) t)) (written_after names group_text (drop (at + 1) t)))
  unfolding written_after
  dollar_here t at lt dollar = rw (drop_more t at 0 lt, dollar)

  group_is : (o : Option ℕ) → text_or_nothing names group_text o ≡ text_or_none group_text o
  group_is None = refl
  group_is (Some n) = refl

one_byte : (t : List ℕ) (at : ℕ) → at < length t → slice_range t at (at + 1) ≡ get_or t at 0 ∷ []
one_byte t at lt =
    let one : at + 1 - at ≡ 1 = omega arith in
    rw (one, drop_more t at 0 lt)

-- ---- steps
module _ (names : Names) (t : List ℕ) (at : ℕ) (lt : at < length t) where
  pub plain_step : (len : ℕ) (literal : List ℕ) → get_or t at 0 ≢ 36 → len ≡ prefix_len (λ b. not (b == 36)) (drop at t) →
      literal ≡ slice_range t at (at + len) → IsStep names t at literal None (at + len)
  plain_step len literal plain len_is is =
      let first : not (get_or t at 0 == 36) ≡ true = rw (ne_eqb _ 36 plain) in
      let more = prefix_len-drop_yes (λ b. not (b == 36)) t at 0 lt first in
      let most = prefix_len-le-length (λ b. not (b == 36)) (drop at t) in
      let back : at + len - at ≡ len = omega arith in
      record {
        after = omega arith;
        within = omega (arith, length-drop at t);
        writes = λ group_text. plain_run names group_text (drop at t)
            ∙ (rw (← len_is, drop-drop, is, back, append-nil) refl);
      }

  module _ (dollar : get_or t at 0 ≡ 36) where
    pub double_step : (literal : List ℕ) → slice_index (drop (at + 1) t) 0 ≡ 36 → 0 < length (drop (at + 1) t) →
        literal ≡ slice_range t at (at + 1) → IsStep names t at literal None (at + 2)
    double_step literal again some is =
        let sum_is : at + 1 + 1 ≡ at + 2 = omega arith in
        record {
          after = omega arith;
          within = omega (arith, length-drop (at + 1) t);
          writes = λ group_text. dollar_here names group_text t at lt dollar
              ∙ (rw (again, skipped names group_text (drop (at + 1) t) 1, drop-drop, sum_is, is, one_byte t at lt, dollar) refl);
        }

    pub alone_step : (literal : List ℕ) → slice_index (drop (at + 1) t) 0 ≢ 36 → name_at (drop (at + 1) t) ≡ None →
        literal ≡ slice_range t at (at + 1) → IsStep names t at literal None (at + 1)
    alone_step literal other none is =
        record {
          after = omega arith;
          within = omega arith;
          writes = λ group_text. dollar_here names group_text t at lt dollar
              ∙ (rw (ne_eqb _ 36 other, none, is, one_byte t at lt, dollar) refl);
        }

    pub reference_step : (name : List ℕ) (len : ℕ) (group : Option ℕ) → slice_index (drop (at + 1) t) 0 ≢ 36 →
        name_at (drop (at + 1) t) ≡ Some (name, len) → len ≤ length (drop (at + 1) t) → group ≡ group_called names name →
        IsStep names t at [] group (at + 1 + len)
    reference_step name len group other some room is =
        record {
          after = omega arith;
          within = omega (arith, length-drop (at + 1) t);
          writes = λ group_text. dollar_here names group_text t at lt dollar
              ∙ (rw (ne_eqb _ 36 other, some, skipped names group_text (drop (at + 1) t) len, drop-drop, group_is names group_text, ← is) refl);
        }
