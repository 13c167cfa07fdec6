-- A heading that is written before the first byte.
use Rattle.std.proofs.Common.{◌≡◌, ◌≢◌, ◌≤◌, ◌<◌, ◌==◌, nat_lt, ℕ, zero, suc, ◌+◌, ◌-◌, Bool, true, false, List, [], ◌∷◌, ◌++◌, length, take, drop, slice_range}
use Rattle.std.proofs.Common.{Option, Some, None, option_map, IfSome, min, refl, sym, ap, ap₂, subst, ◌∙◌, arith, append_assoc, append-nil, take-append-drop, if◌then◌else◌}
use Rattle.std.proofs.lemmas.List.{append_cancel_left, append_cancel_right, length-append, length-drop, length-take, take-take, take_all}
use Rattle.std.proofs.lemmas.List.Folds.{drop_split}
use Rattle.std.proofs.Math.ListN.{drop_of_length-le}
use Rattle.std.proofs.Math.Seq.{take-append-add, take-append_seam, take-length}
use Rattle.std.proofs.KnownBytes.{append_known-moved, Keeps-trans}
use Rattle.std.specs.Io.KnownBytes.{Appends, Keeps, append_known}
use Rattle.grep_core.specs.Headings.{under, with_heading, tagged}

-- a write of the heading's next bytes
rest_of : (done : ℕ) (head : List ℕ) → take (length head - done) (drop done head) ≡ drop done head
rest_of done head = take_all (length head - done) (drop done head) (let e = length-drop done head in omega (arith, e))

pub heading_moved : (a b c : Option (List ℕ)) (head : List ℕ) (done n : ℕ) → Keeps a (with_heading b head done) →
    Appends b c (take n (slice_range head done (length head))) → Keeps a (with_heading c head (done + n))
heading_moved a b c head done n kept wrote =
    Keeps-trans a (with_heading b head done) (with_heading c head (done + n)) kept
    (append_known-moved b c (take n (drop done head)) (drop (done + n) head) (drop done head)
    (subst (λ (t : List ℕ). Appends b c (take n t)) (rest_of done head) wrote)
    (drop_split head done (done + n) (omega arith)
    ∙ ap (λ (k : ℕ). take k (drop done head) ++ drop (done + n) head) (omega arith)))

-- ---- what is written in all
abbrev first_of : ℕ → List ℕ → ℕ
first_of n [] = n
first_of n (m ∷ ms) = m

abbrev rest_list : List ℕ → List ℕ
rest_list [] = []
rest_list (m ∷ ms) = ms

module _ (head also x all text : List ℕ) (most left : ℕ) (same : tagged left also all ≡ tagged most head x ++ text) where
  heads : length all + left ≡ length x + most
  heads = ap (first_of 0) same

  rests : length also ∷ (also ++ all) ≡ length head ∷ ((head ++ x) ++ text)
  rests = ap rest_list same

  lengths : length also ≡ length head
  lengths = ap (first_of 0) rests

  joined : also ++ all ≡ head ++ (x ++ text)
  joined = ap rest_list rests ∙ append_assoc head x text

  pub same_head : also ≡ head
  same_head = sym (take-append_seam also all) ∙ ap₂ take lengths joined ∙ take-append_seam head (x ++ text)

  pub all_bytes : all ≡ x ++ text
  all_bytes = append_cancel_left head all (x ++ text) (ap (λ t. t ++ all) (sym same_head) ∙ joined)

  pub long_text : length text + left ≡ most
  long_text = let e = ap length all_bytes ∙ length-append x text in omega (arith, heads, e)

-- the heading is there if the text isn't empty
is_under : (w v head text : List ℕ) (done : ℕ) (most left : ℕ) → v ++ drop done head ≡ (w ++ head) ++ text → length text + left ≡ most →
    (b : Bool) → (left == most) ≡ b → (if b then done == 0 else done == length head) ≡ true → v ≡ w ++ under head text
is_under w v head [] done most left e long true none whole =
    let first : done ≡ 0 = grind (arith, whole) in
    let same : v ++ head ≡ w ++ head = ap (λ k. v ++ drop k head) (sym first) ∙ e ∙ append-nil (w ++ head) in
    append_cancel_right v w head same ∙ sym (append-nil w)
is_under w v head (t ∷ text) done most left e long true none whole =
    let is : left ≡ most = grind (arith, none) in absurd (omega (arith, is, long))
is_under w v head [] done most left e long false some whole =
    let is : left ≡ most = omega (arith, long) in absurd (grind (arith, some, is))
is_under w v head (t ∷ text) done most left e long false some whole =
    let all : done ≡ length head = grind (arith, whole) in
    let none : drop done head ≡ [] = drop_of_length-le head (omega (arith, all)) in
    sym (append-nil v) ∙ ap (λ r. v ++ r) (sym none) ∙ e ∙ append_assoc w head (t ∷ text)

under_from_start : (a b : Option (List ℕ)) (head also text : List ℕ) (done most left : ℕ) →
    Appends (option_map (tagged most head) (with_heading a head 0)) (option_map (tagged left also) (with_heading b also done)) text →
    (if left == most then done == 0 else done == length also) ≡ true → Appends a b (under head text)
under_from_start None b head also text done most left wrote whole = tt
under_from_start (Some w) None head also text done most left wrote whole = absurd wrote
under_from_start (Some w) (Some v) head also text done most left wrote whole =
    let same = same_head head also (w ++ head) (v ++ drop done also) text most left wrote in
    is_under w v head text done most left
    (ap (λ h. v ++ drop done h) (sym same) ∙ all_bytes head also (w ++ head) (v ++ drop done also) text most left wrote)
    (long_text head also (w ++ head) (v ++ drop done also) text most left wrote) (left == most) refl
    (ap (λ (h : List ℕ). if left == most then done == 0 else done == length h) (sym same) ∙ whole)

pub shown_under : (a b : Option (List ℕ)) (head also text : List ℕ) (start done most had left : ℕ) → start ≡ 0 → had ≡ most →
    Appends (option_map (tagged had head) (with_heading a head start)) (option_map (tagged left also) (with_heading b also done)) text →
    (if left == most then done == 0 else done == length also) ≡ true → Appends a b (under head text)
shown_under a b head also text start done most had left fresh all wrote whole =
    under_from_start a b head also text done most left
    (subst (λ (k : ℕ). Appends (option_map (tagged k head) (with_heading a head 0)) (option_map (tagged left also) (with_heading b also done))
    text) all
    (subst (λ (k : ℕ). Appends (option_map (tagged had head) (with_heading a head k))
    (option_map (tagged left also) (with_heading b also done)) text) fresh wrote))
    whole

-- in any case a beginning of the heading and the text is there
begins : (w v rest head text : List ℕ) → length rest ≤ length head → v ++ rest ≡ (w ++ head) ++ text →
    v ≡ w ++ take (length v - length w) (head ++ text)
begins w v rest head text few e =
    let long : length v + length rest ≡ (length w + length head) + length text =
    sym (length-append v rest) ∙ ap length e ∙ length-append (w ++ head) text ∙ ap (λ k. k + length text) (length-append w head) in
    let cut : length v ≡ length w + (length v - length w) = omega (arith, long, few) in
    sym (take-append_seam v rest) ∙ ap (take (length v)) (e ∙ append_assoc w head text)
    ∙ ap (λ k. take k (w ++ (head ++ text))) cut ∙ take-append-add w (head ++ text) (length v - length w)

-- a beginning of a beginning
shorter : (m n : ℕ) (head text : List ℕ) → (k : ℕ) × (take m (head ++ take n text) ≡ take k (head ++ text))
shorter m n head text = by (nat_lt (length head + n) m) refl
  where
    both : take m (head ++ take n text) ≡ take m (take (length head + n) (head ++ text))
    both = ap (take m) (sym (take-append-add head text n))

    by : (b : Bool) → nat_lt (length head + n) m ≡ b → (k : ℕ) × (take m (head ++ take n text) ≡ take k (head ++ text))
    by true is =
        let few : length head + n < m = grind (arith, is) in
        let e = length-take (length head + n) (head ++ text) in
        (length head + n, both ∙ take_all m (take (length head + n) (head ++ text)) (omega (arith, few, e)))
    by false is =
        let few : m ≤ length head + n = grind (arith, is) in
        (m, both ∙ take-take m (length head + n) (head ++ text) few)

part_from_start : (a b : Option (List ℕ)) (head also text : List ℕ) (done most left n : ℕ) →
    Appends (option_map (tagged most head) (with_heading a head 0)) (option_map (tagged left also) (with_heading b also done)) (take n text) →
    (k : ℕ) × Appends a b (take k (head ++ text))
part_from_start None b head also text done most left n wrote = (0, tt)
part_from_start (Some w) None head also text done most left n wrote = absurd wrote
part_from_start (Some w) (Some v) head also text done most left n wrote =
    let same = same_head head also (w ++ head) (v ++ drop done also) (take n text) most left wrote in
    let few : length (drop done also) ≤ length head =
    let e = length-drop done also in let f = ap length same in omega (arith, e, f) in
    let cut = shorter (length v - length w) n head text in (
      cut.0,
      begins w v (drop done also) head (take n text) few
          (all_bytes head also (w ++ head) (v ++ drop done also) (take n text) most left wrote)
          ∙ ap (λ t. w ++ t) cut.1,
    )

pub shown_part : (a b : Option (List ℕ)) (head also text : List ℕ) (start done most left n : ℕ) → start ≡ 0 →
    Appends (option_map (tagged most head) (with_heading a head start)) (option_map (tagged left also) (with_heading b also done))
    (take n text) → (k : ℕ) × Appends a b (take k (head ++ text))
shown_part a b head also text start done most left n fresh wrote =
    part_from_start a b head also text done most left n
    (subst (λ (k : ℕ). Appends (option_map (tagged most head) (with_heading a head k))
    (option_map (tagged left also) (with_heading b also done)) (take n text)) fresh wrote)

pub part_of_all : (a b : Option (List ℕ)) (head also text : List ℕ) (start done most left : ℕ) → start ≡ 0 →
    Appends (option_map (tagged most head) (with_heading a head start)) (option_map (tagged left also) (with_heading b also done)) text →
    (k : ℕ) × Appends a b (take k (head ++ text))
part_of_all a b head also text start done most left fresh wrote =
    shown_part a b head also text start done most left (length text) fresh
    (subst (λ (t : List ℕ). Appends (option_map (tagged most head) (with_heading a head start))
    (option_map (tagged left also) (with_heading b also done)) t) (sym (take-length text)) wrote)

-- ---- of what was known, by other names
module _ (a old new : Option (List ℕ)) (head begun also text : List ℕ) (start done most had left : ℕ) (same : a ≡ old) (is : begun ≡ head)
    (fresh : start ≡ 0) where
  pub begun_part : (n : ℕ) →
      Appends (option_map (tagged had begun) (with_heading a begun start)) (option_map (tagged left also) (with_heading new also done))
      (take n text) → (k : ℕ) × Appends old new (take k (head ++ text))
  begun_part n wrote =
      subst (λ (o : Option (List ℕ)). (k : ℕ) × Appends o new (take k (head ++ text))) same
      (subst (λ (h : List ℕ). (k : ℕ) × Appends a new (take k (h ++ text))) is
      (shown_part a new begun also text start done had left n fresh wrote))

  pub begun_all :
      Appends (option_map (tagged had begun) (with_heading a begun start)) (option_map (tagged left also) (with_heading new also done)) text →
      (k : ℕ) × Appends old new (take k (head ++ text))
  begun_all wrote =
      subst (λ (o : Option (List ℕ)). (k : ℕ) × Appends o new (take k (head ++ text))) same
      (subst (λ (h : List ℕ). (k : ℕ) × Appends a new (take k (h ++ text))) is
      (part_of_all a new begun also text start done had left fresh wrote))

  pub begun_under : had ≡ most →
      Appends (option_map (tagged had begun) (with_heading a begun start)) (option_map (tagged left also) (with_heading new also done)) text →
      (if left == most then done == 0 else done == length also) ≡ true → Appends old new (under head text)
  begun_under all wrote whole =
      subst (λ (o : Option (List ℕ)). Appends o new (under head text)) same
      (subst (λ (h : List ℕ). Appends a new (under h text)) is
      (shown_under a new begun also text start done most had left fresh all wrote whole))

pub if_known : (o : Option (List ℕ)) (P Q : List ℕ → Type 0) → ((text : List ℕ) → P text → Q text) → IfSome o P → IfSome o Q
if_known None P Q f p = tt
if_known (Some text) P Q f p = f text p
