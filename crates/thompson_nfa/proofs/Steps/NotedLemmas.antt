-- Groups that are noted stay, and to note them again changes nothing.
use Rattle.std.proofs.Common.{◌≡◌, ◌⊎◌, inl, inr, ℕ, zero, suc, ◌-◌, ◌<◌, ◌≤◌, Bool, true, false, List, [], ◌∷◌, ◌++◌, length, get_or, set}
use Rattle.std.proofs.Common.{replicate, Option, Some, None, is_some, nat_lt, if◌then◌else◌, refl, sym, ap, ◌∙◌, subst, arith, ⊎_elim}
use Rattle.std.proofs.Common.{length-append, append-nil, lt-ltb}
use Rattle.std.proofs.lemmas.Bool.{cases_lt, cases_eq, cases_Bool, ltb-true}
use Rattle.std.proofs.lemmas.List.{get_or-set_same, get_or-set_other, set-get_or, get_or_past}
use Rattle.search_types.specs.Groups.{Name, Groups, groups_of, slot}
use Rattle.hir_core.specs.Tree.{Tree, empty, literal, byte_class, char_class, look, repetition, capture, nothing, cat, never, alt}
use Rattle.nfa_core.specs.BuilderStates.{DraftNode, empty_draft, range_draft, sparse_draft, look_draft, union_draft, union_reverse_draft}
use Rattle.nfa_core.specs.BuilderStates.{fail_draft, match_draft, capture_start_draft, capture_end_draft, filled, with_name, up_to_pattern}
use Rattle.nfa_core.specs.BuilderStates.{with_group}
use Rattle.nfa_core.specs.CanBuild.{is_known}
use Rattle.thompson_nfa.specs.NotedGroups.{keeps_group, with_groups_of}
use Rattle.thompson_nfa.specs.declared.which_captures.WhichCaptures.{WhichCaptures}

front_kept : {A : Type 0} (xs ys : List A) (k : ℕ) (d : A) → k < length xs → get_or (xs ++ ys) k d ≡ get_or xs k d
front_kept [] ys k d l = absurd (omega arith)
front_kept (x ∷ xs) ys zero d l = refl
front_kept (x ∷ xs) ys (suc k) d l = front_kept xs ys k d (omega arith)

length_of : {A : Type 0} (n : ℕ) (x : A) → length (replicate n x) ≡ n
length_of zero x = refl
length_of (suc n) x = ap suc (length_of n x)

length_filled : {A : Type 0} (x : A) (xs : List A) (n : ℕ) → n ≤ length (filled x xs n)
length_filled x xs n =
    let a = length-append xs (replicate (n - length xs) x) in let b = length_of (n - length xs) x in
    omega arith

-- a group is in the list
abbrev pub IsIn : Groups → ℕ → ℕ → Type 0
IsIn groups p index = index < length (get_or groups p [])

in_pattern : (groups : Groups) (p index : ℕ) → IsIn groups p index → p < length groups
in_pattern groups p index l = ⊎_elim (λ (x : p < length groups). x)
    (λ (x : length groups ≤ p). let e : length (get_or groups p []) ≡ 0 = ap length (get_or_past groups p [] x) in absurd (omega arith))
    (cases_lt p (length groups))

named_in : (names : List (Option Name)) (index : ℕ) (name : Option Name) → index < length (with_name names index name)
named_in names index name = ⊎_elim
    (λ (e : nat_lt index (length names) ≡ true).
    let less = ltb-true index (length names) e in
    let is : with_name names index name ≡ names = ap (λ b. if b then names else (filled None names index ++ name ∷ [])) e in
    omega (arith, ap length is))
    (λ (e : nat_lt index (length names) ≡ false).
    let is : with_name names index name ≡ filled None names index ++ name ∷ [] =
    ap (λ b. if b then names else (filled None names index ++ name ∷ [])) e in
    omega (arith, ap length is, length-append (filled None names index) (name ∷ []), length_filled None names index))
    (cases_Bool (nat_lt index (length names)))

names_longer : (names : List (Option Name)) (index : ℕ) (name : Option Name) → length names ≤ length (with_name names index name)
names_longer names index name = ⊎_elim
    (λ (e : nat_lt index (length names) ≡ true).
    let is : with_name names index name ≡ names = ap (λ b. if b then names else (filled None names index ++ name ∷ [])) e in
    omega (arith, ap length is))
    (λ (e : nat_lt index (length names) ≡ false).
    let is : with_name names index name ≡ filled None names index ++ name ∷ [] =
    ap (λ b. if b then names else (filled None names index ++ name ∷ [])) e in
    omega (
      arith,
      ap length is,
      length-append (filled None names index) (name ∷ []),
      length-append names (replicate (index - length names) None),
    ))
    (cases_Bool (nat_lt index (length names)))

module _ (groups : Groups) (p index : ℕ) (name : Option Name) where
  here : get_or (with_group groups p index name) p [] ≡ with_name (get_or (up_to_pattern groups p) p []) index name
  here = let room = length_filled [] groups (suc p) in
      get_or-set_same (up_to_pattern groups p) p (with_name (get_or (up_to_pattern groups p) p []) index name) [] (omega arith)

  pub group_in : IsIn (with_group groups p index name) p index
  group_in = omega (arith, ap length here, named_in (get_or (up_to_pattern groups p) p []) index name)

  pub group_kept : (q j : ℕ) → IsIn groups q j → IsIn (with_group groups p index name) q j
  group_kept q j l =
      let inside = in_pattern groups q j l in
      let old : get_or (up_to_pattern groups p) q [] ≡ get_or groups q [] =
      front_kept groups (replicate (suc p - length groups) []) q [] inside in
      ⊎_elim
      (λ (e : q ≡ p).
      let P : ℕ → Type 0 = λ k. IsIn (with_group groups p index name) k j in
      let Q : ℕ → Type 0 = λ k. get_or (up_to_pattern groups p) k [] ≡ get_or groups k [] in
      let R : ℕ → Type 0 = λ k. IsIn groups k j in
      let l2 = subst R e l in
      let old2 = subst Q e old in
      subst P (sym e) (omega (arith, ap length here, names_longer (get_or (up_to_pattern groups p) p []) index name, ap length old2)))
      (λ (ne : q ≡ p → ⊥).
      omega (
        arith,
        ap length old,
        ap length (get_or-set_other (up_to_pattern groups p) p q
            (with_name (get_or (up_to_pattern groups p) p []) index name) [] ne),
      ))
      (cases_eq q p)

  pub group_same : IsIn groups p index → with_group groups p index name ≡ groups
  group_same l =
      let inside = in_pattern groups p index l in
      let none : suc p - length groups ≡ 0 = omega arith in
      let up : up_to_pattern groups p ≡ groups = ap (λ k. groups ++ replicate k []) none ∙ append-nil groups in
      let names = get_or groups p [] in
      let same : with_name names index name ≡ names = ap (λ b. if b then names
      else (filled None names index ++ name ∷ [])) (lt-ltb index (length names) l) in
      ap (λ (gs : Groups). set gs p (with_name (get_or gs p []) index name)) up ∙ ap (λ ns. set groups p ns) same ∙ set-get_or groups p []

-- the groups that are noted for a tree
abbrev Notes : WhichCaptures → ℕ → Tree → Type 0
Notes kept index (repetition min (Some zero) greedy x) = ⊥
Notes kept index (repetition min most greedy x) = Notes kept index x
Notes kept index (capture other name x) = ((index ≡ other) × (keeps_group kept other ≡ true)) ⊎ Notes kept index x
Notes kept index (cat x y) = Notes kept index x ⊎ Notes kept index y
Notes kept index (alt x y) = Notes kept index x ⊎ Notes kept index y
Notes kept index _ = ⊥

module _ (kept : WhichCaptures) (p : ℕ) where
  capture_kept : (b : Bool) (groups : Groups) (index : ℕ) (name : Option Name) (q j : ℕ) → IsIn groups q j →
      IsIn (if b then with_group groups p index name else groups) q j
  capture_kept true groups index name q j l = group_kept groups p index name q j l
  capture_kept false groups index name q j l = l

  pub noted_kept : (x : Tree) (groups : Groups) (q j : ℕ) → IsIn groups q j → IsIn (with_groups_of kept p x groups) q j
  noted_kept empty groups q j l = l
  noted_kept (literal bytes) groups q j l = l
  noted_kept (byte_class ranges) groups q j l = l
  noted_kept (char_class ranges) groups q j l = l
  noted_kept (look a) groups q j l = l
  noted_kept (repetition min None greedy x) groups q j l = noted_kept x groups q j l
  noted_kept (repetition min (Some zero) greedy x) groups q j l = l
  noted_kept (repetition min (Some (suc most)) greedy x) groups q j l = noted_kept x groups q j l
  noted_kept (capture index name x) groups q j l =
      noted_kept x (if keeps_group kept index then with_group groups p index name
      else groups) q j (capture_kept (keeps_group kept index) groups index name q j l)
  noted_kept nothing groups q j l = l
  noted_kept (cat x y) groups q j l = noted_kept y (with_groups_of kept p x groups) q j (noted_kept x groups q j l)
  noted_kept never groups q j l = l
  noted_kept (alt x y) groups q j l = noted_kept y (with_groups_of kept p x groups) q j (noted_kept x groups q j l)

  capture_in : (b : Bool) (groups : Groups) (index : ℕ) (name : Option Name) → b ≡ true →
      IsIn (if b then with_group groups p index name else groups) p index
  capture_in true groups index name e = group_in groups p index name
  capture_in false groups index name e = absurd (cc)

  noted_in : (x : Tree) (groups : Groups) (j : ℕ) → Notes kept j x → IsIn (with_groups_of kept p x groups) p j
  noted_in empty groups j n = absurd n
  noted_in (literal bytes) groups j n = absurd n
  noted_in (byte_class ranges) groups j n = absurd n
  noted_in (char_class ranges) groups j n = absurd n
  noted_in (look a) groups j n = absurd n
  noted_in (repetition min None greedy x) groups j n = noted_in x groups j n
  noted_in (repetition min (Some zero) greedy x) groups j n = absurd n
  noted_in (repetition min (Some (suc most)) greedy x) groups j n = noted_in x groups j n
  noted_in (capture index name x) groups j n =
      let after = if keeps_group kept index then with_group groups p index name else groups in
      ⊎_elim
      (λ (h : (j ≡ index) × (keeps_group kept index ≡ true)).
      let P : ℕ → Type 0 = λ k. IsIn (with_groups_of kept p x after) p k in
      subst P (sym h.0) (noted_kept x after p index (capture_in (keeps_group kept index) groups index name h.1)))
      (λ (h : Notes kept j x). noted_in x after j h) n
  noted_in nothing groups j n = absurd n
  noted_in (cat x y) groups j n = ⊎_elim (λ (h : Notes kept j x). noted_kept y (with_groups_of kept p x groups) p j (noted_in x groups j h))
      (λ (h : Notes kept j y). noted_in y (with_groups_of kept p x groups) j h) n
  noted_in never groups j n = absurd n
  noted_in (alt x y) groups j n = ⊎_elim (λ (h : Notes kept j x). noted_kept y (with_groups_of kept p x groups) p j (noted_in x groups j h))
      (λ (h : Notes kept j y). noted_in y (with_groups_of kept p x groups) j h) n

  capture_same : (b : Bool) (groups : Groups) (index : ℕ) (name : Option Name) → (b ≡ true → IsIn groups p index) →
      (if b then with_group groups p index name else groups) ≡ groups
  capture_same true groups index name there = group_same groups p index name (there refl)
  capture_same false groups index name there = refl

  noted_same : (x : Tree) (groups : Groups) → ((j : ℕ) → Notes kept j x → IsIn groups p j) → with_groups_of kept p x groups ≡ groups
  noted_same empty groups all = refl
  noted_same (literal bytes) groups all = refl
  noted_same (byte_class ranges) groups all = refl
  noted_same (char_class ranges) groups all = refl
  noted_same (look a) groups all = refl
  noted_same (repetition min None greedy x) groups all = noted_same x groups all
  noted_same (repetition min (Some zero) greedy x) groups all = refl
  noted_same (repetition min (Some (suc most)) greedy x) groups all = noted_same x groups all
  noted_same (capture index name x) groups all =
      ap (with_groups_of kept p x) (capture_same (keeps_group kept index) groups index name (λ e. all index (inl (refl, e))))
      ∙ noted_same x groups (λ j n. all j (inr n))
  noted_same nothing groups all = refl
  noted_same (cat x y) groups all = ap (with_groups_of kept p y) (noted_same x groups (λ j n. all j (inl n)))
      ∙ noted_same y groups (λ j n. all j (inr n))
  noted_same never groups all = refl
  noted_same (alt x y) groups all = ap (with_groups_of kept p y) (noted_same x groups (λ j n. all j (inl n)))
      ∙ noted_same y groups (λ j n. all j (inr n))

  -- to note the groups of a tree again changes nothing
  pub noted_twice : (x : Tree) (groups : Groups) → with_groups_of kept p x (with_groups_of kept p x groups) ≡ with_groups_of kept p x groups
  noted_twice x groups = noted_same x (with_groups_of kept p x groups) (λ j n. noted_in x groups j n)

-- a group in the list is known to the states at its ends
groups_at : (groups : Groups) (p : ℕ) → groups_of groups p ≡ get_or groups p []
groups_at [] p = refl
groups_at (names ∷ rest) zero = refl
groups_at (names ∷ rest) (suc p) = groups_at rest p

slot_test : (b : Bool) (n : ℕ) → is_some (if b then Some n else None) ≡ b
slot_test true n = refl
slot_test false n = refl

slot_known : (groups : Groups) (p index : ℕ) → is_some (slot groups p index) ≡ nat_lt index (length (get_or groups p []))
slot_known groups p index = slot_test (nat_lt index (length (groups_of groups p))) _
    ∙ ap (λ ns. nat_lt index (length ns)) (groups_at groups p)

pub known_of_in : (groups : Groups) (p index : ℕ) → IsIn groups p index → is_some (slot groups p index) ≡ true
known_of_in groups p index l = slot_known groups p index ∙ lt-ltb index (length (get_or groups p [])) l

in_of_known : (groups : Groups) (p index : ℕ) → is_some (slot groups p index) ≡ true → IsIn groups p index
in_of_known groups p index e = ltb-true index (length (get_or groups p [])) (sym (slot_known groups p index) ∙ e)

pub known_group : (groups : Groups) (p index : ℕ) (name : Option Name) (one : DraftNode) → is_known groups one ≡ true →
    is_known (with_group groups p index name) one ≡ true
known_group groups p index name (capture_start_draft pattern group next) k =
    known_of_in (with_group groups p index name) pattern group (group_kept groups p index name pattern group
    (in_of_known groups pattern group k))
known_group groups p index name (capture_end_draft pattern group next) k =
    known_of_in (with_group groups p index name) pattern group (group_kept groups p index name pattern group
    (in_of_known groups pattern group k))
known_group groups p index name (empty_draft next) k = refl
known_group groups p index name (range_draft low high next) k = refl
known_group groups p index name (sparse_draft ranges) k = refl
known_group groups p index name (look_draft l next) k = refl
known_group groups p index name (union_draft names) k = refl
known_group groups p index name (union_reverse_draft names) k = refl
known_group groups p index name fail_draft k = refl
known_group groups p index name (match_draft pattern) k = refl
