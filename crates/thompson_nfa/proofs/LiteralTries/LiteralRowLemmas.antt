-- The states of a trie's nodes: the items by their positions in a list of rows.
use Rattle.std.proofs.Common.{◌≡◌, ℕ, zero, suc, ◌+◌, ◌*◌, ◌<◌, ◌≤◌, List, [], ◌∷◌, ◌++◌, map, length, take, drop, get_or, sym, ap, ◌∙◌}
use Rattle.std.proofs.Common.{subst, arith}
use Rattle.std.specs.Prelude.{All}
use Rattle.std.proofs.lemmas.List.{take_more, take_all, length-map, get_or-map}
use Rattle.nfa_core.specs.BuilderStates.{Assembly, union_draft}
use Rattle.nfa_core.specs.declared.build_error.BuildError.{BuildError}
use Rattle.thompson_nfa.specs.Added.{AddsDraft}
use Rattle.thompson_nfa.specs.LiteralGroups.{Ascends, LeadWithin}
use Rattle.thompson_nfa.specs.LiteralTries.{edges_in, chunks_in, matches_in, AreChunks}
use Rattle.thompson_nfa.specs.LiteralStates.{AddsItem, AddsNode}
use Rattle.thompson_nfa.specs.Refusals.{Stays, Quits, ExceedsLimit}
use Rattle.thompson_nfa.specs.declared.literals.literal_groups.Edge.{Edge}
use Rattle.thompson_nfa.proofs.LiteralTries.LiteralStateLemmas.{ItemsTo, item_added, item_passed, item_refused, more_items, one_item}
use Rattle.thompson_nfa.proofs.LiteralTries.LiteralStateLemmas.{ways_passed, ways_refused}

-- ---- positions in the list of items

pub chunk_at : (first end : ℕ) (xs : List (List Edge)) (k : ℕ) (row : List Edge) → AreChunks first end xs → k < length xs →
    get_or xs k [] ≡ row → LeadWithin first end row × Ascends 0 row 256
chunk_at first end [] k row a l e = absurd (omega arith)
chunk_at first end (x ∷ xs) zero row a l e = let P : List Edge → Type 0 = λ r. LeadWithin first end r × Ascends 0 r 256 in
    subst P e (a.1, a.0)
chunk_at first end (x ∷ xs) (suc k) row a l e = chunk_at first end xs k row a.2 (omega arith) e

split_at : (xs : List (List Edge)) (k : ℕ) (row : List Edge) → k < length xs → get_or xs k [] ≡ row →
    xs ≡ (take k xs ++ row ∷ []) ++ drop (k + 1) xs
split_at [] k row l e = absurd (omega arith)
split_at (x ∷ xs) zero row l e = ap (λ (r : List Edge). r ∷ xs) e
split_at (x ∷ xs) (suc k) row l e =
    let P : ℕ → Type 0 = λ n. x ∷ xs ≡ (take (suc k) (x ∷ xs) ++ row ∷ []) ++ drop n (x ∷ xs) in
    let same : suc (k + 1) ≡ suc k + 1 = omega arith in
    subst P same (ap (λ (l : List (List Edge)). x ∷ l) (split_at xs k row (omega arith) e))

taken_more : (xs : List (List Edge)) (k : ℕ) (row : List Edge) → k < length xs → get_or xs k [] ≡ row →
    take (k + 1) xs ≡ take k xs ++ row ∷ []
taken_more xs k row l e = take_more xs k [] l ∙ ap (λ (r : List Edge). take k xs ++ r ∷ []) e

-- the items as lists
module _ {V : Type 0} (items_of : V → List Edge) (rows : List V) (k : ℕ) (v : V) (row : List Edge) (got : v ≡ get_or rows k v)
    (is_row : row ≡ items_of v) (less : k < length rows) where
  abbrev all : List (List Edge)
  all = map items_of rows

  inside : k < length (map items_of rows)
  inside = omega (arith, length-map rows items_of, less)

  here : get_or (map items_of rows) k [] ≡ row
  here = get_or-map items_of rows k v [] less ∙ ap items_of (sym got) ∙ sym is_row

  pub row_chunk : (end : ℕ) → AreChunks 0 end (map items_of rows) → LeadWithin 0 end row × Ascends 0 row 256
  row_chunk end a = chunk_at 0 end (map items_of rows) k row a inside here

  pub row_added : (old mid new : Assembly) (names : List ℕ) (end id : ℕ) (ways ways2 : List ℕ) →
      ItemsTo old mid names end (take k (map items_of rows)) ways → AddsItem mid new names end row id → ways2 ≡ ways ++ id ∷ [] →
      All (λ q. q < length old.drafts) names → AreChunks 0 (length names) (map items_of rows) →
      ItemsTo old new names end (take (k + 1) (map items_of rows)) ways2
  row_added old mid new names end id ways ways2 so_far a e there chunks =
      let c = row_chunk (length names) chunks in
      let P : List (List Edge) → Type 0 = λ is. ItemsTo old new names end is ways2 in
      let Q : List ℕ → Type 0 = λ ws. ItemsTo old new names end (take k (map items_of rows) ++ row ∷ []) ws in
      subst P (sym (taken_more (map items_of rows) k row inside here))
      (subst Q (sym e) (item_added old mid names end (take k (map items_of rows)) ways so_far new id row a there c.0 c.1))

  module _ (old mid new : Assembly) (names : List ℕ) (end : ℕ) (ways : List ℕ) (e : BuildError)
      (so_far : ItemsTo old mid names end (take k (map items_of rows)) ways)
      (r : (1 ≤ length row) × Stays mid new 1 (24 + 8 * length row) e) where
    pub row_refused : AreChunks 0 (length names) (map items_of rows) → Quits old new (2 * edges_in (map items_of rows)) e
    row_refused chunks =
        item_refused old mid names end (map items_of rows) (take k (map items_of rows)) (drop (k + 1) (map items_of rows)) row ways so_far
        (split_at (map items_of rows) k row inside here) r.0 new e (row_chunk (length names) chunks).1 r.1

    pub row_passed : ExceedsLimit old (32 * edges_in (map items_of rows) + 36 * matches_in (map items_of rows)) e
    row_passed =
        let p = item_passed old mid names end (map items_of rows) (take k (map items_of rows)) (drop (k + 1) (map items_of rows)) row ways
        so_far (split_at (map items_of rows) k row inside here) r.0 e r.1.passed in
        omega (arith, p)

pub all_items : {V : Type 0} (items_of : V → List Edge) (rows : List V) (k : ℕ) (old mid : Assembly) (names : List ℕ) (end : ℕ)
    (ways : List ℕ) → ItemsTo old mid names end (take k (map items_of rows)) ways → length rows ≤ k →
    ItemsTo old mid names end (map items_of rows) ways
all_items {V} items_of rows k old mid names end ways so_far past =
    let P : List (List Edge) → Type 0 = λ is. ItemsTo old mid names end is ways in
    subst P (take_all k (map items_of rows) (omega (arith, length-map rows items_of, past))) so_far

got_same : (xs : List ℕ) (d q : ℕ) → 1 ≤ length xs → q ≡ get_or xs 0 q → get_or xs 0 d ≡ q
got_same [] d q l e = absurd (omega arith)
got_same (x ∷ xs) d q l e = sym e

-- all items are done
module _ {V : Type 0} (items_of : V → List Edge) (rows : List V) (k : ℕ) (old mid : Assembly) (names : List ℕ) (end : ℕ) (ways : List ℕ)
    (so_far : ItemsTo old mid names end (take k (map items_of rows)) ways) (past : length rows ≤ k)
    (some : 1 ≤ length rows) (few : length rows ≤ 2 * chunks_in (map items_of rows) + 1)
    (parted : length rows ≤ 2 * matches_in (map items_of rows) + 1) where
  whole : ItemsTo old mid names end (map items_of rows) ways
  whole = all_items items_of rows k old mid names end ways so_far past

  few_rows : length (map items_of rows) ≤ 2 * chunks_in (map items_of rows) + 1
  few_rows = omega (arith, length-map rows items_of, few)

  parted_rows : length (map items_of rows) ≤ 2 * matches_in (map items_of rows) + 1
  parted_rows = omega (arith, length-map rows items_of, parted)

  two_rows : (n : ℕ) → n ≡ length ways → (n ≡ 1 → ⊥) → 2 ≤ length ways
  two_rows n e ne = let l : length ways ≡ length rows = omega (arith, whole.ways_long, length-map rows items_of) in omega arith

  pub rows_one : (n q : ℕ) → n ≡ length ways → n ≡ 1 → q ≡ get_or ways 0 q → AddsNode old mid names end (map items_of rows) q
  rows_one n q e one is =
      let l : length ways ≡ 1 = sym e ∙ one in
      let P : ℕ → Type 0 = λ j. AddsNode old mid names end (map items_of rows) j in
      subst P (got_same ways 0 q (omega arith) is) (one_item old mid names end (map items_of rows) ways whole few_rows parted_rows l)

  pub rows_union : (new : Assembly) (id n : ℕ) → n ≡ length ways → (n ≡ 1 → ⊥) → end < length old.drafts →
      AddsDraft mid new id (union_draft ways) mid.groups → AddsNode old new names end (map items_of rows) id
  rows_union new id n e ne there added = more_items old mid names end (map items_of rows) ways whole few_rows parted_rows new id
      (two_rows n e ne) there added

  pub rows_refused : (new : Assembly) (e : BuildError) (n : ℕ) → n ≡ length ways → (n ≡ 1 → ⊥) → Stays mid new 1 (24 + 4 * length ways) e →
      Quits old new (2 * edges_in (map items_of rows)) e
  rows_refused new e n l ne r = ways_refused old mid names end (map items_of rows) ways whole few_rows parted_rows new e (two_rows n l ne) r

  pub rows_passed : (e : BuildError) (n : ℕ) → n ≡ length ways → (n ≡ 1 → ⊥) → ExceedsLimit mid (24 + 4 * length ways) e →
      ExceedsLimit old (32 * edges_in (map items_of rows) + 36 * matches_in (map items_of rows)) e
  rows_passed e n l ne p = ways_passed old mid names end (map items_of rows) ways whole few_rows parted_rows e (two_rows n l ne) p
