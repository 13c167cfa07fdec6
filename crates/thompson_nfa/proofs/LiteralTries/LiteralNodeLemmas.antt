-- The nodes of a trie of strings: what one more item adds to a node.
use Rattle.std.proofs.Common.{◌≡◌, ◌⊎◌, inl, inr, ⊎_elim, ℕ, zero, suc, ◌+◌, ◌*◌, ◌≤◌, Bool, true, [], false, List, ◌∷◌, ◌++◌, length, take}
use Rattle.std.proofs.Common.{drop, get_or, nat_eq, if◌then◌else◌, refl, sym, ap, ◌∙◌, subst, arith, length-append, replicate, append_assoc}
use Rattle.std.proofs.Common.{append-nil}
use Rattle.std.proofs.lemmas.List.{length-replicate}
use Rattle.std.proofs.lemmas.Grind.{common_steps}
use Rattle.nfa_core.specs.Walks.{distinct}
use Rattle.thompson_nfa.specs.declared.literals.literal_groups.Edge.{Edge}
use Rattle.thompson_nfa.specs.LiteralGroups.{tails, chunk_strings, Ascends, LeadWithin, bytes_in, bytes_in_all, strings_in_all, AllSome}
use Rattle.thompson_nfa.specs.LiteralGroups.{IsChunk, AddsGroups}
use Rattle.thompson_nfa.specs.LiteralTries.{literal_ends_of, IsLike, item_strings, node_strings, edges_in, chunks_in, matches_in, AreChunks}
use Rattle.thompson_nfa.proofs.LiteralTries.LiteralGroupLemmas.{all_some_append, chunk_kept, inside_wider}
use Rattle.thompson_nfa.proofs.LiteralTries.LiteralEndLemmas.{NoneEnds, chunk_none_end, like_then, match_twice, same_ends}

-- ---- items

pub strings_append : (groups : List (List (List ℕ))) (xs ys : List (List Edge)) →
    node_strings groups (xs ++ ys) ≡ node_strings groups xs ++ node_strings groups ys
strings_append groups [] ys = refl
strings_append groups (x ∷ xs) ys =
    ap (λ (l : List (List ℕ)). item_strings groups x ++ l) (strings_append groups xs ys)
    ∙ sym (append_assoc (item_strings groups x) (node_strings groups xs) (node_strings groups ys))

pub edges_append : (xs ys : List (List Edge)) → edges_in (xs ++ ys) ≡ edges_in xs + edges_in ys
edges_append [] ys = omega arith
edges_append (x ∷ xs) ys = omega (arith, edges_append xs ys)

pub chunks_append : (xs ys : List (List Edge)) → chunks_in (xs ++ ys) ≡ chunks_in xs + chunks_in ys
chunks_append [] ys = omega arith
chunks_append ([] ∷ xs) ys = chunks_append xs ys
chunks_append ((e ∷ es) ∷ xs) ys = omega (arith, chunks_append xs ys)

matches_append : (xs ys : List (List Edge)) → matches_in (xs ++ ys) ≡ matches_in xs + matches_in ys
matches_append [] ys = omega arith
matches_append ([] ∷ xs) ys = omega (arith, matches_append xs ys)
matches_append ((e ∷ es) ∷ xs) ys = matches_append xs ys

pub are_wider : (first end less more : ℕ) (xs : List (List Edge)) → AreChunks first end xs → less ≤ first → end ≤ more →
    AreChunks less more xs
are_wider first end less more [] a le l = tt
are_wider first end less more (x ∷ xs) a le l = (
  a.0,
  inside_wider first end less more x a.1 le l,
  are_wider first end less more xs a.2 le l,
)

are_pushed : (first end : ℕ) (xs : List (List Edge)) (x : List Edge) → AreChunks first end xs → Ascends 0 x 256 → LeadWithin first end x →
    AreChunks first end (xs ++ x ∷ [])
are_pushed first end [] x a b c = (b, c, tt)
are_pushed first end (y ∷ ys) x a b c = (a.0, a.1, are_pushed first end ys x a.2 b c)

item_kept : (groups more : List (List (List ℕ))) (first end : ℕ) (x : List Edge) → LeadWithin first end x → end ≤ length groups →
    item_strings (groups ++ more) x ≡ item_strings groups x
item_kept groups more first end [] a le = refl
item_kept groups more first end (e ∷ es) a le = chunk_kept groups more first end (e ∷ es) a le

pub strings_kept : (groups more : List (List (List ℕ))) (first end : ℕ) (xs : List (List Edge)) → AreChunks first end xs →
    end ≤ length groups → node_strings (groups ++ more) xs ≡ node_strings groups xs
strings_kept groups more first end [] a le = refl
strings_kept groups more first end (x ∷ xs) a le =
    ap (λ (l : List (List ℕ)). l ++ node_strings (groups ++ more) xs) (item_kept groups more first end x a.1 le)
    ∙ ap (λ (l : List (List ℕ)). item_strings groups x ++ l) (strings_kept groups more first end xs a.2 le)

-- the item of a run of strings has an edge, and so is no match
some_edge : (groups : List (List (List ℕ))) (es : List Edge) (c : ℕ) → 1 ≤ length (tails c (chunk_strings groups es)) → 1 ≤ length es
some_edge groups [] c l = absurd (omega arith)
some_edge groups (e ∷ es) c l = omega arith

own_tail : (a : ℕ) (w : List ℕ) (ws : List (List ℕ)) → 1 ≤ length (tails a ((a ∷ w) ∷ ws))
own_tail a w ws =
    let same : nat_eq a a ≡ true = grind (arith, common_steps) in
    let is : tails a ((a ∷ w) ∷ ws) ≡ w ∷ tails a ws = ap (λ (t : Bool). if t then w ∷ tails a ws else tails a ws) same in
    let P : List (List ℕ) → Type 0 = λ l. 1 ≤ length l in
    subst P (sym is) (omega arith)

chunk_some : (first : ℕ) (groups : List (List (List ℕ))) (es : List Edge) (ws : List (List ℕ)) → IsChunk first groups es ws → NoneEnds ws →
    1 ≤ length ws → 1 ≤ length es
chunk_some first groups es [] c none l = absurd (omega arith)
chunk_some first groups es ([] ∷ ws) c none l = absurd none
chunk_some first groups es ((a ∷ w) ∷ ws) c none l =
    let P : List (List ℕ) → Type 0 = λ t. 1 ≤ length t in
    some_edge groups es a (subst P (sym (c.same_tails a)) (own_tail a w ws))

item_chunk : (groups : List (List (List ℕ))) (es : List Edge) → 1 ≤ length es → item_strings groups es ≡ chunk_strings groups es
item_chunk groups [] l = absurd (omega arith)
item_chunk groups (e ∷ es) l = refl

one_chunk : (es : List Edge) → 1 ≤ length es → chunks_in (es ∷ []) ≡ 1
one_chunk [] l = absurd (omega arith)
one_chunk (e ∷ es) l = refl

no_match : (es : List Edge) → 1 ≤ length es → matches_in (es ∷ []) ≡ 0
no_match [] l = absurd (omega arith)
no_match (e ∷ es) l = refl

one_at_most : (t : Bool) (n c : ℕ) → n ≤ 2 * c + (if t then 1 else 0) → n ≤ 2 * c + 1
one_at_most true n c l = l
one_at_most false n c l = omega arith

one_less : (t : Bool) (n c : ℕ) → n ≤ 2 * c + (if t then 0 else 1) → n ≤ 2 * c + 1
one_less true n c l = omega arith
one_less false n c l = l

-- the first string, if there is one, is empty
abbrev pub IsEnded : List (List ℕ) → Type 0
IsEnded [] = Unit {0}
IsEnded ([] ∷ ws) = Unit {0}
IsEnded ((b ∷ w) ∷ ws) = ⊥

not_ended : (run rest : List (List ℕ)) → NoneEnds run → 1 ≤ length run → IsEnded (run ++ rest) → ⊥
not_ended [] rest none some h = absurd (omega arith)
not_ended ([] ∷ ws) rest none some h = none
not_ended ((b ∷ w) ∷ ws) rest none some h = h

-- after a match, or if there is none, no more than two items for each match
parted_by : (t : Bool) (n m : ℕ) → n ≤ 2 * m + (if t then 0 else 1) → (t ≡ false → n ≡ 0) → n ≤ 2 * m
parted_by true n m l none = omega (arith, l)
parted_by false n m l none = let e = none refl in omega (arith, e)

-- The first string, if it is empty, or else the strings before the first empty one; and the others.
pub record IsTurn (all turn rest : List (List ℕ)) : Type 0 where
  pub stops : (b : ℕ) (w : List ℕ) (ws : List (List ℕ)) → turn ≡ (b ∷ w) ∷ ws → IsEnded rest
  pub split : turn ++ rest ≡ all
  pub ended : (ws : List (List ℕ)) → turn ≡ [] ∷ ws → ws ≡ []
  pub none_ends : (b : ℕ) (w : List ℕ) (ws : List (List ℕ)) → turn ≡ (b ∷ w) ∷ ws → NoneEnds turn

-- ---- one node

-- the items so far, where `left` are the strings still to come, and whether the last item is a match
pub record Listing (first : ℕ) (old new : List (List (List ℕ))) (items : List (List Edge)) (left : List (List ℕ)) (matched : Bool)
    (all : List (List ℕ)) : Type 0 where
  pub met : List (List ℕ)
  pub split : met ++ left ≡ all
  pub added : List (List (List ℕ))
  pub is : new ≡ old ++ added
  pub one_each : length added ≡ edges_in items
  pub some_added : AllSome added
  pub some : 1 ≤ length met → 1 ≤ length items
  pub some_matched : matched ≡ true → 1 ≤ length items
  pub room : length new + bytes_in_all new ≤ length old + bytes_in_all old + bytes_in met
  pub no_more : matches_in items + strings_in_all new ≤ strings_in_all old + length met
  pub few : length items ≤ 2 * chunks_in items + (if matched then 1 else 0)
  pub parted : length items ≤ 2 * matches_in items + (if matched then 0 else 1)
  pub turned : matched ≡ false → (length items ≡ 0) ⊎ IsEnded left
  pub twice : matched ≡ true → IsLike (met ++ [] ∷ []) met
  pub chunks : (before : List (List (List ℕ))) → length before ≡ first → AreChunks first (length (before ++ new)) items
  pub like : (before : List (List (List ℕ))) → length before ≡ first → IsLike (node_strings (before ++ new) items) met

bytes_append : (us vs : List (List ℕ)) → bytes_in (us ++ vs) ≡ bytes_in us + bytes_in vs
bytes_append [] vs = omega arith
bytes_append (w ∷ us) vs = omega (arith, bytes_append us vs)

pub no_item : (first : ℕ) (old : List (List (List ℕ))) (items : List (List Edge)) (all left : List (List ℕ)) → items ≡ [] → left ≡ all →
    Listing first old old items left false all
no_item first old items all left none e =
    let P : List (List Edge) → Type 0 = λ xs. Listing first old old xs left false all in
    subst P (sym none) (record {
      met = [];
      split = e;
      added = [];
      is = sym (append-nil old);
      one_each = refl;
      some_added = tt;
      some = λ l. absurd (omega arith);
      some_matched = λ t. absurd (cc);
      room = omega arith;
      no_more = omega arith;
      few = omega arith;
      parted = omega arith;
      turned = λ t. inl refl;
      twice = λ t. absurd (cc);
      chunks = λ before len. tt;
      like = λ before len h i. refl;
    })

first_of : (ws : List (List ℕ)) (w : List ℕ) → 1 ≤ length ws → get_or ws 0 [] ≡ w → ws ≡ w ∷ drop 1 ws
first_of [] w l e = absurd (omega arith)
first_of (v ∷ ws) w l e = ap (λ (u : List ℕ). u ∷ ws) e

abbrev IsSome : List (List ℕ) → Type 0
IsSome [] = ⊥
IsSome (w ∷ ws) = Unit {0}

pub nothing_taken : (n : ℕ) (ws : List (List ℕ)) → take n [] ≡ ws → IsSome ws → ⊥
nothing_taken zero ws e some = let P : List (List ℕ) → Type 0 = IsSome in subst P (sym e) some
nothing_taken (suc n) ws e some = let P : List (List ℕ) → Type 0 = IsSome in subst P (sym e) some

module _ (first : ℕ) (old new : List (List (List ℕ))) (items : List (List Edge)) (left : List (List ℕ)) (matched : Bool)
    (all : List (List ℕ)) (so_far : Listing first old new items left matched all) where
  -- a string that ends, after a match
  match_again : (rest : List (List ℕ)) → matched ≡ true → left ≡ [] ∷ rest → Listing first old new items rest true all
  match_again rest is_match e =
      record {
        met = so_far.met ++ [] ∷ [];
        split = append_assoc so_far.met ([] ∷ []) rest ∙ ap (λ (l : List (List ℕ)). so_far.met ++ l) (sym e) ∙ so_far.split;
        added = so_far.added;
        is = so_far.is;
        one_each = so_far.one_each;
        some_added = so_far.some_added;
        some = λ l. so_far.some_matched is_match;
        some_matched = λ t. so_far.some_matched is_match;
        room = omega (arith, so_far.room, bytes_append so_far.met ([] ∷ []));
        no_more = omega (arith, so_far.no_more, length-append so_far.met ([] ∷ []));
        few = let P : Bool → Type 0 = λ t. length items ≤ 2 * chunks_in items + (if t then 1 else 0) in subst P is_match so_far.few;
        parted = let P : Bool → Type 0 = λ t. length items ≤ 2 * matches_in items + (if t then 0 else 1) in
            subst P is_match so_far.parted;
        turned = λ t. absurd (cc);
        twice = λ t. match_twice so_far.met;
        chunks = so_far.chunks;
        like = λ before len h i. so_far.like before len h i ∙ sym (so_far.twice is_match h i);
      }

  -- a string that ends, and a match
  match_pushed : (rest : List (List ℕ)) → matched ≡ false → left ≡ [] ∷ rest → Listing first old new (items ++ [] ∷ []) rest true all
  match_pushed rest none_matched e =
      record {
        met = so_far.met ++ [] ∷ [];
        split = append_assoc so_far.met ([] ∷ []) rest ∙ ap (λ (l : List (List ℕ)). so_far.met ++ l) (sym e) ∙ so_far.split;
        added = so_far.added;
        is = so_far.is;
        one_each = omega (arith, so_far.one_each, edges_append items ([] ∷ []));
        some_added = so_far.some_added;
        some = λ l. omega (arith, length-append items ([] ∷ []));
        some_matched = λ t. omega (arith, length-append items ([] ∷ []));
        room = omega (arith, so_far.room, bytes_append so_far.met ([] ∷ []));
        no_more = omega (arith, so_far.no_more, length-append so_far.met ([] ∷ []), matches_append items ([] ∷ []));
        few =
            let P : Bool → Type 0 = λ t. length items ≤ 2 * chunks_in items + (if t then 1 else 0) in
            let fewer = subst P none_matched so_far.few in
            omega (arith, fewer, length-append items ([] ∷ []), chunks_append items ([] ∷ []));
        parted = omega (
          arith,
          one_less matched (length items) (matches_in items) so_far.parted,
          length-append items ([] ∷ []),
          matches_append items ([] ∷ []),
        );
        turned = λ t. absurd (cc);
        twice = λ t. match_twice so_far.met;
        chunks = λ before len. are_pushed first (length (before ++ new)) items [] (so_far.chunks before len) (omega arith) tt;
        like = λ before len h i.
            ap (λ (l : List (List ℕ)). distinct nat_eq (literal_ends_of l h i)) (strings_append (before ++ new) items ([] ∷ []))
            ∙ like_then (node_strings (before ++ new) items) so_far.met ([] ∷ []) ([] ∷ []) (so_far.like before len) (λ g k. refl) h i;
      }

  -- a string that ends, and a match unless there is one already
  pub match_next : (flag : Bool) → matched ≡ flag → (rest : List (List ℕ)) (items2 : List (List Edge)) → left ≡ [] ∷ rest →
      items2 ≡ (if flag then items else items ++ [] ∷ []) → Listing first old new items2 rest true all
  match_next true m rest items2 e is = let P : List (List Edge) → Type 0 = λ xs. Listing first old new xs rest true all in
      subst P (sym is) (match_again rest m e)
  match_next false m rest items2 e is = let P : List (List Edge) → Type 0 = λ xs. Listing first old new xs rest true all in
      subst P (sym is) (match_pushed rest m e)

  -- a run of strings that do not end here
  chunk_pushed : (more : List (List (List ℕ))) (edges : List Edge) (run rest : List (List ℕ)) → left ≡ run ++ rest → NoneEnds run →
      IsEnded rest → 1 ≤ length run → AddsGroups new more (length edges) run →
      ((before : List (List (List ℕ))) → length before ≡ first → IsChunk first (before ++ more) edges run) →
      Listing first old more (items ++ edges ∷ []) rest false all
  chunk_pushed more edges run rest e none ended some adds chunk =
      let P : List (List ℕ) → Type 0 = IsEnded in
      let parted_here : length items ≤ 2 * matches_in items = parted_by matched (length items) (matches_in items) so_far.parted
      (λ f. ⊎_elim (λ (zero : length items ≡ 0). zero) (λ (h : IsEnded left). absurd (not_ended run rest none some (subst P e h)))
      (so_far.turned f)) in
      let long : length more ≡ length new + length adds.added = ap length adds.is ∙ length-append new adds.added in
      let an_edge : 1 ≤ length edges = chunk_some first (replicate first []
      ++ more) edges run (chunk (replicate first []) (length-replicate first [])) none some in
      let wider : (before : List (List (List ℕ))) → before ++ more ≡ (before ++ new) ++ adds.added =
      λ before. ap (λ (l : List (List (List ℕ))). before ++ l) adds.is ∙ sym (append_assoc before new adds.added) in
      let longer : (before : List (List (List ℕ))) → length (before ++ new) ≤ length (before ++ more) =
      λ before. omega (arith, length-append before new, length-append before more, long) in
      record {
        met = so_far.met ++ run;
        split = append_assoc so_far.met run rest ∙ ap (λ (l : List (List ℕ)). so_far.met ++ l) (sym e) ∙ so_far.split;
        added = so_far.added ++ adds.added;
        is = adds.is ∙ ap (λ (l : List (List (List ℕ))). l ++ adds.added) so_far.is ∙ append_assoc old so_far.added adds.added;
        one_each = omega (arith, so_far.one_each, adds.one_each, edges_append items (edges ∷ []), length-append so_far.added adds.added);
        some_added = all_some_append so_far.added adds.added so_far.some_added adds.some;
        some = λ l. omega (arith, length-append items (edges ∷ []));
        some_matched = λ t. absurd (cc);
        room = omega (arith, so_far.room, adds.room, bytes_append so_far.met run);
        no_more = omega (
          arith,
          so_far.no_more,
          adds.no_more,
          length-append so_far.met run,
          matches_append items (edges ∷ []),
          no_match edges an_edge,
        );
        few = omega (
          arith,
          one_at_most matched (length items) (chunks_in items) so_far.few,
          length-append items (edges ∷ []),
          chunks_append items (edges ∷ []),
          one_chunk edges an_edge,
        );
        parted = omega (
          arith,
          parted_here,
          length-append items (edges ∷ []),
          matches_append items (edges ∷ []),
          no_match edges an_edge,
        );
        turned = λ t. inr ended;
        twice = λ t. absurd (cc);
        chunks = λ before len.
            are_pushed first (length (before ++ more)) items edges (are_wider first (length (before ++ new)) first
            (length (before ++ more)) items (so_far.chunks before len) (omega arith) (longer before))
            (chunk before len).ascends (chunk before len).inside;
        like = λ before len h i.
            ap (λ (l : List (List ℕ)). distinct nat_eq (literal_ends_of l h i)) (strings_append (before ++ more) items (edges ∷ []))
            ∙ like_then (node_strings (before ++ more) items) so_far.met (node_strings (before ++ more) (edges ∷ [])) run
            (λ g k. ap (λ (l : List (List ℕ)). distinct nat_eq (literal_ends_of l g k))
            (ap (λ (gs : List (List (List ℕ))). node_strings gs items) (wider before)
            ∙ strings_kept (before ++ new) adds.added first (length (before ++ new)) items (so_far.chunks before len) (omega arith))
            ∙ so_far.like before len g k)
            (λ g k. ap (λ (l : List (List ℕ)). literal_ends_of l g k) (append-nil (item_strings (before ++ more) edges)
            ∙ item_chunk (before ++ more) edges an_edge)
            ∙ same_ends (chunk_strings (before ++ more) edges) run (chunk_none_end (before ++ more) edges) none
            (chunk before len).same_tails g k) h i;
      }

  pub chunk_next : (more : List (List (List ℕ))) (items2 : List (List Edge)) (edges : List Edge) (run rest : List (List ℕ)) →
      IsTurn left run rest → (b : ℕ) (w : List ℕ) → get_or run 0 [] ≡ b ∷ w → 1 ≤ length run →
      items2 ≡ items ++ edges ∷ [] → AddsGroups new more (length edges) run →
      ((before : List (List (List ℕ))) → length before ≡ first → IsChunk first (before ++ more) edges run) →
      Listing first old more items2 rest false all
  chunk_next more items2 edges run rest t b w here some is adds chunk =
      let P : List (List Edge) → Type 0 = λ xs. Listing first old more xs rest false all in
      subst P (sym is) (chunk_pushed more edges run rest (sym t.split)
      (t.none_ends b w (drop 1 run) (first_of run (b ∷ w) some here)) (t.stops b w (drop 1 run) (first_of run (b ∷ w) some here)) some
      adds chunk)

  pub match_here : (flag : Bool) → matched ≡ flag → (run rest : List (List ℕ)) (items2 : List (List Edge)) → IsTurn left run rest →
      get_or run 0 [] ≡ [] → 1 ≤ length run →
      items2 ≡ (if flag then items else items ++ [] ∷ []) → Listing first old new items2 rest true all
  match_here flag m run rest items2 t here some is =
      let e : run ≡ [] ∷ drop 1 run = first_of run [] some here in
      let f : run ≡ [] ∷ [] = e ∙ ap (λ (l : List (List ℕ)). [] ∷ l) (t.ended (drop 1 run) e) in
      match_next flag m rest items2 (sym t.split ∙ ap (λ (l : List (List ℕ)). l ++ rest) f) is
