-- What is known of a tree's spans, from what is known of its parts'.
use Rattle.std.proofs.Common.{◌≡◌, ◌⊎◌, inl, inr, ℕ, zero, suc, ◌+◌, ◌<◌, ◌≤◌, Bool, true, false, List, ◌∷◌, length, get_or, drop, []}
use Rattle.std.proofs.Common.{refl, sym, ap, subst, ◌∙◌, arith, Option, Some, true≢false}
use Rattle.std.proofs.lemmas.List.{drop_more}
use Rattle.std.specs.List.{slice_range}
use Rattle.search_core.specs.Utf8.{Spells}
use Rattle.hir_core.specs.Tree.{Tree, byte_class, char_class, repetition, nothing, cat, alt, concat, alternation}
use Rattle.hir_core.specs.Means.{Looks, Means, Rounds, is_member}
use Rattle.hir_core.proofs.ForCallers.{span_forward}
use Rattle.literal_search.specs.Literals.{Listed, KeepsAll, ListsPrefixes, Crosses, BeginsBy, IsOneOf, ContainsOne}
use Rattle.literal_search.specs.Required.{Describes, IsRequired, IsJoined, IsUnion}
use Rattle.literal_search.specs.declared.required.Required.{Required}
use Rattle.literal_search.specs.declared.sets.Joined.{Joined}
use Rattle.literal_search.proofs.ListLemmas.{prefixes_of_keeps}
use Rattle.literal_search.proofs.StandLemmas.{empty_stands, byte_stands, part_stands, begins_of_one, contains_of_begins, begins_wider}
use Rattle.literal_search.proofs.StandLemmas.{contains_wider, begins_cut, contains_cut, one_kept, begins_crossed, one_crossed}

-- ---- joined lists
pub joined_whole : (first second : List (List ℕ)) (exact : Bool) (r : Joined) → Crosses first second r.literals → r.exact ≡ exact →
    IsJoined first second exact r
joined_whole first second exact r x e = record {
  begins = λ h i k j a b. begins_crossed first second r.literals h i k j x a b;
  exactly = λ h i k j is a b. one_crossed first second r.literals h i k j x a (b (sym e ∙ is));
}

pub joined_cut : (first second short : List (List ℕ)) (exact : Bool) (r : Joined) → ListsPrefixes second short →
    Crosses first short r.literals → r.exact ≡ false → IsJoined first second exact r
joined_cut first second short exact r p x e = record {
  begins = λ h i k j a b. begins_crossed first short r.literals h i k j x a (begins_cut second short h k j p b);
  exactly = λ h i k j is a b. absurd (true≢false (sym is ∙ e));
}

pub union_whole : (first second : List (List ℕ)) (exact : Bool) (r : Joined) → KeepsAll first r.literals → KeepsAll second r.literals →
    r.exact ≡ exact → IsUnion first second exact r
union_whole first second exact r a b e = record {
  first_kept = prefixes_of_keeps first r.literals a;
  second_kept = prefixes_of_keeps second r.literals b;
  exactly = λ is. (sym e ∙ is, a, b);
}

-- ---- leaves
-- a list of one literal has it
only : (ls : List (List ℕ)) (l : List ℕ) → ls ≡ l ∷ [] → Listed ls l
only ls l e = subst (λ xs. Listed xs l) (sym e) (inl refl)

-- the literal without bytes begins everywhere
begins_empty : (ls : List (List ℕ)) (h : List ℕ) (i j : ℕ) → ls ≡ [] ∷ [] → i ≤ j → BeginsBy ls h i j
begins_empty ls h i j e f = record { literal = []; listed = only ls [] e; within = omega (arith, f); there = empty_stands h i }

pub unknown_required : (r : Required) → r.begins ≡ [] ∷ [] → r.exact ≡ false → r.inside ≡ [] ∷ [] → (x : Tree) → IsRequired r x
unknown_required r b e n x = record {
  describes = λ looks h i j m. record {
    begins = begins_empty r.begins h i j b (span_forward looks h x i j m);
    exact = λ is. absurd (true≢false (sym is ∙ e));
    inside = contains_of_begins r.inside h i j (begins_empty r.inside h i j n (span_forward looks h x i j m));
  };
}

-- a span that is a literal of both lists
described_by : (r : Required) (h : List ℕ) (i j : ℕ) → IsOneOf r.begins h i j → IsOneOf r.inside h i j → Describes r h i j
described_by r h i j b n = record {
  begins = begins_of_one r.begins h i j b;
  exact = λ _. b;
  inside = contains_of_begins r.inside h i j (begins_of_one r.inside h i j n);
}

pub bytes_required : (r : Required) (ranges : List (ℕ × ℕ)) → ((b : ℕ) → is_member ranges b ≡ true → Listed r.begins (b ∷ [])) →
    ((b : ℕ) → is_member ranges b ≡ true → Listed r.inside (b ∷ [])) → IsRequired r (byte_class ranges)
bytes_required r ranges b n = record {
  describes = λ looks h i j m. described_by r h i j
      (record { literal = m.1 ∷ []; listed = b m.1 m.3; ends = m.0; there = byte_stands h i m.1 m.2 })
      (record { literal = m.1 ∷ []; listed = n m.1 m.3; ends = m.0; there = byte_stands h i m.1 m.2 });
}

pub chars_required : (r : Required) (ranges : List (ℕ × ℕ)) →
    ((c : ℕ) (s : List ℕ) → is_member ranges c ≡ true → Spells c s → Listed r.begins s) →
    ((c : ℕ) (s : List ℕ) → is_member ranges c ≡ true → Spells c s → Listed r.inside s) → IsRequired r (char_class ranges)
chars_required r ranges b n = record {
  describes = λ looks h i j m.
      let part = part_stands h i j m.forward m.within in
      described_by r h i j
      (record { literal = slice_range h i j; listed = b m.scalar (slice_range h i j) m.member m.spells; ends = part.1; there = part.0 })
      (record { literal = slice_range h i j; listed = n m.scalar (slice_range h i j) m.member m.spells; ends = part.1; there = part.0 });
}

-- ---- repetitions
rounds_forward : (looks : Looks) (h : List ℕ) (x : Tree) (n i j : ℕ) → Rounds (Means looks h x) n i j → i ≤ j
rounds_forward looks h x zero i j r = omega (arith, r)
rounds_forward looks h x (suc n) i j r = omega (arith, span_forward looks h x i r.0 r.1, rounds_forward looks h x n r.0 j r.2)

owed_some : (min n : ℕ) → 0 < min → min ≤ n → (k : ℕ) × (n ≡ suc k)
owed_some min zero p l = absurd (omega (arith, p, l))
owed_some min (suc n) p l = (n, refl)

pub many_required : (body r : Required) (min : ℕ) (max : Option ℕ) (greedy : Bool) (x : Tree) → 0 < min → r.begins ≡ body.begins →
    r.exact ≡ false → r.inside ≡ body.inside → IsRequired body x → IsRequired r (repetition min max greedy x)
many_required body r min max greedy x owed b e n q = record {
  describes = λ looks h i j m.
      let some = owed_some min m.0 owed m.1 in
      let rounds = subst (λ k. Rounds (Means looks h x) k i j) some.1 m.3 in
      let late = rounds_forward looks h x some.0 rounds.0 j rounds.2 in
      let first = q.describes looks h i rounds.0 rounds.1 in
      record {
        begins = subst (λ ls. BeginsBy ls h i j) (sym b) (begins_wider body.begins h i rounds.0 j late first.begins);
        exact = λ is. absurd (true≢false (sym is ∙ e));
        inside = subst (λ ls. ContainsOne ls h i j) (sym n) (contains_wider body.inside h i i rounds.0 j (omega arith) late first.inside);
      };
}

-- one round at most: the body, or nothing
optional_means : (looks : Looks) (h : List ℕ) (x : Tree) (n i j : ℕ) → n ≤ 1 → Rounds (Means looks h x) n i j → Means looks h x i j ⊎ (i ≡ j)
optional_means looks h x zero i j l r = inr r
optional_means looks h x (suc zero) i j l r = inl (subst (λ k. Means looks h x i k) r.2 r.1)
optional_means looks h x (suc (suc n)) i j l r = absurd (omega (arith, l))

pub optional_required : (r : Required) (min : ℕ) (greedy : Bool) (x : Tree) → IsRequired r (alt x nothing) →
    IsRequired r (repetition min (Some 1) greedy x)
optional_required r min greedy x q =
    record { describes = λ looks h i j m. q.describes looks h i j (optional_means looks h x m.0 i j m.2 m.3) }

-- ---- concatenations
either_inside : (r first second : List (List ℕ)) (h : List ℕ) (i k j : ℕ) → (r ≡ first) ⊎ (r ≡ second) → i ≤ k → k ≤ j →
    ContainsOne first h i k → ContainsOne second h k j → ContainsOne r h i j
either_inside r first second h i k j w low high a b = elim w [
  | inl e ↦ subst (λ ls. ContainsOne ls h i j) (sym e) (contains_wider first h i i k j (omega arith) high a)
  | inr e ↦ subst (λ ls. ContainsOne ls h i j) (sym e) (contains_wider second h i k j j low (omega arith) b)
]

-- the literals inside are those of one part, or those with which both begin
whole_inside : (r inner whole : List (List ℕ)) (h : List ℕ) (i j : ℕ) → (r ≡ inner) ⊎ (r ≡ whole) → ContainsOne inner h i j →
    BeginsBy whole h i j → ContainsOne r h i j
whole_inside r inner whole h i j w a b = elim w [
  | inl e ↦ subst (λ ls. ContainsOne ls h i j) (sym e) a
  | inr e ↦ subst (λ ls. ContainsOne ls h i j) (sym e) (contains_of_begins whole h i j b)
]

pub followed_required : (first second r : Required) (both : Joined) (inner whole : List (List ℕ)) → first.exact ≡ true →
    IsJoined first.begins second.begins second.exact both → r.begins ≡ both.literals → r.exact ≡ both.exact → KeepsAll both.literals whole →
    (inner ≡ first.inside) ⊎ (inner ≡ second.inside) → (r.inside ≡ inner) ⊎ (r.inside ≡ whole) →
    (x y : Tree) → IsRequired first x → IsRequired second y → IsRequired r (cat x y)
followed_required first second r both inner whole exact is b e k w n x y p q = record {
  describes = λ looks h i j m.
      let low = span_forward looks h x i m.0 m.1 in
      let high = span_forward looks h y m.0 j m.2 in
      let a = p.describes looks h i m.0 m.1 in
      let c = q.describes looks h m.0 j m.2 in
      let begun = is.begins h i m.0 j (a.exact exact) c.begins in
      record {
        begins = subst (λ ls. BeginsBy ls h i j) (sym b) begun;
        exact = λ sure. subst (λ ls. IsOneOf ls h i j) (sym b) (is.exactly h i m.0 j (sym e ∙ sure) (a.exact exact) c.exact);
        inside = whole_inside r.inside inner whole h i j n
            (either_inside inner first.inside second.inside h i m.0 j w low high a.inside c.inside)
            (begins_cut both.literals whole h i j (prefixes_of_keeps both.literals whole k) begun);
      };
}

-- ---- alternations

pub either_required : (first second r : Required) (exact loose : Bool) (begins inside : Joined) →
    (exact ≡ true → (first.exact ≡ true) × (second.exact ≡ true)) →
    IsUnion first.begins second.begins exact begins → IsUnion first.inside second.inside loose inside → r.begins ≡ begins.literals →
    r.exact ≡ begins.exact → r.inside ≡ inside.literals → (x y : Tree) → IsRequired first x → IsRequired second y → IsRequired r (alt x y)
either_required first second r exact loose begins inside both u v b e n x y p q =
    record { describes = λ looks h i j m. elim m [ inl a ↦ left looks h i j a | inr a ↦ right looks h i j a ] }
  where
    left : (looks : Looks) (h : List ℕ) (i j : ℕ) → Means looks h x i j → Describes r h i j
    left looks h i j m =
        let a = p.describes looks h i j m in
        record {
          begins = subst (λ ls. BeginsBy ls h i j) (sym b) (begins_cut first.begins begins.literals h i j u.first_kept a.begins);
          exact = λ sure.
              let sides = u.exactly (sym e ∙ sure) in
              subst (λ ls. IsOneOf ls h i j) (sym b) (one_kept first.begins begins.literals h i j sides.1 (a.exact (both sides.0).0));
          inside = subst (λ ls. ContainsOne ls h i j) (sym n) (contains_cut first.inside inside.literals h i j v.first_kept a.inside);
        }

    right : (looks : Looks) (h : List ℕ) (i j : ℕ) → Means looks h y i j → Describes r h i j
    right looks h i j m =
        let a = q.describes looks h i j m in
        record {
          begins = subst (λ ls. BeginsBy ls h i j) (sym b) (begins_cut second.begins begins.literals h i j u.second_kept a.begins);
          exact = λ sure.
              let sides = u.exactly (sym e ∙ sure) in
              subst (λ ls. IsOneOf ls h i j) (sym b) (one_kept second.begins begins.literals h i j sides.2 (a.exact (both sides.0).1));
          inside = subst (λ ls. ContainsOne ls h i j) (sym n) (contains_cut second.inside inside.literals h i j v.second_kept a.inside);
        }

-- ---- loops over parts, from the last to the first
pub concat_more : (r : Required) (xs : List Tree) (x : Tree) (m n : ℕ) → m + 1 ≡ n → m < length xs → x ≡ get_or xs m x →
    IsRequired r (cat x (concat (drop n xs))) → IsRequired r (concat (drop m xs))
concat_more r xs x m n e w is q =
    let parts : drop m xs ≡ x ∷ drop n xs =
    drop_more xs m x w ∙ ap (λ y. y ∷ drop (m + 1) xs) (sym is) ∙ ap (λ j. x ∷ drop j xs) e in
    subst (λ ys. IsRequired r (concat ys)) (sym parts) q

pub alternation_more : (r : Required) (xs : List Tree) (x : Tree) (m n : ℕ) → m + 1 ≡ n → m < length xs → x ≡ get_or xs m x →
    IsRequired r (alt x (alternation (drop n xs))) → IsRequired r (alternation (drop m xs))
alternation_more r xs x m n e w is q =
    let parts : drop m xs ≡ x ∷ drop n xs =
    drop_more xs m x w ∙ ap (λ y. y ∷ drop (m + 1) xs) (sym is) ∙ ap (λ j. x ∷ drop j xs) e in
    subst (λ ys. IsRequired r (alternation ys)) (sym parts) q
