-- Trees are split into parts that have the same ends.
use Rattle.std.proofs.Common.{◌≡◌, ℕ, zero, suc, ◌+◌, ◌-◌, ◌<◌, Bool, true, false, not, List, [], ◌∷◌, ◌++◌, length, drop, All}
use Rattle.std.proofs.Common.{map}
use Rattle.std.proofs.Common.{Global, Vec, slice_get, reverse, Some, None, Option, refl, sym, ap, subst, ◌∙◌, arith, get_or, if◌then◌else◌, true≢false}
use Rattle.std.specs.List.{flat_map}
use Rattle.std.proofs.lemmas.List.{append-nil, drop_all, drop_more, reverse-append}
use Rattle.std.proofs.lemmas.Option.{get_or_from_slice_get}
use Rattle.search_core.specs.ByteSets.{has}
use Rattle.hir_core.specs.Tree.{Tree, alternation, capture, cat, concat, empty, literal, nothing, repetition}
use Rattle.hir_core.specs.Means.{Looks, stands}
use Rattle.hir_core.specs.PreferredEnds.{Ends, at_least, between, preferred_ends, repeated, up_to}
use Rattle.hir_core.proofs.ForCallers.{flat_map-flat_map}
use Rattle.meta_regex.specs.Parts.{AreDecided, AreParts, HasEndsOf, IsDecided, IsPart, Shun}
use Rattle.meta_regex.specs.Runs.{AreRoundsOf}
use Rattle.meta_regex.specs.Splitting.{IsBeginning, IsDisjoint, PutsParts, PutsRounds, begins_outside}
use Rattle.meta_regex.specs.declared.parts.Part.{Part}
use Rattle.meta_regex.specs.declared.parts.Part.TheVariants.{Literal, Rounds, OneOf}
use Rattle.meta_regex.specs.declared.splitting.Beginning.TheVariants.{Never, Empty}
use Rattle.meta_regex.specs.declared.runs.Run.{Run}
use Rattle.meta_regex.proofs.FirstByteLemmas.{byte_below, first_of_rest, rest_stands}
use Rattle.meta_regex.proofs.RoundLemmas.{each_one}
use Rattle.meta_regex.proofs.RunLemmas.{no_round}

-- ---- trees with the same ends
same_cat : (x z y : Tree) → HasEndsOf x z → HasEndsOf (cat x y) (cat z y)
same_cat x z y is = record { same = λ looks h i. ap (λ (l : List ℕ). flat_map (preferred_ends looks h y) l) (is.same looks h i) }

same_twice : (x y z : Tree) → HasEndsOf x y → HasEndsOf y z → HasEndsOf x z
same_twice x y z first second = record { same = λ looks h i. first.same looks h i ∙ second.same looks h i }

are_same : (ps : List Part) (x z : Tree) → HasEndsOf z x → AreParts ps x → AreParts ps z
are_same [] x z is are = same_twice z x nothing is are
are_same (p ∷ ps) x z is are = (are.0, are.1, are.2, are.3, same_twice z x (cat are.0 are.1) is are.4)

puts_same : (x z : Tree) (old new : List Part) → HasEndsOf z x → PutsParts x old new → PutsParts z old new
puts_same x z old new is it = record {
  puts = λ y are. are_same (reverse new) (cat x y) (cat z y) (same_cat z x y is) (it.puts y are);
  apart = it.apart;
}

pub puts_group : (index : ℕ) (name : Option (List ℕ)) (x : Tree) (old new : List Part) → PutsParts x old new → PutsParts (capture index name x) old new
puts_group index name x old new it = puts_same x (capture index name x) old new (record { same = λ looks h i. refl }) it

-- ---- no part
after_nothing : (x y : Tree) → ((looks : Looks) (h : List ℕ) (i : ℕ) → preferred_ends looks h x i ≡ i ∷ []) → HasEndsOf (cat x y) y
after_nothing x y none = record {
  same = λ looks h i.
      ap (λ (l : List ℕ). flat_map (preferred_ends looks h y) l) (none looks h i) ∙ append-nil (preferred_ends looks h y i);
}

pub puts_empty : (old : List Part) → PutsParts empty old old
puts_empty old = record {
  puts = λ y are. are_same (reverse old) y (cat empty y) (after_nothing empty y (λ looks h i. refl)) are;
  apart = λ apart. apart;
}

puts_nothing : (old : List Part) → PutsParts nothing old old
puts_nothing old = record {
  puts = λ y are. are_same (reverse old) y (cat nothing y) (after_nothing nothing y (λ looks h i. refl)) are;
  apart = λ apart. apart;
}

pub puts_none : (xs : List Tree) (old : List Part) → PutsParts (concat (drop (length xs) xs)) old old
puts_none xs old = subst (λ (l : List Tree). PutsParts (concat l) old old) (sym (drop_all (length xs) xs (omega arith))) (puts_nothing old)

-- ---- one part
module _ (p : Part) (x : Tree) (is : IsPart p x) (old new : List Part) (apart : IsDecided p (reverse old)) (put : new ≡ old ++ p ∷ []) where
  turned : reverse new ≡ p ∷ reverse old
  turned = ap (λ (l : List Part). reverse l) put ∙ reverse-append old (p ∷ [])

  puts_part : PutsParts x old new
  puts_part = record {
    puts = λ y are. subst (λ (l : List Part). AreParts l (cat x y)) (sym turned) (x, y, is, are, record { same = λ looks h i. refl });
    apart = λ others. subst (λ (l : List Part). AreDecided l) (sym turned) (apart, others);
  }

pub puts_literal : (copy : Vec ℕ Global) (bytes : List ℕ) → copy.items ≡ bytes → (old new : List Part) → new ≡ old ++ (Literal copy) ∷ [] →
    PutsParts (literal bytes) old new
puts_literal copy bytes is old new put =
    puts_part (Literal copy) (literal bytes)
    (record { same = λ looks h i. ap (λ (l : List ℕ). preferred_ends looks h (literal l) i) (sym is) }) old new tt put

-- where nothing follows
pub puts_one_of : (texts : Vec (Vec ℕ Global) Global) (trees : List Tree) → map (λ t. literal t.items) texts.items ≡ trees →
    (old new : List Part) → old ≡ [] → new ≡ old ++ (OneOf texts) ∷ [] → PutsParts (alternation trees) old new
puts_one_of texts trees are old new none put =
    puts_part (OneOf texts) (alternation trees)
    (record { same = λ looks h i. ap (λ (xs : List Tree). preferred_ends looks h (alternation xs) i) (sym are) }) old new
    (ap (λ (l : List Part). reverse l) none) put

pub puts_repetition : (least : ℕ) (most : Option ℕ) (body : Tree) (old new : List Part) → PutsRounds least most body old new →
    PutsParts (repetition least most true body) old new
puts_repetition least most body old new it =
    puts_part (Rounds it.run most) (repetition least most true body)
    (record {
      body = body;
      rounds = it.rounds;
      ends = λ looks h i. ap (λ (n : ℕ). repeated h n most true (preferred_ends looks h body) i) (sym it.least_is);
    })
    old new it.apart it.is

pub puts_class : (x : Tree) (old new : List Part) → PutsRounds 1 (Some 1) x old new → PutsParts x old new
puts_class x old new it =
    puts_part (Rounds it.run (Some 1)) x
    (record {
      body = x;
      rounds = it.rounds;
      ends = λ looks h i.
          sym (each_one (between true (preferred_ends looks h x) 0 0) (preferred_ends looks h x i) (λ k. refl))
          ∙ ap (λ (n : ℕ). repeated h n (Some 1) true (preferred_ends looks h x) i) (sym it.least_is);
    })
    old new it.apart it.is

-- ---- parts of a concatenation, from the last to the first
puts_first : (x y : Tree) (old parts new : List Part) → PutsParts y old parts → PutsParts x parts new → PutsParts (cat x y) old new
puts_first x y old parts new rest first = record {
  puts = λ z are.
      are_same (reverse new) (cat x (cat y z)) (cat (cat x y) z)
      (record {
        same = λ looks h i. flat_map-flat_map (preferred_ends looks h z) (preferred_ends looks h y) (preferred_ends looks h x i);
      })
      (first.puts (cat y z) (rest.puts z are));
  apart = λ apart. first.apart (rest.apart apart);
}

pub puts_more : (xs : List Tree) (x : Tree) (m n : ℕ) (old parts new : List Part) → m + 1 ≡ n → m < length xs → x ≡ get_or xs m x →
    PutsParts (concat (drop n xs)) old parts → PutsParts x parts new → PutsParts (concat (drop m xs)) old new
puts_more xs x m n old parts new e within is rest first =
    let list : drop m xs ≡ x ∷ drop n xs =
    drop_more xs m x within ∙ ap (λ (y : Tree). y ∷ drop (m + 1) xs) (sym is) ∙ ap (λ (j : ℕ). x ∷ drop j xs) e in
    subst (λ (ys : List Tree). PutsParts (concat ys) old new) (sym list) (puts_first x (concat (drop n xs)) old parts new rest first)

-- ---- where parts begin
up_to_none : (f : Ends) (n i : ℕ) → f i ≡ [] → up_to true f n i ≡ i ∷ []
up_to_none f zero i none = refl
up_to_none f (suc n) i none = ap (λ (l : List ℕ). flat_map (up_to true f n) l ++ i ∷ []) none

repeated_none : (h : List ℕ) (f : Ends) (least : ℕ) (most : Option ℕ) (i : ℕ) → 0 < least → f i ≡ [] → repeated h least most true f i ≡ []
repeated_none h f zero most i some none = absurd (omega (arith, some))
repeated_none h f (suc least) None i some none = ap (λ (l : List ℕ). flat_map (at_least h true f least) l) none
repeated_none h f (suc least) (Some zero) i some none = refl
repeated_none h f (suc least) (Some (suc most)) i some none = ap (λ (l : List ℕ). flat_map (between true f least most) l) none

repeated_empty : (h : List ℕ) (f : Ends) (least : ℕ) (most : Option ℕ) (i : ℕ) → least ≡ 0 → f i ≡ [] → repeated h least most true f i ≡ i ∷ []
repeated_empty h f zero None i zero_is none = up_to_none f (length h - i) i none
repeated_empty h f zero (Some most) i zero_is none = up_to_none f most i none
repeated_empty h f (suc least) most i zero_is none = absurd (omega (arith, zero_is))

literal_not : (text : List ℕ) (set : List Bool) → begins_outside text set ≡ true → (h : List ℕ) (i b : ℕ) → slice_get h i ≡ Some b →
    has set b ≡ true → stands h i text ≡ false
literal_not [] set out h i b at in_set = absurd (true≢false (sym out))
literal_not (a ∷ text) set out h i b at in_set = by_test (stands h i (a ∷ text)) (λ there.
    let same : a ≡ b = some_same a b (sym (first_of_rest h i a _ (rest_stands h i (a ∷ text) there)) ∙ at) in
    true≢false (sym out ∙ ap (λ (t : Bool). not t) (ap (has set) same ∙ in_set)))
  where
    by_test : (t : Bool) → (t ≡ true → ⊥) → t ≡ false
    by_test true none = absurd (none refl)
    by_test false none = refl

    some_same : (a b : ℕ) → Some a ≡ Some b → a ≡ b
    some_same a b is = cc

module _ (set : List Bool) (h : List ℕ) (bytes : All (λ b. b < 256) h) (i b : ℕ) (at : slice_get h i ≡ Some b) (in_set : has set b ≡ true) where
  round_not : (r : Run) (body : Tree) → AreRoundsOf r body → IsDisjoint r.first set → (looks : Looks) → preferred_ends looks h body i ≡ []
  round_not r body it disjoint looks =
      no_round r body it h bytes looks i
      (λ within. ap (has r.first) (get_or_from_slice_get h i b 0 at) ∙ disjoint.apart b (byte_below h i b bytes at) in_set)

  never_there : (p : Part) → IsBeginning p set Never → (c : Tree) → IsPart p c → (looks : Looks) → preferred_ends looks h c i ≡ []
  never_there (Literal text) begins c is looks = is.same looks h i ∙ by_test (stands h i text.items) (literal_not text.items set begins h i b at in_set)
    where
      by_test : (t : Bool) → t ≡ false → (if t then (i + length text.items) ∷ [] else []) ≡ []
      by_test true is = cc
      by_test false is = refl
  never_there (OneOf texts) begins c is looks = elim begins [ ]
  never_there (Rounds r most) begins c is looks =
      is.ends looks h i ∙ repeated_none h _ r.least most i begins.0 (round_not r is.body is.rounds begins.1 looks)

  empty_there : (p : Part) → IsBeginning p set Empty → (c : Tree) → IsPart p c → (looks : Looks) → preferred_ends looks h c i ≡ i ∷ []
  empty_there (Literal text) begins c is looks = elim begins [ ]
  empty_there (OneOf texts) begins c is looks = elim begins [ ]
  empty_there (Rounds r most) begins c is looks =
      is.ends looks h i ∙ repeated_empty h _ r.least most i begins.0 (round_not r is.body is.rounds begins.1 looks)

-- the parts shun the set if the first of them never begins there, or is empty there and the others shun it
shuns_first : (p : Part) (ps : List Part) (set : List Bool) → IsBeginning p set Never → Shun (p ∷ ps) set
shuns_first p ps set begins = record {
  none = λ x are h bytes i b at in_set. record {
    none = λ looks.
        are.4.same looks h i
        ∙ ap (λ (l : List ℕ). flat_map (preferred_ends looks h are.1) l) (never_there set h bytes i b at in_set p begins are.0 are.2 looks);
  };
}

shuns_after : (p : Part) (ps : List Part) (set : List Bool) → IsBeginning p set Empty → Shun ps set → Shun (p ∷ ps) set
shuns_after p ps set begins shun = record {
  none = λ x are h bytes i b at in_set. record {
    none = λ looks.
        are.4.same looks h i
        ∙ ap (λ (l : List ℕ). flat_map (preferred_ends looks h are.1) l) (empty_there set h bytes i b at in_set p begins are.0 are.2 looks)
        ∙ append-nil (preferred_ends looks h are.1 i) ∙ (shun.none are.1 are.3 h bytes i b at in_set).none looks;
  };
}

-- of lists from the last part to the first
module _ (p : Part) (ps left : List Part) (is : left ≡ ps ++ p ∷ []) (set : List Bool) where
  turned_back : reverse left ≡ p ∷ reverse ps
  turned_back = ap (λ (l : List Part). reverse l) is ∙ reverse-append ps (p ∷ [])

  pub shuns_last : IsBeginning p set Never → Shun (reverse left) set
  shuns_last begins = subst (λ (l : List Part). Shun l set) (sym turned_back) (shuns_first p (reverse ps) set begins)

  pub shuns_before : IsBeginning p set Empty → Shun (reverse ps) set → Shun (reverse left) set
  shuns_before begins shun = subst (λ (l : List Part). Shun l set) (sym turned_back) (shuns_after p (reverse ps) set begins shun)

-- all parts of a tree
pub parts_all : (x : Tree) (parts all : List Part) → PutsParts x [] parts → all ≡ reverse parts → AreParts all x × AreDecided all
parts_all x parts all it is = (
  subst (λ (l : List Part). AreParts l x) (sym is)
      (are_same (reverse parts) (cat x nothing) x (record { same = λ looks h i. sym (each_one (preferred_ends looks h nothing) (preferred_ends looks h x i) (λ k. refl)) })
      (it.puts nothing (record { same = λ looks h i. refl }))),
  subst (λ (l : List Part). AreDecided l) (sym is) (it.apart tt),
)
