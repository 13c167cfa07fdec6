-- What is read of parts is the preferred end of their trees, or that these have none.
use Rattle.std.proofs.Common.{◌≡◌, ℕ, zero, suc, ◌+◌, ◌-◌, ◌<◌, ◌≤◌, ◌⊎◌, inl, inr, Bool, true, false, List, [], ◌∷◌, ◌++◌, length, All}
use Rattle.std.proofs.Common.{Global, Vec}
use Rattle.std.proofs.Common.{Some, None, Option, refl, sym, ap, subst, ◌∙◌, arith, get_or, if◌then◌else◌}
use Rattle.std.specs.List.{flat_map}
use Rattle.std.proofs.lemmas.Bool.{cases_lt}
use Rattle.std.proofs.lemmas.Option.{none-some, slice_get-get_or}
use Rattle.hir_core.specs.Tree.{Tree, literal, cat}
use Rattle.hir_core.specs.Means.{Looks, stands}
use Rattle.hir_core.specs.PreferredEnds.{Ends, Has, at_least, between, preferred_ends, repeated, up_to}
use Rattle.hir_core.proofs.ForCallers.{Has-append}
use Rattle.meta_regex.specs.Parts.{AreDecided, AreParts, AreRounds, HasEndsOf, HasNoEndAt, IsDecided, IsBounded, GoesNoFurther, AllowsMore, IsPart, IsStretch}
use Rattle.meta_regex.specs.Parts.{ReadsPart, first_end, any_text}
use Rattle.meta_regex.specs.Runs.{PrefersEnd}
use Rattle.meta_regex.specs.Sequences.{IsLastStart}
use Rattle.meta_regex.specs.declared.parts.Part.{Part}
use Rattle.meta_regex.specs.declared.parts.Part.TheVariants.{Literal, Rounds, OneOf}
use Rattle.meta_regex.specs.declared.parts.Read.TheVariants.{To, Missing}
use Rattle.meta_regex.specs.declared.runs.Run.{Run}
use Rattle.meta_regex.proofs.RunLemmas.{Led, no_round, one_round, too_few}

-- ---- lists of ends
-- a list of ends, the first of them, and that the others are before it, from a least one on
pub record Leads (ends : List ℕ) (low e : ℕ) : Type 0 where
  pub others : List ℕ
  pub is : ends ≡ e ∷ others
  pub before : (k : ℕ) → Has others k → (low ≤ k) × (k < e)

none_of : (f : ℕ → List ℕ) (xs : List ℕ) → ((k : ℕ) → Has xs k → f k ≡ []) → flat_map f xs ≡ []
none_of f [] none = refl
none_of f (x ∷ xs) none = ap (λ (l : List ℕ). l ++ flat_map f xs) (none x (inl refl)) ∙ none_of f xs (λ k here. none k (inr here))

-- ---- rounds that are a byte each, up to an offset
module _ (f : Ends) (e : ℕ) (a : ℕ) (one : (k : ℕ) → a ≤ k → k < e → f k ≡ (k + 1) ∷ []) where
  one_before : (low k : ℕ) → low ≤ k → k < e → (others : List ℕ) → ((m : ℕ) → Has others m → (k + 1 ≤ m) × (m < e)) →
      (m : ℕ) → Has ((others ++ []) ++ k ∷ []) m → (low ≤ m) × (m < e)
  one_before low k under less others before m here = elim (Has-append (others ++ []) (k ∷ []) m here) [
    | inl more ↦ elim (Has-append others [] m more) [
      | inl other ↦ let so = before m other in (omega (arith, under, so.0), so.1)
      | inr none ↦ elim none [ ]
    ]
    | inr (inl is) ↦ (omega (arith, under, is), omega (arith, less, is))
    | inr (inr none) ↦ elim none [ ]
  ]

  up_to_leads : (n k : ℕ) → a ≤ k → k ≤ e → e ≤ k + n → (e < k + n → f e ≡ []) → Leads (up_to true f n k) k e
  up_to_leads zero k low high room stop = record {
    others = [];
    is = ap (λ (m : ℕ). m ∷ []) (omega (arith, high, room));
    before = λ m none. elim none [ ];
  }
  up_to_leads (suc n) k low high room stop = elim (cases_lt k e) [
    | inl less ↦
        let rest = up_to_leads n (k + 1) (omega (arith, low)) (omega (arith, less)) (omega (arith, room)) (λ more. stop (omega (arith, more))) in
        record {
          others = (rest.others ++ []) ++ k ∷ [];
          is = ap (λ (l : List ℕ). flat_map (up_to true f n) l ++ k ∷ []) (one k low less) ∙ ap (λ (l : List ℕ). (l ++ []) ++ k ∷ []) rest.is;
          before = one_before k k (omega arith) less rest.others rest.before;
        }
    | inr above ↦
        let here : k ≡ e = omega (arith, high, above) in
        record {
          others = [];
          is = ap (λ (m : ℕ). flat_map (up_to true f n) (f m) ++ k ∷ []) here
              ∙ ap (λ (l : List ℕ). flat_map (up_to true f n) l ++ k ∷ []) (stop (omega (arith, here))) ∙ ap (λ (m : ℕ). m ∷ []) here;
          before = λ m none. elim none [ ];
        }
  ]

  -- what follows one round
  one_more : (g : Ends) (k low : ℕ) → f k ≡ (k + 1) ∷ [] → Leads (g (k + 1)) low e → Leads (flat_map g (f k)) low e
  one_more g k low is rest = record {
    others = rest.others ++ [];
    is = ap (λ (l : List ℕ). flat_map g l) is ∙ ap (λ (l : List ℕ). l ++ []) rest.is;
    before = λ m here. elim (Has-append rest.others [] m here) [ inl other ↦ rest.before m other | inr none ↦ elim none [ ] ];
  }

  lower : (ends : List ℕ) (low to : ℕ) → low ≡ to → Leads ends low e → Leads ends to e
  lower ends low to is leads = subst (λ (n : ℕ). Leads ends n e) is leads

  at_least_leads : (h : List ℕ) → e ≤ length h → f e ≡ [] → (least k : ℕ) → a ≤ k → k + least ≤ e →
      Leads (at_least h true f least k) (k + least) e
  at_least_leads h within stop zero k low room =
      lower _ k (k + 0) (omega arith)
      (up_to_leads (length h - k) k low (omega (arith, room)) (omega (arith, within, room)) (λ more. stop))
  at_least_leads h within stop (suc least) k low room =
      lower _ (k + 1 + least) (k + suc least) (omega arith)
      (one_more (at_least h true f least) k (k + 1 + least) (one k low (omega (arith, room)))
      (at_least_leads h within stop least (k + 1) (omega (arith, low)) (omega (arith, room))))

  between_leads : (least most k : ℕ) → a ≤ k → k + least ≤ e → e ≤ k + most → (e < k + most → f e ≡ []) →
      Leads (between true f least most k) (k + least) e
  between_leads zero most k low room high stop =
      lower _ k (k + 0) (omega arith) (up_to_leads most k low (omega (arith, room)) high stop)
  between_leads (suc least) zero k low room high stop = absurd (omega (arith, room, high))
  between_leads (suc least) (suc most) k low room high stop =
      lower _ (k + 1 + least) (k + suc least) (omega arith)
      (one_more (between true f least most) k (k + 1 + least) (one k low (omega (arith, room)))
      (between_leads least most (k + 1) (omega (arith, low)) (omega (arith, room)) (omega (arith, high)) (λ more. stop (omega (arith, more)))))

  too_few_between : (least most k : ℕ) → a ≤ k → k ≤ e → e < k + least → e ≤ k + most → (e < k + most → f e ≡ []) →
      between true f least most k ≡ []
  too_few_between zero most k low high short room stop = absurd (omega (arith, high, short))
  too_few_between (suc least) zero k low high short room stop = refl
  too_few_between (suc least) (suc most) k low high short room stop = elim (cases_lt k e) [
    | inl less ↦
        ap (λ (l : List ℕ). flat_map (between true f least most) l) (one k low less)
        ∙ ap (λ (l : List ℕ). l ++ []) (too_few_between least most (k + 1) (omega (arith, low)) (omega (arith, less)) (omega (arith, short))
        (omega (arith, room)) (λ more. stop (omega (arith, more))))
    | inr above ↦
        let here : k ≡ e = omega (arith, high, above) in
        ap (λ (m : ℕ). flat_map (between true f least most) (f m)) here
        ∙ ap (λ (l : List ℕ). flat_map (between true f least most) l) (stop (omega (arith, here)))
  ]

-- ---- rounds of a class
module _ (r : Run) (most : Option ℕ) (c : Tree) (it : AreRounds r most c) (h : List ℕ) (bytes : All (λ b. b < 256) h) (looks : Looks)
    (i e : ℕ) (stretch : IsStretch r most h i e) (closed : GoesNoFurther r most h i e) where
  abbrev round : Ends
  round = preferred_ends looks h it.body

  one_each : (k : ℕ) → i ≤ k → k < e → round k ≡ (k + 1) ∷ []
  one_each k low high =
      one_round r it.body it.rounds h bytes looks k (omega (arith, high, stretch.high)) (stretch.members it.body it.rounds k low high)

  none_after : AllowsMore most i e → round e ≡ []
  none_after more = no_round r it.body it.rounds h bytes looks e (closed more)

  rounds_by : (o : Option ℕ) → o ≡ most → (k : ℕ) → i ≤ k → (most ≡ None ⊎ (k ≡ i)) → k + r.least ≤ e →
      Leads (repeated h r.least o true round k) (k + r.least) e
  rounds_by None is k low first room =
      at_least_leads round e i one_each h stretch.high (none_after (subst (λ (o : Option ℕ). AllowsMore o i e) is tt)) r.least k low room
  rounds_by (Some m) is k low (inl none) room = absurd (cc (is, none))
  rounds_by (Some m) is k low (inr here) room =
      between_leads round e i one_each r.least m k low room
      (subst (λ (n : ℕ). e ≤ n + m) (sym here) (subst (λ (o : Option ℕ). IsBounded o i e) (sym is) stretch.bound))
      (λ more. none_after (subst (λ (o : Option ℕ). AllowsMore o i e) is (subst (λ (n : ℕ). e < n + m) here more)))

  few_by : (o : Option ℕ) → o ≡ most → (k : ℕ) → i ≤ k → (most ≡ None ⊎ (k ≡ i)) → k ≤ e → e < k + r.least →
      repeated h r.least o true round k ≡ []
  few_by None is k low first high short =
      too_few round i e one_each (none_after (subst (λ (o : Option ℕ). AllowsMore o i e) is tt)) h r.least k low high short
  few_by (Some m) is k low (inl none) high short = absurd (cc (is, none))
  few_by (Some m) is k low (inr here) high short =
      too_few_between round e i one_each r.least m k low high short
      (subst (λ (n : ℕ). e ≤ n + m) (sym here) (subst (λ (o : Option ℕ). IsBounded o i e) (sym is) stretch.bound))
      (λ more. none_after (subst (λ (o : Option ℕ). AllowsMore o i e) is (subst (λ (n : ℕ). e < n + m) here more)))

  rounds_lead : (k : ℕ) → i ≤ k → (most ≡ None ⊎ (k ≡ i)) → k + r.least ≤ e → Leads (preferred_ends looks h c k) (k + r.least) e
  rounds_lead k low first room =
      let led = rounds_by most refl k low first room in
      record { others = led.others; is = it.ends looks h k ∙ led.is; before = led.before }

  rounds_few : (k : ℕ) → i ≤ k → (most ≡ None ⊎ (k ≡ i)) → k ≤ e → e < k + r.least → preferred_ends looks h c k ≡ []
  rounds_few k low first high short = it.ends looks h k ∙ few_by most refl k low first high short

-- ---- a part and what follows it
module _ (x c y : Tree) (whole : HasEndsOf x (cat c y)) (h : List ℕ) (looks : Looks) (i e : ℕ) where
  abbrev after : Ends
  after = preferred_ends looks h y

  -- the preferred end of what follows is that of both
  first_of_both : (others : List ℕ) → preferred_ends looks h c i ≡ e ∷ others → (j : ℕ) (more : List ℕ) → after e ≡ j ∷ more →
      Led (preferred_ends looks h x i) j
  first_of_both others leads j more is = record {
    others = more ++ flat_map after others;
    is = whole.same looks h i ∙ ap (λ (l : List ℕ). flat_map after l) leads ∙ ap (λ (l : List ℕ). l ++ flat_map after others) is;
  }

  -- if what follows has no end, both have none
  none_of_both : (others : List ℕ) → preferred_ends looks h c i ≡ e ∷ others → after e ≡ [] → ((k : ℕ) → Has others k → after k ≡ []) →
      preferred_ends looks h x i ≡ []
  none_of_both others leads none all =
      whole.same looks h i ∙ ap (λ (l : List ℕ). flat_map after l) leads ∙ ap (λ (l : List ℕ). l ++ flat_map after others) none
      ∙ none_of after others all

  none_of_first : preferred_ends looks h c i ≡ [] → preferred_ends looks h x i ≡ []
  none_of_first none = whole.same looks h i ∙ ap (λ (l : List ℕ). flat_map after l) none

-- what follows has no end at the other ends of rounds
module _ (r : Run) (most : Option ℕ) (ps : List Part) (y : Tree) (are : AreParts ps y) (h : List ℕ) (bytes : All (λ b. b < 256) h)
    (looks : Looks) (c : Tree) (it : AreRounds r most c) (i e : ℕ) (stretch : IsStretch r most h i e)
    (none : preferred_ends looks h y e ≡ []) where
  none_at : IsDecided (Rounds r most) ps → (k : ℕ) → i + r.least ≤ k → k < e → preferred_ends looks h y k ≡ []
  none_at (inl fixed) k low less =
      absurd (omega (arith, low, less, subst (λ (o : Option ℕ). IsBounded o i e) fixed stretch.bound))
  none_at (inr (inl last)) k low less =
      absurd (cc (sym none ∙ (subst (λ (l : List Part). AreParts l y) last are).same looks h e))
  none_at (inr (inr shun)) k low less =
      (shun.none y are h bytes k (get_or h k 0) (slice_get-get_or h k 0 (omega (arith, less, stretch.high)))
      (stretch.members it.body it.rounds k (omega (arith, low)) less)).none looks

-- ---- one part after the other
-- the parts that are left lead from an offset to what all lead to from the first one
pub record Stands (left : List Part) (x : Tree) (h : List ℕ) (from at : ℕ) : Type 0 where
  pub rest : Tree
  pub parts : AreParts left rest
  pub apart : AreDecided left
  pub found : (looks : Looks) (j : ℕ) (more : List ℕ) → preferred_ends looks h rest at ≡ j ∷ more → Led (preferred_ends looks h x from) j
  pub none : (looks : Looks) → preferred_ends looks h rest at ≡ [] → preferred_ends looks h x from ≡ []

pub stands_first : (ps : List Part) (x : Tree) (h : List ℕ) (from : ℕ) → AreParts ps x → AreDecided ps → Stands ps x h from from
stands_first ps x h from parts apart = record {
  rest = x;
  parts = parts;
  apart = apart;
  found = λ looks j more is. record { others = more; is = is };
  none = λ looks none. none;
}

literal_leads : (bytes : List ℕ) (c : Tree) → HasEndsOf c (literal bytes) → (h : List ℕ) (looks : Looks) (i e : ℕ) → stands h i bytes ≡ true →
    e ≡ i + length bytes → Leads (preferred_ends looks h c i) i e
literal_leads bytes c it h looks i e here is = record {
  others = [];
  is = it.same looks h i ∙ by_test (stands h i bytes) here ∙ ap (λ (n : ℕ). n ∷ []) (sym is);
  before = λ m none. elim none [ ];
}
  where
    by_test : (t : Bool) → t ≡ true → (if t then (i + length bytes) ∷ [] else []) ≡ (i + length bytes) ∷ []
    by_test true is = refl
    by_test false is = cc

literal_none : (bytes : List ℕ) (c : Tree) → HasEndsOf c (literal bytes) → (h : List ℕ) (looks : Looks) (i : ℕ) → stands h i bytes ≡ false →
    preferred_ends looks h c i ≡ []
literal_none bytes c it h looks i here = it.same looks h i ∙ by_test (stands h i bytes) here
  where
    by_test : (t : Bool) → t ≡ false → (if t then (i + length bytes) ∷ [] else []) ≡ []
    by_test true is = cc
    by_test false is = refl

-- one of several strings
some_same : (a b : ℕ) → Some a ≡ Some b → a ≡ b
some_same a b is = cc

one_more_leads : (there : Bool) (j e : ℕ) (o : Option ℕ) (ends : List ℕ) → (o ≡ Some e → Led ends e) → (if there then Some j else o) ≡ Some e →
    Led ((if there then j ∷ [] else []) ++ ends) e
one_more_leads true j e o ends rest is = record { others = ends; is = ap (λ (n : ℕ). n ∷ ends) (some_same j e is) }
one_more_leads false j e o ends rest is = rest is

one_more_none : (there : Bool) (j : ℕ) (o : Option ℕ) (ends : List ℕ) → (o ≡ None → ends ≡ []) → (if there then Some j else o) ≡ None →
    ((if there then j ∷ [] else []) ++ ends) ≡ []
one_more_none true j o ends rest is = cc
one_more_none false j o ends rest is = rest is

one_of_leads : (texts : List (Vec ℕ Global)) (h : List ℕ) (looks : Looks) (i e : ℕ) → first_end texts h i ≡ Some e →
    Led (preferred_ends looks h (any_text texts) i) e
one_of_leads [] h looks i e is = absurd (none-some e is)
one_of_leads (t ∷ texts) h looks i e is =
    one_more_leads (stands h i t.items) (i + length t.items) e (first_end texts h i) (preferred_ends looks h (any_text texts) i)
    (one_of_leads texts h looks i e) is

one_of_none : (texts : List (Vec ℕ Global)) (h : List ℕ) (looks : Looks) (i : ℕ) → first_end texts h i ≡ None →
    preferred_ends looks h (any_text texts) i ≡ []
one_of_none [] h looks i is = refl
one_of_none (t ∷ texts) h looks i is =
    one_more_none (stands h i t.items) (i + length t.items) (first_end texts h i) (preferred_ends looks h (any_text texts) i)
    (one_of_none texts h looks i) is

-- what a part leads to
record PartLeads (c y : Tree) (h : List ℕ) (i e : ℕ) (looks : Looks) : Type 0 where
  others : List ℕ
  leads : preferred_ends looks h c i ≡ e ∷ others
  none : preferred_ends looks h y e ≡ [] → (k : ℕ) → Has others k → preferred_ends looks h y k ≡ []

part_leads : (p : Part) (ps : List Part) (c y : Tree) → IsPart p c → AreParts ps y → IsDecided p ps → (h : List ℕ) → All (λ b. b < 256) h →
    (i e : ℕ) → ReadsPart p h i (To e) → (looks : Looks) → PartLeads c y h i e looks
unfolding literal_leads
part_leads (Literal text) ps c y it are apart h bytes i e read looks = record {
  others = [];
  leads = (literal_leads text.items c it h looks i e read.0 read.1).is;
  none = λ none k other. elim other [ ];
}
part_leads (OneOf texts) ps c y it are apart h bytes i e read looks =
    let led = one_of_leads texts.items h looks i e read in
    record {
      others = led.others;
      leads = it.same looks h i ∙ led.is;
      none = λ none. absurd (cc (sym none ∙ (subst (λ (l : List Part). AreParts l y) apart are).same looks h e));
    }
part_leads (Rounds r most) ps c y it are apart h bytes i e read looks =
    let leads = rounds_lead r most c it h bytes looks i e read.0 read.1 i (omega arith) (inr refl) read.2 in
    record {
      others = leads.others;
      leads = leads.is;
      none = λ none k other.
          let so = leads.before k other in
          none_at r most ps y are h bytes looks c it i e read.0 none apart k so.0 so.1;
    }

part_none : (p : Part) (c : Tree) → IsPart p c → (h : List ℕ) → All (λ b. b < 256) h → (i e : ℕ) → ReadsPart p h i (Missing e) →
    (looks : Looks) → preferred_ends looks h c i ≡ []
part_none (Literal text) c it h bytes i e read looks = literal_none text.items c it h looks i read
part_none (OneOf texts) c it h bytes i e read looks = it.same looks h i ∙ one_of_none texts.items h looks i read
part_none (Rounds r most) c it h bytes i e read looks =
    rounds_few r most c it h bytes looks i e read.0 read.1 i (omega arith) (inr refl) read.0.low read.2

module _ (p : Part) (ps : List Part) (x : Tree) (h : List ℕ) (bytes : All (λ b. b < 256) h) (from at : ℕ) where
  pub stands_next : Stands (p ∷ ps) x h from at → (e : ℕ) → ReadsPart p h at (To e) → Stands ps x h from e
  stands_next so e read =
      let c = so.parts.0 in
      let y = so.parts.1 in
      let whole = so.parts.4 in
      let lead = part_leads p ps c y so.parts.2 so.parts.3 so.apart.0 h bytes at e read in
      record {
        rest = y;
        parts = so.parts.3;
        apart = so.apart.1;
        found = λ looks j more is.
            let both = first_of_both so.rest c y whole h looks at e (lead looks).others (lead looks).leads j more is in
            so.found looks j both.others both.is;
        none = λ looks none.
            so.none looks (none_of_both so.rest c y whole h looks at e (lead looks).others (lead looks).leads none ((lead looks).none none));
      }

  pub stands_nowhere : Stands (p ∷ ps) x h from at → (e : ℕ) → ReadsPart p h at (Missing e) → HasNoEndAt x h from
  stands_nowhere so e read = record {
    none = λ looks.
        so.none looks (none_of_first so.rest so.parts.0 so.parts.1 so.parts.4 h looks at at (part_none p so.parts.0 so.parts.2 h bytes at e read looks));
  }

-- no part is left
pub stands_last : (left : List Part) → length left ≡ 0 → (x : Tree) (h : List ℕ) (from at : ℕ) → Stands left x h from at → PrefersEnd x h from at
stands_last (p ∷ left) none x h from at so = absurd (omega (arith, none))
stands_last [] none x h from at so = record {
  others = λ looks. (so.found looks at [] (so.parts.same looks h at)).others;
  first = λ looks. (so.found looks at [] (so.parts.same looks h at)).is;
}

-- ---- a try at the first part
module _ (p : Part) (ps : List Part) (x : Tree) (parts : AreParts (p ∷ ps) x) (apart : AreDecided (p ∷ ps)) (h : List ℕ)
    (bytes : All (λ b. b < 256) h) (start end : ℕ) where
  -- the part isn't there
  first_missing : (e : ℕ) → ReadsPart p h start (Missing e) → HasNoEndAt x h start
  first_missing e read = stands_nowhere p ps x h bytes start start (stands_first (p ∷ ps) x h start parts apart) e read

  -- the part is there, and what follows it isn't
  others_missing : ReadsPart p h start (To end) → ((y : Tree) → AreParts ps y → AreDecided ps → HasNoEndAt y h end) → HasNoEndAt x h start
  others_missing read none = record {
    none = λ looks.
        let lead = part_leads p ps parts.0 parts.1 parts.2 parts.3 apart.0 h bytes start end read looks in
        let nothing_there = (none parts.1 parts.3 apart.1).none looks in
        none_of_both x parts.0 parts.1 parts.4 h looks start end lead.others lead.leads nothing_there (lead.none nothing_there);
  }

  -- both are there
  pub all_there : ReadsPart p h start (To end) → (to : ℕ) → ((y : Tree) → AreParts ps y → AreDecided ps → PrefersEnd y h end to) →
      PrefersEnd x h start to
  all_there read to there =
      let both : (looks : Looks) → Led (preferred_ends looks h x start) to = λ looks.
      let lead = part_leads p ps parts.0 parts.1 parts.2 parts.3 apart.0 h bytes start end read looks in
      let rest = there parts.1 parts.3 apart.1 in
      first_of_both x parts.0 parts.1 parts.4 h looks start end lead.others lead.leads to (rest.others looks) (rest.first looks) in
      record { others = λ looks. (both looks).others; first = λ looks. (both looks).is }

-- nor is a match in the rounds of the first part
in_rounds : (r : Run) (ps : List Part) (x : Tree) → AreParts (Rounds r None ∷ ps) x → AreDecided (Rounds r None ∷ ps) → (h : List ℕ) →
    All (λ b. b < 256) h → (start end : ℕ) → ReadsPart (Rounds r None) h start (To end) →
    ((y : Tree) → AreParts ps y → AreDecided ps → HasNoEndAt y h end) → (k : ℕ) → start ≤ k → k ≤ end → HasNoEndAt x h k
in_rounds r ps x parts apart h bytes start end read none k low high = record {
  none = λ looks. elim (cases_lt end (k + r.least)) [
    | inl short ↦
        none_of_first x parts.0 parts.1 parts.4 h looks k end
        (rounds_few r None parts.0 parts.2 h bytes looks start end read.0 read.1 k low (inl refl) high short)
    | inr enough ↦
        let leads = rounds_lead r None parts.0 parts.2 h bytes looks start end read.0 read.1 k low (inl refl) (omega (arith, enough)) in
        let nothing_there = (none parts.1 parts.3 apart.1).none looks in
        none_of_both x parts.0 parts.1 parts.4 h looks k end leads.others leads.is nothing_there
        (λ m other.
        let so = leads.before m other in
        none_at r None ps parts.1 parts.3 h bytes looks parts.0 parts.2 start end read.0 nothing_there apart.0 m
        (omega (arith, low, so.0)) so.1)
  ];
}

pub nowhere : (p : Part) (ps : List Part) (x : Tree) → AreParts (p ∷ ps) x → AreDecided (p ∷ ps) → (h : List ℕ) → All (λ b. b < 256) h →
    (start end last : ℕ) → ReadsPart p h start (To end) → ((y : Tree) → AreParts ps y → AreDecided ps → HasNoEndAt y h end) →
    IsLastStart p start end last → (k : ℕ) → start ≤ k → k ≤ last → HasNoEndAt x h k
nowhere p ps x parts apart h bytes start end last read none (inl here) k low high =
    subst (λ (n : ℕ). HasNoEndAt x h n) (omega (arith, here, low, high)) (others_missing p ps x parts apart h bytes start end read none)
nowhere (Literal text) ps x parts apart h bytes start end last read none (inr there) k low high = elim there.1 [ ]
nowhere (OneOf texts) ps x parts apart h bytes start end last read none (inr there) k low high = elim there.1 [ ]
nowhere (Rounds r None) ps x parts apart h bytes start end last read none (inr there) k low high =
    in_rounds r ps x parts apart h bytes start end read none k low (omega (arith, high, there.0))
nowhere (Rounds r (Some most)) ps x parts apart h bytes start end last read none (inr there) k low high = elim there.1 [ ]

pub missing_there : (p : Part) (ps : List Part) (x : Tree) → AreParts (p ∷ ps) x → AreDecided (p ∷ ps) → (h : List ℕ) → All (λ b. b < 256) h →
    (start e : ℕ) → ReadsPart p h start (Missing e) → (k : ℕ) → start ≤ k → k ≤ start → HasNoEndAt x h k
missing_there p ps x parts apart h bytes start e read k low high =
    subst (λ (n : ℕ). HasNoEndAt x h n) (omega (arith, low, high)) (first_missing p ps x parts apart h bytes start start e read)
