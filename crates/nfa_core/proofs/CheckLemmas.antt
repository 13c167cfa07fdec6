-- What is tested of a builder is what building an automaton requires.
use Rattle.std.proofs.Common.{◌≡◌, ℕ, zero, suc, ◌<◌, ◌≤◌, Bool, true, false, List, length, get_or, refl, sym, ap, ◌∙◌, arith, [], ◌∷◌}
use Rattle.std.proofs.Common.{Option, Some, None, le-ltb, subst}
use Rattle.std.specs.Prelude.{All, nat_lt, not, ◌&&◌, is_none, Decides, String, string_bytes, Vec}
use Rattle.std.specs.Option.{option_map}
use Rattle.std.proofs.lemmas.List.{length-map}
use Rattle.std.specs.List.{list_all}
use Rattle.std.proofs.lemmas.Bool.{and_parts, and_from, not-true}
use Rattle.std.proofs.lemmas.Bool.Decides.{Decides-ltb}
use Rattle.std.proofs.lemmas.List.Sums.{AllPass-from_list_all, list_all-from_AllPass}
use Rattle.search_types.specs.Groups.{Groups, groups_of}
use Rattle.search_types.specs.GroupFaults.{groups_in}
use Rattle.nfa_core.specs.BuilderStates.{DraftNode, Assembly, draft_at}
use Rattle.nfa_core.specs.CanBuild.{CanBuild, names_of, is_known}
use Rattle.nfa_core.specs.Checks.{has_all}
use Rattle.nfa_core.specs.Renaming.{stands_for, past, past_within, going_on, HasNoLoop}
use Rattle.nfa_core.proofs.RenamingLemmas.{past_itself, past_stands}

-- what a test decides of each element, it decides of all
pub decides_all : {A : Type 0} (test : A → Bool) (P : A → Type 0) (xs : List A) → ((x : A) → Decides (test x) (P x)) →
    Decides (list_all test xs) (All P xs)
decides_all test P xs each = (
  λ e k d inside. (each (get_or xs k d)).0 (AllPass-from_list_all test xs e k d inside),
  λ all. list_all-from_AllPass test xs (λ k d inside. (each (get_or xs k d)).1 (all k d inside)),
)

pub decides_below : (n : ℕ) (names : List ℕ) → Decides (list_all (λ q. nat_lt q n) names) (All (λ q. q < n) names)
decides_below n names = decides_all (λ q. nat_lt q n) (λ q. q < n) names (λ q. Decides-ltb q n)

pub decides_named : (n : ℕ) (drafts : List DraftNode) → Decides (list_all (λ draft. list_all (λ q. nat_lt q n) (names_of draft)) drafts)
    (All (λ draft. All (λ q. q < n) (names_of draft)) drafts)
decides_named n drafts = decides_all (λ draft. list_all (λ q. nat_lt q n) (names_of draft))
    (λ draft. All (λ q. q < n) (names_of draft)) drafts (λ draft. decides_below n (names_of draft))

pub decides_known : (groups : Groups) (drafts : List DraftNode) → Decides (list_all (is_known groups) drafts)
    (All (λ draft. is_known groups draft ≡ true) drafts)
decides_known groups drafts = decides_all (is_known groups) (λ draft. is_known groups draft ≡ true) drafts (λ draft. (λ e. e, λ e. e))

pub checked_can : (b : Assembly) (x y : ℕ) → has_all b x y ≡ true → HasNoLoop b.drafts → CanBuild b x y
checked_can b x y e free =
    let n = length b.drafts in
    let one = and_parts _ _ e in
    let two = and_parts _ _ one.1 in
    let three = and_parts _ _ two.1 in
    let four = and_parts _ _ three.1 in
    let five = and_parts _ _ four.1 in
    record {
      closed = not-true b.is_open one.0;
      anchored_there = (Decides-ltb x n).0 two.0;
      unanchored_there = (Decides-ltb y n).0 three.0;
      starts_there = (decides_below n b.starts).0 four.0;
      named = (decides_named n b.drafts).0 five.0;
      known = (decides_known b.groups b.drafts).0 five.1;
      no_loop = free;
    }

pub can_checked : (b : Assembly) (x y : ℕ) → CanBuild b x y → has_all b x y ≡ true
can_checked b x y can =
    let n = length b.drafts in
    and_from _ _ (ap not can.closed) (and_from _ _ ((Decides-ltb x n).1 can.anchored_there)
    (and_from _ _ ((Decides-ltb y n).1 can.unanchored_there)
    (and_from _ _ ((decides_below n b.starts).1 can.starts_there) (and_from _ _ ((decides_named n b.drafts).1 can.named)
    ((decides_known b.groups b.drafts).1 can.known)))))

-- if each state was followed to one that stands for itself, there is no loop
pub followed_free : (drafts : List DraftNode) (n : ℕ) → length drafts ≡ n →
    ((q : ℕ) → q < n → stands_for (draft_at drafts (past drafts q)) ≡ None) → HasNoLoop drafts
followed_free drafts n len all q inside = (length drafts, all q (omega (arith, len, inside)))

-- if one wasn't, there is a loop
pub caught : (drafts : List DraftNode) (q : ℕ) → q < length drafts → is_none (stands_for (draft_at drafts (past drafts q))) ≡ false →
    HasNoLoop drafts → false ≡ true
caught drafts q inside e free = let stands = past_stands drafts free q inside in cc

-- how many groups a pattern has
pub len_there : {A B : Type 0} (groups : List (Vec (Option (String A)) B)) (p : ℕ) (d : Vec (Option (String A)) B) → p < length groups →
    length (get_or groups p d).items ≡ length (groups_of (groups_in groups) p)
len_there [] p d h = absurd (omega (arith, h))
len_there {A} {B} (first ∷ rest) zero d h = sym (length-map first.items (option_map string_bytes))
len_there (first ∷ rest) (suc p) d h = len_there rest p d (omega (arith, h))

pub len_absent : {A B : Type 0} (groups : List (Vec (Option (String A)) B)) (p : ℕ) → length groups ≤ p →
    0 ≡ length (groups_of (groups_in groups) p)
len_absent [] p h = refl
len_absent (first ∷ rest) zero h = absurd (omega (arith, h))
len_absent (first ∷ rest) (suc p) h = len_absent rest p (omega (arith, h))

-- ---- a part that is false makes all false
first_false : (a rest : Bool) → a ≡ false → a && rest ≡ false
first_false a rest e = ap (λ t. t && rest) e

behind_false : (a rest : Bool) → rest ≡ false → a && rest ≡ false
behind_false true rest e = e
behind_false false rest e = refl

not_below : (x n m : ℕ) → n ≡ m → n ≤ x → nat_lt x m ≡ false
not_below x n m same above = le-ltb x m (subst (λ (k : ℕ). k ≤ x) same above)

pub open_fails : (b : Assembly) (x y : ℕ) → b.is_open ≡ true → false ≡ has_all b x y
open_fails b x y e = sym (first_false _ _ (ap not e))

pub anchored_fails : (b : Assembly) (x y n : ℕ) → n ≡ length b.drafts → n ≤ x → false ≡ has_all b x y
anchored_fails b x y n same above = sym (behind_false _ _ (first_false _ _ (not_below x n (length b.drafts) same above)))

pub unanchored_fails : (b : Assembly) (x y n : ℕ) → n ≡ length b.drafts → n ≤ y → false ≡ has_all b x y
unanchored_fails b x y n same above =
    sym (behind_false _ _ (behind_false _ _ (first_false _ _ (not_below y n (length b.drafts) same above))))

fourth_false : (a b c d rest : Bool) → d ≡ false → false ≡ a && (b && (c && (d && rest)))
fourth_false a b c d rest e =
    sym (behind_false a (b && (c && (d && rest))) (behind_false b (c && (d && rest)) (behind_false c (d && rest) (first_false d rest e))))

fifth_false : (a b c d f rest : Bool) → f ≡ false → false ≡ a && (b && (c && (d && (f && rest))))
fifth_false a b c d f rest e =
    sym (behind_false a (b && (c && (d && (f && rest)))) (behind_false b (c && (d && (f && rest)))
    (behind_false c (d && (f && rest)) (behind_false d (f && rest) (first_false f rest e)))))

pub starts_fail : (b : Assembly) (x y n : ℕ) (starts : List ℕ) → n ≡ length b.drafts → starts ≡ b.starts →
    false ≡ list_all (λ q. nat_lt q n) starts → false ≡ has_all b x y
starts_fail b x y n starts same_n same e =
    fourth_false (not b.is_open) (nat_lt x (length b.drafts)) (nat_lt y (length b.drafts))
    (list_all (λ q. nat_lt q (length b.drafts)) b.starts)
    (list_all (λ draft. list_all (λ q. nat_lt q (length b.drafts)) (names_of draft)) b.drafts && list_all (is_known b.groups) b.drafts)
    (ap (λ (k : ℕ). list_all (λ q. nat_lt q k) b.starts) (sym same_n) ∙ ap (list_all (λ q. nat_lt q n)) (sym same) ∙ sym e)

pub names_fail : (b : Assembly) (x y m : ℕ) (drafts : List DraftNode) → m ≡ length b.drafts → drafts ≡ b.drafts →
    false ≡ list_all (λ draft. list_all (λ q. nat_lt q m) (names_of draft)) drafts → false ≡ has_all b x y
names_fail b x y m drafts same_m same e =
    let named = list_all (λ draft. list_all (λ q. nat_lt q (length b.drafts)) (names_of draft)) b.drafts in
    let known = list_all (is_known b.groups) b.drafts in
    fifth_false (not b.is_open) (nat_lt x (length b.drafts)) (nat_lt y (length b.drafts))
    (list_all (λ q. nat_lt q (length b.drafts)) b.starts) named known
    (ap (λ (k : ℕ). list_all (λ draft. list_all (λ q. nat_lt q k) (names_of draft)) b.drafts) (sym same_m)
    ∙ ap (list_all (λ draft. list_all (λ q. nat_lt q m) (names_of draft))) (sym same) ∙ sym e)

-- the tests in their order, if all but the last answered true
pub all_tested : (b : Assembly) (x y n m : ℕ) (starts : List ℕ) (drafts later : List DraftNode) (groups : Groups)
    (first second third : Bool) →
    n ≡ length b.drafts → m ≡ length b.drafts → starts ≡ b.starts → drafts ≡ b.drafts → later ≡ b.drafts → groups ≡ b.groups →
    b.is_open ≡ false → x < n → y < n →
    first ≡ list_all (λ q. nat_lt q n) starts → second ≡ list_all (λ draft. list_all (λ q. nat_lt q m) (names_of draft)) drafts →
    third ≡ list_all (is_known groups) later →
    first ≡ true → second ≡ true → third ≡ has_all b x y
all_tested b x y n m starts drafts later groups first second third same_n same_m same_starts same_parts same_later same_groups closed x_in
    y_in e f g is_first is_second =
    let one : nat_lt x (length b.drafts) ≡ true = (Decides-ltb x (length b.drafts)).1 (omega (arith, x_in, same_n)) in
    let two : nat_lt y (length b.drafts) ≡ true = (Decides-ltb y (length b.drafts)).1 (omega (arith, y_in, same_n)) in
    let three : list_all (λ q. nat_lt q (length b.drafts)) b.starts ≡ true =
    ap (λ (k : ℕ). list_all (λ q. nat_lt q k) b.starts) (sym same_n) ∙ ap (list_all (λ q. nat_lt q n)) (sym same_starts) ∙ sym e
    ∙ is_first in
    let four : list_all (λ draft. list_all (λ q. nat_lt q (length b.drafts)) (names_of draft)) b.drafts ≡ true =
    ap (λ (k : ℕ). list_all (λ draft. list_all (λ q. nat_lt q k) (names_of draft)) b.drafts) (sym same_m)
    ∙ ap (list_all (λ draft. list_all (λ q. nat_lt q m) (names_of draft))) (sym same_parts) ∙ sym f ∙ is_second in
    let five : third ≡ list_all (is_known b.groups) b.drafts = g ∙ ap (λ (gs : Groups). list_all (is_known gs) later) same_groups
    ∙ ap (list_all (is_known b.groups)) same_later in
    rw (closed, one, two, three, four) five

-- if a state that was followed stands for itself, it is the one past the first
pub followed : (drafts : List DraftNode) (k at q : ℕ) → past_within drafts k at ≡ past drafts q → stands_for (draft_at drafts at) ≡ None →
    true ≡ is_none (stands_for (draft_at drafts (past drafts q)))
followed drafts k at q same e = let there : at ≡ past drafts q = sym (past_itself drafts k at e) ∙ same in
    ap is_none (sym (ap (λ (r : ℕ). stands_for (draft_at drafts r)) (sym there) ∙ e))

-- one more step is followed
pub follow_next : (drafts : List DraftNode) (k r at next q : ℕ) → k ≡ suc r → stands_for (draft_at drafts at) ≡ Some next →
    past_within drafts k at ≡ past drafts q → past_within drafts r next ≡ past drafts q
follow_next drafts k r at next q more e same = sym (ap (going_on at (past_within drafts r)) e)
    ∙ ap (λ (n : ℕ). past_within drafts n at) (sym more) ∙ same
