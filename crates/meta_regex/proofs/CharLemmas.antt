-- Rounds of a class of characters: what its table says, and that the rounds from an offset on are a span of a run.
use Rattle.std.proofs.Common.{◌≡◌, ℕ, zero, suc, ◌+◌, ◌-◌, ◌*◌, ◌<◌, ◌≤◌, ◌&&◌, nat_lt, get_or, Bool, true, false, List, [], ◌∷◌, ◌++◌, length, drop}
use Rattle.std.proofs.Common.{Option, Some, None, IfSome, Result, Ok, Err, Vec, All, refl, sym, ap, subst, ◌∙◌, inl, inr, arith, if◌then◌else◌, nat_le, length-append, length-drop, take, take_all}
use Rattle.std.specs.Global.{Global}
use Rattle.std.specs.List.{flat_map}
use Rattle.std.proofs.lemmas.Bool.{and_from, cases_lt, cond-false, cond-true, le-leb, lt-leb}
use Rattle.std.specs.Option.{option_or}
use Rattle.search_core.specs.Characters.{character_at, four_bytes, spelling_len, three_bytes, two_bytes}
use Rattle.search_core.specs.Utf8.{Decodes, SpellsFirst}
use Rattle.search_core.proofs.ForCallers.{begun_character, character_begins, spelling_has_len, spelling_some}
use Rattle.hir_core.specs.Tree.{Tree}
use Rattle.hir_core.specs.Means.{Looks, is_member}
use Rattle.hir_core.specs.PreferredEnds.{Ends, at_least, character_end, preferred_ends, up_to}
use Rattle.literal_search.specs.Searches.{IsNextStart, StartsFrom}
use Rattle.meta_regex.specs.CharRounds.{Advances, AreCharsOf, AreRoundsFrom, EndsAt, IsRoundAt, RoundsLead, SaysWhether}
use Rattle.meta_regex.specs.Runs.{IsNextRun, IsRunOf}
use Rattle.meta_regex.specs.declared.char_rounds.Round.{Round}
use Rattle.meta_regex.specs.declared.char_rounds.Round.TheVariants.{Missing, To, Unknown}
use Rattle.meta_regex.specs.declared.runs.NextRun.{NextRun}
use Rattle.meta_regex.specs.declared.runs.NextRun.TheVariants.{Found, Missing as NoRun, From}
use Rattle.meta_regex.specs.declared.runs.Run.{Run}
use Rattle.meta_regex.proofs.RunLemmas.{Led, none_starts, some_rounds}
use Rattle.meta_regex.proofs.SequenceLemmas.{next_from, nowhere_from}

-- ---- rounds of one end each, one after the other
-- so many rounds consume as many bytes or more
pub leads_far : (f : Ends) (n i j : ℕ) → RoundsLead f n i j → i + n ≤ j
leads_far f zero i j it = omega (arith, it)
leads_far f (suc n) i j it = omega (arith, it.1, leads_far f n it.0 j it.3)

-- one more round after them
pub one_more : (f : Ends) (n i j k : ℕ) → RoundsLead f n i j → j < k → f j ≡ k ∷ [] → RoundsLead f (n + 1) i k
one_more f n i j k it low end =
    let next : suc n ≡ n + 1 = omega arith in
    subst (λ (m : ℕ). RoundsLead f m i k) next (behind n i it)
  where
    behind : (n i : ℕ) → RoundsLead f n i j → RoundsLead f (suc n) i k
    behind zero i it = (k, omega (arith, it, low), ap f it ∙ end, refl)
    behind (suc n) i it = (it.0, it.1, it.2, behind n it.0 it.3)

no_rounds : (f : Ends) (n i j : ℕ) → n ≤ 0 → RoundsLead f n i j → i ≡ j
no_rounds f zero i j none it = it
no_rounds f (suc n) i j none it = absurd (omega (arith, none))

module _ (f : Ends) (e : ℕ) (stop : f e ≡ []) where
  leads_up_to : (n m k : ℕ) → RoundsLead f n k e → n ≤ m → Led (up_to true f m k) e
  leads_up_to zero zero k it enough = record { others = []; is = ap (λ (m : ℕ). m ∷ []) it }
  leads_up_to zero (suc m) k it enough = record {
    others = [];
    is = ap (λ (k : ℕ). flat_map (up_to true f m) (f k) ++ k ∷ []) it ∙ ap (λ (l : List ℕ). flat_map (up_to true f m) l ++ e ∷ []) stop;
  }
  leads_up_to (suc n) zero k it enough = absurd (omega (arith, enough))
  leads_up_to (suc n) (suc m) k it enough =
      let rest = leads_up_to n m it.0 it.3 (omega (arith, enough)) in
      record {
        others = (rest.others ++ []) ++ k ∷ [];
        is = ap (λ (l : List ℕ). flat_map (up_to true f m) l ++ k ∷ []) it.2 ∙ ap (λ (l : List ℕ). (l ++ []) ++ k ∷ []) rest.is;
      }

  -- at least so many rounds prefer the last end of more
  pub leads_at_least : (h : List ℕ) → e ≤ length h → (least n k : ℕ) → RoundsLead f n k e → least ≤ n → Led (at_least h true f least k) e
  leads_at_least h within zero n k it enough =
      leads_up_to n (length h - k) k it (omega (arith, within, leads_far f n k e it))
  leads_at_least h within (suc least) zero k it enough = absurd (omega (arith, enough))
  leads_at_least h within (suc least) (suc n) k it enough =
      let rest = leads_at_least h within least n it.0 it.3 (omega (arith, enough)) in
      record {
        others = rest.others ++ [];
        is = ap (λ (l : List ℕ). flat_map (at_least h true f least) l) it.2 ∙ ap (λ (l : List ℕ). l ++ []) rest.is;
      }

-- the table of a run is that of the characters of its rounds
pub chars_of_run : (r : Run) (x : Tree) (it : IsRunOf r x) (table : Vec Bool Global) → r.chars ≡ Some table → (read : List Bool) →
    read ≡ table.items → AreCharsOf read it.body
chars_of_run r x it table some read is =
    subst (λ (flags : List Bool). AreCharsOf flags it.body) (sym is)
    (subst (λ (o : Option (Vec Bool Global)). IfSome o (λ t. AreCharsOf t.items it.body)) some it.chars)

-- ---- what a search for a run has found so far
module _ (r : Run) (x : Tree) (it : IsRunOf r x) (h : List ℕ) (bytes : All (λ b. b < 256) h) (from : ℕ) where
  -- rounds that are enough are the next span
  pub finds_rounds : (start n e : ℕ) → IsNextStart x h from (Some start) → AreRoundsFrom it.body h start n e → r.least ≤ n →
      IsNextRun x h from (Found start e)
  finds_rounds start n e next rounds enough = (
    next,
    omega (arith, it.some, enough, leads_far (preferred_ends (λ l i. false) h it.body) n start e (rounds.lead (λ l i. false))),
    rounds.within,
    record {
      others = λ looks.
          (leads_at_least (preferred_ends looks h it.body) e (rounds.last looks) h rounds.within r.least n start (rounds.lead looks) enough).others;
      first = λ looks.
          it.ends looks h start
          ∙ (leads_at_least (preferred_ends looks h it.body) e (rounds.last looks) h rounds.within r.least n start (rounds.lead looks) enough).is;
    },
  )

  -- no span starts where no round begins
  pub passes_offset : (start n e : ℕ) → StartsFrom x h from start → AreRoundsFrom it.body h start n e → n ≤ 0 → StartsFrom x h from (start + 1)
  passes_offset start n e so rounds none = record {
    starts = λ looks s j above inside m. elim (cases_lt s (start + 1)) [
      | inl less ↦
          let here : e ≡ s = omega (arith, less, so.starts looks s j above inside m, no_rounds (preferred_ends looks h it.body) n start e none (rounds.lead looks)) in
          absurd (none_starts r x it h bytes looks s (it.ends looks h s
          ∙ some_rounds r x it h bytes looks s r.least it.some (ap (preferred_ends looks h it.body) (sym here) ∙ rounds.last looks)) j m)
      | inr later ↦ later
    ];
  }

-- the next span from a later offset on, before which none starts, is the next one
pub next_from_later : (x : Tree) (h : List ℕ) (from at : ℕ) (next : NextRun) → from ≤ at → StartsFrom x h from at → IsNextRun x h at next →
    IsNextRun x h from next
next_from_later x h from at (Found i j) low so it = (next_from x h from at i so low it.0, it.1, it.2, it.3)
next_from_later x h from at NoRun low so it = nowhere_from x h from at so it
next_from_later x h from at (From s) low so it = next_from x h from at s so low it

-- ---- what a table says of a character
member_ends : (b : Bool) (j : ℕ) → b ≡ true → (if b then j ∷ [] else []) ≡ j ∷ []
member_ends true j is = refl
member_ends false j is = cc

other_ends : (b : Bool) (j : ℕ) → b ≡ false → (if b then j ∷ [] else []) ≡ []
other_ends true j is = cc
other_ends false j is = refl

rest_of : (h : List ℕ) (i : ℕ) → take (length h - i) (drop i h) ≡ drop i h
rest_of h i = take_all (length h - i) (drop i h) (omega (arith, length-drop i h))

-- a character that begins at an offset is inside, and has a byte
pub spelled_within : (h : List ℕ) (i c : ℕ) → character_at h i ≡ Some c → (i < i + spelling_len c) × (i + spelling_len c ≤ length h)
spelled_within h i c at =
    let first = character_begins h i c at in
    let len = spelling_has_len c first.spelling first.spells in
    let some = spelling_some c first.spelling first.spells in
    let whole = ap length first.joined ∙ length-append first.spelling first.rest in
    (omega (arith, len, some), omega (arith, len, some, whole, length-drop i h))

module _ (table : List Bool) (x : Tree) (it : AreCharsOf table x) (h : List ℕ) (i : ℕ) where
  ends_of : (looks : Looks) (o : Option ℕ) → character_at h i ≡ o → preferred_ends looks h x i ≡ character_end it.ranges o i
  ends_of looks o is = ap (λ (x : Tree). preferred_ends looks h x i) it.class ∙ ap (λ (o : Option ℕ). character_end it.ranges o i) is

  -- the round of the character that begins there
  pub round_of_character : (c : ℕ) → character_at h i ≡ Some c → (r : Round) → EndsAt (i + spelling_len c) r →
      SaysWhether (is_member it.ranges c) r → IsRoundAt x h i r
  round_of_character c at (To j) end is =
      λ looks. ends_of looks (Some c) at ∙ member_ends (is_member it.ranges c) (i + spelling_len c) is ∙ ap (λ (m : ℕ). m ∷ []) (sym end)
  round_of_character c at Missing end is =
      λ looks. ends_of looks (Some c) at ∙ other_ends (is_member it.ranges c) (i + spelling_len c) is
  round_of_character c at Unknown end is = tt

  -- no round begins where no character does
  pub round_of_none : character_at h i ≡ None → (looks : Looks) → preferred_ends looks h x i ≡ []
  round_of_none none looks = ends_of looks None none

-- the round of a character goes on to its end
pub advances_to : (h : List ℕ) (i c : ℕ) → character_at h i ≡ Some c → (r : Round) → EndsAt (i + spelling_len c) r → Advances h i r
advances_to h i c at (To j) end = (omega (arith, end, (spelled_within h i c at).0), omega (arith, end, (spelled_within h i c at).1))
advances_to h i c at Missing end = tt
advances_to h i c at Unknown end = tt

-- ---- what is read from an offset on
-- two bytes that spell a character
pub two_spell : (h : List ℕ) (i a b : ℕ) → get_or h i 0 ≡ a → get_or h (i + 1) 0 ≡ b → 0xC2 ≤ a → a ≤ 0xDF → 0x80 ≤ b → b ≤ 0xBF →
    character_at h i ≡ Some ((a - 0xC0) * 64 + (b - 0x80))
two_spell h i a b first second low high above below =
    ap (λ (o : Option ℕ). option_or o (option_or (two_bytes h i) (option_or (three_bytes h i) (four_bytes h i))))
    (cond-false _ _ _ (and_last (nat_lt i (length h)) (nat_le (get_or h i 0) 0x7F) (lt-leb (get_or h i 0) 0x7F (omega (arith, first, low)))))
    ∙ ap (λ (o : Option ℕ). option_or o (option_or (three_bytes h i) (four_bytes h i)))
    (cond-true _ _ _ (and_from _ _
    (and_from _ _ (le-leb 0xC2 (get_or h i 0) (omega (arith, first, low))) (le-leb (get_or h i 0) 0xDF (omega (arith, first, high))))
    (and_from _ _ (le-leb 0x80 (get_or h (i + 1) 0) (omega (arith, second, above))) (le-leb (get_or h (i + 1) 0) 0xBF (omega (arith, second, below))))))
    ∙ ap (λ (n : ℕ). Some ((n - 0xC0) * 64 + (get_or h (i + 1) 0 - 0x80))) first ∙ ap (λ (n : ℕ). Some ((a - 0xC0) * 64 + (n - 0x80))) second
  where
    and_last : (t u : Bool) → u ≡ false → (t && u) ≡ false
    and_last true u is = is
    and_last false u is = refl

-- no character begins there
none_at : (h : List ℕ) (i : ℕ) → ((c : ℕ) → SpellsFirst c (drop i h) → ⊥) → character_at h i ≡ None
none_at h i none = by_option (character_at h i) (λ c is. none c (character_begins h i c is))
  where
    by_option : (o : Option ℕ) → ((c : ℕ) → o ≡ Some c → ⊥) → o ≡ None
    by_option None none = refl
    by_option (Some c) none = absurd (none c refl)

pub character_read : (h : List ℕ) (i c : ℕ) (read : Option (Result ℕ ℕ)) → Decodes (take (length h - i) (drop i h)) read →
    read ≡ Some (Ok c) → character_at h i ≡ Some c
character_read h i c read it is =
    begun_character h i c (subst (λ (bytes : List ℕ). SpellsFirst c bytes) (rest_of h i)
    (subst (λ (o : Option (Result ℕ ℕ)). Decodes (take (length h - i) (drop i h)) o) is it))

pub none_read : (h : List ℕ) (i b : ℕ) (read : Option (Result ℕ ℕ)) → Decodes (take (length h - i) (drop i h)) read → read ≡ Some (Err b) →
    character_at h i ≡ None
none_read h i b read it is = none_at h i (λ c first.
    (subst (λ (o : Option (Result ℕ ℕ)). Decodes (take (length h - i) (drop i h)) o) is it).1 c
    (subst (λ (bytes : List ℕ). SpellsFirst c bytes) (sym (rest_of h i)) first))

pub none_behind : (h : List ℕ) (i : ℕ) (read : Option (Result ℕ ℕ)) → Decodes (take (length h - i) (drop i h)) read → read ≡ None →
    character_at h i ≡ None
none_behind h i read it is = none_at h i (λ c first.
    let none = subst (λ (o : Option (Result ℕ ℕ)). Decodes (take (length h - i) (drop i h)) o) is it in
    omega (
      arith,
      spelling_some c first.spelling first.spells,
      ap length (sym (rest_of h i) ∙ none),
      ap length first.joined,
      length-append first.spelling first.rest,
    ))
