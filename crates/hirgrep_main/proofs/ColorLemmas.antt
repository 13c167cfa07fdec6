-- The items of GREP_COLORS, one after the other.
use Rattle.std.proofs.Common.{◌≡◌, ℕ, Bool, true, false, ◌||◌, List, [], ◌∷◌, ◌++◌, if◌then◌else◌, refl, ap, ap₂, sym, ◌∙◌}
use Rattle.std.specs.List.{list_any}
use Rattle.std.proofs.lemmas.List.Folds.{list_any-append}
use Rattle.hirgrep_main.specs.GrepColors.{Codes, after_items, is_broken, colors_after_item}

-- after one more item, by whether an earlier one or this one is broken
abbrev pub after_one : Bool → Codes → List ℕ → Codes
after_one over c item = if over then c else colors_after_item c item

next_by : (c : Codes) (broken : Bool) (item : List ℕ) → is_broken item ≡ broken → after_items c (item ∷ []) ≡ after_one broken c item
next_by c true item is = ap (λ b. if b then c else colors_after_item c item) is
next_by c false item is = ap (λ b. if b then c else colors_after_item c item) is

-- a first item and those after it, by whether it is broken
abbrev first_by : Bool → Codes → Codes → Codes
first_by b c more = if b then c else more

first_item : (c : Codes) (i : List ℕ) (items : List (List ℕ)) (item : List ℕ) (b : Bool) → is_broken i ≡ b →
    after_items (colors_after_item c i) (items ++ item ∷ [])
    ≡ after_one (list_any is_broken items || is_broken item) (after_items (colors_after_item c i) items) item →
    after_items c ((i ∷ items) ++ item ∷ [])
    ≡ after_one (list_any is_broken (i ∷ items) || is_broken item) (after_items c (i ∷ items)) item
first_item c i items item true is more =
    ap (λ b. first_by b c (after_items (colors_after_item c i) (items ++ item ∷ []))) is
    ∙ sym (ap (λ b. after_one ((b || list_any is_broken items) || is_broken item) (first_by b c (after_items (colors_after_item c i) items)) item) is)
first_item c i items item false is more =
    ap (λ b. first_by b c (after_items (colors_after_item c i) (items ++ item ∷ []))) is
    ∙ more
    ∙ sym (ap (λ b. after_one ((b || list_any is_broken items) || is_broken item) (first_by b c (after_items (colors_after_item c i) items)) item) is)

pub next_item : (c : Codes) (items : List (List ℕ)) (item : List ℕ) →
    after_items c (items ++ item ∷ []) ≡ after_one (list_any is_broken items || is_broken item) (after_items c items) item
next_item c [] item = next_by c (is_broken item) item refl
next_item c (i ∷ items) item = first_item c i items item (is_broken i) refl (next_item (colors_after_item c i) items item)

or_none : (b : Bool) → (b || false) ≡ b
or_none true = refl
or_none false = refl

pub next_both : (c now new : Codes) (items all : List (List ℕ)) (item : List ℕ) (over broken : Bool) →
    all ≡ items ++ item ∷ [] →
    now ≡ after_items c items →
    over ≡ list_any is_broken items →
    broken ≡ is_broken item →
    new ≡ after_one (over || broken) now item →
    (new ≡ after_items c all) × ((over || broken) ≡ list_any is_broken all)
next_both c now new items all item over broken is was earlier this last = (
  last ∙ ap₂ (λ b k. after_one b k item) (ap₂ (λ a b. a || b) earlier this) was ∙ sym (next_item c items item) ∙ ap (after_items c) (sym is),
  ap₂ (λ a b. a || b) earlier (this ∙ sym (or_none (is_broken item))) ∙ sym (list_any-append is_broken items (item ∷ []))
      ∙ ap (list_any is_broken) (sym is),
)
