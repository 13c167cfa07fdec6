-- Rules of files that are added value after value.
use Rattle.std.proofs.Common.{suc, drop, drop-cons, length, map, ◌+◌, ◌<◌, arith, ◌≡◌, ◌∙◌, ℕ, Bool, true, false, List, [], ◌∷◌, ◌++◌, ap, sym, refl, append_assoc, ◌||◌}
use Rattle.std.proofs.Math.ListN.{get_or}
use Rattle.std.proofs.lemmas.Grind.{flat_map-append}
use Rattle.std.proofs.lemmas.List.{append-nil, length-append}
use Rattle.std.proofs.lemmas.List.Concat.{flat_map-cons}
use Rattle.std.specs.List.{flat_map, list_any}
use Rattle.globs.specs.Ignoring.{ignore_rules}
use Rattle.globs.specs.Rules.{Rule}
use Rattle.grep_options.specs.FileOptions.{Given}
use Rattle.grep_cli.specs.Selecting.{AreIgnored, names_rules, value_rules, values_rules}

-- Whatever contents later files have, the rules of the values so far and of later ones are those of all of them.
abbrev pub AreAdded : List Rule → List Rule → List Given → List Given → Type 0
AreAdded before now all rest =
    (later : List (List ℕ)) → (contents : List (List ℕ)) × (before ++ values_rules all contents ≡ now ++ values_rules rest later)

no_contents : (vs : List Given) → values_rules vs [] ≡ []
no_contents [] = refl
no_contents (v ∷ vs) = refl

pub added_none : (before : List Rule) (all : List Given) → AreAdded before before all all
added_none before all later = (later, refl)

pub added_more : (before now new : List Rule) (v : Given) (all rest whole : List Given) (content : List ℕ) → whole ≡ v ∷ rest
    → new ≡ now ++ value_rules v content → AreAdded before now all whole → AreAdded before new all rest
added_more before now new v all rest whole content e f h later =
    let more = h (content ∷ later) in (
      more.0,
      more.1 ∙ (ap (λ w. now ++ values_rules w (content ∷ later)) e
          ∙ (sym (append_assoc now (value_rules v content) (values_rules rest later)) ∙ ap (λ m. m ++ values_rules rest later) (sym f))),
    )

pub added_all : (before now : List Rule) (all rest : List Given) → AreAdded before now all rest
    → (contents : List (List ℕ)) × (now ≡ before ++ values_rules all contents)
added_all before now all rest h =
    let all_of = h [] in
    (all_of.0, sym (all_of.1 ∙ (ap (λ m. now ++ m) (no_contents rest) ∙ append-nil now)))

-- ---- values that name no file

abbrev pub any_names_rules : List Given → Bool
any_names_rules = list_any (λ (v : Given). names_rules v.option)

rest_names_none : (t r : Bool) → (t || r) ≡ false → r ≡ false
rest_names_none true r e = cc
rest_names_none false r e = e

pub names_none_on : (v : Given) (all rest whole : List Given) → whole ≡ v ∷ rest
    → (any_names_rules all ≡ false → any_names_rules whole ≡ false) → any_names_rules all ≡ false → any_names_rules rest ≡ false
names_none_on v all rest whole e h none =
    rest_names_none (names_rules v.option) (any_names_rules rest) (sym (ap any_names_rules e) ∙ h none)

-- ---- one value after the other

pub values_cut : {A B : Type 0} (f : A → B) (xs : List A) (i : ℕ) (d : A) → i < length xs
    → map f (drop i xs) ≡ f (get_or xs i d) ∷ map f (drop (i + 1) xs)
values_cut f xs i d below =
    let next : suc i ≡ i + 1 = omega arith in
    ap (map f) (drop-cons xs i d below) ∙ ap (λ (k : ℕ). f (get_or xs i d) ∷ map f (drop k xs)) next

-- ---- the rules of --ignore-file

pub ignored_none : (old : List Rule) → AreIgnored old old 0
ignored_none old = ([], (refl, sym (append-nil old)))

one_more : (contents : List (List ℕ)) (content : List ℕ)
    → flat_map ignore_rules (contents ++ content ∷ []) ≡ flat_map ignore_rules contents ++ ignore_rules content
one_more contents content =
    flat_map-append ignore_rules contents (content ∷ [])
    ∙ ap (λ m. flat_map ignore_rules contents ++ m) (flat_map-cons ignore_rules content [] ∙ append-nil (ignore_rules content))

pub ignored_more : (old now new : List Rule) (n : ℕ) (content : List ℕ) → new ≡ now ++ ignore_rules content → AreIgnored old now n
    → AreIgnored old new (n + 1)
ignored_more old now new n content e h =
    let count = length-append h.0 (content ∷ []) in (
      h.0 ++ content ∷ [],
      (
        omega (arith, count, h.1.0),
        e ∙ (ap (λ m. m ++ ignore_rules content) h.1.1
            ∙ (append_assoc old (flat_map ignore_rules h.0) (ignore_rules content) ∙ ap (λ m. old ++ m) (sym (one_more h.0 content)))),
      ),
    )

pub ignored_as : (old new : List Rule) (n k : ℕ) → n ≡ k → AreIgnored old new n → AreIgnored old new k
ignored_as old new n k e h = (h.0, (h.1.0 ∙ e, h.1.1))
