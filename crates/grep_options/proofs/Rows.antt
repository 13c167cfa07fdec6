-- Options that are added in turn.
use Rattle.std.proofs.Common.{◌≡◌, ◌∙◌, ℕ, zero, suc, ◌+◌, ◌<◌, Bool, true, false, List, ◌++◌, ◌∷◌, [], ◌||◌}
use Rattle.std.proofs.Common.{ap, append_assoc, arith, flat_map, get_or, length, map, refl, sym, slice_get, take, unwrap_or}
use Rattle.std.proofs.Math.Seq.{take-suc}
use Rattle.std.proofs.lemmas.Grind.{flat_map-append}
use Rattle.std.proofs.lemmas.List.{append-nil, append_cancel_left, map-append}
use Rattle.std.specs.List.{list_any}
use Rattle.std.specs.Borrow.{Bor}
use Rattle.clap.specs.Adds.{AddsAliases, AddsConflicts, AddsOverrides, AddsShortAliases}
use Rattle.clap.specs.Words.{AddsArg, AddsInTurn, App, Rule, args_of, rule_of}
use Rattle.clap.specs.declared.builder.arg.Arg.{Arg}
use Rattle.clap.specs.declared.builder.command.Command.{Command}
use Rattle.grep_options.specs.CommandLine.{AddsOptions, OptionRow, letter_of, options, option_row, option_rows}
use Rattle.grep_options.specs.Rows.{letter_or, related, texts_in}

ap₄ : {A B C D E : Type 0} (f : A → B → C → D → E) {a b : A} {x y : B} {u v : C} {m n : D} → a ≡ b → x ≡ y → u ≡ v → m ≡ n
    → f a x u m ≡ f b y v n
ap₄ f {a = a} {b = b} {x = x} {y = y} {u = u} {v = v} {m = m} {n = n} p q r t =
    ap (λ e. f e x u m) p ∙ (ap (λ e. f b e u m) q ∙ (ap (λ e. f b y e m) r ∙ ap (λ e. f b y v e) t))

either_false : (a b : Bool) → (a || b) ≡ false → (a ≡ false) × (b ≡ false)
either_false false b e = (refl, e)
either_false true b e = cc

pub joined : {a b c : List Arg} {xs ys : List OptionRow} → AddsOptions a b xs → AddsOptions b c ys → AddsOptions a c (xs ++ ys)
joined {a = a} {xs = xs} {ys = ys} p q = record { added = q.added ∙ (ap (λ m. m ++ ys) p.added ∙ append_assoc (option_rows a) xs ys) }

-- the same options, by an equation of their rows
pub adds_as : {a b : List Arg} {xs ys : List OptionRow} → AddsOptions a b xs → xs ≡ ys → AddsOptions a b ys
adds_as {a = a} p e = record { added = p.added ∙ ap (λ rs. option_rows a ++ rs) e }

-- one more option, with this row
pub appended : (old new : List Arg) (a : Arg) (row : OptionRow) → new ≡ old ++ a ∷ [] → option_row a ≡ row → AddsOptions old new (row ∷ [])
appended old new a row e f = record {
  added = ap option_rows e ∙ (map-append option_row old (a ∷ []) ∙ ap (λ (r : OptionRow). option_rows old ++ r ∷ []) f);
}

-- of a list of which each item stands for some options, those of one more item
next_taken : {X : Type 0} (xs : List X) (i : ℕ) (d : X) → i < length xs → take i xs ++ get_or xs i d ∷ [] ≡ take (i + 1) xs
next_taken xs i d below =
    let after : suc i ≡ i + 1 = omega arith in
    sym (take-suc xs i d below) ∙ ap (λ (k : ℕ). take k xs) after

pub next_row : {X : Type 0} (f : X → OptionRow) (xs : List X) (i : ℕ) (d : X) → i < length xs → {a b c : List Arg}
    → AddsOptions a b (map f (take i xs)) → AddsOptions b c (f (get_or xs i d) ∷ []) → AddsOptions a c (map f (take (i + 1) xs))
next_row f xs i d below p q =
    adds_as (joined p q) (sym (map-append f (take i xs) (get_or xs i d ∷ [])) ∙ ap (map f) (next_taken xs i d below))

pub next_rows : {X : Type 0} (f : X → List OptionRow) (xs : List X) (i : ℕ) (d : X) → i < length xs → {a b c : List Arg}
    → AddsOptions a b (flat_map f (take i xs)) → AddsOptions b c (f (get_or xs i d)) → AddsOptions a c (flat_map f (take (i + 1) xs))
next_rows f xs i d below p q =
    let last = ap (λ (rs : List OptionRow). flat_map f (take i xs) ++ rs) (sym (append-nil (f (get_or xs i d)))) in
    let all = sym (flat_map-append f (take i xs) (get_or xs i d ∷ [])) ∙ ap (flat_map f) (next_taken xs i d below) in
    adds_as (joined p q) (last ∙ all)

pub both : {a b x y : List OptionRow} → a ≡ b → x ≡ y → a ++ x ≡ b ++ y
both {b = b} {x = x} e f = ap (λ (rs : List OptionRow). rs ++ x) e ∙ ap (λ (rs : List OptionRow). b ++ rs) f

pub alone : {a b : List OptionRow} → a ≡ b → a ++ [] ≡ b ++ []
alone = ap (λ (rs : List OptionRow). rs ++ [])

letter_given : (c : ℕ) → (c ≡ 0 → ⊥) → letter_or [] c ≡ c ∷ []
letter_given zero given = absurd (given refl)
letter_given (suc c) given = refl

-- one more letter, which isn't zero
pub row_lettered : (old new : Arg) (c : ℕ) → (c ≡ 0 → ⊥) → AddsShortAliases old new ((c, false) ∷ []) → option_row new
    ≡ record (option_row old) { other_letters = (option_row old).other_letters ++ letter_or [] c }
row_lettered old new c given (e, f) =
    let letters = ap (map (λ a. a.0)) f ∙ map-append (λ a. a.0) old.short_aliases.items ((c, false) ∷ []) in
    let all = letters ∙ ap (λ ls. map (λ a. a.0) old.short_aliases.items ++ ls) (sym (letter_given c given)) in
    ap option_row e ∙ ap (λ ls. record (option_row old) { other_letters = ls }) all

abbrev hidden_name : Bor (List ℕ) → Bor (List ℕ) × Bool
hidden_name n = (n, false)

abbrev name_in : Bor (List ℕ) × Bool → List ℕ
name_in a = a.0.now

names_in : (names : List (Bor (List ℕ))) → map name_in (map hidden_name names) ≡ texts_in names
names_in [] = refl
names_in (n ∷ ns) = ap (λ xs. n.now ∷ xs) (names_in ns)

-- more names, more options that it turns off, and more with which it is an error
pub row_related : (old a b new : Arg) (names over without : List (Bor (List ℕ))) → AddsAliases old a (map hidden_name names)
    → AddsOverrides a b over → AddsConflicts b new without → option_row new ≡ related (option_row old) names over without
row_related old a b new names over without (e, f) (g, h) (i, j) =
    let named = ap (map name_in) f ∙ (map-append name_in old.aliases.items (map hidden_name names) ∙ ap (λ (xs : List (List ℕ)). (option_row old).aliases ++ xs) (names_in names)) in
    let first = ap option_row e ∙ ap (λ xs. record (option_row old) { aliases = xs }) named in
    let off = ap texts_in h ∙ map-append (λ s. s.now) a.overrides.items over in
    let second = ap option_row g ∙ (ap (λ xs. record (option_row a) { turns_off = xs }) off ∙ ap (λ (r : OptionRow). record r { turns_off = r.turns_off ++ texts_in over }) first) in
    let excluded = ap texts_in j ∙ map-append (λ s. s.now) b.conflicts.items without in
    ap option_row i ∙ (ap (λ xs. record (option_row b) { excludes = xs }) excluded ∙ ap (λ (r : OptionRow). record r { excludes = r.excludes ++ texts_in without }) second)

-- ---- the options of a command

-- what a row shows of an argument's rule, and of what the rule leaves out
abbrev row_by : Rule → List (List ℕ) → List (List ℕ) → Bool → OptionRow
row_by r turned_off excluded is_global = record {
  name = r.id;
  letter = letter_of r.short;
  other_letters = r.short_aliases;
  long = r.long;
  aliases = r.aliases;
  action = r.action;
  missing = r.missing;
  turns_off = turned_off;
  excludes = excluded;
  is_global = is_global;
}

one_added : (old : Command) (a : Arg) (new : Command) → AddsArg old a new → a.global ≡ false
    → option_rows (args_of new) ≡ option_rows (args_of old) ++ option_row a ∷ []
one_added old a new h is_local =
    let old_rules = map rule_of (args_of old) in
    let rules : map rule_of (args_of new) ≡ old_rules ++ rule_of a ∷ [] = ap (λ (x : App). x.top.rules) (h.shape is_local) in
    let arg_rules = ap (map rule_of) h.args ∙ map-append rule_of (args_of old) (h.arg ∷ []) in
    let same = append_cancel_left old_rules _ _ (sym arg_rules ∙ rules) in
    let rule : rule_of h.arg ≡ rule_of a = ap (λ rs. unwrap_or (slice_get rs 0) (rule_of a)) same in
    let row : option_row h.arg ≡ option_row a = ap₄ row_by rule (ap (map (λ s. s.now)) h.rules.overrides)
    (ap (map (λ s. s.now)) h.rules.conflicts) h.rules.global in
    ap option_rows h.args ∙ (map-append option_row (args_of old) (h.arg ∷ []) ∙ ap (λ r. option_rows (args_of old) ++ r ∷ []) row)

all_added : (old new : Command) (xs : List Arg) → AddsInTurn AddsArg old xs new → list_any (λ r. r.is_global) (option_rows xs) ≡ false
    → option_rows (args_of new) ≡ option_rows (args_of old) ++ option_rows xs
all_added old new [] h is_local = ap (λ c. option_rows (args_of c)) (sym h) ∙ sym (append-nil (option_rows (args_of old)))
all_added old new (x ∷ xs) (mid, here, rest) is_local =
    let first = one_added old x mid here (either_false x.global _ is_local).0 in
    let others = all_added mid new xs rest (either_false x.global _ is_local).1 in
    others ∙ (ap (λ m. m ++ option_rows xs) first ∙ append_assoc (option_rows (args_of old)) (option_row x ∷ []) (option_rows xs))

pub command_rows : (old new : Command) (none args : List Arg) → none ≡ [] → AddsOptions none args options → args_of old ≡ []
    → AddsInTurn AddsArg old args new → option_rows (args_of new) ≡ options
command_rows old new none args empty added bare h =
    let rows : option_rows args ≡ options = added.added ∙ ap (λ xs. option_rows xs ++ options) empty in
    let is_local : list_any (λ r. r.is_global) (option_rows args) ≡ false = ap (list_any (λ r. r.is_global)) rows in
    all_added old new args h is_local ∙ (ap (λ xs. option_rows xs ++ option_rows args) bare ∙ rows)
