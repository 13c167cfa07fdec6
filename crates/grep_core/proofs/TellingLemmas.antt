-- What is still to be reported of lines goes on by one line.
use Rattle.std.proofs.Common.{◌≡◌, Result, Ok, Err, OnOk, ◌⊎◌, inl, inr, IsTrue, nat_eq, take, ◌≤◌, ◌<◌, ℕ, zero, suc, ◌+◌, ◌-◌, Bool, true}
use Rattle.std.proofs.Common.{false, not, ◌&&◌, nat_lt, length, List, [], ◌∷◌, ◌++◌, map, Option, Some, None, if◌then◌else◌, refl, sym, ap, ap₂}
use Rattle.std.proofs.Common.{◌∙◌, arith, lt-ltb}
use Rattle.grep_core.specs.declared.context_printer.ContextPrinter.{ContextPrinter}
use Rattle.grep_core.specs.declared.separator_state.SeparatorState.{SeparatorState}
use Rattle.grep_core.specs.declared.separator_state.SeparatorState.TheVariants.{LastPrinted}
use Rattle.grep_core.specs.declared.reporter.Reporter.{Reporter}
use Rattle.grep_core.specs.declared.role.Role.{Role}
use Rattle.grep_core.specs.declared.role.Role.TheVariants.{Selected, Beside, Hidden}
use Rattle.grep_core.specs.declared.output_options.Print.{Print}
use Rattle.grep_core.specs.declared.output_options.Print.TheVariants.{Lines, Matches, Count, CountMatches, NameIfAny, NameIfNone, Nothing}
use Rattle.grep_core.specs.declared.output_options.OutputOptions.{OutputOptions}
use Rattle.grep_core.specs.ContextPrinting.{Item, item, still, print_as, print_item, waiting_item}
use Rattle.line_search.specs.Lines.{TextLine}
use Rattle.line_search.specs.LineMatchers.{LineMatcher}
use Rattle.grep_core.specs.Report.{before_of, after_of, first_of, roles_of, parting, after_hidden, print_lines, count_line, name_line}
use Rattle.grep_core.specs.Report.{count_matches, report_as, selected, is_wanted, shown_line, shown_spans}
use Rattle.grep_core.specs.Selecting.{limited, count_selected, any, roles, roles_from}
use Rattle.grep_core.specs.Reporting.{added, added_matches, counts_matches, matches_in, number_of, shown, reported_item, prints_lines, reported_lines, left_of, may_select, flags_after}

print_map : {X Y : Type 0} (w : OutputOptions) (print : Role → Y → List ℕ) (g : X → Y) (b : SeparatorState) (rs : List Role) (xs : List X) →
    print_lines w print b rs (map g xs) ≡ print_lines w (λ r x. print r (g x)) b rs xs
print_map w print g b [] xs = refl
print_map w print g b (r ∷ rs) [] = refl
print_map w print g b (Hidden ∷ rs) (x ∷ xs) = print_map w print g (after_hidden b) rs xs
print_map w print g b (Selected ∷ rs) (x ∷ xs) = ap (λ t. parting w b ++ (print Selected (g x) ++ t))
    (print_map w print g LastPrinted rs xs)
print_map w print g b (Beside ∷ rs) (x ∷ xs) = ap (λ t. parting w b ++ (print Beside (g x) ++ t)) (print_map w print g LastPrinted rs xs)

pub left_none : (most : Option ℕ) → left_of most 0 ≡ most
left_none None = refl
left_none (Some m) = ap Some (let e : m - 0 ≡ m = omega arith in e)

flags_none : (w : OutputOptions) (f : LineMatcher) (lines : List TextLine) → flags_after w f 0 lines ≡ selected w f lines
flags_none w f lines = ap (λ most. limited most (map (is_wanted w f) lines)) (left_none w.most)

pub none_before : (n : ℕ) → 0 + n ≡ n
none_before n = omega arith

-- nothing is printed of the lines but this
abbrev Starts : OutputOptions → Option (List ℕ) → SeparatorState → ContextPrinter → Type 0
Starts w name known c = (flags : List Bool) (items : List Item) →
    still w name c flags items ≡ print_lines w (print_item w name) known (roles (before_of w.context) (after_of w.context) (first_of w.context) flags) items

starts_lines : (p : Print) (w : OutputOptions) (f : LineMatcher) (name : Option (List ℕ)) (known : SeparatorState) (c : ContextPrinter) →
    Starts w name known c →
    w.print ≡ p → (lines : List TextLine) →
    still w name c (flags_after w f 0 lines) (map (reported_item w f) lines)
    ≡ print_lines w (λ role line. print_as p w name role (reported_item w f line)) known (roles_of w (selected w f lines)) lines
starts_lines p w f name known c fresh is lines =
    fresh (flags_after w f 0 lines) (map (reported_item w f) lines)
    ∙ print_map w (print_item w name) (reported_item w f) known (roles_of w (flags_after w f 0 lines)) lines
    ∙ ap (λ flags. print_lines w (λ role line. print_item w name role (reported_item w f line)) known (roles_of w flags) lines)
    (flags_none w f lines)
    ∙ ap (λ q. print_lines w (λ role line. print_as q w name role (reported_item w f line)) known (roles_of w (selected w f lines)) lines) is

matches_mapped : (w : OutputOptions) (f : LineMatcher) (lines : List TextLine) (flags : List Bool) →
    matches_in flags (map (reported_item w f) lines) ≡ count_matches w f lines flags
matches_mapped w f [] [] = refl
matches_mapped w f [] (flag ∷ flags) = refl
matches_mapped w f (line ∷ lines) [] = refl
matches_mapped w f (line ∷ lines) (true ∷ flags) = ap (λ n. length (shown_spans w f line) + n) (matches_mapped w f lines flags)
matches_mapped w f (line ∷ lines) (false ∷ flags) = matches_mapped w f lines flags

-- nothing is counted yet
pub none_yet : (b : Bool) → ◌≡◌ {A = ℕ} (if b then 0 else 0) 0
none_yet true = refl
none_yet false = refl

pub starts_told : (p : Print) (w : OutputOptions) (f : LineMatcher) (name : List ℕ) (with_name : Bool) (known : SeparatorState) (c :
    ContextPrinter) →
    Starts w (shown with_name name) known c → w.print ≡ p → (lines : List TextLine) →
    reported_lines p w name with_name c 0 (flags_after w f 0 lines) (map (reported_item w f) lines)
    ≡ report_as p w f name with_name known lines (selected w f lines)
starts_told Lines w f name with_name known c fresh is lines = starts_lines Lines w f (shown with_name name) known c fresh is lines
starts_told Matches w f name with_name known c fresh is lines = starts_lines Matches w f (shown with_name name) known c fresh is lines
starts_told Count w f name with_name known c fresh is lines =
    ap (count_line w (shown with_name name)) (none_before (count_selected (flags_after w f 0 lines))
    ∙ ap count_selected (flags_none w f lines))
starts_told CountMatches w f name with_name known c fresh is lines =
    ap (count_line w (shown with_name name)) (none_before (matches_in (flags_after w f 0 lines) (map (reported_item w f) lines))
    ∙ ap (λ flags. matches_in flags (map (reported_item w f) lines)) (flags_none w f lines)
    ∙ matches_mapped w f lines (selected w f lines))
starts_told NameIfAny w f name with_name known c fresh is lines =
    ap (λ n. if nat_lt 0 n then name_line w name else []) (none_before (count_selected (flags_after w f 0 lines))
    ∙ ap count_selected (flags_none w f lines))
starts_told NameIfNone w f name with_name known c fresh is lines =
    ap (λ n. if nat_lt 0 n then [] else name_line w name) (none_before (count_selected (flags_after w f 0 lines))
    ∙ ap count_selected (flags_none w f lines))
starts_told Nothing w f name with_name known c fresh is lines = refl

-- at most so many lines are selected
and_false : (b t : Bool) → t ≡ false → (b && t) ≡ false
and_false true t e = e
and_false false t e = refl

spent : (m n : ℕ) → m ≤ n → (b : Bool) (bs : List Bool) →
    limited (Some (m - n)) (b ∷ bs) ≡ (b && nat_lt n m) ∷ limited (Some (m - (n + (if b && nat_lt n m then 1 else 0)))) bs
spent m n few b bs =
    let none : m - n ≡ 0 = omega (arith, few) in
    let no : nat_lt n m ≡ false = grind (arith, few) in
    let still_none : (x : ℕ) → 0 ≡ m - (n + x) = λ x. omega (arith, few) in
    ap (λ k. limited (Some k) (b ∷ bs)) none
    ∙ ap₂ (λ t k. t ∷ limited (Some k) bs) (sym (and_false b (nat_lt n m) no)) (still_none (if b && nat_lt n m then 1 else 0))

one_left : (m n : ℕ) → n < m → (b : Bool) (bs : List Bool) →
    limited (Some (m - n)) (b ∷ bs) ≡ (b && nat_lt n m) ∷ limited (Some (m - (n + (if b && nat_lt n m then 1 else 0)))) bs
one_left m n more true bs =
    let some : m - n ≡ suc (m - (n + 1)) = omega (arith, more) in
    ap (λ k. limited (Some k) (true ∷ bs)) some
    ∙ ap (λ t. t ∷ limited (Some (m - (n + (if t then 1 else 0)))) bs) (sym (lt-ltb n m more))
one_left m n more false bs =
    let some : m - n ≡ suc (m - (n + 1)) = omega (arith, more) in
    let same : suc (m - (n + 1)) ≡ m - (n + 0) = omega (arith, more) in
    ap (λ k. limited (Some k) (false ∷ bs)) some ∙ ap (λ k. false ∷ limited (Some k) bs) same

limited_some : (m n : ℕ) (t : Bool) → nat_lt n m ≡ t → (b : Bool) (bs : List Bool) →
    limited (Some (m - n)) (b ∷ bs) ≡ (b && nat_lt n m) ∷ limited (Some (m - (n + (if b && nat_lt n m then 1 else 0)))) bs
limited_some m n true is b bs = one_left m n (grind (arith, is)) b bs
limited_some m n false is b bs = spent m n (grind (arith, is)) b bs

pub limited_step : (most : Option ℕ) (n : ℕ) (b : Bool) (bs : List Bool) →
    limited (left_of most n) (b ∷ bs) ≡ (b && may_select most n) ∷ limited (left_of most (n + (if b && may_select most n then 1 else 0))) bs
limited_step None n true bs = refl
limited_step None n false bs = refl
limited_step (Some m) n b bs = limited_some m n (nat_lt n m) refl b bs

-- a line is selected as it is seen
abbrev pub selects : OutputOptions → ℕ → Bool → Bool
selects w n has = (if w.invert then not has else has) && may_select w.most n

pub flags_step : (w : OutputOptions) (f : LineMatcher) (n m : ℕ) (sel has : Bool) (line : TextLine) (lines : List TextLine) →
    sel ≡ selects w n has →
    has ≡ f.has_match line.content →
    m ≡ n + (if sel then 1 else 0) → flags_after w f n (line ∷ lines) ≡ sel ∷ flags_after w f m lines
flags_step w f n m sel has line lines is seen more =
    let same : selects w n (f.has_match line.content) ≡ sel = sym (is ∙ ap (selects w n) seen) in
    limited_step w.most n (is_wanted w f line) (map (is_wanted w f) lines)
    ∙ ap (λ t. t ∷ limited (left_of w.most (n + (if t then 1 else 0))) (map (is_wanted w f) lines)) same
    ∙ ap (λ k. sel ∷ limited (left_of w.most k) (map (is_wanted w f) lines)) (sym more)

pub line_told : (p : Print) (w : OutputOptions) (f : LineMatcher) (name : List ℕ) (with_name : Bool) (c after : ContextPrinter) (n m k l : ℕ)
    (sel has : Bool)
    (line own : TextLine)
    (found : List (ℕ × ℕ)) (out new : List ℕ) (lines : List TextLine) → sel ≡ selects w n has → has ≡ f.has_match own.content →
    line ≡ shown_line w f own → found ≡ shown_spans w f own →
    m ≡ n + (if sel then 1 else 0) →
    ((flags : List Bool) (items : List Item) →
    out ++ reported_lines p w name with_name c k (sel ∷ flags) (item line found ∷ items) ≡
    new ++ reported_lines p w name with_name after l flags items)
    →
    out ++ reported_lines p w name with_name c k (flags_after w f n (own ∷ lines)) (map (reported_item w f) (own ∷ lines))
    ≡ new ++ reported_lines p w name with_name after l (flags_after w f m lines) (map (reported_item w f) lines)
line_told p w f name with_name c after n m k l sel has line own found out new lines is seen shows spans more goes_on =
    ap₂ (λ flags it. out ++ reported_lines p w name with_name c k flags (it ∷ map (reported_item w f) lines))
    (flags_step w f n m sel has own lines is seen more) (sym (ap₂ item shows spans))
    ∙ goes_on (flags_after w f m lines) (map (reported_item w f) lines)

pub one_counted : (sel : Bool) (n : ℕ) (flags : List Bool) →
    (n + (if sel then 1 else 0)) + count_selected flags ≡ n + count_selected (sel ∷ flags)
one_counted true n flags = let e : (n + 1) + count_selected flags ≡ n + suc (count_selected flags) = omega arith in e
one_counted false n flags = let e : (n + 0) + count_selected flags ≡ n + count_selected flags = omega arith in e

pub line_counted : (w : OutputOptions) (f : LineMatcher) (n m : ℕ) (sel has : Bool) (line : TextLine) (lines : List TextLine) →
    sel ≡ selects w n has →
    has ≡ f.has_match line.content →
    m ≡ n + (if sel then 1 else 0) → m + count_selected (flags_after w f m lines) ≡ n + count_selected (flags_after w f n (line ∷ lines))
line_counted w f n m sel has line lines is seen more =
    ap (λ k. k + count_selected (flags_after w f m lines)) more
    ∙ one_counted sel n (flags_after w f m lines)
    ∙ ap (λ flags. n + count_selected flags) (sym (flags_step w f n m sel has line lines is seen more))

one_matched : (sel : Bool) (n : ℕ) (flags : List Bool) (it : Item) (items : List Item) →
    (n + (if sel then length it.found else 0)) + matches_in flags items ≡ n + matches_in (sel ∷ flags) (it ∷ items)
one_matched true n flags it items =
    let e : (n + length it.found) + matches_in flags items ≡ n + (length it.found + matches_in flags items) = omega arith in e
one_matched false n flags it items = let e : (n + 0) + matches_in flags items ≡ n + matches_in flags items = omega arith in e

-- The counts after a line: what it adds to the number of matches is added to the number that is counted.
pub number_told : (p : Print) (t u : Reporter) (sel : Bool) (k n : ℕ) → k ≡ n → u.count ≡ t.count + (if sel then 1 else 0) →
    u.matches ≡ t.matches + added_matches p sel k → number_of p u ≡ number_of p t + added p sel n
number_told p t u sel k n same counted matched =
    by (counts_matches p) sel (matched ∙ ap (λ m. t.matches + added_matches p sel m) same) counted
  where
    by : (b s : Bool) → u.matches ≡ t.matches + (if b && s then n else 0) → u.count ≡ t.count + (if s then 1 else 0) →
        (if b then u.matches else u.count) ≡ (if b then t.matches else t.count) + (if s then (if b then n else 1) else 0)
    by true true matches counts = matches
    by true false matches counts = matches
    by false true matches counts = counts
    by false false matches counts = counts

-- what is reported besides lines and matches
pub besides_told : (p : Print) (w : OutputOptions) (name : List ℕ) (with_name : Bool) (c : ContextPrinter) (n m : ℕ) (sel : Bool) (out :
    List ℕ)
    (flags : List Bool) (it : Item)
    (items : List Item) → prints_lines p ≡ false → m ≡ n + added p sel (length it.found) →
    out ++ reported_lines p w name with_name c n (sel ∷ flags) (it ∷ items) ≡ out ++ reported_lines p w name with_name c m flags items
besides_told Lines w name with_name c n m sel out flags it items other more = absurd (grind (arith, other))
besides_told Matches w name with_name c n m sel out flags it items other more = absurd (grind (arith, other))
besides_told Count w name with_name c n m sel out flags it items other more =
    ap (λ k. out ++ count_line w (shown with_name name) k) (sym (ap (λ k. k + count_selected flags) more ∙ one_counted sel n flags))
besides_told CountMatches w name with_name c n m sel out flags it items other more =
    ap (λ k. out ++ count_line w (shown with_name name) k)
    (sym (ap (λ k. k + matches_in flags items) more ∙ one_matched sel n flags it items))
besides_told NameIfAny w name with_name c n m sel out flags it items other more =
    ap (λ k. out ++ (if nat_lt 0 k then name_line w name else [])) (sym (ap (λ k. k + count_selected flags) more ∙ one_counted sel n flags))
besides_told NameIfNone w name with_name c n m sel out flags it items other more =
    ap (λ k. out ++ (if nat_lt 0 k then [] else name_line w name)) (sym (ap (λ k. k + count_selected flags) more ∙ one_counted sel n flags))
besides_told Nothing w name with_name c n m sel out flags it items other more = refl

-- ---- after the last line that may be selected
spent_flags : (most : Option ℕ) (n : ℕ) → may_select most n ≡ false → (xs : List Bool) → limited (left_of most n) xs ≡ map (λ _. false) xs
spent_flags None n spent xs = absurd (grind (arith, spent))
spent_flags (Some m) n spent xs = ap (λ k. limited (Some k) xs)
    (let few : m ≤ n = grind (arith, spent) in let e : m - n ≡ 0 = omega (arith, few) in e)

none_counted : (xs : List Bool) → count_selected (map (λ _. false) xs) ≡ 0
none_counted [] = refl
none_counted (x ∷ xs) = none_counted xs

none_matched : (xs : List Bool) (items : List Item) → matches_in (map (λ _. false) xs) items ≡ 0
none_matched [] items = refl
none_matched (x ∷ xs) [] = refl
none_matched (x ∷ xs) (it ∷ items) = none_matched xs items

no_items : (flags : List Bool) → matches_in flags [] ≡ 0
no_items [] = refl
no_items (flag ∷ flags) = refl

any_taken : (n : ℕ) (flags : List Bool) → any flags ≡ false → any (take n flags) ≡ false
any_taken zero flags e = refl
any_taken (suc n) [] e = refl
any_taken (suc n) (true ∷ flags) e = absurd (grind (arith, e))
any_taken (suc n) (false ∷ flags) e = any_taken n flags e

prints_none : {X : Type 0} (w : OutputOptions) (print : Role → X → List ℕ) (before after : ℕ) (b : SeparatorState) (flags : List Bool) →
    any flags ≡ false →
    (xs : List X) →
    print_lines w print b (roles_from before after 0 flags) xs ≡ []
prints_none w print before after b [] e xs = refl
prints_none w print before after b (true ∷ flags) e xs = absurd (grind (arith, e))
prints_none w print before after b (false ∷ flags) e [] = refl
prints_none w print before after b (false ∷ flags) e (x ∷ xs) =
    ap (λ soon. print_lines w print b ((if soon then Beside else Hidden) ∷ roles_from before after 0 flags) (x ∷ xs))
    (any_taken before flags e)
    ∙ prints_none w print before after (after_hidden b) flags e xs

falses : {X : Type 0} (xs : List X) (ys : List Bool) → any (map (λ _. false) xs ++ map (λ _. false) ys) ≡ false
falses [] [] = refl
falses {X} [] (y ∷ ys) = falses {X = X} [] ys
falses (x ∷ xs) ys = falses xs ys

-- lines that wait aren't printed either
still_none : (w : OutputOptions) (name : Option (List ℕ)) (c : ContextPrinter) → c.left ≡ 0 → (ys : List Bool) (items : List Item) →
    still w name c (map (λ _. false) ys) items ≡ []
still_none w name c none ys items =
    ap (λ n. print_lines w (print_item w name) c.known
    (roles_from (before_of w.context) (after_of w.context) n (map (λ _. false) (map waiting_item c.waiting.items) ++ map (λ _. false) ys))
    (map waiting_item c.waiting.items ++ items)) none
    ∙ prints_none w (print_item w name) (before_of w.context) (after_of w.context) c.known
    (map (λ _. false) (map waiting_item c.waiting.items) ++ map (λ _. false) ys)
    (falses (map waiting_item c.waiting.items) ys) (map waiting_item c.waiting.items ++ items)

module _ (w : OutputOptions) (f : LineMatcher) (name : List ℕ) (with_name : Bool) (c : ContextPrinter) (n : ℕ) (spent : may_select w.most n
    ≡ false) where
  none : (lines : List TextLine) → flags_after w f n lines ≡ map (λ _. false) (map (is_wanted w f) lines)
  none lines = spent_flags w.most n spent (map (is_wanted w f) lines)

  none_more : (lines : List TextLine) → count_selected (flags_after w f n lines) ≡ 0
  none_more lines = ap count_selected (none lines) ∙ none_counted (map (is_wanted w f) lines)

  pub over_counted : (lines : List TextLine) → n + count_selected (flags_after w f n lines) ≡ n + count_selected (flags_after w f n [])
  over_counted lines = ap (λ k. n + k) (none_more lines ∙ sym (none_more []))

  over_lines : c.left ≡ 0 → (lines : List TextLine) →
      still w (shown with_name name) c (flags_after w f n lines) (map (reported_item w f) lines)
      ≡ still w (shown with_name name) c (flags_after w f n []) []
  over_lines left lines =
      ap (λ flags. still w (shown with_name name) c flags (map (reported_item w f) lines)) (none lines)
      ∙ still_none w (shown with_name name) c left (map (is_wanted w f) lines) (map (reported_item w f) lines)
      ∙ sym (ap (λ flags. still w (shown with_name name) c flags []) (none []) ∙ still_none w (shown with_name name) c left [] [])

  over_number : (k : ℕ) (lines : List TextLine) → k + count_selected (flags_after w f n lines) ≡ k + count_selected (flags_after w f n [])
  over_number k lines = ap (λ m. k + m) (none_more lines ∙ sym (none_more []))

  over_matches : (lines : List TextLine) →
      matches_in (flags_after w f n lines) (map (reported_item w f) lines) ≡ matches_in (flags_after w f n []) []
  over_matches lines =
      ap (λ flags. matches_in flags (map (reported_item w f) lines)) (none lines)
      ∙ none_matched (map (is_wanted w f) lines) (map (reported_item w f) lines)
      ∙ sym (no_items (flags_after w f n []))

  pub over_told : (k : ℕ) (p : Print) → (prints_lines p ≡ true → c.left ≡ 0) → (lines : List TextLine) →
      reported_lines p w name with_name c k (flags_after w f n lines) (map (reported_item w f) lines)
      ≡ reported_lines p w name with_name c k (flags_after w f n []) []
  over_told k Lines left lines = over_lines (left refl) lines
  over_told k Matches left lines = over_lines (left refl) lines
  over_told k Count left lines = ap (count_line w (shown with_name name)) (over_number k lines)
  over_told k CountMatches left lines = ap (λ m. count_line w (shown with_name name) (k + m)) (over_matches lines)
  over_told k NameIfAny left lines = ap (λ m. if nat_lt 0 m then name_line w name else []) (over_number k lines)
  over_told k NameIfNone left lines = ap (λ m. if nat_lt 0 m then [] else name_line w name) (over_number k lines)
  over_told k Nothing left lines = refl

-- it asks for no more than whether a line is selected
abbrev pub IsOfNames : Print → Type 0
IsOfNames p = (p ≡ NameIfAny) ⊎ ((p ≡ NameIfNone) ⊎ (p ≡ Nothing))

-- after the last line none more is selected
none_limited : (most : Option ℕ) → count_selected (limited most []) ≡ 0
none_limited None = refl
none_limited (Some zero) = refl
none_limited (Some (suc n)) = refl

pub all_counted : (w : OutputOptions) (f : LineMatcher) (n : ℕ) → n + count_selected (flags_after w f n []) ≡ n
all_counted w f n = ap (λ k. n + k) (none_limited (left_of w.most n)) ∙ (let e : n + 0 ≡ n = omega arith in e)

-- a count and names are no lines
pub not_lines : (p : Print) (n : ℕ) → (p ≡ Count) ⊎ (p ≡ CountMatches) → prints_lines p ≡ true → n ≡ 0
not_lines p n (inl e) l = let f : false ≡ true = sym (ap prints_lines e) ∙ l in absurd (grind (arith, f))
not_lines p n (inr e) l = let f : false ≡ true = sym (ap prints_lines e) ∙ l in absurd (grind (arith, f))

pub names_not_lines : (p : Print) (n : ℕ) → IsOfNames p → prints_lines p ≡ true → n ≡ 0
names_not_lines p n (inl e) l = let f : false ≡ true = sym (ap prints_lines e) ∙ l in absurd (grind (arith, f))
names_not_lines p n (inr (inl e)) l = let f : false ≡ true = sym (ap prints_lines e) ∙ l in absurd (grind (arith, f))
names_not_lines p n (inr (inr e)) l = let f : false ≡ true = sym (ap prints_lines e) ∙ l in absurd (grind (arith, f))

pub is_false : (r : Bool) → IsTrue (not r) → r ≡ false
is_false true t = absurd (grind (arith, t))
is_false false t = refl

pub is_zero : (n : ℕ) → IsTrue (nat_eq n 0) → n ≡ 0
is_zero zero t = refl
is_zero (suc n) t = absurd (grind (arith, t))

-- ---- lines or matches, in the words of the call that reports them
as_still : (p : Print) (w : OutputOptions) (name : List ℕ) (with_name : Bool) (c : ContextPrinter) (n : ℕ) (flags : List Bool) (items :
    List Item) →
    prints_lines p ≡ true →
    reported_lines p w name with_name c n flags items ≡ still w (shown with_name name) c flags items
as_still Lines w name with_name c n flags items is = refl
as_still Matches w name with_name c n flags items is = refl
as_still Count w name with_name c n flags items is = absurd (grind (arith, is))
as_still CountMatches w name with_name c n flags items is = absurd (grind (arith, is))
as_still NameIfAny w name with_name c n flags items is = absurd (grind (arith, is))
as_still NameIfNone w name with_name c n flags items is = absurd (grind (arith, is))
as_still Nothing w name with_name c n flags items is = absurd (grind (arith, is))

pub lines_told : {E : Type 0} (r : Result (Unit {0}) E) (p : Print) (w : OutputOptions) (c after : ContextPrinter) (sel : Bool) (it : Item)
    (out new : List ℕ)
    (name : Option (List ℕ)) → prints_lines p ≡ true →
    OnOk r ((flags : List Bool) (items : List Item) → out ++ still w name c (sel ∷ flags) (it ∷ items) ≡ new
    ++ still w name after flags items) →
    OnOk r ((text : List ℕ) (with_name : Bool) (n m : ℕ) (flags : List Bool) (items : List Item) → shown with_name text ≡ name →
    m ≡ n + added p sel (length it.found) →
    out ++ reported_lines p w text with_name c n (sel ∷ flags) (it ∷ items) ≡ new ++ reported_lines p w text with_name after m flags items)
lines_told (Err e) p w c after sel it out new name is goes_on = tt
lines_told (Ok u) p w c after sel it out new name is goes_on = λ text with_name n m flags items named more.
    ap (λ t. out ++ t) (as_still p w text with_name c n (sel ∷ flags) (it ∷ items) is)
    ∙ ap (λ o. out ++ still w o c (sel ∷ flags) (it ∷ items)) named
    ∙ goes_on flags items
    ∙ sym (ap (λ o. new ++ still w o after flags items) named)
    ∙ sym (ap (λ t. new ++ t) (as_still p w text with_name after m flags items is))
