-- The groups of patterns, one by one.
use Rattle.std.proofs.Common.{◌≡◌, ◌≢◌, ◌⊎◌, ⊎_elim, ℕ, zero, suc, ◌+◌, ◌^◌, ◌<◌, ◌≤◌, List, ◌∷◌, ◌++◌, length, map, drop, slice_get, slice_set, chars, Option, Some, None, IsSomeAnd, IfSome, IfErr, Result, Bor, is_some, true, refl, sym, ap, ◌∙◌, subst, arith, append_assoc, append-nil, []}
use Rattle.std.proofs.lemmas.Bool.{cases_lt}
use Rattle.std.proofs.lemmas.Option.{none-some, same_Some, slice_get_within}
use Rattle.regex_syntax.specs.Grammar.{Names, read}
use Rattle.regex_syntax.specs.Brackets.{Nested}
use Rattle.regex_syntax.specs.Verdict.{Refuses}
use Rattle.regex_syntax.specs.declared.Config.{Config}
use Rattle.regex_syntax.specs.declared.error.ErrorKind.{ErrorKind}
use Rattle.regex_syntax.specs.declared.error.ErrorKind.TheVariants.{OutOfMemory, NestLimitExceeded}
use Rattle.regex_hir.specs.Re.{Re}
use Rattle.meta_regex.specs.declared.options.Options.{Options}
use Rattle.group_finder.specs.Patterns.{IsNamedBy, IsParsedAs, IsPattern}
use Rattle.group_finder.specs.Errors.{IsNewError, bytes_allowed}
use Rattle.group_finder.specs.declared.errors.NewError.{NewError}
use Rattle.group_finder.specs.declared.errors.NewError.TheVariants.{NoMemory, Syntax, TooLarge}
use Rattle.captures.specs.Errors.{IsCapturesError, IsGroupsError, IsPrepareError}
use Rattle.captures.specs.Groups.{AreGroupsOf, limit_of}
use Rattle.captures.specs.Promises.{KeepsGroups}
use Rattle.captures.specs.declared.errors.CapturesError.{CapturesError}
use Rattle.captures.specs.declared.groups.Groups.{Groups}
use Rattle.captures.specs.declared.pattern_groups.PatternGroups.{PatternGroups}
use Rattle.group_finder.specs.Engines.{counted}
use Rattle.captures.specs.Patterns.{IsPatternGroups, ArePatternGroups, all_bytes, pattern_bytes}

-- what is made so far, followed by groups of what is left
abbrev pub AreGroupsWith : Config → List (List ℕ) → List (List ℕ) → List PatternGroups → Type 0
AreGroupsWith config whole left ps =
    (more : List PatternGroups) → ArePatternGroups config left more → ArePatternGroups config whole (ps ++ more)

none_left : (config : Config) (ts : List (Bor (List ℕ))) (i : ℕ) → length ts ≤ i → ArePatternGroups config (map (λ t. t.now) (drop i ts)) []
none_left config [] zero above = tt
none_left config [] (suc i) above = tt
none_left config (t ∷ ts) zero above = absurd (omega (arith, above))
none_left config (t ∷ ts) (suc i) above = none_left config ts i (omega (arith, above))

pub all_made : (config : Config) (whole : List (List ℕ)) (ts : List (Bor (List ℕ))) (i : ℕ) (ps : List PatternGroups) → length ts ≤ i →
    AreGroupsWith config whole (map (λ t. t.now) (drop i ts)) ps → ArePatternGroups config whole ps
all_made config whole ts i ps above made =
    subst (ArePatternGroups config whole) (append-nil ps) (made [] (none_left config ts i above))

-- the pattern with a number
pub listed_text : (ts : List (Bor (List ℕ))) (i : ℕ) (x : Bor (List ℕ)) → slice_get ts i ≡ Some x →
    slice_get (map (λ t. t.now) ts) i ≡ Some x.now
listed_text [] i x listed = absurd (none-some x listed)
listed_text (t ∷ ts) zero x listed = ap (λ (y : Bor (List ℕ)). Some y.now) (same_Some t x listed)
listed_text (t ∷ ts) (suc i) x listed = listed_text ts i x listed

left_from : (ts : List (Bor (List ℕ))) (i : ℕ) (x : Bor (List ℕ)) → slice_get ts i ≡ Some x → drop i ts ≡ x ∷ drop (suc i) ts
left_from [] i x listed = absurd (none-some x listed)
left_from (t ∷ ts) zero x listed = ap (λ (y : Bor (List ℕ)). y ∷ ts) (same_Some t x listed)
left_from (t ∷ ts) (suc i) x listed = left_from ts i x listed

pub one_more_made : (config : Config) (whole : List (List ℕ)) (ts : List (Bor (List ℕ))) (i : ℕ) (x : Bor (List ℕ)) (ps new : List PatternGroups)
    (p : PatternGroups) → slice_get ts i ≡ Some x → IsPatternGroups config x.now p → new ≡ ps ++ p ∷ [] →
    AreGroupsWith config whole (map (λ t. t.now) (drop i ts)) ps → AreGroupsWith config whole (map (λ t. t.now) (drop (i + 1) ts)) new
one_more_made config whole ts i x ps new p listed of is made more are =
    let next : suc i ≡ i + 1 = omega arith in
    let left : drop i ts ≡ x ∷ drop (i + 1) ts = left_from ts i x listed ∙ ap (λ (k : ℕ). x ∷ drop k ts) next in
    subst (ArePatternGroups config whole) (sym (append_assoc ps (p ∷ []) more) ∙ ap (λ (qs : List PatternGroups). qs ++ more) (sym is))
    (made (p ∷ more) (subst (λ (ts : List (Bor (List ℕ))). ArePatternGroups config (map (λ t. t.now) ts) (p ∷ more)) (sym left) (of, are)))

-- the groups of the pattern with a number
pub groups_at_number : (config : Config) (ts : List (List ℕ)) (ps : List PatternGroups) (n : ℕ) (t : List ℕ) (p : PatternGroups) →
    ArePatternGroups config ts ps → slice_get ts n ≡ Some t → slice_get ps n ≡ Some p → IsPatternGroups config t p
groups_at_number config [] [] n t p of is listed = absurd (none-some t is)
groups_at_number config [] (q ∷ ps) n t p of is listed = absurd of
groups_at_number config (u ∷ ts) [] n t p of is listed = absurd of
groups_at_number config (u ∷ ts) (q ∷ ps) zero t p of is listed =
    subst (λ x. IsPatternGroups config x p) (same_Some u t is) (subst (IsPatternGroups config u) (same_Some q p listed) of.0)
groups_at_number config (u ∷ ts) (q ∷ ps) (suc n) t p of is listed = groups_at_number config ts ps n t p of.1 is listed

-- those of one pattern were changed, and are still its
pub groups_changed : (config : Config) (ts : List (List ℕ)) (ps : List PatternGroups) (n : ℕ) (p q : PatternGroups) →
    ArePatternGroups config ts ps → slice_get ps n ≡ Some p → ((t : List ℕ) → IsPatternGroups config t p → IsPatternGroups config t q) →
    ArePatternGroups config ts (slice_set ps n q)
groups_changed config [] [] n p q of listed kept = absurd (none-some p listed)
groups_changed config [] (r ∷ ps) n p q of listed kept = absurd of
groups_changed config (t ∷ ts) [] n p q of listed kept = absurd of
groups_changed config (t ∷ ts) (r ∷ ps) zero p q of listed kept = (kept t (subst (IsPatternGroups config t) (same_Some r p listed) of.0), of.1)
groups_changed config (t ∷ ts) (r ∷ ps) (suc n) p q of listed kept = (of.0, groups_changed config ts ps n p q of.1 listed kept)

pub as_many : (config : Config) (ts : List (List ℕ)) (ps : List PatternGroups) → ArePatternGroups config ts ps → length ps ≡ length ts
as_many config [] [] of = refl
as_many config [] (p ∷ ps) of = absurd of
as_many config (t ∷ ts) [] of = absurd of
as_many config (t ∷ ts) (p ∷ ps) of = ap suc (as_many config ts ps of.1)

-- groups of patterns that are parsed under the same options
pub one_group : (syntax config : Config) (ts : List (List ℕ)) (ps : List PatternGroups) (n : ℕ) (t : List ℕ) (p : PatternGroups) →
    syntax ≡ config → ArePatternGroups config ts ps → slice_get ts n ≡ Some t → slice_get ps n ≡ Some p → IsPatternGroups syntax t p
one_group syntax config ts ps n t p e of is listed =
    subst (λ c. IsPatternGroups c t p) (sym e) (groups_at_number config ts ps n t p of is listed)

pub parsed_by : (syntax config : Config) (t : List ℕ) (a : Re) → syntax ≡ config → IsParsedAs config t a → IsParsedAs syntax t a
parsed_by syntax config t a e parsed = subst (λ c. IsParsedAs c t a) (sym e) parsed

pub one_changed : (syntax config : Config) (ts : List (List ℕ)) (ps : List PatternGroups) (n : ℕ) (p q : PatternGroups) → syntax ≡ config →
    ArePatternGroups config ts ps → slice_get ps n ≡ Some p →
    ((t : List ℕ) → IsPatternGroups syntax t p → IsPatternGroups syntax t q) → ArePatternGroups config ts (slice_set ps n q)
one_changed syntax config ts ps n p q e of listed kept =
    groups_changed config ts ps n p q of listed
    (subst (λ (c : Config). (t : List ℕ) → IsPatternGroups c t p → IsPatternGroups c t q) e kept)

-- the pattern of groups with a number
text_at_number : (config : Config) (ts : List (List ℕ)) (ps : List PatternGroups) (n : ℕ) (p : PatternGroups) →
    ArePatternGroups config ts ps → slice_get ps n ≡ Some p → (t : List ℕ) × IsPatternGroups config t p
text_at_number config [] [] n p of listed = absurd (none-some p listed)
text_at_number config [] (q ∷ ps) n p of listed = absurd of
text_at_number config (u ∷ ts) [] n p of listed = absurd of
text_at_number config (u ∷ ts) (q ∷ ps) zero p of listed = (u, subst (IsPatternGroups config u) (same_Some q p listed) of.0)
text_at_number config (u ∷ ts) (q ∷ ps) (suc n) p of listed = text_at_number config ts ps n p of.1 listed

pub one_text : (syntax config : Config) (ts : List (List ℕ)) (ps : List PatternGroups) (n : ℕ) (p : PatternGroups) → syntax ≡ config →
    ArePatternGroups config ts ps → slice_get ps n ≡ Some p → (t : List ℕ) × IsPatternGroups syntax t p
one_text syntax config ts ps n p e of listed =
    let it = text_at_number config ts ps n p of listed in
    (it.0, subst (λ c. IsPatternGroups c it.0 p) (sym e) it.1)

-- so the groups of all patterns are still theirs
pub groups_kept : (old new : Groups) (n : ℕ) (p q : PatternGroups) → new.syntax ≡ old.syntax → new.size_limit ≡ old.size_limit →
    new.patterns.items ≡ slice_set old.patterns.items n q → slice_get old.patterns.items n ≡ Some p →
    ((t : List ℕ) → IsPatternGroups old.syntax t p → IsPatternGroups old.syntax t q) →
    (o : Options) (ts : List (List ℕ)) → AreGroupsOf o ts old → AreGroupsOf o ts new
groups_kept old new n p q syntax limit set listed own o ts of = record {
  config_is = syntax ∙ of.config_is;
  limit_is = ap bytes_allowed limit ∙ of.limit_is;
  patterns = subst (ArePatternGroups o.syntax ts) (sym set)
      (one_changed old.syntax o.syntax ts old.patterns.items n p q of.config_is of.patterns listed own);
}

pub keeps_groups : {A : Type 0} (old new : Groups) (n : ℕ) (p q : PatternGroups) (r : Result A CapturesError) → new.syntax ≡ old.syntax →
    new.size_limit ≡ old.size_limit → new.patterns.items ≡ slice_set old.patterns.items n q → slice_get old.patterns.items n ≡ Some p →
    ((t : List ℕ) → IsPatternGroups old.syntax t p → IsPatternGroups old.syntax t q) →
    ((t : List ℕ) → IsPatternGroups old.syntax t p → (o : Options) → bytes_allowed old.size_limit ≡ limit_of o → (h : List ℕ) →
    IfErr r (IsCapturesError o h)) →
    KeepsGroups old new r
keeps_groups old new n p q r syntax limit set listed own refused = record {
  own = groups_kept old new n p q syntax limit set listed own;
  refused = λ o ts of h.
      let it = one_text old.syntax o.syntax ts old.patterns.items n p of.config_is of.patterns listed in
      refused it.0 it.1 o of.limit_is h;
}

pub no_pattern : {A : Type 0} (config : Config) (ts : List (List ℕ)) (ps : List PatternGroups) (n : ℕ) (t : List ℕ) →
    ArePatternGroups config ts ps → length ps ≤ n → slice_get ts n ≡ Some t → A
no_pattern config ts ps n t of above is = absurd (omega (arith, above, as_many config ts ps of, slice_get_within ts n t is))

-- ---- what is prepared
abbrev pub IsReady : List PatternGroups → ℕ → Type 0
IsReady ps n = IfSome (slice_get ps n) (λ p. is_some p.finder ≡ true)

pub ready_made : (ps : List PatternGroups) (n : ℕ) (p q : PatternGroups) → slice_get ps n ≡ Some p → is_some q.finder ≡ true →
    IsReady (slice_set ps n q) n
ready_made [] n p q listed made = absurd (none-some p listed)
ready_made (r ∷ ps) zero p q listed made = made
ready_made (r ∷ ps) (suc n) p q listed made = ready_made ps n p q listed made

pub ready_kept : (ps : List PatternGroups) (n : ℕ) (p q : PatternGroups) → slice_get ps n ≡ Some p →
    (is_some p.finder ≡ true → is_some q.finder ≡ true) → (k : ℕ) → IsReady ps k → IsReady (slice_set ps n q) k
ready_kept [] n p q listed kept k ready = absurd (none-some p listed)
ready_kept (r ∷ ps) zero p q listed kept zero ready = kept (subst (λ (x : PatternGroups). is_some x.finder ≡ true) (same_Some r p listed) ready)
ready_kept (r ∷ ps) zero p q listed kept (suc k) ready = ready
ready_kept (r ∷ ps) (suc n) p q listed kept zero ready = ready
ready_kept (r ∷ ps) (suc n) p q listed kept (suc k) ready = ready_kept ps n p q listed kept k ready

pub none_after : (ps : List PatternGroups) (n : ℕ) → length ps ≤ n → IsReady ps n
none_after [] n above = tt
none_after (p ∷ ps) zero above = absurd (omega (arith, above))
none_after (p ∷ ps) (suc n) above = none_after ps n (omega (arith, above))

pub all_ready : (ps : List PatternGroups) (i : ℕ) → length ps ≤ i → ((n : ℕ) → n < i → IsReady ps n) → (n : ℕ) → IsReady ps n
all_ready ps i above ready n =
    ⊎_elim (λ (below : n < i). ready n below) (λ (after : i ≤ n). none_after ps n (omega (arith, above, after))) (cases_lt n i)

-- ---- memory
bytes_after : (ps : List PatternGroups) (i : ℕ) (p : PatternGroups) → slice_get ps i ≡ Some p →
    all_bytes (drop i ps) ≡ pattern_bytes p + all_bytes (drop (suc i) ps)
bytes_after [] i p listed = absurd (none-some p listed)
bytes_after (q ∷ ps) zero p listed = ap (λ (x : PatternGroups). pattern_bytes x + all_bytes ps) (same_Some q p listed)
bytes_after (q ∷ ps) (suc i) p listed = bytes_after ps i p listed

pub one_more_counted : (ps : List PatternGroups) (i usage more new whole : ℕ) (p : PatternGroups) → slice_get ps i ≡ Some p →
    more ≡ counted (pattern_bytes p) → new ≡ counted (usage + more) → counted (usage + all_bytes (drop i ps)) ≡ whole →
    counted (new + all_bytes (drop (i + 1) ps)) ≡ whole
one_more_counted ps i usage more new whole p listed one sum before =
    let next : suc i ≡ i + 1 = omega arith in
    let rest : all_bytes (drop i ps) ≡ pattern_bytes p + all_bytes (drop (i + 1) ps) =
    bytes_after ps i p listed ∙ ap (λ (k : ℕ). pattern_bytes p + all_bytes (drop k ps)) next in
    omega (arith, one, sum, before, rest)

none_counted : (ps : List PatternGroups) (i : ℕ) → length ps ≤ i → all_bytes (drop i ps) ≡ 0
none_counted [] zero above = refl
none_counted [] (suc i) above = refl
none_counted (p ∷ ps) zero above = absurd (omega (arith, above))
none_counted (p ∷ ps) (suc i) above = none_counted ps i (omega (arith, above))

pub all_counted : (ps : List PatternGroups) (i usage whole : ℕ) → length ps ≤ i → usage < 2 ^ 64 →
    counted (usage + all_bytes (drop i ps)) ≡ whole → usage ≡ whole
all_counted ps i usage whole above fits is = omega (arith, none_counted ps i above, fits, is)

-- ---- errors
rejected_read : {A X Y : Type 0} (kind : ErrorKind) (most : ℕ) (r : Option (Nested X × Y)) → IsSomeAnd r (λ (re, names). re.depth ≤ most) →
    ((kind ≡ OutOfMemory) ⊎ ((r ≡ None) ⊎ ((kind ≡ NestLimitExceeded) × IfSome r (λ (re, _). most < re.depth)))) → kind ≢ OutOfMemory → A
rejected_read kind most None pattern refuses more = absurd pattern
rejected_read kind most (Some (re, names)) pattern refuses more =
    ⊎_elim (λ out. absurd (more out))
    (⊎_elim (λ none. absurd (none-some (re, names) (sym none))) (λ deep. absurd (omega (arith, deep.1, pattern)))) refuses

rejected : {A : Type 0} (config : Config) (text : List ℕ) (kind : ErrorKind) → IsPattern config text → Refuses config text kind →
    kind ≢ OutOfMemory → A
unfolding Refuses
rejected config text kind pattern refuses more = rejected_read kind config.nest_limit (read config (chars text)) pattern refuses more

pub prepare_error : (o : Options) (config : Config) (text : List ℕ) (limit : ℕ) (e : NewError) → IsPattern config text →
    IsNewError config text limit e → bytes_allowed limit ≡ limit_of o → IsPrepareError o e
prepare_error o config text limit NoMemory pattern is same = tt
prepare_error o config text limit (Syntax e) pattern is same = rejected config text e.kind pattern is.0 is.1
prepare_error o config text limit (TooLarge n) pattern is same = is.0 ∙ same

pub groups_error : (config : Config) (ts : List (List ℕ)) (n : ℕ) (t : List ℕ) (e : NewError) → slice_get ts n ≡ Some t →
    ((limit : ℕ) → IsNewError config t limit e) →
    ((k : ℕ) (u : List ℕ) → k < n → slice_get ts k ≡ Some u → IsPattern config u) → IsGroupsError config ts e
groups_error config ts n t NoMemory listed rejects before = tt
groups_error config ts n t (Syntax e) listed rejects before = record {
  number = n;
  text = t;
  listed = listed;
  rejected = rejects;
  before = before;
}
groups_error config ts n t (TooLarge m) listed rejects before =
    let none : m ≡ bytes_allowed 0 = (rejects 0).0 in
    let one : m ≡ bytes_allowed 1 = (rejects 1).0 in
    absurd (omega (arith, none, one))

-- one more of them is a pattern
pub one_more_read : (config : Config) (ts : List (List ℕ)) (n : ℕ) (t : List ℕ) → slice_get ts n ≡ Some t → IsPattern config t →
    ((k : ℕ) (u : List ℕ) → k < n → slice_get ts k ≡ Some u → IsPattern config u) →
    (k : ℕ) (u : List ℕ) → k < n + 1 → slice_get ts k ≡ Some u → IsPattern config u
one_more_read config ts n t listed pattern before k u below is =
    ⊎_elim (λ (earlier : k < n). before k u earlier is)
    (λ (later : n ≤ k).
    let here : n ≡ k = omega (arith, below, later) in
    subst (IsPattern config) (same_Some t u (sym listed ∙ ap (slice_get ts) here ∙ is)) pattern)
    (cases_lt k n)

-- ---- names
same_read : {A : Type 0} (a b : Names) (r : Option (A × Names)) → IsSomeAnd r (λ (x, found). a ≡ found) →
    IsSomeAnd r (λ (x, found). b ≡ found) → a ≡ b
same_read a b None p q = absurd p
same_read a b (Some x) p q = p ∙ sym q

pub names_of_number : (config : Config) (ts : List (List ℕ)) (ps : List PatternGroups) (n : ℕ) (t : List ℕ) (p : PatternGroups) (names : Names) →
    ArePatternGroups config ts ps → slice_get ts n ≡ Some t → slice_get ps n ≡ Some p → IsNamedBy config t names → names ≡ p.names
names_of_number config ts ps n t p names of is listed named =
    same_read names p.names (read config (chars t)) named (groups_at_number config ts ps n t p of is listed).named

pub a_pattern : {A : Type 0} (config : Config) (ts : List (List ℕ)) (ps : List PatternGroups) (n : ℕ) →
    ArePatternGroups config ts ps → n < length ps → slice_get ts n ≡ None → A
a_pattern config [] [] n of below none = absurd (omega (arith, below))
a_pattern config [] (p ∷ ps) n of below none = absurd of
a_pattern config (t ∷ ts) [] n of below none = absurd of
a_pattern config (t ∷ ts) (p ∷ ps) zero of below none = absurd (none-some t (sym none))
a_pattern config (t ∷ ts) (p ∷ ps) (suc n) of below none = a_pattern config ts ps n of.1 (omega (arith, below)) none
