-- What the steps of shared suffixes do to the builder and to the map: how many states they add, and that the choice can be led on.
use Rattle.std.proofs.Common.{◌≡◌, ℕ, ◌+◌, ◌-◌, ◌*◌, ◌<◌, ◌≤◌, true, false, List, [], ◌∷◌, ◌++◌, length, map, take, get_or, Some, nat_eq}
use Rattle.std.proofs.Common.{refl, sym, ap, ◌∙◌, subst, arith, append_assoc, length-append}
use Rattle.std.specs.Prelude.{All}
use Rattle.std.specs.List.{slice_get}
use Rattle.std.proofs.lemmas.List.{length-set, length-take-le, take_more, get_or-map, length-map}
use Rattle.std.proofs.lemmas.Option.{slice_get-get_or}
use Rattle.search_types.specs.Groups.{Groups}
use Rattle.hir_core.specs.Sequences.{bytes_of, utf8_sequences}
use Rattle.hir_core.specs.declared.utf8_sequences.Utf8Range.{Utf8Range}
use Rattle.hir_core.proofs.ForCallers.{sequence_short}
use Rattle.nfa_core.specs.BuilderStates.{DraftNode, Assembly, draft_at, draft_bytes, is_sparse}
use Rattle.nfa_core.specs.declared.build_error.BuildError.{BuildError}
use Rattle.thompson_nfa.specs.Added.{AddsDraft, Led}
use Rattle.thompson_nfa.specs.Compiled.{Grows}
use Rattle.thompson_nfa.specs.Refusals.{Stays, Quits}
use Rattle.thompson_nfa.specs.SharedSuffixes.{key_of, AddsRange, SharesRange, finds_state, adds_state, SharesRanges, shares_none}
use Rattle.thompson_nfa.specs.SharedSuffixes.{shares_more, AddsSequence, AddsSequences, sequences_none, sequences_more}
use Rattle.thompson_nfa.specs.SlotTables.{SlotTable, is_ready, with_held}
use Rattle.thompson_nfa.specs.declared.class_fragments.utf8_suffix_map.Utf8SuffixKey.{Utf8SuffixKey}
use Rattle.thompson_nfa.proofs.Steps.GrowLemmas.{grows_refl, grows_trans}
use Rattle.thompson_nfa.proofs.Steps.ProgressLemmas.{first_quits, step_later}
use Rattle.thompson_nfa.proofs.Classes.ScalarLemmas.{Spent, quits_later, rising_at, kind_patched}
use Rattle.thompson_nfa.proofs.Classes.ClassTrieLemmas.{got_behind}

-- ---- the map

pub ready_held : (table : SlotTable Utf8SuffixKey) (place : ℕ) (key : Utf8SuffixKey) (id : ℕ) → is_ready table ≡ true →
    is_ready (with_held table place key id) ≡ true
ready_held table place key id e = ap (λ n. nat_eq n table.capacity) (length-set table.places place (Some (key, id))) ∙ e

-- the map is still ready
abbrev pub StaysReady : SlotTable Utf8SuffixKey → SlotTable Utf8SuffixKey → Type 0
StaysReady table changed = is_ready table ≡ true → is_ready changed ≡ true

-- ---- states

spent_none : (a : Assembly) → Spent a a 0
spent_none a = record { settings = refl; longer = omega arith; states = omega arith; bytes = omega arith }

spent_wider : {a b : Assembly} {n : ℕ} (k : ℕ) → Spent a b n → n ≤ k → Spent a b k
spent_wider k p le = let x = p.states in record { settings = p.settings; longer = p.longer; states = omega arith; bytes = p.bytes }

pub spent_then : {a b c : Assembly} {n k : ℕ} → Spent a b n → Spent b c k → Spent a c (n + k)
spent_then {a} {b} {c} {n} {k} x y =
    let a1 = x.longer in let a2 = x.states in let a3 = x.bytes in let b1 = y.longer in let b2 = y.states in let b3 = y.bytes in
    record {
      settings = y.settings ∙ ap (λ (z : Assembly). record z { drafts = c.drafts; groups = c.groups }) x.settings;
      longer = omega arith;
      states = omega arith;
      bytes = omega arith;
    }

spent_added : {a b : Assembly} {id : ℕ} {draft : DraftNode} {groups : Groups} → AddsDraft a b id draft groups → draft_bytes draft ≤ 4096 →
    Spent a b 1
spent_added x le =
    let n = x.size in let s = x.bytes in
    record { settings = x.grows.settings; longer = x.grows.longer; states = omega arith; bytes = omega arith }

-- a state was added, and another has one more transition
spent_led : {a b c : Assembly} {id from to : ℕ} {draft : DraftNode} {groups : Groups} → AddsDraft a b id draft groups → Led b c from to →
    draft_bytes draft ≤ 4000 → Spent a c 1
spent_led {a} {b} {c} x l le =
    let n = x.size in let s = x.bytes in let m = l.size in let t = l.bytes in
    let led : c ≡ record b { drafts = c.drafts; groups = c.groups } =
    l.settings ∙ ap (λ gs. record b { drafts = c.drafts; groups = gs }) (sym (ap (λ (z : Assembly). z.groups) l.settings)) in
    record {
      settings = led ∙ ap (λ (z : Assembly). record z { drafts = c.drafts; groups = c.groups }) x.grows.settings;
      longer = omega arith;
      states = omega arith;
      bytes = omega arith;
    }

-- ---- one range

-- states were only added, at most one for each range
pub record Shares (a b : Assembly) (table changed : SlotTable Utf8SuffixKey) (n : ℕ) : Type 0 where
  pub grows : Grows a b
  pub spent : Spent a b n
  pub groups : b.groups ≡ a.groups
  pub capacity : changed.capacity ≡ table.capacity
  pub ready : StaysReady table changed

shares_nothing : (a : Assembly) (table : SlotTable Utf8SuffixKey) → Shares a a table table 0
shares_nothing a table = record { grows = grows_refl a; spent = spent_none a; groups = refl; capacity = refl; ready = λ e. e }

shares_wider : {a b : Assembly} {table changed : SlotTable Utf8SuffixKey} {n : ℕ} (k : ℕ) → Shares a b table changed n → n ≤ k →
    Shares a b table changed k
shares_wider k s le = record {
  grows = s.grows;
  spent = spent_wider k s.spent le;
  groups = s.groups;
  capacity = s.capacity;
  ready = s.ready;
}

shares_then : {a b c : Assembly} {m1 m2 m3 : SlotTable Utf8SuffixKey} {n k : ℕ} → Shares a b m1 m2 n → Shares b c m2 m3 k →
    Shares a c m1 m3 (n + k)
shares_then x y = record {
  grows = grows_trans x.grows y.grows;
  spent = spent_then x.spent y.spent;
  groups = y.groups ∙ x.groups;
  capacity = y.capacity ∙ x.capacity;
  ready = λ e. y.ready (x.ready e);
}

ready_added : {a b : Assembly} {table changed : SlotTable Utf8SuffixKey} {next id : ℕ} {range : ℕ × ℕ} →
    AddsRange a b table changed next range id → StaysReady table changed
ready_added {a} {b} {table} {changed} {next} {id} {range} x e =
    let P : SlotTable Utf8SuffixKey → Type 0 = λ t. is_ready t ≡ true in
    subst P (sym x.kept) (ready_held table x.place (key_of next range) id e)

adds_shares : {a b : Assembly} {table changed : SlotTable Utf8SuffixKey} {next id : ℕ} {range : ℕ × ℕ} →
    AddsRange a b table changed next range id → Shares a b table changed 1
adds_shares x = record {
  grows = x.added.grows;
  spent = spent_added x.added (omega arith);
  groups = x.added.groups_are;
  capacity = ap (λ (t : SlotTable Utf8SuffixKey). t.capacity) x.kept;
  ready = ready_added x;
}

range_shares : {a b : Assembly} {table changed : SlotTable Utf8SuffixKey} {next id : ℕ} {range : ℕ × ℕ} →
    SharesRange a b table changed next range id → Shares a b table changed 1
range_shares {a} {b} {table} {changed} (finds_state place at same kept) =
    let P : Assembly → Type 0 = λ z. Shares a z table changed 1 in
    let Q : SlotTable Utf8SuffixKey → Type 0 = λ t. Shares a a table t 1 in
    subst P (sym same) (subst Q (sym kept) (shares_wider 1 (shares_nothing a table) (omega arith)))
range_shares (adds_state x) = adds_shares x

-- ---- ranges of a sequence

pub ranges_share : {end : ℕ} {a : Assembly} {table : SlotTable Utf8SuffixKey} {b : Assembly} {changed : SlotTable Utf8SuffixKey} {id : ℕ}
    {rs : List (ℕ × ℕ)} → SharesRanges end a table b changed id rs → Shares a b table changed (length rs)
ranges_share {end} {a} {table} shares_none = shares_nothing a table
ranges_share (shares_more mid new kept last next state rs r before step) =
    let sum : length (rs ++ r ∷ []) ≡ length rs + 1 = length-append rs (r ∷ []) in
    shares_wider (length (rs ++ r ∷ [])) (shares_then (ranges_share before) (range_shares step)) (omega (arith, sum))

-- states for the first i ranges
pub record SharesUpTo (a b : Assembly) (table changed : SlotTable Utf8SuffixKey) (end id i : ℕ) (rs : List (ℕ × ℕ)) : Type 0 where
  pub shares : SharesRanges end a table b changed id (take i rs)
  pub within : i ≤ length rs

pub none_shared : (a : Assembly) (table : SlotTable Utf8SuffixKey) (end : ℕ) (rs : List (ℕ × ℕ)) → SharesUpTo a a table table end end 0 rs
none_shared a table end rs = record { shares = shares_none; within = omega arith }

module _ (a b : Assembly) (table changed : SlotTable Utf8SuffixKey) (end id i : ℕ) (rs : List (ℕ × ℕ))
    (so_far : SharesUpTo a b table changed end id i rs) where
  pub ready_up_to : is_ready table ≡ true → is_ready changed ≡ true
  ready_up_to e = (ranges_share so_far.shares).ready e

  pub capacity_up_to : changed.capacity ≡ table.capacity
  capacity_up_to = (ranges_share so_far.shares).capacity

  pub places_up_to : 0 < table.capacity → 0 < changed.capacity
  places_up_to l = let e = capacity_up_to in omega (arith, e)

  pub range_refused : (c : Assembly) (e : BuildError) (many : ℕ) → i < many → Stays b c 1 24 e → Quits a c many e
  range_refused c e many less r =
      let long : length (take i rs) ≡ i = length-take-le i rs so_far.within in
      quits_later many (ranges_share so_far.shares).spent (first_quits 1 r (omega arith) (omega arith)) (omega (arith, long))

  pub shared_more : (c : Assembly) (last : SlotTable Utf8SuffixKey) (state : ℕ) (r d : ℕ × ℕ) → r ≡ get_or rs i d → i < length rs →
      SharesRange b c changed last id r state → SharesUpTo a c table last end state (i + 1) rs
  shared_more c last state r d is less step =
      let P : List (ℕ × ℕ) → Type 0 = λ qs. SharesRanges end a table c last state qs in
      let more : take (i + 1) rs ≡ take i rs ++ r ∷ [] = take_more rs i d less ∙ ap (λ (x : ℕ × ℕ). take i rs ++ x ∷ []) (sym is) in
      record { shares = subst P (sym more) (shares_more b c changed last id state (take i rs) r so_far.shares step); within = omega arith }

-- the lemma above, with the ranges as the code has them
pub next_shared : (a b : Assembly) (table changed : SlotTable Utf8SuffixKey) (end id i : ℕ) (ranges : List Utf8Range) →
    SharesUpTo a b table changed end id i (map bytes_of ranges) →
    (c : Assembly) (last : SlotTable Utf8SuffixKey) (state : ℕ) (d : Utf8Range) → i < length ranges →
    SharesRange b c changed last id (bytes_of (get_or ranges i d)) state →
    SharesUpTo a c table last end state (i + 1) (map bytes_of ranges)
next_shared a b table changed end id i ranges so_far c last state d less step =
    let long : length (map bytes_of ranges) ≡ length ranges = length-map ranges bytes_of in
    shared_more a b table changed end id i (map bytes_of ranges) so_far c last state (bytes_of (get_or ranges i d)) (bytes_of d)
    (sym (get_or-map bytes_of ranges i d (bytes_of d) less)) (omega (arith, long, less)) step

-- ---- a sequence

module _ (a b c : Assembly) (table kept changed : SlotTable Utf8SuffixKey) (m next first : ℕ) (rs : List (ℕ × ℕ)) (r : ℕ × ℕ)
    (shares : SharesRanges m a table b kept next rs) (adds : AddsRange b c kept changed next r first) where
  pub still_there : (u : ℕ) → u < length a.drafts → u < length c.drafts
  still_there u l = let x = (ranges_share shares).grows.longer in let y = adds.added.grows.longer in omega arith

  still_part : (u : ℕ) → u < length a.drafts → draft_at c.drafts u ≡ draft_at a.drafts u
  still_part u l = let g = (ranges_share shares).grows in let x = g.longer in adds.added.grows.same u (omega arith) ∙ g.same u l

  pub still_kind : (u : ℕ) → u < length a.drafts → is_sparse (draft_at a.drafts u) ≡ false → is_sparse (draft_at c.drafts u) ≡ false
  still_kind u l kind = ap is_sparse (still_part u l) ∙ kind

  -- adding the choice's transition fails
  pub way_refused : (d : Assembly) (e : BuildError) → length rs ≤ 3 → Stays c d 0 4 e → Quits a d 4 e
  way_refused d e few r =
      let s = (ranges_share shares).spent in
      let x = adds.added in
      let longer = s.longer in let states = s.states in let bytes = s.bytes in let size = x.size in let more = x.bytes in
      let both = spent_then s (spent_added x (omega arith)) in
      let P : Assembly → Type 0 = λ z. z ≡ record a { drafts = z.drafts; groups = z.groups } in
      record {
        settings = subst P (sym r.same) both.settings;
        cause = step_later a c 0 4 4 4 e (ap (λ (z : Assembly). z.size_limit) both.settings) (omega arith) (omega arith)
            (omega arith) r.cause;
      }

-- adding the last range's state fails
pub last_refused : (a b c : Assembly) (table kept : SlotTable Utf8SuffixKey) (m next : ℕ) (rs : List (ℕ × ℕ)) (e : BuildError) →
    SharesRanges m a table b kept next rs → length rs ≤ 3 → Stays b c 1 24 e → Quits a c 4 e
last_refused a b c table kept m next rs e shares few r = quits_later 4 (ranges_share shares).spent
    (first_quits 1 r (omega arith) (omega arith)) (omega arith)

-- states were added, and the choice may have more transitions
pub record Steps (a b : Assembly) (table changed : SlotTable Utf8SuffixKey) (n : ℕ) : Type 0 where
  pub spent : Spent a b n
  pub groups : b.groups ≡ a.groups
  pub capacity : changed.capacity ≡ table.capacity
  pub ready : StaysReady table changed

steps_then : {a b c : Assembly} {t1 t2 t3 : SlotTable Utf8SuffixKey} {n k : ℕ} → Steps a b t1 t2 n → Steps b c t2 t3 k →
    Steps a c t1 t3 (n + k)
steps_then x y = record {
  spent = spent_then x.spent y.spent;
  groups = y.groups ∙ x.groups;
  capacity = y.capacity ∙ x.capacity;
  ready = λ e. y.ready (x.ready e);
}

pub sequence_steps : {a b : Assembly} {table changed : SlotTable Utf8SuffixKey} {u m : ℕ} {rs : List (ℕ × ℕ)} →
    AddsSequence a b table changed u m rs → Steps a b table changed 4
sequence_steps {a} {b} {table} {changed} {u} {m} {rs} one =
    let s = ranges_share one.shares in
    let x = one.adds in
    let few = one.few in
    let sum : length one.others + 1 ≡ length rs = sym (length-append one.others (one.last ∷ [])) ∙ ap length one.split in
    record {
      spent = spent_wider 4 (spent_then s.spent (spent_led x.added one.leads (omega arith))) (omega (arith, sum, few));
      groups = ap (λ (z : Assembly). z.groups) one.leads.settings ∙ x.added.groups_are ∙ s.groups;
      capacity = ap (λ (t : SlotTable Utf8SuffixKey). t.capacity) x.kept ∙ s.capacity;
      ready = λ e. ready_added x (s.ready e);
    }

pub sequences_steps : {u m : ℕ} {a : Assembly} {table : SlotTable Utf8SuffixKey} {b : Assembly} {changed : SlotTable Utf8SuffixKey}
    {qs : List (List (ℕ × ℕ))} → AddsSequences u m a table b changed qs →
    Steps a b table changed (4 * length qs)
sequences_steps {u} {m} {a} {table} sequences_none = record {
  spent = spent_wider (4 * 0) (spent_none a) (omega arith);
  groups = refl;
  capacity = refl;
  ready = λ e. e;
}
sequences_steps {u} {m} {a} {table} (sequences_more mid new kept last qs rs before one) =
    let x = steps_then (sequences_steps before) (sequence_steps one) in
    let sum : 4 * length qs + 4 ≡ 4 * length (qs ++ rs ∷ []) = omega (arith, length-append qs (rs ∷ [])) in
    let P : ℕ → Type 0 = λ k. Steps a new table last k in
    subst P sum x

-- the choice can still be led on
pub sequences_kind : (u m : ℕ) (a : Assembly) (table : SlotTable Utf8SuffixKey) (b : Assembly) (changed : SlotTable Utf8SuffixKey)
    (qs : List (List (ℕ × ℕ))) →
    AddsSequences u m a table b changed qs → u < length a.drafts → is_sparse (draft_at a.drafts u) ≡ false →
    is_sparse (draft_at b.drafts u) ≡ false
sequences_kind u m a table _ _ _ sequences_none l kind = kind
sequences_kind u m a table _ _ _ (sequences_more mid new kept last qs rs before one) l kind =
    let longer = (sequences_steps before).spent.longer in
    ap is_sparse one.leads.here ∙ kind_patched one.first (draft_at one.whole.drafts u)
    ∙ still_kind mid one.shared one.whole kept one.kept last m one.next one.first one.others one.last one.shares one.adds u (omega arith)
    (sequences_kind u m a table mid kept qs before l kind)

-- ---- the sequences of a range

-- branches for the sequences that were met, of which `left` are still to come
pub record MetSequences (a b : Assembly) (table changed : SlotTable Utf8SuffixKey) (u m lo hi : ℕ)
    (left : List (List (ℕ × ℕ))) : Type 0 where
  pub met : List (List (ℕ × ℕ))
  pub split : met ++ left ≡ utf8_sequences lo hi
  pub added : AddsSequences u m a table b changed met

pub none_met : (a : Assembly) (table : SlotTable Utf8SuffixKey) (u m lo hi : ℕ) (left : List (List (ℕ × ℕ))) → left ≡ utf8_sequences lo hi →
    MetSequences a a table table u m lo hi left
none_met a table u m lo hi left e = record { met = []; split = e; added = sequences_none }

module _ (a b : Assembly) (table changed : SlotTable Utf8SuffixKey) (u m lo hi : ℕ) (left : List (List (ℕ × ℕ)))
    (so_far : MetSequences a b table changed u m lo hi left) where
  pub met_ready : is_ready table ≡ true → is_ready changed ≡ true
  met_ready e = (sequences_steps so_far.added).ready e

  pub met_capacity : changed.capacity ≡ table.capacity
  met_capacity = (sequences_steps so_far.added).capacity

  pub met_there : u < length a.drafts → u < length b.drafts
  met_there l = let longer = (sequences_steps so_far.added).spent.longer in omega arith

  pub met_kind : u < length a.drafts → is_sparse (draft_at a.drafts u) ≡ false → is_sparse (draft_at b.drafts u) ≡ false
  met_kind l kind = sequences_kind u m a table b changed so_far.met so_far.added l kind

  module _ (rest : List (List (ℕ × ℕ))) (rs : List (ℕ × ℕ)) (e : left ≡ rs ∷ rest) where
    place : slice_get (utf8_sequences lo hi) (length so_far.met) ≡ Some rs
    place = ap (λ (qs : List (List (ℕ × ℕ))). slice_get qs (length so_far.met)) (sym so_far.split
        ∙ ap (λ (qs : List (List (ℕ × ℕ))). so_far.met ++ qs) e) ∙ got_behind so_far.met rs rest

    pub met_rising : All (λ r. r.0 ≤ r.1) rs
    met_rising k d l = ((sequence_short lo hi (length so_far.met) rs place).2 k (get_or rs k d) (slice_get-get_or rs k d l)).0

    pub met_refused : (c : Assembly) (err : BuildError) → Quits b c 4 err → Quits a c (4 * length (utf8_sequences lo hi)) err
    met_refused c err r =
        let sum : length (so_far.met ++ rs ∷ rest) ≡ length so_far.met + length (rs ∷ rest) = length-append so_far.met (rs ∷ rest) in
        let same : length (so_far.met ++ rs ∷ rest) ≡ length (utf8_sequences lo hi) =
        ap length (ap (λ (qs : List (List (ℕ × ℕ))). so_far.met ++ qs) (sym e) ∙ so_far.split) in
        quits_later (4 * length (utf8_sequences lo hi)) (sequences_steps so_far.added).spent r (omega (arith, sum, same))

    pub met_next : (c : Assembly) (last : SlotTable Utf8SuffixKey) → AddsSequence b c changed last u m rs →
        MetSequences a c table last u m lo hi rest
    met_next c last one = record {
      met = so_far.met ++ rs ∷ [];
      split = append_assoc so_far.met (rs ∷ []) rest ∙ ap (λ (qs : List (List (ℕ × ℕ))). so_far.met ++ qs) (sym e) ∙ so_far.split;
      added = sequences_more b c changed last so_far.met rs so_far.added one;
    }

-- the ranges before the last one, and that one
pub others_few : (ranges all : List Utf8Range) → ranges ≡ all → length (map bytes_of all) ≤ 4 →
    length (take (length ranges - 1) (map bytes_of ranges)) ≤ 3
others_few ranges all e few =
    let same : length ranges ≡ length all = ap length e in
    let long : length (map bytes_of all) ≡ length all = length-map all bytes_of in
    let here : length (map bytes_of ranges) ≡ length ranges = length-map ranges bytes_of in
    let taken : length (take (length ranges - 1) (map bytes_of ranges)) ≡ length ranges - 1 =
    length-take-le (length ranges - 1) (map bytes_of ranges) (omega (arith, here)) in
    omega (arith, taken, same, long, few)

pub last_rising : (ranges all : List Utf8Range) (d : Utf8Range) → ranges ≡ all → 1 ≤ length (map bytes_of all) →
    All (λ r. r.0 ≤ r.1) (map bytes_of all) → (get_or ranges (length ranges - 1) d).start ≤ (get_or ranges (length ranges - 1) d).end
last_rising ranges all d e some rising =
    let same : length ranges ≡ length all = ap length e in
    let long : length (map bytes_of all) ≡ length all = length-map all bytes_of in
    let P : List Utf8Range → Type 0 = λ rs. All (λ r. r.0 ≤ r.1) (map bytes_of rs) in
    rising_at ranges (length ranges - 1) d (subst P (sym e) rising) (omega (arith, same, long, some))
