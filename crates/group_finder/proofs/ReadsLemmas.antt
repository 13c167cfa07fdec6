-- What patterns without groups read.
use Rattle.std.proofs.Common.{◌≡◌, ℕ, zero, suc, ◌+◌, ◌-◌, ◌*◌, ◌<◌, ◌≤◌, min, Bool, true, false, ◌&&◌, List, [], ◌∷◌, All, length, drop, take, Option, Some, None, IfSome, IfNone, get_or, slice_get, slice_index, slice_set, if◌then◌else◌, nat_lt, refl, sym, ap, ◌∙◌, subst, ⊎_elim, ◌⊎◌, inl, inr, arith, get_or-drop, true≢false}
use Rattle.std.proofs.lemmas.Bool.{and_from, and_parts, cases_eq, cases_lt}
use Rattle.std.proofs.lemmas.List.{get_or_append_left, get_or-set_same, get_or-set_other, length-set, take_all, take_more}
use Rattle.std.proofs.lemmas.List.Elements.{All-append, All-cons, All-get_or, All-nil, All-weaker}
use Rattle.std.proofs.lemmas.Option.{none-some, same_Some, slice_get_within, get_or_from_slice_get}
use Rattle.std.proofs.lemmas.Str.{byte_from_char, inside_one, length-encode, len_utf8_ascii, len_utf8_bounds}
use Rattle.std.specs.Char.{len_utf8}
use Rattle.regex_class.specs.Ranges.{in_ranges}
use Rattle.regex_hir.specs.Text.{has_bytes_at, char_at}
use Rattle.regex_hir.specs.Re.{Re, empty, literal, byte_in, char_in, look, cat, alt, plus, Trace, Rest, rounds, attempt}
use Rattle.regex_hir.specs.Meaning.{copies, optional, up_to, at_least, repeat}
use Rattle.regex_hir.specs.declared.look.Look.{Look}
use Rattle.regex_hir.proofs.TextLemmas.{has_bytes_at_parts, char_at_parts, char_at_fits}
use Rattle.regex_hir.proofs.OptionLemmas.{option_or_cases, prefer_cases}
use Rattle.regex_hir.proofs.AttemptLemmas.{cond_some, option_and_then_some, is_some_and_parts}
use Rattle.search_core.specs.ByteSets.{has}
use Rattle.group_finder.specs.declared.lengths.Lengths.{Lengths}
use Rattle.group_finder.specs.Layouts.{MayRead, Reads, ReadsTo, Widens}

-- ---- sets
pub widens_none : (s : List Bool) → Widens s s
widens_none s = record { same_length = refl; stays = λ b h. h }

pub widens_both : (a b c : List Bool) → Widens a b → Widens b c → Widens a c
widens_both a b c p q = record { same_length = q.same_length ∙ p.same_length; stays = λ x h. q.stays x (p.stays x h) }

pub added_there : (s : List Bool) (b : ℕ) → b < length s → has (slice_set s b true) b ≡ true
added_there s b inside = get_or-set_same s b true false inside

pub widens_added : (s : List Bool) (b : ℕ) → b < length s → Widens s (slice_set s b true)
widens_added s b inside = record {
  same_length = length-set s b true;
  stays = λ x h. ⊎_elim
      (λ (e : x ≡ b). ap (has (slice_set s b true)) e ∙ added_there s b inside)
      (λ (n : x ≡ b → ⊥). get_or-set_other s b x true false n ∙ h)
      (cases_eq x b);
}

pub not_true : (b : Bool) → (b ≡ true → ⊥) → b ≡ false
not_true true n = absurd (n refl)
not_true false n = refl

true_or_false : (b : Bool) → (b ≡ true) ⊎ (b ≡ false)
true_or_false true = inl refl
true_or_false false = inr refl

-- ---- what is read
pub reads_more : (a : Re) (s t : List Bool) (n : Lengths) → Widens s t → Reads a s n → Reads a t n
unfolding Reads
reads_more a s t n w r h bytes k i u e =
    let it = r h bytes k i u e in
    record { at = it.at; gave = it.gave; least = it.least; exact = it.exact; bytes = λ x from below. w.stays _ (it.bytes x from below) }

-- nothing is read
stands : (h : List ℕ) (k : Rest) (i : ℕ) (t : Trace) (s : List Bool) → k i ≡ Some t → ReadsTo h k i t s (record { least = 0; fixed = true })
stands h k i t s e = record {
  at = i;
  gave = e;
  least = omega arith;
  exact = λ _. omega arith;
  bytes = λ x from below. absurd (omega (arith, from, below));
}

pub reads_empty : (s : List Bool) → Reads empty s (record { least = 0; fixed = true })
unfolding Reads attempt
reads_empty s h bytes k i t e = stands h k i t s e

pub reads_look : (l : Look) (s : List Bool) → Reads (look l) s (record { least = 0; fixed = true })
unfolding Reads attempt
reads_look l s h bytes k i t e = stands h k i t s (cond_some _ _ t e).1

pub reads_literal : (bs : List ℕ) (s : List Bool) → All (λ b. has s b ≡ true) bs → Reads (literal bs) s (record { least = length bs; fixed = true })
unfolding Reads attempt
reads_literal bs s all h bytes k i t e =
    let c = cond_some (has_bytes_at h i bs) _ t e in
    let parts = has_bytes_at_parts h i bs c.0 in
    record {
      at = i + length bs;
      gave = c.1;
      least = omega arith;
      exact = λ _. refl;
      bytes = λ x from below.
          let back : i + (x - i) ≡ x = omega (arith, from) in
          let here : get_or bs (x - i) 0 ≡ slice_index h x =
          sym (get_or_append_left bs (drop (i + length bs) h) 0 (x - i) (omega (arith, from, below)))
          ∙ ap (λ (ys : List ℕ). get_or ys (x - i) 0) (sym parts)
          ∙ get_or-drop i h (x - i) 0
          ∙ ap (λ n. get_or h n 0) back in
          subst (λ b. has s b ≡ true) here (All-get_or (λ b. has s b ≡ true) bs (x - i) 0 (omega (arith, from, below)) all);
    }

-- the byte at an offset of the haystack
small_at : (h : List ℕ) → All (λ x. x < 256) h → (x : ℕ) → x < length h → slice_index h x < 256
small_at h bytes x inside = All-get_or (λ b. b < 256) h x 0 inside bytes

pub reads_byte_in : (rs : List (ℕ × ℕ)) (s : List Bool) → ((b : ℕ) → b < 256 → in_ranges rs b ≡ true → has s b ≡ true) →
    Reads (byte_in rs) s (record { least = 1; fixed = true })
unfolding Reads attempt
reads_byte_in rs s all h bytes k i t e =
    let c = cond_some _ _ t e in
    let p = is_some_and_parts (slice_get h i) (in_ranges rs) c.0 in
    let read : slice_index h i ≡ p.0 = get_or_from_slice_get h i p.0 0 p.1 in
    let small : p.0 < 256 = omega (arith, read, small_at h bytes i (slice_get_within h i p.0 p.1)) in
    record {
      at = i + 1;
      gave = c.1;
      least = omega arith;
      exact = λ _. refl;
      bytes = λ x from below.
          let here : i ≡ x = omega (arith, from, below) in
          subst (λ b. has s b ≡ true) (sym read ∙ ap (slice_index h) here) (all p.0 small p.2);
    }

-- the bytes that spell a character of a class
spelled : (rs : List (ℕ × ℕ)) (s : List Bool) (h : List ℕ) → All (λ x. x < 256) h → (i c x : ℕ) → char_at h i ≡ Some c →
    in_ranges rs c ≡ true → ((c : ℕ) → c < 128 → in_ranges rs c ≡ true → has s c ≡ true) →
    ((c : ℕ) → 128 ≤ c → in_ranges rs c ≡ true → (b : ℕ) → 128 ≤ b → b < 256 → has s b ≡ true) → i ≤ x → x < i + len_utf8 c →
    has s (slice_index h x) ≡ true
spelled rs s h bytes i c x found member ascii high from below =
    let parts = char_at_parts h i c found in
    let back : i + (x - i) ≡ x = omega (arith, from) in
    let there : get_or (drop i h) (x - i) 0 ≡ slice_index h x = get_or-drop i h (x - i) 0 ∙ ap (λ n. get_or h n 0) back in
    let inside : x < length h = omega (arith, char_at_fits h i c found, below) in
    ⊎_elim
    (λ (low : slice_index h x < 128).
    let one : c ≡ get_or (drop i h) (x - i) 0 =
    inside_one c (drop (i + len_utf8 c) h) (drop i h) (x - i) parts.1 (omega (arith, length-encode c, from, below)) (omega (arith, there, low)) in
    let same : c ≡ slice_index h x = one ∙ there in
    subst (λ b. has s b ≡ true) same (ascii c (omega (arith, same, low)) member))
    (λ (up : 128 ≤ slice_index h x).
    let large : 128 ≤ c = ⊎_elim
    (λ (less : c < 128).
    let first : x ≡ i = omega (arith, from, below, len_utf8_ascii c less) in
    let start : x - i ≡ 0 = omega (arith, first) in
    let is : get_or (drop i h) 0 0 ≡ c = byte_from_char (drop i h) (drop (i + len_utf8 c) h) c parts.1 less in
    let value : slice_index h x ≡ c = sym there ∙ ap (λ n. get_or (drop i h) n 0) start ∙ is in
    absurd (omega (arith, value, up, less)))
    (λ (more : 128 ≤ c). more)
    (cases_lt c 128) in
    high c large member (slice_index h x) up (small_at h bytes x inside))
    (cases_lt (slice_index h x) 128)

pub reads_char_in : (rs : List (ℕ × ℕ)) (s : List Bool) (fixed : Bool) → ((c : ℕ) → c < 128 → in_ranges rs c ≡ true → has s c ≡ true) →
    ((c : ℕ) → 128 ≤ c → in_ranges rs c ≡ true → (b : ℕ) → 128 ≤ b → b < 256 → has s b ≡ true) →
    (fixed ≡ true → (c : ℕ) → in_ranges rs c ≡ true → c ≤ 127) → Reads (char_in rs) s (record { least = 1; fixed = fixed })
unfolding Reads attempt
reads_char_in rs s fixed ascii high alone h bytes k i t e =
    let c = option_and_then_some (λ (x : ℕ). if in_ranges rs x then k (i + len_utf8 x) else None) (char_at h i) t e in
    let d = cond_some (in_ranges rs c.0) (k (i + len_utf8 c.0)) t c.2 in
    record {
      at = i + len_utf8 c.0;
      gave = d.1;
      least = omega (arith, (len_utf8_bounds c.0).0);
      exact = λ f. let small = alone f c.0 d.0 in omega (arith, len_utf8_ascii c.0 (omega (arith, small)));
      bytes = λ x from below. spelled rs s h bytes i c.0 x c.1 d.0 ascii high from below;
    }

-- ---- lengths that say less
pub reads_weaker : (a : Re) (s : List Bool) (m n : Lengths) → n.least ≤ m.least →
    (n.fixed ≡ true → (m.fixed ≡ true) × (m.least ≡ n.least)) → Reads a s m → Reads a s n
unfolding Reads
reads_weaker a s m n less exact r h bytes k i t e =
    let it = r h bytes k i t e in
    record {
      at = it.at;
      gave = it.gave;
      least = omega (arith, it.least, less);
      exact = λ f. let x = exact f in omega (arith, it.exact x.0, x.1);
      bytes = it.bytes;
    }

-- ---- one part after another
reads_on : (h : List ℕ) (k q : Rest) (i : ℕ) (t : Trace) (s : List Bool) (m n : Lengths) → (x : ReadsTo h q i t s m) →
    ReadsTo h k x.at t s n → ReadsTo h k i t s (record { least = m.least + n.least; fixed = m.fixed && n.fixed })
reads_on h k q i t s m n x y = record {
  at = y.at;
  gave = y.gave;
  least = omega (arith, x.least, y.least);
  exact = λ f. let b = and_parts _ _ f in omega (arith, x.exact b.0, y.exact b.1);
  bytes = λ j from below. ⊎_elim (λ (here : j < x.at). x.bytes j from here) (λ (there : x.at ≤ j). y.bytes j there below) (cases_lt j x.at);
}

pub reads_cat : (a b : Re) (s : List Bool) (m n : Lengths) → Reads a s m → Reads b s n →
    Reads (cat a b) s (record { least = m.least + n.least; fixed = m.fixed && n.fixed })
unfolding Reads attempt
reads_cat a b s m n first second h bytes k i t e =
    let x = first h bytes (attempt h b k) i t e in
    reads_on h k (attempt h b k) i t s m n x (second h bytes k x.at t x.gave)

pub reads_alt : (a b : Re) (s : List Bool) (n : Lengths) → Reads a s n → Reads b s n → Reads (alt a b) s n
unfolding Reads attempt
reads_alt a b s n first second h bytes k i t e =
    ⊎_elim (λ x. first h bytes k i t x) (λ y. second h bytes k i t y.1) (option_or_cases _ _ t e)

pub reads_no_byte : (s : List Bool) (n : Lengths) → Reads (byte_in []) s n
unfolding Reads attempt in_ranges
reads_no_byte s n h bytes k i t e =
    let p = is_some_and_parts (slice_get h i) (in_ranges []) (cond_some _ _ t e).0 in
    absurd (true≢false (sym p.2))

-- ---- rounds
looser : (h : List ℕ) (k : Rest) (i : ℕ) (t : Trace) (s : List Bool) (m n : Lengths) → n.least ≤ m.least → n.fixed ≡ false →
    ReadsTo h k i t s m → ReadsTo h k i t s n
looser h k i t s m n less loose x = record {
  at = x.at;
  gave = x.gave;
  least = omega (arith, x.least, less);
  exact = λ f. absurd (true≢false (sym f ∙ loose));
  bytes = x.bytes;
}

module _ (a : Re) (s : List Bool) (m : Lengths) (each : Reads a s m) (h : List ℕ) (bytes : All (λ x. x < 256) h) where
  rounds_read : (greedy : Bool) (k : Rest) (n j : ℕ) (t : Trace) → rounds greedy (attempt h a) k n j ≡ Some t →
      ReadsTo h k j t s (record { least = 0; fixed = false })
  unfolding rounds Reads
  rounds_read greedy k zero j t e = looser h k j t s _ _ (omega arith) refl (stands h k j t s e)
  rounds_read greedy k (suc n) j t e =
      ⊎_elim
      (λ round.
      let x = each h bytes _ j t round in
      let next = (cond_some (nat_lt j x.at) _ t x.gave).1 in
      looser h k j t s _ _ (omega arith) refl (reads_on h k _ j t s m _ x (rounds_read greedy k n x.at t next)))
      (λ leave. looser h k j t s _ _ (omega arith) refl (stands h k j t s leave))
      (prefer_cases greedy _ (k j) t e)

  after_first : (greedy : Bool) (k : Rest) (b : Bool) (n j : ℕ) (t : Trace) →
      (if b then rounds greedy (attempt h a) k n j else k j) ≡ Some t → ReadsTo h k j t s (record { least = 0; fixed = false })
  after_first greedy k true n j t e = rounds_read greedy k n j t e
  after_first greedy k false n j t e = looser h k j t s _ _ (omega arith) refl (stands h k j t s e)

pub reads_plus : (greedy : Bool) (a : Re) (s : List Bool) (m : Lengths) → Reads a s m →
    Reads (plus greedy a) s (record { least = m.least; fixed = false })
unfolding Reads attempt
reads_plus greedy a s m each h bytes k i t e =
    let x = each h bytes _ i t e in
    looser h k i t s _ _ (omega arith) refl
    (reads_on h k _ i t s m _ x (after_first a s m each h bytes greedy k (nat_lt i x.at) (length h - x.at) x.at t x.gave))

-- ---- repetitions
pub reads_copies : (count : ℕ) (a b : Re) (s : List Bool) (m n : Lengths) → Reads a s m → Reads b s n → (all : Lengths) →
    all.least ≡ m.least * count + n.least → (all.fixed ≡ true → (m.fixed ≡ true) × (n.fixed ≡ true)) → Reads (copies count a b) s all
reads_copies zero a b s m n first last all total exact =
    reads_weaker b s n all (omega (arith, total)) (λ f. ((exact f).1, omega (arith, total))) last
reads_copies (suc count) a b s m n first last all total exact =
    let rest : Lengths = record { least = m.least * count + n.least; fixed = all.fixed } in
    reads_weaker _ s _ all (omega (arith, total))
    (λ f. (and_from _ _ (exact f).0 f, omega (arith, total)))
    (reads_cat a _ s m rest first (reads_copies count a b s m n first last rest refl exact))

reads_optional : (greedy : Bool) (a : Re) (s : List Bool) (m : Lengths) → Reads a s m → Reads (optional greedy a) s (record { least = 0; fixed = false })
reads_optional true a s m r =
    reads_alt a empty s _ (reads_weaker a s m _ (omega arith) (λ f. absurd (true≢false (sym f))) r)
    (reads_weaker empty s _ _ (omega arith) (λ f. absurd (true≢false (sym f))) (reads_empty s))
reads_optional false a s m r =
    reads_alt empty a s _ (reads_weaker empty s _ _ (omega arith) (λ f. absurd (true≢false (sym f))) (reads_empty s))
    (reads_weaker a s m _ (omega arith) (λ f. absurd (true≢false (sym f))) r)

reads_up_to : (greedy : Bool) (count : ℕ) (a : Re) (s : List Bool) (m : Lengths) → Reads a s m →
    Reads (up_to greedy count a) s (record { least = 0; fixed = false })
reads_up_to greedy zero a s m r = reads_weaker empty s _ _ (omega arith) (λ f. absurd (true≢false (sym f))) (reads_empty s)
reads_up_to greedy (suc count) a s m r =
    reads_optional greedy _ s _ (reads_cat a _ s m _ r (reads_up_to greedy count a s m r))

reads_at_least : (greedy : Bool) (least : ℕ) (a : Re) (s : List Bool) (m all : Lengths) → Reads a s m → all.least ≡ m.least * least →
    all.fixed ≡ false → Reads (at_least greedy least a) s all
reads_at_least greedy zero a s m all r total loose =
    reads_weaker _ s _ all (omega (arith, total)) (λ f. absurd (true≢false (sym f ∙ loose))) (reads_optional greedy _ s _ (reads_plus greedy a s m r))
reads_at_least greedy (suc least) a s m all r total loose =
    reads_copies least a _ s m _ r (reads_plus greedy a s m r) all (omega (arith, total)) (λ f. absurd (true≢false (sym f ∙ loose)))

pub reads_repeat : (least : ℕ) (most : Option ℕ) (greedy : Bool) (a : Re) (s : List Bool) (m all : Lengths) → Reads a s m →
    all.least ≡ m.least * least → (all.fixed ≡ true → (m.fixed ≡ true) × (most ≡ Some least)) → Reads (repeat least most greedy a) s all
unfolding repeat
reads_repeat least None greedy a s m all r total exact =
    reads_at_least greedy least a s m all r total (not_true all.fixed (λ f. none-some least (exact f).1))
reads_repeat least (Some most) greedy a s m all r total exact =
    ⊎_elim
    (λ (f : all.fixed ≡ true).
    let same : most ≡ least = same_Some most least (exact f).1 in
    let none : most - least ≡ 0 = omega (arith, same) in
    reads_copies least a _ s m (record { least = 0; fixed = true }) r
    (subst (λ (n : ℕ). Reads (up_to greedy n a) s (record { least = 0; fixed = true })) (sym none) (reads_empty s)) all
    (omega (arith, total)) (λ _. ((exact f).0, refl)))
    (λ (f : all.fixed ≡ false).
    reads_copies least a _ s m (record { least = 0; fixed = false }) r (reads_up_to greedy (most - least) a s m r) all
    (omega (arith, total)) (λ t. absurd (true≢false (sym t ∙ f))))
    (true_or_false all.fixed)

-- ---- the answers of functions
abbrev pub exactly : ℕ → Lengths
exactly n = record { least = n; fixed = true }

pub reads_as : (a b : Re) (s : List Bool) (m n : Lengths) → a ≡ b → m ≡ n → Reads b s n → Reads a s m
reads_as a b s m n same lens r = subst (λ x. Reads x s m) (sym same) (subst (Reads b s) (sym lens) r)

pub repeat_reads : (x : Re) (least : ℕ) (most : Option ℕ) (greedy : Bool) (a : Re) (s : List Bool) (m : Lengths) (o : Option Lengths) →
    x ≡ repeat least most greedy a → Reads a s m →
    IfSome o (λ n. (n.least ≡ m.least * least) × (n.fixed ≡ true → (m.fixed ≡ true) × (most ≡ Some least))) → IfSome o (Reads x s)
repeat_reads x least most greedy a s m None same r lens = lens
repeat_reads x least most greedy a s m (Some n) same r lens =
    subst (λ y. Reads y s n) (sym same) (reads_repeat least most greedy a s m n r lens.0 lens.1)

pub may_more : (b : Re) (s t : List Bool) (o : Option Lengths) → Widens s t → MayRead b s o → MayRead b t o
may_more b s t None w may = (may.0, λ n. reads_more b s t n w (may.1 n))
may_more b s t (Some x) w may = (reads_more b s t x w may.0, may.1)

pub either_reads : (a b : Re) (s : List Bool) (m n : Lengths) (o : Option Lengths) → Reads a s m → MayRead b s o → IfNone o (n ≡ m) →
    IfSome o (λ x. (n.least ≡ min m.least x.least) × (n.fixed ≡ true → (m.fixed ≡ true) × (x.fixed ≡ true) × (m.least ≡ x.least))) →
    Reads (alt a b) s n
either_reads a b s m n None r may alone both = subst (Reads (alt a b) s) (sym alone) (reads_alt a b s m r (may.1 m))
either_reads a b s m n (Some x) r may alone both =
    reads_alt a b s n
    (reads_weaker a s m n (omega (arith, both.0)) (λ f. let z = both.1 f in (z.0, omega (arith, both.0, z.2))) r)
    (reads_weaker b s x n (omega (arith, both.0)) (λ f. let z = both.1 f in (z.1, omega (arith, both.0, z.2))) may.0)

-- bytes that are added one after the other
pub one_more_added : (first old new : List Bool) (bs : List ℕ) (i b : ℕ) → length first ≡ 256 → i < length bs → get_or bs i 0 < 256 →
    b ≡ get_or bs i 0 → new ≡ slice_set old b true → Widens first old × All (λ b. has old b ≡ true) (take i bs) →
    Widens first new × All (λ b. has new b ≡ true) (take (i + 1) bs)
one_more_added first old new bs i b whole inside small is put so_far =
    let room : b < length old = omega (arith, is, small, so_far.0.same_length, whole) in
    let wider : Widens old new = subst (Widens old) (sym put) (widens_added old b room) in (
      widens_both first old new so_far.0 wider,
      subst (All (λ b. has new b ≡ true)) (sym (take_more bs i 0 inside))
          (All-append (λ b. has new b ≡ true) (take i bs) (get_or bs i 0 ∷ [])
          (All-weaker (λ b. has old b ≡ true) (λ b. has new b ≡ true) (λ x h. wider.stays x h) (take i bs) so_far.1)
          (All-cons (λ b. has new b ≡ true) (get_or bs i 0) []
          (subst (λ x. has new x ≡ true) is (subst (λ z. has z b ≡ true) (sym put) (added_there old b room)))
          (All-nil (λ b. has new b ≡ true)))),
    )

pub all_added : (s : List Bool) (bs : List ℕ) (i : ℕ) → length bs ≤ i → All (λ b. has s b ≡ true) (take i bs) → All (λ b. has s b ≡ true) bs
all_added s bs i past all = subst (All (λ b. has s b ≡ true)) (take_all i bs past) all

pub literal_reads : (x : Re) (bs seen : List ℕ) (s : List Bool) (count : ℕ) (n : Lengths) → x ≡ literal bs → seen ≡ bs → count ≡ length bs →
    n ≡ exactly count → All (λ b. has s b ≡ true) seen → Reads x s n
literal_reads x bs seen s count n same is counted lens all =
    reads_as x (literal bs) s n (exactly (length bs)) same (lens ∙ ap exactly counted)
    (reads_literal bs s (subst (All (λ b. has s b ≡ true)) is all))
