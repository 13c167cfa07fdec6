-- The stem of strings, byte by byte, and the strings after it.
use Rattle.std.proofs.Common.{◌≡◌, ℕ, zero, suc, ◌+◌, ◌<◌, ◌≤◌, List, [], ◌∷◌, ◌++◌, length, take, drop, get_or, refl, sym, ap, ◌∙◌, subst}
use Rattle.std.proofs.Common.{arith, length-append, append_assoc}
use Rattle.std.proofs.lemmas.List.{take_more, length-take-le, drop_more, map-append}
use denote.Ref.{Bor}
use Rattle.thompson_nfa.specs.LiteralGroups.{texts, each_after, bytes_in}
use Rattle.thompson_nfa.specs.LiteralStems.{HaveAll, BeginAll, without_first, after_prefix}

-- all begin with no byte
pub begin_none : (ws : List (List ℕ)) → BeginAll [] ws
begin_none [] = tt
begin_none (w ∷ ws) = (refl, begin_none ws)

-- one more byte that all have
begin_more : (t : List ℕ) (b : ℕ) (ws : List (List ℕ)) → BeginAll t ws → HaveAll (length t) b ws → BeginAll (t ++ b ∷ []) ws
begin_more t b [] a h = tt
begin_more t b (w ∷ ws) a h = (
  a.0 ∙ ap (λ (d : List ℕ). t ++ d) h.0 ∙ sym (append_assoc t (b ∷ []) (drop (length t + 1) w))
      ∙ ap (λ (n : ℕ). (t ++ b ∷ []) ++ drop n w) (sym (length-append t (b ∷ []))),
  begin_more t b ws a.1 h.1,
)

pub stem_more : (first : List ℕ) (k b : ℕ) (ws : List (List ℕ)) → k < length first → get_or first k 0 ≡ b → BeginAll (take k first) ws →
    HaveAll k b ws → BeginAll (take (k + 1) first) ws
stem_more first k b ws l is a h =
    let n : length (take k first) ≡ k = length-take-le k first (omega arith) in
    let longer : take (k + 1) first ≡ take k first ++ b ∷ [] = take_more first k 0 l ∙ ap (λ (c : ℕ). take k first ++ c ∷ []) is in
    let P : List ℕ → Type 0 = λ t. BeginAll t ws in
    let Q : ℕ → Type 0 = λ m. HaveAll m b ws in
    subst P (sym longer) (begin_more (take k first) b ws a (subst Q (sym n) h))

-- a byte at a position
pub has_byte : (w : List ℕ) (k b : ℕ) → k < length w → get_or w k 0 ≡ b → drop k w ≡ b ∷ drop (k + 1) w
has_byte w k b l is = drop_more w k 0 l ∙ ap (λ (c : ℕ). c ∷ drop (k + 1) w) is

-- a string that begins with the stem is at least as long
pub begins_long_at : (t : List ℕ) (ws : List (Bor (List ℕ))) (k : ℕ) (d : Bor (List ℕ)) → BeginAll t (texts ws) → k < length ws →
    length t ≤ length (get_or ws k d).now
begins_long_at t [] k d a l = absurd (omega arith)
begins_long_at t (v ∷ ws) zero d a l = omega (arith, ap length a.0, length-append t (drop (length t) v.now))
begins_long_at t (v ∷ ws) (suc k) d a l = begins_long_at t ws k d a.1 (omega arith)

-- the strings are those after the stem
pub behind_without : (t : List ℕ) (ws : List (List ℕ)) → BeginAll t ws → after_prefix t (without_first (length t) ws) ≡ ws
behind_without t [] a = refl
behind_without t (w ∷ ws) a = ap (λ (v : List ℕ). v ∷ after_prefix t (without_first (length t) ws)) (sym a.0)
    ∙ ap (λ (l : List (List ℕ)). w ∷ l) (behind_without t ws a.1)

-- a stem's first byte comes before the others
pub text_byte : (b : ℕ) (t : List ℕ) (ws : List (List ℕ)) → each_after b (after_prefix t ws) ≡ after_prefix (b ∷ t) ws
text_byte b t [] = refl
text_byte b t (w ∷ ws) = ap (λ (l : List (List ℕ)). (b ∷ t ++ w) ∷ l) (text_byte b t ws)

pub text_none : (ws : List (List ℕ)) → after_prefix [] ws ≡ ws
text_none [] = refl
text_none (w ∷ ws) = ap (λ (l : List (List ℕ)). w ∷ l) (text_none ws)

pub behind_long : (t : List ℕ) (ws : List (List ℕ)) → length (after_prefix t ws) ≡ length ws
behind_long t [] = refl
behind_long t (w ∷ ws) = ap (λ (n : ℕ). suc n) (behind_long t ws)

more_bytes : (t : List ℕ) (ws : List (List ℕ)) → bytes_in ws ≤ bytes_in (after_prefix t ws)
more_bytes t [] = omega arith
more_bytes t (w ∷ ws) = omega (arith, more_bytes t ws, length-append t w)

-- the stem's bytes are those of one of the strings
pub behind_bytes : (t : List ℕ) (ws : List (List ℕ)) → 1 ≤ length ws → length t + bytes_in ws ≤ bytes_in (after_prefix t ws)
behind_bytes t [] l = absurd (omega arith)
behind_bytes t (w ∷ ws) l = omega (arith, more_bytes t ws, length-append t w)

have_append : (k b : ℕ) (us vs : List (List ℕ)) → HaveAll k b us → HaveAll k b vs → HaveAll k b (us ++ vs)
have_append k b [] vs x y = y
have_append k b (u ∷ us) vs x y = (x.0, have_append k b us vs x.1 y)

-- one more string that has the byte
pub have_next : (k b : ℕ) (xs : List (Bor (List ℕ))) (i : ℕ) (d : Bor (List ℕ)) → i < length xs → HaveAll k b (texts (take i xs)) →
    (k < length (get_or xs i d).now) × (get_or (get_or xs i d).now k 0 ≡ b) →
    HaveAll k b (texts (take (i + 1) xs))
have_next k b xs i d l so_far has =
    let P : List (List ℕ) → Type 0 = HaveAll k b in
    let w : List ℕ = (get_or xs i d).now in
    subst P (sym (ap texts (take_more xs i d l) ∙ map-append (λ (x : Bor (List ℕ)). x.now) (take i xs) (get_or xs i d ∷ [])))
    (have_append k b (texts (take i xs)) (w ∷ []) so_far (has_byte w k b has.0 has.1, tt))
