-- Lines of words that have neither a space nor a line feed: their words are read back, and a query that begins with such a line reads on
-- after it.
use Rattle.std.proofs.Common.{◌≡◌, ◌≢◌, ℕ, ◌+◌, ◌==◌, Bool, true, false, not, ◌&&◌, List, [], ◌∷◌, ◌++◌, length, refl, sym, ◌∙◌, ap}
use Rattle.std.proofs.Common.{subst, arith, codes, append_assoc, append-nil, length-append}
use Rattle.std.specs.List.{list_all, onto_first}
use Rattle.std.proofs.lemmas.Bool.{and_parts, not-true, eq-eqb}
use Rattle.std.proofs.lemmas.List.Elements.{All-nil, All-cons, All-append}
use Rattle.std.proofs.lemmas.List.Splits.{slice_split-cons_yes, slice_split-cons_no}
use Rattle.hirscan.specs.Words.{words}
use Rattle.hirscan.specs.Takes.{QueryValue, Takes, EndsQuery}
use Rattle.hirscan.specs.Reads.{IsOneLine, Reads, reads_find, reads_line}
use Rattle.hirhead.specs.Lines.{Line, after_word, line_text}

abbrev pub is_plain : ℕ → Bool
is_plain b = not (b == 32) && not (b == 10)

abbrev pub plain : List ℕ → Bool
plain w = list_all is_plain w

abbrev is_space : ℕ → Bool
is_space b = b == 32

abbrev IsOther : ℕ → Type 0
IsOther b = b ≢ 10

no_space : (b : ℕ) → is_plain b ≡ true → is_space b ≡ false
no_space b h = not-true (b == 32) (and_parts (not (b == 32)) (not (b == 10)) h).0

no_feed : (b : ℕ) → is_plain b ≡ true → b ≢ 10
no_feed b h e =
    let f = not-true (b == 10) (and_parts (not (b == 32)) (not (b == 10)) h).1 in
    let t = eq-eqb b 10 e in cc

-- the word goes on with the first word of what follows
split_word : (w rest first : List ℕ) (others : Line) → plain w ≡ true → words rest ≡ first ∷ others →
    words (w ++ rest) ≡ (w ++ first) ∷ others
split_word [] rest first others p e = e
split_word (b ∷ w) rest first others p e =
    let q = and_parts (is_plain b) (list_all is_plain w) p in
    slice_split-cons_no is_space b (w ++ rest) (no_space b q.0) ∙ ap (onto_first b) (split_word w rest first others q.1 e)

-- the line without its line feed
abbrev behind_body : Line → List ℕ
behind_body [] = []
behind_body (w ∷ ws) = 32 ∷ (w ++ behind_body ws)

abbrev body : List ℕ → Line → List ℕ
body w ws = w ++ behind_body ws

split_behind : (w : List ℕ) (ws : Line) → plain w ≡ true → words (behind_body ws) ≡ [] ∷ ws → words (body w ws) ≡ w ∷ ws
split_behind w ws p e = split_word w (behind_body ws) [] ws p e ∙ ap (λ (v : List ℕ). v ∷ ws) (append-nil w)

words_left_of : (ws : Line) → list_all plain ws ≡ true → words (behind_body ws) ≡ [] ∷ ws
words_left_of [] p = refl
words_left_of (w ∷ ws) p =
    let q = and_parts (plain w) (list_all plain ws) p in
    slice_split-cons_yes is_space 32 (w ++ behind_body ws) refl
    ∙ ap (λ (vs : Line). [] ∷ vs) (split_behind w ws q.0 (words_left_of ws q.1))

pub words_of_line : (w : List ℕ) (ws : Line) → plain w ≡ true → list_all plain ws ≡ true → words (body w ws) ≡ w ∷ ws
words_of_line w ws p q = split_behind w ws p (words_left_of ws q)

word_one_line : (w : List ℕ) → plain w ≡ true → IsOneLine w
word_one_line [] p = All-nil IsOther
word_one_line (b ∷ w) p =
    let q = and_parts (is_plain b) (list_all is_plain w) p in
    All-cons IsOther b w (no_feed b q.0) (word_one_line w q.1)

behind_one_line : (ws : Line) → list_all plain ws ≡ true → IsOneLine (behind_body ws)
behind_one_line [] p = All-nil IsOther
behind_one_line (w ∷ ws) p =
    let q = and_parts (plain w) (list_all plain ws) p in
    All-cons IsOther 32 (w ++ behind_body ws) (λ e. absurd (omega (arith, e)))
    (All-append IsOther w (behind_body ws) (word_one_line w q.0) (behind_one_line ws q.1))

one_line : (w : List ℕ) (ws : Line) → plain w ≡ true → list_all plain ws ≡ true → IsOneLine (body w ws)
one_line w ws p q = All-append IsOther w (behind_body ws) (word_one_line w p) (behind_one_line ws q)

cut_behind : (ws : Line) (rest : List ℕ) → after_word ws ++ rest ≡ behind_body ws ++ 10 ∷ rest
cut_behind [] rest = refl
cut_behind (w ∷ ws) rest =
    ap (λ (t : List ℕ). 32 ∷ t) (append_assoc w (after_word ws) rest ∙ ap (λ (t : List ℕ). w ++ t) (cut_behind ws rest)
    ∙ sym (append_assoc w (behind_body ws) (10 ∷ rest)))

cut_line : (w : List ℕ) (ws : Line) (rest : List ℕ) → line_text (w ∷ ws) ++ rest ≡ body w ws ++ 10 ∷ rest
cut_line w ws rest =
    append_assoc w (after_word ws) rest ∙ ap (λ (t : List ℕ). w ++ t) (cut_behind ws rest)
    ∙ sym (append_assoc w (behind_body ws) (10 ∷ rest))

line_length : (w : List ℕ) (ws : Line) → length (line_text (w ∷ ws)) ≡ length (body w ws) + 1
line_length w ws =
    let e = ap length (cut_line w ws []) in
    let f = length-append (line_text (w ∷ ws)) [] in
    let g = length-append (body w ws) (10 ∷ []) in
    omega arith

-- a line that is taken, and what reads after it
pub reads_more : (w : List ℕ) (ws : Line) (rest : List ℕ) (at after found : QueryValue) (m : ℕ) → plain w ≡ true → list_all plain ws ≡ true
    → Takes (w ∷ ws) at after → Reads rest after found m
    → Reads (line_text (w ∷ ws) ++ rest) at found (length (line_text (w ∷ ws)) + m)
reads_more w ws rest at after found m p q taken more =
    reads_line (line_text (w ∷ ws) ++ rest) (body w ws) rest at after found (length (line_text (w ∷ ws)) + m) m (cut_line w ws rest)
    (one_line w ws p q) (subst (λ (vs : Line). Takes vs at after) (sym (words_of_line w ws p q)) taken) more
    (ap (λ n. n + m) (line_length w ws))

-- the line `find` ends a query, whatever comes after it
pub reads_end : (rest : List ℕ) (at : QueryValue) → at.stack ≡ []
    → Reads (line_text (codes "find" ∷ []) ++ rest) at at (length (line_text (codes "find" ∷ [])))
reads_end rest at empty =
    reads_find (line_text (codes "find" ∷ []) ++ rest) (body (codes "find") []) rest at at (length (line_text (codes "find" ∷ [])))
    (cut_line (codes "find") [] rest) (one_line (codes "find") [] refl refl)
    (subst (λ (vs : Line). EndsQuery vs at) (sym (words_of_line (codes "find") [] refl refl))
    (record { says_find = refl; nothing_left = empty }))
    refl (line_length (codes "find") [])
