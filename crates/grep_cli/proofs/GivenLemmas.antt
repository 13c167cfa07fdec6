-- Patterns that are appended text after text.
use Rattle.std.proofs.Common.{◌≡◌, ◌≢◌, ◌∙◌, ◌==◌, ℕ, ◌+◌, Bool, true, false, List, [], ◌∷◌, ◌++◌, length, ap, cond, sym, refl}
use Rattle.std.proofs.Common.{append_assoc, arith}
use Rattle.std.proofs.lemmas.Bool.Decides.{nat_tests}
use Rattle.std.specs.Prelude.{MatchOption, Option, Some, None, unwrap_or}
use Rattle.std.specs.Borrow.{Bor}
use Rattle.std.specs.List.{flat_map}
use Rattle.std.proofs.lemmas.List.{append-nil, length_push}
use Rattle.std.proofs.lemmas.Grind.{flat_map-append}
use Rattle.grep_cli.specs.Given.{patterns_of_file, file_lines, lines_as_patterns, without_last_feed}

-- ---- the last line feed

feed_stripped : (front : List ℕ) → without_last_feed (front ++ 10 ∷ []) ≡ front
feed_stripped [] = refl
feed_stripped (a ∷ []) = refl
feed_stripped (a ∷ b ∷ more) = ap (λ xs. a ∷ xs) (feed_stripped (b ∷ more))

same_byte : (a b : ℕ) → (a == b) ≡ true → a ≡ b
same_byte a b e = grind (arith, nat_tests)

no_feed : (bs : List ℕ) → ((front : List ℕ) → bs ≢ front ++ 10 ∷ []) → without_last_feed bs ≡ bs
no_feed [] h = refl
no_feed (b ∷ []) h = go (b == 10) refl
  where
    go : (t : Bool) → (b == 10) ≡ t → cond (b == 10) [] (b ∷ []) ≡ b ∷ []
    go true e = absurd (h [] (ap (λ x. x ∷ []) (same_byte b 10 e)))
    go false e = ap (λ t. cond t [] (b ∷ [])) e
no_feed (b ∷ c ∷ more) h = ap (λ xs. b ∷ xs) (no_feed (c ∷ more) (λ front e. h (b ∷ front) (ap (λ xs. b ∷ xs) e)))

stripped : (bs : List ℕ) (r : Option (Bor (List ℕ))) (whole : Bor (List ℕ)) → whole.now ≡ bs
    → MatchOption r ((front : List ℕ) → bs ≢ front ++ 10 ∷ []) (λ x. bs ≡ x.now ++ 10 ∷ [])
    → (unwrap_or r whole).now ≡ without_last_feed bs
stripped bs (Some x) whole is_whole h = sym (ap without_last_feed h ∙ feed_stripped x.now)
stripped bs None whole is_whole h = is_whole ∙ sym (no_feed bs h)

some_lines : (bs : List ℕ) → (length bs == 0) ≡ false → file_lines bs ≡ lines_as_patterns (without_last_feed bs)
some_lines [] e = cc
some_lines (b ∷ more) e = refl

pub text_lines : (bs : List ℕ) (r : Option (Bor (List ℕ))) (whole got : Bor (List ℕ)) → got ≡ unwrap_or r whole → whole.now ≡ bs
    → MatchOption r ((front : List ℕ) → bs ≢ front ++ 10 ∷ []) (λ x. bs ≡ x.now ++ 10 ∷ [])
    → (length bs == 0) ≡ false → lines_as_patterns got.now ≡ file_lines bs
text_lines bs r whole got is_got is_whole h some =
    ap lines_as_patterns (ap (λ (x : Bor (List ℕ)). x.now) is_got ∙ stripped bs r whole is_whole h) ∙ sym (some_lines bs some)

-- ---- file after file

abbrev pub AreOfFiles : Bool → List (List ℕ) → List (List ℕ) → ℕ → Type 0
AreOfFiles crlf old new k = (texts : List (List ℕ)) × (length texts ≡ k) × (new ≡ old ++ flat_map (patterns_of_file crlf) texts)

one_text : (crlf : Bool) (text : List ℕ) → flat_map (patterns_of_file crlf) (text ∷ []) ≡ patterns_of_file crlf text
one_text crlf text = append-nil (patterns_of_file crlf text)

pub files_on : (crlf : Bool) (old now new : List (List ℕ)) (k : ℕ) (text : List ℕ) → AreOfFiles crlf old now k
    → new ≡ now ++ patterns_of_file crlf text
    → AreOfFiles crlf old new (k + 1)
files_on crlf old now new k text (texts, count, e) f =
    let all : flat_map (patterns_of_file crlf) texts ++ patterns_of_file crlf text ≡ flat_map (patterns_of_file crlf) (texts ++ text ∷ []) =
    ap (λ xs. flat_map (patterns_of_file crlf) texts ++ xs) (sym (one_text crlf text)) ∙
    sym (flat_map-append (patterns_of_file crlf) texts (text ∷ [])) in (
      texts ++ text ∷ [],
      length_push texts text ∙ ap (λ m. m + 1) count,
      f ∙ (ap (λ m. m ++ patterns_of_file crlf text) e ∙ (append_assoc old (flat_map (patterns_of_file crlf) texts) (patterns_of_file crlf
          text) ∙ ap (λ m. old ++ m) all)),
    )
