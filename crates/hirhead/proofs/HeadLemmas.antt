-- A query that was printed for trees reads, and its patterns are the trees that are printed for these.
use Rattle.std.proofs.Common.{◌≡◌, ℕ, ◌+◌, Bool, true, false, List, [], ◌∷◌, ◌++◌, map, length, codes, refl, sym, ◌∙◌, ap, subst}
use Rattle.std.proofs.Common.{append_assoc, append-nil, length-append}
use Rattle.std.proofs.lemmas.List.Concat.{flat_map-append}
use Rattle.hir_core.specs.Tree.{Tree}
use Rattle.hirscan.specs.Words.{IsHex}
use Rattle.hirscan.specs.Readers.{IsReader, hex_bytes}
use Rattle.hirscan.specs.Reads.{Reads}
use Rattle.hirscan.specs.Takes.{QueryValue, at_first, utf8_line, pattern_line}
use Rattle.hirhead.specs.Written.{printed_tree}
use Rattle.hirhead.specs.Lines.{Line, lines_of, pattern_lines, setting_lines, line_text, lines_text, query_text}
use Rattle.hirhead.specs.HasLines.{AllFit}
use Rattle.hirhead.specs.Queries.{read_of}
use Rattle.hirhead.proofs.PlainLemmas.{reads_end}
use Rattle.hirhead.proofs.TakenLemmas.{AreTaken, taken_append, reads_all}
use Rattle.hirhead.proofs.TreeLineLemmas.{state, tree_taken}

abbrev find_line : Line
find_line = codes "find" ∷ []

setting_taken : (utf8 : Bool) → AreTaken (setting_lines utf8) at_first (state (read_of utf8 []) [] [])
setting_taken true = refl
setting_taken false = (
  state (read_of false []) [] [],
  refl,
  refl,
  utf8_line (codes "off") false refl refl
      (record { no_node = record { stack_empty = refl; no_pattern = refl }; setup_is = refl; stack_stays = refl; patterns_stay = refl }),
  refl,
)

module _ (reads : IsReader hex_bytes IsHex) (s : QueryValue) where
  patterns_taken : (xs done : List Tree) → AllFit 250 xs →
      AreTaken (pattern_lines xs) (state s done []) (state s (done ++ map printed_tree xs) [])
  patterns_taken [] done h = ap (λ (d : List Tree). state s d []) (sym (append-nil done))
  patterns_taken (x ∷ xs) done h =
      taken_append (lines_of x) ((codes "pattern" ∷ []) ∷ pattern_lines xs) (state s done []) (state s done (printed_tree x ∷ []))
      (state s (done ++ map printed_tree (x ∷ xs)) []) (tree_taken reads s done x [] h.0) (
        state s (done ++ printed_tree x ∷ []) [],
        refl,
        refl,
        pattern_line refl (record { tree = printed_tree x; stack_was = refl; setup_stays = refl; stack_is = refl; patterns_are = refl }),
        subst (λ (d : List Tree). AreTaken (pattern_lines xs) (state s (done ++ printed_tree x ∷ []) []) (state s d []))
            (append_assoc done (printed_tree x ∷ []) (map printed_tree xs)) (patterns_taken xs (done ++ printed_tree x ∷ []) h.1),
      )

-- the lines before `find`, and this one
last_line : (b : List Line) → lines_text (b ++ find_line ∷ []) ≡ lines_text b ++ line_text find_line
last_line b = flat_map-append line_text b (find_line ∷ []) ∙ ap (λ (t : List ℕ). lines_text b ++ t) (append-nil (line_text find_line))

head_parts : (a p : List Line) → lines_text (a ++ (p ++ find_line ∷ [])) ≡ lines_text (a ++ p) ++ line_text find_line
head_parts a p = ap lines_text (sym (append_assoc a p (find_line ∷ []))) ∙ last_line (a ++ p)

pub head_reads : IsReader hex_bytes IsHex → (utf8 : Bool) (xs : List Tree) → AllFit 250 xs → (haystack : List ℕ)
    → Reads (query_text utf8 xs ++ haystack) at_first (read_of utf8 xs) (length (query_text utf8 xs))
head_reads reads utf8 xs fits haystack =
    let a = setting_lines utf8 in
    let p = pattern_lines xs in
    let last = line_text find_line in
    let end = read_of utf8 xs in
    let taken : AreTaken (a ++ p) at_first end =
    taken_append a p at_first (state (read_of utf8 []) [] []) end (setting_taken utf8)
    (patterns_taken reads (read_of utf8 []) xs [] fits) in
    let read = reads_all (a ++ p) (last ++ haystack) at_first end end (length last) taken (reads_end haystack end refl) in
    let e = head_parts a p in
    let text : lines_text (a ++ p) ++ (last ++ haystack) ≡ query_text utf8 xs ++ haystack =
    sym (append_assoc (lines_text (a ++ p)) last haystack) ∙ ap (λ (t : List ℕ). t ++ haystack) (sym e) in
    let len : length (lines_text (a ++ p)) + length last ≡ length (query_text utf8 xs) =
    sym (length-append (lines_text (a ++ p)) last) ∙ ap length (sym e) in
    subst (λ (n : ℕ). Reads (query_text utf8 xs ++ haystack) at_first end n) len
    (subst (λ (t : List ℕ). Reads t at_first end (length (lines_text (a ++ p)) + length last)) text read)
