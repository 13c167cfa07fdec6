-- Splitting at matches, match by match.
use Rattle.std.proofs.Common.{◌≡◌, ◌≢◌, ◌<◌, ◌≤◌, ◌+◌, ◌-◌, ◌++◌, ℕ, suc, List, [], ◌∷◌, length, slice_set, take, Option, Some, None, if◌then◌else◌, refl, sym, ap, ap₂, ◌∙◌, subst, inl, inr, arith, append_assoc, length-append, take_at, ne_eqb}
use Rattle.std.specs.Option.{unwrap_or}
use Rattle.regex_hir.specs.Re.{Re}
use Rattle.regex_hir.specs.Meaning.{alt_all}
use Rattle.regex_hir.specs.Find.{Match, matches_from}
use Rattle.regex_syntax.specs.declared.Config.{Config}
use Rattle.regex.specs.Search.{gaps}
use Rattle.pattern_search.specs.Searches.{all_found, found_from}
use Rattle.pattern_search.specs.Texts.{AreReadAs}
use Rattle.pattern_search.proofs.ForCallers.{all_from_start}
use Rattle.meta_regex.specs.Regexes.{overlaid}
use Rattle.meta_regex.specs.declared.found_match.FoundMatch.{FoundMatch}
use Rattle.templates.proofs.ForCallers.{comes, no_more, none_left, one_more, taken}
use Rattle.captures.specs.Replacing.{AreAllPieces, AreFirstPieces, ComesNext, most_cuts, pieces_of}
use Rattle.captures.proofs.ReplaceLemmas.{none_comes, one_comes}

-- ---- rows
laid_more : {A : Type 0} (done old : List A) (x : A) → slice_set (overlaid done old) (length done) x ≡ overlaid (done ++ x ∷ []) old
unfolding overlaid
laid_more [] [] x = refl
laid_more [] (y ∷ ys) x = refl
laid_more (d ∷ ds) [] x = refl
laid_more (d ∷ ds) (y ∷ ys) x = ap (λ zs. d ∷ zs) (laid_more ds ys x)

one_more_row : (done old rows new : List (ℕ × ℕ)) (count : ℕ) (x : ℕ × ℕ) → count ≡ length done → rows ≡ overlaid done old →
    new ≡ slice_set rows count x → new ≡ overlaid (done ++ x ∷ []) old
one_more_row done old rows new count x counted laid put =
    put ∙ ap₂ (λ rs n. slice_set rs n x) laid counted ∙ laid_more done old x

some_gap : (len at : ℕ) (ms : List Match) → 0 < length (gaps len at ms)
some_gap len at [] = omega arith
some_gap len at (m ∷ ms) = omega arith

-- ---- so many pieces
-- these pieces are in the rows, and with those that follow they are all
pub record IsSplitFrom (find : ℕ → Option Match) (len total count : ℕ) (last : Option ℕ) (old rows : List (ℕ × ℕ)) : Type 0 where
  pub done : List (ℕ × ℕ)
  pub counted : count ≡ length done
  pub laid : rows ≡ overlaid done old
  pub all : done ++ gaps len (unwrap_or last 0) (matches_from find (total - count) (comes find last))
      ≡ gaps len 0 (matches_from find total (find 0))

module _ (find : ℕ → Option Match) (len total : ℕ) (old : List (ℕ × ℕ)) where
  begins : IsSplitFrom find len total 0 None old old
  unfolding overlaid
  begins =
      let left : total - 0 ≡ total = omega arith in
      record {
        done = [];
        counted = refl;
        laid = refl;
        all = ap (λ n. gaps len 0 (matches_from find n (find 0))) left;
      }

  goes_on : (count : ℕ) (last : Option ℕ) (m : Match) (rows new : List (ℕ × ℕ)) → IsSplitFrom find len total count last old rows →
      count < total → comes find last ≡ Some m → new ≡ slice_set rows count (unwrap_or last 0, m.start) →
      IsSplitFrom find len total (count + 1) (Some m.trace.end) old new
  goes_on count last m rows new so lt next put =
      let left : total - count ≡ suc (total - (count + 1)) = omega arith in
      let split = one_more find (total - count) (total - (count + 1)) m (comes find last) left next in
      let piece : ℕ × ℕ = (unwrap_or last 0, m.start) in
      record {
        done = so.done ++ piece ∷ [];
        counted = omega (arith, so.counted, length-append so.done (piece ∷ []));
        laid = one_more_row so.done old rows new count piece so.counted so.laid put;
        all = append_assoc so.done (piece ∷ []) _
            ∙ ap (λ ms. so.done ++ gaps len (unwrap_or last 0) ms) (sym split) ∙ so.all;
      }

  ends : (count : ℕ) (last : Option ℕ) (rows new : List (ℕ × ℕ)) → IsSplitFrom find len total count last old rows →
      matches_from find (total - count) (comes find last) ≡ [] → new ≡ slice_set rows count (unwrap_or last 0, len) →
      (new ≡ overlaid (gaps len 0 (matches_from find total (find 0))) old) × (count + 1 ≡ length (gaps len 0 (matches_from find total (find 0))))
  ends count last rows new so none put =
      let piece : ℕ × ℕ = (unwrap_or last 0, len) in
      let whole : so.done ++ piece ∷ [] ≡ gaps len 0 (matches_from find total (find 0)) =
      ap (λ ms. so.done ++ gaps len (unwrap_or last 0) ms) (sym none) ∙ so.all in (
        one_more_row so.done old rows new count piece so.counted so.laid put ∙ ap (λ ps. overlaid ps old) whole,
        omega (arith, so.counted, length-append so.done (piece ∷ []), ap length whole),
      )

  fails : (count : ℕ) (last : Option ℕ) (rows : List (ℕ × ℕ)) → IsSplitFrom find len total count last old rows →
      (rows ≡ overlaid (take count (gaps len 0 (matches_from find total (find 0)))) old)
      × (count < length (gaps len 0 (matches_from find total (find 0))))
  fails count last rows so =
      let rest = gaps len (unwrap_or last 0) (matches_from find (total - count) (comes find last)) in
      let some = some_gap len (unwrap_or last 0) (matches_from find (total - count) (comes find last)) in
      let front : take count (gaps len 0 (matches_from find total (find 0))) ≡ so.done =
      ap (take count) (sym so.all) ∙ take_at so.done rest count (sym so.counted) in (
        so.laid ∙ ap (λ ps. overlaid ps old) (sym front),
        omega (arith, so.counted, length-append so.done rest, ap length so.all, some),
      )

-- ---- the pieces of a haystack
abbrev pub IsSplitUpTo : Config → List (List ℕ) → List ℕ → ℕ → ℕ → Option ℕ → List (ℕ × ℕ) → List (ℕ × ℕ) → Type 0
IsSplitUpTo config texts h total count last old rows = (res : List Re) → AreReadAs config texts res →
    IsSplitFrom (found_from config.utf8 (alt_all res) h) (length h) total count last old rows

module _ (config : Config) (texts : List (List ℕ)) (h : List ℕ) (limit : Option ℕ) (total : ℕ) (old : List (ℕ × ℕ))
    (some : limit ≢ Some 0) (bound : total ≡ most_cuts limit (length h)) where
  pub split_begins : IsSplitUpTo config texts h total 0 None old old
  split_begins res read = begins (found_from config.utf8 (alt_all res) h) (length h) total old

  pub split_goes_on : (count : ℕ) (last : Option ℕ) (f : FoundMatch) (rows new : List (ℕ × ℕ)) →
      IsSplitUpTo config texts h total count last old rows → count < total → ComesNext config texts h last (Some f) →
      new ≡ slice_set rows count (unwrap_or last 0, f.start) → IsSplitUpTo config texts h total (count + 1) (Some f.end) old new
  split_goes_on count last f rows new so lt next put res read =
      let find = found_from config.utf8 (alt_all res) h in
      let one = one_comes config texts h res read last f next in
      let start : f.start ≡ one.0.start = ap (λ (s : ℕ × ℕ). s.0) (sym one.2) in
      subst (λ (e : ℕ). IsSplitFrom find (length h) total (count + 1) (Some e) old new) (ap (λ (s : ℕ × ℕ). s.1) one.2)
      (goes_on find (length h) total old count last one.0 rows new (so res read) lt one.1
      (put ∙ ap (λ i. slice_set rows count (unwrap_or last 0, i)) start))

  pieces_are : (res : List Re) → pieces_of config res h limit
      ≡ gaps (length h) 0 (matches_from (found_from config.utf8 (alt_all res) h) total (found_from config.utf8 (alt_all res) h 0))
  pieces_are res = by limit some bound
    where
      find : ℕ → Option Match
      find = found_from config.utf8 (alt_all res) h

      by : (l : Option ℕ) → l ≢ Some 0 → total ≡ most_cuts l (length h) →
          pieces_of config res h l ≡ gaps (length h) 0 (matches_from find total (find 0))
      by None s b =
          ap (gaps (length h) 0) (all_from_start config.utf8 (alt_all res) h ∙ ap (λ n. matches_from find n (find 0)) (sym b))
      by (Some n) s b =
          ap (λ t. if t then [] else gaps (length h) 0 (take (n - 1) (all_found config.utf8 (alt_all res) h)))
          (ne_eqb n 0 (λ e. s (ap Some e)))
          ∙ ap (gaps (length h) 0) (ap (take (n - 1)) (all_from_start config.utf8 (alt_all res) h)
          ∙ taken find (n - 1) (length h + 1) (find 0) ∙ ap (λ k. matches_from find k (find 0)) (sym b))

  ends_with : (count : ℕ) (last : Option ℕ) (rows new : List (ℕ × ℕ)) → IsSplitUpTo config texts h total count last old rows →
      ((res : List Re) → AreReadAs config texts res →
      matches_from (found_from config.utf8 (alt_all res) h) (total - count) (comes (found_from config.utf8 (alt_all res) h) last) ≡ []) →
      new ≡ slice_set rows count (unwrap_or last 0, length h) → AreAllPieces config texts h limit (count + 1) old new
  ends_with count last rows new so none put = record {
    rows = λ res read. (both res read).0 ∙ ap (λ ps. overlaid ps old) (sym (pieces_are res));
    counted = λ res read. (both res read).1 ∙ ap length (sym (pieces_are res));
  }
    where
      both : (res : List Re) → AreReadAs config texts res →
          (new ≡ overlaid (gaps (length h) 0 (matches_from (found_from config.utf8 (alt_all res) h) total (found_from config.utf8 (alt_all res) h 0))) old)
          × (count + 1 ≡ length (gaps (length h) 0 (matches_from (found_from config.utf8 (alt_all res) h) total (found_from config.utf8 (alt_all res) h 0))))
      both res read = ends (found_from config.utf8 (alt_all res) h) (length h) total old count last rows new (so res read) (none res read) put

  pub split_ends : (count : ℕ) (last : Option ℕ) (rows new : List (ℕ × ℕ)) → IsSplitUpTo config texts h total count last old rows →
      ComesNext config texts h last None → new ≡ slice_set rows count (unwrap_or last 0, length h) →
      AreAllPieces config texts h limit (count + 1) old new
  split_ends count last rows new so next put =
      ends_with count last rows new so
      (λ res read. no_more (found_from config.utf8 (alt_all res) h) (total - count) _ (none_comes config texts h res read last next)) put

  pub split_full : (count : ℕ) (last : Option ℕ) (rows new : List (ℕ × ℕ)) → IsSplitUpTo config texts h total count last old rows →
      total ≤ count → new ≡ slice_set rows count (unwrap_or last 0, length h) → AreAllPieces config texts h limit (count + 1) old new
  split_full count last rows new so le put =
      ends_with count last rows new so (λ res read. none_left (found_from config.utf8 (alt_all res) h) total count _ le) put

  pub split_fails : (count : ℕ) (last : Option ℕ) (rows : List (ℕ × ℕ)) → IsSplitUpTo config texts h total count last old rows →
      AreFirstPieces config texts h limit count old rows
  split_fails count last rows so = record {
    rows = λ res read. (both res read).0 ∙ ap (λ ps. overlaid (take count ps) old) (sym (pieces_are res));
    counted = λ res read. inr (subst (λ ps. count < length ps) (sym (pieces_are res)) (both res read).1);
  }
    where
      both : (res : List Re) → AreReadAs config texts res →
          (rows ≡ overlaid (take count (gaps (length h) 0 (matches_from (found_from config.utf8 (alt_all res) h) total (found_from config.utf8 (alt_all res) h 0)))) old)
          × (count < length (gaps (length h) 0 (matches_from (found_from config.utf8 (alt_all res) h) total (found_from config.utf8 (alt_all res) h 0))))
      both res read = fails (found_from config.utf8 (alt_all res) h) (length h) total old count last rows (so res read)

-- ---- no piece at all
pub no_pieces : (config : Config) (texts : List (List ℕ)) (h : List ℕ) (old : List (ℕ × ℕ)) → AreAllPieces config texts h (Some 0) 0 old old
unfolding overlaid
no_pieces config texts h old = record { rows = λ res read. refl; counted = λ res read. refl }

pub none_begun : (config : Config) (texts : List (List ℕ)) (h : List ℕ) (limit : Option ℕ) (old : List (ℕ × ℕ)) →
    AreFirstPieces config texts h limit 0 old old
unfolding overlaid
none_begun config texts h limit old = record { rows = λ res read. refl; counted = λ res read. inl refl }
