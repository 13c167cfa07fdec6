-- The whole lines among the first bytes of what was read, and the pieces that are written one after the other.
use Rattle.std.proofs.Common.{◌≡◌, ◌≤◌, ℕ, ◌+◌, ◌-◌, ◌∙◌, List, ◌++◌, [], length, length-drop, take, drop, Option, Ok, Err, refl, sym, subst, arith}
use Rattle.std.proofs.lemmas.List.{drop-drop, take_rest}
use Rattle.std.specs.Io.KnownBytes.{Appends}
use Rattle.grep_core.specs.Blocks.{SearchesBy, Writes, WritesFirstLines, WritesPart, counts_lines, finds_by, reported_bytes}
use Rattle.grep_core.specs.ContextPrinting.{Waits}
use Rattle.grep_core.specs.declared.progress.Progress.{Progress}
use Rattle.grep_core.specs.declared.progress.Task.{Task}
use Rattle.line_search.specs.Lines.{split_lines}
use Rattle.line_search.specs.LineMatchers.{LineMatcher}
use Rattle.line_search.specs.Searchers.{Sought}
use Rattle.line_search.specs.declared.fault.Fault.{Fault}
use Rattle.grep_core.proofs.JoinLemmas.{block_counted, block_told, taken_bound}
use Rattle.grep_core.proofs.LongLineLemmas.{same_writes}
use Rattle.grep_core.proofs.SeenLemmas.{moved_by}
use Rattle.grep_core.proofs.WriteLemmas.{read_part, read_writes, then_part, then_writes}

module _ (t : Task) (f : LineMatcher) where
  pub piece_written : (p q : Progress) (read more empty out shown : List ℕ) (len done : ℕ) (w v : Option (List ℕ)) → len ≤ length read →
      done ≤ length (take len read) → empty ≡ [] → shown ≡ out →
      ((m : List ℕ) → empty ++ reported_bytes t f p (split_lines (take len read ++ m))
      ≡ out ++ reported_bytes t f q (split_lines (drop done (take len read) ++ m))) →
      ((m : List ℕ) → counts_lines t f q (split_lines (drop done (take len read) ++ m)) ≡ counts_lines t f p (split_lines (take len read ++ m))) →
      Appends w v shown → Writes t f p q (read ++ more) (drop done read ++ more) w v
  piece_written p q read more empty out shown len done w v high within none seen told counted written =
      read_writes t f p q read read read (drop done read) more empty out shown done w v none refl refl refl seen
      (block_told (reported_bytes t f) p q read more (empty ++ reported_bytes t f p (split_lines (read ++ more))) empty out len 0 done
      (omega arith) (taken_bound read len done high within) refl told)
      (block_counted (counts_lines t f) p q read more (counts_lines t f p (split_lines (read ++ more))) len 0 done (omega arith)
      (taken_bound read len done high within) refl counted)
      written

  pub piece_part : (p q : Progress) (read more empty out shown : List ℕ) (len done : ℕ) (w v : Option (List ℕ)) → len ≤ length read →
      done ≤ length (take len read) → empty ≡ [] → shown ≡ out →
      ((m : List ℕ) → empty ++ reported_bytes t f p (split_lines (take len read ++ m))
      ≡ out ++ reported_bytes t f q (split_lines (drop done (take len read) ++ m))) →
      (n : ℕ) × Appends w v (take n shown) → WritesPart t f p (read ++ more) w v
  piece_part p q read more empty out shown len done w v high within none seen told part =
      read_part t f p q read read read (drop done read) more empty out shown done w v none refl refl refl seen
      (block_told (reported_bytes t f) p q read more (empty ++ reported_bytes t f p (split_lines (read ++ more))) empty out len 0 done
      (omega arith) (taken_bound read len done high within) refl told) part

  -- a piece after others, from an offset on
  pub pieces_written : (o p q : Progress) (read more text : List ℕ) (done next : ℕ) (u w v : Option (List ℕ)) → text ≡ drop done read →
      drop next (drop done read) ≡ drop (done + next) read → Writes t f o p (read ++ more) (drop done read ++ more) u w →
      Writes t f p q (text ++ more) (drop next text ++ more) w v → Writes t f o q (read ++ more) (drop (done + next) read ++ more) u v
  pieces_written o p q read more text done next u w v is dropped a b =
      then_writes t f o p q (read ++ more) (drop done read ++ more) (drop (done + next) read ++ more) u w v a
      (subst (λ l. Writes t f p q (drop done read ++ more) (l ++ more) w v) dropped
      (subst (λ l. Writes t f p q (l ++ more) (drop next l ++ more) w v) is b))

  pub pieces_part : (o p : Progress) (read more text : List ℕ) (done : ℕ) (u w v : Option (List ℕ)) → text ≡ drop done read →
      Writes t f o p (read ++ more) (drop done read ++ more) u w → WritesPart t f p (text ++ more) w v → WritesPart t f o (read ++ more) u v
  pieces_part o p read more text done u w v is a b =
      then_part t f o p (read ++ more) (drop done read ++ more) u w v a (subst (λ l. WritesPart t f p (l ++ more) w v) is b)

  -- the lines from an offset on
  pub lines_written : (o p q : Progress) (read more text empty out shown : List ℕ) (first done : ℕ) (u w v : Option (List ℕ)) →
      text ≡ drop first read → empty ≡ [] → shown ≡ out → Writes t f o p (read ++ more) (drop first read ++ more) u w →
      empty ++ reported_bytes t f p (split_lines (text ++ more)) ≡ out ++ reported_bytes t f q (split_lines (drop done text ++ more)) →
      counts_lines t f q (split_lines (drop done text ++ more)) ≡ counts_lines t f p (split_lines (text ++ more)) →
      Appends w v shown → Writes t f o q (read ++ more) (drop (first + done) read ++ more) u v
  lines_written o p q read more text empty out shown first done u w v is none seen a told counted written =
      pieces_written o p q read more text first done u w v is (drop-drop done first read) a
      (read_writes t f p q text text text (drop done text) more empty out shown done w v none refl refl refl seen told counted written)

  pub lines_part : (o p q : Progress) (read more text empty out shown : List ℕ) (first done : ℕ) (u w v : Option (List ℕ)) →
      text ≡ drop first read → empty ≡ [] → shown ≡ out → Writes t f o p (read ++ more) (drop first read ++ more) u w →
      empty ++ reported_bytes t f p (split_lines (text ++ more)) ≡ out ++ reported_bytes t f q (split_lines (drop done text ++ more)) →
      (n : ℕ) × Appends w v (take n shown) → WritesPart t f o (read ++ more) u v
  lines_part o p q read more text empty out shown first done u w v is none seen a told part =
      pieces_part o p read more text first u w v is a
      (read_part t f p q text text text (drop done text) more empty out shown done w v none refl refl refl seen told part)

  -- the lines of what was read, after which the bytes before them are forgotten
  pub block_written : (o p q : Progress) (read bytes text rest more empty out shown : List ℕ) (first done : ℕ) (u w v : Option (List ℕ)) →
      bytes ≡ read → text ≡ drop first bytes → rest ≡ drop (first + done) read → empty ≡ [] → shown ≡ out →
      Writes t f o p (bytes ++ more) (drop first bytes ++ more) u w →
      empty ++ reported_bytes t f p (split_lines (text ++ more)) ≡ out ++ reported_bytes t f q (split_lines (drop done text ++ more)) →
      counts_lines t f q (split_lines (drop done text ++ more)) ≡ counts_lines t f p (split_lines (text ++ more)) →
      Appends w v shown → Writes t f o q (read ++ more) (rest ++ more) u v
  block_written o p q read bytes text rest more empty out shown first done u w v is cut left none seen a told counted written =
      subst (λ l. Writes t f o q (read ++ more) (l ++ more) u v) (sym left)
      (subst (λ l. Writes t f o q (l ++ more) (drop (first + done) l ++ more) u v) is
      (lines_written o p q bytes more text empty out shown first done u w v cut none seen a told counted written))

-- ---- what a call that writes first lines promises
module _ {t : Task} {s now : Sought} {p q : Progress} {read : List ℕ} {w v : Option (List ℕ)} where
  pub first_written_to : {done : ℕ} → now ≡ s → Waits t.what.now q.telling.course → done ≤ length read →
      ((by : SearchesBy t s) (more : List ℕ) → Writes t (finds_by t by) p q (read ++ more) (drop done read ++ more) w v) →
      WritesFirstLines t s now p q read w v (Ok done)
  first_written_to same waits within writes = record { same = same; waits = waits; within = within; writes = writes; fault = tt }

  pub first_failed : {e : Fault} → now ≡ s → ((by : SearchesBy t s) (more : List ℕ) → WritesPart t (finds_by t by) p (read ++ more) w v) →
      WritesFirstLines t s now p q read w v (Err e)
  first_failed same part = record { same = same; waits = tt; within = tt; writes = tt; fault = part }

-- nothing is written yet
pub first_none : {t : Task} {s : Sought} {p : Progress} {read : List ℕ} {w : Option (List ℕ)} → Waits t.what.now p.telling.course →
    WritesFirstLines t s s p p read w w (Ok 0)
first_none {t} {s} {p} {read} {w} waits =
    first_written_to refl waits (omega arith) (λ by more. same_writes t (finds_by t by) p (read ++ more) w)

-- one call after others
pub then_first : {t : Task} {s mid now : Sought} {o p q : Progress} {read : List ℕ} {done next sum : ℕ} {u w v : Option (List ℕ)} →
    sum ≡ done + next → WritesFirstLines t s mid o p read u w (Ok done) →
    WritesFirstLines t mid now p q (take (length read - done) (drop done read)) w v (Ok next) → WritesFirstLines t s now o q read u v (Ok sum)
then_first {t} {s} {mid} {now} {o} {p} {q} {read} {done} {next} {sum} {u} {w} {v} is a b =
    let low : next ≤ length (drop done read) = subst (λ (l : List ℕ). next ≤ length l) (take_rest read done) b.within in
    let rest = length-drop done read in
    let in_all : done ≤ length read = a.within in
    first_written_to (b.same ∙ a.same) b.waits (omega (arith, is, low, rest, in_all))
    (λ by more. subst (λ n. Writes t (finds_by t by) o q (read ++ more) (drop n read ++ more) u v) (sym is)
    (pieces_written t (finds_by t by) o p q read more (take (length read - done) (drop done read)) done next u w v (take_rest read done)
    (drop-drop next done read) (a.writes by more) (b.writes (moved_by a.same by) more)))
