-- What is written, piece by piece, and what that says of a haystack.
use Rattle.std.proofs.Common.{◌≡◌, ℕ, ◌+◌, List, [], ◌++◌, length, take, drop, Option, Some, None, refl, sym, ap, ◌∙◌, subst}
use Rattle.std.proofs.Common.{append_assoc, append-nil}
use Rattle.std.proofs.Math.Seq.{take-append_seam, take-append-add, take-length}
use Rattle.std.proofs.KnownBytes.{Appends-nil, Appends-trans}
use Rattle.std.proofs.lemmas.List.{take-append-drop}
use Rattle.std.proofs.lemmas.Option.{none-some, same_Some}
use Rattle.std.specs.Io.KnownBytes.{Appends, Consumes, IsAtEnd, Keeps}
use Rattle.std.specs.Prelude.{IfSome}
use Rattle.grep_core.specs.declared.progress.Progress.{Progress}
use Rattle.grep_core.specs.declared.progress.Task.{Task}
use Rattle.grep_core.specs.Blocks.{reported_bytes, counts_lines, IsOver, Writes, ReadsAndWrites, WritesPart}
use Rattle.line_search.specs.Lines.{split_lines}
use Rattle.line_search.specs.LineMatchers.{LineMatcher}
use Rattle.grep_core.specs.Report.{counted_as}

-- what was appended before bytes that stay
pub appends_kept : (a b c : Option (List ℕ)) (bytes : List ℕ) → Appends a b bytes → Keeps b c → Appends a c bytes
appends_kept None b c bytes p q = tt
appends_kept (Some x) None c bytes p q = absurd p
appends_kept (Some x) (Some y) None bytes p q = absurd q
appends_kept (Some x) (Some y) (Some z) bytes p q = q ∙ p

-- a beginning of some bytes is one of these and more
pub taken_before : (n : ℕ) (out rest : List ℕ) → take n out ≡ take (length (take n out)) (out ++ rest)
taken_before n out rest =
    sym (take-append_seam (take n out) (drop n out ++ rest))
    ∙ ap (take (length (take n out))) (sym (append_assoc (take n out) (drop n out) rest) ∙ ap (λ l. l ++ rest) (take-append-drop n out))

module _ (t : Task) (f : LineMatcher) where
  abbrev pub reports : Progress → List ℕ → List ℕ
  reports p text = reported_bytes t f p (split_lines text)

  -- nothing written yet
  pub none_part : (p : Progress) (text : List ℕ) (w : Option (List ℕ)) → WritesPart t f p text w w
  none_part p text w = (0, Appends-nil w)

  -- a beginning of what a step reports is a beginning of it all
  pub out_part : (p q : Progress) (before after out : List ℕ) (n : ℕ) (w v : Option (List ℕ)) → reports p before ≡ out ++ reports q after →
      Appends w v (take n out) → WritesPart t f p before w v
  out_part p q before after out n w v reported written = (
    length (take n out),
    subst (Appends w v) (taken_before n out (reports q after) ∙
        ap (take (length (take n out))) (sym reported)) written,
  )

  pub no_more : (p : Progress) (before after bytes rest : List ℕ) (w : Option (List ℕ)) → after ≡ before ++ bytes →
      Writes t f p p (before ++ (bytes ++ rest)) (after ++ rest) w w
  no_more p before after bytes rest w is =
      let same : after ++ rest ≡ before ++ (bytes ++ rest) = ap (λ l. l ++ rest) is ∙ append_assoc before bytes rest in
      record {
        reported = [];
        written = Appends-nil w;
        on = record {
          printed = ap (reports p) (sym same);
          counted = ap (λ text. counts_lines t f p (split_lines text)) same;
        };
      }

  -- what was read of a haystack
  pub reads_some : (P : List ℕ → Option (List ℕ) → Type 0) (r0 left : Option (List ℕ)) (text bytes : List ℕ) → r0 ≡ Some text →
      Consumes r0 left bytes →
      ((rest : List ℕ) → P (bytes ++ rest) (Some rest)) → P text left
  reads_some P None left text bytes is taken all = absurd (none-some text is)
  reads_some P (Some xs) None text bytes is taken all = absurd taken
  reads_some P (Some xs) (Some ys) text bytes is taken all = subst (λ l. P l (Some ys)) (sym taken ∙ same_Some xs text is) (all ys)

  pub reads_same : (p : Progress) (before after text bytes : List ℕ) (r0 left w : Option (List ℕ)) → r0 ≡ Some text →
      Consumes r0 left bytes →
      after ≡ before ++ bytes → ReadsAndWrites t f p p before after text left w w
  reads_same p before after text bytes r0 left w is taken appended =
      reads_some (λ l o. ReadsAndWrites t f p p before after l o w w) r0 left text bytes is taken
      (λ rest. record { rest = rest; is_left = refl; writes = no_more p before after bytes rest w appended })

  pub reads_more : (p q : Progress) (before mid after text bytes : List ℕ) (r0 left w v : Option (List ℕ)) → r0 ≡ Some text →
      Consumes r0 left bytes →
      mid ≡ before ++ bytes → ((more : List ℕ) → Writes t f p q (mid ++ more) (after ++ more) w v) →
      ReadsAndWrites t f p q before after text left w v
  reads_more p q before mid after text bytes r0 left w v is taken appended writes =
      reads_some (λ l o. ReadsAndWrites t f p q before after l o w v) r0 left text bytes is taken
      (λ rest. record {
        rest = rest;
        is_left = refl;
        writes = subst (λ l. Writes t f p q l (after ++ rest) w v) (ap (λ l. l ++ rest) appended ∙ append_assoc before bytes rest)
            (writes rest);
      })

  pub part_more : (p : Progress) (before mid text bytes : List ℕ) (r0 left w v : Option (List ℕ)) → r0 ≡ Some text →
      Consumes r0 left bytes →
      mid ≡ before ++ bytes → ((more : List ℕ) → WritesPart t f p (mid ++ more) w v) → WritesPart t f p (before ++ text) w v
  part_more p before mid text bytes r0 left w v is taken appended part =
      reads_some (λ l o. WritesPart t f p (before ++ l) w v) r0 left text bytes is taken
      (λ rest. subst (λ l. WritesPart t f p l w v) (ap (λ l. l ++ rest) appended ∙ append_assoc before bytes rest) (part rest))

  -- a step after others
  then_printed : (a b c d : List ℕ) (one two : List ℕ) → a ≡ one ++ b → b ≡ two ++ c → a ≡ (one ++ two) ++ c
  then_printed a b c d one two first second = first ∙ ap (λ l. one ++ l) second ∙ sym (append_assoc one two c)

  pub then_writes : (o p q : Progress) (x y z : List ℕ) (u w v : Option (List ℕ)) → Writes t f o p x y u w → Writes t f p q y z w v →
      Writes t f o q x z u v
  then_writes o p q x y z u w v a b = record {
    reported = a.reported ++ b.reported;
    written = Appends-trans u w v a.reported b.reported a.written b.written;
    on = record {
      printed = then_printed (reports o x) (reports p y) (reports q z) [] a.reported b.reported a.on.printed b.on.printed;
      counted = b.on.counted ∙ a.on.counted;
    };
  }

  pub then_part : (o p : Progress) (x y : List ℕ) (u w v : Option (List ℕ)) → Writes t f o p x y u w → WritesPart t f p y w v →
      WritesPart t f o x u v
  then_part o p x y u w v a part = (
    length a.reported + part.0,
    subst (Appends u v) (sym (take-append-add a.reported (reports p y) part.0) ∙ ap (take (length a.reported + part.0)) (sym a.on.printed))
        (Appends-trans u w v a.reported (take part.0 (reports p y)) a.written part.1),
  )

  -- what a block's lines are reported as, with what was read as its calls know it
  told_of_read : (p q : Progress) (read block same rest more empty out : List ℕ) (done : ℕ) → empty ≡ [] → block ≡ read → same ≡ read →
      rest ≡ drop done same →
      empty ++ reports p (block ++ more) ≡ out ++ reports q (drop done block ++ more) →
      reports p (read ++ more) ≡ out ++ reports q (rest ++ more)
  told_of_read p q read block same rest more empty out done none is also cut reported =
      let behind : drop done block ≡ rest = ap (drop done) (is ∙ sym also) ∙ sym cut in
      ap (λ l. reports p (l ++ more)) (sym is)
      ∙ ap (λ l. l ++ reports p (block ++ more)) (sym none)
      ∙ reported
      ∙ ap (λ l. out ++ reports q (l ++ more)) behind

  pub read_writes : (p q : Progress) (read block same rest more empty out shown : List ℕ) (done : ℕ) (w v : Option (List ℕ)) → empty ≡ [] →
      block ≡ read → same ≡ read →
      rest ≡ drop done same → shown ≡ out → empty ++ reports p (block ++ more) ≡ out ++ reports q (drop done block ++ more) →
      counts_lines t f q (split_lines (drop done block ++ more)) ≡ counts_lines t f p (split_lines (block ++ more)) →
      Appends w v shown → Writes t f p q (read ++ more) (rest ++ more) w v
  read_writes p q read block same rest more empty out shown done w v none is also cut seen reported counted written = record {
    reported = out;
    written = subst (Appends w v) seen written;
    on = record {
      printed = told_of_read p q read block same rest more empty out done none is also cut reported;
      counted = ap (λ l. counts_lines t f q (split_lines (l ++ more))) (cut ∙ ap (drop done) (also ∙ sym is)) ∙ counted
          ∙ ap (λ l. counts_lines t f p (split_lines (l ++ more))) is;
    };
  }

  pub read_part : (p q : Progress) (read block same rest more empty out shown : List ℕ) (done : ℕ) (w v : Option (List ℕ)) → empty ≡ [] →
      block ≡ read → same ≡ read →
      rest ≡ drop done same → shown ≡ out → empty ++ reports p (block ++ more) ≡ out ++ reports q (drop done block ++ more) →
      (n : ℕ) × Appends w v (take n shown) → WritesPart t f p (read ++ more) w v
  read_part p q read block same rest more empty out shown done w v none is also cut seen reported part =
      out_part p q (read ++ more) (rest ++ more) out part.0 w v
      (told_of_read p q read block same rest more empty out done none is also cut reported)
      (subst (λ l. Appends w v (take part.0 l)) seen part.1)

  -- steps over what was read
  pub reads_none : (p : Progress) (x text : List ℕ) (left w : Option (List ℕ)) → left ≡ Some text → ReadsAndWrites t f p p x x text left w w
  reads_none p x text left w is = record {
    rest = text;
    is_left = is;
    writes = record { reported = []; written = Appends-nil w; on = record { printed = refl; counted = refl } };
  }

  pub then_reads : (o p q : Progress) (x y z text : List ℕ) (now left u w v : Option (List ℕ))
      (a : ReadsAndWrites t f o p x y text now u w) →
      ReadsAndWrites t f p q y z a.rest left w v → ReadsAndWrites t f o q x z text left u v
  then_reads o p q x y z text now left u w v a b = record {
    rest = b.rest;
    is_left = b.is_left;
    writes = then_writes o p q (x ++ text) (y ++ a.rest) (z ++ b.rest) u w v a.writes b.writes;
  }

  pub reads_part : (o p : Progress) (x y text : List ℕ) (now u w : Option (List ℕ)) → ReadsAndWrites t f o p x y text now u w →
      WritesPart t f o (x ++ text) u w
  reads_part o p x y text now u w a = then_part o p (x ++ text) (y ++ a.rest) u w w a.writes (none_part p (y ++ a.rest) w)

  -- all of it is a beginning too
  pub whole_part : (p : Progress) (text : List ℕ) (w v u : Option (List ℕ)) → Appends w v (reports p text) → Keeps v u →
      WritesPart t f p text w u
  whole_part p text w v u written kept = (
    length (reports p text),
    subst (Appends w u) (sym (take-length (reports p text)))
        (appends_kept w v u (reports p text) written kept),
  )

  -- the whole haystack
  pub all_written : (o p : Progress) (x y text : List ℕ) (now u w v : Option (List ℕ)) (a : ReadsAndWrites t f o p x y text now u w) →
      Appends w v (reports p (y ++ a.rest)) → Appends u v (reports o (x ++ text))
  all_written o p x y text now u w v a rest =
      subst (Appends u v) (sym a.writes.on.printed) (Appends-trans u w v a.writes.reported (reports p (y ++ a.rest)) a.writes.written rest)

  pub all_part : (o p : Progress) (x y text : List ℕ) (now u w v : Option (List ℕ)) (a : ReadsAndWrites t f o p x y text now u w) →
      WritesPart t f p (y ++ a.rest) w v → WritesPart t f o (x ++ text) u v
  all_part o p x y text now u w v a part = then_part o p (x ++ text) (y ++ a.rest) u w v a.writes part

-- what is written of bytes that are known by an equation
pub shown_written : (empty shown out reported : List ℕ) (w v : Option (List ℕ)) → empty ≡ [] → shown ≡ out → empty ++ reported ≡ out →
    Appends w v shown → Appends w v reported
shown_written empty shown out reported w v none seen is written = subst (Appends w v) (seen ∙ sym is ∙ ap (λ l. l ++ reported) none) written

pub shown_part : (empty shown out reported : List ℕ) (w v : Option (List ℕ)) → empty ≡ [] → shown ≡ out → empty ++ reported ≡ out →
    (n : ℕ) × Appends w v (take n shown) →
    (n : ℕ) × Appends w v (take n reported)
shown_part empty shown out reported w v none seen is part =
    (part.0, subst (λ l. Appends w v (take part.0 l)) (seen ∙ sym is ∙ ap (λ l. l ++ reported) none) part.1)

pub some_of : (o : Option (List ℕ)) (P : List ℕ → Type 0) → ((x : List ℕ) → o ≡ Some x → P x) → IfSome o P
some_of None P f = tt
some_of (Some x) P f = f x refl

pub at_end : (o : Option (List ℕ)) (rest : List ℕ) → o ≡ Some rest → IsAtEnd o → rest ≡ []
at_end None rest is end = absurd (none-some rest is)
at_end (Some xs) rest is end = sym (same_Some xs rest is) ∙ end
