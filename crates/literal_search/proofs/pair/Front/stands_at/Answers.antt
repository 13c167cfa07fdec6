use Rattle.std.proofs.Common.{◌≡◌, ℕ, ◌<◌, get_or, sym, ap, ◌∙◌, arith}
use Rattle.std.proofs.lemmas.Bool.{eqb-true, eq-eqb}
use Rattle.regex_literal.proofs.lemmas.FrontLemmas.{same_of_unmarked, unmarked_of_same}
use Rattle.literal_search.proofs.pair.Front.stands_at.Goals as goal

pub returns : goal.returns
returns c needle is_front =
    let len = c.args.self.now.len in
    let long = is_front.0 in
    let short = c.requires.short in
    let xs = λ (k : ℕ). get_or c.load.result k 0 in
    let ys = λ (k : ℕ). get_or c.load-2.result k 0 in
    let front : (k : ℕ) → k < len → ys k ≡ get_or needle k 0 = λ k l.
    c.load-2.ensures.each k (omega arith) ∙ ap (λ j. get_or c.args.self.now.bytes j 0) (omega arith) ∙ is_front.1 k (omega arith) (omega arith) in
    let m = c.bits_below.result in
    let marks = c.bits_below.ensures in (
      λ h. record {
        fits = omega arith;
        reads = λ j l.
            sym (c.load.ensures.each j (omega arith))
            ∙ same_of_unmarked xs ys _ _ m len short c.differing-differences.ensures.each c.top_bits.ensures marks.kept marks.no_more (eqb-true _ _ h) j (omega arith)
            ∙ front j (omega arith);
      },
      λ h. eq-eqb _ _ (unmarked_of_same xs ys _ _ m len short c.differing-differences.ensures.each c.top_bits.ensures marks.kept marks.no_more c.bits_below.type_inv
          (λ k l. c.load.ensures.each k (omega arith) ∙ h.reads k (omega arith) ∙ sym (front k l))),
    )
