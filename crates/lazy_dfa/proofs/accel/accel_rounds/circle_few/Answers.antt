use Rattle.std.proofs.Common.{◌≡◌, ◌∙◌, ◌<◌, ℕ, sym, subst, arith}
use Rattle.std.specs.Prelude.{IfSome}
use Rattle.lazy_dfa.specs.Ids.{tag}
use Rattle.lazy_dfa.specs.Skips.{IsAfterByte, cell_by}
use Rattle.lazy_dfa.proofs.accel.accel_rounds.circle_few.Goals as goal

pub circle_by_pairs-requires-clause-pairs : goal.circle_by_pairs-requires-clause-pairs
circle_by_pairs-requires-clause-pairs g c =
    let cells = c.args.cache.now.cells in
    let classes = c.args.cache.now.classes in
    let skip = c.args.skip.now in
    let low : skip.stop < tag = omega (arith, c.requires.stop, c.requires.untagged) in
    let noted = c.requires.noted low in
    let reported : IsAfterByte cells classes skip.stop skip.leaving c.in-Some.behind =
    subst (λ o. IfSome o (IsAfterByte cells classes skip.stop skip.leaving)) c.in-Some.is noted.1 in
    let same = c.requires.same in
    record {
      stays = λ byte l fails. subst (λ (id : ℕ). cell_by cells classes id byte ≡ id) c.requires.stop (
          noted.0 byte l (sym (same byte) ∙ fails)
          );
      quiet = λ byte second l m passes fails. same second ∙ (reported byte second l m (sym (same byte) ∙ passes) fails).0;
      plain = λ byte second l m passes fails. subst (λ (id : ℕ). cell_by cells classes id byte < tag) c.requires.stop (
          (reported byte second l m (sym (same byte) ∙ passes) fails).1
          );
      back = λ byte second l m passes fails. subst (λ (id : ℕ). cell_by cells classes (cell_by cells classes id byte) second ≡ id)
          c.requires.stop (
          (reported byte second l m (sym (same byte) ∙ passes) fails).2
          );
    }
