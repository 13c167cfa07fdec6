use Rattle.std.proofs.Common.{ℕ, List, length, slice_range, subst, take}
use Rattle.std.specs.Io.KnownBytes.{Appends}
use Rattle.grep_core.proofs.HeadingLemmas.{heading_moved}
use Rattle.grep_core.proofs.heading.Headed.write_heading.Goals as goal

pub loop-self-preserved : goal.loop-self-preserved
loop-self-preserved g c = record {
  left = c.loop-self.invariant.left;
  heading = c.loop-self.invariant.heading;
  known =
      heading_moved _ (g.W.Write.contents c.loop-self.self.writer) (g.W.Write.contents c.write.new.self) c.loop-self.self.heading.items
      c.loop-self.self.done c.in-Ok.n c.loop-self.invariant.known
      (subst (λ (h : List ℕ). Appends (g.W.Write.contents c.loop-self.self.writer) (g.W.Write.contents c.write.new.self)
      (take c.in-Ok.n (slice_range h c.loop-self.self.done (length h)))) c.deref.ensures.value c.in-Ok.ensures.bytes);
}
