use Rattle.std.proofs.Common.{length, ◌-◌, ◌≡◌}
use Rattle.std.specs.Io.KnownBytes.{Keeps}
use Rattle.grep_core.specs.Headings.{with_heading}
use Rattle.grep_core.proofs.heading.Headed.write_heading.Given as goal

abbrev pub invariant-loop-self : goal.invariant-loop-self
invariant-loop-self g l = record {
  left : l.self.left ≡ l.fn.self.left;
  heading : l.self.heading ≡ l.fn.self.heading;
  known : Keeps (with_heading (g.W.Write.contents l.fn.self.writer) l.fn.self.heading.items l.fn.self.done)
      (with_heading (g.W.Write.contents l.self.writer) l.self.heading.items l.self.done);
}

abbrev pub decreases-loop-self : goal.decreases-loop-self
decreases-loop-self g l = length l.self.heading.items - l.self.done
