use Rattle.std.proofs.Common.{◌≡◌, ◌++◌, ◌∙◌, ℕ, List, ap, arith, refl, subst, true}
use Rattle.line_search.specs.Searchers.{SearchesFor, Sought, found_by}
use Rattle.text_report.specs.EventCourse.{AreOrdered, printed_left}
use Rattle.text_report.specs.Events.{printed}
use Rattle.text_report.proofs.EventLoopLemmas.{cut_short, held_more, then_printed}
use Rattle.text_report.proofs.EventPieceLemmas.{cut_none}
use Rattle.text_report.proofs.event_loop.write_groups.Goals as goal

pub returns-in-Err-clause-fault : goal.returns-in-Err-clause-fault
returns-in-Err-clause-fault g c by order time =
    let pr = c.loop-progress.invariant.printed in
    let now = g.W.Write.contents c.loop-progress.writer in
    cut_short c.args.task (found_by by) time c.args.progress.now c.loop-progress.progress c.args.out.now.items pr.all
    (g.W.Write.contents c.args.writer.now) now pr.far (pr.goes_on by order)
    (cut_none (g.W.Write.contents c.args.writer.now) now pr.all c.loop-progress.out.items c.loop-progress.progress.written
    c.loop-progress.progress.counts.end pr.are_held)

pub loop-progress-preserved : goal.loop-progress-preserved
loop-progress-preserved g c =
    let t = c.args.task in
    let pr = c.loop-progress.invariant.printed in
    let p = c.loop-progress.progress in
    let q = c.push_next.new.progress in
    let start = g.W.Write.contents c.args.writer.now in
    let now = g.W.Write.contents c.loop-progress.writer in
    let last = g.W.Write.contents c.write_held.new.writer in
    let more = c.push_next.new.out.items in
    record {
      same = c.in-Ok.ensures.same ∙ c.loop-progress.invariant.same;
      within = c.in-Ok.ensures.on.1;
      known = c.in-Ok.ensures.known;
      past = c.in-Ok.ensures.past;
      printed = then_printed t c.args.finder.now start now last c.args.out.now.items c.loop-progress.out.items more c.write_held.new.out.items
          c.args.progress.now p q
          (record { at = q.at; first = q.first; turn = q.turn; counts = q.counts; written = c.write_held.new.written }) pr
          (c.in-Ok-write_held.ensures.held start (pr.are_held.done ++ more)
          (held_more t c.args.finder.now start now last c.args.out.now.items c.loop-progress.out.items more c.write_held.new.out.items
          c.args.progress.now p q q pr c.in-Ok.ensures.written c.in-Ok.ensures.kept)) c.in-Ok.ensures.on.0 refl refl refl
          (subst (λ (s : Sought). (by : SearchesFor s true) → AreOrdered t → (before : List ℕ) →
          printed_left t (found_by by) p (printed (before ++ c.loop-progress.out.items) p.counts)
          ≡ printed_left t (found_by by) q (printed (before ++ more) q.counts)) c.loop-progress.invariant.same c.in-Ok.ensures.goes_on);
    }

pub returns-in-Err-write_held-clause-fault : goal.returns-in-Err-write_held-clause-fault
returns-in-Err-write_held-clause-fault g c by order time =
    let t = c.args.task in
    let pr = c.loop-progress.invariant.printed in
    let p = c.loop-progress.progress in
    let q = c.push_next.new.progress in
    let start = g.W.Write.contents c.args.writer.now in
    let now = g.W.Write.contents c.loop-progress.writer in
    let last = g.W.Write.contents c.write_held.new.writer in
    let more = c.push_next.new.out.items in
    cut_short t (found_by by) time c.args.progress.now q c.args.out.now.items (pr.are_held.done ++ more) start last
    (λ _. omega (arith, c.in-Ok.ensures.on.0))
    (pr.goes_on by order
    ∙ ap (λ (l : List ℕ). printed_left t (found_by by) p (printed l p.counts)) pr.are_held.are
    ∙ subst (λ (s : Sought). (by : SearchesFor s true) → AreOrdered t → (before : List ℕ) →
    printed_left t (found_by by) p (printed (before ++ c.loop-progress.out.items) p.counts)
    ≡ printed_left t (found_by by) q (printed (before ++ more) q.counts)) c.loop-progress.invariant.same c.in-Ok.ensures.goes_on by order
    pr.are_held.done)
    (c.in-Err-write_held.ensures.fault start (pr.are_held.done ++ more)
    (held_more t c.args.finder.now start now last c.args.out.now.items c.loop-progress.out.items more c.write_held.new.out.items
    c.args.progress.now p q q pr c.in-Ok.ensures.written c.in-Ok.ensures.kept))
