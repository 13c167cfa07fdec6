use Rattle.std.proofs.Common.{◌∙◌, ◌+◌, ◌<◌, List, Some, length, refl, sym, subst}
use Rattle.lazy_dfa.specs.Dfas.{after}
use Rattle.streams.specs.Reading.{Appends}
use Rattle.streams.specs.declared.stream.StreamMatch.{StreamMatch}
use Rattle.streams.proofs.StepLemmas.{dies, ends, goes, goes_on, quits, same_state}
use Rattle.streams.proofs.TagLemmas.{row_of}
use Rattle.streams.proofs.reading.make_step.Goals as goal

pub returns-in-Err-clause-step : goal.returns-in-Err-clause-step
returns-in-Err-clause-step g c = λ s h. (
  (
    same_state c.args.cache.now c.args.id c.in_ok-before.before s c.requires.own.shape c.in_ok-before.ensures.state h,
    c.in_ok-before.ensures.is,
    c.of_step.ensures.step c.args.dfa.now c.args.cache.now c.args.id (Some c.args.byte) s h c.in-Err.ensures.step.err,
  ),
  refl,
)

pub returns-then-is_quit-clause-step : goal.returns-then-is_quit-clause-step
returns-then-is_quit-clause-step g c = λ s h. (
  quits c.args.dfa.now c.args.cache.now c.next_state.new.cache c.args.id c.in-Ok.to c.args.at c.args.byte s c.requires.own c.in-Ok.ensures.own
      h (c.in-Ok.ensures.step.step s h) (sym c.is_quit.ensures ∙ c.if-is_quit.true),
  refl,
)

pub returns-then-is_dead-clause-step : goal.returns-then-is_dead-clause-step
returns-then-is_dead-clause-step g c = λ s h. (
  dies c.args.dfa.now c.args.cache.now c.next_state.new.cache c.args.id c.in-Ok.to c.args.at c.args.byte s c.requires.own c.in-Ok.ensures.own
      h (c.in-Ok.ensures.step.step s h) (sym c.is_quit.ensures ∙ c.if-is_quit.false) (sym c.is_dead.ensures ∙ c.if-is_dead.true),
  refl,
)

pub write_counted-requires-clause-row : goal.write_counted-requires-clause-row
write_counted-requires-clause-row g c =
    let s = c.in_ok-before.before in
    let h = c.in_ok-before.ensures.state in
    row_of c.next_state.new.cache c.in-Ok.to (after c.args.dfa.now s (Some c.args.byte))
    (goes_on c.args.dfa.now c.args.cache.now c.next_state.new.cache c.args.id c.in-Ok.to c.args.at c.args.byte s c.requires.own
    c.in-Ok.ensures.own h (c.in-Ok.ensures.step.step s h) (sym c.is_quit.ensures ∙ c.if-is_quit.false)
    (sym c.is_dead.ensures ∙ c.if-is_dead.false))

pub returns-in-Some-clause-step : goal.returns-in-Some-clause-step
returns-in-Some-clause-step g c = λ s h.
    let led = c.in-Ok.ensures.step.step s h in
    let quiet = sym c.is_quit.ensures ∙ c.if-is_quit.false in
    let alive = sym c.is_dead.ensures ∙ c.if-is_dead.false in
    let held = goes_on c.args.dfa.now c.args.cache.now c.next_state.new.cache c.args.id c.in-Ok.to c.args.at c.args.byte s c.requires.own
    c.in-Ok.ensures.own h led quiet alive in (
      held,
      goes c.args.dfa.now c.args.cache.now c.next_state.new.cache c.args.id c.in-Ok.to c.args.at c.args.byte s c.requires.own
          c.in-Ok.ensures.own h led quiet alive,
      subst (λ (l : List StreamMatch). Appends c.args.rows.now c.write_counted.new.rows c.args.count c.in-Some.n l)
          (sym (ends c.args.dfa.now c.args.cache.now c.next_state.new.cache c.args.id c.in-Ok.to c.args.at c.args.byte s c.requires.own
          c.in-Ok.ensures.own h led quiet))
          (c.in-Some.ensures.fits (after c.args.dfa.now s (Some c.args.byte)) held),
    )

pub returns-in-None-clause-step : goal.returns-in-None-clause-step
returns-in-None-clause-step g c = λ s h.
    let led = c.in-Ok.ensures.step.step s h in
    let quiet = sym c.is_quit.ensures ∙ c.if-is_quit.false in
    let alive = sym c.is_dead.ensures ∙ c.if-is_dead.false in
    let held = goes_on c.args.dfa.now c.args.cache.now c.next_state.new.cache c.args.id c.in-Ok.to c.args.at c.args.byte s c.requires.own
    c.in-Ok.ensures.own h led quiet alive in (
      (
        same_state c.args.cache.now c.args.id c.in_ok-before.before s c.requires.own.shape c.in_ok-before.ensures.state h,
        c.in_ok-before.ensures.is,
        subst (λ (l : List StreamMatch). length c.args.rows.now < c.args.count + length l)
            (sym (ends c.args.dfa.now c.args.cache.now c.next_state.new.cache c.args.id c.in-Ok.to c.args.at c.args.byte s c.requires.own
            c.in-Ok.ensures.own h led quiet))
            (c.in-None.ensures.full (after c.args.dfa.now s (Some c.args.byte)) held),
      ),
      c.in-None.ensures.same,
    )
