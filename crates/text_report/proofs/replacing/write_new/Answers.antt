use Rattle.std.proofs.Common.{◌≡◌, ◌++◌, [], ℕ, List, ap, refl, subst, sym, take}
use Rattle.std.specs.Io.KnownBytes.{Appends}
use Rattle.text_report.specs.ReplacedProgress.{reported_items}
use Rattle.text_report.specs.declared.replacing.NewProgress.{NewProgress}
use Rattle.text_report.proofs.NewReportLemmas.{all_part, all_written, none_to_come, starts_new}
use Rattle.text_report.proofs.ReplacedLemmas.{none_begun}
use Rattle.text_report.proofs.replacing.write_new.Goals as goal

pub write_groups-requires-clause-waits : goal.write_groups-requires-clause-waits
write_groups-requires-clause-waits g c = c.new.ensures.waits c.args.task.task.what.now

pub write_groups-requires-clause-begun : goal.write_groups-requires-clause-begun
write_groups-requires-clause-begun g c = none_begun c.args.task.task.found.now 0

pub returns-in-Err-clause-fault : goal.returns-in-Err-clause-fault
returns-in-Err-clause-fault g c order flags =
    let t = c.args.task in
    let p : NewProgress = record { at = 0; first = 0; turn = record { index = 0; left = c.first_of-first.result; next = c.first_selected.result }; telling = c.new.result; written = 0 } in
    let part = c.in-Err.ensures.fault order in (
      part.0,
      subst (λ (l : List ℕ). Appends (g.W.Write.contents c.args.writer.now) (g.W.Write.contents c.write_groups.new.writer) (take part.0 l))
          (starts_new t c.args.known c.new.result c.first_of-first.result c.first_selected.result c.first_of-first.ensures c.new.ensures.count
          c.new.ensures.matches (c.new.ensures.prints t.task.what.now c.first_of-first.ensures) flags p refl) part.1,
    )

pub returns-in-Ok-write_rest-clause-reported : goal.returns-in-Ok-write_rest-clause-reported
returns-in-Ok-write_rest-clause-reported g c order flags =
    let t = c.args.task in
    let p : NewProgress = record { at = 0; first = 0; turn = record { index = 0; left = c.first_of-first.result; next = c.first_selected.result }; telling = c.new.result; written = 0 } in
    let q = c.write_groups.new.progress in
    let start = g.W.Write.contents c.args.writer.now in
    let mid = g.W.Write.contents c.write_groups.new.writer in
    let last = g.W.Write.contents c.write_rest.new.writer in
    subst (Appends start last)
    (starts_new t c.args.known c.new.result c.first_of-first.result c.first_selected.result c.first_of-first.ensures c.new.ensures.count
    c.new.ensures.matches (c.new.ensures.prints t.task.what.now c.first_of-first.ensures) flags p refl)
    (all_written t start mid c.write_groups.new.out.items p q (c.in-Ok.ensures.printed order) last (none_to_come t q c.in-Ok.ensures.end)
    (subst (λ (l : List ℕ). Appends mid last (l ++ reported_items t.task q.telling [] [])) c.deref.ensures.value c.in-Ok-write_rest.ensures.written))

pub returns-clause-fault : goal.returns-clause-fault
returns-clause-fault g c order flags =
    let t = c.args.task in
    let p : NewProgress = record { at = 0; first = 0; turn = record { index = 0; left = c.first_of-first.result; next = c.first_selected.result }; telling = c.new.result; written = 0 } in
    let q = c.write_groups.new.progress in
    let start = g.W.Write.contents c.args.writer.now in
    let mid = g.W.Write.contents c.write_groups.new.writer in
    let last = g.W.Write.contents c.write_rest.new.writer in
    let part =
    all_part t start mid c.write_groups.new.out.items p q (c.in-Ok.ensures.printed order) last (none_to_come t q c.in-Ok.ensures.end)
    (subst (λ (l : List ℕ). (n : ℕ) × Appends mid last (take n (l ++ reported_items t.task q.telling [] []))) c.deref.ensures.value
    c.in-Err-write_rest.ensures.fault) in (
      part.0,
      subst (λ (l : List ℕ). Appends start last (take part.0 l))
          (starts_new t c.args.known c.new.result c.first_of-first.result c.first_selected.result c.first_of-first.ensures c.new.ensures.count
          c.new.ensures.matches (c.new.ensures.prints t.task.what.now c.first_of-first.ensures) flags p refl) part.1,
    )
