use Rattle.std.proofs.Common.{◌≡◌, ◌∙◌, ◌==◌, length, subst, arith, true, false, [], Err, Ok, refl, inl, inr, sym, ap, map}
use Rattle.grep_cli.specs.Selecting.{selection}
use Rattle.hirgrep_main.specs.declared.results.outcome.Outcome.{Outcome}
use Rattle.hirgrep_main.specs.declared.searching.Named.TheVariants.{Input, File, Folder, Device}
use Rattle.hirgrep_main.specs.Walking.{AreHandled, IsHandled}
use Rattle.hirgrep_main.proofs.OutcomeLemmas.{continues_as, continues_on}
use Rattle.hirgrep_main.proofs.WalkingLemmas.{all_came, continues_failed, ends, fails, if_done, if_failed, is_chosen, is_known, is_left, leads_on, names_searched, none_came}
use Rattle.hirgrep_main.proofs.searching.search_files.Goals as goal
use Rattle.hirgrep_main.proofs.searching.search_files.Goals.{else-loop-path-test, then-loop-path-test+in_ok-is_left_out+else-branch+then-outcome, in-Ok-Input, in-Ok-File, in-Ok-Folder+in_ok-search_directory-in-Ok-Folder, in-Ok-Device, in-Err}

pub loop-path-preserved-then-branch : goal.loop-path-preserved-then-branch
loop-path-preserved-then-branch c =
    let asked = c.task_of-task.result.asked.now in
    let s = selection c.task_of-task.result.selection.now in
    let bare = c.task_of-task.result.bare in
    record {
      continues = c.loop-path.invariant.continues;
      rest = leads_on asked s bare c.paths_of-paths.result.now c.args.outcome.now c.loop-path.path-index _ c.loop-path-test.true c.loop-path.outcome
          c.loop-path.invariant.rest c.named_at-named.result c.loop-path.outcome
          (is_left asked s bare _ c.named_at-named.result c.loop-path.outcome c.named_at-named.ensures
          (sym c.in_ok-is_left_out.ensures ∙ c.if-branch.true));
    }

pub loop-path-preserved : goal.loop-path-preserved
loop-path-preserved c =
    let asked = c.task_of-task.result.asked.now in
    let s = selection c.task_of-task.result.selection.now in
    let bare = c.task_of-task.result.bare in
    let named = c.named_at-named.result in
    let input = c.named_at-named.ensures in
    let chosen = sym c.in_ok-is_left_out.ensures ∙ c.if-branch.false in
    let is : IsHandled asked s bare _ named c.loop-path.outcome c.match-named.outcome =
    elim c.match-named.branch [
      | in-Ok-Input w ↦ is_known asked s bare _ named w.in-Ok-Input.field-0 Input c.loop-path.outcome c.match-named.outcome w.search_input.new.outcome input chosen w.in-Ok-Input.is (rw w.in-Ok-Input.is at w.in-Ok-Input.field-0-is)
          w.search_input.ensures.tried w.search_input.ensures.continues w.outcome-is
      | in-Ok-File w ↦ is_known asked s bare _ named w.in-Ok-File.field-0 File c.loop-path.outcome c.match-named.outcome w.search_file.new.outcome input chosen w.in-Ok-File.is (rw w.in-Ok-File.is at w.in-Ok-File.field-0-is)
          w.search_file.ensures.tried w.search_file.ensures.continues w.outcome-is
      | in-Ok-Folder+in_ok-search_directory-in-Ok-Folder w ↦ is_known asked s bare _ named w.in-Ok-Folder.field-0 Folder c.loop-path.outcome c.match-named.outcome w.search_directory.new.outcome input chosen w.in-Ok-Folder.is (rw w.in-Ok-Folder.is at w.in-Ok-Folder.field-0-is)
          (w.search_directory.ensures.rejected, w.search_directory.ensures.skipped) w.search_directory.ensures.continues w.outcome-is
      | in-Ok-Device w ↦ is_known asked s bare _ named w.in-Ok-Device.field-0 Device c.loop-path.outcome c.match-named.outcome w.search_device.new.outcome input chosen w.in-Ok-Device.is (rw w.in-Ok-Device.is at w.in-Ok-Device.field-0-is)
          (λ no. w.search_device.ensures.skipped (w.reads_named-is_read.ensures ∙ no), λ yes. w.search_device.ensures.tried (w.reads_named-is_read.ensures ∙ yes)) w.search_device.ensures.continues w.outcome-is
      | in-Err w ↦ is_chosen asked s bare _ named (Err w.in-Err.e) c.loop-path.outcome c.match-named.outcome w.fail.new.self input chosen w.in-Err.is
          w.fail.ensures (continues_as (continues_failed c.loop-path.outcome) w.fail.ensures) w.outcome-is
    ] in
    record {
      continues = continues_on c.loop-path.invariant.continues is.continues;
      rest = leads_on asked s bare c.paths_of-paths.result.now c.args.outcome.now c.loop-path.path-index _ c.loop-path-test.true c.loop-path.outcome
          c.loop-path.invariant.rest named c.match-named.outcome is;
    }

-- what comes of all of them, by the options
pub returns-then-is_empty-clause-each : goal.returns-then-is_empty-clause-each
returns-then-is_empty-clause-each c = (
  true,
  if_done c.conclude.result (true ≡ true) refl,
  names_searched c.args.asked.now c.with_folders-searched.result c.with_folders-searched.result c.args.files.selection.now c.args.files.selection.now _
      c.args.files.names.now (length c.args.files.names.now == 0) true (map (λ p. p.now) c.paths_of-paths.result.now)
      c.args.outcome.now c.args.outcome.now c.conclude.new.outcome
      c.with_folders-searched.ensures refl refl refl
      c.paths_of-paths.ensures
      (none_came c.with_folders-searched.result (selection c.args.files.selection.now) (length c.args.files.names.now == 0)
      c.paths_of-paths.result.now c.args.outcome.now (sym c.is_empty.ensures ∙ c.if-is_empty.true))
      c.conclude.ensures.none,
)

pub returns-in_err-is_left_out-clause-each : goal.returns-in_err-is_left_out-clause-each
returns-in_err-is_left_out-clause-each c =
    let asked = c.task_of-task.result.asked.now in
    let s = selection c.task_of-task.result.selection.now in
    let bare = c.task_of-task.result.bare in (
      false,
      if_failed c.from_residual.result (false ≡ true) c.from_residual.ensures.0,
      names_searched c.args.asked.now c.with_folders-searched.result asked c.args.files.selection.now c.task_of-task.result.selection.now _
          c.args.files.names.now bare false (map (λ p. p.now) c.paths_of-paths.result.now)
          c.args.outcome.now c.loop-path.outcome c.loop-path.outcome
          c.with_folders-searched.ensures c.task_of-task.ensures.asked c.task_of-task.ensures.selection c.task_of-task.ensures.bare
          c.paths_of-paths.ensures
          (fails asked s bare c.paths_of-paths.result.now c.args.outcome.now c.loop-path.path-index (record { ref_ptr = (0, 0); now = [] })
          c.loop-path-test.true c.loop-path.outcome c.loop-path.invariant.rest c.named_at-named.result c.loop-path.outcome (inl refl))
          (λ _. refl),
    )

pub returns-in_err-search_directory-in-Ok-Folder-clause-each : goal.returns-in_err-search_directory-in-Ok-Folder-clause-each
returns-in_err-search_directory-in-Ok-Folder-clause-each c =
    let asked = c.task_of-task.result.asked.now in
    let s = selection c.task_of-task.result.selection.now in
    let bare = c.task_of-task.result.bare in
    let named = c.named_at-named.result in
    let is : IsHandled asked s bare _ named c.loop-path.outcome c.search_directory.new.outcome =
    is_known asked s bare _ named c.in-Ok-Folder.field-0 Folder c.loop-path.outcome c.search_directory.new.outcome c.search_directory.new.outcome
    c.named_at-named.ensures (sym c.in_ok-is_left_out.ensures ∙ c.if-branch.false) c.in-Ok-Folder.is (rw c.in-Ok-Folder.is at c.in-Ok-Folder.field-0-is)
    (c.search_directory.ensures.rejected, c.search_directory.ensures.skipped) c.search_directory.ensures.continues refl in (
      false,
      if_failed c.from_residual-in_err-search_directory-in-Ok-Folder.result (false ≡ true) c.from_residual-in_err-search_directory-in-Ok-Folder.ensures.0,
      names_searched c.args.asked.now c.with_folders-searched.result asked c.args.files.selection.now c.task_of-task.result.selection.now _
          c.args.files.names.now bare false (map (λ p. p.now) c.paths_of-paths.result.now)
          c.args.outcome.now c.search_directory.new.outcome c.search_directory.new.outcome
          c.with_folders-searched.ensures c.task_of-task.ensures.asked c.task_of-task.ensures.selection c.task_of-task.ensures.bare
          c.paths_of-paths.ensures
          (fails asked s bare c.paths_of-paths.result.now c.args.outcome.now c.loop-path.path-index _
          c.loop-path-test.true c.loop-path.outcome c.loop-path.invariant.rest named c.search_directory.new.outcome (inr is))
          (λ _. refl),
    )

pub returns-clause-each : goal.returns-clause-each
returns-clause-each c =
    let asked = c.task_of-task.result.asked.now in
    let s = selection c.task_of-task.result.selection.now in
    let bare = c.task_of-task.result.bare in
    let came : AreHandled asked s bare true c.loop-path-test.outcome (map (λ p. p.now) c.paths_of-paths.result.now) c.args.outcome.now =
    elim c.loop-path-test.branch [
      | else-loop-path-test w ↦
          subst (λ o. AreHandled asked s bare true o (map (λ p. p.now) c.paths_of-paths.result.now) c.args.outcome.now) (sym w.outcome-is)
          (all_came asked s bare c.paths_of-paths.result.now c.args.outcome.now c.loop-path.path-index c.loop-path.outcome
          (omega (arith, w.loop-path-test.false)) c.loop-path.invariant.rest)
      | then-loop-path-test+in_ok-is_left_out+else-branch+then-outcome w ↦
          let named = w.named_at-named.result in
          let input = w.named_at-named.ensures in
          let chosen = sym w.in_ok-is_left_out.ensures ∙ w.if-branch.false in
          let is : IsHandled asked s bare _ named c.loop-path.outcome c.loop-path-test.outcome =
          elim w.match-named.branch [
            | in-Ok-Input v ↦ is_known asked s bare _ named v.in-Ok-Input.field-0 Input c.loop-path.outcome c.loop-path-test.outcome v.search_input.new.outcome input chosen v.in-Ok-Input.is (rw v.in-Ok-Input.is at v.in-Ok-Input.field-0-is)
                v.search_input.ensures.tried v.search_input.ensures.continues (w.outcome-is ∙ v.outcome-is)
            | in-Ok-File v ↦ is_known asked s bare _ named v.in-Ok-File.field-0 File c.loop-path.outcome c.loop-path-test.outcome v.search_file.new.outcome input chosen v.in-Ok-File.is (rw v.in-Ok-File.is at v.in-Ok-File.field-0-is)
                v.search_file.ensures.tried v.search_file.ensures.continues (w.outcome-is ∙ v.outcome-is)
            | in-Ok-Folder+in_ok-search_directory-in-Ok-Folder v ↦ is_known asked s bare _ named v.in-Ok-Folder.field-0 Folder c.loop-path.outcome c.loop-path-test.outcome v.search_directory.new.outcome input chosen v.in-Ok-Folder.is (rw v.in-Ok-Folder.is at v.in-Ok-Folder.field-0-is)
                (v.search_directory.ensures.rejected, v.search_directory.ensures.skipped) v.search_directory.ensures.continues (w.outcome-is ∙ v.outcome-is)
            | in-Ok-Device v ↦ is_known asked s bare _ named v.in-Ok-Device.field-0 Device c.loop-path.outcome c.loop-path-test.outcome v.search_device.new.outcome input chosen v.in-Ok-Device.is (rw v.in-Ok-Device.is at v.in-Ok-Device.field-0-is)
                (λ no. v.search_device.ensures.skipped (v.reads_named-is_read.ensures ∙ no), λ yes. v.search_device.ensures.tried (v.reads_named-is_read.ensures ∙ yes)) v.search_device.ensures.continues (w.outcome-is ∙ v.outcome-is)
            | in-Err v ↦ is_chosen asked s bare _ named (Err v.in-Err.e) c.loop-path.outcome c.loop-path-test.outcome v.fail.new.self input chosen v.in-Err.is
                v.fail.ensures (continues_as (continues_failed c.loop-path.outcome) v.fail.ensures) (w.outcome-is ∙ v.outcome-is)
          ] in
          ends asked s bare c.paths_of-paths.result.now c.args.outcome.now c.loop-path.path-index _ w.loop-path-test.true c.loop-path.outcome
          c.loop-path.invariant.rest named c.loop-path-test.outcome is
          (ap (λ (o : Outcome). o.ended) w.outcome-is ∙ w.if-outcome.true)
    ] in (
      true,
      if_done c.conclude-2.result (true ≡ true) refl,
      names_searched c.args.asked.now c.with_folders-searched.result asked c.args.files.selection.now c.task_of-task.result.selection.now _
          c.args.files.names.now bare true (map (λ p. p.now) c.paths_of-paths.result.now)
          c.args.outcome.now c.loop-path-test.outcome c.conclude-2.new.outcome
          c.with_folders-searched.ensures c.task_of-task.ensures.asked c.task_of-task.ensures.selection c.task_of-task.ensures.bare
          c.paths_of-paths.ensures
          came
          c.conclude-2.ensures.none,
    )
