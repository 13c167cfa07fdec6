-- What is asked for, part by part.
use Rattle.std.proofs.Common.{◌≡◌, ℕ, Bool, List, Option, ap, ◌∙◌}
use Rattle.std.specs.Borrow.{Bor}
use Rattle.line_search.specs.declared.patterns.PatternOptions.{PatternOptions}
use Rattle.grep_core.specs.declared.output_options.OutputOptions.{OutputOptions}
use Rattle.hirgrep_main.specs.declared.options.asked.Asked.{Asked}
use Rattle.grep_cli.specs.declared.options.flags.Devices.{Devices}
use Rattle.grep_cli.specs.declared.options.flags.Directories.{Directories}
use Rattle.grep_cli.specs.declared.options.flags.Names.{Names}
use Rattle.grep_cli.specs.declared.inputs.binary.Binary.{Binary}
use Rattle.grep_cli.specs.declared.inputs.reading.Reading.{Reading}

module _ (path : Option (Bor (List ℕ))) where
  abbrev asked_as : PatternOptions → Bool → OutputOptions → Binary → Names → Directories → Bool → Devices → Bool → Bool → Bool → Bool → Reading → ℕ → Asked
  asked_as how smart what binary names directories follows devices silent stats reports heading reading most = record {
    how = how;
    smart_case = smart;
    what = what;
    binary = binary;
    names = names;
    directories = directories;
    follows = follows;
    devices = devices;
    silent = silent;
    stats = stats;
    reports_input = reports;
    heading = heading;
    reading = reading;
    most_read = most;
    path_separator = path;
  }

  pub same_asked : {how how2 : PatternOptions} {smart smart2 : Bool} {what what2 : OutputOptions} {binary binary2 : Binary} {names names2 : Names} {directories directories2 : Directories} {follows follows2 : Bool} {devices devices2 : Devices} {silent silent2 : Bool} {stats stats2 : Bool} {reports reports2 : Bool} {heading heading2 : Bool} {reading reading2 : Reading} {most most2 : ℕ} →
      how ≡ how2 → smart ≡ smart2 → what ≡ what2 → binary ≡ binary2 → names ≡ names2 → directories ≡ directories2 → follows ≡ follows2 → devices ≡ devices2 → silent ≡ silent2 → stats ≡ stats2 → reports ≡ reports2 → heading ≡ heading2 → reading ≡ reading2 → most ≡ most2 →
      asked_as how smart what binary names directories follows devices silent stats reports heading reading most ≡ asked_as how2 smart2 what2 binary2 names2 directories2 follows2 devices2 silent2 stats2 reports2 heading2 reading2 most2
  same_asked {how = how} {how2 = how2} {smart = smart} {smart2 = smart2} {what = what} {what2 = what2} {binary = binary} {binary2 = binary2} {names = names} {names2 = names2} {directories = directories} {directories2 = directories2} {follows = follows} {follows2 = follows2} {devices = devices} {devices2 = devices2} {silent = silent} {silent2 = silent2} {stats = stats} {stats2 = stats2} {reports = reports} {reports2 = reports2} {heading = heading} {heading2 = heading2} {reading = reading} {reading2 = reading2} {most = most} {most2 = most2} e0 e1 e2 e3 e4 e5 e6 e7 e8 e9 e10 e11 e12 e13 =
      ap (λ x. asked_as x smart what binary names directories follows devices silent stats reports heading reading most) e0
      ∙ ap (λ x. asked_as how2 x what binary names directories follows devices silent stats reports heading reading most) e1
      ∙ ap (λ x. asked_as how2 smart2 x binary names directories follows devices silent stats reports heading reading most) e2
      ∙ ap (λ x. asked_as how2 smart2 what2 x names directories follows devices silent stats reports heading reading most) e3
      ∙ ap (λ x. asked_as how2 smart2 what2 binary2 x directories follows devices silent stats reports heading reading most) e4
      ∙ ap (λ x. asked_as how2 smart2 what2 binary2 names2 x follows devices silent stats reports heading reading most) e5
      ∙ ap (λ x. asked_as how2 smart2 what2 binary2 names2 directories2 x devices silent stats reports heading reading most) e6
      ∙ ap (λ x. asked_as how2 smart2 what2 binary2 names2 directories2 follows2 x silent stats reports heading reading most) e7
      ∙ ap (λ x. asked_as how2 smart2 what2 binary2 names2 directories2 follows2 devices2 x stats reports heading reading most) e8
      ∙ ap (λ x. asked_as how2 smart2 what2 binary2 names2 directories2 follows2 devices2 silent2 x reports heading reading most) e9
      ∙ ap (λ x. asked_as how2 smart2 what2 binary2 names2 directories2 follows2 devices2 silent2 stats2 x heading reading most) e10
      ∙ ap (λ x. asked_as how2 smart2 what2 binary2 names2 directories2 follows2 devices2 silent2 stats2 reports2 x reading most) e11
      ∙ ap (λ x. asked_as how2 smart2 what2 binary2 names2 directories2 follows2 devices2 silent2 stats2 reports2 heading2 x most) e12
      ∙ ap (λ x. asked_as how2 smart2 what2 binary2 names2 directories2 follows2 devices2 silent2 stats2 reports2 heading2 reading2 x) e13
