use Rattle.std.proofs.Common.{◌≡◌, map, drop}
use Rattle.grep_cli.specs.SmartCase.{no_scan, scan_texts}
use Rattle.grep_cli.proofs.options.smart_case.scan_texts.Given as goal

abbrev pub invariant-loop-text : goal.invariant-loop-text
invariant-loop-text l = scan_texts l.scan (map (λ s. s.now) (drop l.text-index l.texts)) ≡ scan_texts no_scan (map (λ s. s.now) l.texts)
