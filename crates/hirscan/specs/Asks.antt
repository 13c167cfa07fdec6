-- What a query asks of a haystack.
use Rattle.std.specs.Prelude.{ℕ, Bool, true, false, List}
use Rattle.search_types.specs.declared.anchored.Anchored.{Anchored}
use Rattle.search_types.specs.declared.anchored.Anchored.TheVariants.{No, Yes}
use Rattle.search_types.specs.Inputs.{Search}
use Rattle.hirscan.specs.declared.line.Setup.{Setup}
use Rattle.hirscan.specs.Rejections.{span_of}

abbrev pub mode_for : Bool → Anchored
mode_for true = Yes
mode_for false = No

-- the search, if the span fits the haystack
abbrev pub asked_search : Setup → List ℕ → Search
asked_search setup h = record {
  haystack = h;
  start = (span_of setup.span h).start;
  end = (span_of setup.span h).end;
  anchored = mode_for setup.anchored;
  earliest = false;
}
