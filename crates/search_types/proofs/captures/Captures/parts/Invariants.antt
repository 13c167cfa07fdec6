use Rattle.std.proofs.Common.{◌≡◌, ◌+◌, ◌-◌, ◌∷◌, map, length, take}
use Rattle.search_types.specs.CapturesValue.{cut_spans, group_spans, known_spans, match_spans}
use Rattle.search_types.proofs.CapturesLemmas.{onto_parts}
use Rattle.search_types.proofs.captures.Captures.parts.Given as goal

-- the parts so far and those of the spans that are left are the parts of all
abbrev pub invariant-loop-index : goal.invariant-loop-index
invariant-loop-index g l =
    let bytes = g.H.Haystack.bytes in
    let cuts = g.H.Haystack.cuts (bytes l.haystack) in
    record {
      len : length l.parts ≡ l.index-end;
      reported : cut_spans cuts (bytes l.haystack) (l.index-end + 1) (match_spans (group_spans l.fn.self))
          ≡ onto_parts (bytes l.whole ∷ take l.index (map bytes l.parts))
          (cut_spans cuts (bytes l.haystack) (l.index-end - l.index) (known_spans l.spans));
    }
