use Rattle.std.proofs.Common.{◌+◌, ◌∷◌, ◌<◌, map, take, ap, ◌∙◌, arith}
use Rattle.std.specs.Option.{option_map}
use Rattle.std.proofs.lemmas.List.{length-set}
use Rattle.search_types.specs.CapturesValue.{cut_spans, group_spans, known_spans, match_spans}
use Rattle.search_types.proofs.CapturesLemmas.{none_from_here, cut_refused, parts_more, parts_end}
use Rattle.search_types.proofs.captures.Captures.parts.Goals as goal

pub returns-in_err-parts : goal.returns-in_err-parts
returns-in_err-parts g c =
    let bytes = g.H.Haystack.bytes in
    let h = bytes c.args.haystack in
    let cuts = g.H.Haystack.cuts h in
    let spans = known_spans c.loop-index.spans in
    let all = cut_spans cuts h (g.row.N + 1) (match_spans (group_spans c.args.self.now)) in
    ap (option_map (λ parts. bytes parts.0 ∷ map bytes parts.1)) c.from_residual-in_err-parts.ensures
    ∙ none_from_here cuts h all (bytes c.in_ok-whole.whole ∷ take c.loop-index.index (map bytes c.loop-index.parts)) c.loop-index.index
    g.row.N spans
    c.loop-index.invariant.reported (omega arith)
    (λ n. cut_refused cuts h n spans (known_spans c.next_known.new.self) c.in_ok-next_known.field-0 c.in_ok-next_known.ensures
    c.in_err-parts.ensures)

pub loop-index-preserved : goal.loop-index-preserved
loop-index-preserved g c =
    let bytes = g.H.Haystack.bytes in
    let h = bytes c.args.haystack in
    let cuts = g.H.Haystack.cuts h in
    let spans = known_spans c.loop-index.spans in
    let all = cut_spans cuts h (g.row.N + 1) (match_spans (group_spans c.args.self.now)) in
    let below : c.loop-index.index < g.row.N = omega arith in
    record {
      len = length-set c.loop-index.parts c.loop-index.index c.in_ok-parts.field-0 ∙ c.loop-index.invariant.len;
      reported = parts_more bytes cuts h all c.in_ok-whole.whole c.in_ok-parts.field-0 c.loop-index.parts c.loop-index.index g.row.N spans
          (known_spans c.next_known.new.self) c.in_ok-next_known.field-0 c.loop-index.invariant.len below c.loop-index.invariant.reported
          c.in_ok-next_known.ensures c.in_ok-parts.ensures;
    }

pub returns : goal.returns
returns g c =
    let bytes = g.H.Haystack.bytes in
    let h = bytes c.args.haystack in
    let cuts = g.H.Haystack.cuts h in
    let all = cut_spans cuts h (g.row.N + 1) (match_spans (group_spans c.args.self.now)) in
    parts_end bytes cuts h all c.in_ok-whole.whole c.loop-index.parts c.loop-index.index g.row.N
    (known_spans c.loop-index.spans) c.loop-index.invariant.len (omega arith) c.loop-index.invariant.reported
