-- The sum of what was searched, for the summary of --json.
use Rattle.json_events.specs.declared.elapsed.Elapsed.{Elapsed}
use Rattle.json_events.specs.declared.stats.Stats.{Stats}
use Rattle.grep_cli.specs.Counting.{counted}

-- No time: the program uses no clock.
abbrev pub no_time : Elapsed
no_time = record { secs = 0; nanos = 0 }

-- The sum of two statistics.
abbrev pub summed : Stats → Stats → Stats
summed s t = record {
  elapsed = no_time;
  searches = counted s.searches t.searches;
  searches_with_match = counted s.searches_with_match t.searches_with_match;
  bytes_searched = counted s.bytes_searched t.bytes_searched;
  bytes_printed = counted s.bytes_printed t.bytes_printed;
  matched_lines = counted s.matched_lines t.matched_lines;
  matches = counted s.matches t.matches;
}
