use Rattle.std.proofs.Common.{string_bytes}
use Rattle.regex_pair.specs.FindSteps.{borrow_name_of}
use Rattle.hirscan.specs.Asks.{asked_search}
use Rattle.hirscan.specs.Listing.{ListsUpTo}
use Rattle.hirscan.specs.QueryReports.{value_of_query}
use Rattle.hirscan.proofs.reply.list_matches.Given as goal

abbrev pub invariant-loop-item : goal.invariant-loop-item
invariant-loop-item l =
    ListsUpTo l.fn.regex (asked_search (value_of_query l.fn.head).setup l.fn.h) (borrow_name_of l.initial.item-iterator)
    (string_bytes l.text) l.item-iterator
