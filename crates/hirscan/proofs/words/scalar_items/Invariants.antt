use Rattle.std.proofs.Common.{◌≡◌, ℕ, ◌||◌, nat_le, true, map}
use Rattle.std.specs.List.{list_all}
use Rattle.hir_core.specs.Means.{is_member}
use Rattle.hirscan.specs.Readers.{the_hex_ends}
use Rattle.hirscan.specs.LineFault.{scalar_item_fault, first_fault_of}
use Rattle.hirscan.specs.QueryReports.{words_left}
use Rattle.hirscan.proofs.words.scalar_items.Given as goal

-- the items so far have no fault, so that the first fault of all is that of the rest
abbrev pub invariant-loop-word : goal.invariant-loop-word
invariant-loop-word l = record {
  no_fault : first_fault_of (map scalar_item_fault (words_left l.fn.words)) ≡ first_fault_of
      (map scalar_item_fault (words_left l.word-iterator));
  in_order : list_all (λ r. nat_le r.0 r.1) l.items.items ≡ true;
  members : (c : ℕ) → is_member (map the_hex_ends (words_left l.fn.words)) c
      ≡ is_member l.items.items c || is_member (map the_hex_ends (words_left l.word-iterator)) c;
}
