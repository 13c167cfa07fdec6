use Rattle.hirscan.proofs.ReaderLemmas.{hex_ends_read, scalar_item_taken, scalar_item_without_ends, scalar_item_out_of_range}
use Rattle.hirscan.proofs.word_laws.scalar_items_are_read.Goals as goal

pub returns : goal.returns
returns c = record {
  ends = hex_ends_read;
  taken = scalar_item_taken;
  bad_hex = scalar_item_without_ends;
  bad_range = scalar_item_out_of_range;
}
