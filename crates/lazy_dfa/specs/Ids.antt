-- The IDs of the states of a cache. An ID is the offset of the state's first transition in the table of transitions,
-- with tags in the five highest bits. Rows 0, 1 and 2 of the table belong to three sentinels, which aren't states.
use Rattle.std.specs.Prelude.{ℕ, ◌+◌, ◌*◌, ◌/◌, ◌%◌, ◌==◌, Bool, nat_le}
use Rattle.determinize_core.specs.StateBytes.{flag_if}

-- the least tag: IDs from this number on have a tag
abbrev pub tag : ℕ
tag = 0x800_0000

-- whether the ID has the tag with this bit
abbrev pub has_tag : ℕ → ℕ → Bool
has_tag bit id = (id / bit) % 2 == 1

abbrev pub unknown_tag : ℕ
unknown_tag = 0x8000_0000

abbrev pub dead_tag : ℕ
dead_tag = 0x4000_0000

abbrev pub quit_tag : ℕ
quit_tag = 0x2000_0000

abbrev pub start_tag : ℕ
start_tag = 0x1000_0000

abbrev pub match_tag : ℕ
match_tag = 0x800_0000

-- ---- the sentinels

-- the ID that stands for a step that isn't known yet
abbrev pub unknown_id : ℕ
unknown_id = unknown_tag

-- the ID of the dead state
abbrev pub dead_id : ℕ → ℕ
dead_id stride = dead_tag + stride

-- the ID of the quit sentinel, where a search gave up at a quit byte
abbrev pub quit_id : ℕ → ℕ
quit_id stride = quit_tag + 2 * stride

-- whether the ID has one of the tags of sentinels
abbrev pub is_sentinel : ℕ → Bool
is_sentinel id = nat_le quit_tag id

-- ---- states

-- The ID of the row at this offset in the table. It has the tag of starts if a start call made it, and the tag of
-- matches if a pattern matches.
abbrev pub tagged : Bool → Bool → ℕ → ℕ
tagged start matching place = flag_if 0x1000_0000 start + (flag_if 0x800_0000 matching + place)
