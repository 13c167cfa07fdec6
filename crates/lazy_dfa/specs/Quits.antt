-- The quit bytes, at which searches over an automaton give up, and when an automaton can't be searched at all. A search
-- reads bytes, so it can't decide whether the character to which a byte above 7F belongs is a word character.
use Rattle.std.specs.Prelude.{◌&&◌, ◌||◌, not, nat_le, Bool, List, map, if◌then◌else◌}
use Rattle.std.specs.List.{range_with_len, list_all}
use Rattle.search_core.specs.ByteSets.{has}
use Rattle.look_core.specs.Codes.{is_word_unicode}
use Rattle.look_core.specs.LookSets.{has_any}
use Rattle.nfa_core.specs.Nfa.{Automaton}
use Rattle.nfa_core.specs.NfaValue.{looks_of}

-- whether a state of the automaton is a Unicode word look
abbrev pub has_unicode_word : Automaton → Bool
has_unicode_word a = has_any is_word_unicode (looks_of a.states)

-- the set with all bytes above 7F
unfoldable pub with_high_bytes : List Bool → List Bool
with_high_bytes set = map (λ b. has set b || nat_le 0x80 b) (range_with_len 0 256)

-- whether all bytes above 7F are in the set
unfoldable pub has_high_bytes : List Bool → Bool
has_high_bytes set = list_all (has set) (range_with_len 0x80 128)

-- The quit bytes are those that were set by hand. All bytes above 7F are added if the automaton has a Unicode word look
-- and the option asks that a search does what it can over ASCII.
abbrev pub quit_bytes : Automaton → Bool → List Bool → List Bool
quit_bytes a word_boundaries by_hand = if has_unicode_word a && word_boundaries then with_high_bytes by_hand else by_hand

-- An automaton with a Unicode word look is supported only if all bytes above 7F are quit bytes, by the option or by
-- hand.
abbrev pub is_unsupported : Automaton → Bool → List Bool → Bool
is_unsupported a word_boundaries by_hand = has_unicode_word a && not word_boundaries && not (has_high_bytes by_hand)
