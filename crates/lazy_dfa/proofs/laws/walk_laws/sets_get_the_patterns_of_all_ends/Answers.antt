use Rattle.lazy_dfa.proofs.OverlappingWalks.WhichLemmas.{members_added, added_members, which_goes, room_kept}
use Rattle.lazy_dfa.proofs.laws.walk_laws.sets_get_the_patterns_of_all_ends.Goals as goal

pub returns-clause-members : goal.returns-clause-members
returns-clause-members c = λ set ends p. (λ h. members_added set ends p h, λ added. added_members set ends p added)

pub returns-clause-refused : goal.returns-clause-refused
returns-clause-refused c = λ set ends. which_goes set ends

pub returns-clause-room : goal.returns-clause-room
returns-clause-room c = λ set ends. room_kept set ends
