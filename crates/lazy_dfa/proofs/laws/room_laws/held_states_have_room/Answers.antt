use Rattle.lazy_dfa.proofs.Courses.RoomLemmas.{held_room}
use Rattle.lazy_dfa.proofs.laws.room_laws.held_states_have_room.Goals as goal

pub returns : goal.returns
returns c = held_room
