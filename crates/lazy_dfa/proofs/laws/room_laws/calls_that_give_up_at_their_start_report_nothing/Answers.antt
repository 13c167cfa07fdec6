use Rattle.lazy_dfa.proofs.Courses.RoomLemmas.{told_nothing_begun}
use Rattle.lazy_dfa.proofs.laws.room_laws.calls_that_give_up_at_their_start_report_nothing.Goals as goal

pub returns : goal.returns
returns c = told_nothing_begun
