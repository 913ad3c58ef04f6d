use Rattle.follows.proofs.Rooms.{room_is_found}
use Rattle.follows.proofs.room_found.Goals as goal

pub returns : goal.returns
returns c = room_is_found
