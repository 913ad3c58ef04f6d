-- What `==` says of two messages.
use Rattle.std.proofs.Common.{rules, ◌≡◌}
use Rattle.std.specs.Bool.{Decides}
use Rattle.event.specs.declared.Message.{Message}
use Rattle.event.specs.contracts.MessagePartialEq.TheImpl.{ghosts}

pub same_message : (a b : Message) → Decides (ghosts.eq a b) (a ≡ b)
same_message a b = search rules
