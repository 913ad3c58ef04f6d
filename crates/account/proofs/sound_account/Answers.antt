use Rattle.account.proofs.After.{sound_stands}
use Rattle.account.proofs.sound_account.Goals as goal

pub returns : goal.returns
returns c = sound_stands
