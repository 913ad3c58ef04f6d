-- What stands after any accepted calls.
use Rattle.std.proofs.Common.{arith}
use Rattle.model.specs.Meaning.{Meaning, Law}
use Rattle.account.specs.Account.{Account, Call, load, branch, decide, waive, step, retire, reading, fed, Accepted, After, begun, one_more}
use Rattle.account.specs.Sound.{Sound, Faithful, Bounded}
use Rattle.account.specs.Claims.{SoundStands, AloneStands, BoundedStands}
use Rattle.account.proofs.Calls.{empty_sound, load_sound, branch_sound, decide_sound, waive_sound, retire_sound}
use Rattle.account.proofs.Step.{step_sound}
use Rattle.account.proofs.Alone.{empty_faithful, load_faithful, branch_faithful, decide_faithful, waive_faithful, retire_faithful, step_faithful}
use Rattle.account.proofs.Counts.{step_bounded, branch_bounded}

fed_sound : (M : Meaning) → Law M → (A : Account) (c : Call) → Accepted M A c → Sound M A → Sound M (fed M A c)
fed_sound M law A (load l end) a s = load_sound M law A l end a.1
fed_sound M law A (branch v) a s = branch_sound M A v s a.0 a.1
fed_sound M law A (decide v place value) a s = decide_sound M A v place value s
fed_sound M law A (waive v) a s = waive_sound M A v s
fed_sound M law A step a s = step_sound M law A s
fed_sound M law A (retire v) a s = retire_sound M A v s a.1
fed_sound M law A (reading r) a s = s

pub sound_after : {M : Meaning} {A : Account} → Law M → After M A → Sound M A
sound_after {M} law begun = empty_sound M
sound_after {M} law (one_more {A} c h a) = fed_sound M law A c a (sound_after law h)

pub sound_stands : SoundStands
sound_stands M A law h = sound_after law h

fed_faithful : (M : Meaning) (A : Account) (c : Call) → Accepted M A c → Faithful M A → Faithful M (fed M A c)
fed_faithful M A (load l end) a s = load_faithful M A l end
fed_faithful M A (branch v) a s = branch_faithful M A v s a.0
fed_faithful M A (decide v place value) a s = decide_faithful M A v place value s a.0
fed_faithful M A (waive v) a s = waive_faithful M A v s
fed_faithful M A step a s = step_faithful M A s
fed_faithful M A (retire v) a s = retire_faithful M A v s
fed_faithful M A (reading r) a s = s

faithful_after : {M : Meaning} {A : Account} → After M A → Faithful M A
faithful_after {M} begun = empty_faithful M
faithful_after {M} (one_more {A} c h a) = fed_faithful M A c a (faithful_after h)

pub alone_stands : AloneStands
alone_stands M A law h = faithful_after h

fed_bounded : (M : Meaning) (A : Account) (c : Call) → Sound M A → Bounded A → Bounded (fed M A c)
fed_bounded M A (load l end) s b = omega arith
fed_bounded M A (branch v) s b = branch_bounded A v b
fed_bounded M A (decide v place value) s b = b
fed_bounded M A (waive v) s b = b
fed_bounded M A step s b = step_bounded M A s b
fed_bounded M A (retire v) s b = b
fed_bounded M A (reading r) s b = b

bounded_after : {M : Meaning} {A : Account} → Law M → After M A → Bounded A
bounded_after law begun = omega arith
bounded_after {M} law (one_more {A} c h a) = fed_bounded M A c (sound_after law h) (bounded_after law h)

pub bounded_stands : BoundedStands
bounded_stands M A law h = bounded_after law h
