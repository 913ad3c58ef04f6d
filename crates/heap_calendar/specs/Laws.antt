-- What a calendar's laws ask, of a heap of slots.
use Rattle.std.proofs.Common.{arith}
use Rattle.calendar.specs.Contents.{Contents, Lawful}
use Rattle.heap_calendar.specs.declared.store.HeapCalendar.{HeapCalendar}

-- what a calendar of 512 in a heap holds
abbrev pub contents_of : HeapCalendar → Contents
contents_of s = record { held = s.queue.held; room = 512; puts = s.puts }

pub lawful_contents : (s : HeapCalendar) → Lawful (contents_of s)
lawful_contents s = record { roomy = omega arith; bounded = omega arith; fits = s.queue.fits; few = s.few; sorted = s.queue.sorted }
