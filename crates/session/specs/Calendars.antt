-- What a calendar of either kind holds.
use Rattle.calendar.specs.Contents.{Contents, Lawful}
use Rattle.heap_calendar.specs.Laws as heap
use Rattle.bucket_calendar.specs.Laws as buckets
use Rattle.session.specs.declared.any_calendar.AnyCalendar.{AnyCalendar}
use Rattle.session.specs.declared.any_calendar.AnyCalendar.TheVariants.{Heap, Buckets}

-- what the one of its kind holds
abbrev pub contents_of : AnyCalendar → Contents
contents_of (Heap s) = heap.contents_of s
contents_of (Buckets s) = buckets.contents_of s

pub lawful_contents : (s : AnyCalendar) → Lawful (contents_of s)
lawful_contents (Heap s) = heap.lawful_contents s
lawful_contents (Buckets s) = buckets.lawful_contents s
