-- What a calendar's laws ask, of buckets.
use Rattle.std.proofs.Common.{arith}
use Rattle.calendar.specs.Contents.{Contents, Lawful}
use Rattle.bucket_calendar.specs.declared.store.BucketCalendar.{BucketCalendar}

-- what a calendar of 512 in buckets holds
abbrev pub contents_of : BucketCalendar → Contents
contents_of s = record { held = s.buckets.held; room = 512; puts = s.buckets.puts }

pub lawful_contents : (s : BucketCalendar) → Lawful (contents_of s)
lawful_contents s = record { roomy = omega arith; bounded = omega arith; fits = s.buckets.fits; few = s.few; sorted = s.buckets.sorted }
