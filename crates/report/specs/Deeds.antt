-- What an event of a collection day was, by its message and what its receiver sent.
use Rattle.std.specs.Prelude.{ℕ, ◌-◌, if◌then◌else◌, Some, None, Option, ◌==◌, nat_le}
use Rattle.event.specs.declared.Message.{Message}
use Rattle.event.specs.Lists.{first}
use Rattle.model.specs.declared.Sent.{Sent}
use Rattle.model.specs.Meaning.{listed}
use Rattle.collection.specs.Kinds.{milked, ready, free, go, pump, loaded, unload, emptied}
use Rattle.day.specs.declared.place.Ran.{Ran}
use Rattle.report.specs.declared.deed.Deed.{Deed}
use Rattle.report.specs.declared.deed.Deed.TheVariants.{Milked, Waits, SentOut, Free, Drives, Pumps, Leaves, Unloads, Emptied, Ignores}
use Rattle.report.specs.declared.deed.Who.{Who}
use Rattle.report.specs.declared.deed.Who.TheVariants.{Dairy, Farm, Tanker, Nobody}

-- place 0 is the dairy, then come f farms and t tankers
abbrev pub who_of : ℕ → ℕ → ℕ → Who
who_of f t place = if place == 0 then Dairy else if nat_le place f then Farm place else if nat_le (place - f) t then Tanker (place - f) else Nobody

abbrev pub ignored : Who → Message → Who → Deed
ignored who m sender = Ignores who m.kind sender

-- the dairy sends a tanker out; otherwise this
abbrev pub sent_out_of : ℕ → Option Sent → Deed → Deed
sent_out_of f None otherwise = otherwise
sent_out_of f (Some s) otherwise = SentOut (s.receiver - f) s.«data»

-- at the dairy, by who sent the message
abbrev pub dairy_deed : ℕ → Message → Who → Option Sent → Deed
dairy_deed f m Dairy sent = ignored Dairy m Dairy
dairy_deed f m (Farm i) sent = if m.kind == ready then sent_out_of f sent (Waits i) else ignored Dairy m (Farm i)
dairy_deed f m (Tanker j) sent = if m.kind == free then sent_out_of f sent (Free j) else if m.kind == unload then Unloads j m.«data» else ignored Dairy m (Tanker j)
dairy_deed f m Nobody sent = ignored Dairy m Nobody

-- a tanker pumps what the farm loads
abbrev pub pumped_by : ℕ → Message → ℕ → Option Sent → Deed
pumped_by i m j None = ignored (Farm i) m (Tanker j)
pumped_by i m j (Some s) = if m.kind == pump then Pumps j i s.«data» else ignored (Farm i) m (Tanker j)

abbrev pub visited_by : ℕ → Message → Who → Option Sent → Deed
visited_by i m Dairy sent = ignored (Farm i) m Dairy
visited_by i m (Farm k) sent = ignored (Farm i) m (Farm k)
visited_by i m (Tanker j) sent = pumped_by i m j sent
visited_by i m Nobody sent = ignored (Farm i) m Nobody

-- at farm i
abbrev pub farm_deed : ℕ → Message → Who → Option Sent → Deed
farm_deed i m sender sent = if m.kind == milked then Milked i m.«data» else visited_by i m sender sent

-- a tanker leaves the farm that has loaded it
abbrev pub leaves_from : ℕ → Message → Who → Deed
leaves_from j m Dairy = ignored (Tanker j) m Dairy
leaves_from j m (Farm i) = if m.kind == loaded then Leaves j i m.«data» else ignored (Tanker j) m (Farm i)
leaves_from j m (Tanker k) = ignored (Tanker j) m (Tanker k)
leaves_from j m Nobody = ignored (Tanker j) m Nobody

-- at tanker j: if it sends nothing, it has ignored the message
abbrev pub tanker_deed : ℕ → Message → Who → Option Sent → Deed
tanker_deed j m sender None = ignored (Tanker j) m sender
tanker_deed j m sender (Some s) = if m.kind == go then Drives j s.receiver else if m.kind == emptied then Emptied j else leaves_from j m sender

abbrev pub at_place : ℕ → Who → Message → Who → Option Sent → Deed
at_place f Dairy m sender sent = dairy_deed f m sender sent
at_place f (Farm i) m sender sent = farm_deed i m sender sent
at_place f (Tanker j) m sender sent = tanker_deed j m sender sent
at_place f Nobody m sender sent = ignored Nobody m sender

abbrev pub deed_of : ℕ → ℕ → Ran → Deed
deed_of f t ran = at_place f (who_of f t ran.message.receiver) ran.message (who_of f t ran.message.sender) (first (listed ran.sends))
