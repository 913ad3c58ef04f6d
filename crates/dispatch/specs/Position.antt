-- Where in the starting list a fault lies.
use Rattle.std.specs.Prelude.{ℕ, Some, None, Option}
use Rattle.study.specs.declared.fault.StudyFault.{StudyFault}
use Rattle.study.specs.declared.fault.StudyFault.TheVariants.{Memory, Calendar, NotLoaded, Loaded, End, Start, Room, Variant, Undecided, Permit, Place, Made, Last, Entries, Copies, Entry}

abbrev pub position_of : StudyFault → Option ℕ
position_of Memory = None
position_of (Calendar f) = None
position_of NotLoaded = None
position_of Loaded = None
position_of End = None
position_of (Start i f) = Some i
position_of Room = None
position_of Variant = None
position_of Undecided = None
position_of Permit = None
position_of Place = None
position_of Made = None
position_of Last = None
position_of Entries = None
position_of Copies = None
position_of Entry = None
