-- What stands past the end of a list of places.
use Rattle.std.specs.Prelude.{[]}
use Rattle.day.specs.declared.place.Place.{Place}

abbrev pub blank_place : Place
blank_place = record { words = []; order = 0; sent = 0 }
