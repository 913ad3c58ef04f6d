-- When a branch, an order, a waived permit and a retirement are refused, and with what.
use Rattle.std.specs.Prelude.{ℕ, if◌then◌else◌, not, Some, None, Ok, Err, Option, Result, nat_le, nat_lt}
use Rattle.group.specs.Groups.{count, has}
use Rattle.model.specs.Meaning.{Meaning}
use Rattle.copies.specs.Sharing.{groups, shares_decided}
use Rattle.follows.specs.View.{View}
use Rattle.study.specs.declared.permit.Denied.{Denied}
use Rattle.study.specs.declared.fault.StudyFault.{StudyFault}
use Rattle.study.specs.declared.fault.StudyFault.TheVariants.{NotLoaded, Variant, Undecided, Permit, Place, Made, Last, Copies}

abbrev pub branch_fault : View → ℕ → Option StudyFault
branch_fault V v =
    if not V.loaded then Some NotLoaded else if not (has V.live v) then Some Variant else if has V.undecided v then Some Undecided else if nat_le 16 V.made then Some Made else None

abbrev pub permit_fault : View → ℕ → Option StudyFault
permit_fault V v = if not V.loaded then Some NotLoaded else if not (has V.undecided v) then Some Permit else None

abbrev pub decide_fault : Meaning → View → ℕ → ℕ → Option StudyFault
decide_fault M V v place =
    if not V.loaded then Some NotLoaded else if not (has V.undecided v) then Some Permit else if nat_le M.places place then Some Place
    else if nat_lt 128 (groups M.places V.live (shares_decided V.cell v place)) then Some Copies else None

abbrev pub retire_fault : View → ℕ → Option StudyFault
retire_fault V v =
    if not V.loaded then Some NotLoaded else if not (has V.live v) then Some Variant else if has V.undecided v then Some Undecided else if nat_le (count (has V.live) 16) 1 then Some Last else None

-- a denied order by its fault
abbrev pub why : Result (Unit {0}) Denied → Result (Unit {0}) StudyFault
why (Ok x) = Ok x
why (Err d) = Err d.fault
