-- A history worked on paper: three farms and a tanker, the day ends at 3000. After seven steps it is branched, and the new variant is to send its tanker to the farthest farm first.
use Rattle.std.specs.Prelude.{ℕ, ◌≡◌, true, false, List, [], ◌∷◌, ◌++◌, map, replicate, None}
use Rattle.event.specs.declared.Message.{Message}
use Rattle.event.specs.declared.Start.{Start}
use Rattle.model.specs.Meaning.{Meaning}
use Rattle.collection.specs.Rules.{meaning_of}
use Rattle.collection.specs.Kinds.{milked, ready, free, go, pump, loaded, unload, emptied}
use Rattle.day.specs.declared.place.Place.{Place}
use Rattle.account.specs.Account.{Account, empty, Call, load, step, branch, decide, reading, Reading, place_of, next_of, sharing, group_of, totals}
use Rattle.account.specs.Answers.{Answer, variant, done, ran, number, waits, stands, shared, counted, answer, after}

abbrev model : Meaning
model = meaning_of 3 1

-- litres milked at a farm
abbrev milk : ℕ → ℕ → ℕ → Start
milk time farm litres = record { time = time; receiver = farm; kind = milked; «data» = litres }

-- what the calls answer in their sequence, over a calendar of 512, and the account that they lead to
abbrev answers : Account → List Call → List Answer
answers A [] = []
answers A (c ∷ cs) = answer model 512 A c ∷ answers (after model 512 A c) cs

abbrev after_all : Account → List Call → Account
after_all A [] = A
after_all A (c ∷ cs) = after_all (after model 512 A c) cs

abbrev pub calls : List Call
calls = load (milk 0 2 1000 ∷ milk 5 1 500 ∷ milk 5 3 500 ∷ []) 3000 ∷ replicate 7 step ++ branch 0 ∷ decide 1 0 1 ∷ replicate 10 step

-- and what is read then
abbrev last : Account
last = after_all (empty model) calls

abbrev read : Reading → Answer
read r = answer model 512 last (reading r)

abbrev entry : ℕ → ℕ → ℕ → ℕ → ℕ → ℕ → Message
entry time receiver sender count what litres = record { time = time; receiver = receiver; sender = sender; number = count; kind = what; «data» = litres }

-- the events that both run
abbrev both : List Message
both =
    entry 0 2 255 0 milked 1000 ∷ entry 1 0 2 0 ready 0 ∷ entry 2 4 0 0 go 2 ∷ entry 5 1 255 1 milked 500 ∷ entry 5 3 255 2 milked 500 ∷ entry 6 0 1 0 ready 0 ∷ entry 6 0 3 0 ready 0 ∷
    entry 902 2 4 0 pump 0 ∷ entry 1003 4 2 1 loaded 1000 ∷ entry 1903 0 4 1 unload 1000 ∷ entry 2013 4 0 1 emptied 0 ∷ entry 2014 0 4 2 free 0 ∷ []

abbrev place : ℕ → ℕ → ℕ → ℕ → ℕ → ℕ → Place
place a b c d value count = record { words = a ∷ b ∷ c ∷ d ∷ 0 ∷ 0 ∷ 0 ∷ 0 ∷ []; order = value; sent = count }

pub record WorkedHistory : Type 0 where
  pub told : answers (empty model) calls
      ≡ variant 0 ∷ replicate 7 (ran 1) ++ variant 1 ∷ done ∷ ran 1 ∷ ran 1 ∷ ran 2 ∷ ran 2 ∷ ran 2 ∷ ran 2 ∷ ran 1 ∷ ran 1 ∷ ran 1 ∷ ran 1 ∷ []
  -- executions, copies and entries
  pub totals : read totals ≡ counted 21 9 20
  -- the journals part at position 12, where the tanker is sent to the nearest farm or to the farthest
  pub nearest : (last.day 0).journal ≡ both ++ entry 2015 4 0 2 go 1 ∷ entry 2615 1 4 3 pump 0 ∷ entry 2666 4 1 1 loaded 500 ∷ []
  pub farthest : (last.day 1).journal ≡ both ++ entry 2015 4 0 2 go 3 ∷ entry 2915 3 4 3 pump 0 ∷ entry 2966 4 3 1 loaded 500 ∷ []
  -- one copy works farm 2 for both
  pub shares : map (λ p. read (sharing 0 1 p)) (0 ∷ 1 ∷ 2 ∷ 3 ∷ 4 ∷ []) ≡ shared false ∷ shared false ∷ shared true ∷ shared false ∷ shared false ∷ []
  pub groups : read (group_of 0 2) ≡ number 2 × read (group_of 1 3) ≡ number 1
  pub dairies : read (place_of 0 0) ≡ stands (place 8 0 2013 1000 0 3) × read (place_of 1 0) ≡ stands (place 2 0 2013 1000 1 3)
  pub tankers : read (place_of 0 4) ≡ stands (place 2 1 0 0 0 5) × read (place_of 1 4) ≡ stands (place 2 3 0 0 0 5)
  pub nothing_waits : read (next_of 0) ≡ waits None × read (next_of 1) ≡ waits None
