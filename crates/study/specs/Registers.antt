-- The register of a study as it begins, and after a load.
use Rattle.std.specs.Prelude.{ℕ, true, false}
use Rattle.group.specs.Groups.{none, only, without}
use Rattle.study.specs.declared.register.Register.{Register}

abbrev pub blank_register : Register
blank_register = record { loaded = false; end = 0; made = 0; live = none; undecided = none; executions = 0 }

-- variant 0 is live and decided
abbrev pub loaded_register : ℕ → Register
loaded_register end = record { loaded = true; end = end; made = 1; live = only 0; undecided = none; executions = 0 }

-- v is undecided no more
abbrev pub decided_register : ℕ → Register → Register
decided_register v r = record r { undecided = without r.undecided v }
