-- No place has more groups than there are live variants.
use Rattle.std.proofs.Common.{◌≡◌, ℕ, zero, suc, ◌*◌, ◌≤◌, Bool, true, leb, arith}
use Rattle.std.proofs.lemmas.Bool.Decides.{nat_tests}
use Rattle.group.specs.declared.Group.{Group}
use Rattle.group.specs.Groups.{count, has}
use Rattle.account.specs.Account.{sum_below}
use Rattle.copies.specs.Sharing.{groups}
use Rattle.copies.proofs.Leads.{few_lead}

few_groups : (places : ℕ) (live : Group) (share : ℕ → ℕ → ℕ → Bool) → groups places live share ≤ places * count (has live) 16
unfolding sum_below
few_groups zero live share = omega arith
few_groups (suc p) live share = let a = few_groups p live share in let b = few_lead (has live) (share p) 16 in grind (arith, a, b)

-- where there are copies for all, there are no more groups than copies
pub enough_copies : (places : ℕ) (live : Group) (share : ℕ → ℕ → ℕ → Bool) → leb (places * count (has live) 16) 128 ≡ true → groups places live share ≤ 128
enough_copies places live share e = let a = few_groups places live share in grind (arith, nat_tests)
