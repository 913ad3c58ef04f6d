-- Powers and remainders.
use Rattle.std.proofs.Common.{◌≡◌, ℕ, zero, suc, ◌+◌, ◌*◌, ◌/◌, ◌%◌, ◌^◌, sym, ap, ◌∙◌, mul_assoc, mul_comm, add-mul, pow-suc, mul-zero, div-add-mod', mul-suc, pow-add}
use native.Mathlib.Nat.{pow-zero, mul-add-mod_self_right}

-- a product is reduced alike whether its first factor was reduced or not
pub mod_times : (a b m : ℕ) → (a % m) * b % m ≡ a * b % m
mod_times a b m =
    let split : a * b ≡ (a / m) * b * m + (a % m) * b =
    ap (λ n. n * b) (sym (div-add-mod' a m)) ∙ add-mul (a / m * m) (a % m) b
    ∙ ap (λ n. n + (a % m) * b) (mul_assoc (a / m) m b ∙ ap (λ n. (a / m) * n) (mul_comm m b) ∙ sym (mul_assoc (a / m) b m)) in
    sym (ap (λ n. n % m) split ∙ mul-add-mod_self_right ((a / m) * b) m ((a % m) * b))

pub times_mod : (a b m : ℕ) → a * (b % m) % m ≡ a * b % m
times_mod a b m = ap (λ n. n % m) (mul_comm a (b % m)) ∙ mod_times b a m ∙ ap (λ n. n % m) (mul_comm b a)

-- and so is a power
pub mod_pow : (a k m : ℕ) → (a % m) ^ k % m ≡ a ^ k % m
mod_pow a zero m = ap (λ n. n % m) (pow-zero (a % m) ∙ sym (pow-zero a))
mod_pow a (suc k) m =
    ap (λ n. n % m) (pow-suc (a % m) k)
    ∙ times_mod ((a % m) ^ k) a m
    ∙ sym (mod_times ((a % m) ^ k) a m)
    ∙ ap (λ n. n * a % m) (mod_pow a k m)
    ∙ mod_times (a ^ k) a m
    ∙ ap (λ n. n % m) (sym (pow-suc a k))

pub pow_times : (a e k : ℕ) → a ^ (e * k) ≡ (a ^ e) ^ k
pow_times a e zero = ap (λ n. a ^ n) (mul-zero e) ∙ pow-zero a ∙ sym (pow-zero (a ^ e))
pow_times a e (suc k) =
    ap (λ n. a ^ n) (mul-suc e k) ∙ pow-add a (e * k) e ∙ ap (λ n. n * a ^ e) (pow_times a e k) ∙ sym (pow-suc (a ^ e) k)

-- a power of a power may be reduced in between
pub pow_between : (a e k m : ℕ) → (a ^ e % m) ^ k % m ≡ a ^ (e * k) % m
pow_between a e k m = mod_pow (a ^ e) k m ∙ ap (λ n. n % m) (sym (pow_times a e k))
