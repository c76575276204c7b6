-- What the digits amount to: they say the number.
use Rattle.std.specs.Prelude.{ℕ, zero, suc, ◌+◌, ◌*◌, ◌-◌, ◌/◌, ◌%◌, ◌^◌, ◌<◌, ◌≤◌, ◌≡◌, refl, List, [], ◌∷◌, ◌++◌}
use Rattle.std.proofs.Math.Nat.{pow-succ'}
use Rattle.std.proofs.Math.Decide.{dec_lt}
use Rattle.std.proofs.Common.{arith, lt-ltb, le-ltb}
use Rattle.trace.specs.Text.{digits, decimal, most_digits}

-- the number that digits say, after those that were read before
abbrev pub value_from : ℕ → List ℕ → ℕ
value_from n [] = n
value_from n (d ∷ l) = value_from (n * 10 + (d - 48)) l

value-last : (l : List ℕ) (n d : ℕ) → value_from n (l ++ (d ∷ [])) ≡ value_from n l * 10 + (d - 48)
value-last [] n d = refl
value-last (x ∷ l) n d = value-last l (n * 10 + (x - 48)) d

digits-say : (k n : ℕ) → n < 10 ^ k → value_from 0 (digits k n) ≡ n
unfolding digits
digits-say zero n h = omega arith
digits-say (suc k) n h = go (dec_lt n 10) (digits-say k (n / 10))
  where
    go : Dec (n < 10) → (n / 10 < 10 ^ k → value_from 0 (digits k (n / 10)) ≡ n / 10) → value_from 0 (digits (suc k) n) ≡ n
    go (yes a) shorter = rw (lt-ltb n 10 a) (omega arith)
    go (no a) shorter =
        let b : 10 ≤ n = omega arith in
        let below : n / 10 < 10 ^ k = omega (arith, pow-succ' 10 k) in
        rw (le-ltb n 10 b, value-last (digits k (n / 10)) 0 (48 + n % 10), shorter below) (omega arith)

-- every number of 64 bits, and further
pub decimal-says : (n : ℕ) → n < 10 ^ most_digits → value_from 0 (decimal n) ≡ n
decimal-says n h = digits-say most_digits n h
