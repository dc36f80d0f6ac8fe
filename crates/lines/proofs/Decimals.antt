-- The three decimals of a price, as `{:03}` writes them. Assumes nothing.
use Rattle.std.proofs.Common.{◌≡◌, ℕ, ◌+◌, ◌-◌, ◌/◌, ◌%◌, ◌^◌, ◌<◌, ◌≤◌, [], ◌∷◌, ◌++◌, ⊎_elim, arith}
use Rattle.std.specs.Fmt.{char_count, decimal, format_spec, padded_integral, styled_decimal}
use Rattle.std.proofs.lemmas.Bool.{cases_lt}
use Rattle.std.proofs.lemmas.Fmt.{decimal_digit, decimal_step}

-- three digits are written
abbrev IsPadded : ℕ → Type 0
IsPadded n = styled_decimal (format_spec 32 0 4 3 (2 ^ 64 - 1)) n ≡ (48 + n / 100) ∷ (48 + n / 10 % 10) ∷ (48 + n % 10) ∷ []

one : (n : ℕ) → n < 10 → IsPadded n
unfolding padded_integral char_count
one n h =
    let high : n / 100 ≡ 0 = omega arith in
    let mid : n / 10 % 10 ≡ 0 = omega arith in
    let low : n % 10 ≡ n = omega arith in
    rw (decimal_digit n h, high, mid, low)

two : (n : ℕ) → 10 ≤ n → n < 100 → IsPadded n
unfolding padded_integral char_count
two n g h =
    let high : n / 100 ≡ 0 = omega arith in
    let mid : n / 10 % 10 ≡ n / 10 = omega arith in
    rw (decimal_step n g (omega arith), decimal_digit (n / 10) (omega arith), high, mid)

three : (n : ℕ) → 100 ≤ n → n < 1000 → IsPadded n
unfolding padded_integral char_count
three n g h =
    let high : n / 10 / 10 ≡ n / 100 = omega arith in
    rw (decimal_step n (omega arith) (omega arith), decimal_step (n / 10) (omega arith) (omega arith), high, decimal_digit (n / 100) (omega arith))

padded : (n : ℕ) → n < 1000 → IsPadded n
padded n h = ⊎_elim (one n) (λ g. ⊎_elim (two n g) (λ k. three n k h) (cases_lt n 100)) (cases_lt n 10)

-- the same as the three numbers, each of one digit
pub in_digits : (n : ℕ) → n < 1000 → styled_decimal (format_spec 32 0 4 3 (2 ^ 64 - 1)) n ≡ decimal (n / 100) ++ (decimal (n / 10 % 10) ++ decimal (n % 10))
in_digits n h = rw (decimal_digit (n / 100) (omega arith), decimal_digit (n / 10 % 10) (omega arith), decimal_digit (n % 10) (omega arith)) (padded n h)

module _ (p : ℕ) where
  pub tenths : p % 1000 / 100 ≡ p / 100 % 10
  tenths = omega arith

  pub hundredths : p % 1000 / 10 % 10 ≡ p / 10 % 10
  hundredths = omega arith

  pub thousandths : p % 1000 % 10 ≡ p % 10
  thousandths = omega arith

pub ruleset decimals = (in_digits, tenths, hundredths, thousandths)
