-- Cases and the numbers that stand for them. Assumes nothing.
--     named code cases n          the first of the cases whose code is n
--     Encodes code cases x n      n is the code of the case x, which is read back from it, and of no other case
--     Decodes code cases n r      r is the case whose code is n, or the error that n is unknown
--     unknown_text e              what that error prints, as ASCII codes
use Rattle.std.specs.Prelude.{◌≡◌, ℕ, cond, List, [], ◌∷◌, ◌++◌, codes, decimal, Some, None, Option, Result, ◌==◌}
use Rattle.std.specs.Option.{ok_or}
use Rattle.orders.specs.declared.code.UnknownCode.{UnknownCode}

abbrev pub named : {A : Type 0} → (A → ℕ) → List A → ℕ → Option A
named code [] n = None
named code (x ∷ xs) n = cond (code x == n) (Some x) (named code xs n)

pub record Encodes {A : Type 0} (code : A → ℕ) (cases : List A) (x : A) (n : ℕ) : Type 0 where
  pub value : n ≡ code x
  pub back : named code cases n ≡ Some x
  pub apart : (other : A) → code other ≡ n → other ≡ x

abbrev pub Decodes : {A : Type 0} → (A → ℕ) → List A → ℕ → Result A UnknownCode → Type 0
Decodes code cases n r = r ≡ ok_or (named code cases n) (record { code = n })

abbrev pub unknown_text : UnknownCode → List ℕ
unknown_text e = codes "unknown code " ++ decimal e.code
