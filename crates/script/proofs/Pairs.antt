-- Pairs of answers that follow one another. Assumes nothing.
use Rattle.std.proofs.Common.{◌≡◌, ◌+◌, Bool, cond, List, [], ◌∷◌, drop, None, refl, ap, ◌∙◌, sym, arith}
use Rattle.std.specs.List.{count_by, zip}
use Rattle.std.proofs.lemmas.List.Sums.{sum_by-cons}
use Rattle.script.specs.declared.step.Answer.{Answer}
use Rattle.script.specs.Ranked.{follows, order_of, ranked_pairs}
use Rattle.shelves.specs.Ranks.{Standing}

module _ (before : Standing → Standing → Bool) where
  -- whether the second of two answers shows an order behind the first's
  abbrev pub follow : Answer × Answer → Bool
  follow p = follows before (order_of p.0) (order_of p.1)

  behind : (a : Answer) (as' : List Answer) → ranked_pairs before (order_of a) as' ≡ count_by follow (zip (a ∷ as') as')
  behind a [] = refl
  behind a (b ∷ bs) =
      ap (λ n. cond (follow (a, b)) 1 0 + n) (behind b bs)
      ∙ sym (sum_by-cons (λ p. cond (follow p) 1 0) (a, b) (zip (b ∷ bs) bs))

  pub pairs_zipped : (as' : List Answer) → ranked_pairs before None as' ≡ count_by follow (zip as' (drop 1 as'))
  pairs_zipped [] = refl
  pairs_zipped (a ∷ as') = omega (arith, behind a as')
