-- The steps of a script that lie ahead. Assumes nothing.
use Rattle.std.proofs.Common.{◌≡◌, ℕ, ◌+◌, ◌<◌, ◌≤◌, Bool, List, [], ◌∷◌, ◌++◌, length, get_or, drop, sym, ap, ◌∙◌, append_assoc}
use Rattle.std.proofs.lemmas.List.{append-nil, at_drop_all, at_drop_more}
use Rattle.script.specs.declared.step.Answer.{Answer}
use Rattle.script.specs.declared.step.Step.{Step}
use Rattle.script.specs.Steps.{after, after_all, answer_of, answers}
use Rattle.orders.specs.declared.order.Order.{Order}
use Rattle.shelves.specs.Ranks.{Standing}

module _ (before : Standing → Standing → Bool) (room : ℕ) (ss : List Step) (i : ℕ) where
  -- one step more
  module _ (d : Step) (xs ys : List Order) (more : i < length ss) (stepped : ys ≡ after before room (get_or ss i d) xs) where
    pub answers_more : (vs ws : List Answer) → ws ≡ vs ++ answer_of room (get_or ss i d) xs ∷ [] →
        ws ++ answers before room (drop (i + 1) ss) ys ≡ vs ++ answers before room (drop i ss) xs
    answers_more vs ws e =
        ap (λ w. w ++ answers before room (drop (i + 1) ss) ys) e
        ∙ append_assoc vs (answer_of room (get_or ss i d) xs ∷ []) (answers before room (drop (i + 1) ss) ys)
        ∙ ap (λ y. vs ++ answer_of room (get_or ss i d) xs ∷ answers before room (drop (i + 1) ss) y) stepped
        ∙ ap (λ a. vs ++ a) (sym (at_drop_more (λ s. answers before room s xs) ss i d more))

    pub after_more : after_all before room (drop (i + 1) ss) ys ≡ after_all before room (drop i ss) xs
    after_more = ap (after_all before room (drop (i + 1) ss)) stepped ∙ sym (at_drop_more (λ s. after_all before room s xs) ss i d more)

  -- no step is left
  pub answers_end : (xs : List Order) (vs : List Answer) → length ss ≤ i → vs ++ answers before room (drop i ss) xs ≡ vs
  answers_end xs vs h = ap (λ a. vs ++ a) (at_drop_all (λ s. answers before room s xs) ss i h) ∙ append-nil vs

  pub after_end : (xs : List Order) → length ss ≤ i → after_all before room (drop i ss) xs ≡ xs
  after_end xs h = at_drop_all (λ s. after_all before room s xs) ss i h
