use Rattle.std.proofs.Common.{[], ◌∷◌, ◌++◌, get_or, vec_items, sym, ap, ◌∙◌}
use Rattle.script.specs.declared.step.Step.TheVariants.{Put}
use Rattle.script.specs.Steps.{after, answer_of}
use Rattle.script.proofs.Runs.{after_end, after_more, answers_end, answers_more}
use Rattle.script.proofs.run.run.Goals as goal

pub loop-step-preserved : goal.loop-step-preserved
loop-step-preserved g c =
    let before = g.R.Rank.before in
    let room = g.S.Shelf.room c.args.shelf.now in
    let l = c.loop-step in
    let script = c.args.script.now in
    let xs = g.S.Shelf.orders l.shelf in
    let same = l.invariant.2 in
    let step = get_or script l.step-index (Put 0 0) in
    let e = c.in_ok-go_on.ensures in
    let stepped = e.orders ∙ ap (λ n. after before n step xs) same in
    let answered = e.answers ∙ ap (λ n. vec_items l.answers ++ answer_of n step xs ∷ []) same in (
      answers_more before room script l.step-index (Put 0 0) xs _ c.loop-step-test.true stepped (vec_items l.answers) _ answered ∙ l.invariant.0,
      after_more before room script l.step-index (Put 0 0) xs _ c.loop-step-test.true stepped ∙ l.invariant.1,
      e.room ∙ same,
    )

pub returns : goal.returns
returns g c =
    let before = g.R.Rank.before in
    let room = g.S.Shelf.room c.args.shelf.now in
    let l = c.loop-step in
    record {
      answers = sym (answers_end before room c.args.script.now l.step-index (g.S.Shelf.orders l.shelf) _ c.loop-step-test.false) ∙ l.invariant.0;
      orders = sym (after_end before room c.args.script.now l.step-index (g.S.Shelf.orders l.shelf) c.loop-step-test.false) ∙ l.invariant.1;
    }
