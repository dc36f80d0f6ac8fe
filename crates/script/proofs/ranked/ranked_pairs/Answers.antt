use Rattle.std.proofs.Common.{rules, tests, drop, sym, ◌∙◌}
use Rattle.std.proofs.lemmas.Iterator.{YieldsList-from_slice, YieldsList-from_zip}
use Rattle.std.proofs.lemmas.Iterator.Adapters.{YieldsList-from_skip}
use Rattle.std.proofs.lemmas.Iterator.Consumers.{YieldsList-at, YieldsList-from_filter, count_from_yields_List}
use Rattle.std.proofs.lemmas.List.Sums.{length-filter}
use Rattle.std.specs.List.{zip}
use Rattle.script.proofs.Pairs.{follow, pairs_zipped}
use Rattle.script.proofs.ranked.ranked_pairs.Goals as goal

pub returns : goal.returns
returns g c =
    let before = g.R.Rank.before in
    let xs = c.args.answers.now in
    let all = YieldsList-from_slice xs c.iter.ensures.rest in
    let later = YieldsList-from_skip 1 (YieldsList-at c.skip.ensures.source (YieldsList-from_slice xs c.iter-2.ensures.rest)) c.skip.ensures.count in
    let pairs = YieldsList-at c.filter.ensures.source (YieldsList-from_zip (YieldsList-at c.zip.ensures.first all) (YieldsList-at c.zip.ensures.second later)) in
    count_from_yields_List _ _ c.count.ensures.ran (YieldsList-from_filter _ (follow before) pairs c.filter.ensures.closure (λ p b q k. search (rules, tests)))
    ∙ length-filter (follow before) (zip xs (drop 1 xs))
    ∙ sym (pairs_zipped before xs)
