use Rattle.std.proofs.Common.{◌<◌, subst}
use Rattle.parallel_search.proofs.Told.{each_true}
use Rattle.parallel_search.proofs.judging.judge_all.Goals as goal

pub returns : goal.returns
returns g c = each_true c.args.asked.now.position.now c.judge_each.new.workers
    (λ n d on. c.judge_each.ensures.each n d (subst (λ k. n < k) c.judge_each.ensures.as_many on))
