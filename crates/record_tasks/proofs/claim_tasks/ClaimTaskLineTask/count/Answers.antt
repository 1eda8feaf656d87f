use Rattle.std.proofs.Common.{rules, ◌≡◌}
use Rattle.mate_claims.specs.Counts.{with_one}
use Rattle.record_tasks.proofs.Counted.{one_counted}
use Rattle.record_tasks.proofs.claim_tasks.ClaimTaskLineTask.count.Goals as goal

pub returns : goal.returns
returns c before line marked known =
    let is : c.in-Some.counts ≡ with_one c.args.mark.now.verdict c.args.mark.now.source c.args.tally.now.counts = search rules in
    one_counted c.args.self.now.default before line c.args.mark.now c.args.tally.now.counts c.in-Some.counts is marked known
