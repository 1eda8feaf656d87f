use Rattle.std.proofs.Common.{ap}
use Rattle.mate_tree.specs.SetPlay.{headed, set_lines, set_play}
use Rattle.mate_tree.proofs.AddedLines.{adds_as, adds_none}
use Rattle.mate_tree.proofs.set_play.write_set_play.Goals as goal

pub returns-in-Some : goal.returns-in-Some
unfolding set_play
returns-in-Some g c =
    let own = adds_as (ap (λ name. headed name (set_lines c.args.left c.in-Some.other)) c.set_play_heading.ensures) c.write_set_lines.ensures in
    rw (← c.passed.ensures, c.in-Some.is) own

pub returns-in-None : goal.returns-in-None
unfolding set_play
returns-in-None g c = rw (← c.passed.ensures, c.in-None.is) (adds_none c.args.writer.now)
