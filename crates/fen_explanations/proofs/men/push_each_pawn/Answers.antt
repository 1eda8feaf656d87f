use Rattle.std.proofs.Common.{◌+◌, ◌*◌, map}
use Rattle.fen_explanations.specs.Men.{pawn_told}
use Rattle.fen_explanations.proofs.EachBelow.{more_told}
use Rattle.fen_explanations.proofs.men.push_each_pawn.Goals as goal

pub loop-file-preserved : goal.loop-file-preserved
loop-file-preserved c =
    rw (c.in_ok-push_pawn.ensures, c.numbered.ensures) (more_told c.args.text.now.items c.loop-file.text.items
    (λ file. pawn_told (map (λ r. r.now) c.args.ranks.now) (8 * c.args.rank + file)) c.loop-file.file c.loop-file.invariant)
