use Rattle.std.proofs.Common.{sym, subst}
use Rattle.chess_problems.specs.Outcomes.{AreLegal}
use Rattle.chess_notation.specs.Words.{words_in}
use Rattle.chess_notation.proofs.ClaimedMoves.{named_legal}
use Rattle.chess_notation.proofs.claims.claimed_moves.Goals as goal

pub returns-clause-legal : goal.returns-clause-legal
returns-clause-legal c = subst (AreLegal c.args.position.now) (sym c.moves_claimed.ensures)
    (named_legal c.args.position.now (words_in c.args.words.now))
