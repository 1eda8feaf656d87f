use Rattle.chess_notation.proofs.ShownClaims.{claims_read}
use Rattle.chess_notation.proofs.record_laws.claims_read.Goals as goal

pub returns : goal.returns
returns c = claims_read
