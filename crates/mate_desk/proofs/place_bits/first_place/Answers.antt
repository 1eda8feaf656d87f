use Rattle.std.proofs.Common.{w64, arith}
use Rattle.std.proofs.lemmas.Nat.Bits.{bit_at-trailing_zeros}
use Rattle.mate_desk.proofs.Bits.{is_absent, is_there}
use Rattle.mate_desk.proofs.place_bits.first_place.Goals as goal

pub returns-clause-inside : goal.returns-clause-inside
returns-clause-inside c =
    let lowest = bit_at-trailing_zeros w64 c.args.word (omega (arith, c.if-word-eq0.false)) c.ranges.word.fits in
    (lowest.0, is_there _ lowest.1)

pub returns-clause-lowest : goal.returns-clause-lowest
returns-clause-lowest c =
    let lowest = bit_at-trailing_zeros w64 c.args.word (omega (arith, c.if-word-eq0.false)) c.ranges.word.fits in
    λ place below. is_absent _ (lowest.2 place below)
