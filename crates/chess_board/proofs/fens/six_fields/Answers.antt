use Rattle.std.proofs.Common.{arith, ◌≡◌, ◌∷◌, ap, ◌==◌, length}
use Rattle.std.specs.List.{slice_split}
use Rattle.std.proofs.lemmas.List.Splits.{length-slice_split}
use Rattle.chess_board.specs.Fens.{parts}
use Rattle.chess_board.proofs.fens.six_fields.Goals as goal

pub returns-in-Some-clause-none : goal.returns-in-Some-clause-none
returns-in-Some-clause-none c =
    λ six.
    let more = length-slice_split (λ b. b == 32) c.in-Some.field-0.1.now in
    let words : parts c.args.text.now ≡ c.in_ok-placement.placement.now ∷ c.in_ok-side.side.now ∷ c.in_ok-castling.castling.now
    ∷ c.in_ok-target.target.now ∷ c.in_ok-halfmove.halfmove.now ∷ c.in-Some.field-0.0.now
    ∷ slice_split (λ b. b == 32) c.in-Some.field-0.1.now =
    cc (
      c.in_ok-placement.ensures.cut,
      c.in_ok-side.ensures.cut,
      c.in_ok-castling.ensures.cut,
      c.in_ok-target.ensures.cut,
      c.in_ok-halfmove.ensures.cut,
      c.in-Some.ensures.cut,
    ) in
    let count = ap length words in
    absurd (omega arith)
