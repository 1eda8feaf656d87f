use Rattle.std.proofs.Common.{sym, ◌∙◌}
use Rattle.std.proofs.lemmas.Bool.{or_parts}
use Rattle.square_sets.specs.Members.{has}
use Rattle.chess_moves.proofs.SetBits.{has_or}
use Rattle.chess_moves.proofs.SpecialMoves.{plain_pawn, plain_king, plain_piece, is_piece}
use Rattle.chess_moves.proofs.check_squares.special_squares.Goals as goal

pub returns-in-Pawn : goal.returns-in-Pawn
returns-in-Pawn c = λ m legal there on t none.
    let last = c.promotion_squares.result in
    let passed = c.en_passant_square.result in
    let both = or_parts (has last m.target) (has passed m.target) (sym (has_or last passed m.target) ∙ none) in
    plain_pawn c.args.info.now.position.now c.args.man m legal there c.in-Pawn.is (sym (c.promotion_squares.ensures m.target t) ∙ both.0)
    (sym (c.en_passant_square.ensures m.target t) ∙ both.1)

pub returns-in-King : goal.returns-in-King
returns-in-King c = λ m legal there on t none.
    plain_king c.args.info.now c.args.info.now.position.now c.args.man m c.requires.info legal there on c.in-King.is
    (c.castling_goals.ensures m.target t none)

pub returns-in-Knight : goal.returns-in-Knight
returns-in-Knight c = λ m legal there on t none. plain_piece c.args.info.now.position.now c.args.man m legal there
    (is_piece c.args.man.kind c.in-Knight.is).0 (is_piece c.args.man.kind c.in-Knight.is).1
