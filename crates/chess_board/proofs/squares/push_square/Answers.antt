use Rattle.std.proofs.Common.{arith}
use Rattle.chess_board.proofs.TextRoom.{bytes_more, len_more, length-encode_ascii}
use Rattle.chess_board.proofs.squares.push_square.Goals as goal

pub push-requires : goal.push-requires
push-requires g c = omega (arith, c.requires.room, length-encode_ascii c.file_letter.result (omega arith))

pub push-requires-2 : goal.push-requires-2
push-requires-2 g c =
    let letter = len_more c.args.text.now c.push.new.self c.file_letter.result (c.push.ensures.ascii (omega arith)) in
    omega (arith, c.requires.room, letter, length-encode_ascii c.rank_digit.result (omega arith))

pub returns-clause-text : goal.returns-clause-text
returns-clause-text g c =
    bytes_more c.args.text.now.bytes _ _ _ _ _ _ c.file_letter.ensures.letter c.rank_digit.ensures.digit (c.push.ensures.ascii (omega arith))
    (c.push-2.ensures.ascii (omega arith))

pub returns-clause-length : goal.returns-clause-length
returns-clause-length g c =
    let letter = len_more c.args.text.now c.push.new.self c.file_letter.result (c.push.ensures.ascii (omega arith)) in
    let digit = len_more c.push.new.self c.push-2.new.self c.rank_digit.result (c.push-2.ensures.ascii (omega arith)) in
    omega (arith, letter, digit)
