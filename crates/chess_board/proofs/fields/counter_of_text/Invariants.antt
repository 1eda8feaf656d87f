use Rattle.std.proofs.Common.{◌≡◌, ◌<◌, ◌^◌, take}
use Rattle.chess_board.specs.Fields.{digits_value}
use Rattle.chess_board.proofs.fields.counter_of_text.Given as goal

abbrev pub invariant-loop-b : goal.invariant-loop-b
invariant-loop-b l = record { value : l.n ≡ digits_value (take l.b-index l.text); small : l.n < 10 ^ l.b-index }
