use Rattle.std.proofs.Common.{◌≡◌, ◌<◌, ◌^◌, true, take, drop}
use Rattle.std.specs.List.{list_all}
use Rattle.chess_board.specs.Fields.{digits_value}
use Rattle.chess_notation.specs.Operations.{is_digit}
use Rattle.desk_scripts.proofs.script_words.value_of.Given as goal

abbrev pub invariant-loop-digit : goal.invariant-loop-digit
invariant-loop-digit l = record {
  value : l.value ≡ digits_value (take l.digit-index l.digits);
  small : l.value < 10 ^ l.digit-index;
  digits : list_all is_digit (drop l.digit-index l.digits) ≡ true;
}
