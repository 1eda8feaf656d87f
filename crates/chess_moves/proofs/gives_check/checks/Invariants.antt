use Rattle.std.proofs.Common.{◌≡◌, ◌≤◌, ◌+◌, ◌++◌, true, filter, length}
use Rattle.std.specs.List.{list_all}
use Rattle.arrayvec.specs.ArrayVec.{array_vec_len}
use Rattle.chess_board.specs.Legality.{is_legal}
use Rattle.chess_moves.specs.GivesCheck.{gives_check, checking_moves}
use Rattle.chess_moves.proofs.gives_check.checks.Given as goal

-- those listed, and the checks among those that are still to come
abbrev pub invariant-loop-m : goal.invariant-loop-m
invariant-loop-m l = record {
  kept : l.list.items ++ filter (gives_check l.position) l.m-iterator ≡ checking_moves l.position;
  few : array_vec_len l.list + length l.m-iterator ≤ 1024;
  legal : list_all (is_legal l.position) l.m-iterator ≡ true;
}
