use Rattle.std.proofs.Common.{◌≡◌, ◌++◌, drop}
use Rattle.uci_engine.specs.SearchLines.{moves_text}
use Rattle.uci_engine.proofs.texts.push_moves.Given as goal

abbrev pub invariant-loop-m : goal.invariant-loop-m
invariant-loop-m l = l.text.items ++ moves_text (drop l.m-index l.moves) ≡ l.initial.text.items ++ moves_text l.moves
