use Rattle.std.proofs.Common.{◌≡◌, ◌⊎◌, true}
use Rattle.std.specs.Prelude.{Contains}
use Rattle.chess_board.specs.Characters.{char}
use Rattle.problem_import.specs.Sources.{SaysMoves}
use Rattle.problem_import.specs.inside.KnownSources.{AsksMore, KeepsFen}
use Rattle.problem_import.specs.TagPairs.{EndsText}
use Rattle.problem_import.proofs.games.Game.find_move.Given as goal

abbrev pub invariant-loop : goal.invariant-loop
invariant-loop l = record {
  fen : KeepsFen l.initial.self l.self;
  asks : AsksMore (SaysMoves l.line) l.initial.self l.self;
  ends : EndsText l.rest l.line;
  comment : l.self.in_comment ≡ true → (l.initial.self.in_comment ≡ true) ⊎ Contains l.line (char "{");
}
