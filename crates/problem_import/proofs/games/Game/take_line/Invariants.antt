use Rattle.std.proofs.Common.{◌≡◌, ◌⊎◌}
use Rattle.problem_import.specs.Sources.{IsFenOf, SaysMoves}
use Rattle.problem_import.specs.inside.KnownSources.{AsksMore}
use Rattle.problem_import.specs.TagPairs.{EndsText}
use Rattle.problem_import.proofs.games.Game.take_line.Given as goal

-- what is left stands at the end of the line, and the position is that of before or of a tag of the line
abbrev pub invariant-loop : goal.invariant-loop
invariant-loop l = record {
  ends : EndsText l.rest l.line;
  fen : ((l.self.has_fen ≡ l.initial.self.has_fen) × (l.self.fen ≡ l.initial.self.fen)) ⊎ IsFenOf l.letters l.line l.self.fen.items;
  asks : AsksMore (SaysMoves l.line) l.initial.self l.self;
  comment : l.self.in_comment ≡ l.initial.self.in_comment;
}
