-- An answer that stands in a place of its own.
use Rattle.std.specs.Prelude.{List, [], ◌∷◌, None, false}
use Rattle.chess_board.specs.declared.men.Colour.TheVariants.{White}
use Rattle.chess_notation.specs.Records.{RecordValue}
use Rattle.mate_jobs.specs.Jobs.{AnswerValue, answer_to}

-- No place of a held answer is empty, so this is asked of none.
abbrev pub nothing : RecordValue
nothing = record {
  position = record {
    men = [];
    side = White;
    rights = record {
      white_king_side = false;
      white_queen_side = false;
      black_king_side = false;
      black_queen_side = false;
    };
    target = None;
  };
  bound = 0;
  avoid = [];
  rest = [];
}

-- the one that stands there
abbrev pub the_one : List AnswerValue → AnswerValue
the_one [] = answer_to nothing
the_one (answer ∷ more) = answer
