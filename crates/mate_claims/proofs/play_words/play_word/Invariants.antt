use Rattle.std.proofs.Common.{◌≡◌, length}
use Rattle.chess_notation.specs.Segments.{segments_of}
use Rattle.mate_claims.specs.PlayWords.{play_word_in}
use Rattle.mate_claims.proofs.play_words.play_word.Given as goal

abbrev pub invariant-loop-segment : goal.invariant-loop-segment
invariant-loop-segment l = play_word_in (segments_of l.rest).ended ≡ play_word_in (segments_of l.initial.rest).ended

abbrev pub decreases-loop-segment : goal.decreases-loop-segment
decreases-loop-segment l = length l.rest
