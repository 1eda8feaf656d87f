use Rattle.chess_notation.specs.Records.{problem_of}
use Rattle.mate_jobs.proofs.jobs.Answer.text.Goals as goal

pub answer_text-requires : goal.answer_text-requires
answer_text-requires c = rw c.self.invariant (c.truth_playable.ensures (problem_of c.self.inside.asked))
