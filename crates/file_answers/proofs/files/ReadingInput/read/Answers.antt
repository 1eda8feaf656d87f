use Rattle.std.proofs.KnownBytes.{Keeps-refl}
use Rattle.file_answers.proofs.files.ReadingInput.read.Goals as goal

pub loop-init : goal.loop-init
loop-init g c = Keeps-refl _
