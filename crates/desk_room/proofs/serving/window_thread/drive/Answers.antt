use Rattle.text_lines.specs.Lines.{lines_of}
use Rattle.desk_room.proofs.Handed.{on_ok}
use Rattle.desk_room.proofs.serving.window_thread.drive.Goals as goal

pub returns-clause-handled : goal.returns-clause-handled
returns-clause-handled g c = on_ok c.collect_all.result c.collect_all.ensures.collects
    (λ collects. collects.handled (lines_of c.args.input.now) c.in_ok-hand_in_all.ensures.handled)
