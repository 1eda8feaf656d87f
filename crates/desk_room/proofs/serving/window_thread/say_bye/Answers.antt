use Rattle.std.proofs.Common.{[], ◌∷◌, ap, ◌∙◌, append-nil}
use Rattle.room_ends.specs.Letters.{records}
use Rattle.room_ends.specs.Windows.{letters_sent}
use Rattle.room_ends.specs.declared.letters.Letter.TheVariants.{Farewell}
use Rattle.desk_room.proofs.LetterCounts.{records_append}
use Rattle.desk_room.proofs.serving.window_thread.say_bye.Goals as goal

pub returns-in-Ok-clause-records : goal.returns-in-Ok-clause-records
returns-in-Ok-clause-records g c =
    let before = letters_sent c.loop.window in
    ap records c.in-Ok.ensures.sent ∙ (records_append before (Farewell ∷ []) ∙ (append-nil (records before) ∙ ap records c.loop.invariant.1))
