use Rattle.std.proofs.Common.{◌≡◌, ◌∙◌, List, [], ◌∷◌, ◌++◌, ap, subst}
use Rattle.chess_notation.specs.Records.{RecordValue}
use Rattle.mate_jobs.specs.declared.deliveries.Delivery.{Delivery}
use Rattle.room_ends.specs.WindowFaults.{SaysOnly}
use Rattle.room_ends.specs.Windows.{letters_sent, collected}
use Rattle.room_ends.specs.declared.letters.Letter.{Letter}
use Rattle.room_ends.specs.declared.letters.Letter.TheVariants.{Record, Farewell}
use Rattle.desk_room.specs.Deliveries.{asked}
use Rattle.callers.proofs.Rooms.{of_then, of_window, settled_one}
use Rattle.callers.proofs.for_desk_room.ask_once.Goals as goal

pub settle-requires : goal.settle-requires
settle-requires c =
    of_then c.bye.new.self c.close.new.self c.turn.new.self (of_then c.bye.new.self c.one_round.new.keeper c.close.new.self
    (of_window c.one_round.new.window c.bye.new.self c.one_round.new.keeper (c.in_ok-found.ensures.of c.in_ok-keeper.ensures.of)
    c.bye.ensures.answers.window) c.close.ensures.rings.stays.room) c.turn.ensures.stays.room

pub returns-clause-says : goal.returns-clause-says
returns-clause-says c =
    let (r, says, adds) = c.in_ok-found.ensures.sent in
    let found : Delivery = c.in_ok-found.found in
    let sent : letters_sent c.settle.new.window ≡ Record r ∷ Farewell ∷ [] =
    c.settle.ensures.window.sent ∙ (c.in-Ok.ensures.sent
    ∙ ap (λ (l : List Letter). l ++ Farewell ∷ []) (adds ∙ ap (λ (l : List Letter). l ++ Record r ∷ []) c.in_ok-keeper.ensures.sent)) in
    let one : collected c.settle.new.window ≡ found ∷ [] =
    c.settle.ensures.window.collected ∙ (c.in-Ok.ensures.answers.collected
    ∙ (c.in_ok-found.ensures.collected ∙ ap (λ (ds : List Delivery). ds ++ found ∷ []) c.in_ok-keeper.ensures.collected)) in
    let same = settled_one r found _ _ _ _ _ sent one c.settle.ensures.settled ∙ ap asked c.in-Answer.is in
    subst (λ (asks : RecordValue). SaysOnly c.args.line.now c.args.default asks) same
    (subst (λ default. SaysOnly c.args.line.now default r) c.in_ok-keeper.ensures.default says)
