use Rattle.std.proofs.Common.{sym, ap, ◌∙◌, [], ◌∷◌, ◌++◌}
use Rattle.room_ends.specs.Benches.{heard, back_known}
use Rattle.room_ends.specs.declared.letters.Back.{Back}
use Rattle.room_ends.specs.declared.letters.Back.TheVariants.{Solved, Returned}
use Rattle.desk_room.proofs.Telling.{is_stranger}
use Rattle.desk_room.proofs.turns.back_pass.hear_back.Goals as goal

pub returns-in-Err-clause-heard : goal.returns-in-Err-clause-heard
returns-in-Err-clause-heard c =
    let s = is_stranger (Solved c.in-Solved.done) c.args.desk.now c.in-Err.ensures.stranger in
    record {
      back = Solved c.in-Solved.done;
      known = c.take_known.ensures.first ∙ ap (λ (x : Back). x ∷ back_known c.take_known.new.self) c.in-Solved.is;
      heard = c.take_known.ensures.heard ∙ ap (λ (x : Back). heard c.args.receiver.now ++ x ∷ []) c.in-Solved.is;
      content = c.in-Err.ensures.unchanged ∙ sym s.content;
      solved = sym s.solved;
      returned = sym s.returned;
      strangers = sym s.stranger;
    }

pub returns-in-Err-hand_back-clause-heard : goal.returns-in-Err-hand_back-clause-heard
returns-in-Err-hand_back-clause-heard c =
    let s = is_stranger (Returned c.in-Returned.job) c.args.desk.now c.in-Err-hand_back.ensures.stranger in
    record {
      back = Returned c.in-Returned.job;
      known = c.take_known.ensures.first ∙ ap (λ (x : Back). x ∷ back_known c.take_known.new.self) c.in-Returned.is;
      heard = c.take_known.ensures.heard ∙ ap (λ (x : Back). heard c.args.receiver.now ++ x ∷ []) c.in-Returned.is;
      content = c.in-Err-hand_back.ensures.unchanged ∙ sym s.content;
      solved = sym s.solved;
      returned = sym s.returned;
      strangers = sym s.stranger;
    }
