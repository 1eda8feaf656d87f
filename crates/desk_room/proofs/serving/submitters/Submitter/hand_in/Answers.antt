use Rattle.std.proofs.Common.{◌≡◌, true, false, map, rules, sym}
use Rattle.chess_notation.specs.Words.{is_blank}
use Rattle.text_lines.specs.Lines.{without_cr}
use Rattle.mate_answers.specs.InputReplies.{skipped}
use Rattle.room_ends.specs.Letters.{records}
use Rattle.desk_room.specs.Deliveries.{asked}
use Rattle.room_ends.specs.Windows.{letters_sent, collected, default_of}
use Rattle.desk_room.proofs.Progress.{progress_blank}
use Rattle.desk_room.proofs.Handed.{on_ok}
use Rattle.desk_room.proofs.serving.submitters.Submitter.hand_in.Goals as goal

pub returns-then-is_blank-clause-handled : goal.returns-then-is_blank-clause-handled
returns-then-is_blank-clause-handled g c lines at old =
    let submitter = c.args.self.now in
    let blank : is_blank (without_cr c.args.line.now.text.now) ≡ true = search rules in
    progress_blank c.replies_go_on.ensures (default_of submitter.window) submitter.refused lines c.args.line.now.text.now
    (records (letters_sent submitter.window)) (map asked (collected submitter.window)) submitter.text.items
    (map (λ t. t.items) submitter.pending_replies.items)
    (skipped blank) old

pub returns-clause-handled : goal.returns-clause-handled
returns-clause-handled g c =
    let filled : is_blank c.without_cr-text.result.now ≡ false = search rules in
    on_ok c.send-sent.result c.send-sent.ensures.handled (λ handled lines at old. handled lines c.args.line.now.text.now at
    (sym c.without_cr-text.ensures) filled (c.in_ok-make_room.ensures.collects.handled lines old))
