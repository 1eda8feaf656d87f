use Rattle.std.proofs.Common.{◌≡◌, ◌≢◌, ◌+◌, ◌∙◌, ap, sym, length, rules, subst, ℕ}
use Rattle.chess_notation.specs.declared.epd_faults.EpdFault.TheVariants.{NoMemory}
use Rattle.text_lines.specs.Lines.{without_cr}
use Rattle.text_lines.specs.Refusals.{fault_line}
use Rattle.mate_answers.specs.InputReplies.{IsLineReply}
use Rattle.room_ends.specs.Windows.{default_of}
use Rattle.room_ends.specs.WindowFaults.{RefusesLine}
use Rattle.desk_room.proofs.Handed.{on_ok, handled_record, handled_same, refused_line}
use Rattle.desk_room.proofs.serving.submitters.Submitter.send.Goals as goal

pub returns-else-is_err-clause-handled : goal.returns-else-is_err-clause-handled
returns-else-is_err-clause-handled c lines whole at is blank old =
    let sent = c.in-Ok.ensures.sent in
    handled_record c.replies_go_on.ensures c.args.self.now c.submit.new.self c.push_back.new.self.items lines whole
    c.args.line.now c.args.number sent.0 c.new.result c.submit.ensures.answers.window c.submit.ensures.answers.collected sent.2
    (search rules) c.new.ensures.items is blank sent.1 old

pub returns-in_ok-refusal-in-Err-BadRecord-clause-handled : goal.returns-in_ok-refusal-in-Err-BadRecord-clause-handled
returns-in_ok-refusal-in-Err-BadRecord-clause-handled c =
    let default = default_of c.args.self.now.window in
    let fault = c.in-Err-BadRecord.fault in
    let faulty = subst (λ f. RefusesLine c.args.line.now default f) c.in-Err-BadRecord.field-0-is c.in-Err-BadRecord.ensures.line in
    let told : c.in_ok-refusal-in-Err-BadRecord.refusal.items ≡ fault_line c.args.number fault = search rules in
    let other : fault ≢ NoMemory = search rules in
    on_ok c.refuse.result c.refuse.ensures.handled (λ handled lines whole at is blank old.
    let text : c.as_slice.result.now ≡ fault_line (length lines + 1) fault =
    c.as_slice.ensures.value ∙ (told ∙ ap (λ (n : ℕ). fault_line n fault) (sym at)) in
    let reply = refused_line default (length lines + 1) whole c.args.line.now c.as_slice.result.now fault is blank faulty other text in
    handled lines whole (subst (λ (d : ℕ). IsLineReply d (length lines + 1) (without_cr whole) c.as_slice.result.now 1)
    (sym c.submit.ensures.answers.window.3) reply)
    (handled_same c.args.self.now c.submit.new.self lines c.submit.ensures.answers.window c.submit.ensures.answers.collected c.in-Err-BadRecord.ensures.unsent.sent old))
