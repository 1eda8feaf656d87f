use Rattle.std.proofs.Common.{◌++◌}
use Rattle.std.specs.Prelude.{codes}
use Rattle.problem_import.proofs.FieldTexts.{longer_twice, word_longer}
use Rattle.problem_import.proofs.operations.push_comment.Goals as goal

pub returns : goal.returns
returns c =
    let one = c.extend_from_slice.new.self.items in
    let digit = c.push_byte.new.text.items in
    let mark = c.extend_from_slice-2.new.self.items in
    let words = c.extend_from_slice-3.new.self.items in
    let more = longer_twice mark words _ c.args.words.now (codes "\";") c.in_ok-extend_from_slice-3.ensures.items
    c.in_ok-extend_from_slice-4.ensures.items in
    let most = longer_twice digit mark _ (codes " \"") (c.args.words.now ++ codes "\";") c.in_ok-extend_from_slice-2.ensures.items more in
    word_longer c.args.text.now.items one _ (codes "c") _ c.in_ok-extend_from_slice.ensures.items
    (longer_twice one digit _ _ (codes " \"" ++ (c.args.words.now ++ codes "\";")) c.in_ok-push_byte.ensures most)
