use Rattle.std.proofs.Common.{◌++◌}
use Rattle.std.specs.Prelude.{codes}
use Rattle.problem_import.proofs.FieldTexts.{longer_twice, word_longer}
use Rattle.problem_import.proofs.operations.push_claim.Goals as goal

pub returns-clause-claim : goal.returns-clause-claim
returns-clause-claim c =
    longer_twice c.args.text.now.items c.extend_from_slice.new.self.items _ (codes " bm ") (c.args.key.now ++ codes ";")
    c.in_ok-extend_from_slice.ensures.items
    (longer_twice c.extend_from_slice.new.self.items c.extend_from_slice-2.new.self.items _ c.args.key.now (codes ";")
    c.in_ok-extend_from_slice-2.ensures.items c.in_ok-push_byte.ensures)

pub returns-clause-apart : goal.returns-clause-apart
returns-clause-apart c =
    word_longer c.args.text.now.items c.extend_from_slice.new.self.items _ (codes "bm ") (c.args.key.now ++ codes ";")
    c.in_ok-extend_from_slice.ensures.items
    (longer_twice c.extend_from_slice.new.self.items c.extend_from_slice-2.new.self.items _ c.args.key.now (codes ";")
    c.in_ok-extend_from_slice-2.ensures.items c.in_ok-push_byte.ensures)
