use Rattle.std.proofs.Common.{[]}
use Rattle.mate_answers.proofs.input_replies.replies_go_on.Goals as goal

-- The law holds of any handler, and no reply depends on its tables.
pub returns : goal.returns
returns c default = c.replies_go_on.ensures (record {
  rays =
      record { ref_ptr = (0, 0); now = record { rays = []; leaps = []; diagonals = []; straights = [] } };
  default = default;
  solver = record {};
})
