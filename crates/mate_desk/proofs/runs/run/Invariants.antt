use Rattle.std.proofs.Common.{◌≡◌, ◌≤◌, ◌⊎◌, ◌*◌, length, take, drop, vec_len, vec_capacity}
use Rattle.mate_desk.specs.History.{past}
use Rattle.mate_desk.specs.inside.Mirrors.{Mirrors, AtEachMoment}
use Rattle.mate_desk.specs.Headline.{DeliversInOrder, GivesNoticeOfWithdrawn, DeliversAllOnceDrained}
use Rattle.mate_desk.specs.inside.Stepping.{count_done}
use Rattle.mate_desk.proofs.Placing.{HasPlaces}
use Rattle.mate_desk.proofs.runs.run.Given as goal

-- The desk is what the history so far says, and at each moment so far what is promised was kept.
abbrev pub invariant-loop-step : goal.invariant-loop-step
invariant-loop-step l = record {
  mirrors : Mirrors l.fn.submitters l.fn.room l.fn.default (past (take l.step-index l.steps) l.replies.items) l.desk l.hand.jobs;
  in_order : AtEachMoment (DeliversInOrder l.fn.default) (past (take l.step-index l.steps) l.replies.items);
  notices : AtEachMoment GivesNoticeOfWithdrawn (past (take l.step-index l.steps) l.replies.items);
  all : AtEachMoment (DeliversAllOnceDrained l.fn.submitters) (past (take l.step-index l.steps) l.replies.items);
  told : length l.replies.items ≡ l.step-index;
  room : length l.steps ≤ vec_capacity l.replies;
  hand : length l.hand.jobs ≤ l.step-index;
  held : (length l.steps ≤ l.hand.room) ⊎ (l.fn.submitters * l.fn.room ≤ l.hand.room);
  places : HasPlaces (drop l.step-index l.steps) (count_done l.desk) (vec_len l.places);
  next : l.desk.next ≤ l.step-index;
  memo_room : l.memo.room ≡ l.initial.memo.room;
  memo_within : l.memo.kept ≤ l.memo.room;
}
