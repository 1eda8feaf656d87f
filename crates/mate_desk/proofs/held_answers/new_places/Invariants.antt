use Rattle.std.proofs.Common.{◌≡◌, ◌≤◌, vec_len, vec_capacity}
use Rattle.mate_desk.proofs.held_answers.new_places.Given as goal

abbrev pub invariant-loop : goal.invariant-loop
invariant-loop l = record { len : vec_len l.places ≡ l.counter; room : l.count ≤ vec_capacity l.places }
