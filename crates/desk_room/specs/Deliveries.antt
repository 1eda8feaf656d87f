-- What was delivered, and for which record.
use Rattle.std.specs.Prelude.{Bool, true, false}
use Rattle.chess_notation.specs.Records.{RecordValue}
use Rattle.mate_jobs.specs.declared.deliveries.Delivery.{Delivery}
use Rattle.mate_jobs.specs.declared.deliveries.Delivery.TheVariants.{Answer, Notice}

-- the record that it is for: the one that was answered, or that the notice names
abbrev pub asked : Delivery → RecordValue
asked (Answer answer) = answer.asked
asked (Notice t r) = r

abbrev pub is_answer : Delivery → Bool
is_answer (Answer answer) = true
is_answer (Notice t r) = false
