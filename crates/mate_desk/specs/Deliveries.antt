-- What is delivered for a pending record.
use Rattle.std.specs.Prelude.{if◌then◌else◌, Option, None, Some}
use Rattle.mate_desk.specs.Content.{EntryValue}
use Rattle.mate_jobs.specs.Jobs.{answer_to}
use Rattle.mate_jobs.specs.declared.deliveries.Delivery.{Delivery}
use Rattle.mate_jobs.specs.declared.deliveries.Delivery.TheVariants.{Answer, Notice}

-- the notice of a withdrawn record, with its ticket, and else the answer to it
abbrev pub delivery_of : EntryValue → Delivery
delivery_of e = if e.withdrawn then Notice e.ticket e.asked else Answer (answer_to e.asked)

abbrev pub delivery : Option EntryValue → Option Delivery
delivery None = None
delivery (Some e) = Some (delivery_of e)
