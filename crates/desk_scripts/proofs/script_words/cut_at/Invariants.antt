use Rattle.std.proofs.Common.{◌≡◌, take, drop}
use Rattle.desk_scripts.specs.inside.ScriptReading.{cut_at}
use Rattle.desk_scripts.proofs.Cuts.{behind_front}
use Rattle.desk_scripts.proofs.script_words.cut_at.Given as goal

abbrev pub invariant-loop-index : goal.invariant-loop-index
invariant-loop-index l = behind_front (take l.index l.text) (cut_at l.separator (drop l.index l.text)) ≡ cut_at l.separator l.text
