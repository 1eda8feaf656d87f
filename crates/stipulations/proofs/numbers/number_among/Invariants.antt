use Rattle.std.proofs.Common.{◌≡◌, ◌+◌, drop, map}
use Rattle.stipulations.specs.Numbers.{number_among}
use Rattle.stipulations.proofs.numbers.number_among.Given as goal

abbrev pub invariant-loop-name : goal.invariant-loop-name
invariant-loop-name l = record {
  counted : l.number ≡ l.fn.first + l.name-index;
  same :
      number_among l.number (map (λ name. name.now) (drop l.name-index l.names)) l.word
      ≡ number_among l.fn.first (map (λ name. name.now) l.names) l.word;
}
