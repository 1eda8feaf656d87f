use Rattle.std.proofs.Common.{◌≡◌, ◌++◌, codes, flat_map, take}
use Rattle.fen_explanations.specs.Placements.{standing}
use Rattle.fen_explanations.specs.Ranks.{letter_told}
use Rattle.fen_explanations.proofs.ranks.push_strangers.Given as goal

abbrev pub invariant-loop-byte : goal.invariant-loop-byte
invariant-loop-byte l =
    l.text.items ≡ l.fn.text.items ++ flat_map (λ b. letter_told (codes "on") l.called (standing b)) (take l.byte-index l.squares)
