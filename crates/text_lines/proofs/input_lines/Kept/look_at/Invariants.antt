use Rattle.std.proofs.Common.{◌≡◌, drop}
use Rattle.text_lines.specs.inside.InputLines.{last_or, spaces_before}
use Rattle.text_lines.proofs.input_lines.Kept.look_at.Given as goal

-- what is found of the bytes so far and those left is what is found of the whole
abbrev pub invariant-loop-byte : goal.invariant-loop-byte
invariant-loop-byte l = record {
  spaces : spaces_before l.self.spaces l.self.last (drop l.byte-index l.piece) ≡ spaces_before l.initial.self.spaces l.initial.self.last l.piece;
  last : last_or l.self.last (drop l.byte-index l.piece) ≡ last_or l.initial.self.last l.piece;
  bytes : l.self.bytes ≡ l.initial.self.bytes;
}
