-- A first part of a text, behind what was written before.
use Rattle.std.proofs.Common.{◌∙◌, ◌++◌, ℕ, List, Option, sym, ap, append_assoc}
use Rattle.std.proofs.KnownBytes.{Appends-trans}
use Rattle.std.specs.Io.KnownBytes.{Appends}
use Rattle.byte_streams.specs.Stops.{AppendsPart}

pub part_behind : (old mid new : Option (List ℕ)) (gained text : List ℕ) → Appends old mid gained
    → AppendsPart mid new text → AppendsPart old new (gained ++ text)
part_behind old mid new gained text before (part, rest, is, on) =
    (gained ++ part, rest, ap (λ t. gained ++ t) is ∙ sym (append_assoc gained part rest), Appends-trans old mid new gained part before on)
