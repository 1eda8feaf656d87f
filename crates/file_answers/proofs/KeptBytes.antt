-- What is read behind reads that gave nothing.
use Rattle.std.proofs.Common.{◌∙◌, ℕ, List, Option, None, Some, sym}
use Rattle.std.specs.Io.KnownBytes.{Consumes, Keeps}

pub consumed_behind : (start now after : Option (List ℕ)) (bytes : List ℕ) → Keeps start now → Consumes now after bytes
    → Consumes start after bytes
consumed_behind None now after bytes kept read = tt
consumed_behind (Some x) None after bytes kept read = absurd kept
consumed_behind (Some x) (Some y) None bytes kept read = absurd read
consumed_behind (Some x) (Some y) (Some z) bytes kept read = sym kept ∙ read
