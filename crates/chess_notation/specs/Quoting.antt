-- Quoting: how strings stand in a segment (PGN Specification, section 16.2.4).
use Rattle.std.specs.Prelude.{ℕ, ◌+◌, ◌==◌, nat_le, List, [], ◌∷◌, Bool, true, false, Option, Some, None, if◌then◌else◌}
use Rattle.chess_board.specs.Characters.{char}
use Rattle.chess_notation.specs.declared.quoting.Mode.{Mode}
use Rattle.chess_notation.specs.declared.quoting.Mode.TheVariants.{Gap, Plain, Quoted, Closed}

-- behind a byte that is no quotation mark
abbrev pub outside_after : ℕ → Mode
outside_after b = if b == char " " then Gap else Plain

-- What a byte leads to: a first quotation mark follows a space, a space or the segment's end follows a second one, and at most
-- 255 bytes stand between them.
abbrev pub next_mode : Mode → ℕ → Option Mode
next_mode Gap b = if b == char "\"" then Some (Quoted 0) else Some (outside_after b)
next_mode Plain b = if b == char "\"" then None else Some (outside_after b)
next_mode (Quoted n) b = if b == char "\"" then Some Closed else (if nat_le 255 n then None else Some (Quoted (n + 1)))
next_mode Closed b = if b == char " " then Some Gap else None

-- no string is open
abbrev pub is_outside : Mode → Bool
is_outside (Quoted n) = false
is_outside _ = true

abbrev pub on_mode : Option Mode → (Mode → Bool) → Bool
on_mode None test = false
on_mode (Some mode) test = test mode

abbrev pub fits_from : Mode → List ℕ → Bool
fits_from mode [] = is_outside mode
fits_from mode (b ∷ bs) = on_mode (next_mode mode b) (λ next. fits_from next bs)

-- The strings of a segment stand as they have to.
abbrev pub strings_fit : List ℕ → Bool
strings_fit segment = fits_from Plain segment

-- the operands that stand in a segment behind a byte, with one space before each
abbrev pub squeezed_from : Mode → List ℕ → List ℕ
squeezed_from mode [] = []
squeezed_from Gap (b ∷ bs) =
    if b == char "\"" then char " " ∷ char "\"" ∷ squeezed_from (Quoted 0) bs
    else (if b == char " " then squeezed_from Gap bs else char " " ∷ b ∷ squeezed_from Plain bs)
squeezed_from Plain (b ∷ bs) = if b == char " " then squeezed_from Gap bs else b ∷ squeezed_from Plain bs
squeezed_from (Quoted n) (b ∷ bs) = if b == char "\"" then char "\"" ∷ squeezed_from Closed bs else b ∷ squeezed_from (Quoted 0) bs
squeezed_from Closed (b ∷ bs) = squeezed_from Gap bs
