-- Blanks other than a space, as a tab: they part no fields, and look as if they did.
use Rattle.std.specs.Prelude.{ℕ, ◌==◌, nat_le, Bool, false, ◌&&◌, ◌||◌, if◌then◌else◌, List, [], ◌∷◌, ◌++◌, codes}
use Rattle.chess_board.specs.Characters.{char}
use Rattle.chess_board.specs.Fields.{has_letter}
use Rattle.fen_explanations.specs.Sentences.{told_if}

-- a tab, a line feed, a vertical tab, a form feed, a carriage return
abbrev pub is_blank_byte : ℕ → Bool
is_blank_byte b = nat_le 9 b && nat_le b 13

abbrev pub begins_with : ℕ → List ℕ → Bool
begins_with wanted [] = false
begins_with wanted (b ∷ bs) = b == wanted

-- a no-break space, the two bytes that U+00A0 has in UTF-8
abbrev pub is_no_break : ℕ → List ℕ → Bool
is_no_break b bs = (b == 194) && begins_with 160 bs

-- the text with a space for each of them; the second byte of a no-break space is passed over
unfoldable pub spaced_from : Bool → List ℕ → List ℕ
spaced_from passes [] = []
spaced_from passes (b ∷ bs) =
    if passes then spaced_from false bs
    else (if is_blank_byte b || is_no_break b bs then char " " else b) ∷ spaced_from (is_no_break b bs) bs

abbrev pub spaced : List ℕ → List ℕ
spaced text = spaced_from false text

-- one that is no tab
unfoldable pub has_other_blank : List ℕ → Bool
has_other_blank [] = false
has_other_blank (b ∷ bs) = (nat_le 10 b && is_blank_byte b) || is_no_break b bs || has_other_blank bs

abbrev pub blank_told : Bool → List ℕ → List ℕ
blank_told stands name = told_if stands (name ∷ codes " stands in it: one space stands between each two fields" ∷ [])

abbrev pub tab_told : List ℕ → List ℕ
tab_told text = blank_told (has_letter 9 text) (codes "a tab")

abbrev pub other_blank_told : List ℕ → List ℕ
other_blank_told text = blank_told (has_other_blank text) (codes "a blank that is no space")

-- Such a blank stands in a text.
unfoldable pub blanks_told : List ℕ → List ℕ
blanks_told text = tab_told text ++ other_blank_told text
