-- Who is said to move, or to mate (own to this project).
use Rattle.std.specs.Prelude.{ℕ, List, [], ◌∷◌, codes, Bool, is_some}
use Rattle.std.specs.List.{list_any}
use Rattle.chess_board.specs.declared.men.Colour.{Colour}
use Rattle.chess_board.specs.declared.men.Colour.TheVariants.{White, Black}
use Rattle.stipulations.specs.Parts.{parts_of, tidied}
use Rattle.stipulations.specs.Patterns.{behind_front, is_back}

-- how a part of a text begins that says it of a side, small and large letters alike
abbrev pub fronts_of_white : List (List ℕ)
fronts_of_white =
    codes "white to move" ∷ codes "white to play" ∷ codes "white to mate" ∷ codes "white mates in" ∷ codes "white can mate in"
    ∷ codes "white plays and" ∷ codes "weiss am zug" ∷ codes "weiss zieht" ∷ codes "weiss beginnt" ∷ codes "weiss setzt"
    ∷ codes "les blancs jouent" ∷ codes "les blancs font mat" ∷ codes "las blancas juegan" ∷ codes "blancas juegan"
    ∷ codes "il bianco muove" ∷ codes "wit speelt" ∷ codes "wit begint" ∷ codes "wit geeft mat" ∷ codes "biale zaczynaja"
    ∷ codes "belye nachinayut" ∷ codes "belye dayut" ∷ codes "white begins" ∷ codes "white starts" ∷ codes "white to start"
    ∷ codes "white plays first" ∷ codes "white moves first" ∷ codes "weiss ist am zug" ∷ codes "anziehender weiss"
    ∷ codes "trait aux blancs" ∷ codes "les blancs commencent" ∷ codes "juegan las blancas" ∷ codes "juegan blancas"
    ∷ codes "muove il bianco" ∷ codes "tratto al bianco" ∷ codes "wit aan zet" ∷ codes "khod belykh" ∷ []

abbrev pub fronts_of_black : List (List ℕ)
fronts_of_black =
    codes "black to move" ∷ codes "black to play" ∷ codes "black to mate" ∷ codes "black mates in" ∷ codes "black can mate in"
    ∷ codes "black plays and" ∷ codes "schwarz am zug" ∷ codes "schwarz zieht" ∷ codes "schwarz beginnt" ∷ codes "schwarz setzt"
    ∷ codes "les noirs jouent" ∷ codes "les noirs font mat" ∷ codes "las negras juegan" ∷ codes "negras juegan" ∷ codes "il nero muove"
    ∷ codes "zwart speelt" ∷ codes "zwart begint" ∷ codes "zwart geeft mat" ∷ codes "czarne zaczynaja" ∷ codes "chernye nachinayut"
    ∷ codes "chernye dayut" ∷ codes "black begins" ∷ codes "black starts" ∷ codes "black to start" ∷ codes "black plays first"
    ∷ codes "black moves first" ∷ codes "schwarz ist am zug" ∷ codes "anziehender schwarz" ∷ codes "trait aux noirs"
    ∷ codes "les noirs commencent" ∷ codes "juegan las negras" ∷ codes "juegan negras" ∷ codes "muove il nero" ∷ codes "tratto al nero"
    ∷ codes "zwart aan zet" ∷ codes "khod chernykh" ∷ []

abbrev pub begins_with_front : (text front : List ℕ) → Bool
begins_with_front text front = is_some (behind_front front text)

unfoldable pub is_of_white : (part : List ℕ) → Bool
is_of_white part = list_any (begins_with_front (tidied part)) fronts_of_white

unfoldable pub is_of_black : (part : List ℕ) → Bool
is_of_black part = list_any (begins_with_front (tidied part)) fronts_of_black

abbrev pub is_of_side : Colour → (part : List ℕ) → Bool
is_of_side White part = is_of_white part
is_of_side Black part = is_of_black part

-- A part of the text says that the side moves, or mates.
unfoldable pub says_side : Colour → (text : List ℕ) → Bool
says_side side text = list_any (is_of_side side) (parts_of text)

-- who begins, and no more: that asks nothing
abbrev pub who_begins : List (List ℕ)
who_begins = codes "white begins" ∷ codes "black begins" ∷ []

abbrev pub says_who_begins : (text : List ℕ) → Bool
says_who_begins text = list_any (is_back text) who_begins
