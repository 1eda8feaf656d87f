-- The phrases that say a mate in so many moves: each is one of the fronts in a table, a number, and one of the backs in its table
-- (own to this project).
use Rattle.std.specs.Prelude.{ℕ, List, [], ◌∷◌, codes, Option}
use Rattle.stipulations.specs.declared.numbers.Language.TheVariants.{Signs, English, German, French, Spanish, Italian, Dutch, Polish, Russian}
use Rattle.stipulations.specs.Numbers.{or_else}
use Rattle.stipulations.specs.Patterns.{nothing, number_between}

-- Behind `#2` or `2#`: a star for set play, v and vv for variations, and C+ for a problem that a program has tested.
abbrev pub marks : List (List ℕ)
marks = codes "" ∷ codes "*" ∷ codes "v" ∷ codes "vv" ∷ codes " c+" ∷ codes "c+" ∷ []

abbrev pub before_number : List (List ℕ)
before_number = codes "#" ∷ []

abbrev pub sign_and_marks : List (List ℕ)
sign_and_marks = codes "#" ∷ codes "#*" ∷ codes "#v" ∷ codes "#vv" ∷ codes "# c+" ∷ codes "#c+" ∷ []

abbrev pub in_signs : (text : List ℕ) → Option ℕ
in_signs text = or_else (number_between Signs before_number marks text) (number_between Signs nothing sign_and_marks text)

abbrev pub fronts_in_english : List (List ℕ)
fronts_in_english =
    codes "mate in " ∷ codes "mate within " ∷ codes "mate in #" ∷ codes "checkmate in " ∷ codes "mates in " ∷ codes "play and mate in "
    ∷ codes "to play and mate in " ∷ codes "to move and mate in " ∷ codes "white mates in " ∷ codes "white to move and mate in "
    ∷ codes "white to play and mate in " ∷ codes "white to mate in " ∷ codes "white can mate in " ∷ codes "white plays and mates in "
    ∷ codes "black mates in " ∷ codes "black to move and mate in " ∷ codes "black to play and mate in " ∷ codes "black to mate in "
    ∷ codes "black can mate in " ∷ codes "black plays and mates in " ∷ []

abbrev pub backs_in_english : List (List ℕ)
backs_in_english = codes "" ∷ codes " moves" ∷ codes " move" ∷ []

abbrev pub movers : List (List ℕ)
movers = codes "-mover" ∷ codes " mover" ∷ codes "-move mate" ∷ []

abbrev pub in_english : (text : List ℕ) → Option ℕ
in_english text = or_else (number_between English fronts_in_english backs_in_english text) (number_between English nothing movers text)

-- In German, ss stands for the sharp s, and u and o or ue and oe for the letters with two dots.
abbrev pub fronts_in_german : List (List ℕ)
fronts_in_german = codes "matt in " ∷ []

abbrev pub backs_in_german : List (List ℕ)
backs_in_german = codes "" ∷ codes " zugen" ∷ codes " zuegen" ∷ codes " zug" ∷ []

abbrev pub setting_fronts : List (List ℕ)
setting_fronts =
    codes "weiss zieht und setzt in " ∷ codes "weiss zieht an und setzt in " ∷ codes "weiss beginnt und setzt in "
    ∷ codes "weiss am zug setzt in " ∷ codes "weiss setzt in " ∷ codes "schwarz zieht und setzt in " ∷ codes "schwarz zieht an und setzt in "
    ∷ codes "schwarz beginnt und setzt in " ∷ codes "schwarz am zug setzt in " ∷ codes "schwarz setzt in " ∷ []

abbrev pub setting_backs : List (List ℕ)
setting_backs = codes " zugen matt" ∷ codes " zuegen matt" ∷ []

abbrev pub zuger : List (List ℕ)
zuger = codes "-zuger" ∷ codes "-zueger" ∷ codes "zuger" ∷ codes "zueger" ∷ []

abbrev pub in_german : (text : List ℕ) → Option ℕ
in_german text =
    or_else (number_between German fronts_in_german backs_in_german text)
    (or_else (number_between German setting_fronts setting_backs text) (number_between German nothing zuger text))

abbrev pub fronts_in_french : List (List ℕ)
fronts_in_french =
    codes "mat en " ∷ codes "les blancs jouent et font mat en " ∷ codes "les blancs jouent et matent en " ∷ codes "les blancs font mat en "
    ∷ codes "les noirs jouent et font mat en " ∷ codes "les noirs jouent et matent en " ∷ codes "les noirs font mat en " ∷ []

abbrev pub backs_in_french : List (List ℕ)
backs_in_french = codes "" ∷ codes " coups" ∷ codes " coup" ∷ []

abbrev pub in_french : (text : List ℕ) → Option ℕ
in_french text = number_between French fronts_in_french backs_in_french text

abbrev pub fronts_in_spanish : List (List ℕ)
fronts_in_spanish =
    codes "mate en " ∷ codes "las blancas juegan y dan mate en " ∷ codes "blancas juegan y dan mate en "
    ∷ codes "las negras juegan y dan mate en " ∷ codes "negras juegan y dan mate en " ∷ []

abbrev pub backs_in_spanish : List (List ℕ)
backs_in_spanish = codes "" ∷ codes " jugadas" ∷ codes " movimientos" ∷ []

abbrev pub in_spanish : (text : List ℕ) → Option ℕ
in_spanish text = number_between Spanish fronts_in_spanish backs_in_spanish text

abbrev pub fronts_in_italian : List (List ℕ)
fronts_in_italian =
    codes "matto in " ∷ codes "il bianco muove e matta in " ∷ codes "il bianco muove e da matto in " ∷ codes "il nero muove e matta in "
    ∷ codes "il nero muove e da matto in " ∷ []

abbrev pub backs_in_italian : List (List ℕ)
backs_in_italian = codes "" ∷ codes " mosse" ∷ []

abbrev pub in_italian : (text : List ℕ) → Option ℕ
in_italian text = number_between Italian fronts_in_italian backs_in_italian text

abbrev pub fronts_in_dutch : List (List ℕ)
fronts_in_dutch =
    codes "mat in " ∷ codes "wit speelt en geeft mat in " ∷ codes "wit begint en geeft mat in " ∷ codes "wit geeft mat in "
    ∷ codes "zwart speelt en geeft mat in " ∷ codes "zwart begint en geeft mat in " ∷ codes "zwart geeft mat in " ∷ []

abbrev pub backs_in_dutch : List (List ℕ)
backs_in_dutch = codes "" ∷ codes " zetten" ∷ []

abbrev pub in_dutch : (text : List ℕ) → Option ℕ
in_dutch text = number_between Dutch fronts_in_dutch backs_in_dutch text

abbrev pub fronts_in_polish : List (List ℕ)
fronts_in_polish = codes "mat w " ∷ codes "biale zaczynaja i daja mata w " ∷ codes "czarne zaczynaja i daja mata w " ∷ []

abbrev pub backs_in_polish : List (List ℕ)
backs_in_polish = codes "" ∷ codes " posunieciach" ∷ []

abbrev pub in_polish : (text : List ℕ) → Option ℕ
in_polish text = number_between Polish fronts_in_polish backs_in_polish text

abbrev pub fronts_in_russian : List (List ℕ)
fronts_in_russian =
    codes "mat v " ∷ codes "belye nachinayut i dayut mat v " ∷ codes "belye dayut mat v " ∷ codes "chernye nachinayut i dayut mat v "
    ∷ codes "chernye dayut mat v " ∷ []

abbrev pub backs_in_russian : List (List ℕ)
backs_in_russian = codes "" ∷ codes " khoda" ∷ codes " khodov" ∷ codes " khod" ∷ []

abbrev pub in_russian : (text : List ℕ) → Option ℕ
in_russian text = number_between Russian fronts_in_russian backs_in_russian text

-- the number of moves that a phrase in words says, in one of the languages
unfoldable pub in_words : (text : List ℕ) → Option ℕ
in_words text =
    or_else (or_else (or_else (in_english text) (in_german text)) (or_else (in_french text) (in_spanish text)))
    (or_else (or_else (in_italian text) (in_dutch text)) (or_else (in_polish text) (in_russian text)))

-- the same of any phrase
unfoldable pub in_phrase : (text : List ℕ) → Option ℕ
in_phrase text = or_else (in_signs text) (in_words text)
