-- What tells that a text speaks of an aim: of a mate, or of what makes another problem than a direct mate (own to this project).
use Rattle.std.specs.Prelude.{ℕ, ◌-◌, List, [], ◌∷◌, codes, length, drop, Bool, false, nat_lt, not, ◌||◌, ◌&&◌}
use Rattle.std.specs.List.{list_any}
use Rattle.std.specs.Str.{str_eq_ignore_ascii_case}
use Rattle.chess_board.specs.Characters.{char}
use Rattle.stipulations.specs.OtherNumbers.{any_word, says_other_number}
use Rattle.stipulations.specs.Parts.{tidied}
use Rattle.stipulations.specs.Sides.{says_who_begins}
use Rattle.stipulations.specs.Signs.{has_digits_before_sign, has_joined_sign, has_sign_before_digit, is_answer}
use Rattle.stipulations.specs.Words.{words_of}

abbrev pub is_among : (others : List (List ℕ)) → (word : List ℕ) → Bool
is_among others word = list_any (λ other. str_eq_ignore_ascii_case word other) others

-- A word ends with another where its last letters are that one; a shorter word is all that there is of it.
abbrev pub ends_with : (word end : List ℕ) → Bool
ends_with word end = str_eq_ignore_ascii_case (drop (length word - length end) word) end

-- how words for a mate end: `mate`, `Selfmate`, `Hilfsmatt`
abbrev pub ends_of_mates : List (List ℕ)
ends_of_mates =
    codes "mate" ∷ codes "mates" ∷ codes "mated" ∷ codes "mating" ∷ codes "matt" ∷ codes "mat" ∷ codes "mata" ∷ codes "matto" ∷ codes "matta"
    ∷ codes "maten" ∷ codes "matent" ∷ codes "mover" ∷ codes "zuger" ∷ codes "zueger" ∷ []

-- other aims and what is asked besides: in English
abbrev pub aims : List (List ℕ)
aims =
    codes "help" ∷ codes "helps" ∷ codes "self" ∷ codes "selfs" ∷ codes "reflex" ∷ codes "semi" ∷ codes "series" ∷ codes "serial"
    ∷ codes "ser" ∷ codes "retro" ∷ codes "retractor" ∷ codes "retract" ∷ codes "retracts" ∷ codes "retraction" ∷ codes "retroanalysis"
    ∷ codes "add" ∷ codes "adds" ∷ codes "remove" ∷ codes "removes" ∷ codes "twin" ∷ codes "twins" ∷ codes "twinning" ∷ codes "duplex"
    ∷ codes "win" ∷ codes "wins" ∷ codes "draw" ∷ codes "draws" ∷ codes "inv" ∷ codes "cooperate" ∷ codes "cooperates"
    ∷ codes "cooperative" ∷ codes "forces" ∷ codes "suicide" ∷ codes "giveaway" ∷ codes "losing" ∷ codes "proofgame" ∷ codes "illegal"
    ∷ codes "cluster" ∷ codes "rotate" ∷ codes "rotates" ∷ codes "rotated" ∷ codes "kriegspiel" ∷ codes "progressive"
    ∷ codes "zeroposition" ∷ []

-- conditions and men of fairy chess, its own names, and who begins, which is no aim but may change it
abbrev pub conditions : List (List ℕ)
conditions =
    codes "circe" ∷ codes "anticirce" ∷ codes "andernach" ∷ codes "madrasi" ∷ codes "maximummer" ∷ codes "minimummer" ∷ codes "grid"
    ∷ codes "cylinder" ∷ codes "cylindrical" ∷ codes "patrol" ∷ codes "koko" ∷ codes "einstein" ∷ codes "alice" ∷ codes "isardam"
    ∷ codes "koeko" ∷ codes "kobul" ∷ codes "masand" ∷ codes "provocation" ∷ codes "imitator" ∷ codes "berolina" ∷ codes "grasshopper"
    ∷ codes "grasshoppers" ∷ codes "nightrider" ∷ codes "nightriders" ∷ codes "neutral" ∷ codes "atomic" ∷ codes "antichess"
    ∷ codes "monochromatic" ∷ codes "bichromatic" ∷ codes "pwc" ∷ codes "make" ∷ codes "lion" ∷ codes "lions" ∷ codes "locust"
    ∷ codes "camel" ∷ codes "zebra" ∷ codes "tsirtse" ∷ codes "begins" ∷ codes "fairy" ∷ codes "feerique" ∷ codes "feen" ∷ codes "marchen"
    ∷ codes "maerchen" ∷ codes "marchenschach" ∷ codes "maerchenschach" ∷ codes "gitter" ∷ codes "zylinder" ∷ codes "torus"
    ∷ codes "randlos" ∷ codes "chameleon" ∷ codes "chamaleon" ∷ codes "chamaeleon" ∷ codes "checkless" ∷ codes "schachlos"
    ∷ codes "schlagzwang" ∷ codes "rauber" ∷ codes "raeuber" ∷ codes "rauberschach" ∷ codes "raeuberschach" ∷ codes "sentinels"
    ∷ codes "platzwechsel" ∷ codes "kamikaze" ∷ codes "rifle" ∷ codes "antiking" ∷ codes "antikings" ∷ codes "crazyhouse" ∷ codes "atom"
    ∷ codes "messigny" ∷ codes "parrain" ∷ codes "singlebox" ∷ codes "grashupfer" ∷ codes "grashuepfer" ∷ codes "nachtreiter"
    ∷ codes "sauterelle" ∷ codes "sauterelles" ∷ codes "noctambule" ∷ codes "noctambules" ∷ codes "saltamontes" ∷ codes "transmuting"
    ∷ codes "amazon" ∷ codes "amazons" ∷ codes "pao" ∷ codes "royal" ∷ []

-- the same in German, French, Spanish, Italian, Dutch, Polish and Russian, and `bzw.`, behind which another number stands
abbrev pub foreign_aims : List (List ℕ)
foreign_aims =
    codes "patt" ∷ codes "remis" ∷ codes "gewinn" ∷ codes "gewinnt" ∷ codes "zwilling" ∷ codes "zwillinge" ∷ codes "aide"
    ∷ codes "inverse" ∷ codes "reflexe" ∷ codes "pat" ∷ codes "gain" ∷ codes "nulle" ∷ codes "serie" ∷ codes "retrograde"
    ∷ codes "ayudado" ∷ codes "inverso" ∷ codes "reflejo" ∷ codes "tablas" ∷ codes "ahogado" ∷ codes "gana" ∷ codes "ganan"
    ∷ codes "patta" ∷ codes "stallo" ∷ codes "vince" ∷ codes "remise" ∷ codes "winst" ∷ codes "wint" ∷ codes "nichya" ∷ codes "vyigrysh"
    ∷ codes "vyigryvayut" ∷ codes "hilfe" ∷ codes "hilfs" ∷ codes "selbst" ∷ codes "serienzug" ∷ codes "retroanalyse" ∷ codes "zuruck"
    ∷ codes "zurueck" ∷ codes "bzw" ∷ codes "jumeaux" ∷ codes "hulp" ∷ codes "zelf" ∷ codes "samo" ∷ codes "pomocniczy" ∷ codes "aiuto"
    ∷ codes "auto" ∷ codes "obratnyi" ∷ codes "obratnoe" ∷ codes "obratnaya" ∷ codes "obratnogo" ∷ codes "kooperativ"
    ∷ codes "kooperativnyi" ∷ codes "kooperativnoe" ∷ codes "kooperativnaya" ∷ codes "kooperativnogo" ∷ []

unfoldable pub says_mate : (word : List ℕ) → Bool
says_mate word = list_any (ends_with word) ends_of_mates

unfoldable pub is_aim : (word : List ℕ) → Bool
is_aim word = is_among aims word

unfoldable pub is_foreign_aim : (word : List ℕ) → Bool
is_foreign_aim word = is_among foreign_aims word

unfoldable pub is_condition : (word : List ℕ) → Bool
is_condition word = is_among conditions word

-- none of these words has fewer than three letters
abbrev pub is_short : (word : List ℕ) → Bool
is_short word = nat_lt (length word) 3

unfoldable pub is_of_aim : (word : List ℕ) → Bool
is_of_aim word = not (is_short word) && (says_mate word || is_aim word || is_foreign_aim word || is_condition word)

-- two words that tell of an aim where one follows the other
unfoldable pub is_pair : (before word : List ℕ) → Bool
is_pair before word =
    is_among (codes "proof" ∷ []) before && is_among (codes "game" ∷ codes "games" ∷ []) word
    || is_among (codes "last" ∷ codes "letzter" ∷ codes "dernier" ∷ []) before
    && is_among (codes "move" ∷ codes "zug" ∷ codes "coup" ∷ []) word
    || is_among (codes "takes" ∷ []) before && is_among (codes "back" ∷ []) word
    || is_among (codes "both" ∷ []) before && is_among (codes "sides" ∷ []) word
    || is_among (codes "dark" ∷ codes "fischer" ∷ []) before && is_among (codes "chess" ∷ codes "random" ∷ []) word
    || is_among (codes "zero" ∷ []) before && is_among (codes "position" ∷ []) word

abbrev pub have_pair : (before : List ℕ) → (words : List (List ℕ)) → Bool
have_pair before [] = false
have_pair before (word ∷ words) = is_pair before word || have_pair word words

-- a word that isn't of letters alone
abbrev pub is_chess960 : (word : List ℕ) → Bool
is_chess960 word = str_eq_ignore_ascii_case word (codes "chess960")

-- A part of a text speaks of an aim.
unfoldable pub speaks : (part : List ℕ) → Bool
speaks part =
    (list_any is_of_aim (words_of part) || have_pair [] (words_of part) || has_sign_before_digit part || has_digits_before_sign (char " ") part
    || says_other_number part || any_word is_chess960 (char " ") part)
    && not (is_answer (tidied part) || says_who_begins (tidied part))

-- What no name of an author or a tourney has: Matt is one, and `#7` a running number.
abbrev pub plain_aims : List (List ℕ)
plain_aims =
    codes "helpmate" ∷ codes "helpmates" ∷ codes "selfmate" ∷ codes "selfmates" ∷ codes "reflexmate" ∷ codes "helpstalemate"
    ∷ codes "selfstalemate" ∷ codes "serieshelpmate" ∷ codes "seriesmover" ∷ codes "circe" ∷ codes "anticirce" ∷ codes "andernach"
    ∷ codes "madrasi" ∷ codes "maximummer" ∷ codes "hilfsmatt" ∷ codes "selbstmatt" ∷ codes "hulpmat" ∷ codes "zelfmat" ∷ codes "aiutomatto"
    ∷ codes "automatto" ∷ codes "retractor" ∷ codes "duplex" ∷ []

abbrev pub mates : List (List ℕ)
mates = codes "mate" ∷ codes "mates" ∷ codes "checkmate" ∷ codes "matt" ∷ codes "mat" ∷ codes "matto" ∷ []

abbrev pub words_behind_mate : List (List ℕ)
words_behind_mate = codes "in" ∷ codes "en" ∷ codes "v" ∷ codes "w" ∷ codes "within" ∷ []

unfoldable pub is_plain_aim : (word : List ℕ) → Bool
is_plain_aim word = is_among plain_aims word

-- a word for a mate, and `in` or the like behind it
abbrev pub say_mate_within : (before : List ℕ) → (words : List (List ℕ)) → Bool
say_mate_within before [] = false
say_mate_within before (word ∷ words) = is_among mates before && is_among words_behind_mate word || say_mate_within word words

-- A part of a name speaks of an aim.
unfoldable pub speaks_plainly : (part : List ℕ) → Bool
speaks_plainly part =
    list_any is_plain_aim (words_of part) || say_mate_within [] (words_of part) || has_joined_sign (char " ") part || says_other_number part
