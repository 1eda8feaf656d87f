-- Numbers of moves: one digit or two, or a language's word for 1 to 15.
use Rattle.std.specs.Prelude.{ℕ, ◌+◌, ◌-◌, ◌*◌, ◌==◌, List, [], ◌∷◌, codes, Bool, not, ◌&&◌, Option, Some, None, if◌then◌else◌}
use Rattle.std.specs.Char.{is_ascii_digit}
use Rattle.std.specs.Str.{str_eq_ignore_ascii_case}
use Rattle.chess_board.specs.Characters.{char}
use Rattle.stipulations.specs.declared.numbers.Language.{Language}
use Rattle.stipulations.specs.declared.numbers.Language.TheVariants.{Signs, English, German, French, Spanish, Italian, Dutch, Polish, Russian}

abbrev pub or_else : Option ℕ → Option ℕ → Option ℕ
or_else None other = other
or_else (Some n) other = Some n

abbrev pub is_first_digit : ℕ → Bool
is_first_digit b = is_ascii_digit b && not (b == char "0")

-- 1 to 99
abbrev pub digits_number : List ℕ → Option ℕ
digits_number (a ∷ []) = if is_first_digit a then Some (a - char "0") else None
digits_number (a ∷ b ∷ []) = if is_first_digit a && is_ascii_digit b then Some (10 * (a - char "0") + (b - char "0")) else None
digits_number _ = None

-- the number of a word among those for n, n + 1 and so on
abbrev pub number_among : ℕ → (names : List (List ℕ)) → (word : List ℕ) → Option ℕ
number_among n [] word = None
number_among n (name ∷ names) word = if str_eq_ignore_ascii_case word name then Some n else number_among (n + 1) names word

-- Each list is a language's words for 1, 2, 3 and so on; a second list has other spellings.
abbrev pub english : List (List ℕ)
english =
    codes "one" ∷ codes "two" ∷ codes "three" ∷ codes "four" ∷ codes "five" ∷ codes "six" ∷ codes "seven" ∷ codes "eight" ∷ codes "nine"
    ∷ codes "ten" ∷ codes "eleven" ∷ codes "twelve" ∷ codes "thirteen" ∷ codes "fourteen" ∷ codes "fifteen" ∷ []

abbrev pub german : List (List ℕ)
german =
    codes "einem" ∷ codes "zwei" ∷ codes "drei" ∷ codes "vier" ∷ codes "funf" ∷ codes "sechs" ∷ codes "sieben" ∷ codes "acht" ∷ codes "neun"
    ∷ codes "zehn" ∷ codes "elf" ∷ codes "zwolf" ∷ codes "dreizehn" ∷ codes "vierzehn" ∷ codes "funfzehn" ∷ []

abbrev pub german_too : List (List ℕ)
german_too =
    codes "eins" ∷ codes "zwei" ∷ codes "drei" ∷ codes "vier" ∷ codes "fuenf" ∷ codes "sechs" ∷ codes "sieben" ∷ codes "acht" ∷ codes "neun"
    ∷ codes "zehn" ∷ codes "elf" ∷ codes "zwoelf" ∷ codes "dreizehn" ∷ codes "vierzehn" ∷ codes "fuenfzehn" ∷ []

abbrev pub french : List (List ℕ)
french =
    codes "un" ∷ codes "deux" ∷ codes "trois" ∷ codes "quatre" ∷ codes "cinq" ∷ codes "six" ∷ codes "sept" ∷ codes "huit" ∷ codes "neuf"
    ∷ codes "dix" ∷ codes "onze" ∷ codes "douze" ∷ codes "treize" ∷ codes "quatorze" ∷ codes "quinze" ∷ []

abbrev pub spanish : List (List ℕ)
spanish =
    codes "una" ∷ codes "dos" ∷ codes "tres" ∷ codes "cuatro" ∷ codes "cinco" ∷ codes "seis" ∷ codes "siete" ∷ codes "ocho" ∷ codes "nueve"
    ∷ codes "diez" ∷ codes "once" ∷ codes "doce" ∷ codes "trece" ∷ codes "catorce" ∷ codes "quince" ∷ []

abbrev pub italian : List (List ℕ)
italian =
    codes "una" ∷ codes "due" ∷ codes "tre" ∷ codes "quattro" ∷ codes "cinque" ∷ codes "sei" ∷ codes "sette" ∷ codes "otto" ∷ codes "nove"
    ∷ codes "dieci" ∷ codes "undici" ∷ codes "dodici" ∷ codes "tredici" ∷ codes "quattordici" ∷ codes "quindici" ∷ []

abbrev pub dutch : List (List ℕ)
dutch =
    codes "een" ∷ codes "twee" ∷ codes "drie" ∷ codes "vier" ∷ codes "vijf" ∷ codes "zes" ∷ codes "zeven" ∷ codes "acht" ∷ codes "negen"
    ∷ codes "tien" ∷ codes "elf" ∷ codes "twaalf" ∷ codes "dertien" ∷ codes "veertien" ∷ codes "vijftien" ∷ []

abbrev pub polish : List (List ℕ)
polish =
    codes "jednym" ∷ codes "dwoch" ∷ codes "trzech" ∷ codes "czterech" ∷ codes "pieciu" ∷ codes "szesciu" ∷ codes "siedmiu"
    ∷ codes "osmiu" ∷ codes "dziewieciu" ∷ codes "dziesieciu" ∷ []

abbrev pub russian : List (List ℕ)
russian =
    codes "odin" ∷ codes "dva" ∷ codes "tri" ∷ codes "chetyre" ∷ codes "pyat" ∷ codes "shest" ∷ codes "sem" ∷ codes "vosem" ∷ codes "devyat"
    ∷ codes "desyat" ∷ codes "odinnadtsat" ∷ codes "dvenadtsat" ∷ codes "trinadtsat" ∷ codes "chetyrnadtsat" ∷ codes "pyatnadtsat" ∷ []

-- in Spanish and Italian
abbrev pub one_too : List ℕ → Option ℕ
one_too word = or_else (number_among 1 (codes "un" ∷ []) word) (number_among 1 (codes "uno" ∷ []) word)

abbrev pub named_number : Language → (word : List ℕ) → Option ℕ
named_number Signs word = None
named_number English word = number_among 1 english word
named_number German word = or_else (number_among 1 german word) (number_among 1 german_too word)
named_number French word = number_among 1 french word
named_number Spanish word = or_else (number_among 1 spanish word) (one_too word)
named_number Italian word = or_else (number_among 1 italian word) (one_too word)
named_number Dutch word = number_among 1 dutch word
named_number Polish word = or_else (number_among 1 polish word) (number_among 2 (codes "dwu" ∷ []) word)
named_number Russian word = number_among 1 russian word

-- signs have no words
abbrev pub number : Language → (word : List ℕ) → Option ℕ
number language word = or_else (digits_number word) (named_number language word)
