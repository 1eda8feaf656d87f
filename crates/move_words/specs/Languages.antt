-- The letters that men have in a language. A code is that of ISO 639-1, and its letters are those of the PGN Specification, section 17; of
-- Russian, which isn't there, those that it is printed with, Кр, Ф, Л, С, К and п, in Latin letters.
use Rattle.std.specs.Prelude.{ℕ, ◌==◌, nat_le, List, [], ◌∷◌, codes, Option, Some, None, is_some, Bool, true, not, ◌&&◌, ◌||◌, if◌then◌else◌}
use Rattle.std.specs.List.{list_all, list_any}
use Rattle.std.specs.Str.{bytes_eq}
use Rattle.chess_board.specs.Characters.{char}
use Rattle.chess_board.specs.declared.men.Kind.{Kind}
use Rattle.chess_board.specs.declared.men.Kind.TheVariants.{Pawn, Knight, Bishop, Rook, Queen, King}
use Rattle.move_words.specs.declared.languages.Letters.{Letters}

abbrev pub english : Letters
english = record {
  king = char "K";
  queen = char "Q";
  rook = char "R";
  bishop = char "B";
  knight = char "N";
  pawn = char "P";
  behind_king = None;
}

-- The king has two letters, of which the first alone is the knight's.
abbrev pub russian : Letters
russian = record {
  king = char "K";
  queen = char "F";
  rook = char "L";
  bishop = char "S";
  knight = char "K";
  pawn = char "P";
  behind_king = Some (char "r");
}

abbrev pub is_english : Letters → Bool
is_english l =
    (l.king == char "K") && (l.queen == char "Q") && (l.rook == char "R") && (l.bishop == char "B") && (l.knight == char "N")
    && (l.pawn == char "P") && not (is_some l.behind_king)

abbrev pub is_capital : ℕ → Bool
is_capital b = nat_le (char "A") b && nat_le b (char "Z")

abbrev pub are_apart : List ℕ → Bool
are_apart [] = true
are_apart (b ∷ bs) = not (list_any (λ other. other == b) bs) && are_apart bs

-- Six capitals, each another: the king's, queen's, rook's, bishop's, knight's and pawn's.
abbrev pub of_six : List ℕ → Option Letters
of_six (k ∷ q ∷ r ∷ b ∷ n ∷ p ∷ []) =
    if list_all is_capital (k ∷ q ∷ r ∷ b ∷ n ∷ p ∷ []) && are_apart (k ∷ q ∷ r ∷ b ∷ n ∷ p ∷ []) then Some (record {
      king = k;
      queen = q;
      rook = r;
      bishop = b;
      knight = n;
      pawn = p;
      behind_king = None;
    })
    else None
of_six text = None

-- German, Danish, Norwegian and Swedish; Spanish and Italian
abbrev pub has_german_letters : List ℕ → Bool
has_german_letters word =
    bytes_eq word (codes "de") || bytes_eq word (codes "da") || bytes_eq word (codes "no") || bytes_eq word (codes "sv")

abbrev pub has_spanish_letters : List ℕ → Bool
has_spanish_letters word = bytes_eq word (codes "es") || bytes_eq word (codes "it")

-- The six letters of a language's code; another word stands for itself. In Dutch, O is the pawn.
abbrev pub six_letters : List ℕ → List ℕ
six_letters word =
    if has_german_letters word then codes "KDTLSB" else (if has_spanish_letters word then codes "RDTACP"
    else (if bytes_eq word (codes "en") then codes "KQRBNP" else (if bytes_eq word (codes "fr") then codes "RDTFCP"
    else (if bytes_eq word (codes "nl") then codes "KDTLPO" else (if bytes_eq word (codes "pl") then codes "KHWGSP"
    else (if bytes_eq word (codes "pt") then codes "RDTBCP" else (if bytes_eq word (codes "cs") then codes "KDVSJP"
    else (if bytes_eq word (codes "hu") then codes "KVBFHG" else (if bytes_eq word (codes "fi") then codes "KDTLRP"
    else (if bytes_eq word (codes "ro") then codes "RDTNCP" else (if bytes_eq word (codes "et") then codes "KLVORP"
    else (if bytes_eq word (codes "is") then codes "KDHBRP" else word))))))))))))

-- What a word stands for.
unfoldable pub letters_said : List ℕ → Option Letters
letters_said word = if bytes_eq word (codes "ru") then Some russian else of_six (six_letters word)

-- the kind of man that a letter stands for; the king last, of whose two letters the first may be another's
abbrev pub kind_of_letter : Letters → ℕ → Option Kind
kind_of_letter l b =
    if b == l.queen then Some Queen else (if b == l.rook then Some Rook else (if b == l.bishop then Some Bishop
    else (if b == l.knight then Some Knight else (if b == l.pawn then Some Pawn else (if b == l.king then Some King else None)))))

abbrev pub letter_of : Letters → Kind → ℕ
letter_of l Pawn = l.pawn
letter_of l Knight = l.knight
letter_of l Bishop = l.bishop
letter_of l Rook = l.rook
letter_of l Queen = l.queen
letter_of l King = l.king
