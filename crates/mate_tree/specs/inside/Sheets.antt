-- Not for believing: lines as they are written one by one, through a buffer. They come to `printed`.
use Rattle.std.specs.Prelude.{◌≡◌, ℕ, ◌-◌, ◌==◌, ◌&&◌, List, [], ◌∷◌, ◌++◌, codes, length, Bool, true, false, Option, Some, None}
use Rattle.std.specs.Prelude.{if◌then◌else◌}
use Rattle.std.specs.Io.KnownBytes.{Appends, Keeps}
use Rattle.byte_streams.specs.declared.stops.Stop.{Stop}
use Rattle.byte_streams.specs.Stops.{AppendsPart, is_of_output}
use Rattle.mate_tree.specs.declared.forms.Form.{Form}
use Rattle.mate_tree.specs.declared.forms.Pieces.{Pieces}
use Rattle.mate_tree.specs.Layouts.{figured, unindented}
use Rattle.mate_tree.specs.SetPlay.{headed}

-- How many lines there is still room for, where that is limited, and whether a line was left out; how lines are laid out; whether one was
-- begun; and whether nothing stands there yet of the last one of a column.
pub record Room : Type 0 where
  pub left : Option ℕ
  pub cut : Bool
  pub column : Bool
  pub pieces : Pieces
  pub begun : Bool
  pub fresh : Bool

-- the room of an empty sheet
abbrev pub room_for : Form → Room
room_for form = record {
  left = form.lines;
  cut = false;
  column = form.column;
  pieces = form.pieces;
  begun = false;
  fresh = false;
}

-- what is not written yet, the room for lines, and why writing stopped, where it did
pub record SheetValue : Type 0 where
  pub pending : List ℕ
  pub room : Room
  pub stop : Option Stop

abbrev pub closed_by : Option Stop → Bool → Bool
closed_by None cut = cut
closed_by (Some stop) cut = true

-- nothing is written any more
abbrev pub is_closed : SheetValue → Bool
is_closed s = closed_by s.stop s.room.cut

-- ---- between lines

abbrev pub next_in : Room → Option ℕ → Room
next_in r None = record r { begun = true; fresh = r.column }
next_in r (Some n) =
    if n == 0 then record r { cut = true; begun = true } else record r { left = Some (n - 1); begun = true; fresh = r.column }

-- the room where a line more is begun
abbrev pub next : Room → Room
next r = if r.cut then r else next_in r r.left

-- what ends a line
abbrev pub line_end : Bool → List ℕ
line_end column = if column then [] else codes "\n"

-- what stands before a line: in a column a space, but for the first
abbrev pub gap : Room → List ℕ
gap r = if r.column && r.begun then codes " " else []

abbrev pub mark_in : Room → Option ℕ → List ℕ
mark_in r None = gap r
mark_in r (Some n) = if n == 0 then gap r ++ codes ".." ++ line_end r.column else gap r

-- what stands before a line, or two dots in place of the first that there is no room for
abbrev pub mark : Room → List ℕ
mark r = if r.cut then [] else mark_in r r.left

-- what stands behind a line
abbrev pub ending : Room → List ℕ
ending r = if r.cut then [] else line_end r.column

-- what ends a column, where one was begun, and an empty line
abbrev pub closing_of : Bool → Bool → List ℕ
closing_of column begun = if column && begun then codes "\n\n" else codes "\n"

abbrev pub closing : Room → List ℕ
closing r = closing_of r.column r.begun

-- ---- within a line

-- what is shown of a part of a line: without indentation, where nothing stands there yet of a line of a column
abbrev pub part : Bool → List ℕ → List ℕ
part fresh text = if fresh then unindented text else text

-- Nothing stands there yet behind this part, either.
abbrev pub stays_fresh : Bool → List ℕ → Bool
stays_fresh fresh text = fresh && (length (part fresh text) == 0)

-- a part of a line, unless a line was left out
abbrev pub shown : Room → List ℕ → List ℕ
shown r text = if r.cut then [] else figured r.pieces (part r.fresh text)

-- the room behind it
abbrev pub past : Room → List ℕ → Room
past r text = if r.cut then r else record r { fresh = stays_fresh r.fresh text }

-- ---- lines

-- the text of lines
unfoldable pub said : Room → List (List ℕ) → List ℕ
said r [] = []
said r (l ∷ ls) = mark r ++ (shown (next r) l ++ ending (past (next r) l)) ++ said (past (next r) l) ls

-- the room behind them
unfoldable pub behind : Room → List (List ℕ) → Room
behind r [] = r
behind r (l ∷ ls) = behind (past (next r) l) ls

-- ---- what is written

-- A sheet with this pending takes a text: all of it is written or pending then; or writing stops, behind a first part; or it had stopped.
abbrev pub GoesBy : Option Stop → Option Stop → Option (List ℕ) → List ℕ → Option (List ℕ) → List ℕ → List ℕ → Type 0 → Type 0
GoesBy None None old p new q text Then = Then × (gone : List ℕ) × (p ++ text ≡ gone ++ q) × Appends old new gone
GoesBy None (Some stop) old p new q text Then = (is_of_output stop ≡ true) × AppendsPart old new (p ++ text)
GoesBy (Some stop) None old p new q text Then = ⊥
GoesBy (Some stop) (Some other) old p new q text Then = (other ≡ stop) × Keeps old new

abbrev pub Goes : Option (List ℕ) → SheetValue → Option (List ℕ) → SheetValue → List ℕ → Room → Type 0
Goes old s new t text room = GoesBy s.stop t.stop old s.pending new t.pending text (t.room ≡ room)

-- A text is written on the sheet, or stands in its buffer, whatever the room.
pub record Takes (old : Option (List ℕ)) (s : SheetValue) (new : Option (List ℕ)) (t : SheetValue) (text : List ℕ) : Type 0 where
  pub goes : Goes old s new t text s.room

-- ---- lines below a name

abbrev pub is_some_line : List (List ℕ) → Bool
is_some_line [] = false
is_some_line (l ∷ ls) = true

-- lines below a name that may stand there already
abbrev pub headed_on : List ℕ → Bool → List (List ℕ) → List (List ℕ)
headed_on name is_open ls = if is_open then ls else headed name ls

-- the name, where it does not stand there and is to
abbrev pub name_lines : List ℕ → Bool → Bool → List (List ℕ)
name_lines name is_open has = if is_open then [] else if has then name ∷ [] else []
