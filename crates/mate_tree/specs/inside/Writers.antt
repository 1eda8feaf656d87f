-- Not for believing: what is written of a tree in one step after the other.
use Rattle.std.specs.Prelude.{◌≡◌, ℕ, List, [], Option, ⊤}
use Rattle.byte_streams.specs.declared.stops.Stop.{Stop}
use Rattle.mate_tree.specs.declared.writers.TreeWriter.{TreeWriter}
use Rattle.mate_tree.specs.inside.Sheets.{Goes, GoesBy, Room, behind, ending, mark, next, past, said, shown}

-- The memo has as much room as before, and the same memo and output are written to.
pub record Stays {D : Type 0} (s t : TreeWriter D) : Type 0 where
  pub room : t.memo.now.room ≡ s.memo.now.room
  pub memo : t.memo.ghost_name ≡ s.memo.ghost_name
  pub out : t.out.ghost_name ≡ s.out.ghost_name

module _ {D : Type 0} (contents : D → Option (List ℕ)) (s t : TreeWriter D) where
  -- A text goes to the sheet, which has this room then.
  pub record Brings (text : List ℕ) (room : Room) : Type 0 where
    pub goes : Goes (contents s.out.now) s.sheet (contents t.out.now) t.sheet text room
    pub stays : Stays s t

  -- A text is written as it is, whatever the room.
  pub record AddsPlain (text : List ℕ) : Type 0 where
    pub brings : Brings text s.sheet.room

  -- A line is begun.
  pub record BeginsLine : Type 0 where
    pub brings : Brings (mark s.sheet.room) (next s.sheet.room)

  -- A part of a line is written, where there is room for the line.
  pub record AddsText (text : List ℕ) : Type 0 where
    pub brings : Brings (shown s.sheet.room text) (past s.sheet.room text)

  -- A line is ended.
  pub record EndsLine : Type 0 where
    pub brings : Brings (ending s.sheet.room) s.sheet.room

  -- Lines are written.
  pub record Adds (ls : List (List ℕ)) : Type 0 where
    pub brings : Brings (said s.sheet.room ls) (behind s.sheet.room ls)

  -- A last text is written, and all that was pending; or writing stops for this reason.
  abbrev pub Finishes : Option Stop → List ℕ → Type 0
  Finishes end last = GoesBy s.sheet.stop end (contents s.out.now) s.sheet.pending (contents t.out.now) [] last ⊤
