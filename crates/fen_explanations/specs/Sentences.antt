-- How a line is made of its parts, and what stands in it.
use Rattle.std.specs.Prelude.{ℕ, zero, suc, ◌+◌, ◌==◌, Bool, if◌then◌else◌, List, [], ◌∷◌, ◌++◌, codes, flat_map}
use Rattle.chess_board.specs.Characters.{char}
use Rattle.chess_board.specs.declared.men.Colour.{Colour}
use Rattle.chess_board.specs.declared.men.Colour.TheVariants.{White, Black}
use Rattle.chess_board.specs.declared.men.Kind.{Kind}
use Rattle.chess_board.specs.declared.men.Kind.TheVariants.{Pawn, Knight, Bishop, Rook, Queen, King}

-- these parts, one after the other
abbrev pub together : List (List ℕ) → List ℕ
together parts = flat_map (λ part. part) parts

-- a line of these parts
unfoldable pub sentence : List (List ℕ) → List ℕ
sentence parts = flat_map (λ part. part) parts ++ codes "\n"

-- a line of these parts, where something holds
abbrev pub told_if : Bool → List (List ℕ) → List ℕ
told_if holds parts = if holds then sentence parts else []

-- what is told of each number below n, in order
unfoldable pub each_below : ℕ → (ℕ → List ℕ) → List ℕ
each_below zero told = []
each_below (suc n) told = each_below n told ++ told n

abbrev pub plural : ℕ → List ℕ
plural n = if n == 1 then [] else codes "s"

-- a rank as it is named
abbrev pub rank_name : ℕ → List ℕ
rank_name rank = (char "1" + rank) ∷ []

abbrev pub side_name : Colour → List ℕ
side_name White = codes "White"
side_name Black = codes "Black"

abbrev pub colour_name : Colour → List ℕ
colour_name White = codes "white"
colour_name Black = codes "black"

abbrev pub kind_name : Kind → List ℕ
kind_name Pawn = codes "pawn"
kind_name Knight = codes "knight"
kind_name Bishop = codes "bishop"
kind_name Rook = codes "rook"
kind_name Queen = codes "queen"
kind_name King = codes "king"
