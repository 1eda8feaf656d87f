-- Not for believing: the legal moves one after the other: those that are still to come, told from sets of squares.
use Rattle.std.specs.Prelude.{◌≡◌, ℕ, ◌<◌, true, if◌then◌else◌, List, [], ◌∷◌, ◌++◌, filter, Option, Some, None}
use Rattle.std.specs.List.{flat_map}
use Rattle.square_sets.specs.Members.{has, members}
use Rattle.chess_board.specs.declared.men.Kind.{Kind}
use Rattle.chess_board.specs.declared.men.Kind.TheVariants.{Knight, Bishop, Rook, Queen}
use Rattle.chess_board.specs.declared.men.Man.{Man}
use Rattle.chess_board.specs.Men.{is_of, man_of}
use Rattle.chess_board.specs.Positions.{Setup, man_at}
use Rattle.chess_board.specs.Moves.{Move}
use Rattle.chess_board.specs.PseudoLegal.{promotes}
use Rattle.chess_board.specs.Legality.{is_legal}
use Rattle.chess_moves.specs.declared.move_generation.ManMoves.{ManMoves}
use Rattle.chess_moves.specs.declared.move_generation.LegalMoves.TheInside.{Inside}
use Rattle.chess_moves.specs.inside.Listing.{move_of, promotions, moves_to}
use Rattle.chess_moves.specs.inside.LegalTargets.{ways}
use Rattle.chess_moves.specs.inside.LegalityInfo.{IsLegalityInfo}

-- the promotion that comes after this one, if it is one and not the last
abbrev pub next_promotion : Option Kind → Option Kind
next_promotion (Some Knight) = Some Bishop
next_promotion (Some Bishop) = Some Rook
next_promotion (Some Rook) = Some Queen
next_promotion _ = None

-- the promotions from this kind on
abbrev pub promotions_from : Kind → ℕ → ℕ → List Move
promotions_from Knight origin target = promotions origin target
promotions_from Bishop origin target =
    move_of origin target (Some Bishop) ∷ move_of origin target (Some Rook) ∷ move_of origin target (Some Queen) ∷ []
promotions_from Rook origin target = move_of origin target (Some Rook) ∷ move_of origin target (Some Queen) ∷ []
promotions_from other origin target = move_of origin target (Some other) ∷ []

-- the moves of a man to these targets: to the first of them its promotions from `first` on, if it is promoted there
abbrev pub moves_from : Kind → Man → ℕ → List ℕ → List Move
moves_from first man origin [] = []
moves_from first man origin (target ∷ targets) =
    (if promotes man target then promotions_from first origin target else (move_of origin target None ∷ [])) ++ flat_map (ways man origin) targets

-- one man's moves that are still to come
abbrev pub man_moves : ManMoves → List Move
man_moves left = moves_from left.promotion left.mover.man left.mover.origin (members left.targets)

-- the legal moves from these squares
abbrev pub moves_of_men : Setup → List ℕ → List Move
moves_of_men p origins = flat_map (λ origin. filter (is_legal p) (moves_to origin 64)) origins

-- all the moves that are still to come: those of the man that has its turn, then those of the men after it
abbrev pub moves_left : Inside → List Move
moves_left left = man_moves left.turn ++ moves_of_men left.info.position.now (members left.origins)

-- A man of the side to move stands on each square of the set.
abbrev pub HaveOwnMen : ℕ → Setup → Type 0
HaveOwnMen set p = (s : ℕ) → s < 64 → has set s ≡ true → is_of p.side (man_at p.men s) ≡ true

-- A man of the side to move and of this kind stands on each square of the set.
abbrev pub HaveMenOf : Kind → ℕ → Setup → Type 0
HaveMenOf kind set p = (s : ℕ) → s < 64 → has set s ≡ true → man_at p.men s ≡ man_of p.side kind

pub record IsUnderWay (left : Inside) : Type 0 where
  pub info : IsLegalityInfo left.info
  pub origins : HaveOwnMen left.origins left.info.position.now
  pub on_board : left.turn.mover.origin < 64
