-- What a test keeps of the moves from square to square, and how many.
use Rattle.std.proofs.Common.{◌≡◌, ℕ, suc, ◌+◌, Bool, List, [], ◌∷◌, ◌++◌, filter, length, Option, Some, None, refl, ap, ◌∙◌, length-append}
use Rattle.std.proofs.lemmas.List.Elements.{filter-append}
use Rattle.chess_board.specs.declared.men.Kind.{Kind}
use Rattle.chess_board.specs.declared.men.Kind.TheVariants.{Knight, Bishop, Rook, Queen}
use Rattle.chess_board.specs.Moves.{Move}
use Rattle.chess_moves.specs.inside.Listing.{move_of, promotions, moves_between, moves_to, moves_below}

module _ (f : Move → Bool) where
  -- how many of a list pass
  abbrev pub many : List Move → ℕ
  many xs = length (filter f xs)

  many-append : (xs ys : List Move) → many (xs ++ ys) ≡ many xs + many ys
  many-append xs ys = ap length (filter-append f xs ys) ∙ length-append (filter f xs) (filter f ys)

  -- what the test keeps of one move alone
  abbrev pub kept : ℕ → ℕ → Option Kind → List Move
  kept o t r = filter f (move_of o t r ∷ [])

  pub promotions_kept : (o t : ℕ) → filter f (promotions o t) ≡ kept o t (Some Knight)
      ++ (kept o t (Some Bishop) ++ (kept o t (Some Rook) ++ kept o t (Some Queen)))
  promotions_kept o t =
      filter-append f (move_of o t (Some Knight) ∷ []) (move_of o t (Some Bishop) ∷ move_of o t (Some Rook) ∷ move_of o t (Some Queen) ∷ [])
      ∙ ap (λ (xs : List Move). kept o t (Some Knight) ++ xs)
      (filter-append f (move_of o t (Some Bishop) ∷ []) (move_of o t (Some Rook) ∷ move_of o t (Some Queen) ∷ [])
      ∙ ap (λ (xs : List Move). kept o t (Some Bishop) ++ xs) (filter-append f (move_of o t (Some Rook) ∷ []) (move_of o t (Some Queen) ∷ [])))

  pub many-promotions : (o t : ℕ) → many (promotions o t) ≡ length (kept o t (Some Knight))
      + (length (kept o t (Some Bishop)) + (length (kept o t (Some Rook)) + length (kept o t (Some Queen))))
  many-promotions o t = ap length (promotions_kept o t) ∙ simp length-append refl

  pub between_kept : (o t : ℕ) → filter f (moves_between o t) ≡ kept o t None ++ filter f (promotions o t)
  unfolding moves_between
  between_kept o t = filter-append f (move_of o t None ∷ []) (promotions o t)

  pub many-between : (o t : ℕ) → many (moves_between o t) ≡ length (kept o t None) + many (promotions o t)
  many-between o t = ap length (between_kept o t) ∙ length-append (kept o t None) (filter f (promotions o t))

  pub many-to_more : (o t : ℕ) → many (moves_to o (suc t)) ≡ many (moves_to o t) + many (moves_between o t)
  unfolding moves_to
  many-to_more o t = many-append (moves_to o t) (moves_between o t)

  pub many-below_more : (n : ℕ) → many (moves_below (suc n)) ≡ many (moves_below n) + many (moves_to n 64)
  unfolding moves_below
  many-below_more n = many-append (moves_below n) (moves_to n 64)
