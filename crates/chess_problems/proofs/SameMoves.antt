-- Moves that agree in origin, target and promotion.
use Rattle.std.proofs.Common.{◌≡◌, ℕ, ◌==◌, true, ◌&&◌, Option, Some, None, refl, ap, sym, ◌∙◌, arith, subst, if◌then◌else◌}
use Rattle.std.proofs.lemmas.Bool.{and_parts, eqb-true}
use Rattle.std.proofs.lemmas.Bool.Decides.{nat_tests}
use Rattle.chess_board.specs.declared.men.Kind.{Kind}
use Rattle.chess_board.specs.declared.men.Kind.TheVariants.{Pawn, Knight, Bishop, Rook, Queen, King}
use Rattle.chess_board.specs.Moves.{Move, promotion_place}
use Rattle.chess_problems.specs.SameProblems.{is_same_move, SameMoveReads}

-- the promotion at a place
promotion_at : ℕ → Option Kind
promotion_at place =
    if place == 1 then Some Pawn
    else (if place == 2 then Some Knight
    else (if place == 3 then Some Bishop
    else (if place == 4 then Some Rook
    else (if place == 5 then Some Queen
    else (if place == 6 then Some King else None)))))

promotion_there : (promotion : Option Kind) → promotion_at (promotion_place promotion) ≡ promotion
unfolding promotion_at
promotion_there None = refl
promotion_there (Some Pawn) = refl
promotion_there (Some Knight) = refl
promotion_there (Some Bishop) = refl
promotion_there (Some Rook) = refl
promotion_there (Some Queen) = refl
promotion_there (Some King) = refl

promotion_is : (a b : Option Kind) → promotion_place a ≡ promotion_place b → a ≡ b
promotion_is a b e = sym (promotion_there a) ∙ ap promotion_at e ∙ promotion_there b

pub same_move_is : (m n : Move) → is_same_move m n ≡ true → m ≡ n
same_move_is m n h =
    let squares = and_parts ((m.origin == n.origin) && (m.target == n.target)) (promotion_place m.promotion == promotion_place n.promotion) h in
    let each = and_parts (m.origin == n.origin) (m.target == n.target) squares.0 in
    let origin : m.origin ≡ n.origin = eqb-true m.origin n.origin each.0 in
    let target : m.target ≡ n.target = eqb-true m.target n.target each.1 in
    let promotion : m.promotion ≡ n.promotion =
    promotion_is m.promotion n.promotion (eqb-true (promotion_place m.promotion) (promotion_place n.promotion) squares.1) in
    λ i. record { origin = origin i; target = target i; promotion = promotion i }

pub same_move_self : (m : Move) → is_same_move m m ≡ true
same_move_self m =
    let o : (m.origin == m.origin) ≡ true = grind (arith, nat_tests) in
    let t : (m.target == m.target) ≡ true = grind (arith, nat_tests) in
    let p : (promotion_place m.promotion == promotion_place m.promotion) ≡ true = grind (arith, nat_tests) in
    rw (o, t, p) refl

pub same_moves : SameMoveReads
same_moves m n = (same_move_is m n, λ e. subst (λ x. is_same_move m x ≡ true) e (same_move_self m))
