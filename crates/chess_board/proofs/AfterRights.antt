-- After a move each right that is left has its king and its rook at home.
use Rattle.std.proofs.Common.{◌≡◌, ◌≢◌, ◌⊎◌, ◌||◌, ℕ, Bool, true, false, not, ◌&&◌, eqb, refl, sym, ap, ◌∙◌, inl, inr, arith}
use Rattle.std.proofs.lemmas.Bool.{and_parts, or_parts, and_from, eqb-false, not-true}
use Rattle.chess_board.specs.declared.men.Colour.{Colour}
use Rattle.chess_board.specs.declared.men.Colour.TheVariants.{White, Black}
use Rattle.chess_board.specs.declared.men.Kind.{Kind}
use Rattle.chess_board.specs.declared.men.Wing.{Wing}
use Rattle.chess_board.specs.declared.men.Wing.TheVariants.{KingSide, QueenSide}
use Rattle.chess_board.specs.declared.men.Rights.{Rights}
use Rattle.chess_board.specs.Moves.{Move}
use Rattle.chess_board.specs.Squares.{rank_of, crossed}
use Rattle.chess_board.specs.Positions.{Setup, man_at, moved}
use Rattle.chess_board.specs.Men.{has_right_of}
use Rattle.chess_board.specs.inside.KindTests.{is_king_of, is_rook_of}
use Rattle.chess_board.specs.Soundness.{IsSound, has_men_of_right, has_men_of_rights}
use Rattle.chess_board.specs.MakeMove.{becomes, men_after}
use Rattle.chess_board.specs.inside.Homes.{is_home}
use Rattle.chess_board.specs.Castling.{king_home, rook_home, king_goal, rook, touches, right_after, rights_after}
use Rattle.chess_board.specs.EnPassant.{captured_pawn}
use Rattle.chess_board.proofs.MenMoved.{moved_other, cleared_other}
use Rattle.chess_board.proofs.Movers.{a_man, IsCastling, Shape}
use Rattle.chess_board.proofs.MoveShapes.{right_men}

-- the rank on which a side castles
abbrev home_rank : Colour → ℕ
home_rank White = 0
home_rank Black = 7

homes_on_rank : (c : Colour) (w : Wing) → (rank_of (king_home c) ≡ home_rank c) × (rank_of (rook_home c w) ≡ home_rank c)
homes_on_rank White KingSide = (refl, refl)
homes_on_rank White QueenSide = (refl, refl)
homes_on_rank Black KingSide = (refl, refl)
homes_on_rank Black QueenSide = (refl, refl)

crossed_on_rank : (c : Colour) (w : Wing) (a b : ℕ) → a ≡ king_home c → b ≡ king_goal c w → rank_of (crossed a b) ≡ home_rank c
crossed_on_rank White KingSide a b e f = rw (e, f) refl
crossed_on_rank White QueenSide a b e f = rw (e, f) refl
crossed_on_rank Black KingSide a b e f = rw (e, f) refl
crossed_on_rank Black QueenSide a b e f = rw (e, f) refl

home_edge : (c : Colour) → (home_rank c ≡ 0) ⊎ (home_rank c ≡ 7)
home_edge White = inl refl
home_edge Black = inr refl

home_other : (c d : Colour) → (c ≡ d) ⊎ (home_rank c ≢ home_rank d)
home_other White White = inl refl
home_other White Black = inr (λ e. omega arith)
home_other Black White = inr (λ e. omega arith)
home_other Black Black = inl refl

-- What stands on a home square that the move does not touch stays there: the other side's castling happens on another rank,
-- and a pawn is captured en passant on neither.
stays_castling : (wing : Wing) (p : Setup) (colour : Colour) (kind : Kind) (m : Move) → IsCastling p colour kind m wing
    → (c : Colour) → king_home c ≢ m.origin →
    (s : ℕ) → rank_of s ≡ home_rank c → s ≢ m.origin → s ≢ m.target → man_at (men_after p (a_man colour kind) m) s ≡ man_at p.men s
stays_castling wing p colour kind m sh c unmoved s rank from to = elim (home_other c colour) [
  | inl same ↦ absurd (unmoved (ap king_home same ∙ sym sh.origin))
  | inr differ ↦
      let men' = moved p.men m.origin m.target (a_man colour kind) in
      let r = rook_home colour wing in let x = crossed m.origin m.target in
      let home = (homes_on_rank colour wing).1 in
      let over = crossed_on_rank colour wing m.origin m.target sh.origin sh.target in
      rw sh.men (moved_other men' r x (rook colour) s (λ e. differ (sym rank ∙ ap rank_of e ∙ home))
      (λ e. differ (sym rank ∙ ap rank_of e ∙ over)) ∙ moved_other p.men m.origin m.target (a_man colour kind) s from to)
]

stays : (p : Setup) (colour : Colour) (kind : Kind) (m : Move) → Shape p colour kind m → (c : Colour) → king_home c ≢ m.origin →
    (s : ℕ) → rank_of s ≡ home_rank c → s ≢ m.origin → s ≢ m.target → man_at (men_after p (a_man colour kind) m) s ≡ man_at p.men s
stays p colour kind m (inl sh) c unmoved s rank from to =
    rw sh.men (moved_other p.men m.origin m.target (becomes (a_man colour kind) m.promotion) s from to)
stays p colour kind m (inr (inl sh)) c unmoved s rank from to =
    let men' = moved p.men m.origin m.target (a_man colour kind) in let k = captured_pawn m.origin m.target in
    let low = sh.low in let high = sh.high in
    let away : s ≢ k = λ e. (let f : rank_of s ≡ rank_of k = ap rank_of e in elim (home_edge c) [ inl z ↦ omega arith | inr z ↦ omega arith ]) in
    rw sh.men (cleared_other men' k s away ∙ moved_other p.men m.origin m.target (a_man colour kind) s from to)
stays p colour kind m (inr (inr (inl sh))) c unmoved s rank from to = stays_castling KingSide p colour kind m sh c unmoved s rank from to
stays p colour kind m (inr (inr (inr sh))) c unmoved s rank from to = stays_castling QueenSide p colour kind m sh c unmoved s rank from to

untouched : (m : Move) (s : ℕ) → not (touches m s) ≡ true → (s ≢ m.origin) × (s ≢ m.target)
untouched m s h =
    let q = or_parts (eqb m.origin s) (eqb m.target s) (not-true (touches m s) h) in
    ((λ e. eqb-false m.origin s q.0 (sym e)), (λ e. eqb-false m.target s q.1 (sym e)))

right_is : (rights : Rights) (m : Move) (c : Colour) (w : Wing) → has_right_of (rights_after rights m) c w ≡ right_after rights m c w
right_is rights m White KingSide = refl
right_is rights m White QueenSide = refl
right_is rights m Black KingSide = refl
right_is rights m Black QueenSide = refl

-- A right that is left was there before, and the move touched neither home.
men_stay_home : (p : Setup) (colour : Colour) (kind : Kind) (m : Move) → IsSound p → Shape p colour kind m
    → (c : Colour) (w : Wing) → right_after p.rights m c w ≡ true →
    (is_king_of c (man_at (men_after p (a_man colour kind) m) (king_home c)) ≡ true)
    × (is_rook_of c (man_at (men_after p (a_man colour kind) m) (rook_home c w)) ≡ true)
men_stay_home p colour kind m sound sh c w left =
    let q = and_parts (has_right_of p.rights c w && not (touches m (king_home c))) (not (touches m (rook_home c w))) left in
    let r = and_parts (has_right_of p.rights c w) (not (touches m (king_home c))) q.0 in
    let king = untouched m (king_home c) r.1 in
    let castle = untouched m (rook_home c w) q.1 in
    let there = right_men p c w sound r.0 in
    let home = homes_on_rank c w in (
      ap (is_king_of c) (stays p colour kind m sh c king.0 (king_home c) home.0 king.0 king.1) ∙ there.0,
      ap (is_rook_of c) (stays p colour kind m sh c king.0 (rook_home c w) home.1 castle.0 castle.1) ∙ there.1,
    )

right_kept : (p : Setup) (colour : Colour) (kind : Kind) (m : Move) → IsSound p → Shape p colour kind m → (c : Colour) (w : Wing) →
    has_men_of_right (men_after p (a_man colour kind) m) (rights_after p.rights m) c w ≡ true
right_kept p colour kind m sound sh c w =
    let men' = men_after p (a_man colour kind) m in
    (elim (right_after p.rights m c w) as (λ b. right_after p.rights m c w ≡ b → has_men_of_right men' (rights_after p.rights m) c w ≡ true) [
      | false ↦ λ e. let r = right_is p.rights m c w ∙ e in rw r refl
      | true ↦ λ e.
          let r = right_is p.rights m c w ∙ e in
          let there = men_stay_home p colour kind m sound sh c w e in
          rw (r, there.0, there.1) refl
    ]) refl

pub rights_kept : (p : Setup) (colour : Colour) (kind : Kind) (m : Move) → IsSound p → Shape p colour kind m
    → has_men_of_rights (men_after p (a_man colour kind) m) (rights_after p.rights m) ≡ true
rights_kept p colour kind m sound sh =
    let a = right_kept p colour kind m sound sh White KingSide in
    let b = right_kept p colour kind m sound sh White QueenSide in
    let c = right_kept p colour kind m sound sh Black KingSide in
    let d = right_kept p colour kind m sound sh Black QueenSide in
    and_from _ _ (and_from _ _ (and_from _ _ a b) c) d

-- A move that touches no home square loses no right.
unhomed : (s : ℕ) → is_home s ≡ false
    → (eqb s 0 ≡ false) × (eqb s 4 ≡ false) × (eqb s 7 ≡ false) × (eqb s 56 ≡ false) × (eqb s 60 ≡ false) × (eqb s 63 ≡ false)
unhomed s away =
    let e = or_parts (eqb s 0 || eqb s 4 || eqb s 7 || eqb s 56 || eqb s 60) (eqb s 63) away in
    let d = or_parts (eqb s 0 || eqb s 4 || eqb s 7 || eqb s 56) (eqb s 60) e.0 in
    let c = or_parts (eqb s 0 || eqb s 4 || eqb s 7) (eqb s 56) d.0 in
    let b = or_parts (eqb s 0 || eqb s 4) (eqb s 7) c.0 in
    let a = or_parts (eqb s 0) (eqb s 4) b.0 in
    (a.0, a.1, b.1, c.1, d.1, e.1)

pub rights_kept_away : (rights : Rights) (m : Move) → (is_home m.origin || is_home m.target) ≡ false → rights ≡ rights_after rights m
rights_kept_away rights m away =
    let far = or_parts (is_home m.origin) (is_home m.target) away in
    let a = unhomed m.origin far.0 in
    let b = unhomed m.target far.1 in
    rw (a.0, a.1, a.2, a.3, a.4, a.5, b.0, b.1, b.2, b.3, b.4, b.5)
    (λ i. record {
      white_king_side = and_two rights.white_king_side i;
      white_queen_side = and_two rights.white_queen_side i;
      black_king_side = and_two rights.black_king_side i;
      black_queen_side = and_two rights.black_queen_side i;
    })
  where
    and_two : (x : Bool) → x ≡ (x && true && true)
    and_two true = refl
    and_two false = refl
