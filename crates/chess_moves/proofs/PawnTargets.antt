-- Where a pawn goes safely: in a plain way, or en passant.
use Rattle.std.proofs.Common.{◌≡◌, ◌≢◌, ℕ, ◌<◌, Bool, true, false, not, ◌&&◌, ◌||◌, is_some, eqb, List}
use Rattle.std.proofs.Common.{length, Option, Some, None, refl, sym, ap, ◌∙◌, inl, inr, length-set}
use Rattle.std.proofs.lemmas.Bool.{and_parts, or_cases, eqb-true}
use Rattle.std.proofs.Math.Bool.{or-false, and-false}
use Rattle.square_sets.specs.Members.{has}
use Rattle.chess_board.specs.declared.men.Colour.{Colour}
use Rattle.chess_board.specs.declared.men.Kind.{Kind}
use Rattle.chess_board.specs.declared.men.Kind.TheVariants.{Pawn}
use Rattle.chess_board.specs.declared.men.Man.{Man}
use Rattle.chess_board.specs.Squares.{file_of, rank_of, crossed}
use Rattle.chess_board.specs.Men.{other_side, is_of}
use Rattle.chess_board.specs.inside.KindTests.{is_pawn_kind, is_king_kind}
use Rattle.chess_board.specs.Positions.{Setup, man_at, is_empty, moved, cleared}
use Rattle.chess_board.specs.Attacks.{is_forward, attacks_as, is_in_check}
use Rattle.chess_board.specs.PseudoLegal.{second_rank, steps_once, steps_twice, takes, goes, suits}
use Rattle.chess_board.specs.MakeMove.{becomes, men_after}
use Rattle.chess_board.specs.EnPassant.{is_square, takes_en_passant, captured_pawn}
use Rattle.chess_moves.specs.declared.legality_info.LegalityInfo.{LegalityInfo}
use Rattle.chess_moves.specs.inside.Hits.{is_hit}
use Rattle.chess_moves.specs.inside.Listing.{move_of}
use Rattle.chess_moves.specs.inside.LegalityInfo.{IsLegalityInfoOf}
use Rattle.chess_moves.proofs.OwnColours.{other_colour, other_not_own}
use Rattle.chess_moves.proofs.MovedKings.{in_check_there, king_kept}
use Rattle.chess_moves.proofs.Connectives.{and_when}
use Rattle.chess_moves.proofs.KeptWays.{goes_safely}
use Rattle.chess_moves.proofs.OtherMen.{becomes_no_king, in_check_beside, king_beside}
use Rattle.chess_moves.proofs.CapturedPawns.{beyond, passed_over, plain_ways, no_plain_way, captured_is_beyond}

empty_is_free : (c : Colour) (men : List (Option Man)) (t : ℕ) → is_empty men t ≡ true → is_of c (man_at men t) ≡ false
empty_is_free c men t h = (elim (man_at men t) as (λ place. not (is_some place) ≡ true
    → is_of c place ≡ false) [ None ↦ λ e. refl | Some man ↦ λ e. cc ]) h

plain_is_free : (men : List (Option Man)) (c : Colour) (o t : ℕ) → plain_ways men c o t ≡ true → is_of c (man_at men t) ≡ false
plain_is_free men c o t h = elim (or_cases (steps_once men c o t || steps_twice men c o t) (takes men c Pawn o t) h) [
  | inr g ↦ other_not_own c (man_at men t) ((and_parts (attacks_as men c Pawn o t) (is_of (other_side c) (man_at men t)) g).1)
  | inl g ↦ elim (or_cases (steps_once men c o t) (steps_twice men c o t) g) [
    | inl s ↦ empty_is_free c men t ((and_parts (is_forward c 1 o t && eqb (file_of o) (file_of t)) (is_empty men t) s).1)
    | inr s ↦ empty_is_free c men t ((and_parts (is_forward c 2 o t && eqb (file_of o) (file_of t)
        && eqb (rank_of o) (second_rank c) && is_empty men (crossed o t)) (is_empty men t) s).1)
  ]
]

goes_as_pawn : (p : Setup) (c : Colour) (k : Kind) (o t : ℕ) → k ≡ Pawn → goes p c k o t ≡ (plain_ways p.men c o t || takes_en_passant p c o t)
goes_as_pawn p c k o t pawn = rw pawn refl

men_after_en_passant : (p : Setup) (man : Man) (o t : ℕ) (r : Option Kind) → is_pawn_kind man.kind ≡ true → is_square p.target t ≡ true
    → men_after p man (move_of o t r) ≡ cleared (moved p.men o t man) (captured_pawn o t)
men_after_en_passant p man o t r pawn here = rw (pawn, here) refl

men_after_plain : (p : Setup) (man : Man) (o t : ℕ) (r : Option Kind) → is_pawn_kind man.kind ≡ true
    → is_king_kind man.kind ≡ false → is_square p.target t ≡ false
    → men_after p man (move_of o t r) ≡ moved p.men o t (becomes man r)
men_after_plain p man o t r pawn no_king elsewhere = rw (pawn, no_king, elsewhere) refl

-- A pawn goes safely where it goes in a plain way, or en passant, and its king is not attacked then.
pub pawn_goes_safely : (info : LegalityInfo) (p : Setup) (man : Man) (o t : ℕ) (r : Option Kind) (safe : Bool)
    → IsLegalityInfoOf info p → man_at p.men o ≡ Some man → man.colour ≡ p.side
    → man.kind ≡ Pawn → suits man t r ≡ true → safe ≡ not (is_hit (moved p.men o t (becomes man r)) info.king (other_side p.side))
    → goes_safely p man o t r ≡ (plain_ways p.men man.colour o t && safe
    || (takes_en_passant p man.colour o t && not (is_in_check (cleared (moved p.men o t man) (captured_pawn o t)) p.side)))
pawn_goes_safely info p man o t r safe h there own pawn suited safe_is =
    let c = man.colour in
    let plain = plain_ways p.men c o t in
    let attack = attacks_as p.men c Pawn o t in
    let is_pawn : is_pawn_kind man.kind ≡ true = rw pawn refl in
    let no_king : is_king_kind man.kind ≡ false = rw pawn refl in
    let goes_is = goes_as_pawn p c man.kind o t pawn in
    (elim (is_square p.target t) as (λ b. is_square p.target t ≡ b → goes_safely p man o t r ≡ (plain && safe
    || (takes_en_passant p c o t && not (is_in_check (cleared (moved p.men o t man) (captured_pawn o t)) p.side)))) [
      | true ↦ λ e.
          let none = no_plain_way p.men c o t man there refl (rw (← own) at (passed_over p t h.sound e)) in
          let men_are = men_after_en_passant p man o t r is_pawn e in
          rw (goes_is, men_are, none) refl
      | false ↦ λ e.
          let men_are = men_after_plain p man o t r is_pawn no_king e in
          rw (goes_is, men_are, e, and-false attack, or-false plain, or-false (plain && safe))
          (and_when plain (not (is_in_check (moved p.men o t (becomes man r)) p.side)) safe (λ gone.
          let free = rw own at (plain_is_free p.men c o t gone) in
          ap not (in_check_beside info p man (becomes man r) o t h there no_king free (becomes_no_king man t r no_king suited)) ∙ sym safe_is))
    ]) refl

-- En passant the king keeps its square: an enemy pawn stands where one is taken away.
in_check_en_passant : (info : LegalityInfo) (p : Setup) (man : Man) (o t : ℕ) → IsLegalityInfoOf info p
    → man_at p.men o ≡ Some man → man.colour ≡ p.side → man.kind ≡ Pawn
    → takes_en_passant p man.colour o t ≡ true
    → is_in_check (cleared (moved p.men o t man) (captured_pawn o t)) p.side
    ≡ is_hit (cleared (moved p.men o t man) (captured_pawn o t)) info.king (other_side p.side)
in_check_en_passant info p man o t h there own pawn goes =
    let q = and_parts (attacks_as p.men man.colour Pawn o t) (is_square p.target t) goes in
    let over = passed_over p t h.sound q.1 in
    let no_king : is_king_kind man.kind ≡ false = rw pawn refl in
    let free : is_of p.side (man_at p.men t) ≡ false = (let empty = over.empty in rw empty refl) in
    let at : captured_pawn o t ≡ beyond p.side t = captured_is_beyond p.men p.side o t (rw own at q.0) in
    let long : length (moved p.men o t man) ≡ 64 = length-set (cleared p.men o) t (Some man) ∙ length-set p.men o None ∙ h.sound.squares in
    let apart : info.king ≢ captured_pawn o t = λ e.
    let taken = rw (← at, ← e, h.king, other_colour p.side p.side refl) at over.pawn in cc in
    in_check_there (cleared (moved p.men o t man) (captured_pawn o t)) p.side info.king
    (king_kept (moved p.men o t man) p.side info.king (captured_pawn o t) long (king_beside info p man man o t h there no_king free no_king) apart)

-- Of the set of captures en passant, which is one square at most, the safe ones are all or none.
pub en_passant_goes_safely : (info : LegalityInfo) (p : Setup) (man : Man) (o set target : ℕ) (safe : Bool)
    → IsLegalityInfoOf info p → man_at p.men o ≡ Some man → man.colour ≡ p.side
    → man.kind ≡ Pawn → ((t : ℕ) → t < 64 → has set t ≡ takes_en_passant p man.colour o t) → target < 64 → has set target ≡ true
    → safe ≡ not (is_hit (cleared (moved p.men o target man) (captured_pawn o target)) info.king (other_side p.side)) → (t : ℕ) → t < 64
    → (has set t && safe) ≡ (takes_en_passant p man.colour o t && not (is_in_check (cleared (moved p.men o t man) (captured_pawn o t)) p.side))
en_passant_goes_safely info p man o set target safe h there own pawn set_is target_on first safe_is t on =
    rw (set_is t on) (and_when (takes_en_passant p man.colour o t) safe
    (not (is_in_check (cleared (moved p.men o t man) (captured_pawn o t)) p.side)) (λ gone.
    let same : target ≡ t = only_target p man.colour o target t (sym (set_is target target_on) ∙ first) gone in
    rw same at safe_is ∙ ap not (sym (in_check_en_passant info p man o t h there own pawn gone))))
  where
    square_same : (target : Option ℕ) (a b : ℕ) → is_square target a ≡ true → is_square target b ≡ true → a ≡ b
    square_same None a b h g = cc
    square_same (Some s) a b h g = sym (eqb-true s a h) ∙ eqb-true s b g

    only_target : (p : Setup) (c : Colour) (o a b : ℕ) → takes_en_passant p c o a ≡ true → takes_en_passant p c o b ≡ true → a ≡ b
    only_target p c o a b h g = square_same p.target a b ((and_parts (attacks_as p.men c Pawn o a) (is_square p.target a) h).1)
        ((and_parts (attacks_as p.men c Pawn o b) (is_square p.target b) g).1)
