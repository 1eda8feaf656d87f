-- After a move each side still has one king, and no side has gained a man.
use Rattle.std.proofs.Common.{◌≡◌, ◌≢◌, ℕ, ◌+◌, ◌<◌, ◌≤◌, Bool, true, false, cond, ◌&&◌, length}
use Rattle.std.proofs.Common.{Option, Some, None, refl, sym, ap, ◌∙◌, inl, inr, arith, count_by}
use Rattle.std.proofs.lemmas.Bool.{and_parts}
use Rattle.chess_board.specs.declared.men.Colour.{Colour}
use Rattle.chess_board.specs.declared.men.Colour.TheVariants.{White, Black}
use Rattle.chess_board.specs.declared.men.Kind.{Kind}
use Rattle.chess_board.specs.declared.men.Kind.TheVariants.{Pawn, Knight, Bishop, Rook, Queen, King}
use Rattle.chess_board.specs.declared.men.Wing.{Wing}
use Rattle.chess_board.specs.declared.men.Wing.TheVariants.{KingSide, QueenSide}
use Rattle.chess_board.specs.declared.men.Man.{Man}
use Rattle.chess_board.specs.Moves.{Move}
use Rattle.chess_board.specs.Positions.{Setup, man_at, moved}
use Rattle.chess_board.specs.Men.{other_side, is_colour, is_of, is_kind, man_of}
use Rattle.chess_board.specs.inside.KindTests.{is_king_of, is_rook_of, is_pawn_of, is_pawn_kind}
use Rattle.chess_board.specs.Soundness.{HasOneKingEach, HasAtMostSixteenEach}
use Rattle.chess_board.specs.PseudoLegal.{is_promotion, promotes, suits}
use Rattle.chess_board.specs.MakeMove.{becomes, men_after}
use Rattle.chess_board.specs.Castling.{king_home, rook_home, king_goal, rook}
use Rattle.chess_board.specs.Squares.{crossed}
use Rattle.chess_board.specs.EnPassant.{captured_pawn}
use Rattle.chess_board.proofs.Colours.{colour_same}
use Rattle.chess_board.proofs.MenMoved.{length-moved, length-cleared, moved_other, count_by-cleared, count_by-went}
use Rattle.chess_board.proofs.Movers.{a_man, Mover, IsPlain, IsPassing, IsCastling, Shape, own_apart, empty_apart}

-- The squares stay 64.
pub long_after : (p : Setup) (colour : Colour) (kind : Kind) (m : Move) → Mover p colour kind m → Shape p colour kind m
    → length (men_after p (a_man colour kind) m) ≡ 64
long_after p colour _ m h (inl s) = ap length s.men ∙ length-moved p.men m.origin m.target _ ∙ h.sound.squares
long_after p colour _ m h (inr (inl s)) = ap length s.men ∙ length-cleared _ _ ∙ length-moved p.men m.origin m.target _ ∙ h.sound.squares
long_after p colour _ m h (inr (inr (inl s))) = ap length s.men ∙ length-moved _ _ _ _ ∙ length-moved p.men m.origin m.target _ ∙ h.sound.squares
long_after p colour _ m h (inr (inr (inr s))) = ap length s.men ∙ length-moved _ _ _ _ ∙ length-moved p.men m.origin m.target _ ∙ h.sound.squares

-- The king's squares and the rook's are four.
pub castling_apart : (colour : Colour) (wing : Wing) (a b : ℕ) → a ≡ king_home colour → b ≡ king_goal colour wing →
    (rook_home colour wing < 64) × (crossed a b < 64) × (rook_home colour wing ≢ a) × (rook_home colour wing ≢ b)
    × (crossed a b ≢ a) × (crossed a b ≢ b) × (crossed a b ≢ rook_home colour wing)
castling_apart White KingSide a b e f = (
  omega arith,
  omega arith,
  (λ x. omega arith),
  (λ x. omega arith),
  (λ x. omega arith),
  (λ x. omega arith),
  (λ x. omega arith),
)
castling_apart White QueenSide a b e f = (
  omega arith,
  omega arith,
  (λ x. omega arith),
  (λ x. omega arith),
  (λ x. omega arith),
  (λ x. omega arith),
  (λ x. omega arith),
)
castling_apart Black KingSide a b e f = (
  omega arith,
  omega arith,
  (λ x. omega arith),
  (λ x. omega arith),
  (λ x. omega arith),
  (λ x. omega arith),
  (λ x. omega arith),
)
castling_apart Black QueenSide a b e f = (
  omega arith,
  omega arith,
  (λ x. omega arith),
  (λ x. omega arith),
  (λ x. omega arith),
  (λ x. omega arith),
  (λ x. omega arith),
)

rook_reads : (colour : Colour) (place : Option Man) → is_rook_of colour place ≡ true → place ≡ Some (rook colour)
rook_reads colour None h = cc
rook_reads colour (Some man) h =
    let q = and_parts (is_colour colour man.colour) (is_kind Rook man.kind) h in
    let same = colour_same colour man.colour q.0 in
    let k = rook_kind man.kind q.1 in
    ap (λ (x : Man). Some x) (λ i. record { colour = sym same i; kind = k i })
  where
    rook_kind : (k : Kind) → is_kind Rook k ≡ true → k ≡ Rook
    rook_kind Pawn h = cc
    rook_kind Knight h = cc
    rook_kind Bishop h = cc
    rook_kind Rook h = refl
    rook_kind Queen h = cc
    rook_kind King h = cc

-- No king is captured.
no_king : (colour : Colour) (place : Option Man) → is_of colour place ≡ false → is_king_of (other_side colour) place ≡ false
    → (c : Colour) → is_king_of c place ≡ false
no_king colour None own other c = refl
no_king White (Some man) own other White = rw own refl
no_king White (Some man) own other Black = other
no_king Black (Some man) own other White = other
no_king Black (Some man) own other Black = rw own refl

pawn_no_king : (colour c : Colour) (place : Option Man) → is_pawn_of colour place ≡ true → is_king_of c place ≡ false
pawn_no_king colour c None h = cc
pawn_no_king colour c (Some man) h =
    let q = and_parts (is_colour colour man.colour) (is_pawn_kind man.kind) h in
    kind_no_king c man.colour man.kind q.1
  where
    flat : (b : Bool) → (b && false) ≡ false
    flat true = refl
    flat false = refl

    kind_no_king : (c d : Colour) (k : Kind) → is_pawn_kind k ≡ true → is_king_of c (man_of d k) ≡ false
    kind_no_king c d Pawn h = flat (is_colour c d)
    kind_no_king c d Knight h = cc
    kind_no_king c d Bishop h = cc
    kind_no_king c d Rook h = cc
    kind_no_king c d Queen h = cc
    kind_no_king c d King h = cc

-- A man that has moved counts as before: a pawn becomes no king, and each man keeps its colour.
pub promoted_kind : (colour : Colour) (kind : Kind) (b : ℕ) (k : Kind) → suits (a_man colour kind) b (Some k) ≡ true
    → (kind ≡ Pawn) × (is_promotion k ≡ true)
promoted_kind colour Pawn b k h = let q = and_parts (promotes (a_man colour Pawn) b) (is_promotion k) h in (refl, q.1)
promoted_kind colour Knight b k h = cc
promoted_kind colour Bishop b k h = cc
promoted_kind colour Rook b k h = cc
promoted_kind colour Queen b k h = cc
promoted_kind colour King b k h = cc

promoted_no_king : (c colour : Colour) (k : Kind) → is_promotion k ≡ true → is_king_of c (man_of colour k) ≡ is_king_of c (man_of colour Pawn)
promoted_no_king c colour Pawn h = cc
promoted_no_king c colour Knight h = refl
promoted_no_king c colour Bishop h = refl
promoted_no_king c colour Rook h = refl
promoted_no_king c colour Queen h = refl
promoted_no_king c colour King h = cc

becomes_king : (c colour : Colour) (kind : Kind) (b : ℕ) (o : Option Kind) → suits (a_man colour kind) b o ≡ true
    → is_king_of c (Some (becomes (a_man colour kind) o)) ≡ is_king_of c (Some (a_man colour kind))
becomes_king c colour old b None h = refl
becomes_king c colour old b (Some k) h = let q = promoted_kind colour old b k h in rw q.0 (promoted_no_king c colour k q.1)

becomes_of : (c : Colour) (man : Man) (o : Option Kind) → is_of c (Some (becomes man o)) ≡ is_of c (Some man)
becomes_of c man None = refl
becomes_of c man (Some k) = refl

-- What a move captures, or none: no king stood there, and each count that takes the man that went for what it was loses this place.
record Loss (p : Setup) (colour : Colour) (kind : Kind) (m : Move) : Type 0 where
  place : Option Man
  no_king : (c : Colour) → is_king_of c place ≡ false
  counts : (f : Option Man → Bool) → f None ≡ false → f (Some (becomes (a_man colour kind) m.promotion)) ≡ f (Some (a_man colour kind)) →
      count_by f (men_after p (a_man colour kind) m) + cond (f place) 1 0 ≡ count_by f p.men

plain_loss : (p : Setup) (colour : Colour) (kind : Kind) (m : Move) → Mover p colour kind m → IsPlain p colour kind m → Loss p colour kind m
plain_loss p colour kind m h s =
    let long = h.sound.squares in let a_on = h.a_on in let b_on = h.b_on in
    record {
      place = man_at p.men m.target;
      no_king = no_king colour (man_at p.men m.target) s.not_own s.not_king;
      counts = λ f none same. rw s.men (count_by-went f p.men m.origin m.target (a_man colour kind)
          (becomes (a_man colour kind) m.promotion) none (omega arith) (omega arith)
          (own_apart p.men colour kind m.origin m.target h.there s.not_own) h.there same);
    }

-- the mover goes to an empty square and stays what it is
went_to_empty : (f : Option Man → Bool) (p : Setup) (colour : Colour) (kind : Kind) (m : Move) → Mover p colour kind m
    → man_at p.men m.target ≡ None → f None ≡ false →
    count_by f (moved p.men m.origin m.target (a_man colour kind)) ≡ count_by f p.men
went_to_empty f p colour kind m h empty none =
    let long = h.sound.squares in let a_on = h.a_on in let b_on = h.b_on in
    let e = rw (empty, none) at (count_by-went f p.men m.origin m.target (a_man colour kind) (a_man colour kind) none (omega arith) (omega arith)
    (empty_apart p.men colour kind m.origin m.target h.there empty) h.there refl) in omega (arith, e)

en_passant_loss : (p : Setup) (colour : Colour) (kind : Kind) (m : Move) → Mover p colour kind m → IsPassing p colour kind m → Loss p colour kind m
en_passant_loss p colour kind m h s =
    let long = h.sound.squares in let high = s.high in
    let men' = moved p.men m.origin m.target (a_man colour kind) in
    let k = captured_pawn m.origin m.target in
    let long' : length men' ≡ length p.men = length-moved p.men m.origin m.target (a_man colour kind) in
    let still : man_at men' k ≡ man_at p.men k = moved_other p.men m.origin m.target (a_man colour kind) k s.not_origin s.not_target in
    record {
      place = man_at p.men k;
      no_king = λ c. pawn_no_king (other_side colour) c (man_at p.men k) s.passed;
      counts = λ f none same.
          (let went : count_by f men' ≡ count_by f p.men = went_to_empty f p colour kind m h s.empty none in
          let taken = rw still at (count_by-cleared f men' k none (omega arith)) in
          rw s.men (taken ∙ went));
    }

castling_loss : (wing : Wing) (p : Setup) (colour : Colour) (kind : Kind) (m : Move) → Mover p colour kind m
    → IsCastling p colour kind m wing → Loss p colour kind m
castling_loss wing p colour kind m h s =
    let long = h.sound.squares in
    let men' = moved p.men m.origin m.target (a_man colour kind) in
    let r = rook_home colour wing in let x = crossed m.origin m.target in
    let far = castling_apart colour wing m.origin m.target s.origin s.target in
    let r_on = far.0 in let x_on = far.1 in
    let long' : length men' ≡ length p.men = length-moved p.men m.origin m.target (a_man colour kind) in
    let r_still : man_at men' r ≡ man_at p.men r = moved_other p.men m.origin m.target (a_man colour kind) r far.2 far.3 in
    let x_still : man_at men' x ≡ man_at p.men x = moved_other p.men m.origin m.target (a_man colour kind) x far.4 far.5 in
    let rook_is : man_at men' r ≡ Some (rook colour) = r_still ∙ rook_reads colour (man_at p.men r) s.rook_there in
    record {
      place = man_at p.men x;
      no_king = λ c. rw s.crossed_empty refl;
      counts = λ f none same.
          (let went : count_by f men' ≡ count_by f p.men = went_to_empty f p colour kind m h s.empty none in
          let rook_went = rw x_still at (count_by-went f men' r x (rook colour) (rook colour) none (omega arith) (omega arith) far.6 rook_is refl) in
          rw s.men (rook_went ∙ went));
    }

loss_of : (p : Setup) (colour : Colour) (kind : Kind) (m : Move) → Mover p colour kind m → Shape p colour kind m → Loss p colour kind m
loss_of p colour kind m h (inl s) = plain_loss p colour kind m h s
loss_of p colour kind m h (inr (inl s)) = en_passant_loss p colour kind m h s
loss_of p colour kind m h (inr (inr (inl s))) = castling_loss KingSide p colour kind m h s
loss_of p colour kind m h (inr (inr (inr s))) = castling_loss QueenSide p colour kind m h s

king_count : (c : Colour) (p : Setup) (colour : Colour) (kind : Kind) (m : Move) → Mover p colour kind m → Loss p colour kind m →
    count_by (is_king_of c) (men_after p (a_man colour kind) m) ≡ count_by (is_king_of c) p.men
king_count c p colour kind m h l =
    let e = rw (l.no_king c) at (l.counts (is_king_of c) refl (becomes_king c colour kind m.target m.promotion h.suit)) in omega (arith, e)

man_count : (c : Colour) (p : Setup) (colour : Colour) (kind : Kind) (m : Move) → Loss p colour kind m →
    count_by (is_of c) (men_after p (a_man colour kind) m) ≤ count_by (is_of c) p.men
man_count c p colour kind m l = let e = l.counts (is_of c) refl (becomes_of c (a_man colour kind) m.promotion) in omega (arith, e)

pub kings_after : (p : Setup) (colour : Colour) (kind : Kind) (m : Move) → Mover p colour kind m → Shape p colour kind m
    → HasOneKingEach (men_after p (a_man colour kind) m)
kings_after p colour kind m h s =
    let l = loss_of p colour kind m h s in
    (king_count White p colour kind m h l ∙ h.sound.kings.0, king_count Black p colour kind m h l ∙ h.sound.kings.1)

pub few_after : (p : Setup) (colour : Colour) (kind : Kind) (m : Move) → Mover p colour kind m → Shape p colour kind m
    → HasAtMostSixteenEach (men_after p (a_man colour kind) m)
few_after p colour kind m h s =
    let l = loss_of p colour kind m h s in
    let white = man_count White p colour kind m l in let black = man_count Black p colour kind m l in
    let few_white = h.sound.few.0 in let few_black = h.sound.few.1 in (omega arith, omega arith)
