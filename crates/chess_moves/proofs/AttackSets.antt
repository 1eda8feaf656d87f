-- The squares of a colour's men that attack a square, by sets.
use Rattle.std.proofs.Common.{◌≡◌, ℕ, ◌^◌, ◌<◌, Bool, true, false, not, ◌&&◌, ◌||◌, List, Option, None, Some, is_some, refl, ap, ◌∙◌, w64}
use Rattle.std.specs.Int.{bit_not}
use Rattle.std.specs.Int.RustNames.{bit_and, bit_or}
use Rattle.square_sets.specs.Members.{has}
use Rattle.chess_board.specs.declared.men.Colour.{Colour}
use Rattle.chess_board.specs.declared.men.Kind.{Kind}
use Rattle.chess_board.specs.declared.men.Kind.TheVariants.{Pawn, Knight, Bishop, Rook, Queen, King}
use Rattle.chess_board.specs.declared.men.Man.{Man}
use Rattle.chess_board.specs.Men.{is_colour}
use Rattle.chess_board.specs.inside.KindTests.{is_pawn_kind, is_king_kind}
use Rattle.chess_board.specs.Positions.{man_at}
use Rattle.chess_board.specs.Sets.{IsSetOf}
use Rattle.chess_moves.specs.declared.directions.Direction.{Direction}
use Rattle.chess_moves.specs.declared.directions.Direction.TheVariants.{North, NorthEast, East, SouthEast, South, SouthWest, West, NorthWest}
use Rattle.chess_moves.specs.declared.directions.Leap.TheVariants.{KnightLeap, KingStep}
use Rattle.chess_moves.specs.declared.side_men.SideMen.{SideMen}
use Rattle.chess_moves.specs.inside.Directions.{toward, opposite, reaches, reaches_as_bishop, reaches_as_rook}
use Rattle.chess_moves.specs.inside.Leaps.{leaps, capture_of, capture_back}
use Rattle.chess_moves.specs.inside.Hits.{is_taken, hits_as, place_hits, hits_from}
use Rattle.chess_moves.specs.inside.SideMen.{is_knight_kind, StandFor, is_one, is_diagonal_kind, is_straight_kind}
use Rattle.chess_moves.proofs.SetBits.{has_or, has_less}
use Rattle.chess_moves.proofs.SetParts.{part}
use Rattle.chess_moves.proofs.AnyLemmas.{any_same}
use Rattle.chess_moves.proofs.Geometry.{toward_back, knight_back, king_back, capture_mirrored}
use Rattle.chess_moves.proofs.Slides.{blocked_back}

-- the squares of four sets together, of five, and of eight
pub four : (a b c d t : ℕ) (p q r s : Bool) → has a t ≡ p → has b t ≡ q → has c t ≡ r → has d t ≡ s
    → has (bit_or (bit_or (bit_or a b) c) d) t ≡ (p || q || r || s)
four a b c d t p q r s ea eb ec ed = rw (has_or (bit_or (bit_or a b) c) d t, has_or (bit_or a b) c t, has_or a b t, ea, eb, ec, ed)

pub five : (a b c d e t : ℕ) (p q r s u : Bool) → has a t ≡ p → has b t ≡ q → has c t ≡ r → has d t ≡ s → has e t ≡ u
    → has (bit_or (bit_or (bit_or (bit_or a b) c) d) e) t ≡ (p || q || r || s || u)
five a b c d e t p q r s u ea eb ec ed ee =
    rw (has_or (bit_or (bit_or (bit_or a b) c) d) e t, ee) (ap (λ (x : Bool). x || u) (four a b c d t p q r s ea eb ec ed))

pub eight : (a b c d e f g h t : ℕ) (p q r s u v w x : Bool) → has a t ≡ p → has b t ≡ q → has c t ≡ r → has d t ≡ s
    → has e t ≡ u → has f t ≡ v → has g t ≡ w → has h t ≡ x
    → has (bit_or (bit_or (bit_or (bit_or (bit_or (bit_or (bit_or a b) c) d) e) f) g) h) t ≡ (p || q || r || s || u || v || w || x)
eight a b c d e f g h t p q r s u v w x ea eb ec ed ee ef eg eh =
    let first : ℕ = bit_or (bit_or (bit_or a b) c) d in
    rw (
      has_or (bit_or (bit_or (bit_or first e) f) g) h t,
      has_or (bit_or (bit_or first e) f) g t,
      has_or (bit_or first e) f t,
      has_or first e t,
      ee,
      ef,
      eg,
      eh,
    )
    (ap (λ (y : Bool). y || u || v || w || x) (four a b c d t p q r s ea eb ec ed))

-- what lies on four rays and is not hidden on one of them
pub open_four : (lines a b c d t : ℕ) (p q r s u v w x : Bool) → bit_or (bit_or (bit_or a b) c) d < 2 ^ 64 → t < 64
    → has lines t ≡ (p || q || r || s) → has a t ≡ (p && u) → has b t ≡ (q && v) → has c t ≡ (r && w) → has d t ≡ (s && x)
    → (p ≡ true → q ≡ true → ⊥) → (p ≡ true → r ≡ true → ⊥) → (p ≡ true → s ≡ true → ⊥) → (q ≡ true → r ≡ true → ⊥)
    → (q ≡ true → s ≡ true → ⊥) → (r ≡ true → s ≡ true → ⊥)
    → has (bit_and lines (bit_not w64 (bit_or (bit_or (bit_or a b) c) d))) t ≡ (p && not u || q && not v || r && not w || s && not x)
open_four lines a b c d t p q r s u v w x fits l on ea eb ec ed pq pr ps qr qs rs =
    has_less lines (bit_or (bit_or (bit_or a b) c) d) t fits l
    ∙ ap (λ (y : Bool). y && not (has (bit_or (bit_or (bit_or a b) c) d) t)) on
    ∙ ap (λ (y : Bool). (p || q || r || s) && not y) (four a b c d t (p && u) (q && v) (r && w) (s && x) ea eb ec ed)
    ∙ one_ray p q r s u v w x pq pr ps qr qs rs
  where
    alone : (y : Bool) → (not (y || false || false || false)) ≡ (not y || false || false || false)
    alone true = refl
    alone false = refl

    second : (y : Bool) → (not (y || false || false)) ≡ (not y || false || false)
    second true = refl
    second false = refl

    third : (y : Bool) → (not (y || false)) ≡ (not y || false)
    third true = refl
    third false = refl

    one_ray : (p q r s u v w x : Bool)
        → (p ≡ true → q ≡ true → ⊥) → (p ≡ true → r ≡ true → ⊥) → (p ≡ true → s ≡ true → ⊥) → (q ≡ true → r ≡ true → ⊥)
        → (q ≡ true → s ≡ true → ⊥) → (r ≡ true → s ≡ true → ⊥)
        → ((p || q || r || s) && not ((p && u) || (q && v) || (r && w) || (s && x))) ≡ (p && not u || q && not v || r && not w || s && not x)
    one_ray true true r s u v w x pq pr ps qr qs rs = absurd (pq refl refl)
    one_ray true false true s u v w x pq pr ps qr qs rs = absurd (pr refl refl)
    one_ray true false false true u v w x pq pr ps qr qs rs = absurd (ps refl refl)
    one_ray true false false false u v w x pq pr ps qr qs rs = alone u
    one_ray false true true s u v w x pq pr ps qr qs rs = absurd (qr refl refl)
    one_ray false true false true u v w x pq pr ps qr qs rs = absurd (qs refl refl)
    one_ray false true false false u v w x pq pr ps qr qs rs = second v
    one_ray false false true true u v w x pq pr ps qr qs rs = absurd (rs refl refl)
    one_ray false false true false u v w x pq pr ps qr qs rs = third w
    one_ray false false false true u v w x pq pr ps qr qs rs = refl
    one_ray false false false false u v w x pq pr ps qr qs rs = refl

-- what lies in a direction from a, and in the opposite one from b
pub along : (d : Direction) (a b t x y : ℕ) → has x t ≡ toward d a t → has y t ≡ toward (opposite d) b t
    → has (bit_and x y) t ≡ (toward d a t && toward d t b)
along d a b t x y ex ey = part x y t (toward d a t) (toward d t b) ex (ey ∙ toward_back d t b)

-- a line is open both ways
pub reaches_back : (taken : ℕ → Bool) (d : Direction) (a b : ℕ) → reaches taken (opposite d) b a ≡ reaches taken d a b
reaches_back taken d a b = rw (toward_back d a b, blocked_back taken d a b)

-- four tests in another order
turned : (p q r s : Bool) → (r || s || p || q) ≡ (p || q || r || s)
turned true true true s = refl
turned true true false true = refl
turned true true false false = refl
turned true false true s = refl
turned true false false true = refl
turned true false false false = refl
turned false true true s = refl
turned false true false true = refl
turned false true false false = refl
turned false false true s = refl
turned false false false true = refl
turned false false false false = refl

-- what a bishop and what a rook sees, seen back
pub slants_back : (taken : ℕ → Bool) (a b : ℕ) → reaches_as_bishop taken b a ≡ reaches_as_bishop taken a b
unfolding reaches_as_bishop
slants_back taken a b = rw (
  reaches_back taken SouthWest a b,
  reaches_back taken NorthWest a b,
  reaches_back taken NorthEast a b,
  reaches_back taken SouthEast a b,
)
    (turned (reaches taken NorthEast a b) (reaches taken SouthEast a b) (reaches taken SouthWest a b) (reaches taken NorthWest a b))

pub straight_back : (taken : ℕ → Bool) (a b : ℕ) → reaches_as_rook taken b a ≡ reaches_as_rook taken a b
unfolding reaches_as_rook
straight_back taken a b = rw (reaches_back taken South a b, reaches_back taken West a b, reaches_back taken North a b, reaches_back taken East a b)
    (turned (reaches taken North a b) (reaches taken East a b) (reaches taken South a b) (reaches taken West a b))

-- what is reached depends on the squares of the board alone
pub reaches_same : (p q : ℕ → Bool) → ((s : ℕ) → s < 64 → p s ≡ q s) → (d : Direction) (a b : ℕ) → reaches p d a b ≡ reaches q d a b
reaches_same p q h d a b = ap (λ (x : Bool). toward d a b && not x)
    (any_same (λ s. toward d a s && toward d s b && p s) (λ s. toward d a s && toward d s b && q s) 64
    (λ s l. ap (λ (x : Bool). toward d a s && toward d s b && x) (h s l)))

pub slants_same : (p q : ℕ → Bool) → ((s : ℕ) → s < 64 → p s ≡ q s) → (a b : ℕ) → reaches_as_bishop p a b ≡ reaches_as_bishop q a b
unfolding reaches_as_bishop
slants_same p q h a b = rw (
  reaches_same p q h NorthEast a b,
  reaches_same p q h SouthEast a b,
  reaches_same p q h SouthWest a b,
  reaches_same p q h NorthWest a b,
)

pub straight_same : (p q : ℕ → Bool) → ((s : ℕ) → s < 64 → p s ≡ q s) → (a b : ℕ) → reaches_as_rook p a b ≡ reaches_as_rook q a b
unfolding reaches_as_rook
straight_same p q h a b = rw (reaches_same p q h North a b, reaches_same p q h East a b, reaches_same p q h South a b, reaches_same p q h West a b)

-- what a man of a kind attacks, by what pawns, knights, bishops, rooks and kings do
by_kind : Kind → Bool → Bool → Bool → Bool → Bool → Bool
by_kind Pawn p n sl st k = p
by_kind Knight p n sl st k = n
by_kind Bishop p n sl st k = sl
by_kind Rook p n sl st k = st
by_kind Queen p n sl st k = sl || st
by_kind King p n sl st k = k

as_kind : (own : Bool) (kind : Kind) (p n sl st k : Bool)
    → ((own && is_pawn_kind kind) && p || (own && is_knight_kind kind) && n || (own && is_diagonal_kind kind) && sl
    || (own && is_straight_kind kind) && st || (own && is_king_kind kind) && k)
    ≡ (own && by_kind kind p n sl st k)
unfolding by_kind
as_kind false man p n sl st k = refl
as_kind true Pawn true n sl st k = refl
as_kind true Pawn false n sl st k = refl
as_kind true Knight p true sl st k = refl
as_kind true Knight p false sl st k = refl
as_kind true Bishop p n true st k = refl
as_kind true Bishop p n false st k = refl
as_kind true Rook p n sl true k = refl
as_kind true Rook p n sl false k = refl
as_kind true Queen p n true true k = refl
as_kind true Queen p n true false k = refl
as_kind true Queen p n false true k = refl
as_kind true Queen p n false false k = refl
as_kind true King p n sl st k = refl

hits_by_kind : (taken : ℕ → Bool) (by : Colour) (kind : Kind) (a b : ℕ)
    → by_kind kind (leaps (capture_of by) a b) (leaps KnightLeap a b) (reaches_as_bishop taken a b) (reaches_as_rook taken a b)
    (leaps KingStep a b) ≡ hits_as taken by kind a b
unfolding by_kind
hits_by_kind taken by Pawn a b = refl
hits_by_kind taken by Knight a b = refl
hits_by_kind taken by Bishop a b = refl
hits_by_kind taken by Rook a b = refl
hits_by_kind taken by Queen a b = refl
hits_by_kind taken by King a b = refl

-- the five tests of a place say whether its man attacks
pub place_by_kind : (taken : ℕ → Bool) (by : Colour) (place : Option Man) (a b : ℕ)
    → (is_one by is_pawn_kind place && leaps (capture_of by) a b || is_one by is_knight_kind place && leaps KnightLeap a b
    || is_one by is_diagonal_kind place && reaches_as_bishop taken a b
    || is_one by is_straight_kind place && reaches_as_rook taken a b || is_one by is_king_kind place && leaps KingStep a b)
    ≡ place_hits taken by place a b
place_by_kind taken by None a b = refl
place_by_kind taken by (Some man) a b =
    as_kind (is_colour by man.colour) man.kind (leaps (capture_of by) a b) (leaps KnightLeap a b) (reaches_as_bishop taken a b)
    (reaches_as_rook taken a b) (leaps KingStep a b)
    ∙ ap (λ x. is_colour by man.colour && x) (hits_by_kind taken by man.kind a b)

-- the set of a square's attackers, by sets
pub attackers_are : (occupied : ℕ) (side_men : SideMen) (by : Colour) (men : List (Option Man)) (square l1 l2 d r l3 : ℕ)
    → IsSetOf occupied is_some men → StandFor side_men by men
    → ((t : ℕ) → t < 64 → has l1 t ≡ leaps (capture_back by) square t)
    → ((t : ℕ) → t < 64 → has l2 t ≡ leaps KnightLeap square t)
    → ((t : ℕ) → t < 64 → has d t ≡ (has side_men.diagonal t && reaches_as_bishop (has occupied) square t))
    → ((t : ℕ) → t < 64 → has r t ≡ (has side_men.straight t && reaches_as_rook (has occupied) square t))
    → ((t : ℕ) → t < 64 → has l3 t ≡ leaps KingStep square t)
    → (s : ℕ) → s < 64
    → has (bit_or (bit_or (bit_or (bit_or (bit_and side_men.pawns l1) (bit_and side_men.knights l2)) d) r) (bit_and side_men.king l3)) s
    ≡ hits_from men by s square
attackers_are occupied side_men by men square l1 l2 d r l3 stands sets h1 h2 h3 h4 h5 s on =
    let taken : ℕ → Bool = λ s. is_taken men s in
    let e1 : has l1 s ≡ leaps (capture_of by) s square = h1 s on ∙ capture_mirrored by s square in
    let e2 : has l2 s ≡ leaps KnightLeap s square = h2 s on ∙ knight_back s square in
    let e3 : reaches_as_bishop (has occupied) square s ≡ reaches_as_bishop taken s square =
    slants_same (has occupied) taken stands square s ∙ slants_back taken s square in
    let e4 : reaches_as_rook (has occupied) square s ≡ reaches_as_rook taken s square =
    straight_same (has occupied) taken stands square s ∙ straight_back taken s square in
    let e5 : has l3 s ≡ leaps KingStep s square = h5 s on ∙ king_back s square in
    five (bit_and side_men.pawns l1) (bit_and side_men.knights l2) d r (bit_and side_men.king l3) s
    _ _ _ _ _
    (part side_men.pawns l1 s _ _ (sets.pawns s on) e1) (part side_men.knights l2 s _ _ (sets.knights s on) e2)
    (h3 s on ∙ and_both _ _ _ _ (sets.diagonal s on) e3) (h4 s on ∙ and_both _ _ _ _ (sets.straight s on) e4)
    (part side_men.king l3 s _ _ (sets.king s on) e5)
    ∙ place_by_kind taken by (man_at men s) s square
  where
    and_both : (x y p q : Bool) → x ≡ p → y ≡ q → (x && y) ≡ (p && q)
    and_both x y p q ex ey = rw (ex, ey)
