-- A refuge stays where a man goes that attacks none of its squares from there: after such a move there is an escape.
use Rattle.std.proofs.Common.{◌≡◌, ◌≢◌, ℕ, ◌<◌, Bool, true, false, ◌&&◌, ◌||◌, eqb, bit_and, List, Option, None, Some, refl, sym, ap, ◌∙◌, subst}
use Rattle.std.proofs.lemmas.Bool.{and_from, and_parts, and_right, both_ways, eq-eqb, eqb-true, false_from_ne_true, or_parts}
use Rattle.square_sets.specs.Members.{has}
use Rattle.chess_board.specs.declared.men.Colour.{Colour}
use Rattle.chess_board.specs.declared.men.Kind.{Kind}
use Rattle.chess_board.specs.declared.men.Kind.TheVariants.{Pawn, Knight, Bishop, Rook, Queen, King}
use Rattle.chess_board.specs.declared.men.Man.{Man}
use Rattle.chess_board.specs.Castling.{king_home}
use Rattle.chess_board.specs.EnPassant.{is_square}
use Rattle.chess_board.specs.Legality.{is_legal}
use Rattle.chess_board.specs.MakeMove.{after_setup}
use Rattle.chess_board.specs.Men.{is_colour, is_kind, is_man, is_of, other_side}
use Rattle.chess_board.specs.Moves.{Move}
use Rattle.chess_board.specs.Positions.{Setup, man_at, moved}
use Rattle.chess_board.specs.Soundness.{IsSound}
use Rattle.chess_board.specs.Squares.{rank_of}
use Rattle.chess_moves.specs.declared.directions.Leap.TheVariants.{KingStep}
use Rattle.chess_moves.specs.declared.escape_guards.EscapeGuards.{EscapeGuards}
use Rattle.chess_moves.specs.Escapes.{AreGuardsOf, Escape, IsGuardedFrom}
use Rattle.chess_moves.specs.inside.CheckSquares.{is_special}
use Rattle.chess_moves.specs.inside.EscapeGuards.{guards_of}
use Rattle.chess_moves.specs.inside.EscapeSquares.{AreMissedBy, HasPlainMen, IsRefuge, IsStep, Misses}
use Rattle.chess_moves.specs.inside.Hits.{hits_as, place_hits}
use Rattle.chess_moves.specs.inside.Leaps.{leaps}
use Rattle.chess_moves.specs.inside.Shifts.{rank_before}
use Rattle.chess_moves.proofs.FlightSquares.{men_are, not_left, not_taken, side_is}
use Rattle.chess_moves.proofs.KingEscapes.{escape}
use Rattle.chess_moves.proofs.Kept.{has_all}
use Rattle.chess_moves.proofs.MatingMen.{kind_self}
use Rattle.chess_moves.proofs.MovedKings.{there_after}
use Rattle.chess_moves.proofs.OwnColours.{own_is_not_other, same_colour}
use Rattle.chess_moves.proofs.PlainChecks.{man_stayed, side_back}
use Rattle.chess_moves.proofs.PlainMen.{is_one, plain}
use Rattle.chess_moves.proofs.Played.{played, played_by}
use Rattle.chess_moves.proofs.SetBits.{has_and}
use Rattle.chess_moves.proofs.SpecialMoves.{same_side}
use Rattle.chess_moves.proofs.Tallies.{same_kind}

-- From where it goes the man attacks none of the squares, it doesn't stand on the refuge, and its next move isn't special, nor does it
-- step to where it attacks them all.
pub record Spares (squares f : ℕ) (p : Setup) (kind : Kind) (t : ℕ) : Type 0 where
  pub elsewhere : f ≢ t
  pub misses : (g : ℕ) → g < 64 → has squares g ≡ true → (taken : ℕ → Bool) → hits_as taken p.side kind t g ≡ false
  pub pawn : kind ≡ Pawn → (is_square p.target t ≡ false) × (eqb (rank_of t) (rank_before p.side) ≡ false)
  pub king : kind ≡ King → (eqb t (king_home p.side) ≡ false)
      × ((u : ℕ) → u < 64 → leaps KingStep t u ≡ true → Misses squares p.side King u)

module _ (p : Setup) (f squares : ℕ) (refuge : IsRefuge squares p (other_side p.side) f)
    (still : (q : Setup) (m : Move) → IsSound q → m.origin < 64 → m.target < 64 → is_legal q m ≡ true → IsSound (after_setup q m))
    (m : Move) (man : Man) (o_on : m.origin < 64) (t_on : m.target < 64) (here : man_at p.men m.origin ≡ Some man) (ok : is_legal p m ≡ true)
    (spares : Spares squares f p man.kind m.target) where
  abbrev c : Colour
  c = other_side p.side

  abbrev step : IsStep p c refuge.from f
  step = refuge.step

  abbrev q : Setup
  q = after_setup p m

  abbrev men : List (Option Man)
  men = moved p.men m.origin m.target man

  sound : IsSound q
  sound = still p m step.sound o_on t_on ok

  own_plain : HasPlainMen p.side p
  own_plain = subst (λ (by : Colour). HasPlainMen by p) (side_back p.side) refuge.plain

  no_special : is_special p man m ≡ false
  no_special = plain p m man here ok o_on own_plain (λ e. (spares.pawn e).0)

  own : is_colour p.side man.colour ≡ true
  own = (and_parts (is_colour p.side man.colour) (is_kind man.kind man.kind)
      (ap (is_man p.side man.kind) (sym here) ∙ is_one p m man here ok o_on own_plain)).0

  now : q.men ≡ men
  now = men_are p refuge.from f man m step.sound sound step.king_on_board step.king o_on t_on here ok no_special

  turn : q.side ≡ c
  turn = side_is p refuge.from f man m step.sound sound step.king_on_board step.king o_on t_on here ok no_special

  off : refuge.from ≢ m.origin
  off = not_left p refuge.from f man m step.sound sound step.king_on_board step.king o_on t_on here ok no_special

  to : refuge.from ≢ m.target
  to = not_taken p refuge.from f man m step.sound sound step.king_on_board step.king o_on t_on here ok no_special

  step_after : IsStep q c refuge.from f
  step_after = record {
    king_on_board = step.king_on_board;
    king = rw now (man_stayed p.men m.origin m.target refuge.from man to off ∙ step.king);
    on_board = step.on_board;
    beside = step.beside;
    free = rw now (there_after (λ place. place ≡ None) p.men m.origin m.target man f step.sound.squares step.on_board
        (λ e. absurd (spares.elsewhere e)) refl (λ o t. step.free));
    sound = sound;
  }

  -- what stands there of the men of the side that moved
  came : (asked : Kind) (o : ℕ) → o < 64 → (P : Type 0) → (o ≡ m.target → man.kind ≡ asked → P) → (is_man p.side asked (man_at p.men o) ≡ true → P)
      → is_man p.side asked (man_at q.men o) ≡ true → P
  came asked o on P new old = rw now (there_after (λ place. is_man p.side asked place ≡ true → P) p.men m.origin m.target man o
      step.sound.squares on
      (λ e h. new e (same_kind asked man.kind (and_parts (is_colour p.side man.colour) (is_kind asked man.kind) h).1))
      (λ h. absurd (cc)) (λ o t h. old h))

  plain_after : HasPlainMen p.side q
  plain_after = record {
    pawns = λ o on is. came Pawn o on (eqb (rank_of o) (rank_before p.side) ≡ false)
        (λ e kind. ap (λ s. eqb (rank_of s) (rank_before p.side)) e ∙ (spares.pawn kind).1) (own_plain.pawns o on) is;
    king = λ o on is. came King o on (eqb o (king_home p.side) ≡ false)
        (λ e kind. ap (λ s. eqb s (king_home p.side)) e ∙ (spares.king kind).0) (own_plain.king o on) is;
  }

  missed_before : (asked : Kind) → AreMissedBy squares p.side p asked
  missed_before asked = subst (λ (by : Colour). AreMissedBy squares by p asked) (side_back p.side) (refuge.missed asked)

  missed_after : (asked : Kind) → AreMissedBy squares p.side q asked
  missed_after asked o t on t_on is steps = came asked o on (Misses squares p.side asked t)
      (λ e kind. (elim asked as (λ (a : Kind). asked ≡ a → Misses squares p.side a t) [
        | King ↦ λ (royal : asked ≡ King). (spares.king (kind ∙ royal)).1 t t_on (ap (λ s. leaps KingStep s t) (sym e) ∙ steps royal)
        | Pawn ↦ λ a. missed_before Pawn m.origin t o_on t_on (one Pawn (kind ∙ a)) (λ h. absurd (cc))
        | Knight ↦ λ a. missed_before Knight m.origin t o_on t_on (one Knight (kind ∙ a)) (λ h. absurd (cc))
        | Bishop ↦ λ a. missed_before Bishop m.origin t o_on t_on (one Bishop (kind ∙ a)) (λ h. absurd (cc))
        | Rook ↦ λ a. missed_before Rook m.origin t o_on t_on (one Rook (kind ∙ a)) (λ h. absurd (cc))
        | Queen ↦ λ a. missed_before Queen m.origin t o_on t_on (one Queen (kind ∙ a)) (λ h. absurd (cc))
      ]) refl)
      (λ before. missed_before asked o t on t_on before steps) is
    where
      one : (asked : Kind) → man.kind ≡ asked → is_man p.side asked (man_at p.men m.origin) ≡ true
      one asked kind = ap (λ (a : Kind). is_man p.side a (man_at p.men m.origin)) (sym kind) ∙ is_one p m man here ok o_on own_plain

  clear_after : (g : ℕ) → g < 64 → has squares g ≡ true → (taken : ℕ → Bool) (a : ℕ) → a < 64
      → place_hits taken p.side (man_at q.men a) a g ≡ false
  clear_after g on is taken a l = rw now (there_after (λ place. place_hits taken p.side place a g ≡ false) p.men m.origin m.target man a
      step.sound.squares l
      (λ e. and_right (is_colour p.side man.colour) (hits_as taken p.side man.kind a g)
      (ap (λ s. hits_as taken p.side man.kind s g) e ∙ spares.misses g on is taken))
      refl
      (λ o t. subst (λ (by : Colour). place_hits taken by (man_at p.men a) a g ≡ false) (side_back p.side) (refuge.clear g on is taken a l)))

  after_it : IsRefuge squares q c f
  after_it = record {
    from = refuge.from;
    step = step_after;
    plain = subst (λ (by : Colour). HasPlainMen by q) (sym (side_back p.side)) plain_after;
    here = refuge.here;
    lasting = refuge.lasting;
    kept = refuge.kept;
    parts = refuge.parts;
    near = refuge.near;
    free = λ g on is apart. rw now (there_after (λ place. is_of c place ≡ false) p.men m.origin m.target man g step.sound.squares on
        (λ e. own_is_not_other p.side man.colour own) refl (λ o t. refuge.free g on is apart));
    clear = subst (λ (by : Colour). (g : ℕ) → g < 64 → has squares g ≡ true → (taken : ℕ → Bool) (a : ℕ) → a < 64
        → place_hits taken by (man_at q.men a) a g ≡ false) (sym (side_back p.side)) clear_after;
    missed = λ asked. subst (λ (by : Colour). AreMissedBy squares by q asked) (sym (side_back p.side)) (missed_after asked);
  }

  pub spared : Escape q
  spared = escape q f squares (subst (λ (by : Colour). IsRefuge squares q by f) (sym turn) after_it) still

-- So the squares from which a kind's men don't spare the refuge guard its escape.
pub guarded : (p : Setup) (f squares : ℕ) → IsRefuge squares p (other_side p.side) f
    → ((q : Setup) (m : Move) → IsSound q → m.origin < 64 → m.target < 64 → is_legal q m ≡ true → IsSound (after_setup q m))
    → (asked : Kind) (set : ℕ) → ((t : ℕ) → t < 64 → has set t ≡ false → Spares squares f p asked t) → IsGuardedFrom set asked p
guarded p f squares refuge still asked set spares = λ m on t_on ok is out.
    let by = played p m ok in
    let here = by.1.there in
    let kind : by.0.kind ≡ asked = same_kind asked by.0.kind
    (and_parts (is_colour p.side by.0.colour) (is_kind asked by.0.kind) (ap (is_man p.side asked) (sym here) ∙ is)).1 in
    spared p f squares refuge still m by.0 on t_on here ok
    (subst (λ (kind : Kind). Spares squares f p kind m.target) (sym kind) (spares m.target t_on out))

-- Where no move is told apart all squares guard.
pub all_guard : (p : Setup) (asked : Kind) → IsGuardedFrom 18446744073709551615 asked p
all_guard p asked = λ m on t_on ok is out. absurd (both_ways (has 18446744073709551615 m.target) out (has_all m.target t_on))

pub unguarded : (p : Setup) → AreGuardsOf (record {
  pawn = 18446744073709551615;
  knight = 18446744073709551615;
  bishop = 18446744073709551615;
  rook = 18446744073709551615;
  queen = 18446744073709551615;
  king = 18446744073709551615;
}) p
unguarded p = record {
  pawn = all_guard p Pawn;
  knight = all_guard p Knight;
  bishop = all_guard p Bishop;
  rook = all_guard p Rook;
  queen = all_guard p Queen;
  king = all_guard p King;
}

-- A move that leaves one of two escapes leaves one.
pub guarded_both : (p : Setup) (asked : Kind) (a b : ℕ) → IsGuardedFrom a asked p → IsGuardedFrom b asked p → IsGuardedFrom (bit_and a b) asked p
guarded_both p asked a b first second = λ m on t_on ok is out.
    (elim (has a m.target) as (λ x. has a m.target ≡ x → Escape (after_setup p m)) [
      | false ↦ λ e. first m on t_on ok is e
      | true ↦ λ e. second m on t_on ok is (ap (λ x. x && has b m.target) (sym e) ∙ sym (has_and a b m.target) ∙ out)
    ]) refl

-- A square is none of a set with another: not that one, and none of the set.
pub none_with : (set with f t : ℕ) → has with t ≡ (eqb t f || has set t) → has with t ≡ false → (f ≢ t) × (has set t ≡ false)
none_with set with f t is out =
    let both = or_parts (eqb t f) (has set t) (sym is ∙ out) in
    (λ e. both_ways (eqb t f) both.0 (eq-eqb t f (sym e)), both.1)

pub other_square : (s t : ℕ) → s ≢ t → is_square (Some s) t ≡ false
other_square s t apart = false_from_ne_true (eqb s t) (λ e. apart (eqb-true s t e))

-- A move of a man of its kind to a square from which it doesn't guard leaves an escape.
pub left_by : (p : Setup) (guards : EscapeGuards) → AreGuardsOf guards p → (m : Move) (man : Man) → m.origin < 64 → m.target < 64
    → is_legal p m ≡ true → man_at p.men m.origin ≡ Some man → has (guards_of guards man.kind) m.target ≡ false → Escape (after_setup p m)
left_by p guards are m man on t_on ok here out = (elim man.kind as (λ (kind : Kind). man.kind ≡ kind → Escape (after_setup p m)) [
  | Pawn ↦ λ e. are.pawn m on t_on ok (is Pawn e) (off Pawn e)
  | Knight ↦ λ e. are.knight m on t_on ok (is Knight e) (off Knight e)
  | Bishop ↦ λ e. are.bishop m on t_on ok (is Bishop e) (off Bishop e)
  | Rook ↦ λ e. are.rook m on t_on ok (is Rook e) (off Rook e)
  | Queen ↦ λ e. are.queen m on t_on ok (is Queen e) (off Queen e)
  | King ↦ λ e. are.king m on t_on ok (is King e) (off King e)
]) refl
  where
    is : (asked : Kind) → man.kind ≡ asked → is_man p.side asked (man_at p.men m.origin) ≡ true
    is asked e = ap (is_man p.side asked) here
        ∙ and_from (is_colour p.side man.colour) (is_kind asked man.kind)
        (same_colour p.side man.colour (sym (same_side man.colour p.side (played_by p m man here ok).own)))
        (ap (is_kind asked) e ∙ kind_self asked)

    off : (asked : Kind) → man.kind ≡ asked → has (guards_of guards asked) m.target ≡ false
    off asked e = ap (λ (kind : Kind). has (guards_of guards kind) m.target) (sym e) ∙ out
