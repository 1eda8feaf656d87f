-- Whether a move gives check, told by what is seen from the king before it: where it is not special and opens no line.
use Rattle.std.proofs.Common.{◌≡◌, ◌≢◌, ℕ, ◌<◌, Bool, true, false, not, ◌&&◌, ◌||◌, List, Option, None, Some, is_some, refl}
use Rattle.std.proofs.Common.{sym, ap, ◌∙◌, eqb, length, set, length-set, get_or-set_same, get_or-set_other, arith}
use Rattle.std.proofs.lemmas.Bool.{eqb-true, eqb-false, and_left, and_right, and_from, and_parts, both_ways, or_parts, false_from_ne_true}
use Rattle.square_sets.specs.Members.{has}
use Rattle.chess_board.specs.declared.men.Colour.{Colour}
use Rattle.chess_board.specs.declared.men.Colour.TheVariants.{White, Black}
use Rattle.chess_board.specs.declared.men.Kind.{Kind}
use Rattle.chess_board.specs.declared.men.Kind.TheVariants.{Queen, King}
use Rattle.chess_board.specs.declared.men.Man.{Man}
use Rattle.chess_board.specs.Squares.{any_below}
use Rattle.chess_board.specs.Men.{is_colour, other_side, man_of}
use Rattle.chess_board.specs.inside.KindTests.{is_king_kind, is_king_of}
use Rattle.chess_board.specs.Positions.{Setup, man_at, moved}
use Rattle.chess_board.specs.Attacks.{is_attacked, is_king_attacked, is_in_check}
use Rattle.chess_board.specs.Moves.{Move}
use Rattle.chess_board.specs.MakeMove.{becomes, men_after, after_man, after_setup}
use Rattle.chess_board.specs.Legality.{is_legal}
use Rattle.chess_board.specs.Soundness.{IsSound}
use Rattle.chess_board.specs.EnPassant.{is_en_passant}
use Rattle.chess_board.specs.Castling.{is_castling}
use Rattle.chess_moves.specs.declared.check_squares.CheckSquares.{CheckSquares}
use Rattle.chess_moves.specs.inside.Directions.{toward, stands_between, reaches_as_bishop, reaches_as_rook}
use Rattle.chess_moves.specs.inside.Hits.{is_taken, hits_as, place_hits, hits_from, is_hit}
use Rattle.chess_moves.specs.GivesCheck.{gives_check}
use Rattle.chess_moves.specs.inside.CheckSquares.{AreCheckSquaresOf, squares_of, is_special}
use Rattle.chess_moves.proofs.AnyLemmas.{any_none, any_at}
use Rattle.chess_moves.proofs.Arrivals.{no_man_stays}
use Rattle.chess_moves.proofs.OwnColours.{own_is_not_other}
use Rattle.chess_moves.proofs.Bridge.{attacked_same}
use Rattle.chess_moves.proofs.Compass.{between_some}
use Rattle.chess_moves.proofs.Geometry.{toward_self}
use Rattle.chess_moves.proofs.OneKing.{king_found, only_king, in_check_at}
use Rattle.chess_moves.proofs.Placed.{place_with}
use Rattle.chess_moves.proofs.Played.{played}
use Rattle.chess_moves.proofs.Removed.{Leaves, place_left}

-- What holds of the man that came, of an empty square and of each square as it was, holds of each square after the move.
each_moved : (men : List (Option Man)) (o t : ℕ) (man : Man) → length men ≡ 64 → o < 64 → t < 64 → (P : ℕ → Option Man → Type 0)
    → P t (Some man) → ((s : ℕ) → P s None) → ((s : ℕ) → s < 64 → P s (man_at men s)) → (s : ℕ) → s < 64 → P s (man_at (moved men o t man) s)
each_moved men o t man len o_on t_on P came gone stayed s s_on =
    let within : o < length men = omega arith in
    let inside : t < length (set men o None) = simp length-set (omega arith) in
    (elim (eqb s t) as (λ b. eqb s t ≡ b → P s (man_at (moved men o t man) s)) [
      | true ↦ λ e. let same = eqb-true s t e in rw same (rw get_or-set_same came)
      | false ↦ λ e. let apart = eqb-false s t e in rw get_or-set_other ((elim (eqb s o) as (λ b. eqb s o ≡ b → P s (man_at (set men o None) s)) [
        | true ↦ λ f. let same = eqb-true s o f in rw same (rw get_or-set_same (gone o))
        | false ↦ λ f. let other = eqb-false s o f in rw get_or-set_other (stayed s s_on)
      ]) refl)
    ]) refl

man_came : (men : List (Option Man)) (o t : ℕ) (man : Man) → length men ≡ 64 → t < 64 → man_at (moved men o t man) t ≡ Some man
man_came men o t man len on = let inside : t < length (set men o None) = simp length-set (omega arith) in rw get_or-set_same refl

pub man_stayed : (men : List (Option Man)) (o t s : ℕ) (man : Man) → s ≢ t → s ≢ o → man_at (moved men o t man) s ≡ man_at men s
man_stayed men o t s man apart other = rw get_or-set_other (rw get_or-set_other refl)

-- A man leaves o: at most that square is left.
leaves_at : (men : List (Option Man)) (o : ℕ) → length men ≡ 64 → o < 64 → Leaves (λ s. is_taken men s) (λ s. is_taken (set men o None) s) o
leaves_at men o len on =
    let within : o < length men = omega arith in
    record {
      stays = λ s l apart t. rw get_or-set_other t;
      fewer = λ s l t. (elim (eqb s o) as (λ b. eqb s o ≡ b → is_taken men s ≡ true) [
        | true ↦ λ e. let same = eqb-true s o e in let none : is_taken (set men o None) s ≡ false = rw same (rw get_or-set_same refl) in absurd (cc)
        | false ↦ λ e. let other = eqb-false s o e in rw get_or-set_other at t
      ]) refl;
    }

-- A man comes to t: that square is taken too.
taken_with : (men : List (Option Man)) (t : ℕ) (man : Man) → length men ≡ 64 → t < 64 → (s : ℕ) → s < 64
    → is_taken (set men t (Some man)) s ≡ (eqb s t || is_taken men s)
taken_with men t man len on s l =
    let within : t < length men = omega arith in
    (elim (eqb s t) as (λ b. eqb s t ≡ b → is_taken (set men t (Some man)) s ≡ (b || is_taken men s)) [
      | true ↦ λ e. let same = eqb-true s t e in rw same (rw get_or-set_same refl)
      | false ↦ λ e. let other = eqb-false s t e in rw get_or-set_other refl
    ]) refl

-- What holds of the man that came and of each square as it was, holds of each square afterwards.
each_placed : (men : List (Option Man)) (t : ℕ) (man : Man) → length men ≡ 64 → t < 64 → (P : ℕ → Option Man → Type 0)
    → P t (Some man) → ((s : ℕ) → s < 64 → P s (man_at men s)) → (s : ℕ) → s < 64 → P s (man_at (set men t (Some man)) s)
each_placed men t man len t_on P came stayed s s_on =
    let inside : t < length men = omega arith in
    (elim (eqb s t) as (λ b. eqb s t ≡ b → P s (man_at (set men t (Some man)) s)) [
      | true ↦ λ e. let same = eqb-true s t e in rw same (rw get_or-set_same came)
      | false ↦ λ e. let apart = eqb-false s t e in rw get_or-set_other (stayed s s_on)
    ]) refl

not_between : (a k : ℕ) → stands_between a k a ≡ false
not_between a k = false_from_ne_true (stands_between a k a) (λ h.
    let w = between_some a k a h in let none = toward_self w.direction a in let on =
    and_parts (toward w.direction a a) (toward w.direction a k) w.on_line in
    let first = on.0 in cc)

-- Where k is safe once a man is lifted off the board, it is attacked afterwards exactly if the man attacks it from where it is put.
pub hit_placed : (men : List (Option Man)) (t : ℕ) (man : Man) → length men ≡ 64 → t < 64 → (by : Colour) (k : ℕ)
    → is_colour by man.colour ≡ true → is_hit men k by ≡ false
    → is_hit (set men t (Some man)) k by ≡ hits_as (λ s. is_taken men s) by man.kind t k
unfolding is_hit
hit_placed men t man len t_on by k own safe =
    let taken : ℕ → Bool = λ s. is_taken men s in
    let after : ℕ → Bool = λ s. is_taken (set men t (Some man)) s in
    let still : (place : Option Man) (a : ℕ) → place_hits after by place a k ≡ (place_hits taken by place a k && not (stands_between a k t)) =
    λ place a. place_with taken after t t_on (taken_with men t man len t_on) by place a k in
    let none : (place : Option Man) (a : ℕ) → place_hits taken by place a k ≡ false → place_hits after by place a k ≡ false = λ place a h.
    still place a ∙ ap (λ x. x && not (stands_between a k t)) h in
    let before : (a : ℕ) → a < 64 → place_hits taken by (man_at men a) a k ≡ false = λ a l.
    false_from_ne_true (hits_from men by a k) (λ h. let hit = any_at (λ a. hits_from men by a k) 64 a l h in cc) in
    let inside : t < length men = omega arith in
    let came : man_at (set men t (Some man)) t ≡ Some man = rw get_or-set_same refl in
    (elim (hits_as taken by man.kind t k) as (λ b. hits_as taken by man.kind t k ≡ b
    → any_below 64 (λ a. hits_from (set men t (Some man)) by a k) ≡ b) [
      | true ↦ λ e. any_at (λ a. hits_from (set men t (Some man)) by a k) 64 t t_on
          (ap (λ place. place_hits after by place t k) came ∙ still (Some man) t
          ∙ and_from (place_hits taken by (Some man) t k) (not (stands_between t k t))
          (and_from (is_colour by man.colour) (hits_as taken by man.kind t k) own e) (ap not (not_between t k)))
      | false ↦ λ e. any_none (λ a. hits_from (set men t (Some man)) by a k) 64
          (each_placed men t man len t_on (λ a place. place_hits after by place a k ≡ false)
          (none (Some man) t (and_right (is_colour by man.colour) (hits_as taken by man.kind t k) e)) (λ a l. none (man_at men a) a (before a l)))
    ]) refl

-- Where k was safe, a man that leaves a square from which a queen would not attack k opens no line to it, and attacks as before.
pub hidden_lifted : (men : List (Option Man)) (o : ℕ) → length men ≡ 64 → o < 64 → (by : Colour) (k : ℕ)
    → hits_as (λ s. is_taken men s) by Queen o k ≡ false → is_hit men k by ≡ false
    → (is_hit (set men o None) k by ≡ false) × ((man : Man) (t : ℕ) → is_colour by man.colour ≡ true
    → hits_as (λ s. is_taken (set men o None) s) by man.kind t k ≡ hits_as (λ s. is_taken men s) by man.kind t k)
unfolding is_hit
hidden_lifted men o len o_on by k hidden safe =
    let taken : ℕ → Bool = λ s. is_taken men s in
    let gone : List (Option Man) = set men o None in
    let far = or_parts (reaches_as_bishop taken o k) (reaches_as_rook taken o k) hidden in
    let still : (place : Option Man) (a : ℕ) → place_hits (λ s. is_taken gone s) by place a k ≡ place_hits taken by place a k =
    λ place a. place_left taken (λ s. is_taken gone s) o (leaves_at men o len o_on) by place a k far.0 far.1 in
    let within : o < length men = omega arith in (
      any_none (λ a. hits_from gone by a k) 64 (λ a l. (elim (eqb a o) as (λ b. eqb a o ≡ b → hits_from gone by a k ≡ false) [
        | true ↦ λ e. let same = eqb-true a o e in let none : man_at gone a ≡ None = rw same (rw get_or-set_same refl) in
            ap (λ place. place_hits (λ s. is_taken gone s) by place a k) none
        | false ↦ λ e. let other = eqb-false a o e in let as_was : man_at gone a ≡ man_at men a = rw get_or-set_other refl in
            ap (λ place. place_hits (λ s. is_taken gone s) by place a k) as_was ∙ still (man_at men a) a
            ∙ false_from_ne_true (hits_from men by a k) (λ h. let hit = any_at (λ a. hits_from men by a k) 64 a l h in cc)
      ]) refl),
      (λ man t own. rw own at (still (Some man) t)),
    )

pub side_back : (c : Colour) → other_side (other_side c) ≡ c
side_back White = refl
side_back Black = refl

pub colour_back : (a b : Colour) → is_colour a b ≡ true → is_colour b a ≡ true
colour_back White White h = refl
colour_back White Black h = h
colour_back Black White h = h
colour_back Black Black h = refl

-- The king of the side that is not to move is not attacked.
pub king_safe : (p : Setup) (k : ℕ) → IsSound p → k < 64 → man_at p.men k ≡ man_of (other_side p.side) King → is_hit p.men k p.side ≡ false
king_safe p k sound k_on there =
    let c : Colour = other_side p.side in
    let alone : (s : ℕ) → s < 64 → is_king_of c (man_at p.men s) ≡ true → s ≡ k = λ s l king. only_king p sound c k s k_on l there king in
    ap (is_hit p.men k) (sym (side_back p.side)) ∙ sym (in_check_at p.men c k k_on there alone) ∙ sound.safe

-- That king is in check afterwards exactly if its square is attacked, and then not by a man on the square itself.
check_after : (p : Setup) (k o t : ℕ) (man : Man) (taken : ℕ → Bool) → IsSound p → k < 64 → o < 64 → t < 64
    → man_at p.men k ≡ man_of (other_side p.side) King → man_at p.men o ≡ Some man → is_colour p.side man.colour ≡ true
    → is_hit (moved p.men o t man) k p.side ≡ hits_as taken p.side man.kind t k
    → is_in_check (moved p.men o t man) (other_side p.side) ≡ hits_as taken p.side man.kind t k
check_after p k o t man taken sound k_on o_on t_on there here own hits =
    let c : Colour = other_side p.side in
    let men : List (Option Man) = moved p.men o t man in
    let alone : (s : ℕ) → s < 64 → is_king_of c (man_at p.men s) ≡ true → s ≡ k = λ s l king. only_king p sound c k s k_on l there king in
    let king : is_king_of c (man_at p.men k) ≡ true = king_found p.men c k there in
    let no_king : is_king_of c (Some man) ≡ false =
    and_left (is_colour c man.colour) (is_king_kind man.kind) (own_is_not_other p.side man.colour own) in
    let hit : is_attacked men k (other_side c) ≡ hits_as taken p.side man.kind t k =
    attacked_same men k (other_side c) k_on ∙ ap (is_hit men k) (side_back p.side) ∙ hits in
    (elim (hits_as taken p.side man.kind t k) as (λ b. hits_as taken p.side man.kind t k ≡ b → is_in_check men c ≡ b) [
      | true ↦ λ e.
          let apart : k ≢ t = λ same. both_ways (hits_as taken p.side man.kind k k) (no_man_stays taken p.side man.kind k)
          (ap (λ s. hits_as taken p.side man.kind s k) same ∙ e) in
          let other : k ≢ o = λ same. both_ways (is_king_of c (man_at p.men o)) (ap (is_king_of c) here ∙ no_king)
          (ap (λ s. is_king_of c (man_at p.men s)) (sym same) ∙ king) in
          any_at (λ s. is_king_attacked men c s) 64 k k_on
          (and_from (is_king_of c (man_at men k)) (is_attacked men k (other_side c))
          (ap (is_king_of c) (man_stayed p.men o t k man apart other) ∙ king) (hit ∙ e))
      | false ↦ λ e. any_none (λ s. is_king_attacked men c s) 64
          (each_moved p.men o t man sound.squares o_on t_on (λ s place. (is_king_of c place && is_attacked men s (other_side c)) ≡ false)
          (and_left (is_king_of c (Some man)) (is_attacked men t (other_side c)) no_king)
          (λ s. refl)
          (λ s l. (elim (is_king_of c (man_at p.men s)) as (λ b. is_king_of c (man_at p.men s) ≡ b
          → (b && is_attacked men s (other_side c)) ≡ false) [
            | true ↦ λ king. rw (alone s l king) (hit ∙ e)
            | false ↦ λ none. refl
          ]) refl))
    ]) refl

not_promoted : (man : Man) (promotion : Option Kind) → is_some promotion ≡ false → becomes man promotion ≡ man
not_promoted man None h = refl
not_promoted man (Some asked) h = absurd (cc)

-- A move that is not special takes its man from one square to another.
pub plainly : (p : Setup) (man : Man) (m : Move) → is_special p man m ≡ false → men_after p man m ≡ moved p.men m.origin m.target man
plainly p man m plain =
    let x = or_parts (is_some m.promotion || is_en_passant p man m) (is_castling man m) plain in
    let y = or_parts (is_some m.promotion) (is_en_passant p man m) x.0 in
    rw (y.1, x.1) (ap (moved p.men m.origin m.target) (not_promoted man m.promotion y.0))

-- Where no line to the king is open once its man is lifted off the board, it gives check exactly if the man attacks the king then.
pub lifted_check : (p : Setup) (k : ℕ) (man : Man) (m : Move) → IsSound p → k < 64 → man_at p.men k ≡ man_of (other_side p.side) King
    → m.origin < 64 → m.target < 64 → man_at p.men m.origin ≡ Some man → is_legal p m ≡ true
    → is_hit (set p.men m.origin None) k p.side ≡ false → is_special p man m ≡ false
    → gives_check p m ≡ hits_as (λ s. is_taken (set p.men m.origin None) s) p.side man.kind m.target k
unfolding gives_check after_setup
lifted_check p k man m sound k_on there o_on t_on here legal clear plain =
    let by = played p m legal in
    let same : by.0 ≡ man = let is = by.1.there in cc in
    let own : is_colour p.side man.colour ≡ true = colour_back man.colour p.side (ap (λ x. is_colour x.colour p.side) (sym same) ∙ by.1.own) in
    let gone : List (Option Man) = set p.men m.origin None in
    let len : length gone ≡ 64 = simp length-set sound.squares in
    ap (λ place. is_in_check (after_man p place m).men (after_man p place m).side) here
    ∙ ap (λ men. is_in_check men (other_side p.side)) (plainly p man m plain)
    ∙ check_after p k m.origin m.target man (λ s. is_taken gone s) sound k_on o_on t_on there here own
    (hit_placed gone m.target man len t_on p.side k own clear)

-- So the check squares tell whether it gives check.
pub plain_check : (p : Setup) (check_squares : CheckSquares) (man : Man) (m : Move)
    → AreCheckSquaresOf check_squares p → m.origin < 64 → m.target < 64
    → man_at p.men m.origin ≡ Some man → is_legal p m ≡ true → has check_squares.queen m.origin ≡ false → is_special p man m ≡ false
    → has (squares_of check_squares man.kind) m.target ≡ gives_check p m
plain_check p check_squares man m seen o_on t_on there legal hidden plain =
    let by = played p m legal in
    let same : by.0 ≡ man = let is = by.1.there in cc in
    let own : is_colour p.side man.colour ≡ true = colour_back man.colour p.side (ap (λ x. is_colour x.colour p.side) (sym same) ∙ by.1.own) in
    let lifted = hidden_lifted p.men m.origin seen.sound.squares o_on p.side seen.square
    (sym (seen.squares Queen m.origin o_on) ∙ hidden) (king_safe p seen.square seen.sound seen.on_board seen.there) in
    seen.squares man.kind m.target t_on ∙ sym (lifted.1 man m.target own)
    ∙ sym (lifted_check p seen.square man m seen.sound seen.on_board seen.there o_on t_on there legal lifted.0 plain)
