-- Whether a king is in check once it went: each step is asked about, and castling leaves it safe.
use Rattle.std.proofs.Common.{◌≡◌, ◌≢◌, ℕ, ◌<◌, Bool, true, false, not, ◌&&◌, ◌||◌, eqb, List, length, Option}
use Rattle.std.proofs.Common.{Some, None, refl, sym, ap, ◌∙◌, inl, inr, arith, length-set, bit_or}
use Rattle.std.proofs.lemmas.Bool.{and_parts, or_cases}
use Rattle.std.proofs.Math.Bool.{and-false}
use Rattle.std.proofs.lemmas.Bool.Decides.{nat_tests}
use Rattle.square_sets.specs.Members.{has}
use Rattle.chess_board.specs.declared.men.Colour.{Colour}
use Rattle.chess_board.specs.declared.men.Colour.TheVariants.{White, Black}
use Rattle.chess_board.specs.declared.men.Kind.{Kind}
use Rattle.chess_board.specs.declared.men.Kind.TheVariants.{King}
use Rattle.chess_board.specs.declared.men.Wing.{Wing}
use Rattle.chess_board.specs.declared.men.Wing.TheVariants.{KingSide, QueenSide}
use Rattle.chess_board.specs.declared.men.Man.{Man}
use Rattle.chess_board.specs.Squares.{file_gap, crossed}
use Rattle.chess_board.specs.Men.{other_side, is_colour, is_of, has_right_of}
use Rattle.chess_board.specs.inside.KindTests.{is_king_of, is_rook_of}
use Rattle.chess_board.specs.Positions.{Setup, man_at, cleared, moved}
use Rattle.chess_board.specs.Attacks.{attacks_as, is_attacked, is_in_check}
use Rattle.chess_board.specs.Soundness.{IsSound, has_men_of_right}
use Rattle.chess_board.specs.PseudoLegal.{piece_goes, goes, suits}
use Rattle.chess_board.specs.MakeMove.{men_after}
use Rattle.chess_board.specs.Castling.{king_home, rook_home, king_goal, castles_to, castles, rook, wing_of, castled}
use Rattle.chess_moves.specs.declared.legality_info.LegalityInfo.{LegalityInfo}
use Rattle.chess_moves.specs.inside.Hits.{is_hit}
use Rattle.chess_moves.specs.inside.Listing.{move_of}
use Rattle.chess_moves.specs.inside.LegalityInfo.{IsLegalityInfoOf}
use Rattle.chess_moves.proofs.Bridge.{attacked_same}
use Rattle.chess_moves.proofs.Castled.{unattacked_castled}
use Rattle.chess_moves.proofs.CastlingWays.{Castles, castles_says}
use Rattle.chess_moves.proofs.OwnColours.{same_colour, other_colour, own_rook_not_other}
use Rattle.chess_moves.proofs.MovedKings.{in_check_there, king_of_scene, king_goes, king_stays}
use Rattle.chess_moves.proofs.SetBits.{has_or}
use Rattle.chess_moves.proofs.KeptWays.{goes_safely}

abbrev pub king : Colour → Man
king c = record { colour = c; kind = King }

-- A king's step is no castling.
pub step_is_near : (men : List (Option Man)) (c : Colour) (a b : ℕ) → attacks_as men c King a b ≡ true → eqb (file_gap a b) 2 ≡ false
step_is_near men c a b h = grind (arith, nat_tests)

four_parts : (a b c d : Bool) → (a && b && c && d) ≡ true → (a ≡ true) × (b ≡ true) × (c ≡ true) × (d ≡ true)
four_parts true true true true h = (refl, refl, refl, refl)
four_parts true true true false h = cc
four_parts true true false d h = cc
four_parts true false c d h = cc
four_parts false b c d h = cc

-- A right has its rook at home.
rook_at_home : (p : Setup) (c : Colour) (wing : Wing) → IsSound p → has_right_of p.rights c wing ≡ true
    → is_rook_of c (man_at p.men (rook_home c wing)) ≡ true
rook_at_home p c wing sound right =
    let right_men : Colour → Wing → Bool = has_men_of_right p.men p.rights in
    let all = four_parts (right_men White KingSide) (right_men White QueenSide) (right_men Black KingSide) (right_men Black QueenSide) sound.rights in
    let one = pick c wing all.0 all.1 all.2 all.3 in
    (and_parts (is_king_of c (man_at p.men (king_home c))) (is_rook_of c (man_at p.men (rook_home c wing))) (rw right at one)).1
  where
    pick : (c : Colour) (wing : Wing) → has_men_of_right p.men p.rights White KingSide ≡ true → has_men_of_right p.men p.rights White QueenSide ≡ true
        → has_men_of_right p.men p.rights Black KingSide ≡ true → has_men_of_right p.men p.rights Black QueenSide ≡ true
        → has_men_of_right p.men p.rights c wing ≡ true
    pick White KingSide a b c d = a
    pick White QueenSide a b c d = b
    pick Black KingSide a b c d = c
    pick Black QueenSide a b c d = d

some_wing : (p : Setup) (c : Colour) (a b : ℕ) → castles p c a b ≡ true → (wing : Wing) × Castles p c wing a b
some_wing p c a b h = elim (or_cases (castles_to p c KingSide a b) (castles_to p c QueenSide a b) h) [
  | inl w ↦ (KingSide, castles_says p c KingSide a b w)
  | inr w ↦ (QueenSide, castles_says p c QueenSide a b w)
]

-- in each of the four castlings
wing_is : (c : Colour) (wing : Wing) → wing_of (king_home c) (king_goal c wing) ≡ wing
wing_is White KingSide = refl
wing_is White QueenSide = refl
wing_is Black KingSide = refl
wing_is Black QueenSide = refl

goal_is_far : (c : Colour) (wing : Wing) → eqb (file_gap (king_home c) (king_goal c wing)) 2 ≡ true
goal_is_far White KingSide = refl
goal_is_far White QueenSide = refl
goal_is_far Black KingSide = refl
goal_is_far Black QueenSide = refl

goal_apart : (c : Colour) (wing : Wing) → (king_goal c wing ≢ rook_home c wing) × (king_goal c wing ≢ crossed (king_home c) (king_goal c wing))
goal_apart White KingSide = (λ e. omega arith, λ e. omega arith)
goal_apart White QueenSide = (λ e. omega arith, λ e. omega arith)
goal_apart Black KingSide = (λ e. omega arith, λ e. omega arith)
goal_apart Black QueenSide = (λ e. omega arith, λ e. omega arith)

-- The king is not attacked once it went from a to b.
abbrev pub safe_at : Setup → ℕ → ℕ → Bool
safe_at p a b = not (is_in_check (men_after p (king p.side) (move_of a b None)) p.side)

-- Once it stepped, the king is in check where the square is attacked to which it went.
in_check_stepped : (info : LegalityInfo) (p : Setup) (b : ℕ) → IsLegalityInfoOf info p → b < 64 → eqb (file_gap info.king b) 2 ≡ false
    → is_in_check (men_after p (king p.side) (move_of info.king b None)) p.side ≡ is_hit (moved p.men info.king b (king p.side)) b (other_side p.side)
in_check_stepped info p b h on near =
    rw near (in_check_there (moved p.men info.king b (king p.side)) p.side b
    (king_goes p.men p.side info.king b h.sound.squares on (king_of_scene info p h)))

-- The same once it castled.
in_check_castled : (info : LegalityInfo) (p : Setup) (b : ℕ) → IsLegalityInfoOf info p → b < 64 → castles p p.side info.king b ≡ true
    → is_in_check (men_after p (king p.side) (move_of info.king b None)) p.side
    ≡ is_hit (moved (moved p.men info.king b (king p.side)) (rook_home p.side (wing_of info.king b))
    (crossed info.king b) (rook p.side)) b (other_side p.side)
in_check_castled info p b h on castled_there =
    let w = some_wing p p.side info.king b castled_there in
    let far : eqb (file_gap info.king b) 2 ≡ true = rw (w.1.home, w.1.goal) (goal_is_far p.side w.0) in
    let apart = goal_apart p.side w.0 in
    let went = king_goes p.men p.side info.king b h.sound.squares on (king_of_scene info p h) in
    let men : List (Option Man) = moved p.men info.king b (king p.side) in
    let long : length men ≡ 64 = length-set (cleared p.men info.king) b (Some (king p.side)) ∙ length-set p.men info.king None ∙ h.sound.squares in
    let home : b ≢ rook_home p.side (wing_of info.king b) = rw (w.1.home, w.1.goal, wing_is p.side w.0) apart.0 in
    let over : b ≢ crossed info.king b = rw (w.1.home, w.1.goal) apart.1 in
    rw far (in_check_there (castled men p.side info.king b) p.side b
    (king_stays men p.side b (rook_home p.side (wing_of info.king b)) (crossed info.king b)
    (rook p.side) long went home over (and-false (is_colour p.side p.side))))

found_rook : (c : Colour) (place : Option Man) → is_rook_of c place ≡ true
    → (man : Man) × (place ≡ Some man) × (is_colour (other_side c) man.colour ≡ false)
found_rook c None h = absurd (cc)
found_rook c (Some man) h = (man, refl, own_rook_not_other c (Some man) h)

-- A king that castled is not in check.
safe_castled : (info : LegalityInfo) (p : Setup) (b : ℕ) → IsLegalityInfoOf info p → b < 64
    → castles p p.side info.king b ≡ true → safe_at p info.king b ≡ true
safe_castled info p b h on castled_there =
    let c : Colour = p.side in
    let w = some_wing p c info.king b castled_there in
    let found = found_rook c (man_at p.men (rook_home c w.0)) (rook_at_home p c w.0 h.sound w.1.right) in
    let own = other_colour c c refl in
    let there : man_at p.men (king_home c) ≡ Some (king c) = ap (man_at p.men) (sym w.1.home) ∙ h.king in
    let on_goal : king_goal c w.0 < 64 = rw w.1.goal at on in
    let safe : is_hit p.men (king_goal c w.0) (other_side c) ≡ false =
    sym (attacked_same p.men (king_goal c w.0) (other_side c) on_goal)
    ∙ ap (λ s. is_attacked p.men s (other_side c)) (sym w.1.goal) ∙ w.1.safe_goal in
    let checked : is_in_check (men_after p (king c) (move_of info.king b None)) c ≡ false =
    in_check_castled info p b h on castled_there
    ∙ rw (w.1.home, w.1.goal, wing_is c w.0) (unattacked_castled p.men c w.0 (king c) found.0
    (other_side c) h.sound.squares there found.1 own found.2 (king c) (rook c) own own safe) in
    ap not checked

-- The origin of a king is that of the legality information.
pub king_origin : (info : LegalityInfo) (p : Setup) (man : Man) (o : ℕ) → IsLegalityInfoOf info p → o < 64
    → man_at p.men o ≡ Some man → man.colour ≡ p.side → man.kind ≡ King → o ≡ info.king
king_origin info p man o h on there own is_king =
    let colour = same_colour p.side p.side refl in
    (king_of_scene info p h).alone o on (rw (there, is_king, own, colour) refl)

-- Its steps and its castlings together are where the king goes.
pub king_goals : (p : Setup) (man : Man) (o k steps castlings t : ℕ) → man.colour ≡ p.side → man.kind ≡ King → o ≡ k
    → has steps t ≡ piece_goes p man.colour man.kind o t → has castlings t ≡ castles p p.side k t
    → has (bit_or steps castlings) t ≡ goes p p.side King k t
king_goals p man o k steps castlings t own is_king at steps_are castlings_are =
    let near = rw (own, is_king, at) at steps_are in
    rw (has_or steps castlings t, near, castlings_are) refl

-- A king goes safely where it goes and is not attacked then.
pub king_goes_safely : (p : Setup) (man : Man) (o k t : ℕ) (r : Option Kind) → man.colour ≡ p.side → man.kind ≡ King → o ≡ k → suits man t r ≡ true
    → goes_safely p man o t r ≡ (goes p p.side King k t && safe_at p k t)
king_goes_safely p man o k t None own is_king at suited =
    let same : man ≡ king p.side = λ i. record { colour = own i; kind = is_king i } in
    rw (at, same) refl
king_goes_safely p man o k t (Some r) own is_king at suited = let never = rw is_king at suited in cc

-- A king's step is asked about over the board without the king.
pub step_safe : (info : LegalityInfo) (p : Setup) (man : Man) (o steps t : ℕ) → IsLegalityInfoOf info p → t < 64
    → man.colour ≡ p.side → man.kind ≡ King → o ≡ info.king
    → has steps t ≡ piece_goes p man.colour man.kind o t → has steps t ≡ true
    → (goes p p.side King info.king t ≡ true) × (not (is_hit (moved p.men info.king t (king p.side)) t (other_side p.side)) ≡ safe_at p info.king t)
step_safe info p man o steps t h on own is_king at steps_are there =
    let k : ℕ = info.king in
    let step : piece_goes p p.side King k t ≡ true = sym (rw (own, is_king, at) at steps_are) ∙ there in
    let near = step_is_near p.men p.side k t ((and_parts (attacks_as p.men p.side King k t) (not (is_of p.side (man_at p.men t))) step).0) in
    (rw step refl, ap not (sym (in_check_stepped info p t h on near)))

either_safely : (steps castlings safe : Bool) → (castlings ≡ true → safe ≡ true) → ((steps || castlings) && safe) ≡ ((steps && safe) || castlings)
either_safely true true true h = refl
either_safely true true false h = h refl
either_safely true false true h = refl
either_safely true false false h = refl
either_safely false true true h = refl
either_safely false true false h = h refl
either_safely false false safe h = refl

-- It goes safely where a step is safe and where it castles.
pub king_goes_safely_there : (info : LegalityInfo) (p : Setup) (man : Man) (o steps castlings t : ℕ) (r : Option Kind)
    → IsLegalityInfoOf info p → t < 64
    → man.colour ≡ p.side → man.kind ≡ King → o ≡ info.king → has steps t ≡ piece_goes p man.colour man.kind o t
    → has castlings t ≡ castles p p.side info.king t
    → suits man t r ≡ true → goes_safely p man o t r ≡ ((has steps t && safe_at p info.king t) || has castlings t)
king_goes_safely_there info p man o steps castlings t r h on own is_king at steps_are castlings_are suited =
    let k : ℕ = info.king in
    let goals = king_goals p man o k steps castlings t own is_king at steps_are castlings_are in
    king_goes_safely p man o k t r own is_king at suited
    ∙ ap (λ b. b && safe_at p k t) (sym goals ∙ has_or steps castlings t)
    ∙ either_safely (has steps t) (has castlings t) (safe_at p k t) (λ e. safe_castled info p t h on (sym castlings_are ∙ e))
