-- A king that may castle is not attacked where it arrives: that its goal is not attacked before is asked of it, and neither its own
-- square, when it left it, nor the corner, when the rook left it, opens a line to its goal.
use Rattle.std.proofs.Common.{◌≡◌, ◌≢◌, ℕ, ◌<◌, Bool, true, false, not, ◌&&◌, ◌||◌, List, Option, None, Some, refl}
use Rattle.std.proofs.Common.{sym, ap, ◌∙◌, eqb, length, set, get_or-set_same, get_or-set_other, length-set, arith}
use Rattle.std.proofs.lemmas.List.{set-set, set-get_or, set_comm}
use Rattle.std.proofs.lemmas.Bool.{and_parts, eqb-true, not-true, false_from_ne_true}
use Rattle.chess_board.specs.declared.men.Colour.{Colour}
use Rattle.chess_board.specs.declared.men.Colour.TheVariants.{White, Black}
use Rattle.chess_board.specs.declared.men.Man.{Man}
use Rattle.chess_board.specs.declared.men.Wing.{Wing}
use Rattle.chess_board.specs.declared.men.Wing.TheVariants.{KingSide, QueenSide}
use Rattle.chess_board.specs.Men.{is_colour}
use Rattle.chess_board.specs.Positions.{moved, man_at}
use Rattle.chess_board.specs.Squares.{crossed, all_below}
use Rattle.chess_board.specs.Castling.{king_goal, king_home, rook_home}
use Rattle.chess_moves.specs.inside.LegalityInfo.{gets_through}
use Rattle.chess_moves.specs.inside.Directions.{toward, stands_between}
use Rattle.chess_moves.specs.inside.Hits.{is_taken, place_hits, hits_from, is_hit}
use Rattle.chess_moves.proofs.AnyLemmas.{any_none, any_at}
use Rattle.chess_moves.proofs.Placed.{attacks_placed}
use Rattle.chess_moves.proofs.LastRanks.{each}

-- an own man is lifted off the board: each attacker that got through stays
attacks_lifted : (men : List (Option Man)) (o : ℕ) (man : Man) (by : Colour) (a k : ℕ) → length men ≡ 64 → o < 64 → man_at men o ≡ Some man
    → is_colour by man.colour ≡ false → hits_from men by a k ≡ (hits_from (set men o None) by a k && gets_through a k o)
attacks_lifted men o man by a k len on there own =
    let back : set (set men o None) o (Some man) ≡ men = set-set men o None (Some man) ∙ ap (set men o) (sym there) ∙ set-get_or men o None in
    let long : length (set men o None) ≡ 64 = simp length-set len in
    ap (λ x. hits_from x by a k) (sym back) ∙ attacks_placed (set men o None) o man by a k long on own

-- in each of the four castlings: whoever attacks the goal through the king's home does so through the square that the king crosses
behind_home_tried : (c : Colour) (w : Wing) → all_below 64 (λ a. not (stands_between a (king_goal c w) (king_home c))
    || stands_between a (king_goal c w) (crossed (king_home c) (king_goal c w))) ≡ true
unfolding all_below stands_between toward
behind_home_tried White KingSide = refl
behind_home_tried White QueenSide = refl
behind_home_tried Black KingSide = refl
behind_home_tried Black QueenSide = refl

-- and nobody does through the corner
behind_corner_tried : (c : Colour) (w : Wing) → all_below 64 (λ a. not (stands_between a (king_goal c w) (rook_home c w))) ≡ true
unfolding all_below stands_between toward
behind_corner_tried White KingSide = refl
behind_corner_tried White QueenSide = refl
behind_corner_tried Black KingSide = refl
behind_corner_tried Black QueenSide = refl

record Squares (k g r v : ℕ) : Type 0 where
  k_on : k < 64
  g_on : g < 64
  r_on : r < 64
  v_on : v < 64
  k_apart : r ≢ k
  g_apart : g ≢ r

squares : (c : Colour) (w : Wing) → Squares (king_home c) (king_goal c w) (rook_home c w) (crossed (king_home c) (king_goal c w))
squares White KingSide = record {
  k_on = omega arith;
  g_on = omega arith;
  r_on = omega arith;
  v_on = omega arith;
  k_apart = λ e. omega arith;
  g_apart = λ e. omega arith;
}
squares White QueenSide = record {
  k_on = omega arith;
  g_on = omega arith;
  r_on = omega arith;
  v_on = omega arith;
  k_apart = λ e. omega arith;
  g_apart = λ e. omega arith;
}
squares Black KingSide = record {
  k_on = omega arith;
  g_on = omega arith;
  r_on = omega arith;
  v_on = omega arith;
  k_apart = λ e. omega arith;
  g_apart = λ e. omega arith;
}
squares Black QueenSide = record {
  k_on = omega arith;
  g_on = omega arith;
  r_on = omega arith;
  v_on = omega arith;
  k_apart = λ e. omega arith;
  g_apart = λ e. omega arith;
}

module _ (men : List (Option Man)) (c : Colour) (w : Wing) (king rook : Man) (by : Colour) (len : length men ≡ 64)
    (king_there : man_at men (king_home c) ≡ Some king) (rook_there : man_at men (rook_home c w) ≡ Some rook)
    (king_own : is_colour by king.colour ≡ false) (rook_own : is_colour by rook.colour ≡ false) where
  abbrev k : ℕ
  k = king_home c

  abbrev g : ℕ
  g = king_goal c w

  abbrev r : ℕ
  r = rook_home c w

  abbrev v : ℕ
  v = crossed k g

  places : Squares k g r v
  places = squares c w

  abbrev one_off : List (Option Man)
  one_off = set men k None

  abbrev both_off : List (Option Man)
  both_off = set one_off r None

  len1 : length one_off ≡ 64
  len1 = simp length-set len

  len2 : length both_off ≡ 64
  len2 = simp length-set len

  king_gone : man_at both_off k ≡ None
  king_gone = let off = places.k_apart in let l = places.k_on in let apart : k ≢ r = λ e. off (sym e) in let within : k < length men = omega arith in
      rw get_or-set_other (rw get_or-set_same refl)

  rook_gone : man_at both_off r ≡ None
  rook_gone = let l = places.r_on in let long = len1 in let within : r < length one_off = omega arith in rw get_or-set_same refl

  -- who attacks the goal over the men that are left does so before, unless he stands behind the square that the king crosses
  attacked_before : (a : ℕ) → a < 64 → hits_from both_off by a g ≡ true → stands_between a g v ≡ false → hits_from men by a g ≡ true
  attacked_before a l hit open_way =
      let not_king : eqb k a ≡ false = false_from_ne_true (eqb k a) (λ e.
      let same = eqb-true k a e in
      let none : hits_from both_off by k g ≡ false = ap (λ place. place_hits (λ s. is_taken both_off s) by place k g) king_gone in
      let is : hits_from both_off by k g ≡ true = ap (λ s. hits_from both_off by s g) same ∙ hit in cc) in
      let not_rook : eqb r a ≡ false = false_from_ne_true (eqb r a) (λ e.
      let same = eqb-true r a e in
      let none : hits_from both_off by r g ≡ false = ap (λ place. place_hits (λ s. is_taken both_off s) by place r g) rook_gone in
      let is : hits_from both_off by r g ≡ true = ap (λ s. hits_from both_off by s g) same ∙ hit in cc) in
      let home = each (λ a. not (stands_between a g k) || stands_between a g v) 64 a (behind_home_tried c w) l in
      let not_home : stands_between a g k ≡ false = first (stands_between a g k) (stands_between a g v) home open_way in
      let not_corner : stands_between a g r ≡ false =
      not-true (stands_between a g r) (each (λ a. not (stands_between a g r)) 64 a (behind_corner_tried c w) l) in
      let there : man_at one_off r ≡ Some rook = let off = places.k_apart in rw get_or-set_other rook_there in
      let without_rook = attacks_lifted one_off r rook by a g len1 places.r_on there rook_own in
      let without_king = attacks_lifted men k king by a g len places.k_on king_there king_own in
      let lifted : hits_from one_off by a g ≡ true = without_rook ∙ rw (hit, not_rook, not_corner) refl in
      without_king ∙ rw (lifted, not_king, not_home) refl
    where
      first : (x y : Bool) → (not x || y) ≡ true → y ≡ false → x ≡ false
      first true y h e = absurd (cc)
      first false y h e = refl

  pub unattacked_castled : (new_king new_rook : Man) → is_colour by new_king.colour ≡ false
      → is_colour by new_rook.colour ≡ false → is_hit men g by ≡ false
      → is_hit (moved (moved men k g new_king) r v new_rook) g by ≡ false
  unfolding is_hit
  unattacked_castled new_king new_rook king_new rook_new safe =
      let arrived : List (Option Man) = set both_off g (Some new_king) in
      let len3 : length arrived ≡ 64 = simp length-set len in
      let same : moved (moved men k g new_king) r v new_rook ≡ set arrived v (Some new_rook) =
      ap (λ x. set x v (Some new_rook)) (set_comm one_off g r (Some new_king) None places.g_apart) in
      any_none (λ a. hits_from (moved (moved men k g new_king) r v new_rook) by a g) 64 (λ a l.
      ap (λ x. hits_from x by a g) same ∙ false_from_ne_true (hits_from (set arrived v (Some new_rook)) by a g) (λ h.
      let over = and_parts (hits_from arrived by a g) (gets_through a g v)
      (sym (attacks_placed arrived v new_rook by a g len3 places.v_on rook_new) ∙ h) in
      let come = and_parts (hits_from both_off by a g) (gets_through a g g)
      (sym (attacks_placed both_off g new_king by a g len2 places.g_on king_new) ∙ over.0) in
      let open_way : stands_between a g v ≡ false = second (eqb v a) (stands_between a g v) over.1 in
      let was = attacked_before a l come.0 open_way in
      let hit = any_at (λ a. hits_from men by a g) 64 a l was in cc))
    where
      second : (x y : Bool) → not (x || y) ≡ true → y ≡ false
      second true y h = absurd (cc)
      second false true h = absurd (cc)
      second false false h = refl
