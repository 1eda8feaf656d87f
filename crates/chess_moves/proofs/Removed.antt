-- A man that is hidden from the king goes: the attacks on the king stay as they were.
use Rattle.std.proofs.Common.{◌≡◌, ◌≢◌, ℕ, ◌<◌, Bool, true, false, not, ◌&&◌, ◌||◌, List, Option, None, Some, is_some}
use Rattle.std.proofs.Common.{refl, sym, ap, ◌∙◌, eqb, length, set, get_or-set_same, get_or-set_other, arith}
use Rattle.std.proofs.lemmas.Bool.{eqb-true, eqb-false, and_parts, and_from, not-true, not_from_false, false_from_ne_true, true_from_ne_false}
use Rattle.chess_board.specs.declared.men.Colour.{Colour}
use Rattle.chess_board.specs.declared.men.Kind.{Kind}
use Rattle.chess_board.specs.declared.men.Kind.TheVariants.{Pawn, Knight, Bishop, Rook, Queen, King}
use Rattle.chess_board.specs.declared.men.Man.{Man}
use Rattle.chess_board.specs.Men.{is_colour, is_of}
use Rattle.chess_board.specs.Positions.{man_at}
use Rattle.chess_moves.specs.declared.directions.Direction.{Direction}
use Rattle.chess_moves.specs.declared.directions.Direction.TheVariants.{North, NorthEast, East, SouthEast, South, SouthWest, West, NorthWest}
use Rattle.chess_moves.specs.inside.Directions.{reaches, is_blocked, toward, opposite, stands_between, is_on_diagonal}
use Rattle.chess_moves.specs.inside.Directions.{is_on_straight, reaches_as_bishop, reaches_as_rook}
use Rattle.chess_moves.specs.inside.SideMen.{is_one, is_diagonal_kind, is_straight_kind}
use Rattle.chess_moves.specs.inside.SliderLines.{IsAlone}
use Rattle.chess_moves.specs.inside.Hits.{is_taken, hits_as, place_hits, hits_from}
use Rattle.std.proofs.Math.Bool.{or-true}
use Rattle.chess_moves.proofs.Compass.{between_from, between_in}
use Rattle.chess_moves.proofs.Slides.{Blocker, blocker_of, blocked_at, reached_before}
use Rattle.chess_moves.proofs.Geometry.{toward_back}
use Rattle.chess_moves.proofs.Connectives.{same_tests, and_when}

-- what is not reached in a direction, and lies there, is blocked
hidden_by : (taken : ℕ → Bool) (d : Direction) (o k : ℕ) → reaches taken d o k ≡ false → toward d o k ≡ true → is_blocked taken d o k ≡ true
hidden_by taken d o k none line = true_from_ne_false (is_blocked taken d o k) (λ f. let seen : reaches taken d o k ≡ true = rw (line, f) in cc)

pub four_none : (p q r s : Bool) → (p || q || r || s) ≡ false → (p ≡ false) × (q ≡ false) × (r ≡ false) × (s ≡ false)
four_none true q r s h = absurd (cc)
four_none false true r s h = absurd (cc)
four_none false false true s h = absurd (cc)
four_none false false false s h = (refl, refl, refl, h)

-- fewer men block less
reached_more : (taken after : ℕ → Bool) → ((s : ℕ) → s < 64 → after s ≡ true → taken s ≡ true) → (d : Direction) (a k : ℕ)
    → reaches taken d a k ≡ true → reaches after d a k ≡ true
reached_more taken after fewer d a k h =
    let x = and_parts (toward d a k) (not (is_blocked taken d a k)) h in
    let open_line = not-true (is_blocked taken d a k) x.1 in
    and_from (toward d a k) (not (is_blocked after d a k)) x.0
    (not_from_false (is_blocked after d a k) (false_from_ne_true (is_blocked after d a k) (λ e.
    let s = blocker_of after d a k e in
    let was = blocked_at taken d a k s.square s.on_board s.behind s.before (fewer s.square s.on_board s.is_taken) in cc)))

-- at most the square o is left
pub record Leaves (taken after : ℕ → Bool) (o : ℕ) : Type 0 where
  pub stays : (s : ℕ) → s < 64 → s ≢ o → taken s ≡ true → after s ≡ true
  pub fewer : (s : ℕ) → s < 64 → after s ≡ true → taken s ≡ true

reached_same : (taken after : ℕ → Bool) (o : ℕ) → Leaves taken after o → (d : Direction) (a k : ℕ)
    → reaches taken d o k ≡ false → reaches after d a k ≡ reaches taken d a k
reached_same taken after o h d a k hidden =
    same_tests (reaches after d a k) (reaches taken d a k)
    (reached_before taken after d a k o h.stays (hidden_by taken d o k hidden)) (reached_more taken after h.fewer d a k)

-- So it is where the man that goes does not stand alone between the two.
reached_apart : (taken after : ℕ → Bool) (o : ℕ) → Leaves taken after o → (d : Direction) (a k : ℕ)
    → (toward d a k ≡ true → IsAlone taken k a o → ⊥) → reaches after d a k ≡ reaches taken d a k
reached_apart taken after o h d a k apart =
    same_tests (reaches after d a k) (reaches taken d a k) (λ r.
    let x = and_parts (toward d a k) (not (is_blocked after d a k)) r in
    let clear = not-true (is_blocked after d a k) x.1 in
    and_from (toward d a k) (not (is_blocked taken d a k)) x.0
    (not_from_false (is_blocked taken d a k) (false_from_ne_true (is_blocked taken d a k) (λ e.
    let s = blocker_of taken d a k e in
    (elim (eqb s.square o) as (λ b. eqb s.square o ≡ b → ⊥) [
      | true ↦ λ t. apart x.0 (alone s x.0 clear (eqb-true s.square o t))
      | false ↦ λ f. let hit = blocked_at after d a k s.square s.on_board s.behind s.before
          (h.stays s.square s.on_board (eqb-false s.square o f) s.is_taken) in cc
    ]) refl))))
    (reached_more taken after h.fewer d a k)
  where
    alone : (s : Blocker taken d a k) → toward d a k ≡ true → is_blocked after d a k ≡ false → s.square ≡ o → IsAlone taken k a o
    alone s line clear same = record {
      between = between_from (opposite d) k a o (and_from (toward (opposite d) k o) (toward (opposite d) o a)
          (toward_back d o k ∙ ap (λ q. toward d q k) (sym same) ∙ s.before) (toward_back d a o ∙ ap (λ q. toward d a q) (sym same) ∙ s.behind));
      there = ap taken (sym same) ∙ s.is_taken;
      others = λ q l ne. false_from_ne_true (stands_between k a q && taken q) (λ y.
          let z = and_parts (stands_between k a q) (taken q) y in
          let v = and_parts (toward (opposite d) k q) (toward (opposite d) q a) (between_in (opposite d) k a q (toward_back d a k ∙ line) z.0) in
          let hit = blocked_at after d a k q l (sym (toward_back d a q) ∙ v.1) (sym (toward_back d q k) ∙ v.0) (h.stays q l ne z.1) in cc);
    }

slants_apart : (taken after : ℕ → Bool) (o : ℕ) → Leaves taken after o → (a k : ℕ)
    → (is_on_diagonal k a ≡ true → IsAlone taken k a o → ⊥) → reaches_as_bishop after a k ≡ reaches_as_bishop taken a k
unfolding reaches_as_bishop is_on_diagonal
slants_apart taken after o h a k apart =
    let r = λ (d : Direction) (line : toward (opposite d) k a ≡ true → is_on_diagonal k a ≡ true).
    reached_apart taken after o h d a k (λ e. apart (line (toward_back d a k ∙ e))) in
    rw (
      r NorthEast (λ e. simp (e, or-true)),
      r SouthEast (λ e. simp (e, or-true)),
      r SouthWest (λ e. rw e refl),
      r NorthWest (λ e. simp (e, or-true)),
    )

straight_apart : (taken after : ℕ → Bool) (o : ℕ) → Leaves taken after o → (a k : ℕ)
    → (is_on_straight k a ≡ true → IsAlone taken k a o → ⊥) → reaches_as_rook after a k ≡ reaches_as_rook taken a k
unfolding reaches_as_rook is_on_straight
straight_apart taken after o h a k apart =
    let r = λ (d : Direction) (line : toward (opposite d) k a ≡ true → is_on_straight k a ≡ true).
    reached_apart taken after o h d a k (λ e. apart (line (toward_back d a k ∙ e))) in
    rw (r North (λ e. simp (e, or-true)), r East (λ e. simp (e, or-true)), r South (λ e. rw e refl), r West (λ e. simp (e, or-true)))

slants_left : (taken after : ℕ → Bool) (o : ℕ) → Leaves taken after o → (a k : ℕ)
    → reaches_as_bishop taken o k ≡ false → reaches_as_bishop after a k ≡ reaches_as_bishop taken a k
unfolding reaches_as_bishop
slants_left taken after o h a k hidden =
    let none = four_none (reaches taken NorthEast o k) (reaches taken SouthEast o k)
    (reaches taken SouthWest o k) (reaches taken NorthWest o k) hidden in
    let r = reached_same taken after o h in
    rw (r NorthEast a k none.0, r SouthEast a k none.1, r SouthWest a k none.2, r NorthWest a k none.3)

straight_left : (taken after : ℕ → Bool) (o : ℕ) → Leaves taken after o → (a k : ℕ)
    → reaches_as_rook taken o k ≡ false → reaches_as_rook after a k ≡ reaches_as_rook taken a k
unfolding reaches_as_rook
straight_left taken after o h a k hidden =
    let none = four_none (reaches taken North o k) (reaches taken East o k) (reaches taken South o k) (reaches taken West o k) hidden in
    let r = reached_same taken after o h in
    rw (r North a k none.0, r East a k none.1, r South a k none.2, r West a k none.3)

attacks_left : (taken after : ℕ → Bool) (o : ℕ) → Leaves taken after o → (c : Colour) (kind : Kind) (a k : ℕ)
    → reaches_as_bishop taken o k ≡ false → reaches_as_rook taken o k ≡ false → hits_as after c kind a k ≡ hits_as taken c kind a k
attacks_left taken after o h c Pawn a k hs hg = refl
attacks_left taken after o h c Knight a k hs hg = refl
attacks_left taken after o h c Bishop a k hs hg = slants_left taken after o h a k hs
attacks_left taken after o h c Rook a k hs hg = straight_left taken after o h a k hg
attacks_left taken after o h c Queen a k hs hg = rw (slants_left taken after o h a k hs, straight_left taken after o h a k hg)
attacks_left taken after o h c King a k hs hg = refl

pub place_left : (taken after : ℕ → Bool) (o : ℕ) → Leaves taken after o → (by : Colour) (place : Option Man) (a k : ℕ)
    → reaches_as_bishop taken o k ≡ false → reaches_as_rook taken o k ≡ false → place_hits after by place a k ≡ place_hits taken by place a k
place_left taken after o h by None a k hs hg = refl
place_left taken after o h by (Some man) a k hs hg = ap (λ x. is_colour by man.colour && x) (attacks_left taken after o h by man.kind a k hs hg)

attacks_apart : (taken after : ℕ → Bool) (o : ℕ) → Leaves taken after o → (c : Colour) (kind : Kind) (a k : ℕ)
    → (is_diagonal_kind kind ≡ true → is_on_diagonal k a ≡ true → IsAlone taken k a o → ⊥)
    → (is_straight_kind kind ≡ true → is_on_straight k a ≡ true → IsAlone taken k a o → ⊥) → hits_as after c kind a k ≡ hits_as taken c kind a k
attacks_apart taken after o h c Pawn a k ds gs = refl
attacks_apart taken after o h c Knight a k ds gs = refl
attacks_apart taken after o h c Bishop a k ds gs = slants_apart taken after o h a k (ds refl)
attacks_apart taken after o h c Rook a k ds gs = straight_apart taken after o h a k (gs refl)
attacks_apart taken after o h c Queen a k ds gs = rw (slants_apart taken after o h a k (ds refl), straight_apart taken after o h a k (gs refl))
attacks_apart taken after o h c King a k ds gs = refl

place_apart : (taken after : ℕ → Bool) (o : ℕ) → Leaves taken after o → (by : Colour) (place : Option Man) (a k : ℕ)
    → (is_one by is_diagonal_kind place ≡ true → is_on_diagonal k a ≡ true → IsAlone taken k a o → ⊥)
    → (is_one by is_straight_kind place ≡ true → is_on_straight k a ≡ true → IsAlone taken k a o → ⊥)
    → place_hits after by place a k ≡ place_hits taken by place a k
place_apart taken after o h by None a k ds gs = refl
place_apart taken after o h by (Some man) a k ds gs =
    and_when (is_colour by man.colour) (hits_as after by man.kind a k) (hits_as taken by man.kind a k) (λ own.
    attacks_apart taken after o h by man.kind a k (λ x. ds (and_from (is_colour by man.colour) (is_diagonal_kind man.kind) own x))
    (λ x. gs (and_from (is_colour by man.colour) (is_straight_kind man.kind) own x)))

no_attack : (taken : ℕ → Bool) (by : Colour) (place : Option Man) (a k : ℕ) → is_of by place ≡ false → place_hits taken by place a k ≡ false
no_attack taken by None a k h = refl
no_attack taken by (Some man) a k h = ap (λ x. x && hits_as taken by man.kind a k) h

-- A man goes that stands alone between the king and no slider: each attack on the king stays, and no other comes.
pub attacks_removed : (men : List (Option Man)) (king origin : ℕ) (by : Colour) (a : ℕ) → length men ≡ 64 → origin < 64 → a < 64
    → is_of by (man_at men origin) ≡ false
    → (is_one by is_diagonal_kind (man_at men a) ≡ true → is_on_diagonal king a ≡ true → IsAlone (λ s. is_taken men s) king a origin → ⊥)
    → (is_one by is_straight_kind (man_at men a) ≡ true → is_on_straight king a ≡ true → IsAlone (λ s. is_taken men s) king a origin → ⊥)
    → hits_from (set men origin None) by a king ≡ hits_from men by a king
attacks_removed men king origin by a len on l own ds gs =
    let taken : ℕ → Bool = λ s. is_taken men s in
    let after : ℕ → Bool = λ s. is_taken (set men origin None) s in
    let within : origin < length men = omega arith in
    let gone : man_at (set men origin None) origin ≡ None = get_or_gone within in
    let leaves : Leaves taken after origin = record {
      stays = λ s k ne t. ap is_some (others s ne) ∙ t;
      fewer = λ s k t. (elim (eqb s origin) as (λ b. eqb s origin ≡ b → taken s ≡ true) [
        | true ↦ λ e.
            let same = eqb-true s origin e in
            let none : after s ≡ false = ap (λ q. is_taken (set men origin None) q) same ∙ ap is_some gone in absurd (cc)
        | false ↦ λ e. sym (ap is_some (others s (eqb-false s origin e))) ∙ t
      ]) refl;
    } in
    (elim (eqb a origin) as (λ b. eqb a origin ≡ b → hits_from (set men origin None) by a king ≡ hits_from men by a king) [
      | true ↦ λ e.
          let same = eqb-true a origin e in
          let here : man_at (set men origin None) a ≡ None = ap (λ q. man_at (set men origin None) q) same ∙ gone in
          let there : is_of by (man_at men a) ≡ false = ap (λ q. is_of by (man_at men q)) same ∙ own in
          ap (λ p. place_hits after by p a king) here ∙ sym (no_attack taken by (man_at men a) a king there)
      | false ↦ λ e.
          ap (λ p. place_hits after by p a king) (others a (eqb-false a origin e))
          ∙ place_apart taken after origin leaves by (man_at men a) a king ds gs
    ]) refl
  where
    others : (s : ℕ) → s ≢ origin → man_at (set men origin None) s ≡ man_at men s
    others s ne = rw get_or-set_other refl

    get_or_gone : origin < length men → man_at (set men origin None) origin ≡ None
    get_or_gone within = rw get_or-set_same refl
