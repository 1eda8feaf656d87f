-- A sound position stays sound after a legal move.
use Rattle.std.proofs.Common.{◌≡◌, ◌<◌, true, false, not, ◌&&◌, Some, None, refl, sym, ap}
use Rattle.std.proofs.lemmas.Bool.{and_parts, and_from, not-true}
use Rattle.chess_board.specs.declared.men.Colour.{Colour}
use Rattle.chess_board.specs.declared.men.Kind.{Kind}
use Rattle.chess_board.specs.declared.men.Man.{Man}
use Rattle.chess_board.specs.Moves.{Move}
use Rattle.chess_board.specs.Positions.{Setup, man_at}
use Rattle.chess_board.specs.Men.{other_side, is_colour}
use Rattle.chess_board.specs.Attacks.{is_in_check}
use Rattle.chess_board.specs.Soundness.{IsSound}
use Rattle.chess_board.specs.PseudoLegal.{goes, suits, man_may, is_pseudo_legal}
use Rattle.chess_board.specs.MakeMove.{men_after, after_man, after_setup}
use Rattle.chess_board.specs.Legality.{is_safe, is_legal}
use Rattle.chess_board.specs.Laws.{LegalReads, SoundAfter}
use Rattle.chess_board.proofs.Colours.{colour_same}
use Rattle.chess_board.proofs.Movers.{a_man, Mover, other_twice}
use Rattle.chess_board.proofs.MoveShapes.{shape_of}
use Rattle.chess_board.proofs.AfterCounts.{long_after, kings_after, few_after}
use Rattle.chess_board.proofs.AfterPawns.{pawns_after}
use Rattle.chess_board.proofs.AfterRights.{rights_kept}
use Rattle.chess_board.proofs.AfterTargets.{target_kept}

-- The parts of soundness, one by one; the last is what legality says beyond the rules for each kind of man.
mover_sound : (p : Setup) (colour : Colour) (kind : Kind) (m : Move) → Mover p colour kind m
    → is_in_check (men_after p (a_man colour kind) m) colour ≡ false →
    IsSound (after_man p (Some (a_man colour kind)) m)
mover_sound p colour kind m h safe =
    let sh = shape_of p colour kind m h in
    let side : other_side p.side ≡ other_side colour = ap other_side h.side in
    record {
      squares = long_after p colour kind m h sh;
      kings = kings_after p colour kind m h sh;
      pawns = pawns_after p colour kind m h sh;
      few = few_after p colour kind m h sh;
      rights = rights_kept p colour kind m h.sound sh;
      target = rw side (target_kept p colour kind m h sh);
      safe = rw (side, other_twice colour) safe;
    }

-- What legality says once the man is known.
legal_parts : (p : Setup) (m : Move) (man : Man) → man_at p.men m.origin ≡ Some man → is_legal p m ≡ true →
    (is_colour man.colour p.side ≡ true) × (suits man m.target m.promotion ≡ true)
    × (goes p man.colour man.kind m.origin m.target ≡ true) × (is_in_check (men_after p man m) p.side ≡ false)
unfolding is_legal is_pseudo_legal is_safe after_setup
legal_parts p m man there legal =
    let q = and_parts (is_pseudo_legal p m) (is_safe p m) legal in
    let may : man_may p (man_at p.men m.origin) m ≡ true = q.0 in
    let may' = rw there at may in
    let f = and_parts (is_colour man.colour p.side && suits man m.target m.promotion) (goes p man.colour man.kind m.origin m.target) may' in
    let g = and_parts (is_colour man.colour p.side) (suits man m.target m.promotion) f.0 in
    let safe : is_in_check (after_man p (man_at p.men m.origin) m).men p.side ≡ false =
    not-true (is_in_check (after_man p (man_at p.men m.origin) m).men p.side) q.1 in
    (g.0, g.1, f.1, rw there at safe)

pub sound_legal : (p : Setup) (m : Move) (man : Man) → IsSound p → man_at p.men m.origin ≡ Some man → m.origin < 64
    → m.target < 64 → is_legal p m ≡ true → IsSound (after_man p (Some man) m)
sound_legal p m man sound there a_on b_on legal =
    let q = legal_parts p m man there legal in
    let side : p.side ≡ man.colour = sym (colour_same man.colour p.side q.0) in
    mover_sound p man.colour man.kind m
    (record { sound = sound; side = side; there = there; a_on = a_on; b_on = b_on; suit = q.1; goes = q.2 }) (rw side at q.3)

-- From an empty square nothing moves legally.
pub legal_man : (p : Setup) (m : Move) → is_legal p m ≡ true → man_at p.men m.origin ≡ None → ⊥
unfolding is_legal is_pseudo_legal
legal_man p m legal none =
    let q = and_parts (is_pseudo_legal p m) (is_safe p m) legal in
    let may : man_may p (man_at p.men m.origin) m ≡ true = q.0 in
    let may' = rw none at may in cc

-- The laws.
pub sound_after : SoundAfter
unfolding after_setup
sound_after p m sound a_on b_on legal =
    (elim (man_at p.men m.origin) as (λ place. man_at p.men m.origin ≡ place → IsSound (after_man p place m)) [
      | None ↦ λ e. absurd (legal_man p m legal e)
      | Some man ↦ λ e. sound_legal p m man sound e a_on b_on legal
    ]) refl

pub legal_reads : LegalReads
unfolding is_legal is_safe
legal_reads p m =
    let check = is_in_check (after_setup p m).men p.side in (
      (λ h. let q = and_parts (is_pseudo_legal p m) (not check) h in (q.0, not-true check q.1)),
      (λ w. and_from (is_pseudo_legal p m) (not check) w.0 (let e = w.1 in rw e refl)),
    )
