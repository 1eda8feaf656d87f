-- Rivals stand where other men of the same kind do: the moves of all others may be left out.
use Rattle.std.proofs.Common.{◌≡◌, ℕ, ◌<◌, Bool, true, false, ◌&&◌, not, cond, eqb, List, [], ◌∷◌, filter, Contains, Option, Some, None}
use Rattle.std.proofs.Common.{refl, sym, ap, ◌∙◌, arith}
use Rattle.std.specs.List.{list_any}
use Rattle.std.proofs.lemmas.Bool.{and_parts, eqb-true}
use Rattle.std.proofs.lemmas.Nat.Bits.{bit_at-zero}
use Rattle.std.proofs.lemmas.List.Elements.{Contains-append_right}
use Rattle.square_sets.specs.Members.{has}
use Rattle.chess_board.specs.declared.men.Kind.{Kind}
use Rattle.chess_board.specs.declared.men.Kind.TheVariants.{Pawn, Knight, Bishop, Rook, Queen, King}
use Rattle.chess_board.specs.declared.men.Man.{Man}
use Rattle.chess_board.specs.Men.{is_colour, is_kind, is_man}
use Rattle.chess_board.specs.Moves.{Move}
use Rattle.chess_board.specs.Placement.{kind_letter}
use Rattle.chess_board.specs.Positions.{Setup, man_at}
use Rattle.chess_moves.specs.inside.Listing.{legal_moves}
use Rattle.chess_moves.specs.Laws.{LegalListed}
use Rattle.chess_notation.specs.Disambiguation.{is_such, is_rival, some_rival}
use Rattle.chess_notation.proofs.BareTexts.{kind_same}

-- What passes the one test passes the other, so that nothing is lost where the others are left out.
pub any_kept : (f g : Move → Bool) (xs : List Move) → ((m : Move) → Contains xs m → f m ≡ true → g m ≡ true)
    → list_any f (filter g xs) ≡ list_any f xs
any_kept f g [] h = refl
any_kept f g (x ∷ xs) h =
    let rest = any_kept f g xs (λ m c. h m (Contains-append_right (x ∷ []) xs m c)) in
    let here : f x ≡ true → g x ≡ true = h x (0, omega arith, refl) in
    (elim (g x) as (λ b. g x ≡ b → list_any f (cond b (x ∷ filter g xs) (filter g xs)) ≡ list_any f (x ∷ xs)) [
      | true ↦ λ e. rw rest refl
      | false ↦ λ e. (elim (f x) as (λ b. f x ≡ b → list_any f (filter g xs) ≡ list_any f (x ∷ xs)) [
        | true ↦ λ t. let passes = here t in cc
        | false ↦ λ t. rw (t, rest) refl
      ]) refl
    ]) refl

one_kind : (kind : Kind) → is_kind kind kind ≡ true
one_kind Pawn = refl
one_kind Knight = refl
one_kind Bishop = refl
one_kind Rook = refl
one_kind Queen = refl
one_kind King = refl

such_is_man : (man : Man) (place : Option Man) → is_such man place ≡ true → is_man man.colour man.kind place ≡ true
such_is_man man None h = h
such_is_man man (Some other) h =
    let parts = and_parts (is_colour man.colour other.colour) (eqb (kind_letter man.kind) (kind_letter other.kind)) h in
    let kinds : man.kind ≡ other.kind = kind_same man.kind other.kind (eqb-true (kind_letter man.kind) (kind_letter other.kind) parts.1) in
    let kind : is_kind man.kind other.kind ≡ true = ap (is_kind man.kind) (sym kinds) ∙ one_kind man.kind in
    rw (parts.0, kind) refl

-- the squares of the other men of the kind
pub record AreOthers (others : ℕ) (p : Setup) (man : Man) (m : Move) : Type 0 where
  pub each : (s : ℕ) → s < 64 → has others s ≡ (not (eqb s m.origin) && is_man man.colour man.kind (man_at p.men s))

pub rivals_kept : LegalListed → (p : Setup) (man : Man) (m : Move) (others : ℕ) (passes : Move → Bool) → AreOthers others p man m
    → list_any (λ n. is_rival p man m n && passes n) (filter (λ n. has others n.origin) (legal_moves p))
    ≡ list_any (λ n. is_rival p man m n && passes n) (legal_moves p)
rivals_kept law p man m others passes are =
    any_kept (λ n. is_rival p man m n && passes n) (λ n. has others n.origin) (legal_moves p) (λ n c h.
    let on = (law p n).0 c in
    let rival = (and_parts (is_rival p man m n) (passes n) h).0 in
    let such = and_parts (eqb n.target m.target && not (eqb n.origin m.origin)) (is_such man (man_at p.men n.origin)) rival in
    let apart = (and_parts (eqb n.target m.target) (not (eqb n.origin m.origin)) such.0).1 in
    let there = such_is_man man (man_at p.men n.origin) such.1 in
    are.each n.origin on.0 ∙ rw (apart, there) refl)

none_pass : (g : Move → Bool) (xs : List Move) → ((m : Move) → g m ≡ false) → filter g xs ≡ []
none_pass g [] h = refl
none_pass g (x ∷ xs) h = let here = h x in let rest = none_pass g xs h in rw (here, rest) refl

-- Where no other man of the kind stands, there is no rival.
pub no_rivals : LegalListed → (p : Setup) (man : Man) (m : Move) (others : ℕ) (passes : Move → Bool) → AreOthers others p man m
    → others ≡ 0 → false ≡ some_rival p man m passes
unfolding some_rival
no_rivals law p man m others passes are none =
    let f : Move → Bool = λ n. is_rival p man m n && passes n in
    let empty : filter (λ n. has others n.origin) (legal_moves p) ≡ [] =
    none_pass (λ n. has others n.origin) (legal_moves p) (λ n. rw (none, bit_at-zero n.origin) refl) in
    sym (ap (list_any f) empty) ∙ rivals_kept law p man m others passes are
