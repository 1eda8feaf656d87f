use Rattle.std.proofs.Common.{◌≡◌, ◌∙◌, ◌&&◌, Bool, true, false, refl, ap, rules}
use Rattle.chess_board.proofs.fens.FenPartialEq.eq.Goals as goal

turned : (h f p : Bool) → ((h && f) && p) ≡ (p && (h && f))
turned true true true = refl
turned true true false = refl
turned true false true = refl
turned true false false = refl
turned false f true = refl
turned false f false = refl

joined : (e a r h f p : Bool) → e ≡ h → a ≡ (e && f) → r ≡ (a && p) → r ≡ (p && (h && f))
joined e a r h f p x y z = z ∙ ap (λ b. b && p) (y ∙ ap (λ b. b && f) x) ∙ turned h f p

pub returns : goal.returns
returns c = search (rules, joined)
