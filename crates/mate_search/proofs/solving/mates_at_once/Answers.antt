use Rattle.std.proofs.Common.{◌≡◌, ◌<◌, List, [], ◌∷◌, ◌++◌, length, get_or, nat_lt, refl, sym, ap, ◌∙◌, arith}
use Rattle.std.proofs.lemmas.Bool.{lt-ltb}
use Rattle.std.proofs.lemmas.List.{nil_from_length}
use Rattle.chess_board.specs.Moves.{Move}
use Rattle.chess_moves.specs.inside.Listing.{legal_moves}
use Rattle.chess_moves.specs.Verdicts.{mating_moves}
use Rattle.mate_search.specs.inside.Truth.{truth_among}
use Rattle.mate_search.specs.inside.Variation.{keys, variation}
use Rattle.mate_search.proofs.AtOnce.{keys_at_once, least_at_once, line_at_once, win_at_once}
use Rattle.mate_search.proofs.solving.mates_at_once.Goals as goal

pub returns-in-empty-clause-found : goal.returns-in-empty-clause-found
returns-in-empty-clause-found c =
    let none : length c.push_mating_moves.new.out.items ≡ 0 = omega (arith, c.in-empty.len_below, ap length c.as_slice.ensures.value) in
    sym (win_at_once c.args.position.now ∙ ap (λ (ms : List Move). nat_lt 0 (length ms))
    (sym c.push_mating_moves.ensures ∙ nil_from_length c.push_mating_moves.new.out.items none))

pub returns-in-len1-up-clause-found : goal.returns-in-len1-up-clause-found
returns-in-len1-up-clause-found c =
    let some : 0 < length (mating_moves c.args.position.now) =
    omega (arith, c.in-len1-up.len_at_least, ap length c.as_slice.ensures.value, ap length c.push_mating_moves.ensures) in
    sym (win_at_once c.args.position.now ∙ lt-ltb 0 (length (mating_moves c.args.position.now)) some)

pub returns-in-len1-up-clause-truth : goal.returns-in-len1-up-clause-truth
unfolding truth_among
returns-in-len1-up-clause-truth c = λ _ b h.
    let p = c.args.position.now in
    let some : 0 < length (mating_moves p) =
    omega (arith, c.in-len1-up.len_at_least, ap length c.as_slice.ensures.value, ap length c.push_mating_moves.ensures) in
    let least = least_at_once p b some h in
    let line = line_at_once p c.first-item.result some in
    let first = c.first-item.is ∙ ap (λ (ms : List Move). get_or ms 0 c.first-item.result) (c.as_slice.ensures.value ∙ c.push_mating_moves.ensures) in
    let found : c.push_mating_moves.new.out.items ≡ keys (legal_moves p) p 1 = c.push_mating_moves.ensures ∙ sym (keys_at_once p) in
    let played : c.push.new.self.items ≡ variation (legal_moves p) p 1 = c.push.ensures.items
    ∙ ap (λ (ms : List Move). ms ++ c.first-item.result ∷ []) c.requires.blank.1 ∙ ap (λ (m : Move). m ∷ []) first ∙ sym line in
    rw (least, ← found, ← played) refl
