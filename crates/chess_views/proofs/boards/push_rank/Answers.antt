use Rattle.std.proofs.Common.{◌∙◌, ℕ, ◌+◌, ◌*◌, ◌++◌, ◌∷◌, [], codes, flat_map, refl, sym, ap, append-nil, append_assoc, arith}
use Rattle.chess_board.specs.Characters.{char}
use Rattle.chess_board.specs.Positions.{man_at}
use Rattle.chess_views.specs.Boards.{files_from, place_letter, rank_line}
use Rattle.chess_views.proofs.Pieces.{parts_two, pieces_all, pieces_more}
use Rattle.chess_views.proofs.boards.push_rank.Goals as goal

pub loop-file-init : goal.loop-file-init
loop-file-init c =
    parts_two c.args.text.now.items _ _ _ _ ((char "1" + c.args.rank) ∷ []) (char " " ∷ []) refl refl
    c.in_ok-push.ensures.items c.in_ok-push-2.ensures.items
    ∙ sym (append-nil _)

pub loop-file-preserved : goal.loop-file-preserved
loop-file-preserved c =
    let men = c.args.position.now.men in
    let rank = c.args.rank in
    let text = c.loop-file.text.items in
    let drawn = c.place_letter.ensures ∙ ap place_letter (c.man.ensures ∙ ap (man_at men) c.numbered-square.ensures) in
    let written = parts_two text _ _ (char " " ∷ []) _ (char " " ∷ []) _ refl (ap (λ letter. letter ∷ []) drawn)
    c.in_ok-push-3.ensures.items c.in_ok-push-4.ensures.items in
    pieces_more (λ (file : ℕ). char " " ∷ place_letter (man_at men (8 * rank + file)) ∷ []) (c.args.text.now.items ++ (char "1" + rank) ∷ char " " ∷ [])
    text _ c.files_from-file-items.result c.loop-file.file-index _ 0 (omega arith) refl c.loop-file.invariant written

pub returns : goal.returns
unfolding rank_line
returns c =
    let men = c.args.position.now.men in
    let rank = c.args.rank in
    let text = c.args.text.now.items in
    let begun = (char "1" + rank) ∷ char " " ∷ [] in
    let places = λ (file : ℕ). char " " ∷ place_letter (man_at men (8 * rank + file)) ∷ [] in
    let drawn = pieces_all places (text ++ begun) c.loop-file.text.items c.files_from-file-items.result _
    c.loop-file.file-index (omega arith) c.files_from-file-items.ensures.files c.loop-file.invariant in
    parts_two (text ++ begun) _ _ _ _ (flat_map places (files_from c.args.from)) (codes "\n") refl refl drawn
    c.in_ok-push-5.ensures.items ∙ append_assoc text begun _
