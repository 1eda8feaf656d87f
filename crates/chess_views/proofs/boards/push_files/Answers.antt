use Rattle.std.proofs.Common.{◌∙◌, ℕ, ◌+◌, ◌++◌, ◌∷◌, [], codes, flat_map, refl, sym, append-nil, append_assoc, arith}
use Rattle.chess_board.specs.Characters.{char}
use Rattle.chess_views.specs.Boards.{files_from, files_line}
use Rattle.chess_views.proofs.Pieces.{parts_two, pieces_all, pieces_more}
use Rattle.chess_views.proofs.boards.push_files.Goals as goal

pub loop-file-init : goal.loop-file-init
loop-file-init c = c.in_ok-extend_from_slice.ensures.items ∙ sym (append-nil _)

pub loop-file-preserved : goal.loop-file-preserved
loop-file-preserved c =
    let text = c.loop-file.text.items in
    let written = parts_two text _ _ (char " " ∷ []) _ (char " " ∷ []) _ refl refl c.in_ok-push.ensures.items c.in_ok-push-2.ensures.items in
    pieces_more (λ (file : ℕ). char " " ∷ (char "a" + file) ∷ []) (c.args.text.now.items ++ codes "  ") text _ c.files_from-file-items.result
    c.loop-file.file-index _ 0 (omega arith) refl c.loop-file.invariant written

pub returns : goal.returns
unfolding files_line
returns c =
    let text = c.args.text.now.items in
    let letters = λ (file : ℕ). char " " ∷ (char "a" + file) ∷ [] in
    let drawn = pieces_all letters (text ++ codes "  ") c.loop-file.text.items c.files_from-file-items.result _
    c.loop-file.file-index (omega arith) c.files_from-file-items.ensures.files c.loop-file.invariant in
    parts_two (text ++ codes "  ") _ _ _ _ (flat_map letters (files_from c.args.from)) (codes "\n") refl refl drawn
    c.in_ok-push-3.ensures.items ∙ append_assoc text (codes "  ") _
