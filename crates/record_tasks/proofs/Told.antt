-- The reply to a line that says a record which is told with its tree.
use Rattle.std.proofs.Common.{◌≡◌, ◌∙◌, ℕ, List, ap, refl, subst, sym, true, false}
use Rattle.std.proofs.Math.Logic.{∥∥₁_elim}
use Rattle.std.specs.Coded.{Coded-set, coded_list, coded_ℕ, ×_prop}
use Rattle.chess_notation.specs.EpdFaults.{HasNoFault}
use Rattle.chess_notation.specs.RecordLaws.{RecordsClear, SaysOne}
use Rattle.chess_notation.specs.Records.{RecordValue, Reads}
use Rattle.chess_notation.specs.Words.{is_blank}
use Rattle.mate_tree.specs.TreeReplies.{IsTreeReply, answered, refused, skipped, tree_reply}
use Rattle.mate_tree.specs.declared.forms.Form.{Form}
use Rattle.record_tasks.specs.SolveTasks.{SaysRecord}

-- The reply to a line is its answer with the tree, if it says a record.
reply_tells : RecordsClear → SaysOne → (form : Form) (default number : ℕ) (line text : List ℕ) (n : ℕ) → is_blank line ≡ false
    → (r : RecordValue) → Reads line default r → IsTreeReply form default number line text n → (text ≡ tree_reply form r) × (n ≡ 0)
unfolding HasNoFault
reply_tells clear one form default number line text n filled r reads (skipped blank) = let no : false ≡ true = sym filled ∙ blank in cc
reply_tells clear one form default number line text n filled r reads (refused fault other is) = absurd (clear line default r reads fault is.applies)
reply_tells clear one form default number line text n filled r reads (answered s other says) =
    (ap (tree_reply form) (one line default s r says reads), refl)

-- So somebody's answer to a line that says a record is the reply to it.
pub told_joins : RecordsClear → SaysOne → (form : Form) (default number : ℕ) (line text : List ℕ) (n : ℕ) → is_blank line ≡ false
    → SaysRecord default line → ∥ IsTreeReply form default number line text n ∥₁ → IsTreeReply form default number line text n
told_joins clear one form default number line text n filled (r, reads) merely =
    let both : (text ≡ tree_reply form r) × (n ≡ 0) = ∥∥₁_elim merely (×_prop (Coded-set (coded_list coded_ℕ) _ _) (Coded-set coded_ℕ _ _))
    (reply_tells clear one form default number line text n filled r reads) in
    rw (both.0, both.1) (answered r filled reads)

pub same_trees : (form other : Form) (default bound : ℕ) → default ≡ bound → form ≡ other → (number : ℕ) (line text : List ℕ) (n : ℕ)
    → IsTreeReply other bound number line text n → IsTreeReply form default number line text n
same_trees form other default bound is same number line text n reply =
    subst (λ f. IsTreeReply f default number line text n) (sym same) (subst (λ d. IsTreeReply other d number line text n) (sym is) reply)

-- Forms that are the same in all their parts are the same.
pub same_form : (a b : Form) → a.moves ≡ b.moves → a.defences ≡ b.defences → a.set_play ≡ b.set_play → a.tries ≡ b.tries → a.lines ≡ b.lines → a.column ≡ b.column → a.pieces ≡ b.pieces → a ≡ b
same_form a b m0 d1 s2 t3 l4 c5 p6 =
    ap (λ x. record { moves = x; defences = a.defences; set_play = a.set_play; tries = a.tries; lines = a.lines; column = a.column; pieces = a.pieces }) m0
    ∙ ap (λ x. record { moves = b.moves; defences = x; set_play = a.set_play; tries = a.tries; lines = a.lines; column = a.column; pieces = a.pieces }) d1
    ∙ ap (λ x. record { moves = b.moves; defences = b.defences; set_play = x; tries = a.tries; lines = a.lines; column = a.column; pieces = a.pieces }) s2
    ∙ ap (λ x. record { moves = b.moves; defences = b.defences; set_play = b.set_play; tries = x; lines = a.lines; column = a.column; pieces = a.pieces }) t3
    ∙ ap (λ x. record { moves = b.moves; defences = b.defences; set_play = b.set_play; tries = b.tries; lines = x; column = a.column; pieces = a.pieces }) l4
    ∙ ap (λ x. record { moves = b.moves; defences = b.defences; set_play = b.set_play; tries = b.tries; lines = b.lines; column = x; pieces = a.pieces }) c5
    ∙ ap (λ x. record { moves = b.moves; defences = b.defences; set_play = b.set_play; tries = b.tries; lines = b.lines; column = b.column; pieces = x }) p6
