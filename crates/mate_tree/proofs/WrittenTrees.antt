-- The tree of a mate, written part by part, and the whole reply.
use Rattle.std.proofs.Common.{◌≡◌, ◌∙◌, ℕ, ◌-◌, ◌++◌, List, [], Option, Some, None, Result, Ok, Err, IfErr, OnOk, true}
use Rattle.std.proofs.Common.{refl, sym, ap, subst, append_assoc, append-nil}
use Rattle.std.specs.Prelude.{if◌then◌else◌, ⊤}
use Rattle.std.specs.Io.KnownBytes.{Appends}
use Rattle.byte_streams.specs.declared.stops.Stop.{Stop}
use Rattle.byte_streams.specs.declared.stops.Stop.TheVariants as stop
use Rattle.chess_board.specs.Positions.{Setup}
use Rattle.chess_board.specs.Moves.{Move}
use Rattle.chess_problems.specs.Problems.{ProblemValue}
use Rattle.chess_problems.specs.declared.outcomes.Outcome.{Outcome}
use Rattle.chess_notation.specs.Records.{RecordValue, problem_of}
use Rattle.chess_notation.specs.Answers.{answer_text}
use Rattle.mate_search.specs.inside.Truth.{truth}
use Rattle.text_lines.specs.Writers.{BreaksOff}
use Rattle.mate_tree.specs.declared.forms.Form.{Form}
use Rattle.mate_tree.specs.Forms.{moves_shown}
use Rattle.mate_tree.specs.Lines.{line}
use Rattle.mate_tree.specs.Keys.{key_lines}
use Rattle.mate_tree.specs.SetPlay.{set_play}
use Rattle.mate_tree.specs.Tries.{tries}
use Rattle.mate_tree.specs.Layouts.{column_text}
use Rattle.mate_tree.specs.Trees.{mate_lines, printed, shown_lines, tree_lines}
use Rattle.mate_tree.specs.TreeReplies.{tree_reply}
use Rattle.mate_tree.specs.declared.writers.TreeWriter.{TreeWriter}
use Rattle.mate_tree.specs.inside.Replies.{IsJust}
use Rattle.mate_tree.specs.inside.Sheets.{Goes, GoesBy, SheetValue, behind, closing, room_for, said}
use Rattle.mate_tree.specs.inside.Writers.{Adds, AddsPlain, Brings, Finishes, Stays}
use Rattle.mate_tree.proofs.AddedLines.{adds_as, adds_more, brings_on}
use Rattle.mate_tree.proofs.Steps.{by_as, by_on}
use Rattle.mate_tree.proofs.LaidOutLines.{column_is, printed_is}

pub mate_written : {D : Type 0} {contents : D → Option (List ℕ)} {s t u v : TreeWriter D} (form : Form) (q : ProblemValue) (p : Setup) (n shown : ℕ)
    (keys : List Move) → p ≡ q.position → shown ≡ moves_shown form.moves n - 1
    → Adds contents s t (if form.set_play then set_play form.column (n - 1) p else [])
    → Adds contents t u (key_lines form.defences shown n p keys)
    → Adds contents u v (if form.tries then tries form.column (n - 1) q.position q.avoid else [])
    → Adds contents s v (mate_lines form q n keys)
mate_written form q p n shown keys at is first second third =
    let keyed = ap (λ r. key_lines form.defences shown n r keys) at ∙ ap (λ d. key_lines form.defences d n q.position keys) is in
    adds_more (adds_more (adds_as (ap (λ r. if form.set_play then set_play form.column (n - 1) r else []) at) first) (adds_as keyed second)) third

-- what is written on a fresh sheet, by another word for it
fresh_goes : (form : Form) (end : Option Stop) (a d : Option (List ℕ)) (s : SheetValue) (x y : List ℕ) → x ≡ y
    → s ≡ record { pending = []; room = room_for form; stop = None } → GoesBy s.stop end a s.pending d [] x ⊤ → GoesBy None end a [] d [] y ⊤
fresh_goes form end a d s x y same fresh goes =
    by_as None end a d [] [] x y ⊤ ⊤ same (λ _. tt)
    (subst (λ i. GoesBy i end a [] d [] x ⊤) (ap (λ (v : SheetValue). v.stop) fresh)
    (subst (λ p. GoesBy s.stop end a p d [] x ⊤) (ap (λ (v : SheetValue). v.pending) fresh) goes))

-- the answer, the tree, and the empty line
reply_goes : {D : Type 0} {contents : D → Option (List ℕ)} {s t u : TreeWriter D} (form : Form) (r : RecordValue) (o : Outcome) (answer last : List ℕ)
    (end : Option Stop) (d : Option (List ℕ)) → o ≡ truth (problem_of r) → answer ≡ line (answer_text r o)
    → s.sheet ≡ record { pending = []; room = room_for form; stop = None }
    → AddsPlain contents s t answer → Adds contents t u (tree_lines form (problem_of r) o) → last ≡ closing u.sheet.room
    → GoesBy u.sheet.stop end (contents u.out.now) u.sheet.pending d [] last ⊤
    → GoesBy None end (contents s.out.now) [] d [] (tree_reply form r) ⊤
reply_goes {D} {contents} {s} {t} {u} form r o answer last end d told answered fresh first tree closes finish =
    let lines = tree_lines form (problem_of r) o in
    let room = behind s.sheet.room lines in
    let text = answer ++ said s.sheet.room lines in
    let head : Brings contents s u text room = brings_on (λ q. said q lines) (λ q. behind q lines) first.brings tree.brings in
    let all = by_on s.sheet.stop u.sheet.stop end (contents s.out.now) (contents u.out.now) d s.sheet.pending u.sheet.pending []
    text last (closing room) (u.sheet.room ≡ room) ⊤ ⊤ (λ same. (closes ∙ ap closing same, λ _. tt)) head.goes finish in
    let shown : said s.sheet.room lines ++ closing room ≡ printed form lines ++ line [] =
    ap (λ (v : SheetValue). said v.room lines ++ closing (behind v.room lines)) fresh ∙ printed_is form lines in
    let whole : text ++ closing room ≡ tree_reply form r =
    append_assoc answer (said s.sheet.room lines) (closing room) ∙ ap (λ x. answer ++ x) shown
    ∙ sym (append_assoc answer (printed form lines) (line []))
    ∙ ap (λ x. x ++ printed form lines ++ line []) answered
    ∙ ap (λ x. line (answer_text r x) ++ printed form (tree_lines form (problem_of r) x) ++ line []) told in
    fresh_goes form end (contents s.out.now) d s.sheet (text ++ closing room) (tree_reply form r) whole fresh all

pub whole_appends : (old new : Option (List ℕ)) (text : List ℕ) → GoesBy None None old [] new [] text ⊤ → Appends old new text
whole_appends old new text (a, gone, is, on) = subst (Appends old new) (sym (is ∙ append-nil gone)) on

pub part_breaks : (old new : Option (List ℕ)) (text : List ℕ) (s : Stop) → GoesBy None (Some s) old [] new [] text ⊤
    → BreaksOff (IsJust text 0) old new s
part_breaks old new text stop.NoMemory (broken, part) = cc
part_breaks old new text stop.Unreadable (broken, part) = cc
part_breaks old new text stop.Unwritable (broken, part) = (text, 0, (refl, refl), part)
part_breaks old new text stop.NoReader (broken, part) = (text, 0, (refl, refl), part)

-- ---- what has come of it where the reply is finished

module _ {D : Type 0} {contents : D → Option (List ℕ)} {s t u v : TreeWriter D} (form : Form) (r : RecordValue) (o : Outcome) (answer last : List ℕ) where
  pub finished_ok : {X E : Type 0} (end : Result X E) → o ≡ truth (problem_of r) → answer ≡ line (answer_text r o)
      → s.sheet ≡ record { pending = []; room = room_for form; stop = None }
      → AddsPlain contents s t answer → Adds contents t u (tree_lines form (problem_of r) o) → last ≡ closing u.sheet.room
      → Stays u v → OnOk end (Finishes contents u v None last) → OnOk end (Appends (contents s.out.now) (contents v.out.now) (tree_reply form r))
  finished_ok (Ok x) told answered fresh first tree closes stays finish =
      whole_appends (contents s.out.now) (contents v.out.now) (tree_reply form r)
      (reply_goes form r o answer last None (contents v.out.now) told answered fresh first tree closes finish)
  finished_ok (Err e) told answered fresh first tree closes stays finish = tt

  pub finished_err : {X : Type 0} (end : Result X Stop) → o ≡ truth (problem_of r) → answer ≡ line (answer_text r o)
      → s.sheet ≡ record { pending = []; room = room_for form; stop = None }
      → AddsPlain contents s t answer → Adds contents t u (tree_lines form (problem_of r) o) → last ≡ closing u.sheet.room
      → Stays u v → IfErr end (λ why. Finishes contents u v (Some why) last)
      → IfErr end (BreaksOff (IsJust (tree_reply form r) 0) (contents s.out.now) (contents v.out.now))
  finished_err (Ok x) told answered fresh first tree closes stays finish = tt
  finished_err (Err why) told answered fresh first tree closes stays finish =
      part_breaks (contents s.out.now) (contents v.out.now) (tree_reply form r) why
      (reply_goes form r o answer last (Some why) (contents v.out.now) told answered fresh first tree closes finish)

-- lines in a column behind a text
pub column_added : (form : Form) (ls : List (List ℕ)) (old new : List ℕ) (c : Option (List ℕ)) (s u : SheetValue) → form.column ≡ true
    → s ≡ record { pending = []; room = room_for form; stop = None } → Goes (Some old) s c u (said s.room ls) (behind s.room ls)
    → GoesBy u.stop None c u.pending (Some new) [] [] ⊤ → new ≡ old ++ column_text (shown_lines form ls)
column_added form ls old new c s u column fresh tree finish =
    let all = by_on s.stop u.stop None (Some old) c (Some new) s.pending u.pending [] (said s.room ls) [] [] (u.room ≡ behind s.room ls) ⊤ ⊤
    (λ _. (refl, λ _. tt)) tree finish in
    whole_appends (Some old) (Some new) (column_text (shown_lines form ls))
    (fresh_goes form None (Some old) (Some new) s (said s.room ls ++ []) (column_text (shown_lines form ls))
    (append-nil (said s.room ls) ∙ ap (λ (v : SheetValue). said v.room ls) fresh ∙ column_is form ls column) fresh all)
