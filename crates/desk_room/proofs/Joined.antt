-- What the threads of the windows bring back: one report more, and what becomes of the reports when the room has changed as it may.
use Rattle.std.proofs.Common.{◌≡◌, ℕ, ◌+◌, List, [], ◌∷◌, ◌++◌, Result, Ok, IfOk, refl, sym, ◌∙◌, subst, append_assoc}
use Rattle.room_ends.specs.Opening.{AreOpened}
use Rattle.desk_room.specs.Keepers.{IsOf, SameRoom}
use Rattle.desk_room.specs.inside.Submitters.{Reports}
use Rattle.desk_room.specs.inside.Threads.{AllFresh, AllOf, AllReport, AllSettled, IsFreshWindow, IsSettled}
use Rattle.desk_room.specs.Serving.{AreReplies}
use Rattle.mate_answers.specs.InputReplies.{IsReply}
use Rattle.text_lines.specs.declared.replies.Output.{Output}
use Rattle.room_ends.specs.declared.windows.Window.{Window}
use Rattle.room_ends.specs.declared.window_ring_line.Line.{Line}
use Rattle.desk_room.specs.declared.keepers.Keeper.{Keeper}
use Rattle.desk_room.specs.declared.serving.window_thread.Report.{Report}
use Rattle.desk_room.proofs.Opened.{of_then, of_window, opened_of}

reports_snoc : (ws : List Window) (inputs : List (List ℕ)) (rs : List Report) (w : Window) (input : List ℕ) (r : Report)
    → AllReport ws inputs rs → Reports w input r → AllReport (ws ++ w ∷ []) (inputs ++ input ∷ []) (rs ++ r ∷ [])
reports_snoc [] [] [] w input r all one = (one, tt)
reports_snoc [] [] (q ∷ qs) w input r all one = absurd all
reports_snoc [] (i ∷ is) rs w input r all one = absurd all
reports_snoc (v ∷ vs) [] rs w input r all one = absurd all
reports_snoc (v ∷ vs) (i ∷ is) [] w input r all one = absurd all
reports_snoc (v ∷ vs) (i ∷ is) (q ∷ qs) w input r all one = (all.0, reports_snoc vs is qs w input r all.1 one)

pub reports_more : (windows ws : List Window) (all inputs : List (List ℕ)) (reports rs : List Report) (w : Window) (input : List ℕ) (r : Report)
    → windows ≡ ws ++ w ∷ [] → all ≡ inputs ++ input ∷ [] → reports ≡ rs ++ r ∷ [] → AllReport ws inputs rs
    → Reports w input r → AllReport windows all reports
reports_more windows ws all inputs reports rs w input r p q s rest one = rw (p, q, s) (reports_snoc ws inputs rs w input r rest one)

pub fresh_front : (ws : List Window) (w : Window) → AllFresh (ws ++ w ∷ []) → AllFresh ws × IsFreshWindow w
fresh_front [] w all = (tt, all.0)
fresh_front (v ∷ vs) w all = let rest = fresh_front vs w all.1 in ((all.0, rest.0), rest.1)

pub of_ok : {A E : Type 0} (P : A → Type 0) (x : Result A E) (a : A) → IfOk x P → x ≡ Ok a → P a
of_ok P x a h is = rw is at h

pub opened_fresh : (ring bound n : ℕ) (ws : List Window) (ls : List Line) → AreOpened ring bound n ws ls → AllFresh ws
opened_fresh ring bound n [] ls opened = tt
opened_fresh ring bound n (w ∷ ws) [] opened = absurd opened
opened_fresh ring bound n (w ∷ ws) (l ∷ ls) opened = ((opened.0.sent, opened.0.collected), opened_fresh ring bound (n + 1) ws ls opened.1)

-- ---- the windows of a room, once all threads have joined

of_from : (ring bound : ℕ) (front ws : List Window) (k m : Keeper) (inputs : List (List ℕ)) (rs : List Report)
    → AreOpened ring bound 0 (front ++ ws) k.lines.items → SameRoom k m → AllReport ws inputs rs → AllOf m rs
of_from ring bound front ws k m inputs [] opened room all = tt
of_from ring bound front [] k m [] (r ∷ rs) opened room all = absurd all
of_from ring bound front [] k m (i ∷ is) (r ∷ rs) opened room all = absurd all
of_from ring bound front (w ∷ ws) k m [] (r ∷ rs) opened room all = absurd all
of_from ring bound front (w ∷ ws) k m (i ∷ is) (r ∷ rs) opened room all = (
  of_window w r.window m (of_then w k m (opened_of ring bound front w ws (front ++ w ∷ ws) k refl opened) room) all.0.window,
  of_from ring bound (front ++ w ∷ []) ws k m is rs
      (subst (λ l. AreOpened ring bound 0 l k.lines.items) (sym (append_assoc front (w ∷ []) ws)) opened) room all.1,
)

pub all_of : (ring bound : ℕ) (ws : List Window) (k m : Keeper) (inputs : List (List ℕ)) (rs : List Report)
    → AreOpened ring bound 0 ws k.lines.items → SameRoom k m → AllReport ws inputs rs → AllOf m rs
all_of ring bound ws k m inputs rs opened room all = of_from ring bound [] ws k m inputs rs opened room all

pub are_replies : (ring bound n : ℕ) (ws : List Window) (ls : List Line) (inputs : List (List ℕ)) (rs : List Report) (os : List Output)
    → AreOpened ring bound n ws ls → AllReport ws inputs rs → AllSettled rs os → AreReplies bound inputs os
are_replies ring bound n [] ls [] [] [] opened all settled = tt
are_replies ring bound n [] ls [] [] (o ∷ os) opened all settled = absurd settled
are_replies ring bound n [] ls [] (r ∷ rs) os opened all settled = absurd all
are_replies ring bound n [] ls (i ∷ is) rs os opened all settled = absurd all
are_replies ring bound n (w ∷ ws) [] inputs rs os opened all settled = absurd opened
are_replies ring bound n (w ∷ ws) (l ∷ ls) [] rs os opened all settled = absurd all
are_replies ring bound n (w ∷ ws) (l ∷ ls) (i ∷ is) [] os opened all settled = absurd all
are_replies ring bound n (w ∷ ws) (l ∷ ls) (i ∷ is) (r ∷ rs) [] opened all settled = absurd settled
are_replies ring bound n (w ∷ ws) (l ∷ ls) (i ∷ is) (r ∷ rs) (o ∷ os) opened all settled = (
  subst (λ d. IsReply d i o.text.items o.refused) (all.0.window.3 ∙ opened.0.default) (settled.0.reply i all.0.reply),
  are_replies ring bound (n + 1) ws ls is rs os opened.1 all.1 settled.1,
)

-- ---- settling, from the last report back

of_front : (k : Keeper) (rs : List Report) (r : Report) → AllOf k (rs ++ r ∷ []) → AllOf k rs × IsOf r.window k
of_front k [] r all = (tt, all.0)
of_front k (q ∷ qs) r all = let rest = of_front k qs r all.1 in ((all.0, rest.0), rest.1)

pub front_of : (k : Keeper) (all rs : List Report) (r : Report) → all ≡ rs ++ r ∷ [] → AllOf k all → AllOf k rs × IsOf r.window k
front_of k all rs r is of = of_front k rs r (rw is at of)

pub all_later : (k m : Keeper) (rs : List Report) → SameRoom k m → AllOf k rs → AllOf m rs
all_later k m [] room all = tt
all_later k m (r ∷ rs) room all = (of_then r.window k m all.0 room, all_later k m rs room all.1)

settled_snoc : (rs : List Report) (os : List Output) (r : Report) (o : Output) → AllSettled rs os → IsSettled r o
    → AllSettled (rs ++ r ∷ []) (os ++ o ∷ [])
settled_snoc [] [] r o all one = (one, tt)
settled_snoc [] (p ∷ ps) r o all one = absurd all
settled_snoc (q ∷ qs) [] r o all one = absurd all
settled_snoc (q ∷ qs) (p ∷ ps) r o all one = (all.0, settled_snoc qs ps r o all.1 one)

pub settled_more : (reports rs : List Report) (outputs os : List Output) (r : Report) (o : Output) → reports ≡ rs ++ r ∷ [] → outputs ≡ os ++ o ∷ []
    → AllSettled rs os → IsSettled r o → AllSettled reports outputs
settled_more reports rs outputs os r o p q all one = rw (p, q) (settled_snoc rs os r o all one)
