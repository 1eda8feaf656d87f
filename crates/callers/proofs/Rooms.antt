-- A window of a room that was opened is of that room, and stays so while calls are made on either; what is settled of it.
use Rattle.std.proofs.Common.{◌≡◌, ℕ, ◌+◌, List, [], ◌∷◌, ◌++◌, length, map, get_or, slice_get, None, Some, Option, IfSome, ap, ◌∙◌, refl, sym, subst, arith}
use Rattle.chess_notation.specs.Records.{RecordValue}
use Rattle.mate_jobs.specs.declared.deliveries.Delivery.{Delivery}
use Rattle.room_ends.specs.Letters.{records}
use Rattle.room_ends.specs.declared.letters.Letter.{Letter}
use Rattle.room_ends.specs.declared.letters.Letter.TheVariants.{Record, Farewell}
use Rattle.room_ends.specs.Windows.{letters_sent, collected, default_of, SameWindow}
use Rattle.room_ends.specs.WindowRings.{AreEnds}
use Rattle.room_ends.specs.Opening.{AreOpened, IsFresh}
use Rattle.room_ends.specs.declared.windows.Window.{Window}
use Rattle.room_ends.specs.declared.window_ring_line.Line.{Line}
use Rattle.desk_room.specs.Deliveries.{asked}
use Rattle.desk_room.specs.Keepers.{IsOf, SameRoom}
use Rattle.desk_room.specs.declared.keepers.Keeper.{Keeper}

-- the window behind so many others
fresh_at : (ring bound n : ℕ) (front : List Window) (w : Window) (ls : List Line) → AreOpened ring bound n (front ++ w ∷ []) ls
    → (line : Line) × (slice_get ls (length front) ≡ Some line) × IsFresh ring bound (n + length front) w line
fresh_at ring bound n [] w [] h = absurd h
fresh_at ring bound n [] w (l ∷ ls) h = let e : n ≡ n + 0 = omega arith in (l, refl, subst (λ k. IsFresh ring bound k w l) e h.0)
fresh_at ring bound n (v ∷ front) w [] h = absurd h
fresh_at ring bound n (v ∷ front) w (l ∷ ls) h =
    let t = fresh_at ring bound (n + 1) front w ls h.1 in
    let e : n + 1 + length front ≡ n + length (v ∷ front) = omega arith in
    (t.0, t.1, subst (λ k. IsFresh ring bound k w t.0) e t.2)

-- What there is to say of the last window.
pub record IsNew (bound : ℕ) (w : Window) (k : Keeper) : Type 0 where
  pub of : IsOf w k
  pub sent : letters_sent w ≡ []
  pub collected : collected w ≡ []
  pub default : default_of w ≡ bound

pub opened_of : (ring bound : ℕ) (front : List Window) (w : Window) (all : List Window) (k : Keeper) → all ≡ front ++ w ∷ []
    → AreOpened ring bound 0 all k.lines.items → IsNew bound w k
opened_of ring bound front w all k e h =
    let t = fresh_at ring bound 0 front w k.lines.items (subst (λ ws. AreOpened ring bound 0 ws k.lines.items) e h) in
    record {
      of = (t.0, ap (slice_get k.lines.items) (t.2.number ∙ omega arith) ∙ t.1, t.2.ends);
      sent = t.2.sent;
      collected = t.2.collected;
      default = t.2.default;
    }

pub of_then : (w : Window) (k m : Keeper) → IsOf w k → SameRoom k m → IsOf w m
unfolding SameRoom
of_then w k m h f = f.0 w h

pub of_window : (w v : Window) (k : Keeper) → IsOf w k → SameWindow w v → IsOf v k
of_window w v k h s = (h.0, ap (slice_get k.lines.items) s.2 ∙ h.1, ends_stay h.0 h.2)
  where
    ends_stay : (l : Line) → AreEnds w l → AreEnds v l
    ends_stay l p = (
      (p.0.0 ∙ sym s.0.0.0, p.0.1 ∙ sym s.0.0.1, p.0.2 ∙ sym s.0.0.2, p.0.3 ∙ sym s.0.0.3),
      (s.1.0.0 ∙ p.1.0, s.1.0.1 ∙ p.1.1, s.1.0.2 ∙ p.1.2, s.1.0.3 ∙ p.1.3),
    )

-- What is so anyway is so of what was found.
pub told_anyway : {A : Type 0} (found : Option A) (P : A → Type 0) → ((x : A) → P x) → IfSome found P
told_anyway None P told = tt
told_anyway (Some x) P told = told x

-- What is settled of one record and what was collected for it.
pub settled_one : (r : RecordValue) (d : Delivery) (letters : List Letter) (got known : List Delivery) (pending left : List RecordValue)
    → letters ≡ Record r ∷ Farewell ∷ [] → got ≡ d ∷ [] → records letters ≡ (map asked (got ++ known) ++ pending) ++ left → r ≡ asked d
settled_one r d letters got known pending left sent one settled =
    let same : r ∷ [] ≡ (map asked ((d ∷ []) ++ known) ++ pending) ++ left =
    ap records (sym sent) ∙ settled ∙ ap (λ ds. (map asked (ds ++ known) ++ pending) ++ left) one in
    ap (λ rs. get_or rs 0 r) same
