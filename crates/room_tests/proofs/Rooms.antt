-- A window of a room that was opened is of that room, and stays so while calls are made on either.
use Rattle.std.proofs.Common.{◌≡◌, ℕ, ◌+◌, List, [], ◌∷◌, ◌++◌, length, slice_get, Some, refl, ap, ◌∙◌, sym, subst, arith}
use Rattle.room_ends.specs.Windows.{number_of, SameWindow}
use Rattle.room_ends.specs.WindowRings.{AreEnds}
use Rattle.desk_room.specs.Keepers.{IsOf, SameRoom}
use Rattle.room_ends.specs.Opening.{AreOpened}
use Rattle.room_ends.specs.declared.windows.Window.{Window}
use Rattle.room_ends.specs.declared.window_ring_line.Line.{Line}
use Rattle.desk_room.specs.declared.keepers.Keeper.{Keeper}

pub room_same : (k : Keeper) → SameRoom k k
unfolding SameRoom
room_same k = ((λ w h. h), refl)

pub room_then : (k l m : Keeper) → SameRoom k l → SameRoom l m → SameRoom k m
unfolding SameRoom
room_then k l m f g = ((λ w h. g.0 w (f.0 w h)), g.1 ∙ f.1)

pub of_then : (w : Window) (k m : Keeper) → IsOf w k → SameRoom k m → IsOf w m
unfolding SameRoom
of_then w k m h f = f.0 w h

pub of_window : (w v : Window) (k : Keeper) → IsOf w k → SameWindow w v → IsOf v k
of_window w v k h s = (h.0, ap (slice_get k.lines.items) s.2 ∙ h.1, ends_stay h.0 h.2)
  where
    ends_stay : (l : Line) → AreEnds w l → AreEnds v l
    ends_stay l p = (
      (p.0.0 ∙ sym s.0.0.0, p.0.1 ∙ sym s.0.0.1, p.0.2 ∙ sym s.0.0.2, p.0.3 ∙ sym s.0.0.3),
      (s.1.0.0 ∙ p.1.0, s.1.0.1 ∙ p.1.1, s.1.0.2 ∙ p.1.2, s.1.0.3 ∙ p.1.3),
    )

-- the window behind so many others
opened_at : (ring bound n : ℕ) (front : List Window) (w : Window) (back : List Window) (ls : List Line)
    → AreOpened ring bound n (front ++ w ∷ back) ls
    → (line : Line) × (slice_get ls (length front) ≡ Some line) × AreEnds w line × (number_of w ≡ n + length front)
opened_at ring bound n [] w back [] h = absurd h
opened_at ring bound n [] w back (l ∷ ls) h = (l, refl, h.0.ends, h.0.number ∙ omega arith)
opened_at ring bound n (v ∷ front) w back [] h = absurd h
opened_at ring bound n (v ∷ front) w back (l ∷ ls) h = let t = opened_at ring bound (n + 1) front w back ls h.1 in (t.0, t.1, t.2, t.3 ∙ omega arith)

pub opened_of : (ring bound : ℕ) (front : List Window) (w : Window) (back all : List Window) (k : Keeper)
    → all ≡ front ++ w ∷ back → AreOpened ring bound 0 all k.lines.items → IsOf w k
opened_of ring bound front w back all k e h =
    let t = opened_at ring bound 0 front w back k.lines.items (subst (λ ws. AreOpened ring bound 0 ws k.lines.items) e h) in
    (t.0, ap (slice_get k.lines.items) (t.3 ∙ omega arith) ∙ t.1, t.2)
