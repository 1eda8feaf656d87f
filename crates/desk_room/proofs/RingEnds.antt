-- What stays of two ends while calls are made on them.
use Rattle.std.proofs.Common.{refl, ◌∙◌, sym}
use Rattle.room_ends.specs.Windows.{SameWindow}
use Rattle.room_ends.specs.WindowRings.{SameLine, AreEnds}
use Rattle.room_ends.specs.declared.windows.Window.{Window}
use Rattle.room_ends.specs.declared.window_ring_line.Line.{Line}

pub same_window : (w : Window) → SameWindow w w
same_window w = (((refl, refl, refl, refl), refl), ((refl, refl, refl, refl), refl), refl, refl)

pub same_line : (l : Line) → SameLine l l
same_line l = (((refl, refl, refl, refl), refl), ((refl, refl, refl, refl), refl), refl)

pub ends_stay : (w v : Window) (l m : Line) → AreEnds w l → SameWindow w v → SameLine l m → AreEnds v m
ends_stay w v l m p s t = (
  (t.0.0.0 ∙ (p.0.0 ∙ sym s.0.0.0), t.0.0.1 ∙ (p.0.1 ∙ sym s.0.0.1), t.0.0.2 ∙ (p.0.2 ∙ sym s.0.0.2), t.0.0.3 ∙ (p.0.3 ∙ sym s.0.0.3)),
  (s.1.0.0 ∙ (p.1.0 ∙ sym t.1.0.0), s.1.0.1 ∙ (p.1.1 ∙ sym t.1.0.1), s.1.0.2 ∙ (p.1.2 ∙ sym t.1.0.2), s.1.0.3 ∙ (p.1.3 ∙ sym t.1.0.3)),
)
